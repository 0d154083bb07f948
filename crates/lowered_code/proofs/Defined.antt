-- Trees that break no rule call functions that are defined alone. So they are typed too where each function without a body gives what no call can ask for.
use Rattle.std.proofs.Common.{◌≡◌, ℕ, zero, suc, ◌+◌, ◌^◌, sym, Bool, true, false, List, [], ◌∷◌, map, Option, Some, None, refl, ◌∙◌}
use Rattle.std.specs.Prelude.{is_some, slice_get, if◌then◌else◌}
use Rattle.std.proofs.lemmas.Bool.{false≢true}
use Rattle.c_types.specs.Integers.{bytes}
use Rattle.core_tree.specs.declared.functions.PassedType.{PassedType}
use Rattle.core_tree.specs.declared.functions.PassedType.TheVariants as passed
use Rattle.core_tree.specs.Trees.{Place, variable_at, object_at, literal_at, pointed, arrow, member, element, subscript, Expression, constant, read, convert, sign, is_zero, arithmetic, compare, logical, choice, assign, update, step, comma, assertion, assumption, draw, part, discard, discard_structure, call, function_name, size_of_value, size_of_structure, address, sum, distance, relation, pointer_update, pointer_step, allocate, allocate_zeroed, release, exit, abort, Structure, copy, choose, put, follow, section, list, string, give, Parts, no_part, number_part, structure_part, Arguments, no_argument, number_argument, structure_argument, Statement, block, if_then, if_else, evaluate, returns, returns_structure, returns_nothing, for_loop, do_loop, switch, breaks, continues, jumps, stray, Items, done, declares, initializes, initializes_structure, does, label, case_at, default_at, Procedure}
use Rattle.core_tree.specs.Typed.{Signature, Sizes, object_size, is_size, has_address, signature, size_of, given_as, gives_this, parameters_of, is_place, is_typed, is_structure, are_parts, are_arguments, is_typed_part, is_test, is_typed_statement, are_typed_items}
use Rattle.c_profile.specs.Rules.{Breach, breach, earlier, is_defined, call_breach, place_breach, expression_breach, structure_breach, parts_breach, arguments_breach, part_breach, labels_from, statement_breach, items_breach}
use Rattle.lowered_code.proofs.RegisterTypes.{both, left_of, right_of}

pub first_none : (a b : Option Breach) → earlier a b ≡ None → a ≡ None
first_none None b h = refl
first_none (Some a) None h = absurd (cc)
first_none (Some a) (Some b) h = absurd (cc)

pub second_none : (a b : Option Breach) → earlier a b ≡ None → b ≡ None
second_none None b h = h
second_none (Some a) None h = refl
second_none (Some a) (Some b) h = absurd (cc)

-- what a function gives and takes, where it has a body; else it gives more than a tree can ask for
abbrev pub callable_by : Option Statement → Procedure → Signature
callable_by None p = record { gives = Some (passed.Structure (2 ^ 31)); parameters = p.parameters }
callable_by (Some s) p = signature p

abbrev pub callable : Procedure → Signature
callable p = callable_by p.body p

pub callable_is : (body : Option Statement) (p : Procedure) → is_some body ≡ true → callable_by body p ≡ signature p
callable_is None p h = absurd (false≢true h)
callable_is (Some s) p h = refl

same_signature : (functions : List Procedure) (f : ℕ) → is_defined (slice_get functions f) ≡ true → slice_get (map callable functions) f ≡ slice_get (map signature functions) f
same_signature [] f h = refl
same_signature (p ∷ functions) zero h = λ i. Some (callable_is p.body p h i)
same_signature (p ∷ functions) (suc f) h = same_signature functions f h

called : (functions : List Procedure) (line f : ℕ) → call_breach functions line f ≡ None → is_defined (slice_get functions f) ≡ true
called functions line f h = by (is_defined (slice_get functions f)) h
  where
    by : (z : Bool) → (if z then None else Some (breach line 2)) ≡ None → z ≡ true
    by true h = refl
    by false h = absurd (cc)

module _ (functions : List Procedure) (variables : List ℕ) (homes : List (Option ℕ)) (objects : List ℕ) (literals : ℕ) (gives : Option PassedType) (allowed : Bool) where
  abbrev pub named : Sizes
  named = record { variables = variables; homes = homes; objects = objects; literals = literals; functions = map signature functions; gives = gives; pointers = allowed }

  abbrev pub defined_only : Sizes
  defined_only = record { variables = variables; homes = homes; objects = objects; literals = literals; functions = map callable functions; gives = gives; pointers = allowed }

  -- the object in which a place lies is the same one
  same_object : (x : Place) → object_size named x ≡ object_size defined_only x
  same_object (variable_at line v offset) = refl
  same_object (object_at line k offset) = refl
  same_object (literal_at line k) = refl
  same_object (pointed line e) = refl
  same_object (arrow line e offset) = refl
  same_object (member line x offset) = same_object x
  same_object (element line x e size whole swapped) = same_object x
  same_object (subscript line a e size swapped) = refl

  -- and so it has an address or none
  same_address : (x : Place) → has_address named x ≡ has_address defined_only x
  same_address (variable_at line v offset) = refl
  same_address (object_at line k offset) = refl
  same_address (literal_at line k) = refl
  same_address (pointed line e) = refl
  same_address (arrow line e offset) = refl
  same_address (member line x offset) = same_address x
  same_address (element line x e size whole swapped) = same_address x
  same_address (subscript line a e size swapped) = refl

  mutual
    pub place_defined : (n : ℕ) (x : Place) → is_place named n x ≡ true → place_breach functions x ≡ None → is_place defined_only n x ≡ true
    place_defined n (variable_at line v offset) h clean = h
    place_defined n (object_at line k offset) h clean = h
    place_defined n (literal_at line k) h clean = h
    place_defined n (pointed line e) h clean = both _ _ (left_of _ _ h) (expression_defined e (right_of _ _ h) clean)
    place_defined n (arrow line e offset) h clean = both _ _ (left_of _ _ h) (expression_defined e (right_of _ _ h) clean)
    place_defined n (member line x offset) h clean = both _ _ (left_of _ _ h) (place_defined (offset + n) x (right_of _ _ h) clean)
    place_defined n (element line x e size whole swapped) h clean =
        let inner = left_of _ _ h in
        let index = left_of _ _ inner in
        let known = left_of _ _ index in
        let whole_is : is_size (object_size defined_only x) whole ≡ true = (λ i. is_size (sym (same_object x) i) whole) ∙ right_of _ _ known in
        both _ _ (both _ _ (both _ _ (both _ _ (left_of _ _ known) whole_is) (right_of _ _ index)) (place_defined 0 x (right_of _ _ inner) (first_none _ _ clean))) (expression_defined e (right_of _ _ h) (second_none _ _ clean))
    place_defined n (subscript line a e size swapped) h clean =
        both _ _ (both _ _ (left_of _ _ (left_of _ _ h)) (expression_defined a (right_of _ _ (left_of _ _ h)) (first_none _ _ clean))) (expression_defined e (right_of _ _ h) (second_none _ _ clean))

    pub expression_defined : (e : Expression) → is_typed named e ≡ true → expression_breach functions e ≡ None → is_typed defined_only e ≡ true
    expression_defined (constant line t bits) h clean = h
    expression_defined (read t x) h clean = place_defined (bytes t) x h clean
    expression_defined (convert to e) h clean = both _ _ (left_of _ _ h) (expression_defined e (right_of _ _ h) clean)
    expression_defined (sign line op e) h clean = both _ _ (left_of _ _ h) (expression_defined e (right_of _ _ h) clean)
    expression_defined (is_zero line e) h clean = both _ _ (left_of _ _ h) (expression_defined e (right_of _ _ h) clean)
    expression_defined (arithmetic line op a b) h clean =
        both _ _ (both _ _ (left_of _ _ (left_of _ _ h)) (expression_defined a (right_of _ _ (left_of _ _ h)) (first_none _ _ clean))) (expression_defined b (right_of _ _ h) (second_none _ _ clean))
    expression_defined (compare line op a b) h clean =
        both _ _ (both _ _ (left_of _ _ (left_of _ _ h)) (expression_defined a (right_of _ _ (left_of _ _ h)) (first_none _ _ clean))) (expression_defined b (right_of _ _ h) (second_none _ _ clean))
    expression_defined (logical line op a b) h clean =
        both _ _ (both _ _ (left_of _ _ (left_of _ _ h)) (expression_defined a (right_of _ _ (left_of _ _ h)) (first_none _ _ clean))) (expression_defined b (right_of _ _ h) (second_none _ _ clean))
    expression_defined (choice line test a b) h clean =
        let some = left_of _ _ h in
        let most = left_of _ _ some in
        let others = second_none _ _ clean in
        both _ _ (both _ _ (both _ _ (left_of _ _ most) (expression_defined test (right_of _ _ most) (first_none _ _ clean))) (expression_defined a (right_of _ _ some) (first_none _ _ others))) (expression_defined b (right_of _ _ h) (second_none _ _ others))
    expression_defined (assign line t x e) h clean =
        both _ _ (both _ _ (place_defined (bytes t) x (left_of _ _ (left_of _ _ h)) (first_none _ _ clean)) (right_of _ _ (left_of _ _ h))) (expression_defined e (right_of _ _ h) (second_none _ _ clean))
    expression_defined (update line t x op u e) h clean =
        both _ _ (both _ _ (place_defined (bytes t) x (left_of _ _ (left_of _ _ h)) (first_none _ _ clean)) (right_of _ _ (left_of _ _ h))) (expression_defined e (right_of _ _ h) (second_none _ _ clean))
    expression_defined (step line t x op before) h clean = place_defined (bytes t) x h clean
    expression_defined (comma line a b) h clean = both _ _ (expression_defined a (left_of _ _ h) (first_none _ _ clean)) (expression_defined b (right_of _ _ h) (second_none _ _ clean))
    expression_defined (assertion line e) h clean = both _ _ (left_of _ _ h) (expression_defined e (right_of _ _ h) clean)
    expression_defined (assumption line e) h clean = both _ _ (left_of _ _ h) (expression_defined e (right_of _ _ h) clean)
    expression_defined (draw line t) h clean = h
    expression_defined (part line t offset a) h clean = both _ _ (left_of _ _ h) (structure_defined a (right_of _ _ h) clean)
    expression_defined (discard line e) h clean = both _ _ (left_of _ _ h) (expression_defined e (right_of _ _ h) clean)
    expression_defined (discard_structure a) h clean = structure_defined a h clean
    expression_defined (call line f used t args) h clean =
        let same = same_signature functions f (called functions line f (first_none _ _ clean)) in
        both _ _ (both _ _ (left_of _ _ (left_of _ _ h)) ((λ i. gives_this (given_as t) (same i)) ∙ right_of _ _ (left_of _ _ h)))
        ((λ i. are_arguments defined_only (parameters_of (same i)) args) ∙ arguments_defined args (parameters_of (slice_get (map signature functions) f)) (right_of _ _ h) (second_none _ _ clean))
    expression_defined (function_name line) h clean = h
    expression_defined (size_of_value line bits e) h clean = both _ _ (left_of _ _ h) (expression_defined e (right_of _ _ h) clean)
    expression_defined (size_of_structure line bits a) h clean = both _ _ (left_of _ _ h) (structure_defined a (right_of _ _ h) clean)
    expression_defined (address line x) h clean =
        both _ _ (both _ _ (left_of _ _ (left_of _ _ h)) (sym (same_address x) ∙ right_of _ _ (left_of _ _ h))) (place_defined 0 x (right_of _ _ h) clean)
    expression_defined (sum line a e i swapped) h clean =
        both _ _ (both _ _ (left_of _ _ (left_of _ _ h)) (expression_defined a (right_of _ _ (left_of _ _ h)) (first_none _ _ clean))) (expression_defined e (right_of _ _ h) (second_none _ _ clean))
    expression_defined (distance line a b i) h clean =
        both _ _ (both _ _ (left_of _ _ (left_of _ _ h)) (expression_defined a (right_of _ _ (left_of _ _ h)) (first_none _ _ clean))) (expression_defined b (right_of _ _ h) (second_none _ _ clean))
    expression_defined (relation line op a b) h clean =
        both _ _ (both _ _ (left_of _ _ (left_of _ _ h)) (expression_defined a (right_of _ _ (left_of _ _ h)) (first_none _ _ clean))) (expression_defined b (right_of _ _ h) (second_none _ _ clean))
    expression_defined (pointer_update line x i e) h clean =
        both _ _ (both _ _ (left_of _ _ (left_of _ _ h)) (place_defined 8 x (right_of _ _ (left_of _ _ h)) (first_none _ _ clean))) (expression_defined e (right_of _ _ h) (second_none _ _ clean))
    expression_defined (pointer_step line x i before) h clean =
        both _ _ (left_of _ _ h) (place_defined 8 x (right_of _ _ h) clean)
    expression_defined (allocate line e) h clean =
        both _ _ (left_of _ _ h) (expression_defined e (right_of _ _ h) clean)
    expression_defined (allocate_zeroed line a b) h clean =
        both _ _ (both _ _ (left_of _ _ (left_of _ _ h)) (expression_defined a (right_of _ _ (left_of _ _ h)) (first_none _ _ clean))) (expression_defined b (right_of _ _ h) (second_none _ _ clean))
    expression_defined (release line e) h clean =
        both _ _ (left_of _ _ h) (expression_defined e (right_of _ _ h) clean)
    expression_defined (exit line e) h clean =
        both _ _ (left_of _ _ h) (expression_defined e (right_of _ _ h) clean)
    expression_defined (abort line) h clean = h

    pub structure_defined : (a : Structure) → is_structure named a ≡ true → structure_breach functions a ≡ None → is_structure defined_only a ≡ true
    structure_defined (copy x size) h clean = place_defined size x h clean
    structure_defined (choose line test a b) h clean =
        let some = left_of _ _ h in
        let most = left_of _ _ some in
        let others = second_none _ _ clean in
        both _ _ (both _ _ (both _ _ (left_of _ _ most) (expression_defined test (right_of _ _ most) (first_none _ _ clean))) (structure_defined a (right_of _ _ some) (first_none _ _ others))) (structure_defined b (right_of _ _ h) (second_none _ _ others))
    structure_defined (put line x a) h clean = both _ _ (place_defined (size_of a) x (left_of _ _ h) (first_none _ _ clean)) (structure_defined a (right_of _ _ h) (second_none _ _ clean))
    structure_defined (follow line e a) h clean = both _ _ (expression_defined e (left_of _ _ h) (first_none _ _ clean)) (structure_defined a (right_of _ _ h) (second_none _ _ clean))
    structure_defined (section line offset size a) h clean = both _ _ (left_of _ _ h) (structure_defined a (right_of _ _ h) clean)
    structure_defined (list line size ps) h clean = both _ _ (left_of _ _ h) (parts_defined ps size (right_of _ _ h) clean)
    structure_defined (string line size text) h clean = h
    structure_defined (give line f used size args) h clean =
        let same = same_signature functions f (called functions line f (first_none _ _ clean)) in
        both _ _ (both _ _ (left_of _ _ (left_of _ _ h)) ((λ i. gives_this (Some (passed.Structure size)) (same i)) ∙ right_of _ _ (left_of _ _ h)))
        ((λ i. are_arguments defined_only (parameters_of (same i)) args) ∙ arguments_defined args (parameters_of (slice_get (map signature functions) f)) (right_of _ _ h) (second_none _ _ clean))

    pub parts_defined : (ps : Parts) (size : ℕ) → are_parts named size ps ≡ true → parts_breach functions ps ≡ None → are_parts defined_only size ps ≡ true
    parts_defined no_part size h clean = h
    parts_defined (number_part offset e rest) size h clean =
        both _ _ (both _ _ (left_of _ _ (left_of _ _ h)) (expression_defined e (right_of _ _ (left_of _ _ h)) (first_none _ _ clean))) (parts_defined rest size (right_of _ _ h) (second_none _ _ clean))
    parts_defined (structure_part offset a rest) size h clean =
        both _ _ (both _ _ (left_of _ _ (left_of _ _ h)) (structure_defined a (right_of _ _ (left_of _ _ h)) (first_none _ _ clean))) (parts_defined rest size (right_of _ _ h) (second_none _ _ clean))

    pub arguments_defined : (args : Arguments) (ps : List PassedType) → are_arguments named ps args ≡ true → arguments_breach functions args ≡ None → are_arguments defined_only ps args ≡ true
    arguments_defined no_argument [] h clean = h
    arguments_defined no_argument (p ∷ ps) h clean = absurd (false≢true h)
    arguments_defined (number_argument e rest) [] h clean = absurd (false≢true h)
    arguments_defined (number_argument e rest) (p ∷ ps) h clean =
        both _ _ (both _ _ (left_of _ _ (left_of _ _ h)) (expression_defined e (right_of _ _ (left_of _ _ h)) (first_none _ _ clean))) (arguments_defined rest ps (right_of _ _ h) (second_none _ _ clean))
    arguments_defined (structure_argument a rest) [] h clean = absurd (false≢true h)
    arguments_defined (structure_argument a rest) (p ∷ ps) h clean =
        both _ _ (both _ _ (left_of _ _ (left_of _ _ h)) (structure_defined a (right_of _ _ (left_of _ _ h)) (first_none _ _ clean))) (arguments_defined rest ps (right_of _ _ h) (second_none _ _ clean))

  part_defined : (e : Option Expression) → is_typed_part named e ≡ true → part_breach functions e ≡ None → is_typed_part defined_only e ≡ true
  part_defined None h clean = h
  part_defined (Some e) h clean = expression_defined e h clean

  test_defined : (e : Option Expression) → is_test named e ≡ true → part_breach functions e ≡ None → is_test defined_only e ≡ true
  test_defined None h clean = h
  test_defined (Some e) h clean = both _ _ (left_of _ _ h) (expression_defined e (right_of _ _ h) clean)

  mutual
    pub statement_defined : (s : Statement) (labels : List ℕ) → is_typed_statement named s ≡ true → statement_breach functions labels s ≡ None → is_typed_statement defined_only s ≡ true
    statement_defined (block items) labels h clean = items_defined items labels h clean
    statement_defined (if_then line test s) labels h clean =
        both _ _ (both _ _ (left_of _ _ (left_of _ _ h)) (expression_defined test (right_of _ _ (left_of _ _ h)) (first_none _ _ clean))) (statement_defined s labels (right_of _ _ h) (second_none _ _ clean))
    statement_defined (if_else line test s t) labels h clean =
        let some = left_of _ _ h in
        let most = left_of _ _ some in
        let others = second_none _ _ clean in
        both _ _ (both _ _ (both _ _ (left_of _ _ most) (expression_defined test (right_of _ _ most) (first_none _ _ clean))) (statement_defined s labels (right_of _ _ some) (first_none _ _ others))) (statement_defined t labels (right_of _ _ h) (second_none _ _ others))
    statement_defined (evaluate e) labels h clean = expression_defined e h clean
    statement_defined (returns line e) labels h clean = both _ _ (left_of _ _ h) (expression_defined e (right_of _ _ h) clean)
    statement_defined (returns_structure line a) labels h clean = both _ _ (left_of _ _ h) (structure_defined a (right_of _ _ h) clean)
    statement_defined (returns_nothing line) labels h clean = h
    statement_defined (for_loop line n first test last s) labels h clean =
        let some = left_of _ _ h in
        let most = left_of _ _ some in
        let others = second_none _ _ clean in
        let rest = second_none _ _ others in
        both _ _ (both _ _ (both _ _ (part_defined first (left_of _ _ most) (first_none _ _ clean)) (test_defined test (right_of _ _ most) (first_none _ _ others))) (part_defined last (right_of _ _ some) (first_none _ _ rest))) (statement_defined s labels (right_of _ _ h) (second_none _ _ rest))
    statement_defined (do_loop line n s test) labels h clean =
        both _ _ (both _ _ (statement_defined s labels (left_of _ _ (left_of _ _ h)) (first_none _ _ clean)) (right_of _ _ (left_of _ _ h))) (expression_defined test (right_of _ _ h) (second_none _ _ clean))
    statement_defined (switch line e items) labels h clean =
        let some = left_of _ _ h in
        let most = left_of _ _ some in
        both _ _ (both _ _ (both _ _ (left_of _ _ most) (expression_defined e (right_of _ _ most) (first_none _ _ clean))) (right_of _ _ some)) (items_defined items labels (right_of _ _ h) (second_none _ _ clean))
    statement_defined (breaks line) labels h clean = h
    statement_defined (continues line) labels h clean = h
    statement_defined (jumps line n) labels h clean = h
    statement_defined (stray line s) labels h clean = statement_defined s labels h (second_none (Some (breach line 7)) (statement_breach functions labels s) clean)

    pub items_defined : (items : Items) (labels : List ℕ) → are_typed_items named items ≡ true → items_breach functions labels items ≡ None → are_typed_items defined_only items ≡ true
    items_defined done labels h clean = h
    items_defined (declares line v rest) labels h clean = both _ _ (left_of _ _ h) (items_defined rest labels (right_of _ _ h) clean)
    items_defined (initializes line v drawn e rest) labels h clean =
        both _ _ (both _ _ (left_of _ _ (left_of _ _ h)) (expression_defined e (right_of _ _ (left_of _ _ h)) (first_none _ _ clean))) (items_defined rest labels (right_of _ _ h) (second_none _ _ clean))
    items_defined (initializes_structure line v drawn a rest) labels h clean =
        both _ _ (both _ _ (left_of _ _ (left_of _ _ h)) (structure_defined a (right_of _ _ (left_of _ _ h)) (first_none _ _ clean))) (items_defined rest labels (right_of _ _ h) (second_none _ _ clean))
    items_defined (does s rest) labels h clean =
        both _ _ (statement_defined s (labels_from rest labels) (left_of _ _ h) (first_none _ _ clean)) (items_defined rest labels (right_of _ _ h) (second_none _ _ clean))
    items_defined (label n rest) labels h clean = items_defined rest labels h clean
    items_defined (case_at line t bits rest) labels h clean = both _ _ (left_of _ _ h) (items_defined rest labels (right_of _ _ h) clean)
    items_defined (default_at line rest) labels h clean = items_defined rest labels h clean
