-- What a typed file is outside of: the rules that a file in the profile keeps.
use Rattle.std.specs.Prelude.{ℕ, ◌==◌, Bool, false, ◌&&◌, ◌||◌, nat_lt, nat_le, is_some, is_none, Option, Some, None, List, [], ◌∷◌, ◌++◌, codes, length, slice_get, option_map, if◌then◌else◌}
use Rattle.std.specs.List.{list_any}
use Rattle.std.specs.Str.{bytes_eq}
use Rattle.c_types.specs.declared.integers.IntegerType.TheVariants.{Int}
use Rattle.core_tree.specs.declared.functions.PassedType.TheVariants as passed
use Rattle.core_tree.specs.Typed.{same_given}
use Rattle.core_tree.specs.Trees.{Place, variable_at, object_at, literal_at, pointed, arrow, member, element, subscript, Expression, constant, read, convert, sign, is_zero, arithmetic, compare, logical, choice, assign, update, step, comma, assertion, assumption, draw, part, discard, discard_structure, call, function_name, size_of_value, size_of_structure, address, sum, distance, relation, pointer_update, pointer_step, allocate, allocate_zeroed, release, exit, abort, Structure, copy, choose, put, follow, section, list, string, give, Parts, no_part, number_part, structure_part, Arguments, no_argument, number_argument, structure_argument, Statement, block, if_then, if_else, evaluate, returns, returns_structure, returns_nothing, for_loop, do_loop, switch, breaks, continues, jumps, stray, Items, done, declares, initializes, initializes_structure, does, label, case_at, default_at, Procedure, Static, TypedFile}

-- a broken rule, and the line that it is told with
pub record Breach : Type 0 where
  pub line : ℕ
  pub rule : ℕ

abbrev pub breach : ℕ → ℕ → Breach
breach l r = record { line = l; rule = r }

-- the lower line comes first, and on one line the lower rule
abbrev pub is_before : Breach → Breach → Bool
is_before a b = nat_lt a.line b.line || (a.line == b.line && nat_le a.rule b.rule)

abbrev pub earlier : Option Breach → Option Breach → Option Breach
earlier None other = other
earlier (Some a) None = Some a
earlier (Some a) (Some b) = Some (if is_before a b then a else b)

-- ---- rule 1: the function named main is defined, gives int and has no parameters (C11 5.1.2.2.1)

abbrev pub is_main : Procedure → Bool
is_main f = bytes_eq f.name (codes "main")

abbrev pub has_main : List Procedure → Bool
has_main functions = list_any is_main functions

abbrev pub is_int_without_parameters : Procedure → Bool
is_int_without_parameters f = same_given f.gives (Some (passed.Integer Int)) && (length f.parameters == 0) && is_none f.ellipsis

-- no definition is told with line 1, another type with the line of the name
abbrev pub definition_breach : Procedure → Option Breach
definition_breach f = if is_some f.body then (if is_int_without_parameters f then None else Some (breach f.line 1)) else Some (breach 1 1)

abbrev pub main_breach : List Procedure → Option Breach
main_breach [] = Some (breach 1 1)
main_breach (f ∷ functions) = if is_main f then definition_breach f else main_breach functions

-- ---- rules 2 and 3: a function that is called has a body, and its name stands nowhere else, also where nothing is evaluated

abbrev pub is_defined : Option Procedure → Bool
is_defined None = false
is_defined (Some f) = is_some f.body

abbrev pub call_breach : List Procedure → (line function : ℕ) → Option Breach
call_breach functions line f = if is_defined (slice_get functions f) then None else Some (breach line 2)

module _ (functions : List Procedure) where
  abbrev mutual
    pub place_breach : Place → Option Breach
    place_breach (variable_at line v offset) = None
    place_breach (object_at line k offset) = None
    place_breach (literal_at line k) = None
    place_breach (pointed line e) = expression_breach e
    place_breach (arrow line e offset) = expression_breach e
    place_breach (member line p offset) = place_breach p
    place_breach (element line p e size whole swapped) = earlier (place_breach p) (expression_breach e)
    place_breach (subscript line a e size swapped) = earlier (expression_breach a) (expression_breach e)

    pub expression_breach : Expression → Option Breach
    expression_breach (constant line t bits) = None
    expression_breach (read t p) = place_breach p
    expression_breach (convert to e) = expression_breach e
    expression_breach (sign line op e) = expression_breach e
    expression_breach (is_zero line e) = expression_breach e
    expression_breach (arithmetic line op a b) = earlier (expression_breach a) (expression_breach b)
    expression_breach (compare line op a b) = earlier (expression_breach a) (expression_breach b)
    expression_breach (logical line op a b) = earlier (expression_breach a) (expression_breach b)
    expression_breach (choice line test a b) = earlier (expression_breach test) (earlier (expression_breach a) (expression_breach b))
    expression_breach (assign line t p e) = earlier (place_breach p) (expression_breach e)
    expression_breach (update line t p op u e) = earlier (place_breach p) (expression_breach e)
    expression_breach (step line t p op before) = place_breach p
    expression_breach (comma line a b) = earlier (expression_breach a) (expression_breach b)
    expression_breach (assertion line e) = expression_breach e
    expression_breach (assumption line e) = expression_breach e
    expression_breach (draw line t) = None
    expression_breach (part line t offset a) = structure_breach a
    expression_breach (discard line e) = expression_breach e
    expression_breach (discard_structure a) = structure_breach a
    expression_breach (call line f used t args) = earlier (call_breach functions line f) (arguments_breach args)
    expression_breach (function_name line) = Some (breach line 3)
    expression_breach (size_of_value line bits e) = expression_breach e
    expression_breach (size_of_structure line bits a) = structure_breach a
    expression_breach (address line p) = place_breach p
    expression_breach (sum line a e n swapped) = earlier (expression_breach a) (expression_breach e)
    expression_breach (distance line a b n) = earlier (expression_breach a) (expression_breach b)
    expression_breach (relation line op a b) = earlier (expression_breach a) (expression_breach b)
    expression_breach (pointer_update line p n e) = earlier (place_breach p) (expression_breach e)
    expression_breach (pointer_step line p n before) = place_breach p
    expression_breach (allocate line e) = expression_breach e
    expression_breach (allocate_zeroed line a b) = earlier (expression_breach a) (expression_breach b)
    expression_breach (release line e) = expression_breach e
    expression_breach (exit line e) = expression_breach e
    expression_breach (abort line) = None

    pub structure_breach : Structure → Option Breach
    structure_breach (copy p size) = place_breach p
    structure_breach (choose line test a b) = earlier (expression_breach test) (earlier (structure_breach a) (structure_breach b))
    structure_breach (put line p a) = earlier (place_breach p) (structure_breach a)
    structure_breach (follow line e a) = earlier (expression_breach e) (structure_breach a)
    structure_breach (section line offset size a) = structure_breach a
    structure_breach (list line size parts) = parts_breach parts
    structure_breach (string line size bytes) = None
    structure_breach (give line f used size args) = earlier (call_breach functions line f) (arguments_breach args)

    pub parts_breach : Parts → Option Breach
    parts_breach no_part = None
    parts_breach (number_part offset e rest) = earlier (expression_breach e) (parts_breach rest)
    parts_breach (structure_part offset a rest) = earlier (structure_breach a) (parts_breach rest)

    pub arguments_breach : Arguments → Option Breach
    arguments_breach no_argument = None
    arguments_breach (number_argument e rest) = earlier (expression_breach e) (arguments_breach rest)
    arguments_breach (structure_argument a rest) = earlier (structure_breach a) (arguments_breach rest)

  abbrev pub part_breach : Option Expression → Option Breach
  part_breach None = None
  part_breach (Some e) = expression_breach e

-- ---- rules 6 and 7: the label of a `goto` stands later, in a list of statements around it; a `case` or `default` stands in its switch's own list

-- the labels in scope at the start of these items, where the others come from further out
abbrev pub labels_from : Items → List ℕ → List ℕ
labels_from done labels = labels
labels_from (declares line v rest) labels = labels_from rest labels
labels_from (initializes line v drawn e rest) labels = labels_from rest labels
labels_from (initializes_structure line v drawn a rest) labels = labels_from rest labels
labels_from (does s rest) labels = labels_from rest labels
labels_from (label n rest) labels = labels_from rest labels ++ n ∷ []
labels_from (case_at line t bits rest) labels = labels_from rest labels
labels_from (default_at line rest) labels = labels_from rest labels

abbrev pub jump_breach : List ℕ → (line label : ℕ) → Option Breach
jump_breach labels line n = if list_any (λ l. l == n) labels then None else Some (breach line 6)

module _ (functions : List Procedure) where
  abbrev mutual
    -- with these labels behind it
    pub statement_breach : List ℕ → Statement → Option Breach
    statement_breach labels (block items) = items_breach labels items
    statement_breach labels (if_then line test s) = earlier (expression_breach functions test) (statement_breach labels s)
    statement_breach labels (if_else line test s t) = earlier (expression_breach functions test) (earlier (statement_breach labels s) (statement_breach labels t))
    statement_breach labels (evaluate e) = expression_breach functions e
    statement_breach labels (returns line e) = expression_breach functions e
    statement_breach labels (returns_structure line a) = structure_breach functions a
    statement_breach labels (returns_nothing line) = None
    statement_breach labels (for_loop line n first test last s) =
        earlier (part_breach functions first) (earlier (part_breach functions test) (earlier (part_breach functions last) (statement_breach labels s)))
    statement_breach labels (do_loop line n s test) = earlier (statement_breach labels s) (expression_breach functions test)
    statement_breach labels (switch line e items) = earlier (expression_breach functions e) (items_breach labels items)
    statement_breach labels (breaks line) = None
    statement_breach labels (continues line) = None
    statement_breach labels (jumps line n) = jump_breach labels line n
    statement_breach labels (stray line s) = earlier (Some (breach line 7)) (statement_breach labels s)

    pub items_breach : List ℕ → Items → Option Breach
    items_breach labels done = None
    items_breach labels (declares line v rest) = items_breach labels rest
    items_breach labels (initializes line v drawn e rest) = earlier (expression_breach functions e) (items_breach labels rest)
    items_breach labels (initializes_structure line v drawn a rest) = earlier (structure_breach functions a) (items_breach labels rest)
    items_breach labels (does s rest) = earlier (statement_breach (labels_from rest labels) s) (items_breach labels rest)
    items_breach labels (label n rest) = items_breach labels rest
    items_breach labels (case_at line t bits rest) = items_breach labels rest
    items_breach labels (default_at line rest) = items_breach labels rest

  abbrev pub body_breach : Option Statement → Option Breach
  body_breach None = None
  body_breach (Some s) = statement_breach [] s

  -- rule 10: no function is declared with an ellipsis; else the line of the first declarator that has one
  abbrev pub function_breach : Procedure → Option Breach
  function_breach f = earlier (option_map (λ l. breach l 10) f.ellipsis) (body_breach f.body)

  abbrev pub functions_breach : List Procedure → Option Breach
  functions_breach [] = None
  functions_breach (f ∷ fs) = earlier (function_breach f) (functions_breach fs)

-- ---- rule 9: each object has a definition (C11 6.9p5); else the line on which one without it is declared first

abbrev pub objects_breach : List Static → Option Breach
objects_breach [] = None
objects_breach (o ∷ objects) = earlier (option_map (λ l. breach l 9) o.undefined) (objects_breach objects)

-- ---- the broken rule with the lowest line, and of those the lowest
abbrev pub first_breach : TypedFile → Option Breach
first_breach file = earlier (main_breach file.functions) (earlier (functions_breach file.functions file.functions) (objects_breach file.objects))
