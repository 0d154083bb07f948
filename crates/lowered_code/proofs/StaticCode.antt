-- Where no form over pointers may stand the code has no operations on pointers.
use Rattle.std.proofs.Common.{◌≡◌, ℕ, zero, suc, ◌+◌, Bool, true, false, List, [], ◌∷◌, ◌++◌, length, Option, Some, None, refl, subst}
use Rattle.std.specs.Prelude.{◌&&◌, ◌||◌, ◌==◌, slice_get, if◌then◌else◌}
use Rattle.std.specs.List.{list_all}
use Rattle.std.proofs.lemmas.Bool.{false≢true}
use Rattle.c_types.specs.declared.integers.IntegerType.{IntegerType}
use Rattle.c_types.specs.declared.types.ValueType.{ValueType}
use Rattle.c_types.specs.declared.types.ValueType.TheVariants.{Void, Integer}
use Rattle.c_types.specs.Integers.{bytes, promoted}
use Rattle.core_tree.specs.declared.operators.ArithmeticOperator.{ArithmeticOperator}
use Rattle.core_tree.specs.declared.operators.LogicalOperator.{LogicalOperator}
use Rattle.core_tree.specs.declared.operators.LogicalOperator.TheVariants as logicals
use Rattle.core_tree.specs.declared.functions.PassedType.{PassedType}
use Rattle.core_tree.specs.declared.functions.Variable.{Variable}
use Rattle.core_tree.specs.Trees.{Place, variable_at, object_at, literal_at, pointed, arrow, member, element, subscript, Expression, constant, read, convert, sign, is_zero, arithmetic, compare, logical, choice, assign, update, step, comma, assertion, assumption, draw, part, discard, discard_structure, call, function_name, size_of_value, size_of_structure, address, sum, distance, relation, pointer_update, pointer_step, allocate, allocate_zeroed, release, exit, abort, Structure, copy, choose, put, follow, section, list, string, give, Parts, no_part, number_part, structure_part, Arguments, no_argument, number_argument, structure_argument, Statement, block, if_then, if_else, evaluate, returns, returns_structure, returns_nothing, for_loop, do_loop, switch, breaks, continues, jumps, stray, Items, done, declares, initializes, initializes_structure, does, label, case_at, default_at, Procedure, TypedFile}
use Rattle.core_tree.specs.Operations.{step_operation}
use Rattle.core_tree.specs.Typed as trees
use Rattle.core_tree.specs.Typed.{Signature, Sizes, sizes_in, homes_of, size_of, is_home, is_place, is_typed, is_structure, are_parts, are_arguments, parameters_of, is_typed_part, is_test, is_typed_statement, are_typed_items, is_typed_body, is_typed_function, are_typed}
use Rattle.c_values.specs.Variables.{word_count}
use Rattle.c_meaning.specs.Meaning.{number_type, place_line, has_default}
use Rattle.c_temporaries.specs.declared.accesses.Access.{Access}
use Rattle.c_temporaries.specs.declared.accesses.Access.TheVariants as accesses
use Rattle.c_temporaries.specs.Accesses.{access, home_in, variable_access}
use Rattle.c_temporaries.specs.Temporaries.{value_size, statement_temporaries}
use Rattle.goto_prog.specs.declared.code.Instruction.{Instruction}
use Rattle.goto_prog.specs.Nodes.{Nodes, node_count}
use Rattle.goto_prog.specs.Static.{is_static, are_static_nodes, are_static}
use Rattle.lowered_code.specs.Lowering.{Frame, Deaths, argument_count, read_code, write_code, update_code, fetch_code, put_code, home_code, death_code, if_evaluated, place_code, logical_code, text_code, use_code, call_code, taken_code, code, structure_code, parts_code, arguments_code, size_of as size_of_variable, Ways, no_ways, no_deaths, within_loop, within_switch, leaving, declares_none, ends, plains, words_code, first_code, made_code, entry_code, leave_code, parameters_code, leave_parameters_code, initial_put, initial_store, initial_code, part_code, test_code, to_place, case_tests, guarded, statement_code, items_code, labels_of, case_jumps, default_place, body_code}
use Rattle.lowered_code.specs.Lowering as lowering
use Rattle.lowered_code.specs.Lowered.{first_frame, first_literal, code_by, function_codes}
use Rattle.lowered_code.proofs.RegisterTypes.{left_of, right_of}

-- instructions without operations on pointers
abbrev AllStatic : List Instruction → Type 0
AllStatic [] = Unit {0}
AllStatic (i ∷ is) = (is_static i.operation ≡ true) × AllStatic is

joined : (xs ys : List Instruction) → AllStatic xs → AllStatic ys → AllStatic (xs ++ ys)
joined [] ys h k = k
joined (x ∷ xs) ys h k = (h.0, joined xs ys h.1 k)

-- a place that is reached directly
abbrev Direct : Access → Type 0
Direct (accesses.Variable v offset) = Unit {0}
Direct (accesses.Object k offset) = Unit {0}
Direct (accesses.Within v) = ⊥
Direct accesses.Pointed = ⊥

direct_variable : (o : Option ℕ) (v offset : ℕ) → o ≡ None → Direct (variable_access o v offset)
direct_variable None v offset none = tt
direct_variable (Some h) v offset none = absurd (cc)

-- where it is evaluated, nothing is done for one that is reached directly
none_evaluated : (way : Access) (xs : List Instruction) → Direct way → AllStatic (if_evaluated way xs)
none_evaluated (accesses.Variable v offset) xs direct = tt
none_evaluated (accesses.Object k offset) xs direct = tt
none_evaluated (accesses.Within v) xs direct = absurd direct
none_evaluated accesses.Pointed xs direct = absurd direct

-- ---- expressions

-- over the frame, in which the first block that is free varies; and what is known where no form over pointers may stand
module _ (base : Frame) (variables : List ℕ) (homes : List (Option ℕ)) (objects : List ℕ) (literals : ℕ) (functions : List Signature) (gives : Option PassedType) (homeless : (v : ℕ) → home_in base.variables v ≡ None) where
  abbrev known : Sizes
  known = record { variables = variables; homes = homes; objects = objects; literals = literals; functions = functions; gives = gives; pointers = false }

  abbrev declared : List Variable
  declared = base.variables

  abbrev frame : ℕ → Frame
  frame d = record base { free = d }

  abbrev top : Expression → ℕ
  top e = lowering.top declared e

  abbrev place_top : Place → ℕ
  place_top x = lowering.place_top declared x

  abbrev held : Place → ℕ
  held x = lowering.held declared x

  abbrev structure_registers : Structure → ℕ
  structure_registers a = lowering.structure_registers declared a

  abbrev arguments_registers : Arguments → ℕ
  arguments_registers args = lowering.arguments_registers declared args

  abbrev reached : Place → Access
  reached x = access declared x

  direct : (x : Place) (count : ℕ) → is_place known count x ≡ true → Direct (reached x)
  direct (variable_at line v offset) count typed = direct_variable (home_in declared v) v offset (homeless v)
  direct (object_at line k offset) count typed = tt
  direct (literal_at line k) count typed = absurd (false≢true typed)
  direct (pointed line e) count typed = absurd (false≢true typed)
  direct (arrow line e offset) count typed = absurd (false≢true typed)
  direct (member line x offset) count typed = absurd (false≢true typed)
  direct (element line x e size whole swapped) count typed = absurd (false≢true typed)
  direct (subscript line a e size swapped) count typed = absurd (false≢true typed)

  read_static : (line d r p : ℕ) (t : IntegerType) (way : Access) → Direct way → AllStatic (read_code (frame d) line r t way p)
  read_static line d r p t (accesses.Variable v offset) direct = (refl, tt)
  read_static line d r p t (accesses.Object k offset) direct = (refl, (refl, tt))
  read_static line d r p t (accesses.Within v) direct = absurd direct
  read_static line d r p t accesses.Pointed direct = absurd direct

  write_static : (line d p a : ℕ) (t : IntegerType) (way : Access) → Direct way → AllStatic (write_code (frame d) line t way p a)
  write_static line d p a t (accesses.Variable v offset) direct = (refl, tt)
  write_static line d p a t (accesses.Object k offset) direct = (refl, (refl, tt))
  write_static line d p a t (accesses.Within v) direct = absurd direct
  write_static line d p a t accesses.Pointed direct = absurd direct

  update_static : (at line d p : ℕ) (t : IntegerType) (way : Access) (op : ArithmeticOperator) (u w : IntegerType) (y n : ℕ) → Direct way → AllStatic (update_code (frame d) at line t way p op u w y n)
  update_static at line d p t way op u w y n direct = joined (read_code (frame d) at n t way p) _ (read_static at d n p t way direct) (refl, (refl, (refl, write_static line d p (n + 3) t way direct)))

  fetch_static : (line d p size into to : ℕ) (way : Access) → Direct way → AllStatic (fetch_code (frame d) line way p size into to)
  fetch_static line d p size into to (accesses.Variable v offset) direct = (refl, tt)
  fetch_static line d p size into to (accesses.Object k offset) direct = (refl, tt)
  fetch_static line d p size into to (accesses.Within v) direct = absurd direct
  fetch_static line d p size into to accesses.Pointed direct = absurd direct

  put_static : (line d p size from to : ℕ) (way : Access) → Direct way → AllStatic (put_code (frame d) line way p size from to)
  put_static line d p size from to (accesses.Variable v offset) direct = (refl, tt)
  put_static line d p size from to (accesses.Object k offset) direct = (refl, tt)
  put_static line d p size from to (accesses.Within v) direct = absurd direct
  put_static line d p size from to accesses.Pointed direct = absurd direct

  -- behind where a place is, which is reached directly
  behind_place : (x : Place) (count d n : ℕ) (tail : List Instruction) → is_place known count x ≡ true → AllStatic tail → AllStatic (if_evaluated (reached x) (place_code (frame d) x n) ++ tail)
  behind_place x count d n tail typed h = joined (if_evaluated (reached x) (place_code (frame d) x n)) tail (none_evaluated (reached x) (place_code (frame d) x n) (direct x count typed)) h

  logical_static : (line d : ℕ) (op : LogicalOperator) (x : ℕ) (b : List Instruction) (y : ℕ) → AllStatic b → AllStatic (logical_code (frame d) line op x b y)
  logical_static line d logicals.And x b y h = (refl, joined b _ h (refl, (refl, (refl, (refl, tt)))))
  logical_static line d logicals.Or x b y h = (refl, (refl, (refl, joined b _ h (refl, (refl, tt)))))

  text_static : (line d : ℕ) (text : List ℕ) (n into to : ℕ) → AllStatic (text_code (frame d) line text n into to)
  text_static line d [] n into to = tt
  text_static line d (c ∷ cs) n into to = (refl, (refl, text_static line d cs n into (to + 1)))

  use_static : (line d : ℕ) (used : Bool) (r : ℕ) → AllStatic (use_code (frame d) line used r)
  use_static line d true r = (refl, tt)
  use_static line d false r = tt

  call_static : (line d callee : ℕ) (used : Bool) (size count r : ℕ) → AllStatic (call_code (frame d) line callee used size count r)
  call_static line d callee used size count r = (refl, (refl, use_static line d used r))

  taken_static : (line d : ℕ) (t : ValueType) (b r : ℕ) → is_static (taken_code (frame d) line t b r).operation ≡ true
  taken_static line d Void b r = refl
  taken_static line d (Integer t) b r = refl

  mutual
    code_static : (e : Expression) (d n : ℕ) → is_typed known e ≡ true → AllStatic (code (frame d) e n)
    code_static (constant line t bits) d n typed = (refl, tt)
    code_static (read t x) d n typed = behind_place x (bytes t) d n _ typed (read_static (place_line x) d (n + held x) (n + place_top x) t (reached x) (direct x (bytes t) typed))
    code_static (convert to e) d n typed = joined (code (frame d) e n) _ (code_static e d n (right_of _ _ typed)) (refl, tt)
    code_static (sign line op e) d n typed = joined (code (frame d) e n) _ (code_static e d n (right_of _ _ typed)) (refl, tt)
    code_static (is_zero line e) d n typed = joined (code (frame d) e n) _ (code_static e d n (right_of _ _ typed)) (refl, tt)
    code_static (arithmetic line op a b) d n typed =
        let second = n + (top a + 1) in
        joined (code (frame d) a n) _ (code_static a d n (right_of _ _ (left_of _ _ typed))) (joined (code (frame d) b second) _ (code_static b d second (right_of _ _ typed)) (refl, tt))
    code_static (compare line op a b) d n typed =
        let second = n + (top a + 1) in
        joined (code (frame d) a n) _ (code_static a d n (right_of _ _ (left_of _ _ typed))) (joined (code (frame d) b second) _ (code_static b d second (right_of _ _ typed)) (refl, tt))
    code_static (logical line op a b) d n typed =
        let second = n + (top a + 1) in
        joined (code (frame d) a n) _ (code_static a d n (right_of _ _ (left_of _ _ typed))) (logical_static line d op (n + top a) (code (frame d) b second) (second + top b) (code_static b d second (right_of _ _ typed)))
    code_static (choice line test a b) d n typed =
        let first = n + (top test + 1) in
        let second = first + (top a + 1) in
        let some = left_of _ _ typed in
        joined (code (frame d) test n) _ (code_static test d n (right_of _ _ (left_of _ _ some)))
        (refl, joined (code (frame d) a first) _ (code_static a d first (right_of _ _ some)) (refl, (refl, joined (code (frame d) b second) _ (code_static b d second (right_of _ _ typed)) (refl, tt))))
    code_static (assign line t x e) d n typed =
        let m = n + held x in
        let there = left_of _ _ (left_of _ _ typed) in
        behind_place x (bytes t) d n _ there (joined (code (frame d) e m) _ (code_static e d m (right_of _ _ typed)) (write_static line d (n + place_top x) (m + top e) t (reached x) (direct x (bytes t) there)))
    code_static (update line t x op u e) d n typed =
        let m = n + held x in
        let there = left_of _ _ (left_of _ _ typed) in
        behind_place x (bytes t) d n _ there
        (joined (code (frame d) e m) _ (code_static e d m (right_of _ _ typed)) (update_static (place_line x) line d (n + place_top x) t (reached x) op u (number_type e) (m + top e) (m + (top e + 1)) (direct x (bytes t) there)))
    code_static (step line t x op before) d n typed =
        let m = n + held x in
        let u = promoted t in
        behind_place x (bytes t) d n _ typed
        (refl, joined (update_code (frame d) (place_line x) line t (reached x) (n + place_top x) (step_operation op) u u m (m + 1)) _ (update_static (place_line x) line d (n + place_top x) t (reached x) (step_operation op) u u m (m + 1) (direct x (bytes t) typed)) (refl, tt))
    code_static (comma line a b) d n typed = joined (code (frame d) a n) _ (code_static a d n (left_of _ _ typed)) (code_static b d (n + (top a + 1)) (right_of _ _ typed))
    code_static (assertion line e) d n typed = joined (code (frame d) e n) _ (code_static e d n (right_of _ _ typed)) (refl, (refl, tt))
    code_static (assumption line e) d n typed = joined (code (frame d) e n) _ (code_static e d n (right_of _ _ typed)) (refl, (refl, tt))
    code_static (draw line t) d n typed = (refl, tt)
    code_static (part line t offset a) d n typed = joined (structure_code (frame (d + 1)) a n d 0) _ (structure_static a (d + 1) n d 0 (right_of _ _ typed)) (refl, tt)
    code_static (discard line e) d n typed = joined (code (frame d) e n) _ (code_static e d n (right_of _ _ typed)) (refl, tt)
    code_static (discard_structure a) d n typed = joined (structure_code (frame (d + 1)) a n d 0) _ (structure_static a (d + 1) n d 0 typed) (refl, tt)
    code_static (call line callee used t args) d n typed =
        let count = argument_count args in
        let r = n + arguments_registers args in
        joined (arguments_code (frame (d + (count + 1))) args n d) _ (arguments_static args (parameters_of (slice_get functions callee)) (d + (count + 1)) n d (right_of _ _ typed))
        (joined (call_code (frame d) line callee used (value_size t) count r) _ (call_static line d callee used (value_size t) count r) (taken_static line d t (d + count) (r + 1), tt))
    code_static (function_name line) d n typed = (refl, tt)
    code_static (size_of_value line bits e) d n typed = (refl, tt)
    code_static (size_of_structure line bits a) d n typed = (refl, tt)
    code_static (address line x) d n typed = absurd (false≢true typed)
    code_static (sum line a e i swapped) d n typed = absurd (false≢true typed)
    code_static (distance line a b i) d n typed = absurd (false≢true typed)
    code_static (relation line op a b) d n typed = absurd (false≢true typed)
    code_static (pointer_update line x i e) d n typed = absurd (false≢true typed)
    code_static (pointer_step line x i before) d n typed = absurd (false≢true typed)
    code_static (allocate line e) d n typed = absurd (false≢true typed)
    code_static (allocate_zeroed line a b) d n typed = absurd (false≢true typed)
    code_static (release line e) d n typed = absurd (false≢true typed)
    code_static (exit line e) d n typed = absurd (false≢true typed)
    code_static (abort line) d n typed = absurd (false≢true typed)

    structure_static : (a : Structure) (d n into to : ℕ) → is_structure known a ≡ true → AllStatic (structure_code (frame d) a n into to)
    structure_static (copy x size) d n into to typed = behind_place x size d n _ typed (fetch_static (place_line x) d (n + place_top x) size into to (reached x) (direct x size typed))
    structure_static (choose line test a b) d n into to typed =
        let first = n + (top test + 1) in
        let second = first + structure_registers a in
        let some = left_of _ _ typed in
        joined (code (frame d) test n) _ (code_static test d n (right_of _ _ (left_of _ _ some)))
        (refl, joined (structure_code (frame d) a first into to) _ (structure_static a d first into to (right_of _ _ some)) (refl, structure_static b d second into to (right_of _ _ typed)))
    structure_static (put line x a) d n into to typed =
        let m = n + held x in
        let there = left_of _ _ typed in
        behind_place x (size_of a) d n _ there (joined (structure_code (frame d) a m into to) _ (structure_static a d m into to (right_of _ _ typed)) (put_static line d (n + place_top x) (size_of a) into to (reached x) (direct x (size_of a) there)))
    structure_static (follow line e a) d n into to typed = joined (code (frame d) e n) _ (code_static e d n (left_of _ _ typed)) (structure_static a d (n + (top e + 1)) into to (right_of _ _ typed))
    structure_static (section line offset size a) d n into to typed = joined (structure_code (frame (d + 1)) a n d 0) _ (structure_static a (d + 1) n d 0 (right_of _ _ typed)) (refl, tt)
    structure_static (list line size ps) d n into to typed = (refl, parts_static ps line size d n into to (right_of _ _ typed))
    structure_static (string line size text) d n into to typed = (refl, text_static line d text n into to)
    structure_static (give line callee used size args) d n into to typed =
        let count = argument_count args in
        let r = n + arguments_registers args in
        joined (arguments_code (frame (d + (count + 1))) args n d) _ (arguments_static args (parameters_of (slice_get functions callee)) (d + (count + 1)) n d (right_of _ _ typed))
        (joined (call_code (frame d) line callee used size count r) _ (call_static line d callee used size count r) (refl, tt))

    parts_static : (ps : Parts) (line size d n into to : ℕ) → are_parts known size ps ≡ true → AllStatic (parts_code (frame d) line ps n into to)
    parts_static no_part line size d n into to typed = tt
    parts_static (number_part offset e rest) line size d n into to typed =
        joined (code (frame d) e n) _ (code_static e d n (right_of _ _ (left_of _ _ typed))) (refl, parts_static rest line size d (n + (top e + 1)) into to (right_of _ _ typed))
    parts_static (structure_part offset a rest) line size d n into to typed =
        joined (structure_code (frame d) a n into (to + offset)) _ (structure_static a d n into (to + offset) (right_of _ _ (left_of _ _ typed))) (parts_static rest line size d (n + structure_registers a) into to (right_of _ _ typed))

    arguments_static : (args : Arguments) (ps : List PassedType) (d n b : ℕ) → are_arguments known ps args ≡ true → AllStatic (arguments_code (frame d) args n b)
    arguments_static no_argument ps d n b typed = tt
    arguments_static (number_argument e rest) [] d n b typed = absurd (false≢true typed)
    arguments_static (number_argument e rest) (p ∷ ps) d n b typed =
        joined (code (frame d) e n) _ (code_static e d n (right_of _ _ (left_of _ _ typed))) (refl, arguments_static rest ps d (n + (top e + 1)) (b + 1) (right_of _ _ typed))
    arguments_static (structure_argument a rest) [] d n b typed = absurd (false≢true typed)
    arguments_static (structure_argument a rest) (p ∷ ps) d n b typed =
        joined (structure_code (frame d) a n b 0) _ (structure_static a d n b 0 (right_of _ _ (left_of _ _ typed))) (arguments_static rest ps d (n + structure_registers a) (b + 1) (right_of _ _ typed))

  -- ---- objects of variables, of which there are none

  home_static : (line v : ℕ) (o : Option ℕ) (n : ℕ) → o ≡ None → AllStatic (home_code base line v o n)
  home_static line v None n none = tt
  home_static line v (Some h) n none = absurd (cc)

  death_static : (line : ℕ) (o : Option ℕ) (r : ℕ) → o ≡ None → AllStatic (death_code base line o r)
  death_static line None r none = tt
  death_static line (Some h) r none = absurd (cc)

  abbrev StaticDeaths : Deaths → Type 0
  StaticDeaths out = (r : ℕ) → AllStatic (out r)

  dies_last : (line v : ℕ) (others : Deaths) → StaticDeaths others → StaticDeaths (λ r. others r ++ death_code base line (home_in declared v) r)
  dies_last line v others h r = joined (others r) _ (h r) (death_static line (home_in declared v) r (homeless v))

  leave_static : (items : Items) → StaticDeaths (leave_code base items)
  leave_static done = λ r. tt
  leave_static (declares line v rest) = dies_last line v (leave_code base rest) (leave_static rest)
  leave_static (initializes line v drawn e rest) = dies_last line v (leave_code base rest) (leave_static rest)
  leave_static (initializes_structure line v drawn a rest) = dies_last line v (leave_code base rest) (leave_static rest)
  leave_static (does s rest) = leave_static rest
  leave_static (label l rest) = leave_static rest
  leave_static (case_at line t bits rest) = leave_static rest
  leave_static (default_at line rest) = leave_static rest

  leave_parameters_static : (line count v : ℕ) → StaticDeaths (leave_parameters_code base line count v)
  leave_parameters_static line zero v = λ r. tt
  leave_parameters_static line (suc count) v = dies_last line v (leave_parameters_code base line count (suc v)) (leave_parameters_static line count (suc v))

  parameters_static : (line count v n : ℕ) → AllStatic (parameters_code base line count v n)
  parameters_static line zero v n = tt
  parameters_static line (suc count) v n = joined (home_code base line v (home_in declared v) n) _ (home_static line v (home_in declared v) n (homeless v)) (parameters_static line count (suc v) (n + lowering.home_registers declared (home_in declared v)))

  record StaticWays (ways : Ways) : Type 0 where
    break_out : StaticDeaths ways.break_out
    continue_out : StaticDeaths ways.continue_out
    return_out : StaticDeaths ways.return_out
    label_out : (l : ℕ) → StaticDeaths (ways.label_out l)

  no_deaths_static : StaticDeaths no_deaths
  no_deaths_static = λ r. tt

  leaving_static : (out : Deaths) (ways : Ways) → StaticDeaths out → StaticWays ways → StaticWays (leaving out ways)
  leaving_static out ways h k = record {
    break_out = λ r. joined (out r) _ (h r) (k.break_out r);
    continue_out = λ r. joined (out r) _ (h r) (k.continue_out r);
    return_out = λ r. joined (out r) _ (h r) (k.return_out r);
    label_out = λ l r. joined (out r) _ (h r) (k.label_out l r);
  }

  -- ---- statements

  abbrev Static : Nodes → Type 0
  Static nodes = are_static_nodes nodes ≡ true

  both_true : {a b : Bool} → a ≡ true → b ≡ true → (a && b) ≡ true
  both_true one other = λ i. one i && other i

  in_front : (is : List Instruction) (rest : Nodes) → AllStatic is → Static rest → Static (plains is rest)
  in_front [] rest all h = h
  in_front (i ∷ is) rest all h = both_true {a = is_static i.operation} {b = are_static_nodes (plains is rest)} all.0 (in_front is rest all.1 h)

  either : (b : Bool) (x y : Nodes) → Static x → Static y → Static (if b then x else y)
  either true x y one other = one
  either false x y one other = other

  words_static : (words line v offset n : ℕ) → AllStatic (words_code base words line v offset n)
  words_static zero line v offset n = tt
  words_static (suc k) line v offset n = (refl, (refl, words_static k line v (offset + 8) (n + 1)))

  first_static : (line v : ℕ) (drawn : Bool) (n : ℕ) → AllStatic (first_code base line v drawn n)
  first_static line v true n = words_static (word_count (size_of_variable declared v)) line v 0 n
  first_static line v false n = (refl, tt)

  made_static : (line v : ℕ) (drawn : Bool) (n : ℕ) → AllStatic (made_code base line v drawn n)
  made_static line v drawn n = joined (first_code base line v drawn n) _ (first_static line v drawn n) (home_static line v (home_in declared v) (n + lowering.drawn_registers declared v drawn) (homeless v))

  entry_static : (items : Items) (n : ℕ) → AllStatic (entry_code base items n)
  entry_static done n = tt
  entry_static (declares line v rest) n = joined (made_code base line v true n) _ (made_static line v true n) (entry_static rest (n + lowering.first_registers declared v true))
  entry_static (initializes line v drawn e rest) n = joined (made_code base line v drawn n) _ (made_static line v drawn n) (entry_static rest (n + lowering.first_registers declared v drawn))
  entry_static (initializes_structure line v drawn a rest) n = joined (made_code base line v drawn n) _ (made_static line v drawn n) (entry_static rest (n + lowering.first_registers declared v drawn))
  entry_static (does s rest) n = entry_static rest n
  entry_static (label l rest) n = entry_static rest n
  entry_static (case_at line t bits rest) n = entry_static rest n
  entry_static (default_at line rest) n = entry_static rest n

  put_first_static : (line v : ℕ) (o : Option ℕ) (size n : ℕ) → o ≡ None → AllStatic (initial_put base line v o size n)
  put_first_static line v None size n none = (refl, tt)
  put_first_static line v (Some h) size n none = absurd (cc)

  stored_static : (line v : ℕ) (o : Option ℕ) (t : IntegerType) (a n : ℕ) → o ≡ None → AllStatic (initial_store base line v o t a n)
  stored_static line v None t a n none = (refl, tt)
  stored_static line v (Some h) t a n none = absurd (cc)

  loop_static : (ways : Ways) (behind end : ℕ) → StaticWays ways → StaticWays (within_loop ways behind end)
  loop_static ways behind end out = record { break_out = no_deaths_static; continue_out = no_deaths_static; return_out = out.return_out; label_out = out.label_out }

  -- the first block that statements may use
  abbrev first : ℕ
  first = base.free

  part_static : (e : Option Expression) (n : ℕ) → is_typed_part known e ≡ true → AllStatic (part_code base e n)
  part_static None n typed = tt
  part_static (Some e) n typed = code_static e first n typed

  test_static : (line : ℕ) (e : Option Expression) (n : ℕ) → is_test known e ≡ true → AllStatic (test_code base line e n)
  test_static line None n typed = tt
  test_static line (Some e) n typed = joined (code base e n) _ (code_static e first n (right_of _ _ typed)) (refl, tt)

  cases_static : (line x before : ℕ) (items : Items) (n : ℕ) → AllStatic (case_tests base line x before items n)
  cases_static line x before done n = tt
  cases_static line x before (declares at v rest) n = cases_static line x before rest n
  cases_static line x before (initializes at v drawn e rest) n = cases_static line x before rest n
  cases_static line x before (initializes_structure at v drawn a rest) n = cases_static line x before rest n
  cases_static line x before (does s rest) n = cases_static line x before rest n
  cases_static line x before (label l rest) n = cases_static line x before rest n
  cases_static line x before (case_at at t bits rest) n = (refl, (refl, (refl, cases_static line x (n + 2) rest (n + 5))))
  cases_static line x before (default_at at rest) n = cases_static line x before rest n

  jumps_static : (at : ℕ) (ways : Ways) (x : ℕ) (items : Items) (k n : ℕ) (rest others : Nodes) → Static others → Static (case_jumps base at ways x items k n rest others)
  jumps_static at ways x done k n rest others h = h
  jumps_static at ways x (declares line v more) k n rest others h = jumps_static at ways x more k n rest others h
  jumps_static at ways x (initializes line v drawn e more) k n rest others h = jumps_static at ways x more k n rest others h
  jumps_static at ways x (initializes_structure line v drawn a more) k n rest others h = jumps_static at ways x more k n rest others h
  jumps_static at ways x (does s more) k n rest others h = jumps_static at ways x more k n rest others h
  jumps_static at ways x (label l more) k n rest others h = jumps_static at ways x more k n rest others h
  jumps_static at ways x (case_at line t bits more) k n rest others h = jumps_static at ways x more (k + 5) n rest others h
  jumps_static at ways x (default_at line more) k n rest others h = jumps_static at ways x more k n rest others h

  labels_static : (at : ℕ) (ways : Ways) (items : Items) (n : ℕ) (rest : Nodes) → StaticWays ways → StaticWays (labels_of base at ways items n rest)
  labels_static at ways done n rest h = h
  labels_static at ways (declares line v more) n rest h = labels_static at ways more n rest h
  labels_static at ways (initializes line v drawn e more) n rest h = labels_static at ways more n rest h
  labels_static at ways (initializes_structure line v drawn a more) n rest h = labels_static at ways more n rest h
  labels_static at ways (does s more) n rest h = labels_static at ways more n rest h
  labels_static at ways (label l more) n rest h =
      let inner = labels_static at ways more n rest h in
      let others = labels_of base at ways more n rest in
      record {
        break_out = inner.break_out;
        continue_out = inner.continue_out;
        return_out = inner.return_out;
        label_out = λ m. chosen (l == m) (others.label_out m) (inner.label_out m);
      }
    where
      chosen : (z : Bool) (out : Deaths) → StaticDeaths out → StaticDeaths (if z then no_deaths else out)
      chosen true out h = no_deaths_static
      chosen false out h = h
  labels_static at ways (case_at line t bits more) n rest h = labels_static at ways more n rest h
  labels_static at ways (default_at line more) n rest h = labels_static at ways more n rest h

  mutual
    statement_static : (at : ℕ) (ways : Ways) (s : Statement) (n : ℕ) (rest : Nodes) → is_typed_statement known s ≡ true → StaticWays ways → Static rest → Static (statement_code base at ways s n rest)
    statement_static at ways (block items) n rest typed out h =
        let inside = n + lowering.death_registers declared in
        let entry = inside + lowering.items_registers declared items in
        let dies = leave_code base items in
        in_front (entry_code base items entry) _ (entry_static items entry)
        (items_static at (leaving dies ways) items inside (plains (dies n) rest) typed (leaving_static dies ways (leave_static items) out) (in_front (dies n) rest (leave_static items n) h))
    statement_static at ways (if_then line test s) n rest typed out h =
        let m = n + lowering.statement_registers declared s in
        in_front (code base test m) _ (code_static test first m (right_of _ _ (left_of _ _ typed))) (statement_static at ways s n rest (right_of _ _ typed) out h)
    statement_static at ways (if_else line test s t) n rest typed out h =
        let no = statement_code base at ways t n rest in
        let second = n + lowering.statement_registers declared t in
        let m = second + lowering.statement_registers declared s in
        let some = left_of _ _ typed in
        in_front (code base test m) _ (code_static test first m (right_of _ _ (left_of _ _ some)))
        (statement_static at ways s second (to_place base line at (at + node_count rest) no) (right_of _ _ some) out (statement_static at ways t n rest (right_of _ _ typed) out h))
    statement_static at ways (evaluate e) n rest typed out h = in_front (code base e n) rest (code_static e first n typed) h
    statement_static at ways (returns line e) n rest typed out h =
        in_front (code base e n) _ (code_static e first n (right_of _ _ typed)) (in_front (ways.return_out (n + (top e + 1))) _ (out.return_out (n + (top e + 1))) h)
    statement_static at ways (returns_structure line a) n rest typed out h =
        in_front (structure_code base a n base.result 0) _ (structure_static a first n base.result 0 (right_of _ _ typed)) (in_front (ways.return_out (n + structure_registers a)) _ (out.return_out (n + structure_registers a)) h)
    statement_static at ways (returns_nothing line) n rest typed out h = in_front (ways.return_out n) _ (out.return_out n) h
    statement_static at ways (for_loop line l start test last s) n rest typed out h =
        let behind = at + node_count rest in
        let in_last = n + lowering.part_registers declared test in
        let in_body = in_last + lowering.part_registers declared last in
        let in_test = in_body + lowering.statement_registers declared s in
        let in_first = in_test + lowering.part_registers declared test in
        let end = plains (part_code base last in_last) (plains (test_code base line test n) ends) in
        let start_typed = left_of _ _ (left_of _ _ (left_of _ _ typed)) in
        let test_typed = right_of _ _ (left_of _ _ (left_of _ _ typed)) in
        let last_typed = right_of _ _ (left_of _ _ typed) in
        let end_static : Static end =
        in_front (part_code base last in_last) _ (part_static last in_last last_typed) (in_front (test_code base line test n) ends (test_static line test n test_typed) refl) in
        in_front (part_code base start in_first) _ (part_static start in_first start_typed)
        (in_front (test_code base line test in_test) _ (test_static line test in_test test_typed)
        (both_true {b = are_static_nodes rest} (statement_static (behind + 1) (within_loop ways behind (behind + 1 + node_count end)) s in_body end (right_of _ _ typed) (loop_static ways behind (behind + 1 + node_count end) out) end_static) h))
    statement_static at ways (do_loop line l s test) n rest typed out h =
        let behind = at + node_count rest in
        let end = plains (test_code base line (Some test) n) ends in
        let some = left_of _ _ typed in
        let tested : is_test known (Some test) ≡ true = both_true {a = trees.is_integer (trees.type_of test)} {b = is_typed known test} (right_of _ _ some) (right_of _ _ typed) in
        both_true {b = are_static_nodes rest}
        (statement_static (behind + 1) (within_loop ways behind (behind + 1 + node_count end)) s (n + (top test + 1)) end (left_of _ _ some) (loop_static ways behind (behind + 1 + node_count end) out) (in_front (test_code base line (Some test) n) ends (test_static line (Some test) n tested) refl)) h
    statement_static at ways (switch line e items) n rest typed out h =
        let behind = at + node_count rest in
        let dies = leave_code base items in
        let inner = leaving dies (within_switch ways behind) in
        let inside = n + lowering.death_registers declared in
        let before = inside + lowering.items_registers declared items in
        let value = before + 1 in
        let in_cases = value + 1 in
        let in_entry = in_cases + lowering.case_registers declared items in
        let x = in_entry + lowering.entry_registers declared items in
        let left = plains (dies n) rest in
        let body = items_code base at inner items inside left in
        let last = to_place base line at (if has_default items then default_place base at inner items inside left else behind) body in
        let entered = plains (entry_code base items in_entry) (case_jumps base at inner value items in_cases inside left last) in
        let within : StaticWays (within_switch ways behind) = record { break_out = no_deaths_static; continue_out = out.continue_out; return_out = out.return_out; label_out = out.label_out } in
        let entered_static : Static entered =
        in_front (entry_code base items in_entry) _ (entry_static items in_entry)
        (jumps_static at inner value items in_cases inside left last
        (items_static at inner items inside left (right_of _ _ typed) (leaving_static dies (within_switch ways behind) (leave_static items) within) (in_front (dies n) rest (leave_static items n) h))) in
        in_front (code base e x) _ (code_static e first x (right_of _ _ (left_of _ _ (left_of _ _ typed))))
        (either (has_default items || declares_none items) entered (guarded base line before value items in_cases (node_count rest) entered) entered_static
        (in_front (case_tests base line value before items in_cases) _ (cases_static line value before items in_cases) entered_static))
    statement_static at ways (breaks line) n rest typed out h = in_front (ways.break_out n) _ (out.break_out n) h
    statement_static at ways (continues line) n rest typed out h = in_front (ways.continue_out n) _ (out.continue_out n) h
    statement_static at ways (jumps line l) n rest typed out h = in_front (ways.label_out l n) _ (out.label_out l n) h
    statement_static at ways (stray line s) n rest typed out h = statement_static at ways s n rest typed out h

    items_static : (at : ℕ) (ways : Ways) (items : Items) (n : ℕ) (rest : Nodes) → are_typed_items known items ≡ true → StaticWays ways → Static rest → Static (items_code base at ways items n rest)
    items_static at ways done n rest typed out h = h
    items_static at ways (declares line v more) n rest typed out h = items_static at ways more n rest (right_of _ _ typed) out h
    items_static at ways (initializes line v drawn e more) n rest typed out h =
        let m = n + lowering.items_registers declared more in
        in_front (code base e m) _ (code_static e first m (right_of _ _ (left_of _ _ typed)))
        (in_front (initial_store base line v (home_in declared v) (number_type e) (m + top e) (m + (top e + 1))) _ (stored_static line v (home_in declared v) (number_type e) (m + top e) (m + (top e + 1)) (homeless v)) (items_static at ways more n rest (right_of _ _ typed) out h))
    items_static at ways (initializes_structure line v drawn a more) n rest typed out h =
        let m = n + lowering.items_registers declared more in
        in_front (initial_code base line v a m) _
        (joined (structure_code (frame (first + 1)) a m first 0) _ (structure_static a (first + 1) m first 0 (right_of _ _ (left_of _ _ typed))) (put_first_static line v (home_in declared v) (size_of a) (m + structure_registers a) (homeless v)))
        (items_static at ways more n rest (right_of _ _ typed) out h)
    items_static at ways (does s more) n rest typed out h =
        statement_static at (labels_of base at ways more n rest) s (n + lowering.items_registers declared more) (items_code base at ways more n rest) (left_of _ _ typed) (labels_static at ways more n rest out) (items_static at ways more n rest (right_of _ _ typed) out h)
    items_static at ways (label l more) n rest typed out h = items_static at ways more n rest typed out h
    items_static at ways (case_at line t bits more) n rest typed out h = items_static at ways more n rest (right_of _ _ typed) out h
    items_static at ways (default_at line more) n rest typed out h = items_static at ways more n rest typed out h

  -- a body
  whole_static : (line count : ℕ) (s : Statement) → is_typed_statement known s ≡ true → Static (body_code base line count s)
  whole_static line count s typed =
      let inside = 1 + lowering.death_registers declared in
      let dies = leave_parameters_code base line count 0 in
      let none : StaticWays no_ways = record { break_out = no_deaths_static; continue_out = no_deaths_static; return_out = no_deaths_static; label_out = λ l. no_deaths_static } in
      in_front (parameters_code base line count 0 (inside + lowering.statement_registers declared s)) _ (parameters_static line count 0 (inside + lowering.statement_registers declared s))
      (statement_static 1 (leaving dies no_ways) s inside _ typed (leaving_static dies no_ways (leave_parameters_static line count 0) none) (in_front (dies 1) _ (leave_parameters_static line count 0 1) refl))

-- ---- functions

-- a file in which no form over pointers may stand
abbrev plain_file : TypedFile → TypedFile
plain_file file = record { functions = file.functions; objects = file.objects; literals = file.literals; pointers = false }

is_plain : (file : TypedFile) → file.pointers ≡ false → file ≡ plain_file file
is_plain file none = λ i. record { functions = file.functions; objects = file.objects; literals = file.literals; pointers = none i }

-- none of its variables has an address
no_home : (file : TypedFile) (p : Procedure) (vs : List Variable) → list_all (is_home (sizes_in (plain_file file) p)) (homes_of vs) ≡ true → (v : ℕ) → home_in vs v ≡ None
no_home file p [] all v = refl
no_home file p (x ∷ vs) all zero = none x.home (left_of (is_home (sizes_in (plain_file file) p) x.home) (list_all (is_home (sizes_in (plain_file file) p)) (homes_of vs)) all)
  where
    none : (o : Option ℕ) → is_home (sizes_in (plain_file file) p) o ≡ true → o ≡ None
    none None h = refl
    none (Some k) h = absurd (false≢true h)
no_home file p (x ∷ vs) all (suc v) = no_home file p vs (right_of (is_home (sizes_in (plain_file file) p) x.home) (list_all (is_home (sizes_in (plain_file file) p)) (homes_of vs)) all) v

function_static : (file : TypedFile) (number : ℕ) (p : Procedure) (body : Option Statement) → list_all (is_home (sizes_in (plain_file file) p)) (homes_of p.variables) ≡ true → is_typed_body (sizes_in (plain_file file) p) body ≡ true
    → are_static_nodes (code_by (first_literal file) number p body).nodes ≡ true
function_static file number p None homes typed = refl
function_static file number p (Some s) homes typed =
    let known : Sizes = sizes_in (plain_file file) p in
    whole_static (first_frame (first_literal file) number p.variables (length (statement_temporaries p.variables s).sizes)) known.variables known.homes known.objects known.literals known.functions known.gives (no_home file p p.variables homes) p.line (length p.parameters) s typed

functions_static : (file : TypedFile) (number : ℕ) (functions : List Procedure) → list_all (is_typed_function (plain_file file)) functions ≡ true → are_static (function_codes (first_literal file) number functions) ≡ true
functions_static file number [] typed = refl
functions_static file number (p ∷ functions) typed =
    let first = left_of (is_typed_function (plain_file file) p) (list_all (is_typed_function (plain_file file)) functions) typed in
    let one : are_static_nodes (code_by (first_literal file) number p p.body).nodes ≡ true = function_static file number p p.body (right_of _ _ (left_of _ _ first)) (right_of _ _ first) in
    let others : are_static (function_codes (first_literal file) (number + 1) functions) ≡ true =
    functions_static file (number + 1) functions (right_of (is_typed_function (plain_file file) p) (list_all (is_typed_function (plain_file file)) functions) typed) in
    λ i. one i && others i

pub codes_static : (file : TypedFile) → file.pointers ≡ false → are_typed file ≡ true → are_static (function_codes (first_literal file) 0 file.functions) ≡ true
codes_static file none typed =
    functions_static file 0 file.functions
    (right_of (trees.are_static (plain_file file)) (list_all (is_typed_function (plain_file file)) file.functions) (subst (λ (f : TypedFile). are_typed f ≡ true) (is_plain file none) typed))
