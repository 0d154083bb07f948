-- The code of typed trees fits their registers and blocks.
use Rattle.std.proofs.Common.{◌≡◌, ◌∙◌, append_assoc, ℕ, zero, suc, ◌+◌, ◌-◌, ◌*◌, ◌^◌, ◌<◌, ◌≤◌, Bool, true, false, nat_lt, List, [], ◌∷◌, ◌++◌, length, refl, sym, ap, subst, arith, length-append}
use Rattle.std.specs.Prelude.{◌==◌, ◌&&◌, ◌||◌, ℤ, pos, nat_le, slice_index, slice_get, replicate, Option, Some, None, if◌then◌else◌}
use Rattle.c_types.specs.declared.integers.IntegerType.{IntegerType}
use Rattle.c_types.specs.declared.integers.IntegerType.TheVariants.{Int, Long, UnsignedChar, UnsignedLong}
use Rattle.c_types.specs.declared.types.ValueType.TheVariants.{Void, Integer}
use Rattle.c_types.specs.declared.types.ValueType.{ValueType}
use Rattle.std.specs.List.{list_all}
use Rattle.std.proofs.Math.Seq.{get_or-append_seam}
use Rattle.std.proofs.lemmas.Bool.{false≢true}
use Rattle.std.proofs.lemmas.List.{get_or_append_left, length-map}
use Rattle.c_types.specs.Integers.{bytes, promoted}
use Rattle.core_tree.specs.declared.operators.ArithmeticOperator.{ArithmeticOperator}
use Rattle.core_tree.specs.declared.operators.ArithmeticOperator.TheVariants as arithmetics
use Rattle.core_tree.specs.declared.operators.Comparison.TheVariants as comparisons
use Rattle.core_tree.specs.declared.operators.LogicalOperator.{LogicalOperator}
use Rattle.core_tree.specs.declared.operators.LogicalOperator.TheVariants as logicals
use Rattle.core_tree.specs.Trees.{Place, variable_at, object_at, literal_at, pointed, arrow, member, element, subscript, Expression, constant, read, convert, sign, is_zero, arithmetic, compare, logical, choice, assign, update, step, comma, assertion, assumption, draw, part, discard, discard_structure, call, function_name, size_of_value, size_of_structure, address, sum, distance, relation, pointer_update, pointer_step, allocate, allocate_zeroed, release, exit, abort, Structure, copy, choose, put, follow, section, list, string, give, Parts, no_part, number_part, structure_part, Arguments, no_argument, number_argument, structure_argument, Statement, block, if_then, if_else, evaluate, returns, returns_structure, returns_nothing, for_loop, do_loop, switch, breaks, continues, jumps, stray, Items, done, declares, initializes, initializes_structure, does, label, case_at, default_at, Procedure, Static, TypedFile}
use Rattle.core_tree.specs.declared.functions.Variable.{Variable}
use Rattle.core_tree.specs.declared.functions.PassedType.{PassedType}
use Rattle.core_tree.specs.declared.functions.PassedType.TheVariants as passed
use Rattle.core_tree.specs.Typed.{Signature, Sizes, sizes_in, sizes_of_variables, sizes_of_objects, homes_of, type_of, size_of, is_integer, is_pointer, is_within, is_size, object_size, is_place, fits_at, same_given, given_as, parameters_of, is_typed, is_structure, are_parts, are_arguments, is_typed_part, is_test, are_cases, is_typed_statement, are_typed_items, is_typed_body, is_typed_function, is_static, are_static, are_typed, is_home, are_small, have_small}
use Rattle.core_tree.specs.Operations.{drawn_width, step_operation}
use Rattle.c_values.specs.Numbers.{are_operands_of}
use Rattle.c_values.specs.Variables.{pointer_to, word_count, drawn_count}
use Rattle.c_meaning.specs.Meaning.{integer_of, number_type, place_line, is_readonly, range_class, has_default}
use Rattle.c_meaning.proofs.TypeWidths.{operand_widths}
use Rattle.words.specs.declared.check.Class.TheVariants.{Bounds}
use Rattle.goto_prog.specs.declared.code.Instruction.{Instruction}
use Rattle.goto_prog.specs.declared.code.Operation.TheVariants as operations
use Rattle.goto_prog.specs.Fitting.{operation_fits}
use Rattle.goto_prog.specs.Nodes.{Nodes, plain, node_count, nodes_fit, routine_fits, routines_fit}
use Rattle.c_temporaries.specs.declared.accesses.Access.{Access}
use Rattle.c_temporaries.specs.declared.accesses.Access.TheVariants as accesses
use Rattle.c_temporaries.specs.Accesses.{access, is_evaluated, home_in, holder_in, unless_homed, variable_access, evaluated_access}
use Rattle.c_temporaries.specs.Temporaries.{value_size, heap_bytes, Temporaries, no_temporaries, both, under, under_all, making, access_temporaries, initial_temporaries, argument_sizes}
use Rattle.c_temporaries.specs.Temporaries as needs
use Rattle.lowered_code.specs.Lowering.{Frame, Ways, Deaths, no_ways, no_deaths, within_loop, within_switch, leaving, argument_count, structure_line, line_of, place_code, structure_code, parts_code, arguments_code, text_code, use_code, call_code, taken_code, base_code, element_code, move_code, grant_code, home_code, death_code, if_evaluated, initial_put, initial_store, initial_code, at_line, read_code, write_code, fetch_code, put_code, update_code, logical_code, code, size_of as size_of_variable, have_homes, is_homed, words_code, first_code, made_code, declares_none, entry_code, leave_code, parameters_code, leave_parameters_code, part_code, test_code, to_place, plains, ends, case_tests, last_case, guarded, statement_code, items_code, labels_of, case_jumps, default_place, body_code}
use Rattle.lowered_code.specs.Lowering as lowering
use Rattle.lowered_code.specs.Registers.{case_types, update_types}
use Rattle.lowered_code.specs.Registers as kinds
use Rattle.lowered_code.specs.Lowered.{given_size, first_literal, code_by, function_codes}
use Rattle.lowered_code.proofs.Housing.{Room, HasTemporaries, Housed, housed_left, housed_right, housed_under, housed_room, housed_front, housed_back, housed_behind, housed_zeros, housed_making, housed_heap, housed_body}
use Rattle.lowered_code.proofs.ExpressionCode.{test_less, test_most, test_equal}
use Rattle.lowered_code.proofs.HeapBytes.{few_statement}
use Rattle.lowered_code.proofs.RegisterCounts.{place_length, way_length, types_length, structure_length, arguments_length, part_length, case_length, first_length, death_length, entry_length, statement_length, items_length}
use Rattle.lowered_code.proofs.RegisterTypes.{both as both_true, left_of, right_of, same_types, own_operands, Register, Has, register_at, register_of, register_is, has_at, has_left, has_right, has_itself, Fit, fit-append, there_is, constant_fits, pointer_constant_fits, copy_fits, load_fits, store_fits, word_fits, within_is, clear_fits, filled_there, filled_within, at_most_true, less_true, copy_bytes_fits, convert_fits, sign_fits, arithmetic_fits, compare_fits, is_zero_fits, skip_fits, skip_if_fits, draw_fits, move_fits, offset_fits, same_fits, distance_fits, relate_fits, take_fits, put_fits, read_fits, write_fits, look_fits, fill_fits, alloc_fits, die_fits, free_fits, may_fail_fits, limit_fits, one_fits, zero_fits, some_drawn, few_drawn}

-- ---- variables that have addresses

home_below : (vs : List Variable) (v h : ℕ) → home_in vs v ≡ Some h → v < length (sizes_of_variables vs)
home_below [] v h found = absurd (cc)
home_below (x ∷ vs) zero h found = omega arith
home_below (x ∷ vs) (suc v) h found = omega (arith, home_below vs v h found)

-- so the function has one
some_home : (vs : List Variable) (v h : ℕ) → home_in vs v ≡ Some h → have_homes vs ≡ true
some_home [] v h found = absurd (cc)
some_home (x ∷ vs) zero h found = λ i. homed (found i) || have_homes vs
  where
    homed : Option ℕ → Bool
    homed None = false
    homed (Some k) = true
some_home (x ∷ vs) (suc v) h found = either (is_homed x) (have_homes vs) (some_home vs v h found)
  where
    either : (a b : Bool) → b ≡ true → (a || b) ≡ true
    either true b h = refl
    either false b h = h

-- a size of a list is small where each is
small_size : (xs : List ℕ) (v whole : ℕ) → ((k : ℕ) → slice_index xs k < 2 ^ 31) → is_size (slice_get xs v) whole ≡ true → whole < 2 ^ 31
small_size [] v whole small is = absurd (false≢true is)
small_size (x ∷ xs) zero whole small is = let first = small 0 in omega (arith, first, test_equal x whole is)
small_size (x ∷ xs) (suc v) whole small is = small_size xs v whole (λ k. small (suc k)) is

-- registers of one type are those of fewer, and more
has_front : (registers : List IntegerType) (t : IntegerType) (a b n : ℕ) → Has registers n (replicate (a + b) t) → Has registers n (replicate a t)
has_front registers t zero b n h = tt
has_front registers t (suc a) b n h =
    let more : suc a + b ≡ suc (a + b) = omega arith in
    let split : Has registers n (replicate (suc (a + b)) t) = subst (λ (m : ℕ). Has registers n (replicate m t)) more h in
    (split.0, has_front registers t a b (n + 1) split.1)

has_back : (registers : List IntegerType) (t : IntegerType) (a b n : ℕ) → Has registers n (replicate (a + b) t) → Has registers (n + a) (replicate b t)
has_back registers t zero b n h =
    let none : zero + b ≡ b = omega arith in
    has_at registers n (n + 0) (replicate b t) (omega arith) (subst (λ (m : ℕ). Has registers n (replicate m t)) none h)
has_back registers t (suc a) b n h =
    let more : suc a + b ≡ suc (a + b) = omega arith in
    let split : Has registers n (replicate (suc (a + b)) t) = subst (λ (m : ℕ). Has registers n (replicate m t)) more h in
    has_at registers (n + 1 + a) (n + suc a) (replicate b t) (omega arith) (has_back registers t a b (n + 1) split.1)

-- addresses are held by variables of 8 bytes, no variable and no static object has 2 ^ 31 bytes or more, the numbers of objects have 32 bits, and the block in which objects are made is there, and no larger than it may be
pub record Sane (declared : List Variable) (others objects : List ℕ) (literals first_number heap : ℕ) : Type 0 where
  pub homed : (v h : ℕ) → home_in declared v ≡ Some h → is_within (sizes_of_variables declared) h 0 8 ≡ true
  pub small : (v : ℕ) → slice_index (sizes_of_variables declared) v < 2 ^ 31
  pub small_objects : (k : ℕ) → slice_index objects k < 2 ^ 31
  pub few_objects : length objects < 2 ^ 31
  pub few_literals : first_number + literals < 2 ^ 32
  pub heap_there : heap < length (sizes_of_variables declared ++ others)
  pub heap_size : slice_index (sizes_of_variables declared ++ others) heap ≤ heap_bytes

-- over the variables, the sizes of the blocks behind them and of the static objects, how many literals there are and the number of the first one's object, the functions that are called, what the function gives, whether forms with pointers may stand, and the block in which objects are made
module _ (registers : List IntegerType) (declared : List Variable) (others objects : List ℕ) (literals first_number : ℕ) (functions : List Signature) (gives : Option PassedType) (allowed : Bool) (function heap : ℕ) (some : 2 ≤ length others) (sane : Sane declared others objects literals first_number heap) where
  -- the sizes of the variables
  abbrev variables : List ℕ
  variables = sizes_of_variables declared

  abbrev known : Sizes
  known = record { variables = variables; homes = homes_of declared; objects = objects; literals = literals; functions = functions; gives = gives; pointers = allowed }

  abbrev blocks : List ℕ
  blocks = variables ++ others

  abbrev edge : ℕ
  edge = length variables

  abbrev frame : ℕ → Frame
  frame d = record { function = function; variables = declared; zeros = edge; result = edge + 1; free = d; heap = heap; literals = first_number }

  abbrev Houses : ℕ → Temporaries → Type 0
  Houses d r = Housed blocks edge heap d r

  -- ---- registers and blocks of trees over these variables

  abbrev top : Expression → ℕ
  top e = lowering.top declared e

  abbrev place_top : Place → ℕ
  place_top x = lowering.place_top declared x

  abbrev held : Place → ℕ
  held x = lowering.held declared x

  abbrev structure_registers : Structure → ℕ
  structure_registers a = lowering.structure_registers declared a

  abbrev arguments_registers : Arguments → ℕ
  arguments_registers args = lowering.arguments_registers declared args

  abbrev entry_registers : Items → ℕ
  entry_registers items = lowering.entry_registers declared items

  abbrev part_registers : Option Expression → ℕ
  part_registers e = lowering.part_registers declared e

  abbrev case_registers : Items → ℕ
  case_registers items = lowering.case_registers declared items

  abbrev statement_registers : Statement → ℕ
  statement_registers s = lowering.statement_registers declared s

  abbrev items_registers : Items → ℕ
  items_registers items = lowering.items_registers declared items

  abbrev death_registers : ℕ
  death_registers = lowering.death_registers declared

  abbrev home_registers : Option ℕ → ℕ
  home_registers o = lowering.home_registers declared o

  abbrev place_types : Place → List IntegerType
  place_types x = kinds.place_types declared x

  abbrev way_types : Place → List IntegerType
  way_types x = kinds.held_types (access declared x) (kinds.place_types declared x)

  abbrev types : Expression → List IntegerType
  types e = kinds.types declared e

  abbrev structure_types : Structure → List IntegerType
  structure_types a = kinds.structure_types declared a

  abbrev parts_types : Parts → List IntegerType
  parts_types ps = kinds.parts_types declared ps

  abbrev arguments_types : Arguments → List IntegerType
  arguments_types args = kinds.arguments_types declared args

  abbrev part_types : Option Expression → List IntegerType
  part_types e = kinds.part_types declared e

  abbrev first_types : ℕ → Bool → List IntegerType
  first_types v drawn = kinds.first_types declared v drawn

  abbrev initial_types : ℕ → List IntegerType
  initial_types v = kinds.initial_types declared v

  abbrev death_types : List IntegerType
  death_types = kinds.death_types declared

  abbrev entry_types : Items → List IntegerType
  entry_types items = kinds.entry_types declared items

  abbrev statement_types : Statement → List IntegerType
  statement_types s = kinds.statement_types declared s

  abbrev items_types : Items → List IntegerType
  items_types items = kinds.items_types declared items

  abbrev way_temporaries : Place → Temporaries
  way_temporaries x = needs.way_temporaries declared x

  abbrev number_temporaries : IntegerType → Place → Temporaries
  number_temporaries t x = needs.number_temporaries declared t x

  abbrev temporaries : Expression → Temporaries
  temporaries e = needs.temporaries declared e

  abbrev structure_temporaries : Structure → Temporaries
  structure_temporaries a = needs.structure_temporaries declared a

  abbrev parts_temporaries : Parts → Temporaries
  parts_temporaries ps = needs.parts_temporaries declared ps

  abbrev arguments_temporaries : Arguments → Temporaries
  arguments_temporaries args = needs.arguments_temporaries declared args

  abbrev part_temporaries : Option Expression → Temporaries
  part_temporaries e = needs.part_temporaries declared e

  abbrev statement_temporaries : Statement → Temporaries
  statement_temporaries s = needs.statement_temporaries declared s

  abbrev items_temporaries : Items → Temporaries
  items_temporaries items = needs.items_temporaries declared items

  -- how a place is reached
  abbrev reached : Place → Access
  reached x = access declared x

  -- ---- blocks

  -- bytes of a variable are bytes of a block
  wide_there : (v : ℕ) → nat_lt v edge ≡ true → nat_lt v (length blocks) ≡ true
  wide_there v there = less_true v (length blocks) (omega (arith, test_less v edge there, length-append variables others))

  wide : (v offset count : ℕ) → is_within variables v offset count ≡ true → is_within blocks v offset count ≡ true
  wide v offset count within =
      let there = left_of (nat_lt v edge) (nat_le (offset + count) (slice_index variables v)) within in
      let fits = test_most (offset + count) (slice_index variables v) (right_of (nat_lt v edge) (nat_le (offset + count) (slice_index variables v)) within) in
      let size = get_or_append_left variables others 0 v (test_less v edge there) in
      within_is registers blocks v offset count (wide_there v there) (omega (arith, fits, size))

  -- bytes within others
  part_within : (b offset count o size : ℕ) → is_within blocks b offset count ≡ true → o + size ≤ count → is_within blocks b (offset + o) size ≡ true
  part_within b offset count o size within inner =
      let fits = test_most (offset + count) (slice_index blocks b) (right_of (nat_lt b (length blocks)) (nat_le (offset + count) (slice_index blocks b)) within) in
      within_is registers blocks b (offset + o) size (left_of (nat_lt b (length blocks)) (nat_le (offset + count) (slice_index blocks b)) within) (omega (arith, fits, inner))

  free_within : (d offset size whole : ℕ) → Room blocks d whole → offset + size ≤ whole → is_within blocks d offset size ≡ true
  free_within d offset size whole room inner = within_is registers blocks d offset size (less_true d (length blocks) (omega (arith, room.there))) (omega (arith, room.fits, inner))

  abbrev Fits : ℕ → List Instruction → Type 0
  Fits k xs = Fit registers blocks k xs

  abbrev Holds : ℕ → IntegerType → Type 0
  Holds r t = Register registers r t

  -- behind an expression
  beyond : (e : Expression) (n : ℕ) (ts : List IntegerType) → Has registers n (types e ++ ts) → Has registers (n + (top e + 1)) ts
  beyond e n ts h = has_at registers (n + length (types e)) (n + (top e + 1)) ts (ap (λ m. n + m) (types_length declared e)) (has_right registers n (types e) ts h)

  within : (e : Expression) (n : ℕ) (ts : List IntegerType) → Has registers n (types e ++ ts) → Has registers n (types e)
  within e n ts h = has_left registers n (types e) ts h

  -- behind where a place is, and behind that where it is evaluated
  beyond_place : (x : Place) (n : ℕ) (ts : List IntegerType) → Has registers n (place_types x ++ ts) → Has registers (n + (place_top x + 1)) ts
  beyond_place x n ts h = has_at registers (n + length (place_types x)) (n + (place_top x + 1)) ts (ap (λ m. n + m) (place_length declared x)) (has_right registers n (place_types x) ts h)

  beyond_way : (x : Place) (n : ℕ) (ts : List IntegerType) → Has registers n (way_types x ++ ts) → Has registers (n + held x) ts
  beyond_way x n ts h = has_at registers (n + length (way_types x)) (n + held x) ts (ap (λ m. n + m) (way_length declared x)) (has_right registers n (way_types x) ts h)

  chosen_register : (b : Bool) (r s : ℕ) (t : IntegerType) → Holds r t → Holds s t → Holds (if b then r else s) t
  chosen_register true r s t h g = h
  chosen_register false r s t h g = g

  -- ---- how a place is reached

  -- so many bytes may be there
  abbrev FitsAt : Access → ℕ → Type 0
  FitsAt (accesses.Variable v offset) count = is_within variables v offset count ≡ true
  FitsAt (accesses.Object k offset) count = Unit {0}
  FitsAt (accesses.Within v) count = nat_lt v edge ≡ true
  FitsAt accesses.Pointed count = Unit {0}

  variable_fits : (o : Option ℕ) (v offset count : ℕ) → is_within variables v offset count ≡ true → FitsAt (variable_access o v offset) count
  variable_fits None v offset count h = h
  variable_fits (Some k) v offset count h = tt

  holder_below : (o : Option ℕ) (v u : ℕ) → unless_homed o v ≡ Some u → nat_lt v edge ≡ true → nat_lt u edge ≡ true
  holder_below None v u found below = let same : v ≡ u = cc in subst (λ (w : ℕ). nat_lt w edge ≡ true) same below
  holder_below (Some h) v u found below = absurd (cc)

  inner_below : (x : Place) (count : ℕ) → is_place known count x ≡ true → (u : ℕ) → holder_in declared x ≡ Some u → nat_lt u edge ≡ true
  inner_below (variable_at line v offset) count typed u found = holder_below (home_in declared v) v u found (left_of (nat_lt v edge) (nat_le (offset + count) (slice_index variables v)) typed)
  inner_below (object_at line k offset) count typed u found = absurd (cc)
  inner_below (literal_at line k) count typed u found = absurd (cc)
  inner_below (pointed line e) count typed u found = absurd (cc)
  inner_below (arrow line e offset) count typed u found = absurd (cc)
  inner_below (member line x offset) count typed u found = inner_below x (offset + count) (right_of _ _ typed) u found
  inner_below (element line x e size whole swapped) count typed u found = inner_below x 0 (right_of _ _ (left_of _ _ typed)) u found
  inner_below (subscript line a e size swapped) count typed u found = absurd (cc)

  evaluated_fits : (o : Option ℕ) (count : ℕ) → ((u : ℕ) → o ≡ Some u → nat_lt u edge ≡ true) → FitsAt (evaluated_access o) count
  evaluated_fits None count below = tt
  evaluated_fits (Some u) count below = below u refl

  fits_place : (x : Place) (count : ℕ) → is_place known count x ≡ true → FitsAt (reached x) count
  fits_place (variable_at line v offset) count typed = variable_fits (home_in declared v) v offset count typed
  fits_place (object_at line k offset) count typed = tt
  fits_place (literal_at line k) count typed = tt
  fits_place (pointed line e) count typed = tt
  fits_place (arrow line e offset) count typed = tt
  fits_place (member line x offset) count typed = evaluated_fits (holder_in declared x) count (inner_below x (offset + count) (right_of _ _ typed))
  fits_place (element line x e size whole swapped) count typed = evaluated_fits (holder_in declared x) count (inner_below x 0 (right_of _ _ (left_of _ _ typed)))
  fits_place (subscript line a e size swapped) count typed = tt

  -- where it is evaluated, the register p has the pointer
  abbrev Points : Access → ℕ → Type 0
  Points way p = is_evaluated way ≡ true → Register registers p UnsignedLong

  whole_taken : (b to v p count : ℕ) → nat_lt v edge ≡ true → Holds p UnsignedLong → is_within blocks b to count ≡ true → operation_fits registers blocks 0 (operations.Take b to v p count (slice_index variables v)) ≡ true
  whole_taken b to v p count there points within =
      subst (λ (whole : ℕ). operation_fits registers blocks 0 (operations.Take b to v p count whole) ≡ true) (get_or_append_left variables others 0 v (test_less v edge there)) (take_fits registers blocks b to v p count points within (wide_there v there))

  whole_put : (v p from to count : ℕ) → nat_lt v edge ≡ true → Holds p UnsignedLong → is_within blocks from to count ≡ true → operation_fits registers blocks 0 (operations.Put v p from to count (slice_index variables v)) ≡ true
  whole_put v p from to count there points within =
      subst (λ (whole : ℕ). operation_fits registers blocks 0 (operations.Put v p from to count whole) ≡ true) (get_or_append_left variables others 0 v (test_less v edge there)) (put_fits registers blocks v p from to count points within (wide_there v there))

  place_read_fits : (line r p : ℕ) (t : IntegerType) (way : Access) (d : ℕ) → FitsAt way (bytes t) → Houses d (access_temporaries (bytes t) way) → Points way p → Holds r t → (k : ℕ) → Fits k (read_code (frame d) line r t way p)
  place_read_fits line r p t (accesses.Variable v offset) d there housed points h k = (load_fits registers blocks r v offset t h (wide v offset (bytes t) there), tt)
  place_read_fits line r p t (accesses.Object object offset) d there housed points h k =
      let free = free_within d 0 (bytes t) (bytes t) (housed_room blocks edge heap d (bytes t) no_temporaries housed) (omega arith) in
      (free, (load_fits registers blocks r d 0 t h free, tt))
  place_read_fits line r p t (accesses.Within v) d there housed points h k =
      let free = free_within d 0 (bytes t) (bytes t) (housed_room blocks edge heap d (bytes t) no_temporaries housed) (omega arith) in
      (whole_taken d 0 v p (bytes t) there (points refl) free, (load_fits registers blocks r d 0 t h free, tt))
  place_read_fits line r p t accesses.Pointed d there housed points h k =
      let free = free_within d 0 (bytes t) (bytes t) (housed_room blocks edge heap d (bytes t) no_temporaries housed) (omega arith) in
      (read_fits registers blocks d 0 p (bytes t) (points refl) free, (load_fits registers blocks r d 0 t h free, tt))

  place_write_fits : (line : ℕ) (t : IntegerType) (way : Access) (p d a : ℕ) → FitsAt way (bytes t) → Houses d (access_temporaries (bytes t) way) → Points way p → Holds a t → (k : ℕ) → Fits k (write_code (frame d) line t way p a)
  place_write_fits line t (accesses.Variable v offset) p d a there housed points h k = (store_fits registers blocks a v offset t h (wide v offset (bytes t) there), tt)
  place_write_fits line t (accesses.Object object offset) p d a there housed points h k =
      let free = free_within d 0 (bytes t) (bytes t) (housed_room blocks edge heap d (bytes t) no_temporaries housed) (omega arith) in
      (store_fits registers blocks a d 0 t h free, (free, tt))
  place_write_fits line t (accesses.Within v) p d a there housed points h k =
      let free = free_within d 0 (bytes t) (bytes t) (housed_room blocks edge heap d (bytes t) no_temporaries housed) (omega arith) in
      (store_fits registers blocks a d 0 t h free, (whole_put v p d 0 (bytes t) there (points refl) free, tt))
  place_write_fits line t accesses.Pointed p d a there housed points h k =
      let free = free_within d 0 (bytes t) (bytes t) (housed_room blocks edge heap d (bytes t) no_temporaries housed) (omega arith) in
      (store_fits registers blocks a d 0 t h free, (write_fits registers blocks p d 0 (bytes t) false (points refl) free, tt))

  -- bytes of a place, into a block, and back
  place_fetch_fits : (line : ℕ) (way : Access) (p size d into to : ℕ) → FitsAt way size → Points way p → is_within blocks into to size ≡ true → (k : ℕ) → Fits k (fetch_code (frame d) line way p size into to)
  place_fetch_fits line (accesses.Variable v offset) p size d into to fits points there k = (copy_bytes_fits registers blocks into to v offset size there (wide v offset size fits), tt)
  place_fetch_fits line (accesses.Object object offset) p size d into to fits points there k = (there, tt)
  place_fetch_fits line (accesses.Within v) p size d into to fits points there k = (whole_taken into to v p size fits (points refl) there, tt)
  place_fetch_fits line accesses.Pointed p size d into to fits points there k = (read_fits registers blocks into to p size (points refl) there, tt)

  place_put_fits : (line : ℕ) (way : Access) (p size d from to : ℕ) → FitsAt way size → Points way p → is_within blocks from to size ≡ true → (k : ℕ) → Fits k (put_code (frame d) line way p size from to)
  place_put_fits line (accesses.Variable v offset) p size d from to fits points there k = (copy_bytes_fits registers blocks v offset from to size (wide v offset size fits) there, tt)
  place_put_fits line (accesses.Object object offset) p size d from to fits points there k = (there, tt)
  place_put_fits line (accesses.Within v) p size d from to fits points there k = (whole_put v p from to size fits (points refl) there, tt)
  place_put_fits line accesses.Pointed p size d from to fits points there k = (write_fits registers blocks p from to size false (points refl) there, tt)

  update_fits : (d at line : ℕ) (t : IntegerType) (way : Access) (p : ℕ) (op : ArithmeticOperator) (u w : IntegerType) (y n : ℕ) → FitsAt way (bytes t) → Houses d (access_temporaries (bytes t) way) → Points way p → are_operands_of op u w ≡ true
      → Holds y w → Has registers n (update_types t u) → (k : ℕ) → Fits k (update_code (frame d) at line t way p op u w y n)
  update_fits d at line t way p op u w y n there housed points operands y_is h k =
      let r2 : Holds (n + 2) u = register_at registers (n + 1 + 1) (n + 2) u (omega arith) h.1.1.0 in
      let r3 : Holds (n + 3) t = register_at registers (n + 1 + 1 + 1) (n + 3) t (omega arith) h.1.1.1.0 in
      let behind =
      at_line (frame d) line (operations.Convert (n + 1) t u n)
      ∷ at_line (frame d) line (operations.Arithmetic (n + 2) op u w (n + 1) y)
      ∷ at_line (frame d) line (operations.Convert (n + 3) u t (n + 2))
      ∷ write_code (frame d) line t way p (n + 3) in
      fit-append registers blocks k (read_code (frame d) at n t way p) behind (place_read_fits at n p t way d there housed points h.0 _) (
        convert_fits registers blocks (n + 1) n t u h.1.0 h.0,
        (
          arithmetic_fits registers blocks (n + 2) (n + 1) y op u w operands r2 h.1.0 y_is,
          (convert_fits registers blocks (n + 3) (n + 2) u t r3 r2, place_write_fits line t way p d (n + 3) there housed points r3 k),
        ),
      )

  -- a pointer that is moved, where its object is looked at
  moving_fits : (is_element : Bool) (line d p i : ℕ) (t : IntegerType) (stride : ℤ) (n : ℕ) → Holds p UnsignedLong → Holds i t → Has registers n (UnsignedLong ∷ UnsignedLong ∷ []) → (k : ℕ) → Fits k (move_code (frame d) is_element line p i t stride n)
  moving_fits is_element line d p i t stride n hp hi h k =
      (look_fits registers blocks n p is_element h.0 hp, (move_fits registers blocks (n + 1) p i n t stride (range_class is_element) h.1.0 hp hi h.0, tt))

  -- so, where the size of the whole object is known
  stepping_fits : (line d p i : ℕ) (t : IntegerType) (size whole n : ℕ) → whole < 2 ^ 31 → Holds p UnsignedLong → Holds i t → Has registers n (UnsignedLong ∷ UnsignedLong ∷ []) → (k : ℕ) → Fits k (element_code (frame d) line p i t size whole n)
  stepping_fits line d p i t size whole n small hp hi h k =
      (pointer_constant_fits registers blocks n whole h.0 (omega (arith, small)), (move_fits registers blocks (n + 1) p i n t (pos size) Bounds h.1.0 hp hi h.0, tt))

  -- an allocation behind what it wants
  granted_fits : (line d b r : ℕ) (granted : List Instruction) → Holds b Int → Holds r UnsignedLong → ((k : ℕ) → Fits k granted) → (k : ℕ) → Fits k (grant_code (frame d) line b r granted)
  granted_fits line d b r granted hb hr fits k = (
    may_fail_fits registers blocks b hb,
    (
      skip_if_fits registers blocks _ b 2 Int hb (omega arith),
      (pointer_constant_fits registers blocks r 0 hr (omega arith), (skip_fits registers blocks _ (length granted) (omega arith), fits k)),
    ),
  )

  logical_fits : (f : Frame) (line : ℕ) (op : LogicalOperator) (x y : ℕ) (t u : IntegerType) (xs : List Instruction) → Holds x t → Holds y u → Holds (y + 1) Int → Holds (y + 2) Int
      → ((k : ℕ) → Fits k xs) → (k : ℕ) → Fits k (logical_code f line op x xs y)
  logical_fits f line logicals.And x y t u xs hx hy h1 h2 fit k =
      let tail = at_line f line (operations.IsZero (y + 1) y) ∷ at_line f line (operations.IsZero (y + 2) (y + 1)) ∷ at_line f line (operations.Skip 1) ∷ at_line f line (operations.Constant (y + 2) 0) ∷ [] in
      let long : length (xs ++ tail) ≡ length xs + 4 = length-append xs tail in (
        skip_if_fits registers blocks _ x _ t hx (omega (arith, long)),
        fit-append registers blocks k xs tail (fit _) (
          is_zero_fits registers blocks (y + 1) y u h1 hy,
          (
            is_zero_fits registers blocks (y + 2) (y + 1) Int h2 h1,
            (
              skip_fits registers blocks _ 1 (omega arith),
              (constant_fits registers blocks (y + 2) 0 Int h2 refl, tt),
            ),
          ),
        ),
      )
  logical_fits f line logicals.Or x y t u xs hx hy h1 h2 fit k =
      let tail = at_line f line (operations.IsZero (y + 1) y) ∷ at_line f line (operations.IsZero (y + 2) (y + 1)) ∷ [] in
      let long : length (xs ++ tail) ≡ length xs + 2 = length-append xs tail in (
        skip_if_fits registers blocks _ x 2 t hx (omega arith),
        (
          constant_fits registers blocks (y + 2) 1 Int h2 refl,
          (
            skip_fits registers blocks _ (length xs + 2) (omega (arith, long)),
            fit-append registers blocks k xs tail (fit _) (
              is_zero_fits registers blocks (y + 1) y u h1 hy,
              (is_zero_fits registers blocks (y + 2) (y + 1) Int h2 h1, tt),
            ),
          ),
        ),
      )

  -- its value's register is there, and its code fits
  pub record Fine (e : Expression) (d n : ℕ) : Type 0 where
    pub value : Register registers (n + top e) (number_type e)
    pub fits : (k : ℕ) → Fit registers blocks k (code (frame d) e n)

  -- an expression with code behind it
  joined : (e : Expression) (d n : ℕ) (tail : List Instruction) → Fine e d n → ((k : ℕ) → Fits k tail) → (k : ℕ) → Fits k (code (frame d) e n ++ tail)
  joined e d n tail fine more k = fit-append registers blocks k (code (frame d) e n) tail (fine.fits _) (more k)

  beyond_structure : (a : Structure) (n : ℕ) (ts : List IntegerType) → Has registers n (structure_types a ++ ts) → Has registers (n + structure_registers a) ts
  beyond_structure a n ts h = has_at registers (n + length (structure_types a)) (n + structure_registers a) ts (ap (λ m. n + m) (structure_length declared a)) (has_right registers n (structure_types a) ts h)

  number_inside : (size offset : ℕ) (t : ValueType) → fits_at size offset t ≡ true → offset + bytes (integer_of t) ≤ size
  number_inside size offset Void h = absurd (false≢true h)
  number_inside size offset (Integer t) h = test_most (offset + bytes t) size h

  zeros_within : (size : ℕ) → size ≤ slice_index blocks edge → is_within blocks edge 0 size ≡ true
  zeros_within size few = within_is registers blocks edge 0 size (less_true edge (length blocks) (omega (arith, length-append variables others, some))) (omega (arith, few))

  text_fits : (text : List ℕ) (f : Frame) (line n into to offset place size : ℕ) → place ≡ to + offset → list_all (λ b. nat_lt b 256) text ≡ true → is_within blocks into to size ≡ true → offset + length text ≤ size → Holds n UnsignedChar
      → (k : ℕ) → Fits k (text_code f line text n into place)
  text_fits [] f line n into to offset place size where_at typed there inner h k = tt
  text_fits (c ∷ cs) f line n into to offset place size where_at typed there inner h k =
      let at : is_within blocks into place 1 ≡ true = subst (λ (p : ℕ). is_within blocks into p 1 ≡ true) (sym where_at) (part_within into to size offset 1 there (omega (arith, inner))) in (
        constant_fits registers blocks n c UnsignedChar h (left_of _ _ typed),
        (store_fits registers blocks n into place UnsignedChar h at, text_fits cs f line n into to (offset + 1) (place + 1) size (omega (arith, where_at)) (right_of _ _ typed) there (omega (arith, inner)) h k),
      )

  -- a call of a function that hands over so many bytes, with its arguments in the blocks from d on, and the block that it hands over to behind them
  called_fits : (d line callee : ℕ) (used : Bool) (size count r : ℕ) → size ≤ slice_index blocks edge → Room blocks (d + count) size → Holds r Int → (k : ℕ) → Fits k (call_code (frame d) line callee used size count r)
  called_fits d line callee used size count r zeros room h k =
      let into : is_within blocks (d + count) 0 size ≡ true = free_within (d + count) 0 size size room (omega arith) in
      let there = room.there in
      let arguments : nat_le (d + count) (length blocks) ≡ true = at_most_true (d + count) (length blocks) (omega (arith, there)) in
      let last : nat_lt (d + count) (length blocks) ≡ true = less_true (d + count) (length blocks) (omega (arith, there)) in (
        copy_bytes_fits registers blocks (d + count) 0 edge 0 size into (zeros_within size zeros),
        (both_true _ _ (both_true _ _ arguments last) (register_is registers blocks r Int h), by_use used k),
      )
    where
      by_use : (used : Bool) (k : ℕ) → Fits k (use_code (frame d) line used r)
      by_use true k = (there_is registers blocks r Int h, tt)
      by_use false k = tt

  taken_fits : (d line : ℕ) (t : ValueType) (b r : ℕ) → Room blocks b (value_size t) → Holds r (integer_of t) → (k : ℕ) → operation_fits registers blocks k (taken_code (frame d) line t b r).operation ≡ true
  taken_fits d line Void b r room h k = constant_fits registers blocks r 0 (integer_of Void) h (zero_fits (integer_of Void))
  taken_fits d line (Integer t) b r room h k = load_fits registers blocks r b 0 t h (free_within b 0 (bytes t) (bytes t) room (omega arith))

  argument_sizes_length : (args : Arguments) → length (argument_sizes args) ≡ argument_count args
  argument_sizes_length no_argument = refl
  argument_sizes_length (number_argument e rest) = omega (arith, argument_sizes_length rest)
  argument_sizes_length (structure_argument a rest) = omega (arith, argument_sizes_length rest)

  -- the blocks of a call: those of its arguments, the one that is handed over to, and those behind
  pub record Passed (d size : ℕ) (args : Arguments) : Type 0 where
    pub arguments : HasTemporaries blocks d (argument_sizes args)
    pub handed : Room blocks (d + argument_count args) size
    pub behind : Housed blocks edge heap (d + (argument_count args + 1)) (arguments_temporaries args)

  passed_temporaries : (d size : ℕ) (args : Arguments) → Houses d (under_all (argument_sizes args) (under size (arguments_temporaries args))) → Passed d size args
  passed_temporaries d size args housed =
      let last = housed_back blocks edge heap d (argument_sizes args) (under size (arguments_temporaries args)) housed in
      let many = argument_sizes_length args in
      let deep : d + length (argument_sizes args) + 1 ≡ d + (argument_count args + 1) = omega (arith, many) in
      record {
        arguments = housed_front blocks edge heap d (argument_sizes args) (under size (arguments_temporaries args)) housed;
        handed = subst (λ (c : ℕ). Room blocks (d + c) size) many (housed_room blocks edge heap (d + length (argument_sizes args)) size (arguments_temporaries args) last);
        behind = subst (λ (c : ℕ). Housed blocks edge heap c (arguments_temporaries args)) deep (housed_under blocks edge heap (d + length (argument_sizes args)) size (arguments_temporaries args) last);
      }

  beyond_arguments : (args : Arguments) (n : ℕ) (ts : List IntegerType) → Has registers n (arguments_types args ++ ts) → Has registers (n + arguments_registers args) ts
  beyond_arguments args n ts h = has_at registers (n + length (arguments_types args)) (n + arguments_registers args) ts (ap (λ m. n + m) (arguments_length declared args)) (has_right registers n (arguments_types args) ts h)

  -- where a place is: its register is there, and the code fits
  pub record Located (x : Place) (d n : ℕ) : Type 0 where
    pub value : Register registers (n + lowering.place_top declared x) UnsignedLong
    pub fits : (k : ℕ) → Fit registers blocks k (place_code (frame d) x n)

  located : (x : Place) (d n : ℕ) (tail : List Instruction) → Located x d n → ((k : ℕ) → Fits k tail) → (k : ℕ) → Fits k (place_code (frame d) x n ++ tail)
  located x d n tail fine more k = fit-append registers blocks k (place_code (frame d) x n) tail (fine.fits _) (more k)

  -- so, where it is evaluated
  pub record Led (z : Bool) (x : Place) (d n : ℕ) : Type 0 where
    pub points : z ≡ true → Register registers (n + lowering.place_top declared x) UnsignedLong
    pub fits : (k : ℕ) → Fit registers blocks k (if z then place_code (frame d) x n else [])

  led_by : (z : Bool) (x : Place) (d n : ℕ) → (Has registers n (place_types x) → Located x d n) → Has registers n (if z then place_types x else []) → Led z x d n
  led_by true x d n found h = let fine = found h in record { points = λ is. fine.value; fits = fine.fits }
  led_by false x d n found h = record { points = λ is. absurd (false≢true is); fits = λ k. tt }

  abbrev Leads : Place → ℕ → ℕ → Type 0
  Leads x d n = Led (is_evaluated (reached x)) x d n

  led : (x : Place) (d n : ℕ) (tail : List Instruction) → Leads x d n → ((k : ℕ) → Fits k tail) → (k : ℕ) → Fits k (if_evaluated (reached x) (place_code (frame d) x n) ++ tail)
  led x d n tail fine more k = fit-append registers blocks k (if_evaluated (reached x) (place_code (frame d) x n)) tail (fine.fits _) (more k)

  -- a pointer's register
  pointer_value : (e : Expression) (d n : ℕ) → Fine e d n → is_pointer (type_of e) ≡ true → Holds (n + top e) UnsignedLong
  pointer_value e d n fine typed = register_of registers (n + top e) (number_type e) UnsignedLong (same_types (type_of e) (Integer UnsignedLong) typed) fine.value

  -- the size of the object in which a place lies is small
  whole_small : (x : Place) (whole : ℕ) → is_size (object_size known x) whole ≡ true → whole < 2 ^ 31
  whole_small (variable_at line v offset) whole is = small_size variables v whole sane.small is
  whole_small (object_at line k offset) whole is = small_size objects (k - 1) whole sane.small_objects is
  whole_small (literal_at line k) whole is = absurd (false≢true is)
  whole_small (pointed line e) whole is = absurd (false≢true is)
  whole_small (arrow line e offset) whole is = absurd (false≢true is)
  whole_small (member line x offset) whole is = whole_small x whole is
  whole_small (element line x e size n swapped) whole is = whole_small x whole is
  whole_small (subscript line a e size swapped) whole is = absurd (false≢true is)

  -- a variable's own offset, or the pointer that is held for it
  base_fits : (line d : ℕ) (v offset count n : ℕ) (o : Option ℕ) → home_in declared v ≡ o → is_within variables v offset count ≡ true → Has registers n (UnsignedLong ∷ UnsignedLong ∷ []) → (k : ℕ) → Fits k (base_code (frame d) line o offset n)
  base_fits line d v offset count n None home typed h k =
      let room = test_most (offset + count) (slice_index variables v) (right_of (nat_lt v edge) (nat_le (offset + count) (slice_index variables v)) typed) in
      let small = sane.small v in
      (pointer_constant_fits registers blocks (n + 1) offset h.1.0 (omega (arith, room, small)), tt)
  base_fits line d v offset count n (Some held_by) home typed h k =
      (load_fits registers blocks n held_by 0 UnsignedLong h.0 (wide held_by 0 8 (sane.homed v held_by home)), (offset_fits registers blocks (n + 1) n offset h.1.0 h.0, tt))

  -- a static object's pointer has 64 bits
  object_bits : (k offset count : ℕ) → is_place known count (object_at 0 k offset) ≡ true → pointer_to k offset < 2 ^ 64
  object_bits k offset count typed =
      let inside = right_of (nat_le 1 k) (is_within objects (k - 1) offset count) typed in
      let there = test_less (k - 1) (length objects) (left_of (nat_lt (k - 1) (length objects)) (nat_le (offset + count) (slice_index objects (k - 1))) inside) in
      let room = test_most (offset + count) (slice_index objects (k - 1)) (right_of (nat_lt (k - 1) (length objects)) (nat_le (offset + count) (slice_index objects (k - 1))) inside) in
      let small = sane.small_objects (k - 1) in
      omega (arith, there, room, small, sane.few_objects)

  literal_bits : (k : ℕ) → k < literals → pointer_to (first_number + k) 0 < 2 ^ 64
  literal_bits k there = omega (arith, there, sane.few_literals)

  -- a part of a pointer's object
  offset_behind : (line d p r offset : ℕ) → Holds p UnsignedLong → Holds r UnsignedLong → (k : ℕ) → Fits k (at_line (frame d) line (operations.Offset r p offset) ∷ [])
  offset_behind line d p r offset hp hr k = (offset_fits registers blocks r p offset hr hp, tt)

  -- the block in which objects are made
  heap_block : nat_lt heap (length blocks) ≡ true
  heap_block = less_true heap (length blocks) sane.heap_there

  heap_clear : (d : ℕ) (a : Temporaries) → Houses d (making a) → operation_fits registers blocks 0 (operations.Clear heap heap_bytes) ≡ true
  heap_clear d a housed =
      let size : slice_index blocks heap ≡ heap_bytes = omega (arith, sane.heap_size, housed_heap blocks edge heap d a housed) in
      subst (λ (n : ℕ). operation_fits registers blocks 0 (operations.Clear heap n) ≡ true) size (clear_fits registers blocks heap heap_block)

  mutual
    pub place_fits : (x : Place) (count d n : ℕ) → edge < d → is_place known count x ≡ true → Houses d (way_temporaries x) → Has registers n (place_types x) → Located x d n
    place_fits (variable_at line v offset) count d n deep typed housed h = record { value = h.1.0; fits = base_fits line d v offset count n (home_in declared v) refl typed h }
    place_fits (object_at line k offset) count d n deep typed housed h =
        record { value = register_at registers n (n + 0) UnsignedLong (omega arith) h.0; fits = λ j. (pointer_constant_fits registers blocks n (pointer_to k offset) h.0 (object_bits k offset count typed), tt) }
    place_fits (literal_at line k) count d n deep typed housed h =
        record { value = register_at registers n (n + 0) UnsignedLong (omega arith) h.0; fits = λ j. (pointer_constant_fits registers blocks n (pointer_to (first_number + k) 0) h.0 (literal_bits k (test_less k literals (right_of _ _ typed))), tt) }
    place_fits (pointed line e) count d n deep typed housed h =
        let fine = expression_fits e d n deep (right_of _ _ typed) housed h in
        record { value = pointer_value e d n fine (right_of _ _ (left_of _ _ typed)); fits = fine.fits }
    place_fits (arrow line e offset) count d n deep typed housed h =
        let fine = expression_fits e d n deep (right_of _ _ typed) housed (within e n _ h) in
        let last = (beyond e n (UnsignedLong ∷ []) h).0 in
        record { value = last; fits = joined e d n _ fine (offset_behind line d (n + top e) (n + (top e + 1)) offset (pointer_value e d n fine (right_of _ _ (left_of _ _ typed))) last) }
    place_fits (member line x offset) count d n deep typed housed h =
        let fine = place_fits x (offset + count) d n deep (right_of _ _ typed) housed (has_left registers n (place_types x) _ h) in
        let last = (beyond_place x n (UnsignedLong ∷ []) h).0 in
        record { value = last; fits = located x d n _ fine (offset_behind line d (n + place_top x) (n + (place_top x + 1)) offset fine.value last) }
    place_fits (element line x e size whole false) count d n deep typed housed h =
        let second = n + (place_top x + 1) in
        let inner = left_of _ _ typed in
        let small = whole_small x whole (right_of _ _ (left_of _ _ (left_of _ _ inner))) in
        let fine = place_fits x 0 d n deep (right_of _ _ inner) (housed_left blocks edge heap d (way_temporaries x) (temporaries e) housed) (has_left registers n (place_types x) _ h) in
        let behind = beyond_place x n (types e ++ UnsignedLong ∷ UnsignedLong ∷ []) h in
        let index = expression_fits e d second deep (right_of _ _ typed) (housed_right blocks edge heap d (way_temporaries x) (temporaries e) housed) (within e second _ behind) in
        let last = beyond e second (UnsignedLong ∷ UnsignedLong ∷ []) behind in
        record {
          value = register_at registers (second + (top e + 1) + 1) (n + (place_top x + (top e + 3))) UnsignedLong (omega arith) last.1.0;
          fits = located x d n _ fine (joined e d second _ index (stepping_fits line d (n + place_top x) (second + top e) (number_type e) size whole (second + (top e + 1)) small fine.value index.value last));
        }
    place_fits (element line x e size whole true) count d n deep typed housed h =
        let second = n + (top e + 1) in
        let inner = left_of _ _ typed in
        let small = whole_small x whole (right_of _ _ (left_of _ _ (left_of _ _ inner))) in
        let index = expression_fits e d n deep (right_of _ _ typed) (housed_right blocks edge heap d (way_temporaries x) (temporaries e) housed) (within e n _ h) in
        let behind = beyond e n (place_types x ++ UnsignedLong ∷ UnsignedLong ∷ []) h in
        let fine = place_fits x 0 d second deep (right_of _ _ inner) (housed_left blocks edge heap d (way_temporaries x) (temporaries e) housed) (has_left registers second (place_types x) _ behind) in
        let last = beyond_place x second (UnsignedLong ∷ UnsignedLong ∷ []) behind in
        record {
          value = register_at registers (second + (place_top x + 1) + 1) (n + (place_top x + (top e + 3))) UnsignedLong (omega arith) last.1.0;
          fits = joined e d n _ index (located x d second _ fine (stepping_fits line d (second + place_top x) (n + top e) (number_type e) size whole (second + (place_top x + 1)) small fine.value index.value last));
        }
    place_fits (subscript line a e size false) count d n deep typed housed h =
        let second = n + (top a + 1) in
        let inner = left_of _ _ typed in
        let fine = expression_fits a d n deep (right_of _ _ inner) (housed_left blocks edge heap d (temporaries a) (temporaries e) housed) (within a n _ h) in
        let behind = beyond a n (types e ++ UnsignedLong ∷ UnsignedLong ∷ []) h in
        let index = expression_fits e d second deep (right_of _ _ typed) (housed_right blocks edge heap d (temporaries a) (temporaries e) housed) (within e second _ behind) in
        let last = beyond e second (UnsignedLong ∷ UnsignedLong ∷ []) behind in
        let pointer = pointer_value a d n fine (right_of _ _ (left_of _ _ (left_of _ _ inner))) in
        record {
          value = register_at registers (second + (top e + 1) + 1) (n + (top a + (top e + 3))) UnsignedLong (omega arith) last.1.0;
          fits = joined a d n _ fine (joined e d second _ index (moving_fits true line d (n + top a) (second + top e) (number_type e) (pos size) (second + (top e + 1)) pointer index.value last));
        }
    place_fits (subscript line a e size true) count d n deep typed housed h =
        let second = n + (top e + 1) in
        let inner = left_of _ _ typed in
        let index = expression_fits e d n deep (right_of _ _ typed) (housed_right blocks edge heap d (temporaries a) (temporaries e) housed) (within e n _ h) in
        let behind = beyond e n (types a ++ UnsignedLong ∷ UnsignedLong ∷ []) h in
        let fine = expression_fits a d second deep (right_of _ _ inner) (housed_left blocks edge heap d (temporaries a) (temporaries e) housed) (within a second _ behind) in
        let last = beyond a second (UnsignedLong ∷ UnsignedLong ∷ []) behind in
        let pointer = pointer_value a d second fine (right_of _ _ (left_of _ _ (left_of _ _ inner))) in
        record {
          value = register_at registers (second + (top a + 1) + 1) (n + (top a + (top e + 3))) UnsignedLong (omega arith) last.1.0;
          fits = joined e d n _ index (joined a d second _ fine (moving_fits true line d (second + top a) (n + top e) (number_type e) (pos size) (second + (top a + 1)) pointer index.value last));
        }

    pub expression_fits : (e : Expression) (d n : ℕ) → edge < d → is_typed known e ≡ true → Houses d (temporaries e) → Has registers n (types e) → Fine e d n
    expression_fits (constant line t bits) d n deep typed housed h =
        record { value = register_at registers n (n + 0) t (omega arith) h.0; fits = λ k. (constant_fits registers blocks n bits t h.0 typed, tt) }
    expression_fits (read t x) d n deep typed housed h =
        let way = led_by (is_evaluated (reached x)) x d n (place_fits x (bytes t) d n deep typed (housed_left blocks edge heap d (way_temporaries x) (number_temporaries t x) housed)) (has_left registers n (way_types x) (t ∷ []) h) in
        let value = (beyond_way x n (t ∷ []) h).0 in
        record {
          value = value;
          fits = led x d n _ way (place_read_fits (place_line x) (n + held x) (n + place_top x) t (reached x) d (fits_place x (bytes t) typed) (housed_right blocks edge heap d (way_temporaries x) (number_temporaries t x) housed) way.points value);
        }
    expression_fits (convert to e) d n deep typed housed h =
        let fine = expression_fits e d n deep (right_of _ _ typed) housed (within e n _ h) in
        let last = (beyond e n (to ∷ []) h).0 in
        record { value = last; fits = joined e d n _ fine (λ k. (convert_fits registers blocks (n + (top e + 1)) (n + top e) (number_type e) to last fine.value, tt)) }
    expression_fits (sign line op e) d n deep typed housed h =
        let fine = expression_fits e d n deep (right_of _ _ typed) housed (within e n _ h) in
        let last = (beyond e n (number_type e ∷ []) h).0 in
        record { value = last; fits = joined e d n _ fine (λ k. (sign_fits registers blocks (n + (top e + 1)) (n + top e) op (number_type e) last fine.value, tt)) }
    expression_fits (is_zero line e) d n deep typed housed h =
        let fine = expression_fits e d n deep (right_of _ _ typed) housed (within e n _ h) in
        let last = (beyond e n (Int ∷ []) h).0 in
        record { value = last; fits = joined e d n _ fine (λ k. (is_zero_fits registers blocks (n + (top e + 1)) (n + top e) (number_type e) last fine.value, tt)) }
    expression_fits (arithmetic line op a b) d n deep typed housed h =
        let second = n + (top a + 1) in
        let both_typed = left_of _ _ typed in
        let left = expression_fits a d n deep (right_of _ _ both_typed) (housed_left blocks edge heap d (temporaries a) (temporaries b) housed) (within a n _ h) in
        let behind = beyond a n (types b ++ number_type a ∷ []) h in
        let right = expression_fits b d second deep (right_of _ _ typed) (housed_right blocks edge heap d (temporaries a) (temporaries b) housed) (within b second _ behind) in
        let last : Holds (n + (top a + (top b + 2))) (number_type a) = register_at registers (second + (top b + 1)) (n + (top a + (top b + 2))) (number_type a) (omega arith) (beyond b second (number_type a ∷ []) behind).0 in
        let operands = operand_widths op (type_of a) (type_of b) (left_of _ _ both_typed) in
        record { value = last; fits = joined a d n _ left (joined b d second _ right (λ k. (arithmetic_fits registers blocks _ (n + top a) (second + top b) op (number_type a) (number_type b) operands last left.value right.value, tt))) }
    expression_fits (compare line op a b) d n deep typed housed h =
        let second = n + (top a + 1) in
        let both_typed = left_of _ _ typed in
        let left = expression_fits a d n deep (right_of _ _ both_typed) (housed_left blocks edge heap d (temporaries a) (temporaries b) housed) (within a n _ h) in
        let behind = beyond a n (types b ++ Int ∷ []) h in
        let right = expression_fits b d second deep (right_of _ _ typed) (housed_right blocks edge heap d (temporaries a) (temporaries b) housed) (within b second _ behind) in
        let last : Holds (n + (top a + (top b + 2))) Int = register_at registers (second + (top b + 1)) (n + (top a + (top b + 2))) Int (omega arith) (beyond b second (Int ∷ []) behind).0 in
        let same = same_types (type_of a) (type_of b) (right_of _ _ (left_of _ _ both_typed)) in
        let other : Holds (second + top b) (number_type a) = register_of registers (second + top b) (number_type b) (number_type a) (sym same) right.value in
        record { value = last; fits = joined a d n _ left (joined b d second _ right (λ k. (compare_fits registers blocks _ (n + top a) (second + top b) op (number_type a) last left.value other, tt))) }
    expression_fits (logical line op a b) d n deep typed housed h =
        let second = n + (top a + 1) in
        let y = second + top b in
        let both_typed = left_of _ _ typed in
        let left = expression_fits a d n deep (right_of _ _ both_typed) (housed_left blocks edge heap d (temporaries a) (temporaries b) housed) (within a n _ h) in
        let behind = beyond a n (types b ++ Int ∷ Int ∷ []) h in
        let right = expression_fits b d second deep (right_of _ _ typed) (housed_right blocks edge heap d (temporaries a) (temporaries b) housed) (within b second _ behind) in
        let last = beyond b second (Int ∷ Int ∷ []) behind in
        let one : Holds (y + 1) Int = register_at registers (second + (top b + 1)) (y + 1) Int (omega arith) last.0 in
        let two : Holds (y + 2) Int = register_at registers (second + (top b + 1) + 1) (y + 2) Int (omega arith) last.1.0 in
        record {
          value = register_at registers (y + 2) (n + (top a + (top b + 3))) Int (omega arith) two;
          fits = joined a d n _ left (logical_fits (frame d) line op (n + top a) y (number_type a) (number_type b) (code (frame d) b second) left.value right.value one two right.fits);
        }
    expression_fits (choice line test a b) d n deep typed housed h =
        let first = n + (top test + 1) in
        let second = first + (top a + 1) in
        let result = second + (top b + 1) in
        let some_typed = left_of _ _ typed in
        let most_typed = left_of _ _ some_typed in
        let tested = expression_fits test d n deep (right_of _ _ most_typed) (housed_left blocks edge heap d (temporaries test) (both (temporaries a) (temporaries b)) housed) (within test n _ h) in
        let behind1 = beyond test n (types a ++ (types b ++ number_type a ∷ [])) h in
        let yes = expression_fits a d first deep (right_of _ _ some_typed) (housed_left blocks edge heap d (temporaries a) (temporaries b) (housed_right blocks edge heap d (temporaries test) (both (temporaries a) (temporaries b)) housed)) (within a first _ behind1) in
        let behind2 = beyond a first (types b ++ number_type a ∷ []) behind1 in
        let no = expression_fits b d second deep (right_of _ _ typed) (housed_right blocks edge heap d (temporaries a) (temporaries b) (housed_right blocks edge heap d (temporaries test) (both (temporaries a) (temporaries b)) housed)) (within b second _ behind2) in
        let last = (beyond b second (number_type a ∷ []) behind2).0 in
        let same = same_types (type_of a) (type_of b) (right_of _ _ (left_of _ _ most_typed)) in
        let other : Holds (second + top b) (number_type a) = register_of registers (second + top b) (number_type b) (number_type a) (sym same) no.value in
        let no_code = code (frame d) b second ++ at_line (frame d) line (operations.Copy result (second + top b)) ∷ [] in
        let long_no : length no_code ≡ length (code (frame d) b second) + 1 = length-append (code (frame d) b second) (at_line (frame d) line (operations.Copy result (second + top b)) ∷ []) in
        let rest = at_line (frame d) line (operations.Copy result (first + top a)) ∷ at_line (frame d) line (operations.Skip (length (code (frame d) b second) + 1)) ∷ no_code in
        let long : length (code (frame d) a first ++ rest) ≡ length (code (frame d) a first) + length rest = length-append (code (frame d) a first) rest in
        record {
          value = register_at registers result (n + (top test + (top a + (top b + 3)))) (number_type a) (omega arith) last;
          fits = joined test d n _ tested (λ k. (
            skip_if_fits registers blocks _ (n + top test) _ (number_type test) tested.value (omega (arith, long)),
            joined a d first _ yes (λ j. (
              copy_fits registers blocks result (first + top a) (number_type a) last yes.value,
              (
                skip_fits registers blocks _ _ (omega (arith, long_no)),
                joined b d second _ no (λ i. (copy_fits registers blocks result (second + top b) (number_type a) last other, tt)) j,
              ),
            )) k,
          ));
        }
    expression_fits (assign line t x e) d n deep typed housed h =
        let m = n + held x in
        let tests = left_of _ _ typed in
        let there = left_of _ _ tests in
        let at_place = housed_right blocks edge heap d (temporaries e) (both (way_temporaries x) (number_temporaries t x)) housed in
        let way = led_by (is_evaluated (reached x)) x d n (place_fits x (bytes t) d n deep there (housed_left blocks edge heap d (way_temporaries x) (number_temporaries t x) at_place)) (has_left registers n (way_types x) (types e) h) in
        let fine = expression_fits e d m deep (right_of _ _ typed) (housed_left blocks edge heap d (temporaries e) (both (way_temporaries x) (number_temporaries t x)) housed) (beyond_way x n (types e) h) in
        let same = same_types (type_of e) (Integer t) (right_of _ _ tests) in
        let value : Holds (m + top e) t = register_of registers (m + top e) (number_type e) t same fine.value in
        record {
          value = register_at registers (m + top e) (n + (held x + top e)) t (omega arith) value;
          fits = led x d n _ way (joined e d m _ fine (place_write_fits line t (reached x) (n + place_top x) d (m + top e) (fits_place x (bytes t) there) (housed_right blocks edge heap d (way_temporaries x) (number_temporaries t x) at_place) way.points value));
        }
    expression_fits (update line t x op u e) d n deep typed housed h =
        let m = n + held x in
        let tests = left_of _ _ typed in
        let there = left_of _ _ tests in
        let at_place = housed_right blocks edge heap d (temporaries e) (both (way_temporaries x) (number_temporaries t x)) housed in
        let way = led_by (is_evaluated (reached x)) x d n (place_fits x (bytes t) d n deep there (housed_left blocks edge heap d (way_temporaries x) (number_temporaries t x) at_place)) (has_left registers n (way_types x) _ h) in
        let inner = beyond_way x n (types e ++ update_types t u) h in
        let fine = expression_fits e d m deep (right_of _ _ typed) (housed_left blocks edge heap d (temporaries e) (both (way_temporaries x) (number_temporaries t x)) housed) (within e m _ inner) in
        let behind = beyond e m (update_types t u) inner in
        record {
          value = register_at registers (m + (top e + 1) + 1 + 1 + 1) (n + (held x + (top e + 4))) t (omega arith) behind.1.1.1.0;
          fits = led x d n _ way (joined e d m _ fine (update_fits d (place_line x) line t (reached x) (n + place_top x) op u (number_type e) (m + top e) (m + (top e + 1)) (fits_place x (bytes t) there) (housed_right blocks edge heap d (way_temporaries x) (number_temporaries t x) at_place) way.points (operand_widths op (Integer u) (type_of e) (right_of _ _ tests)) fine.value behind));
        }
    expression_fits (step line t x op before) d n deep typed housed h =
        let m = n + held x in
        let u = promoted t in
        let way = led_by (is_evaluated (reached x)) x d n (place_fits x (bytes t) d n deep typed (housed_left blocks edge heap d (way_temporaries x) (number_temporaries t x) housed)) (has_left registers n (way_types x) _ h) in
        let inner = beyond_way x n (u ∷ (update_types t u ++ t ∷ [])) h in
        let ups = has_left registers (m + 1) (update_types t u) (t ∷ []) inner.1 in
        let last : Holds (m + 5) t = register_at registers (m + 1 + 4) (m + 5) t (omega arith) (has_right registers (m + 1) (update_types t u) (t ∷ []) inner.1).0 in
        let four : Holds (m + 4) t = register_at registers (m + 1 + 1 + 1 + 1) (m + 4) t (omega arith) ups.1.1.1.0 in
        record {
          value = register_at registers (m + 5) (n + (held x + 5)) t (omega arith) last;
          fits = led x d n _ way (λ k. (
            constant_fits registers blocks m 1 u inner.0 (one_fits u),
            fit-append registers blocks k (update_code (frame d) (place_line x) line t (reached x) (n + place_top x) (step_operation op) u u m (m + 1)) (at_line (frame d) line (operations.Copy (m + 5) (if before then m + 4 else m + 1)) ∷ [])
                (update_fits d (place_line x) line t (reached x) (n + place_top x) (step_operation op) u u m (m + 1) (fits_place x (bytes t) typed) (housed_right blocks edge heap d (way_temporaries x) (number_temporaries t x) housed) way.points (own_operands (step_operation op) u) inner.0 ups _)
                (copy_fits registers blocks (m + 5) (if before then m + 4 else m + 1) t last (chosen_register before (m + 4) (m + 1) t four ups.0), tt),
          ));
        }
    expression_fits (comma line a b) d n deep typed housed h =
        let second = n + (top a + 1) in
        let left = expression_fits a d n deep (left_of _ _ typed) (housed_left blocks edge heap d (temporaries a) (temporaries b) housed) (within a n _ h) in
        let right = expression_fits b d second deep (right_of _ _ typed) (housed_right blocks edge heap d (temporaries a) (temporaries b) housed) (beyond a n (types b) h) in
        record { value = register_at registers (second + top b) (n + (top a + (top b + 1))) (number_type b) (omega arith) right.value; fits = joined a d n _ left right.fits }
    expression_fits (assertion line e) d n deep typed housed h =
        let fine = expression_fits e d n deep (right_of _ _ typed) housed (within e n _ h) in
        let last = (beyond e n (Int ∷ []) h).0 in
        record { value = last; fits = joined e d n _ fine (λ k. (there_is registers blocks (n + top e) (number_type e) fine.value, (constant_fits registers blocks (n + (top e + 1)) 0 Int last refl, tt))) }
    expression_fits (assumption line e) d n deep typed housed h =
        let fine = expression_fits e d n deep (right_of _ _ typed) housed (within e n _ h) in
        let last = (beyond e n (Int ∷ []) h).0 in
        record { value = last; fits = joined e d n _ fine (λ k. (there_is registers blocks (n + top e) (number_type e) fine.value, (constant_fits registers blocks (n + (top e + 1)) 0 Int last refl, tt))) }
    expression_fits (draw line t) d n deep typed housed h =
        record { value = register_at registers n (n + 0) t (omega arith) h.0; fits = λ k. (draw_fits registers blocks n (drawn_width t) t h.0 (some_drawn t) (few_drawn t), tt) }
    expression_fits (part line t offset a) d n deep typed housed h =
        let free = housed_room blocks edge heap d (size_of a) (structure_temporaries a) housed in
        let inner = test_most (offset + bytes t) (size_of a) (left_of _ _ typed) in
        let last : Holds (n + structure_registers a) t = (beyond_structure a n (t ∷ []) h).0 in
        record {
          value = last;
          fits = λ k. fit-append registers blocks k (structure_code (frame (d + 1)) a n d 0) (at_line (frame d) line (operations.Load (n + structure_registers a) t d offset) ∷ [])
              (structure_fits a (d + 1) n d 0 (omega (arith, deep)) (right_of _ _ typed) (housed_under blocks edge heap d (size_of a) (structure_temporaries a) housed) (free_within d 0 (size_of a) (size_of a) free (omega arith)) (has_left registers n (structure_types a) (t ∷ []) h) _)
              (load_fits registers blocks (n + structure_registers a) d offset t last (free_within d offset (bytes t) (size_of a) free inner), tt);
        }
    expression_fits (discard line e) d n deep typed housed h =
        let fine = expression_fits e d n deep (right_of _ _ typed) housed (within e n _ h) in
        let last = (beyond e n (Int ∷ []) h).0 in
        record { value = last; fits = joined e d n _ fine (λ k. (constant_fits registers blocks (n + (top e + 1)) 0 Int last refl, tt)) }
    expression_fits (discard_structure a) d n deep typed housed h =
        let free = housed_room blocks edge heap d (size_of a) (structure_temporaries a) housed in
        let last : Holds (n + structure_registers a) Int = (beyond_structure a n (Int ∷ []) h).0 in
        record {
          value = last;
          fits = λ k. fit-append registers blocks k (structure_code (frame (d + 1)) a n d 0) (at_line (frame d) (structure_line a) (operations.Constant (n + structure_registers a) 0) ∷ [])
              (structure_fits a (d + 1) n d 0 (omega (arith, deep)) typed (housed_under blocks edge heap d (size_of a) (structure_temporaries a) housed) (free_within d 0 (size_of a) (size_of a) free (omega arith)) (has_left registers n (structure_types a) (Int ∷ []) h) _)
              (constant_fits registers blocks (n + structure_registers a) 0 Int last refl, tt);
        }
    expression_fits (call line callee used t args) d n deep typed housed h =
        let count = argument_count args in
        let r = n + arguments_registers args in
        let size = value_size t in
        let all = passed_temporaries d size args (housed_behind blocks edge heap d size (under_all (argument_sizes args) (under size (arguments_temporaries args))) housed) in
        let behind = beyond_arguments args n (Int ∷ integer_of t ∷ []) h in
        let value : Holds (n + (arguments_registers args + 1)) (integer_of t) = register_at registers (r + 1) (n + (arguments_registers args + 1)) (integer_of t) (omega arith) behind.1.0 in
        record {
          value = value;
          fits = λ k. fit-append registers blocks k (arguments_code (frame (d + (count + 1))) args n d) (call_code (frame d) line callee used size count r ++ taken_code (frame d) line t (d + count) (r + 1) ∷ [])
              (arguments_fit args (parameters_of (slice_get functions callee)) (d + (count + 1)) n d (omega (arith, deep)) (right_of _ _ typed) all.behind all.arguments (has_left registers n (arguments_types args) (Int ∷ integer_of t ∷ []) h) _)
              (fit-append registers blocks k (call_code (frame d) line callee used size count r) (taken_code (frame d) line t (d + count) (r + 1) ∷ [])
              (called_fits d line callee used size count r (housed_zeros blocks edge heap d size (under_all (argument_sizes args) (under size (arguments_temporaries args))) housed) all.handed behind.0 _)
              (taken_fits d line t (d + count) (r + 1) all.handed behind.1.0 _, tt));
        }
    expression_fits (function_name line) d n deep typed housed h =
        record { value = register_at registers n (n + 0) Int (omega arith) h.0; fits = λ k. (constant_fits registers blocks n 0 Int h.0 refl, tt) }
    expression_fits (size_of_value line bits e) d n deep typed housed h =
        record { value = register_at registers n (n + 0) UnsignedLong (omega arith) h.0; fits = λ k. (constant_fits registers blocks n bits UnsignedLong h.0 (left_of _ _ typed), tt) }
    expression_fits (size_of_structure line bits a) d n deep typed housed h =
        record { value = register_at registers n (n + 0) UnsignedLong (omega arith) h.0; fits = λ k. (constant_fits registers blocks n bits UnsignedLong h.0 (left_of _ _ typed), tt) }
    expression_fits (address line x) d n deep typed housed h = let fine = place_fits x 0 d n deep (right_of _ _ typed) housed h in record { value = fine.value; fits = fine.fits }
    expression_fits (sum line a e i false) d n deep typed housed h =
        let second = n + (top a + 1) in
        let inner = left_of _ _ typed in
        let fine = expression_fits a d n deep (right_of _ _ inner) (housed_left blocks edge heap d (temporaries a) (temporaries e) housed) (within a n _ h) in
        let behind = beyond a n (types e ++ UnsignedLong ∷ UnsignedLong ∷ []) h in
        let index = expression_fits e d second deep (right_of _ _ typed) (housed_right blocks edge heap d (temporaries a) (temporaries e) housed) (within e second _ behind) in
        let last = beyond e second (UnsignedLong ∷ UnsignedLong ∷ []) behind in
        let pointer = pointer_value a d n fine (right_of _ _ (left_of _ _ (left_of _ _ inner))) in
        record {
          value = register_at registers (second + (top e + 1) + 1) (n + (top a + (top e + 3))) UnsignedLong (omega arith) last.1.0;
          fits = joined a d n _ fine (joined e d second _ index (moving_fits false line d (n + top a) (second + top e) (number_type e) i (second + (top e + 1)) pointer index.value last));
        }
    expression_fits (sum line a e i true) d n deep typed housed h =
        let second = n + (top e + 1) in
        let inner = left_of _ _ typed in
        let index = expression_fits e d n deep (right_of _ _ typed) (housed_right blocks edge heap d (temporaries a) (temporaries e) housed) (within e n _ h) in
        let behind = beyond e n (types a ++ UnsignedLong ∷ UnsignedLong ∷ []) h in
        let fine = expression_fits a d second deep (right_of _ _ inner) (housed_left blocks edge heap d (temporaries a) (temporaries e) housed) (within a second _ behind) in
        let last = beyond a second (UnsignedLong ∷ UnsignedLong ∷ []) behind in
        let pointer = pointer_value a d second fine (right_of _ _ (left_of _ _ (left_of _ _ inner))) in
        record {
          value = register_at registers (second + (top a + 1) + 1) (n + (top a + (top e + 3))) UnsignedLong (omega arith) last.1.0;
          fits = joined e d n _ index (joined a d second _ fine (moving_fits false line d (second + top a) (n + top e) (number_type e) i (second + (top a + 1)) pointer index.value last));
        }
    expression_fits (distance line a b i) d n deep typed housed h =
        let second = n + (top a + 1) in
        let tests = left_of _ _ (left_of _ _ typed) in
        let left = expression_fits a d n deep (right_of _ _ (left_of _ _ typed)) (housed_left blocks edge heap d (temporaries a) (temporaries b) housed) (within a n _ h) in
        let behind = beyond a n (types b ++ Long ∷ []) h in
        let right = expression_fits b d second deep (right_of _ _ typed) (housed_right blocks edge heap d (temporaries a) (temporaries b) housed) (within b second _ behind) in
        let p = pointer_value a d n left (right_of _ _ (left_of _ _ tests)) in
        let q = pointer_value b d second right (right_of _ _ tests) in
        let last : Holds (second + top b + 1) Long = register_at registers (second + (top b + 1)) (second + top b + 1) Long (omega arith) (beyond b second (Long ∷ []) behind).0 in
        record {
          value = register_at registers (second + top b + 1) (n + (top a + (top b + 2))) Long (omega arith) last;
          fits = joined a d n _ left (joined b d second _ right (λ k. (same_fits registers blocks (n + top a) (second + top b) p q, (distance_fits registers blocks (second + top b + 1) (n + top a) (second + top b) i last p q (test_less 0 i (right_of _ _ (left_of _ _ (left_of _ _ tests)))), tt))));
        }
    expression_fits (relation line op a b) d n deep typed housed h =
        let second = n + (top a + 1) in
        let tests = left_of _ _ (left_of _ _ typed) in
        let left = expression_fits a d n deep (right_of _ _ (left_of _ _ typed)) (housed_left blocks edge heap d (temporaries a) (temporaries b) housed) (within a n _ h) in
        let behind = beyond a n (types b ++ Int ∷ []) h in
        let right = expression_fits b d second deep (right_of _ _ typed) (housed_right blocks edge heap d (temporaries a) (temporaries b) housed) (within b second _ behind) in
        let p = pointer_value a d n left (right_of _ _ (left_of _ _ tests)) in
        let q = pointer_value b d second right (right_of _ _ tests) in
        let last : Holds (second + top b + 1) Int = register_at registers (second + (top b + 1)) (second + top b + 1) Int (omega arith) (beyond b second (Int ∷ []) behind).0 in
        record {
          value = register_at registers (second + top b + 1) (n + (top a + (top b + 2))) Int (omega arith) last;
          fits = joined a d n _ left (joined b d second _ right (λ k. (same_fits registers blocks (n + top a) (second + top b) p q, (relate_fits registers blocks (second + top b + 1) (n + top a) (second + top b) op last p q, tt))));
        }
    expression_fits (pointer_update line x i e) d n deep typed housed h =
        let m = n + held x in
        let p = m + (top e + 1) in
        let there = right_of _ _ (left_of _ _ typed) in
        let at_place = housed_right blocks edge heap d (temporaries e) (both (way_temporaries x) (number_temporaries UnsignedLong x)) housed in
        let number = housed_right blocks edge heap d (way_temporaries x) (number_temporaries UnsignedLong x) at_place in
        let way = led_by (is_evaluated (reached x)) x d n (place_fits x 8 d n deep there (housed_left blocks edge heap d (way_temporaries x) (number_temporaries UnsignedLong x) at_place)) (has_left registers n (way_types x) _ h) in
        let inner = beyond_way x n (types e ++ UnsignedLong ∷ UnsignedLong ∷ UnsignedLong ∷ []) h in
        let fine = expression_fits e d m deep (right_of _ _ typed) (housed_left blocks edge heap d (temporaries e) (both (way_temporaries x) (number_temporaries UnsignedLong x)) housed) (within e m _ inner) in
        let behind = beyond e m (UnsignedLong ∷ UnsignedLong ∷ UnsignedLong ∷ []) inner in
        let last : Holds (p + 2) UnsignedLong = register_at registers (p + 1 + 1) (p + 2) UnsignedLong (omega arith) behind.1.1.0 in
        let writes = write_code (frame d) line UnsignedLong (reached x) (n + place_top x) (p + 2) in
        let moves = move_code (frame d) false line p (m + top e) (number_type e) i (p + 1) in
        record {
          value = register_at registers (p + 2) (n + (held x + (top e + 3))) UnsignedLong (omega arith) last;
          fits = led x d n _ way (joined e d m _ fine (λ k.
              fit-append registers blocks k (read_code (frame d) (place_line x) p UnsignedLong (reached x) (n + place_top x)) (moves ++ writes)
              (place_read_fits (place_line x) p (n + place_top x) UnsignedLong (reached x) d (fits_place x 8 there) number way.points behind.0 _)
              (fit-append registers blocks k moves writes (moving_fits false line d p (m + top e) (number_type e) i (p + 1) behind.0 fine.value behind.1 (length writes + k))
              (place_write_fits line UnsignedLong (reached x) (n + place_top x) d (p + 2) (fits_place x 8 there) number way.points last k))));
        }
    expression_fits (pointer_step line x i before) d n deep typed housed h =
        let m = n + held x in
        let there = right_of _ _ typed in
        let number = housed_right blocks edge heap d (way_temporaries x) (number_temporaries UnsignedLong x) housed in
        let way = led_by (is_evaluated (reached x)) x d n (place_fits x 8 d n deep there (housed_left blocks edge heap d (way_temporaries x) (number_temporaries UnsignedLong x) housed)) (has_left registers n (way_types x) _ h) in
        let inner = beyond_way x n (Int ∷ UnsignedLong ∷ UnsignedLong ∷ UnsignedLong ∷ UnsignedLong ∷ []) h in
        let two : Has registers (m + 2) (UnsignedLong ∷ UnsignedLong ∷ []) = has_at registers (m + 1 + 1) (m + 2) (UnsignedLong ∷ UnsignedLong ∷ []) (omega arith) (inner.1.1.0, (inner.1.1.1.0, tt)) in
        let three : Holds (m + 3) UnsignedLong = register_at registers (m + 1 + 1 + 1) (m + 3) UnsignedLong (omega arith) inner.1.1.1.0 in
        let last : Holds (m + 4) UnsignedLong = register_at registers (m + 1 + 1 + 1 + 1) (m + 4) UnsignedLong (omega arith) inner.1.1.1.1.0 in
        let copies : List Instruction = at_line (frame d) line (operations.Copy (m + 4) (if before then m + 3 else m + 1)) ∷ [] in
        let writes = write_code (frame d) line UnsignedLong (reached x) (n + place_top x) (m + 3) in
        let moves = move_code (frame d) false line (m + 1) m Int i (m + 2) in
        record {
          value = register_at registers (m + 4) (n + (held x + 4)) UnsignedLong (omega arith) last;
          fits = led x d n _ way (λ k. (
            constant_fits registers blocks m 1 Int inner.0 refl,
            fit-append registers blocks k (read_code (frame d) (place_line x) (m + 1) UnsignedLong (reached x) (n + place_top x)) (moves ++ (writes ++ copies))
                (place_read_fits (place_line x) (m + 1) (n + place_top x) UnsignedLong (reached x) d (fits_place x 8 there) number way.points inner.1.0 _)
                (fit-append registers blocks k moves (writes ++ copies) (moving_fits false line d (m + 1) m Int i (m + 2) inner.1.0 inner.0 two (length (writes ++ copies) + k))
                (fit-append registers blocks k writes copies (place_write_fits line UnsignedLong (reached x) (n + place_top x) d (m + 3) (fits_place x 8 there) number way.points three _)
                (copy_fits registers blocks (m + 4) (if before then m + 3 else m + 1) UnsignedLong last (chosen_register before (m + 3) (m + 1) UnsignedLong three inner.1.0), tt))),
          ));
        }
    expression_fits (allocate line e) d n deep typed housed h =
        let size = n + top e in
        let fine = expression_fits e d n deep (right_of _ _ typed) (housed_making blocks edge heap d (temporaries e) housed) (within e n _ h) in
        let wanted = pointer_value e d n fine (right_of _ _ (left_of _ _ typed)) in
        let behind = beyond e n (Int ∷ UnsignedLong ∷ UnsignedLong ∷ []) h in
        let one : Holds (size + 1) Int = register_at registers (n + (top e + 1)) (size + 1) Int (omega arith) behind.0 in
        let two : Holds (size + 2) UnsignedLong = register_at registers (n + (top e + 1) + 1) (size + 2) UnsignedLong (omega arith) behind.1.0 in
        let three : Holds (size + 3) UnsignedLong = register_at registers (n + (top e + 1) + 1 + 1) (size + 3) UnsignedLong (omega arith) behind.1.1.0 in
        let granted : List Instruction =
        at_line (frame d) line (operations.Constant (size + 2) 1)
        ∷ at_line (frame d) line (operations.Limit size (size + 2))
        ∷ at_line (frame d) line (operations.Fill heap size)
        ∷ at_line (frame d) line (operations.Alloc (size + 3) heap size false true)
        ∷ [] in
        record {
          value = register_at registers (size + 3) (n + (top e + 3)) UnsignedLong (omega arith) three;
          fits = joined e d n _ fine (granted_fits line d (size + 1) (size + 3) granted one three (λ k. (
            pointer_constant_fits registers blocks (size + 2) 1 two (omega arith),
            (limit_fits registers blocks size (size + 2) wanted two, (fill_fits registers blocks heap size heap_block wanted, (alloc_fits registers blocks (size + 3) heap size false true three heap_block wanted, tt))),
          )));
        }
    expression_fits (allocate_zeroed line a b) d n deep typed housed h =
        let second = n + (top a + 1) in
        let size = second + top b in
        let tests = left_of _ _ (left_of _ _ typed) in
        let parts = housed_making blocks edge heap d (both (temporaries a) (temporaries b)) housed in
        let left = expression_fits a d n deep (right_of _ _ (left_of _ _ typed)) (housed_left blocks edge heap d (temporaries a) (temporaries b) parts) (within a n _ h) in
        let behind1 = beyond a n (types b ++ Int ∷ UnsignedLong ∷ UnsignedLong ∷ []) h in
        let right = expression_fits b d second deep (right_of _ _ typed) (housed_right blocks edge heap d (temporaries a) (temporaries b) parts) (within b second _ behind1) in
        let count = pointer_value a d n left (right_of _ _ (left_of _ _ tests)) in
        let each = pointer_value b d second right (right_of _ _ tests) in
        let behind = beyond b second (Int ∷ UnsignedLong ∷ UnsignedLong ∷ []) behind1 in
        let one : Holds (size + 1) Int = register_at registers (second + (top b + 1)) (size + 1) Int (omega arith) behind.0 in
        let two : Holds (size + 2) UnsignedLong = register_at registers (second + (top b + 1) + 1) (size + 2) UnsignedLong (omega arith) behind.1.0 in
        let three : Holds (size + 3) UnsignedLong = register_at registers (second + (top b + 1) + 1 + 1) (size + 3) UnsignedLong (omega arith) behind.1.1.0 in
        let granted : List Instruction =
        at_line (frame d) line (operations.Limit (n + top a) size)
        ∷ at_line (frame d) line (operations.Arithmetic (size + 2) arithmetics.Multiply UnsignedLong UnsignedLong (n + top a) size)
        ∷ at_line (frame d) line (operations.Clear heap heap_bytes)
        ∷ at_line (frame d) line (operations.Alloc (size + 3) heap (size + 2) false true)
        ∷ [] in
        record {
          value = register_at registers (size + 3) (n + (top a + (top b + 4))) UnsignedLong (omega arith) three;
          fits = joined a d n _ left (joined b d second _ right (granted_fits line d (size + 1) (size + 3) granted one three (λ k. (
            limit_fits registers blocks (n + top a) size count each,
            (
              arithmetic_fits registers blocks (size + 2) (n + top a) size arithmetics.Multiply UnsignedLong UnsignedLong (own_operands arithmetics.Multiply UnsignedLong) two count each,
              (heap_clear d (both (temporaries a) (temporaries b)) housed, (alloc_fits registers blocks (size + 3) heap (size + 2) false true three heap_block two, tt)),
            ),
          ))));
        }
    expression_fits (release line e) d n deep typed housed h =
        let p = n + top e in
        let fine = expression_fits e d n deep (right_of _ _ typed) housed (within e n _ h) in
        let pointer = pointer_value e d n fine (right_of _ _ (left_of _ _ typed)) in
        let last : Holds (p + 1) Int = register_at registers (n + (top e + 1)) (p + 1) Int (omega arith) (beyond e n (Int ∷ []) h).0 in
        record {
          value = register_at registers (p + 1) (n + (top e + 1)) Int (omega arith) last;
          fits = joined e d n _ fine (λ k. (skip_if_fits registers blocks _ p 1 UnsignedLong pointer (omega arith), (free_fits registers blocks p pointer, (constant_fits registers blocks (p + 1) 0 Int last refl, tt))));
        }
    expression_fits (exit line e) d n deep typed housed h =
        let fine = expression_fits e d n deep (right_of _ _ typed) housed (within e n _ h) in
        record { value = (beyond e n (Int ∷ []) h).0; fits = joined e d n _ fine (λ k. (refl, tt)) }
    expression_fits (abort line) d n deep typed housed h = record { value = register_at registers n (n + 0) Int (omega arith) h.0; fits = λ k. (refl, tt) }

    pub structure_fits : (a : Structure) (d n into to : ℕ) → edge < d → is_structure known a ≡ true → Houses d (structure_temporaries a) → is_within blocks into to (size_of a) ≡ true → Has registers n (structure_types a) → (k : ℕ) → Fits k (structure_code (frame d) a n into to)
    structure_fits (copy x size) d n into to deep typed housed there h k =
        let way = led_by (is_evaluated (reached x)) x d n (place_fits x size d n deep typed housed) h in
        led x d n _ way (place_fetch_fits (place_line x) (reached x) (n + place_top x) size d into to (fits_place x size typed) way.points there) k
    structure_fits (choose line test a b) d n into to deep typed housed there h k =
        let first = n + (top test + 1) in
        let second = first + structure_registers a in
        let some_typed = left_of _ _ typed in
        let most_typed = left_of _ _ some_typed in
        let same = test_equal (size_of a) (size_of b) (right_of _ _ (left_of _ _ most_typed)) in
        let ways = housed_right blocks edge heap d (temporaries test) (both (structure_temporaries a) (structure_temporaries b)) housed in
        let tested = expression_fits test d n deep (right_of _ _ most_typed) (housed_left blocks edge heap d (temporaries test) (both (structure_temporaries a) (structure_temporaries b)) housed) (within test n (structure_types a ++ structure_types b) h) in
        let behind = beyond test n (structure_types a ++ structure_types b) h in
        let last = beyond_structure a first (structure_types b) behind in
        let yes = structure_code (frame d) a first into to in
        let no = structure_code (frame d) b second into to in
        let over = at_line (frame d) line (operations.Skip (length no)) in
        let long : length (yes ++ over ∷ no) ≡ length yes + length (over ∷ no) = length-append yes (over ∷ no) in
        let other : is_within blocks into to (size_of b) ≡ true = subst (λ (size : ℕ). is_within blocks into to size ≡ true) same there in
        joined test d n (at_line (frame d) line (operations.SkipIfZero (n + top test) (length yes + 1)) ∷ (yes ++ over ∷ no)) tested (λ j. (
          skip_if_fits registers blocks _ (n + top test) (length yes + 1) (number_type test) tested.value (omega (arith, long)),
          fit-append registers blocks j yes (over ∷ no) (structure_fits a d first into to deep (right_of _ _ some_typed) (housed_left blocks edge heap d (structure_temporaries a) (structure_temporaries b) ways) there (has_left registers first (structure_types a) (structure_types b) behind) _)
              (skip_fits registers blocks _ (length no) (omega arith), structure_fits b d second into to deep (right_of _ _ typed) (housed_right blocks edge heap d (structure_temporaries a) (structure_temporaries b) ways) other last j),
        )) k
    structure_fits (put line x a) d n into to deep typed housed there h k =
        let m = n + held x in
        let at = left_of _ _ typed in
        let way = led_by (is_evaluated (reached x)) x d n (place_fits x (size_of a) d n deep at (housed_right blocks edge heap d (structure_temporaries a) (way_temporaries x) housed)) (has_left registers n (way_types x) (structure_types a) h) in
        led x d n _ way (λ j.
        fit-append registers blocks j (structure_code (frame d) a m into to) (put_code (frame d) line (reached x) (n + place_top x) (size_of a) into to)
        (structure_fits a d m into to deep (right_of _ _ typed) (housed_left blocks edge heap d (structure_temporaries a) (way_temporaries x) housed) there (beyond_way x n (structure_types a) h) _)
        (place_put_fits line (reached x) (n + place_top x) (size_of a) d into to (fits_place x (size_of a) at) way.points there j)) k
    structure_fits (follow line e a) d n into to deep typed housed there h k =
        let fine = expression_fits e d n deep (left_of _ _ typed) (housed_left blocks edge heap d (temporaries e) (structure_temporaries a) housed) (within e n (structure_types a) h) in
        joined e d n (structure_code (frame d) a (n + (top e + 1)) into to) fine (λ j. structure_fits a d (n + (top e + 1)) into to deep (right_of _ _ typed) (housed_right blocks edge heap d (temporaries e) (structure_temporaries a) housed) there (beyond e n (structure_types a) h) j) k
    structure_fits (section line offset size a) d n into to deep typed housed there h k =
        let free = housed_room blocks edge heap d (size_of a) (structure_temporaries a) housed in
        let inner = test_most (offset + size) (size_of a) (left_of _ _ typed) in
        fit-append registers blocks k (structure_code (frame (d + 1)) a n d 0) (at_line (frame d) line (operations.CopyBytes into to d offset size) ∷ [])
        (structure_fits a (d + 1) n d 0 (omega (arith, deep)) (right_of _ _ typed) (housed_under blocks edge heap d (size_of a) (structure_temporaries a) housed) (free_within d 0 (size_of a) (size_of a) free (omega arith)) h _)
        (copy_bytes_fits registers blocks into to d offset size there (free_within d offset size (size_of a) free inner), tt)
    structure_fits (list line size ps) d n into to deep typed housed there h k =
        (copy_bytes_fits registers blocks into to edge 0 size there (zeros_within size (housed_zeros blocks edge heap d size (parts_temporaries ps) housed)), parts_fit ps line d n into to size deep (right_of _ _ typed) (housed_behind blocks edge heap d size (parts_temporaries ps) housed) there h k)
    structure_fits (string line size text) d n into to deep typed housed there h k =
        let few = test_most (length text) size (right_of _ _ (left_of _ _ typed)) in
        let whole : 0 + length text ≤ size = omega (arith, few) in (
          copy_bytes_fits registers blocks into to edge 0 size there (zeros_within size (housed_zeros blocks edge heap d size no_temporaries housed)),
          text_fits text (frame d) line n into to 0 to size (omega arith) (right_of _ _ typed) there whole h.0 k,
        )
    structure_fits (give line callee used size args) d n into to deep typed housed there h k =
        let count = argument_count args in
        let r = n + arguments_registers args in
        let all = passed_temporaries d size args (housed_behind blocks edge heap d size (under_all (argument_sizes args) (under size (arguments_temporaries args))) housed) in
        let behind = beyond_arguments args n (Int ∷ []) h in
        fit-append registers blocks k (arguments_code (frame (d + (count + 1))) args n d) (call_code (frame d) line callee used size count r ++ at_line (frame d) line (operations.CopyBytes into to (d + count) 0 size) ∷ [])
        (arguments_fit args (parameters_of (slice_get functions callee)) (d + (count + 1)) n d (omega (arith, deep)) (right_of _ _ typed) all.behind all.arguments (has_left registers n (arguments_types args) (Int ∷ []) h) _)
        (fit-append registers blocks k (call_code (frame d) line callee used size count r) (at_line (frame d) line (operations.CopyBytes into to (d + count) 0 size) ∷ [])
        (called_fits d line callee used size count r (housed_zeros blocks edge heap d size (under_all (argument_sizes args) (under size (arguments_temporaries args))) housed) all.handed behind.0 _)
        (copy_bytes_fits registers blocks into to (d + count) 0 size there (free_within (d + count) 0 size size all.handed (omega arith)), tt))

    pub parts_fit : (ps : Parts) (line d n into to size : ℕ) → edge < d → are_parts known size ps ≡ true → Houses d (parts_temporaries ps) → is_within blocks into to size ≡ true → Has registers n (parts_types ps) → (k : ℕ) → Fits k (parts_code (frame d) line ps n into to)
    parts_fit no_part line d n into to size deep typed housed there h k = tt
    parts_fit (number_part offset e rest) line d n into to size deep typed housed there h k =
        let fine = expression_fits e d n deep (right_of _ _ (left_of _ _ typed)) (housed_left blocks edge heap d (temporaries e) (parts_temporaries rest) housed) (within e n (parts_types rest) h) in
        let inner = number_inside size offset (type_of e) (left_of _ _ (left_of _ _ typed)) in
        joined e d n (at_line (frame d) line (operations.Store into (to + offset) (bytes (number_type e)) (n + top e)) ∷ parts_code (frame d) line rest (n + (top e + 1)) into to) fine (λ j. (
          store_fits registers blocks (n + top e) into (to + offset) (number_type e) fine.value (part_within into to size offset (bytes (number_type e)) there inner),
          parts_fit rest line d (n + (top e + 1)) into to size deep (right_of _ _ typed) (housed_right blocks edge heap d (temporaries e) (parts_temporaries rest) housed) there (beyond e n (parts_types rest) h) j,
        )) k
    parts_fit (structure_part offset a rest) line d n into to size deep typed housed there h k =
        let inner = test_most (offset + size_of a) size (left_of _ _ (left_of _ _ typed)) in
        fit-append registers blocks k (structure_code (frame d) a n into (to + offset)) (parts_code (frame d) line rest (n + structure_registers a) into to)
        (structure_fits a d n into (to + offset) deep (right_of _ _ (left_of _ _ typed)) (housed_left blocks edge heap d (structure_temporaries a) (parts_temporaries rest) housed) (part_within into to size offset (size_of a) there inner) (has_left registers n (structure_types a) (parts_types rest) h) _)
        (parts_fit rest line d (n + structure_registers a) into to size deep (right_of _ _ typed) (housed_right blocks edge heap d (structure_temporaries a) (parts_temporaries rest) housed) there (beyond_structure a n (parts_types rest) h) k)

    -- arguments, the first into the block b
    pub arguments_fit : (args : Arguments) (ps : List PassedType) (d n b : ℕ) → edge < d → are_arguments known ps args ≡ true → Houses d (arguments_temporaries args) → HasTemporaries blocks b (argument_sizes args) → Has registers n (arguments_types args)
        → (k : ℕ) → Fits k (arguments_code (frame d) args n b)
    arguments_fit no_argument ps d n b deep typed housed there h k = tt
    arguments_fit (number_argument e rest) [] d n b deep typed housed there h k = absurd (false≢true typed)
    arguments_fit (number_argument e rest) (p ∷ ps) d n b deep typed housed there h k =
        let fine = expression_fits e d n deep (right_of _ _ (left_of _ _ typed)) (housed_left blocks edge heap d (temporaries e) (arguments_temporaries rest) housed) (within e n (arguments_types rest) h) in
        joined e d n (at_line (frame d) (line_of e) (operations.Store b 0 (bytes (number_type e)) (n + top e)) ∷ arguments_code (frame d) rest (n + (top e + 1)) (b + 1)) fine (λ j. (
          store_fits registers blocks (n + top e) b 0 (number_type e) fine.value (free_within b 0 (bytes (number_type e)) (bytes (number_type e)) there.0 (omega arith)),
          arguments_fit rest ps d (n + (top e + 1)) (b + 1) deep (right_of _ _ typed) (housed_right blocks edge heap d (temporaries e) (arguments_temporaries rest) housed) there.1 (beyond e n (arguments_types rest) h) j,
        )) k
    arguments_fit (structure_argument a rest) [] d n b deep typed housed there h k = absurd (false≢true typed)
    arguments_fit (structure_argument a rest) (p ∷ ps) d n b deep typed housed there h k =
        fit-append registers blocks k (structure_code (frame d) a n b 0) (arguments_code (frame d) rest (n + structure_registers a) (b + 1))
        (structure_fits a d n b 0 deep (right_of _ _ (left_of _ _ typed)) (housed_left blocks edge heap d (structure_temporaries a) (arguments_temporaries rest) housed) (free_within b 0 (size_of a) (size_of a) there.0 (omega arith)) (has_left registers n (structure_types a) (arguments_types rest) h) _)
        (arguments_fit rest ps d (n + structure_registers a) (b + 1) deep (right_of _ _ typed) (housed_right blocks edge heap d (structure_temporaries a) (arguments_temporaries rest) housed) there.1 (beyond_structure a n (arguments_types rest) h) k)

  -- ---- nodes

  abbrev NodesFit : ℕ → Nodes → Type 0
  NodesFit behind nodes = nodes_fit registers blocks behind nodes ≡ true

  plains_fit : (xs : List Instruction) (rest : Nodes) (behind : ℕ) → Fits (node_count rest + behind) xs → NodesFit behind rest → NodesFit behind (plains xs rest)
  plains_fit [] rest behind fits fit = fit
  plains_fit (i ∷ xs) rest behind fits fit =
      let same : length xs + (node_count rest + behind) ≡ node_count (plains xs rest) + behind = omega (arith, counted xs) in
      both_true _ _ (subst (λ (n : ℕ). operation_fits registers blocks n i.operation ≡ true) same fits.0) (plains_fit xs rest behind fits.1 fit)
    where
      counted : (xs : List Instruction) → node_count (plains xs rest) ≡ length xs + node_count rest
      counted [] = omega arith
      counted (x ∷ xs) = omega (arith, counted xs)

  -- ---- statements

  abbrev first : ℕ
  first = edge + 2

  deep : edge < first
  deep = omega arith

  abbrev here : Frame
  here = frame first

  clear_wide : (v : ℕ) → nat_lt v edge ≡ true → operation_fits registers blocks 0 (operations.Clear v (size_of_variable declared v)) ≡ true
  clear_wide v there =
      let size = get_or_append_left variables others 0 v (test_less v edge there) in
      subst (λ (n : ℕ). operation_fits registers blocks 0 (operations.Clear v n) ≡ true) size (clear_fits registers blocks v (wide_there v there))

  words_fit : (words line v offset n : ℕ) → nat_lt v (length variables) ≡ true → 8 * words ≤ size_of_variable declared v - offset + 7 → Has registers n (replicate words UnsignedLong) → (k : ℕ) → Fits k (words_code here words line v offset n)
  words_fit zero line v offset n there few h k = tt
  words_fit (suc words) line v offset n there few h k =
      let size = size_of_variable declared v in
      let count = drawn_count size offset in
      let few_some : 1 ≤ count = omega (arith, few) in
      let most : count ≤ 8 = omega arith in
      let room : offset + count ≤ size = omega (arith, few) in (
        draw_fits registers blocks n (8 * count) UnsignedLong h.0 (at_most_true 1 (8 * count) (omega (arith, few_some))) (at_most_true (8 * count) 64 (omega (arith, most))),
        (
          word_fits registers blocks n v offset count h.0 few_some most (wide v offset count (within_is registers variables v offset count there room)),
          words_fit words line v (offset + 8) (n + 1) there (omega (arith, few)) h.1 k,
        ),
      )

  first_fits : (line v : ℕ) (drawn : Bool) (n : ℕ) → nat_lt v (length variables) ≡ true → Has registers n (replicate (lowering.drawn_registers declared v drawn) UnsignedLong) → (k : ℕ) → Fits k (first_code here line v drawn n)
  first_fits line v true n there h k = words_fit (word_count (size_of_variable declared v)) line v 0 n there (omega arith) h k
  first_fits line v false n there h k = (clear_wide v there, tt)

  -- the object of a variable that has an address
  home_fits : (line v : ℕ) (o : Option ℕ) (n : ℕ) → home_in declared v ≡ o → Has registers n (replicate (home_registers o) UnsignedLong) → (k : ℕ) → Fits k (home_code here line v o n)
  home_fits line v None n home h k = tt
  home_fits line v (Some held_by) n home h k =
      let small = sane.small v in
      let there = wide_there v (less_true v edge (home_below declared v held_by home)) in (
        pointer_constant_fits registers blocks n (slice_index variables v) h.0 (omega (arith, small)),
        (
          alloc_fits registers blocks (n + 1) v n (is_readonly (slice_get declared v)) false h.1.0 there h.0,
          (store_fits registers blocks (n + 1) held_by 0 UnsignedLong h.1.0 (wide held_by 0 8 (sane.homed v held_by home)), tt),
        ),
      )

  -- the first value of a variable, and its object
  made_fits : (line v : ℕ) (drawn : Bool) (n : ℕ) → nat_lt v (length variables) ≡ true → Has registers n (first_types v drawn) → (k : ℕ) → Fits k (made_code here line v drawn n)
  made_fits line v drawn n there h k =
      let own = lowering.drawn_registers declared v drawn in
      fit-append registers blocks k (first_code here line v drawn n) (home_code here line v (home_in declared v) (n + own))
      (first_fits line v drawn n there (has_front registers UnsignedLong own (home_registers (home_in declared v)) n h) _)
      (home_fits line v (home_in declared v) (n + own) refl (has_back registers UnsignedLong own (home_registers (home_in declared v)) n h) k)

  -- the first value of a variable with those of others behind it
  behind_first : (line v : ℕ) (drawn : Bool) (rest : Items) (n : ℕ) → nat_lt v (length variables) ≡ true
      → ((m : ℕ) → Has registers m (entry_types rest) → (k : ℕ) → Fits k (entry_code here rest m))
      → Has registers n (first_types v drawn ++ entry_types rest)
      → (k : ℕ) → Fits k (made_code here line v drawn n ++ entry_code here rest (n + lowering.first_registers declared v drawn))
  behind_first line v drawn rest n there others h k =
      let m = n + lowering.first_registers declared v drawn in
      let behind = has_at registers (n + length (first_types v drawn)) m (entry_types rest) (ap (λ r. n + r) (first_length declared v drawn)) (has_right registers n (first_types v drawn) (entry_types rest) h) in
      fit-append registers blocks k (made_code here line v drawn n) (entry_code here rest m)
      (made_fits line v drawn n there (has_left registers n (first_types v drawn) (entry_types rest) h) _)
      (others m behind k)

  pub entry_fits : (items : Items) (n : ℕ) → are_typed_items known items ≡ true → Has registers n (entry_types items) → (k : ℕ) → Fits k (entry_code here items n)
  entry_fits done n typed h k = tt
  entry_fits (declares line v rest) n typed h k = behind_first line v true rest n (left_of _ _ typed) (λ m. entry_fits rest m (right_of _ _ typed)) h k
  entry_fits (initializes line v drawn e rest) n typed h k =
      behind_first line v drawn rest n (filled_there registers variables v (type_of e) (left_of _ _ (left_of _ _ typed))) (λ m. entry_fits rest m (right_of _ _ typed)) h k
  entry_fits (initializes_structure line v drawn a rest) n typed h k =
      behind_first line v drawn rest n (left_of _ _ (left_of _ _ (left_of _ _ typed))) (λ m. entry_fits rest m (right_of _ _ typed)) h k
  entry_fits (does s rest) n typed h k = entry_fits rest n (right_of _ _ typed) h k
  entry_fits (label l rest) n typed h k = entry_fits rest n typed h k
  entry_fits (case_at line t bits rest) n typed h k = entry_fits rest n (right_of _ _ typed) h k
  entry_fits (default_at line rest) n typed h k = entry_fits rest n typed h k

  -- ---- objects that die

  -- by the register for their pointers
  abbrev DeathsFit : Deaths → Type 0
  DeathsFit out = (r : ℕ) → Has registers r (kinds.death_types declared) → (k : ℕ) → Fit registers blocks k (out r)

  one_register : (z : Bool) (r : ℕ) → Has registers r (replicate (if z then 1 else 0) UnsignedLong) → z ≡ true → Holds r UnsignedLong
  one_register true r h is = h.0
  one_register false r h is = absurd (false≢true is)

  death_fits : (line v r : ℕ) (o : Option ℕ) → home_in declared v ≡ o → Has registers r death_types → (k : ℕ) → Fits k (death_code here line o r)
  death_fits line v r None home h k = tt
  death_fits line v r (Some held_by) home h k =
      let pointer = one_register (have_homes declared) r h (some_home declared v held_by home) in
      (load_fits registers blocks r held_by 0 UnsignedLong pointer (wide held_by 0 8 (sane.homed v held_by home)), (die_fits registers blocks r pointer, tt))

  -- one behind others
  dies_last : (line v : ℕ) (others : Deaths) → DeathsFit others → DeathsFit (λ r. others r ++ death_code here line (home_in declared v) r)
  dies_last line v others fits r h k = fit-append registers blocks k (others r) (death_code here line (home_in declared v) r) (fits r h _) (death_fits line v r (home_in declared v) refl h k)

  leave_fits : (items : Items) → DeathsFit (leave_code here items)
  leave_fits done = λ r h k. tt
  leave_fits (declares line v rest) = dies_last line v (leave_code here rest) (leave_fits rest)
  leave_fits (initializes line v drawn e rest) = dies_last line v (leave_code here rest) (leave_fits rest)
  leave_fits (initializes_structure line v drawn a rest) = dies_last line v (leave_code here rest) (leave_fits rest)
  leave_fits (does s rest) = leave_fits rest
  leave_fits (label l rest) = leave_fits rest
  leave_fits (case_at line t bits rest) = leave_fits rest
  leave_fits (default_at line rest) = leave_fits rest

  leave_parameters_fits : (line count v : ℕ) → DeathsFit (leave_parameters_code here line count v)
  leave_parameters_fits line zero v = λ r h k. tt
  leave_parameters_fits line (suc count) v = dies_last line v (leave_parameters_code here line count (suc v)) (leave_parameters_fits line count (suc v))

  parameters_fit : (line count v n : ℕ) → Has registers n (replicate (lowering.parameters_registers declared count v) UnsignedLong) → (k : ℕ) → Fits k (parameters_code here line count v n)
  parameters_fit line zero v n h k = tt
  parameters_fit line (suc count) v n h k =
      let own = home_registers (home_in declared v) in
      let others = lowering.parameters_registers declared count (suc v) in
      fit-append registers blocks k (home_code here line v (home_in declared v) n) (parameters_code here line count (suc v) (n + own))
      (home_fits line v (home_in declared v) n refl (has_front registers UnsignedLong own others n h) _)
      (parameters_fit line count (suc v) (n + own) (has_back registers UnsignedLong own others n h) k)

  -- a way leads to a place of the function, and what dies on it fits
  pub record WaysFit (ways : Ways) : Type 0 where
    pub breaks : 1 ≤ ways.break_at
    pub continues : 1 ≤ ways.continue_at
    pub labels : (l : ℕ) → 1 ≤ ways.label_at l
    pub break_out : DeathsFit ways.break_out
    pub continue_out : DeathsFit ways.continue_out
    pub return_out : DeathsFit ways.return_out
    pub label_out : (l : ℕ) → DeathsFit (ways.label_out l)

  no_deaths_fit : DeathsFit no_deaths
  no_deaths_fit = λ r h k. tt

  behind_deaths : (first others : Deaths) → DeathsFit first → DeathsFit others → DeathsFit (λ r. first r ++ others r)
  behind_deaths first others one more r h k = fit-append registers blocks k (first r) (others r) (one r h _) (more r h k)

  leaving_fits : (out : Deaths) (ways : Ways) → DeathsFit out → WaysFit ways → WaysFit (leaving out ways)
  leaving_fits out ways fits fit = record {
    breaks = fit.breaks;
    continues = fit.continues;
    labels = fit.labels;
    break_out = behind_deaths out ways.break_out fits fit.break_out;
    continue_out = behind_deaths out ways.continue_out fits fit.continue_out;
    return_out = behind_deaths out ways.return_out fits fit.return_out;
    label_out = λ l. behind_deaths out (ways.label_out l) fits (fit.label_out l);
  }

  to_place_fits : (line behind place : ℕ) (rest : Nodes) → 1 ≤ place → NodesFit behind rest → NodesFit behind (to_place here line (behind + 1) place rest)
  to_place_fits line behind place rest some fit = both_true _ _ (skip_fits registers blocks (node_count rest + behind) (behind + 1 + node_count rest - place) (omega (arith, some))) fit

  part_fits : (e : Option Expression) (n : ℕ) → is_typed_part known e ≡ true → Houses first (part_temporaries e) → Has registers n (part_types e) → (k : ℕ) → Fits k (part_code here e n)
  part_fits None n typed housed h k = tt
  part_fits (Some e) n typed housed h k = (expression_fits e first n deep typed housed h).fits k

  -- a test behind which there is a place
  test_fits : (line : ℕ) (e : Option Expression) (n : ℕ) → is_test known e ≡ true → Houses first (part_temporaries e) → Has registers n (part_types e) → (k : ℕ) → 1 ≤ k → Fits k (test_code here line e n)
  test_fits line None n typed housed h k place = tt
  test_fits line (Some e) n typed housed h k place =
      let fine = expression_fits e first n deep (right_of _ _ typed) housed h in
      fit-append registers blocks k (code here e n) (at_line here line (operations.SkipIfZero (n + top e) 1) ∷ []) (fine.fits _)
      (skip_if_fits registers blocks _ (n + top e) 1 (number_type e) fine.value (omega (arith, place)), tt)

  beyond_deaths : (n : ℕ) (ts : List IntegerType) → Has registers n (death_types ++ ts) → Has registers (n + death_registers) ts
  beyond_deaths n ts h = has_at registers (n + length death_types) (n + death_registers) ts (ap (λ m. n + m) (death_length declared)) (has_right registers n death_types ts h)

  -- the first bytes of a variable, out of a block that is free
  put_first_fits : (line v : ℕ) (o : Option ℕ) (size n : ℕ) → home_in declared v ≡ o → is_within variables v 0 size ≡ true → is_within blocks first 0 size ≡ true → Has registers n (replicate (lowering.initial_registers declared o) UnsignedLong) → (k : ℕ) → Fits k (initial_put here line v o size n)
  put_first_fits line v None size n home inside room h k = (copy_bytes_fits registers blocks v 0 first 0 size (wide v 0 size inside) room, tt)
  put_first_fits line v (Some held_by) size n home inside room h k =
      (load_fits registers blocks n held_by 0 UnsignedLong h.0 (wide held_by 0 8 (sane.homed v held_by home)), (write_fits registers blocks n first 0 size true h.0 room, tt))

  -- and out of a register
  stored_fits : (line v : ℕ) (o : Option ℕ) (t : IntegerType) (a n : ℕ) → home_in declared v ≡ o → is_within variables v 0 (bytes t) ≡ true → Houses first (initial_temporaries (bytes t) o) → Holds a t → Has registers n (replicate (lowering.initial_registers declared o) UnsignedLong) → (k : ℕ) → Fits k (initial_store here line v o t a n)
  stored_fits line v None t a n home inside housed value h k = (store_fits registers blocks a v 0 t value (wide v 0 (bytes t) inside), tt)
  stored_fits line v (Some held_by) t a n home inside housed value h k =
      let room : is_within blocks first 0 (bytes t) ≡ true = free_within first 0 (bytes t) (bytes t) (housed_room blocks edge heap first (bytes t) no_temporaries housed) (omega arith) in
      (store_fits registers blocks a first 0 t value room, put_first_fits line v (Some held_by) (bytes t) n home inside room h k)

  beyond_part : (e : Option Expression) (n : ℕ) (ts : List IntegerType) → Has registers n (part_types e ++ ts) → Has registers (n + part_registers e) ts
  beyond_part e n ts h = has_at registers (n + length (part_types e)) (n + part_registers e) ts (ap (λ m. n + m) (part_length declared e)) (has_right registers n (part_types e) ts h)

  beyond_statement : (s : Statement) (n : ℕ) (ts : List IntegerType) → Has registers n (statement_types s ++ ts) → Has registers (n + statement_registers s) ts
  beyond_statement s n ts h = has_at registers (n + length (statement_types s)) (n + statement_registers s) ts (ap (λ m. n + m) (statement_length declared s)) (has_right registers n (statement_types s) ts h)

  beyond_items : (items : Items) (n : ℕ) (ts : List IntegerType) → Has registers n (items_types items ++ ts) → Has registers (n + items_registers items) ts
  beyond_items items n ts h = has_at registers (n + length (items_types items)) (n + items_registers items) ts (ap (λ m. n + m) (items_length declared items)) (has_right registers n (items_types items) ts h)

  beyond_cases : (items : Items) (n : ℕ) (ts : List IntegerType) → Has registers n (case_types items ++ ts) → Has registers (n + case_registers items) ts
  beyond_cases items n ts h = has_at registers (n + length (case_types items)) (n + case_registers items) ts (ap (λ m. n + m) (case_length declared items)) (has_right registers n (case_types items) ts h)

  beyond_entry : (items : Items) (n : ℕ) (ts : List IntegerType) → Has registers n (entry_types items ++ ts) → Has registers (n + entry_registers items) ts
  beyond_entry items n ts h = has_at registers (n + length (entry_types items)) (n + entry_registers items) ts (ap (λ m. n + m) (entry_length declared items)) (has_right registers n (entry_types items) ts h)

  -- the tests of cases
  cases_fit : (line x before : ℕ) (items : Items) (n : ℕ) (t : ValueType) → are_cases t items ≡ true → are_typed_items known items ≡ true → Holds x (integer_of t) → Holds before Int → Has registers n (case_types items)
      → (k : ℕ) → Fits k (case_tests here line x before items n)
  cases_fit line x before done n t cases typed hx hb h k = tt
  cases_fit line x before (declares at v rest) n t cases typed hx hb h k = cases_fit line x before rest n t cases (right_of _ _ typed) hx hb h k
  cases_fit line x before (initializes at v drawn e rest) n t cases typed hx hb h k = cases_fit line x before rest n t cases (right_of _ _ typed) hx hb h k
  cases_fit line x before (initializes_structure at v drawn a rest) n t cases typed hx hb h k = cases_fit line x before rest n t cases (right_of _ _ typed) hx hb h k
  cases_fit line x before (does s rest) n t cases typed hx hb h k = cases_fit line x before rest n t cases (right_of _ _ typed) hx hb h k
  cases_fit line x before (label l rest) n t cases typed hx hb h k = cases_fit line x before rest n t cases typed hx hb h k
  cases_fit line x before (case_at at u bits rest) n t cases typed hx hb h k =
      let same = same_types t (Integer u) (left_of _ _ cases) in
      let value : Holds x u = register_of registers x (integer_of t) u same hx in
      let two : Holds (n + 2) Int = register_at registers (n + 1 + 1) (n + 2) Int (omega arith) h.1.1.0 in
      let behind : Has registers (n + 5) (case_types rest) = has_at registers (n + 1 + 1 + 1 + 1 + 1) (n + 5) (case_types rest) (omega arith) h.1.1.1.1.1 in (
        constant_fits registers blocks n bits u h.0 (left_of _ _ typed),
        (
          compare_fits registers blocks (n + 1) n x comparisons.Equal u h.1.0 h.0 value,
          (
            arithmetic_fits registers blocks (n + 2) before (n + 1) arithmetics.Or Int Int (own_operands arithmetics.Or Int) two hb h.1.0,
            cases_fit line x (n + 2) rest (n + 5) t (right_of _ _ cases) (right_of _ _ typed) hx two behind k,
          ),
        ),
      )
  cases_fit line x before (default_at at rest) n t cases typed hx hb h k = cases_fit line x before rest n t cases typed hx hb h k

  last_holds : (before : ℕ) (items : Items) (n : ℕ) → Holds before Int → Has registers n (case_types items) → Holds (last_case here before items n) Int
  last_holds before done n hb h = hb
  last_holds before (declares at v rest) n hb h = last_holds before rest n hb h
  last_holds before (initializes at v drawn e rest) n hb h = last_holds before rest n hb h
  last_holds before (initializes_structure at v drawn a rest) n hb h = last_holds before rest n hb h
  last_holds before (does s rest) n hb h = last_holds before rest n hb h
  last_holds before (label l rest) n hb h = last_holds before rest n hb h
  last_holds before (case_at at u bits rest) n hb h =
      last_holds (n + 2) rest (n + 5) (register_at registers (n + 1 + 1) (n + 2) Int (omega arith) h.1.1.0) (has_at registers (n + 1 + 1 + 1 + 1 + 1) (n + 5) (case_types rest) (omega arith) h.1.1.1.1.1)
  last_holds before (default_at at rest) n hb h = last_holds before rest n hb h

  jumps_fit : (behind : ℕ) (ways : Ways) (x : ℕ) (items : Items) (k n : ℕ) (rest others : Nodes) (t : ValueType) → are_cases t items ≡ true → are_typed_items known items ≡ true → Holds x (integer_of t) → Has registers k (case_types items) → NodesFit behind others
      → NodesFit behind (case_jumps here (behind + 1) ways x items k n rest others)
  jumps_fit behind ways x done k n rest others t cases typed hx h fit = fit
  jumps_fit behind ways x (declares at v more) k n rest others t cases typed hx h fit = jumps_fit behind ways x more k n rest others t cases (right_of _ _ typed) hx h fit
  jumps_fit behind ways x (initializes at v drawn e more) k n rest others t cases typed hx h fit = jumps_fit behind ways x more k n rest others t cases (right_of _ _ typed) hx h fit
  jumps_fit behind ways x (initializes_structure at v drawn a more) k n rest others t cases typed hx h fit = jumps_fit behind ways x more k n rest others t cases (right_of _ _ typed) hx h fit
  jumps_fit behind ways x (does s more) k n rest others t cases typed hx h fit = jumps_fit behind ways x more k n rest others t cases (right_of _ _ typed) hx h fit
  jumps_fit behind ways x (label l more) k n rest others t cases typed hx h fit = jumps_fit behind ways x more k n rest others t cases typed hx h fit
  jumps_fit behind ways x (case_at at u bits more) k n rest others t cases typed hx h fit =
      let value : Holds x u = register_of registers x (integer_of t) u (same_types t (Integer u) (left_of _ _ cases)) hx in
      let again : Holds (k + 3) u = register_at registers (k + 1 + 1 + 1) (k + 3) u (omega arith) h.1.1.1.0 in
      let test : Holds (k + 4) Int = register_at registers (k + 1 + 1 + 1 + 1) (k + 4) Int (omega arith) h.1.1.1.1.0 in
      let others' = case_jumps here (behind + 1) ways x more (k + 5) n rest others in
      let place = behind + 1 + node_count (items_code here (behind + 1) ways more n rest) in
      both_true _ _ (constant_fits registers blocks (k + 3) bits u again (left_of _ _ typed))
      (both_true _ _ (compare_fits registers blocks (k + 4) (k + 3) x comparisons.Equal u test again value)
      (both_true _ _ (skip_if_fits registers blocks (node_count (to_place here at (behind + 1) place others') + behind) (k + 4) 1 Int test (omega arith))
      (to_place_fits at behind place others' (omega arith) (jumps_fit behind ways x more (k + 5) n rest others t (right_of _ _ cases) (right_of _ _ typed) hx (has_at registers (k + 1 + 1 + 1 + 1 + 1) (k + 5) (case_types more) (omega arith) h.1.1.1.1.1) fit))))
  jumps_fit behind ways x (default_at at more) k n rest others t cases typed hx h fit = jumps_fit behind ways x more k n rest others t cases typed hx h fit

  default_some : (behind : ℕ) (ways : Ways) (items : Items) (n : ℕ) (rest : Nodes) → 1 ≤ default_place here (behind + 1) ways items n rest
  default_some behind ways done n rest = omega arith
  default_some behind ways (declares line v more) n rest = default_some behind ways more n rest
  default_some behind ways (initializes line v drawn e more) n rest = default_some behind ways more n rest
  default_some behind ways (initializes_structure line v drawn a more) n rest = default_some behind ways more n rest
  default_some behind ways (does s more) n rest = default_some behind ways more n rest
  default_some behind ways (label l more) n rest = default_some behind ways more n rest
  default_some behind ways (case_at line t bits more) n rest = default_some behind ways more n rest
  default_some behind ways (default_at line more) n rest = omega arith

  labels_fit : (behind : ℕ) (ways : Ways) (items : Items) (n : ℕ) (rest : Nodes) → WaysFit ways → WaysFit (labels_of here (behind + 1) ways items n rest)
  labels_fit behind ways done n rest fit = fit
  labels_fit behind ways (declares line v more) n rest fit = labels_fit behind ways more n rest fit
  labels_fit behind ways (initializes line v drawn e more) n rest fit = labels_fit behind ways more n rest fit
  labels_fit behind ways (initializes_structure line v drawn a more) n rest fit = labels_fit behind ways more n rest fit
  labels_fit behind ways (does s more) n rest fit = labels_fit behind ways more n rest fit
  labels_fit behind ways (label l more) n rest fit =
      let inner = labels_fit behind ways more n rest fit in
      let more = labels_of here (behind + 1) ways more n rest in
      record {
        breaks = inner.breaks;
        continues = inner.continues;
        labels = λ m. chosen (l == m) _ _ (omega arith) (inner.labels m);
        break_out = inner.break_out;
        continue_out = inner.continue_out;
        return_out = inner.return_out;
        label_out = λ m. chosen_deaths (l == m) (more.label_out m) (inner.label_out m);
      }
    where
      chosen_deaths : (z : Bool) (out : Deaths) → DeathsFit out → DeathsFit (if z then no_deaths else out)
      chosen_deaths true out fits = no_deaths_fit
      chosen_deaths false out fits = fits

      chosen : (z : Bool) (a b : ℕ) → 1 ≤ a → 1 ≤ b → 1 ≤ (if z then a else b)
      chosen true a b h g = h
      chosen false a b h g = g
  labels_fit behind ways (case_at line t bits more) n rest fit = labels_fit behind ways more n rest fit
  labels_fit behind ways (default_at line more) n rest fit = labels_fit behind ways more n rest fit

  -- what is handed over has its block
  module _ (result_size : slice_index blocks (edge + 1) ≡ given_size gives) where
    result_there : nat_lt (edge + 1) (length blocks) ≡ true
    result_there = less_true (edge + 1) (length blocks) (omega (arith, length-append variables others, some))

    number_room : (g : Option PassedType) (t : ValueType) → is_integer t ≡ true → same_given g (given_as t) ≡ true → given_size g ≡ bytes (integer_of t)
    number_room g Void number h = absurd (false≢true number)
    number_room None (Integer t) number h = absurd (false≢true h)
    number_room (Some (passed.Integer u)) (Integer t) number h = ap bytes (same_types (Integer u) (Integer t) h)
    number_room (Some (passed.Structure size)) (Integer t) number h = absurd (false≢true h)

    structure_room : (g : Option PassedType) (size : ℕ) → same_given g (Some (passed.Structure size)) ≡ true → given_size g ≡ size
    structure_room None size h = absurd (false≢true h)
    structure_room (Some (passed.Integer u)) size h = absurd (false≢true h)
    structure_room (Some (passed.Structure m)) size h = test_equal m size h

    result_within : (size : ℕ) → given_size gives ≡ size → is_within blocks (edge + 1) 0 size ≡ true
    result_within size same = within_is registers blocks (edge + 1) 0 size result_there (omega (arith, same, result_size))

    mutual
      pub statement_fits : (s : Statement) (behind : ℕ) (ways : Ways) (n : ℕ) (rest : Nodes) → is_typed_statement known s ≡ true → Houses first (statement_temporaries s) → Has registers n (statement_types s) → WaysFit ways → NodesFit behind rest
          → NodesFit behind (statement_code here (behind + 1) ways s n rest)
      statement_fits (block items) behind ways n rest typed housed h ways_fit fit =
          let inside = n + death_registers in
          let entry = inside + items_registers items in
          let out = leave_code here items in
          let own = beyond_deaths n (items_types items ++ entry_types items) h in
          plains_fit (entry_code here items entry) _ behind (entry_fits items entry typed (beyond_items items inside (entry_types items) own) _)
          (items_fit items behind (leaving out ways) inside (plains (out n) rest) typed housed (has_left registers inside (items_types items) (entry_types items) own) (leaving_fits out ways (leave_fits items) ways_fit)
          (plains_fit (out n) rest behind (leave_fits items n (has_left registers n death_types (items_types items ++ entry_types items) h) _) fit))
      statement_fits (if_then line test s) behind ways n rest typed housed h ways_fit fit =
          let m = n + statement_registers s in
          let yes = statement_code here (behind + 1) ways s n rest in
          let tested = expression_fits test first m deep (right_of _ _ (left_of _ _ typed)) (housed_left blocks edge heap first (temporaries test) (statement_temporaries s) housed) (beyond_statement s n (types test) h) in
          plains_fit (code here test m) (plain (at_line here line (operations.SkipIfZero (m + top test) (node_count yes - node_count rest))) yes) behind (tested.fits _)
          (both_true _ _ (skip_if_fits registers blocks (node_count yes + behind) (m + top test) (node_count yes - node_count rest) (number_type test) tested.value (omega arith))
          (statement_fits s behind ways n rest (right_of _ _ typed) (housed_right blocks edge heap first (temporaries test) (statement_temporaries s) housed) (has_left registers n (statement_types s) (types test) h) ways_fit fit))
      statement_fits (if_else line test s t) behind ways n rest typed housed h ways_fit fit =
          let some_typed = left_of _ _ typed in
          let second = n + statement_registers t in
          let m = second + statement_registers s in
          let other = housed_right blocks edge heap first (temporaries test) (both (statement_temporaries s) (statement_temporaries t)) housed in
          let last = beyond_statement t n (statement_types s ++ types test) h in
          let no = statement_code here (behind + 1) ways t n rest in
          let over = to_place here line (behind + 1) (behind + 1 + node_count rest) no in
          let yes = statement_code here (behind + 1) ways s second over in
          let tested = expression_fits test first m deep (right_of _ _ (left_of _ _ some_typed)) (housed_left blocks edge heap first (temporaries test) (both (statement_temporaries s) (statement_temporaries t)) housed) (beyond_statement s second (types test) last) in
          plains_fit (code here test m) (plain (at_line here line (operations.SkipIfZero (m + top test) (node_count yes - node_count no))) yes) behind (tested.fits _)
          (both_true _ _ (skip_if_fits registers blocks (node_count yes + behind) (m + top test) (node_count yes - node_count no) (number_type test) tested.value (omega arith))
          (statement_fits s behind ways second over (right_of _ _ some_typed) (housed_left blocks edge heap first (statement_temporaries s) (statement_temporaries t) other) (has_left registers second (statement_types s) (types test) last) ways_fit
          (to_place_fits line behind (behind + 1 + node_count rest) no (omega arith)
          (statement_fits t behind ways n rest (right_of _ _ typed) (housed_right blocks edge heap first (statement_temporaries s) (statement_temporaries t) other) (has_left registers n (statement_types t) (statement_types s ++ types test) h) ways_fit fit))))
      statement_fits (evaluate e) behind ways n rest typed housed h ways_fit fit = plains_fit (code here e n) rest behind ((expression_fits e first n deep typed housed h).fits _) fit
      statement_fits (returns line e) behind ways n rest typed housed h ways_fit fit =
          let fine = expression_fits e first n deep (right_of _ _ typed) housed (within e n death_types h) in
          let tests = left_of _ _ typed in
          plains_fit (code here e n) _ behind (fine.fits _)
          (both_true _ _ (store_fits registers blocks (n + top e) (edge + 1) 0 (number_type e) fine.value (result_within (bytes (number_type e)) (number_room gives (type_of e) (left_of _ _ tests) (right_of _ _ tests))))
          (plains_fit (ways.return_out (n + (top e + 1))) _ behind (ways_fit.return_out (n + (top e + 1)) (beyond e n death_types h) _) (both_true _ _ result_there fit)))
      statement_fits (returns_structure line a) behind ways n rest typed housed h ways_fit fit =
          plains_fit (structure_code here a n (edge + 1) 0) _ behind
          (structure_fits a first n (edge + 1) 0 deep (right_of _ _ typed) housed (result_within (size_of a) (structure_room gives (size_of a) (left_of _ _ typed))) (has_left registers n (structure_types a) death_types h) _)
          (plains_fit (ways.return_out (n + structure_registers a)) _ behind (ways_fit.return_out (n + structure_registers a) (beyond_structure a n death_types h) _) (both_true _ _ result_there fit))
      statement_fits (returns_nothing line) behind ways n rest typed housed h ways_fit fit = plains_fit (ways.return_out n) _ behind (ways_fit.return_out n h _) fit
      statement_fits (for_loop line l start test last s) behind ways n rest typed housed h ways_fit fit =
          let place = behind + 1 + node_count rest in
          let in_last = n + part_registers test in
          let in_body = in_last + part_registers last in
          let in_test = in_body + statement_registers s in
          let end = plains (part_code here last in_last) (plains (test_code here line test n) ends) in
          let body_behind = node_count rest + behind + 1 in
          let inner = within_loop ways place (place + 1 + node_count end) in
          let start_typed = left_of _ _ (left_of _ _ (left_of _ _ typed)) in
          let test_typed = right_of _ _ (left_of _ _ (left_of _ _ typed)) in
          let last_typed = right_of _ _ (left_of _ _ typed) in
          let others1 = housed_right blocks edge heap first (part_temporaries start) (both (part_temporaries test) (both (part_temporaries last) (statement_temporaries s))) housed in
          let others2 = housed_right blocks edge heap first (part_temporaries test) (both (part_temporaries last) (statement_temporaries s)) others1 in
          let test_housed = housed_left blocks edge heap first (part_temporaries test) (both (part_temporaries last) (statement_temporaries s)) others1 in
          let h1 = beyond_part test n (part_types last ++ (statement_types s ++ (part_types test ++ part_types start))) h in
          let h2 = beyond_part last in_last (statement_types s ++ (part_types test ++ part_types start)) h1 in
          let h3 = beyond_statement s in_body (part_types test ++ part_types start) h2 in
          let h4 = beyond_part test in_test (part_types start) h3 in
          let end_fits : NodesFit body_behind end =
          plains_fit (part_code here last in_last) (plains (test_code here line test n) ends) body_behind
          (part_fits last in_last last_typed (housed_left blocks edge heap first (part_temporaries last) (statement_temporaries s) others2) (has_left registers in_last (part_types last) (statement_types s ++ (part_types test ++ part_types start)) h1) _)
          (plains_fit (test_code here line test n) ends body_behind (test_fits line test n test_typed test_housed (has_left registers n (part_types test) (part_types last ++ (statement_types s ++ (part_types test ++ part_types start))) h) _ (omega arith)) refl) in
          let inner_fits : WaysFit inner = record { breaks = omega arith; continues = omega arith; labels = ways_fit.labels; break_out = no_deaths_fit; continue_out = no_deaths_fit; return_out = ways_fit.return_out; label_out = ways_fit.label_out } in
          let body_fits : NodesFit body_behind (statement_code here (body_behind + 1) inner s in_body end) =
          statement_fits s body_behind inner in_body end (right_of _ _ typed) (housed_right blocks edge heap first (part_temporaries last) (statement_temporaries s) others2) (has_left registers in_body (statement_types s) (part_types test ++ part_types start) h2) inner_fits end_fits in
          let same : body_behind + 1 ≡ place + 1 = omega arith in
          let body_there : NodesFit body_behind (statement_code here (place + 1) inner s in_body end) =
          subst (λ (base : ℕ). NodesFit body_behind (statement_code here base inner s in_body end)) same body_fits in
          plains_fit (part_code here start (in_test + part_registers test)) _ behind
          (part_fits start (in_test + part_registers test) start_typed (housed_left blocks edge heap first (part_temporaries start) (both (part_temporaries test) (both (part_temporaries last) (statement_temporaries s))) housed) h4 _)
          (plains_fit (test_code here line test in_test) _ behind
          (test_fits line test in_test test_typed test_housed (has_left registers in_test (part_types test) (part_types start) h3) _ (omega arith))
          (both_true _ _ body_there fit))
      statement_fits (do_loop line l s test) behind ways n rest typed housed h ways_fit fit =
          let place = behind + 1 + node_count rest in
          let end = plains (test_code here line (Some test) n) ends in
          let body_behind = node_count rest + behind + 1 in
          let inner = within_loop ways place (place + 1 + node_count end) in
          let body_typed = is_typed_statement known s in
          let number = is_integer (type_of test) in
          let value_typed = is_typed known test in
          let tests : is_test known (Some test) ≡ true = both_true number value_typed (right_of body_typed number (left_of (body_typed && number) value_typed typed)) (right_of (body_typed && number) value_typed typed) in
          let end_fits : NodesFit body_behind end =
          plains_fit (test_code here line (Some test) n) ends body_behind (test_fits line (Some test) n tests (housed_right blocks edge heap first (statement_temporaries s) (temporaries test) housed) (has_left registers n (types test) (statement_types s) h) _ (omega arith)) refl in
          let inner_fits : WaysFit inner = record { breaks = omega arith; continues = omega arith; labels = ways_fit.labels; break_out = no_deaths_fit; continue_out = no_deaths_fit; return_out = ways_fit.return_out; label_out = ways_fit.label_out } in
          let body_fits : NodesFit body_behind (statement_code here (body_behind + 1) inner s (n + (top test + 1)) end) =
          statement_fits s body_behind inner (n + (top test + 1)) end (left_of body_typed number (left_of (body_typed && number) value_typed typed)) (housed_left blocks edge heap first (statement_temporaries s) (temporaries test) housed) (beyond test n (statement_types s) h) inner_fits end_fits in
          let same : body_behind + 1 ≡ place + 1 = omega arith in
          both_true _ _ (subst (λ (base : ℕ). NodesFit body_behind (statement_code here base inner s (n + (top test + 1)) end)) same body_fits) fit
      statement_fits (switch line e items) behind ways n rest typed housed h ways_fit fit =
          let place = behind + 1 + node_count rest in
          let out = leave_code here items in
          let inner = leaving out (within_switch ways place) in
          let inside = n + death_registers in
          let before = inside + items_registers items in
          let value = before + 1 in
          let in_cases = value + 1 in
          let in_entry = in_cases + case_registers items in
          let x = in_entry + entry_registers items in
          let left = plains (out n) rest in
          let body = items_code here (behind + 1) inner items inside left in
          let otherwise = if has_default items then default_place here (behind + 1) inner items inside left else place in
          let last = to_place here line (behind + 1) otherwise body in
          let entered = plains (entry_code here items in_entry) (case_jumps here (behind + 1) inner value items in_cases inside left last) in
          let items_typed = right_of _ _ typed in
          let cases = right_of _ _ (left_of _ _ typed) in
          let value_typed = right_of _ _ (left_of _ _ (left_of _ _ typed)) in
          let own = Int ∷ number_type e ∷ (case_types items ++ (entry_types items ++ types e)) in
          let h0 = beyond_deaths n (items_types items ++ own) h in
          let h1 = beyond_items items inside own h0 in
          let h2 = beyond_cases items in_cases (entry_types items ++ types e) h1.1.1 in
          let h3 = beyond_entry items in_entry (types e) h2 in
          let fine = expression_fits e first x deep value_typed (housed_left blocks edge heap first (temporaries e) (items_temporaries items) housed) h3 in
          let tests = has_left registers in_cases (case_types items) (entry_types items ++ types e) h1.1.1 in
          let switch_fits : WaysFit (within_switch ways place) =
          record { breaks = omega arith; continues = ways_fit.continues; labels = ways_fit.labels; break_out = no_deaths_fit; continue_out = ways_fit.continue_out; return_out = ways_fit.return_out; label_out = ways_fit.label_out } in
          let inner_fits : WaysFit inner = leaving_fits out (within_switch ways place) (leave_fits items) switch_fits in
          let left_fits : NodesFit behind left = plains_fit (out n) rest behind (leave_fits items n (has_left registers n death_types (items_types items ++ own) h) _) fit in
          let body_fits = items_fit items behind inner inside left items_typed (housed_right blocks edge heap first (temporaries e) (items_temporaries items) housed) (has_left registers inside (items_types items) own h0) inner_fits left_fits in
          let last_fits = to_place_fits line behind otherwise body (chosen (has_default items) _ _ (default_some behind inner items inside left) (omega arith)) body_fits in
          let entered_fits : NodesFit behind entered =
          plains_fit (entry_code here items in_entry) _ behind (entry_fits items in_entry items_typed (has_left registers in_entry (entry_types items) (types e) h2) _)
          (jumps_fit behind inner value items in_cases inside left last (type_of e) cases items_typed h1.1.0 tests last_fits) in
          let guarded_fits : NodesFit behind (guarded here line before value items in_cases (node_count rest) entered) =
          both_true _ _ (constant_fits registers blocks before 0 Int h1.0 refl)
          (plains_fit (case_tests here line value before items in_cases) _ behind (cases_fit line value before items in_cases (type_of e) cases items_typed h1.1.0 h1.0 tests _)
          (both_true _ _ (skip_if_fits registers blocks (node_count entered + behind) (last_case here before items in_cases) (node_count entered - node_count rest) Int (last_holds before items in_cases h1.0 tests) (omega arith)) entered_fits)) in
          plains_fit (code here e x) _ behind (fine.fits _)
          (both_true _ _ (copy_fits registers blocks value (x + top e) (number_type e) h1.1.0 fine.value)
          (either_fits (has_default items || declares_none items) entered (guarded here line before value items in_cases (node_count rest) entered) behind entered_fits guarded_fits))
        where
          chosen : (z : Bool) (a b : ℕ) → 1 ≤ a → 1 ≤ b → 1 ≤ (if z then a else b)
          chosen true a b h g = h
          chosen false a b h g = g

          either_fits : (z : Bool) (a b : Nodes) (behind : ℕ) → NodesFit behind a → NodesFit behind b → NodesFit behind (if z then a else b)
          either_fits true a b behind h g = h
          either_fits false a b behind h g = g
      statement_fits (breaks line) behind ways n rest typed housed h ways_fit fit =
          plains_fit (ways.break_out n) _ behind (ways_fit.break_out n h _) (to_place_fits line behind ways.break_at rest ways_fit.breaks fit)
      statement_fits (continues line) behind ways n rest typed housed h ways_fit fit =
          plains_fit (ways.continue_out n) _ behind (ways_fit.continue_out n h _) (to_place_fits line behind ways.continue_at rest ways_fit.continues fit)
      statement_fits (jumps line l) behind ways n rest typed housed h ways_fit fit =
          plains_fit (ways.label_out l n) _ behind (ways_fit.label_out l n h _) (to_place_fits line behind (ways.label_at l) rest (ways_fit.labels l) fit)
      statement_fits (stray line s) behind ways n rest typed housed h ways_fit fit = statement_fits s behind ways n rest typed housed h ways_fit fit

      pub items_fit : (items : Items) (behind : ℕ) (ways : Ways) (n : ℕ) (rest : Nodes) → are_typed_items known items ≡ true → Houses first (items_temporaries items) → Has registers n (items_types items) → WaysFit ways → NodesFit behind rest
          → NodesFit behind (items_code here (behind + 1) ways items n rest)
      items_fit done behind ways n rest typed housed h ways_fit fit = fit
      items_fit (declares line v more) behind ways n rest typed housed h ways_fit fit = items_fit more behind ways n rest (right_of _ _ typed) housed h ways_fit fit
      items_fit (initializes line v drawn e more) behind ways n rest typed housed h ways_fit fit =
          let m = n + items_registers more in
          let t = number_type e in
          let needs = both (temporaries e) (initial_temporaries (bytes t) (home_in declared v)) in
          let some_typed = left_of _ _ typed in
          let own = housed_left blocks edge heap first needs (items_temporaries more) housed in
          let here_types = beyond_items more n (types e ++ initial_types v) h in
          let fine = expression_fits e first m deep (right_of _ _ some_typed) (housed_left blocks edge heap first (temporaries e) (initial_temporaries (bytes t) (home_in declared v)) own) (within e m (initial_types v) here_types) in
          plains_fit (code here e m) _ behind (fine.fits _)
          (plains_fit (initial_store here line v (home_in declared v) t (m + top e) (m + (top e + 1))) _ behind
          (stored_fits line v (home_in declared v) t (m + top e) (m + (top e + 1)) refl (filled_within registers variables v (type_of e) (left_of _ _ some_typed)) (housed_right blocks edge heap first (temporaries e) (initial_temporaries (bytes t) (home_in declared v)) own) fine.value (beyond e m (initial_types v) here_types) _)
          (items_fit more behind ways n rest (right_of _ _ typed) (housed_right blocks edge heap first needs (items_temporaries more) housed) (has_left registers n (items_types more) (types e ++ initial_types v) h) ways_fit fit))
      items_fit (initializes_structure line v drawn a more) behind ways n rest typed housed h ways_fit fit =
          let m = n + items_registers more in
          let needs = under (size_of a) (structure_temporaries a) in
          let own = housed_left blocks edge heap first needs (items_temporaries more) housed in
          let free = housed_room blocks edge heap first (size_of a) (structure_temporaries a) own in
          let room : is_within blocks first 0 (size_of a) ≡ true = free_within first 0 (size_of a) (size_of a) free (omega arith) in
          let tests = left_of _ _ (left_of _ _ typed) in
          let whole = test_equal (size_of a) (slice_index variables v) (right_of _ _ tests) in
          let inside : is_within variables v 0 (size_of a) ≡ true = within_is registers variables v 0 (size_of a) (left_of _ _ tests) (omega (arith, whole)) in
          let here_types = beyond_items more n (structure_types a ++ initial_types v) h in
          let puts = initial_put here line v (home_in declared v) (size_of a) (m + structure_registers a) in
          plains_fit (initial_code here line v a m) _ behind
          (fit-append registers blocks _ (structure_code (frame (first + 1)) a m first 0) puts
          (structure_fits a (first + 1) m first 0 (omega (arith, deep)) (right_of _ _ (left_of _ _ typed)) (housed_under blocks edge heap first (size_of a) (structure_temporaries a) own) room (has_left registers m (structure_types a) (initial_types v) here_types) _)
          (put_first_fits line v (home_in declared v) (size_of a) (m + structure_registers a) refl inside room (beyond_structure a m (initial_types v) here_types) _))
          (items_fit more behind ways n rest (right_of _ _ typed) (housed_right blocks edge heap first needs (items_temporaries more) housed) (has_left registers n (items_types more) (structure_types a ++ initial_types v) h) ways_fit fit)
      items_fit (does s more) behind ways n rest typed housed h ways_fit fit =
          statement_fits s behind (labels_of here (behind + 1) ways more n rest) (n + items_registers more) (items_code here (behind + 1) ways more n rest) (left_of _ _ typed)
          (housed_left blocks edge heap first (statement_temporaries s) (items_temporaries more) housed) (beyond_items more n (statement_types s) h) (labels_fit behind ways more n rest ways_fit)
          (items_fit more behind ways n rest (right_of _ _ typed) (housed_right blocks edge heap first (statement_temporaries s) (items_temporaries more) housed) (has_left registers n (items_types more) (statement_types s) h) ways_fit fit)
      items_fit (label l more) behind ways n rest typed housed h ways_fit fit = items_fit more behind ways n rest typed housed h ways_fit fit
      items_fit (case_at line t bits more) behind ways n rest typed housed h ways_fit fit = items_fit more behind ways n rest (right_of _ _ typed) housed h ways_fit fit
      items_fit (default_at line more) behind ways n rest typed housed h ways_fit fit = items_fit more behind ways n rest typed housed h ways_fit fit

    -- a body, around which the objects of the parameters live
    pub whole_fits : (line count : ℕ) (s : Statement) → is_typed_statement known s ≡ true → Houses first (statement_temporaries s) → Holds 0 Int → Has registers 1 (death_types ++ (statement_types s ++ kinds.parameters_types declared count))
        → NodesFit 0 (body_code here line count s)
    whole_fits line count s typed housed zeroth h =
        let inside = 1 + death_registers in
        let out = leave_parameters_code here line count 0 in
        let dies = leave_parameters_fits line count 0 in
        let own = beyond_deaths 1 (statement_types s ++ kinds.parameters_types declared count) h in
        let end = plain (at_line here line (operations.Return None)) (plain (at_line here line (operations.Assert 0)) ends) in
        let end_fits : NodesFit 0 end = both_true _ _ (there_is registers blocks 0 Int zeroth) refl in
        let no_ways_fit : WaysFit no_ways =
        record { breaks = omega arith; continues = omega arith; labels = λ l. omega arith; break_out = no_deaths_fit; continue_out = no_deaths_fit; return_out = no_deaths_fit; label_out = λ l. no_deaths_fit } in
        plains_fit (parameters_code here line count 0 (inside + statement_registers s)) _ 0
        (parameters_fit line count 0 (inside + statement_registers s) (beyond_statement s inside (kinds.parameters_types declared count) own) _)
        (statement_fits s 0 (leaving out no_ways) inside (plains (out 1) end) typed housed (has_left registers inside (statement_types s) (kinds.parameters_types declared count) own) (leaving_fits out no_ways dies no_ways_fit)
        (plains_fit (out 1) end 0 (dies 1 (has_left registers 1 death_types (statement_types s ++ kinds.parameters_types declared count) h) _) end_fits))

-- ---- functions

-- the variable that holds an address has 8 bytes
home_holds : (sizes : Sizes) (vs : List Variable) (v h : ℕ) → list_all (is_home sizes) (homes_of vs) ≡ true → home_in vs v ≡ Some h → is_within sizes.variables h 0 8 ≡ true
home_holds sizes [] v h all found = absurd (cc)
home_holds sizes (x ∷ vs) zero h all found =
    let first : is_home sizes (Some h) ≡ true = subst (λ (o : Option ℕ). is_home sizes o ≡ true) found (left_of (is_home sizes x.home) (list_all (is_home sizes) (homes_of vs)) all) in
    let size = test_equal (slice_index sizes.variables h) 8 (right_of _ _ first) in
    both_true _ _ (right_of _ _ (left_of _ _ first)) (at_most_true 8 (slice_index sizes.variables h) (omega (arith, size)))
home_holds sizes (x ∷ vs) (suc v) h all found = home_holds sizes vs v h (right_of (is_home sizes x.home) (list_all (is_home sizes) (homes_of vs)) all) found

small_variables : (vs : List Variable) → are_small vs ≡ true → (v : ℕ) → slice_index (sizes_of_variables vs) v < 2 ^ 31
small_variables [] all v = omega arith
small_variables (x ∷ vs) all zero = test_less x.size (2 ^ 31) (left_of (nat_lt x.size (2 ^ 31)) (are_small vs) all)
small_variables (x ∷ vs) all (suc v) = small_variables vs (right_of (nat_lt x.size (2 ^ 31)) (are_small vs) all) v

small_statics : (count literals : ℕ) (objects : List Static) → list_all (is_static count literals) objects ≡ true → (k : ℕ) → slice_index (sizes_of_objects objects) k < 2 ^ 31
small_statics count literals [] all k = omega arith
small_statics count literals (o ∷ objects) all zero = test_less o.size (2 ^ 31) (left_of _ _ (left_of _ _ (left_of _ _ (left_of (is_static count literals o) (list_all (is_static count literals) objects) all))))
small_statics count literals (o ∷ objects) all (suc k) = small_statics count literals objects (right_of (is_static count literals o) (list_all (is_static count literals) objects) all) k

second_behind : (xs : List ℕ) (a b : ℕ) (ys : List ℕ) → slice_index (xs ++ a ∷ b ∷ ys) (length xs + 1) ≡ b
second_behind [] a b ys = refl
second_behind (x ∷ xs) a b ys = let one : length (x ∷ xs) + 1 ≡ suc (length xs + 1) = omega arith in (λ i. slice_index (x ∷ (xs ++ a ∷ b ∷ ys)) (one i)) ∙ second_behind xs a b ys

-- the block in which objects are made is the last one
last_of : (front sizes : List ℕ) (a b heap : ℕ) → slice_index (front ++ a ∷ b ∷ (sizes ++ heap ∷ [])) (length front + 2 + length sizes) ≡ heap
last_of front sizes a b heap =
    let before = front ++ a ∷ b ∷ sizes in
    let count : length before ≡ length front + 2 + length sizes = omega (arith, length-append front (a ∷ b ∷ sizes)) in
    let whole : before ++ heap ∷ [] ≡ front ++ a ∷ b ∷ (sizes ++ heap ∷ []) = append_assoc front (a ∷ b ∷ sizes) (heap ∷ []) in
    (λ i. slice_index (sym whole i) (sym count i)) ∙ get_or-append_seam before heap [] 0

-- over a file that is typed, with small variables and few objects and literals
module _ (file : TypedFile) (statics : are_static file ≡ true) (few_objects : length file.objects < 2 ^ 31) (few_literals : length file.literals < 2 ^ 31) where
  -- the code of a function with a body
  body_fits : (number : ℕ) (p : Procedure) (s : Statement) → list_all (is_home (sizes_in file p)) (homes_of p.variables) ≡ true → are_small p.variables ≡ true → is_typed_statement (sizes_in file p) s ≡ true
      → routine_fits (code_by (first_literal file) number p (Some s)) ≡ true
  body_fits number p s homes small typed =
      let variables = sizes_of_variables p.variables in
      let objects = sizes_of_objects file.objects in
      let needed = needs.statement_temporaries p.variables s in
      let registers = Int ∷ (kinds.death_types p.variables ++ (kinds.statement_types p.variables s ++ kinds.parameters_types p.variables (length p.parameters))) in
      let others = needed.zeros ∷ given_size p.gives ∷ (needed.sizes ++ needed.heap ∷ []) in
      let blocks = variables ++ others in
      let heap = length variables + 2 + length needed.sizes in
      let result : slice_index blocks (length variables + 1) ≡ given_size p.gives = second_behind variables needed.zeros (given_size p.gives) (needed.sizes ++ needed.heap ∷ []) in
      let many : length blocks ≡ length variables + length others = length-append variables others in
      let more : length (needed.sizes ++ needed.heap ∷ []) ≡ length needed.sizes + 1 = length-append needed.sizes (needed.heap ∷ []) in
      let found : slice_index blocks heap ≡ needed.heap = last_of variables needed.sizes needed.zeros (given_size p.gives) needed.heap in
      let objects_count : length objects ≡ length file.objects = length-map file.objects (λ (o : Static). o.size) in
      let sane : Sane p.variables others objects (length file.literals) (first_literal file) heap =
      record {
        homed = λ v h is. home_holds (sizes_in file p) p.variables v h homes is;
        small = small_variables p.variables small;
        small_objects = small_statics (length file.objects) (length file.literals) file.objects statics;
        few_objects = omega (arith, objects_count, few_objects);
        few_literals = omega (arith, few_objects, few_literals);
        heap_there = omega (arith, many, more);
        heap_size = omega (arith, found, few_statement p.variables s);
      } in
      let same : length variables ≡ length p.variables = length-map p.variables (λ (x : Variable). x.size) in
      let here : ℕ → Frame = λ edge. record { function = number; variables = p.variables; zeros = edge; result = edge + 1; free = edge + 2; heap = edge + 2 + length needed.sizes; literals = first_literal file } in
      subst (λ (edge : ℕ). nodes_fit registers blocks 0 (body_code (here edge) p.line (length p.parameters) s) ≡ true) same
      (whole_fits registers p.variables others objects (length file.literals) (first_literal file) (sizes_in file p).functions p.gives file.pointers number heap (omega arith) sane result p.line (length p.parameters) s typed
      (housed_body variables (given_size p.gives) needed) (has_itself registers).0 (has_itself registers).1)

  function_fits : (number : ℕ) (p : Procedure) (body : Option Statement) → list_all (is_home (sizes_in file p)) (homes_of p.variables) ≡ true → are_small p.variables ≡ true → is_typed_body (sizes_in file p) body ≡ true
      → routine_fits (code_by (first_literal file) number p body) ≡ true
  function_fits number p None homes small typed = refl
  function_fits number p (Some s) homes small typed = body_fits number p s homes small typed

  functions_fit : (number : ℕ) (functions : List Procedure) → list_all (is_typed_function file) functions ≡ true → have_small functions ≡ true → routines_fit (function_codes (first_literal file) number functions) ≡ true
  functions_fit number [] typed small = refl
  functions_fit number (p ∷ functions) typed small =
      let first = left_of (is_typed_function file p) (list_all (is_typed_function file) functions) typed in
      both_true _ _ (function_fits number p p.body (right_of _ _ (left_of _ _ first)) (left_of (are_small p.variables) (have_small functions) small) (right_of _ _ first))
      (functions_fit (number + 1) functions (right_of (is_typed_function file p) (list_all (is_typed_function file) functions) typed) (right_of (are_small p.variables) (have_small functions) small))

-- the codes of the functions of a typed file
pub codes_fit : (file : TypedFile) → are_typed file ≡ true → have_small file.functions ≡ true → length file.objects < 2 ^ 31 → length file.literals < 2 ^ 31 → routines_fit (function_codes (first_literal file) 0 file.functions) ≡ true
codes_fit file typed small few_objects few_literals =
    functions_fit file (left_of (are_static file) (list_all (is_typed_function file) file.functions) typed) few_objects few_literals 0 file.functions
    (right_of (are_static file) (list_all (is_typed_function file) file.functions) typed) small
