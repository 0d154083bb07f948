-- The code of an expression does what the expression means.
use Rattle.std.proofs.Common.{◌≡◌, ℕ, ◌+◌, ◌-◌, ◌*◌, ◌^◌, ◌<◌, ◌≤◌, Bool, true, false, List, [], ◌∷◌, ◌++◌, length, map, take, drop, Option, Some, None, zero, suc, refl, sym, ap, ◌∙◌, subst, arith, append_assoc, append-nil, drop-cons}
use Rattle.std.specs.Prelude.{ℤ, pos, min, not, ◌==◌, nat_lt, nat_le, slice_get, slice_index, slice_set, if◌then◌else◌}
use Rattle.std.specs.List.{list_all}
use Rattle.std.proofs.Math.ListN.{get_or-map}
use Rattle.std.proofs.Math.Nat.{mod-eq_of_lt}
use Rattle.std.proofs.Math.Seq.{take-set-lt, take-append_seam, take-append-add}
use Rattle.std.proofs.lemmas.Bool.{false≢true}
use Rattle.std.proofs.lemmas.Bool.Decides.{nat_tests}
use Rattle.std.proofs.lemmas.List.{take-append-le, take-replicate, get_or-set_same, length-append, get_or-take, take-set-le, get_or_append_left, length-map, length-set, length-take-le, length-drop, take_all}
use Rattle.c_types.specs.declared.types.ValueType.{ValueType}
use Rattle.c_types.specs.declared.types.ValueType.TheVariants.{Void, Integer}
use Rattle.c_types.specs.declared.integers.IntegerType.{IntegerType}
use Rattle.c_types.specs.declared.integers.IntegerType.TheVariants as types
use Rattle.c_types.specs.Integers.{bytes, promoted}
use Rattle.core_tree.specs.declared.operators.ArithmeticOperator.{ArithmeticOperator}
use Rattle.core_tree.specs.declared.operators.ArithmeticOperator.TheVariants as arithmetics
use Rattle.core_tree.specs.declared.operators.LogicalOperator.{LogicalOperator}
use Rattle.core_tree.specs.declared.operators.LogicalOperator.TheVariants as logicals
use Rattle.core_tree.specs.Trees.{Place, variable_at, object_at, literal_at, pointed, arrow, member, element, subscript, Expression, constant, read, convert, sign, is_zero, arithmetic, compare, logical, choice, assign, update, step, comma, assertion, assumption, draw, part, discard, discard_structure, call, function_name, size_of_value, size_of_structure, address, sum, distance, relation, pointer_update, pointer_step, allocate, allocate_zeroed, release, exit, abort, Structure, copy, choose, put, follow, section, list, string, give, Parts, no_part, number_part, structure_part, Arguments, no_argument, number_argument, structure_argument}
use Rattle.core_tree.specs.Operations.{number, unless, drawn_width, is_true, truth_bits, converted, arithmetic_check, arithmetic_value, sign_check, sign_value, compared, step_operation}
use Rattle.core_tree.specs.declared.functions.PassedType.{PassedType}
use Rattle.core_tree.specs.declared.functions.PassedType.TheVariants as passed
use Rattle.core_tree.specs.declared.functions.Variable.{Variable}
use Rattle.core_tree.specs.Typed.{Signature, Sizes, homes_of, type_of, size_of, is_within, is_place, fits_at, same_passed, same_given, given_as, gives_this, parameters_of, passed_size, is_typed, is_structure, are_parts, are_arguments}
use Rattle.actions.specs.Pointer.{object_of, offset_of}
use Rattle.c_values.specs.Pointers.{pointer_at, further, in_range, elements_between}
use Rattle.c_values.specs.Variables.{Variables, word_count, drawn_count, pointer_to, low_bytes, put_at, zeros, number_of, number_at, block_of, put_bytes, cleared, read_variable}
use Rattle.c_values.specs.MadeObjects.{made_of}
use Rattle.actions.specs.Behaviour.{Behaviour, shape_of, has_shape, word_64}
use Rattle.actions.specs.declared.action.Action.TheVariants.{Read, Write, Look, Draw, Alloc, Free, Exit}
use Rattle.actions.specs.declared.action.Answer.{Answer}
use Rattle.actions.specs.declared.action.Answer.TheVariants as answers
use Rattle.actions.specs.declared.action.Next.TheVariants.{Broken, Blocked, Ended}
use Rattle.words.specs.BitVector.{signed_value}
use Rattle.words.specs.Operators.{word_product}
use Rattle.words.specs.declared.check.Class.{Class}
use Rattle.words.specs.declared.check.Class.TheVariants.{Assertion, Return, Bounds, Pointer, MallocLimit}
use Rattle.c_meaning.specs.Meaning as source
use Rattle.c_meaning.specs.Meaning.{Running, sizes_of, place_line, integer_of, number_type, drawn, decides, eval, eval_structure, eval_parts, eval_arguments, unless_broken, unless_used, received, received_structure, operated}
use Rattle.goto_prog.specs.declared.code.Instruction.{Instruction}
use Rattle.goto_prog.specs.declared.code.Operation.TheVariants as operations
use Rattle.goto_prog.specs.Meaning.{Given, Reading, word_of, bytes_in, bytes_of, Memory, register, with_register, with_blocks, at, or_else}
use Rattle.goto_prog.specs.Meaning as flat
use Rattle.core_tree.specs.Ranges.{Limits}
use Rattle.goto_prog.specs.Threads.{Calls, acting, ask}
use Rattle.c_temporaries.specs.declared.accesses.Access.{Access}
use Rattle.c_temporaries.specs.declared.accesses.Access.TheVariants as accesses
use Rattle.c_temporaries.specs.Accesses.{access, is_evaluated, home_in, holder_in, unless_homed, variable_access, evaluated_access}
use Rattle.c_temporaries.specs.Temporaries.{value_size, heap_bytes, Temporaries, no_temporaries, both, under, under_all, making, access_temporaries, argument_sizes}
use Rattle.c_temporaries.specs.Temporaries as needs
use Rattle.lowered_code.specs.Lowering.{Frame, argument_count, at_line, read_code, write_code, fetch_code, put_code, base_code, element_code, move_code, grant_code, if_evaluated, place_code, code, structure_code, parts_code, arguments_code, text_code, update_code, logical_code, use_code, call_code, taken_code}
use Rattle.lowered_code.specs.Lowering as lowering
use Rattle.lowered_code.proofs.RegisterTypes.{left_of, right_of, same_integers}
use Rattle.lowered_code.proofs.BlockBytes.{put_size, low_count, few_bytes, put_more, put_none, taken_back, part_of_front, number_of_front, some_zeros, zeros_length, one_byte, number_taken}
use Rattle.lowered_code.proofs.Housing.{Housed, HasTemporaries, Room, housed_making, housed_heap, housed_left, housed_right, housed_under, housed_room, housed_behind, housed_zeros, housed_front, housed_back}
use Rattle.lowered_code.proofs.Placing.{Places, begin_in, on_in, on-append, at-behind, written, written_other, Kept, Filled, kept-refl, kept-then, kept-set, kept-write, kept-behind, kept-cleared, filled-write, filled-put, kept-filled, filled-kept, filled-within, set_same, set_other, set_room, same_final, same_ask, same_ask_when, same_check}

-- what follows a value and the variables
abbrev pub Follows : Type 0
Follows = ℕ → Variables → Behaviour

-- what follows a structure value and the variables
abbrev pub FollowsBytes : Type 0
FollowsBytes = List ℕ → Variables → Behaviour

pub test_less : (a b : ℕ) → nat_lt a b ≡ true → a < b
test_less a b h = grind (arith, nat_tests)

pub test_most : (a b : ℕ) → nat_le a b ≡ true → a ≤ b
test_most a b h = grind (arith, nat_tests)

pub test_equal : (a b : ℕ) → (a == b) ≡ true → a ≡ b
test_equal a b h = grind (arith, nat_tests)

pub same_passing : (a b : Option PassedType) → same_given a b ≡ true → a ≡ b
same_passing None None h = refl
same_passing None (Some q) h = absurd (false≢true h)
same_passing (Some p) None h = absurd (false≢true h)
same_passing (Some (passed.Integer t)) (Some (passed.Integer u)) h = ap (λ v. Some (passed.Integer v)) (same_integers t u h)
same_passing (Some (passed.Integer t)) (Some (passed.Structure size)) h = absurd (false≢true h)
same_passing (Some (passed.Structure size)) (Some (passed.Integer u)) h = absurd (false≢true h)
same_passing (Some (passed.Structure size)) (Some (passed.Structure other)) h = ap (λ n. Some (passed.Structure n)) (test_equal size other h)

-- the index of a step
one_step : number types.Int 1 ≡ pos 1
unfolding signed_value
one_step = refl

-- what calls do, by the source
abbrev pub SourceCalls : Type 0
SourceCalls = (function line : ℕ) → List (List ℕ) → (source.Given → Behaviour) → Behaviour

-- ---- what functions hand over and take

-- what the source hands over, as code does
abbrev pub handed : Option PassedType → source.Given → Given
handed gives source.nothing = None
handed None (source.number x) = None
handed (Some (passed.Integer t)) (source.number x) = Some (low_bytes (bytes t) x)
handed (Some (passed.Structure size)) (source.number x) = None
handed gives (source.structure value) = Some value

-- it is nothing, or of the type that the function gives
abbrev pub IsGiven : Option PassedType → source.Given → Type 0
IsGiven gives source.nothing = Unit {0}
IsGiven None (source.number x) = ⊥
IsGiven (Some (passed.Integer t)) (source.number x) = Unit {0}
IsGiven (Some (passed.Structure size)) (source.number x) = ⊥
IsGiven None (source.structure value) = ⊥
IsGiven (Some (passed.Integer t)) (source.structure value) = ⊥
IsGiven (Some (passed.Structure size)) (source.structure value) = length value ≡ size

-- blocks that begin with the arguments for parameters of these types
abbrev pub AreArguments : List PassedType → (blocks values : List (List ℕ)) → Type 0
AreArguments [] [] [] = Unit {0}
AreArguments [] [] (v ∷ vs) = ⊥
AreArguments [] (b ∷ bs) vs = ⊥
AreArguments (p ∷ ps) [] vs = ⊥
AreArguments (p ∷ ps) (b ∷ bs) [] = ⊥
AreArguments (p ∷ ps) (b ∷ bs) (v ∷ vs) = (take (passed_size p) b ≡ v) × (length v ≡ passed_size p) × AreArguments ps bs vs

-- the size of a variable is the one in the list of sizes
pub size_in : (vs : List Variable) (v : ℕ) → source.size_in_list (slice_get vs v) ≡ slice_index (sizes_of vs) v
size_in [] v = refl
size_in (x ∷ vs) zero = refl
size_in (x ∷ vs) (suc v) = size_in vs v

-- a call of a function that gives this can be typed: no structure has 2 ^ 31 bytes or more
abbrev pub Callable : Option PassedType → Type 0
Callable None = Unit {0}
Callable (Some (passed.Integer t)) = Unit {0}
Callable (Some (passed.Structure size)) = size < 2 ^ 31

pub number_callable : (t : ValueType) → Callable (given_as t)
number_callable Void = tt
number_callable (Integer t) = tt

-- over the sizes of the blocks behind the variables, the number of the last one, in which objects are made, the bounds, what calls of code do, what becomes of what the function hands over, and what calls mean
module _ (running : Running) (others : List ℕ) (heap : ℕ) (limits : Limits) (calls : Calls) (hands : Given → Behaviour) (meant : SourceCalls) where
  abbrev here : Reading Behaviour
  here = acting calls hands

  abbrev begin : Places → Memory → Behaviour
  begin ps m = begin_in limits calls hands ps m

  abbrev on : List Instruction → Places → Places
  on code rest = on_in limits calls hands code rest

  -- the sizes of the variables
  abbrev pub own : List ℕ
  own = sizes_of running.variables

  abbrev edge : ℕ
  edge = length own

  abbrev sizes : List ℕ
  sizes = own ++ others

  abbrev pub frame : ℕ → Frame
  frame d = record { function = running.function; variables = running.variables; zeros = edge; result = edge + 1; free = d; heap = heap; literals = running.literals }

  -- registers and blocks of trees over these variables
  abbrev pub top : Expression → ℕ
  top e = lowering.top running.variables e

  abbrev pub place_top : Place → ℕ
  place_top x = lowering.place_top running.variables x

  abbrev pub held : Place → ℕ
  held x = lowering.held running.variables x

  abbrev pub structure_registers : Structure → ℕ
  structure_registers a = lowering.structure_registers running.variables a

  abbrev pub parts_registers : Parts → ℕ
  parts_registers ps = lowering.parts_registers running.variables ps

  abbrev pub arguments_registers : Arguments → ℕ
  arguments_registers args = lowering.arguments_registers running.variables args

  abbrev pub temporaries : Expression → Temporaries
  temporaries e = needs.temporaries running.variables e

  abbrev pub way_temporaries : Place → Temporaries
  way_temporaries x = needs.way_temporaries running.variables x

  abbrev pub number_temporaries : IntegerType → Place → Temporaries
  number_temporaries t x = needs.number_temporaries running.variables t x

  abbrev pub place_temporaries : IntegerType → Place → Temporaries
  place_temporaries t x = both (way_temporaries x) (number_temporaries t x)

  abbrev pub structure_temporaries : Structure → Temporaries
  structure_temporaries a = needs.structure_temporaries running.variables a

  abbrev pub parts_temporaries : Parts → Temporaries
  parts_temporaries ps = needs.parts_temporaries running.variables ps

  abbrev pub arguments_temporaries : Arguments → Temporaries
  arguments_temporaries args = needs.arguments_temporaries running.variables args

  -- how a place is reached
  abbrev pub reached : Place → Access
  reached x = access running.variables x

  -- the variables are the first blocks
  abbrev pub shown : Memory → Variables
  shown m = take edge m.blocks

  -- the blocks have their sizes, one behind the variables is 0, and those below d are there, with one more behind them
  pub record Placed (d : ℕ) (m : Memory) : Type 0 where
    pub deep : edge + 1 < d
    pub within : d < length sizes
    pub last : length sizes ≡ heap + 1
    pub most : slice_index sizes heap ≤ heap_bytes
    pub sized : map length m.blocks ≡ sizes
    pub clean : block_of m.blocks edge ≡ zeros (slice_index sizes edge)

  abbrev pub Houses : ℕ → Temporaries → Type 0
  Houses d r = Housed sizes edge heap d r

  -- the places go on with the value in register r, whatever the registers from n on and the blocks from d on are
  abbrev pub Goes : ℕ → ℕ → Memory → Places → ℕ → Follows → Type 0
  Goes d n m rest r follows = (m' : Memory) → Kept edge d n m m' → begin rest m' ≡ follows (register m' r) (shown m')

  -- the same with a value of so many bytes that a block has got
  abbrev pub GoesInto : ℕ → ℕ → Memory → Places → ℕ → ℕ → ℕ → FollowsBytes → Type 0
  GoesInto d n m rest into to size follows = (m' : Memory) (value : List ℕ) → length value ≡ size → Filled edge d n into to value m m' → begin rest m' ≡ follows value (shown m')

  pub placed_kept : (d n : ℕ) (m m' : Memory) → Placed d m → Kept edge d n m m' → Placed d m'
  placed_kept d n m m' placed kept = record {
    deep = placed.deep;
    within = placed.within;
    last = placed.last;
    most = placed.most;
    sized = kept.sizes ∙ placed.sized;
    clean = kept.held edge (omega arith) (omega (arith, placed.deep)) ∙ placed.clean;
  }

  placed_filled : (d n into to : ℕ) (value : List ℕ) (m m' : Memory) → Placed d m → edge < into → Filled edge d n into to value m m' → Placed d m'
  placed_filled d n into to value m m' placed behind filled = record {
    deep = placed.deep;
    within = placed.within;
    last = placed.last;
    most = placed.most;
    sized = filled.sizes ∙ placed.sized;
    clean = filled.held edge (omega arith) (omega (arith, placed.deep)) (λ e. omega (arith, e, behind)) ∙ placed.clean;
  }

  pub placed_deeper : (d : ℕ) (m : Memory) → d + 1 < length sizes → Placed d m → Placed (d + 1) m
  placed_deeper d m there placed = record { deep = omega (arith, placed.deep); within = omega (arith, there); last = placed.last; most = placed.most; sized = placed.sized; clean = placed.clean }

  pub block_size : (d : ℕ) (m : Memory) → Placed d m → (i : ℕ) → length (block_of m.blocks i) ≡ slice_index sizes i
  block_size d m placed i = sym (get_or-map length m.blocks i []) ∙ ap (λ xs. slice_index xs i) placed.sized

  pub block_there : (d : ℕ) (m : Memory) → Placed d m → (i : ℕ) → i < d → i < length m.blocks
  block_there d m placed i lt =
      let count : length m.blocks ≡ length sizes = sym (length-map m.blocks length) ∙ ap length placed.sized in
      omega (arith, lt, count, placed.within)

  kept_size : (d n : ℕ) (m m' : Memory) → Placed d m → Kept edge d n m m' → (i : ℕ) → length (block_of m'.blocks i) ≡ length (block_of m.blocks i)
  kept_size d n m m' placed kept i = block_size d m' (placed_kept d n m m' placed kept) i ∙ sym (block_size d m placed i)

  -- ---- variables

  pub variable_below : (v offset count : ℕ) → is_within own v offset count ≡ true → v < edge
  variable_below v offset count within = test_less v edge (left_of (nat_lt v edge) (nat_le (offset + count) (slice_index own v)) within)

  pub variable_room : (d : ℕ) (m : Memory) → Placed d m → (v offset count : ℕ) → is_within own v offset count ≡ true → offset + count ≤ length (block_of m.blocks v)
  variable_room d m placed v offset count within =
      let fits = test_most (offset + count) (slice_index own v) (right_of (nat_lt v edge) (nat_le (offset + count) (slice_index own v)) within) in
      let size = block_size d m placed v ∙ get_or_append_left own others 0 v (variable_below v offset count within) in
      omega (arith, fits, size)

  pub shown_block : (m : Memory) (v : ℕ) → v < edge → block_of m.blocks v ≡ block_of (shown m) v
  shown_block m v below = sym (get_or-take edge m.blocks v [] below)

  pub shown_write : (m : Memory) (v offset : ℕ) (new : List ℕ) → v < edge → shown (written m v offset new) ≡ put_bytes (shown m) v offset new
  shown_write m v offset new below =
      take-set-lt edge m.blocks v (put_at offset new (block_of m.blocks v)) below ∙ (λ i. slice_set (shown m) v (put_at offset new (shown_block m v below i)))

  pub shown_clear : (m : Memory) (v size : ℕ) → v < edge → shown (with_blocks m (cleared m.blocks v size)) ≡ cleared (shown m) v size
  shown_clear m v size below = take-set-lt edge m.blocks v (zeros size) below

  pub variable_size : (d : ℕ) (m : Memory) → Placed d m → (v : ℕ) → v < edge → length (block_of m.blocks v) ≡ slice_index own v
  variable_size d m placed v below = block_size d m placed v ∙ get_or_append_left own others 0 v below

  pub shown_other : (m : Memory) (b offset : ℕ) (new : List ℕ) → edge ≤ b → shown (written m b offset new) ≡ shown m
  shown_other m b offset new behind = take-set-le edge m.blocks b (put_at offset new (block_of m.blocks b)) behind

  pub low_room : (d : ℕ) (m : Memory) → Placed d m → (v offset : ℕ) (t : IntegerType) (x : ℕ) → is_within own v offset (bytes t) ≡ true → offset + length (low_bytes (bytes t) x) ≤ length (block_of m.blocks v)
  low_room d m placed v offset t x within = omega (arith, low_count (bytes t) x (few_bytes t), variable_room d m placed v offset (bytes t) within)

  part_long : (offset size : ℕ) (block : List ℕ) → offset + size ≤ length block → length (take size (drop offset block)) ≡ size
  part_long offset size block fits = length-take-le size (drop offset block) (omega (arith, fits, length-drop offset block))

  block_kept : (d n into to : ℕ) (value : List ℕ) (m m' : Memory) → Filled edge d n into to value m m' → length (block_of m'.blocks into) ≡ length (block_of m.blocks into)
  block_kept d n into to value m m' filled = sym (get_or-map length m'.blocks into []) ∙ ap (λ xs. slice_index xs into) filled.sizes ∙ get_or-map length m.blocks into []

  number_within : (size offset : ℕ) (t : ValueType) → fits_at size offset t ≡ true → offset + bytes (integer_of t) ≤ size
  number_within size offset Void h = absurd (false≢true h)
  number_within size offset (Integer t) h = test_most (offset + bytes t) size h

  -- one instruction that sets a register to x
  pub sets : (d n r x : ℕ) (m m' : Memory) (rest : Places) (follows : Follows)
      → n ≤ r → r < length m.registers → Kept edge d n m m'
      → Goes d n m rest r follows
      → begin rest (with_register m' r x) ≡ follows x (shown m')
  sets d n r x m m' rest follows above room kept goes =
      goes (with_register m' r x) (kept-then edge d n n m m' (with_register m' r x) (omega arith) kept (kept-set edge d n r m' x above))
      ∙ ap (λ y. follows y (shown m')) (set_same m' r x (omega (arith, room, kept.room)))

  pub goes-at : (d n : ℕ) (m : Memory) (rest : Places) (r s : ℕ) (follows : Follows) → s ≡ r → Goes d n m rest s follows → Goes d n m rest r follows
  goes-at d n m rest r s follows same goes = subst (λ (q : ℕ). Goes d n m rest q follows) same goes

  pub split : (xs ys : List Instruction) (rest : Places) (m : Memory) → begin (on (xs ++ ys) rest) m ≡ begin (on xs (on ys rest)) m
  split xs ys rest m = ap (λ (ps : Places). begin ps m) (on-append limits calls hands xs ys rest)

  -- past code, and k places more
  pub past : (xs ys : List Instruction) (rest : Places) (k : ℕ) (m : Memory) → at here (on (xs ++ ys) rest) (length xs + k) m ≡ at here (on ys rest) k m
  past xs ys rest k m = ap (λ (ps : Places). at here ps (length xs + k) m) (on-append limits calls hands xs ys rest) ∙ at-behind limits calls hands xs (on ys rest) k m

  pub past_all : (xs : List Instruction) (rest : Places) (m : Memory) → at here (on xs rest) (length xs) m ≡ begin rest m
  past_all xs rest m = (let same : length xs ≡ length xs + 0 = omega arith in ap (λ n. at here (on xs rest) n m) same) ∙ at-behind limits calls hands xs rest 0 m

  not_not : (b : Bool) → b ≡ not (not b)
  not_not true = refl
  not_not false = refl

  zero_of_truth : (b : Bool) → truth_bits (truth_bits b == 0) ≡ truth_bits (not b)
  zero_of_truth true = refl
  zero_of_truth false = refl

  -- two choices by one test, the second by its inverse
  pub turned : {A : Type 0} (b : Bool) (x y u v : A) → x ≡ v → y ≡ u → (if b then x else y) ≡ (if not b then u else v)
  turned true x y u v first second = first
  turned false x y u v first second = second

  -- a choice by a test, beside what the test decides otherwise
  pub by_test : {A : Type 0} (b : Bool) (z : Bool → A) (x y : A) → x ≡ z true → y ≡ z false → (if b then x else y) ≡ z b
  by_test true z x y first second = first
  by_test false z x y first second = second

  chosen : (b : Bool) (at : ℕ → ℕ) (r s r' old : ℕ) → r ≡ r' → at s ≡ old → at (if b then r else s) ≡ (if b then at r' else old)
  chosen true at r s r' old same still = ap at same
  chosen false at r s r' old same still = still

  -- the truth of the register `from`, in the register two behind it
  tested : (d n k from : ℕ) (m m1 m2 : Memory) (rest : Places) (follows : Follows)
      → n ≤ k → k ≤ from → from + 2 < length m.registers → Kept edge d n m m1 → Kept edge d k m1 m2
      → Goes d n m rest (from + 2) follows
      → (let m3 = with_register m2 (from + 1) (truth_bits (register m2 from == 0)) in begin rest (with_register m3 (from + 2) (truth_bits (register m3 (from + 1) == 0))))
      ≡ follows (truth_bits (is_true (register m2 from))) (shown m2)
  tested d n k from m m1 m2 rest follows above up room kept1 kept2 goes =
      let test = truth_bits (register m2 from == 0) in
      let m3 = with_register m2 (from + 1) test in
      let kept : Kept edge d n m m2 = kept-then edge d n k m m1 m2 above kept1 kept2 in
      sets d n (from + 2) (truth_bits (register m3 (from + 1) == 0)) m m3 rest follows (omega (arith, above, up)) room (kept-then edge d n n m m2 m3 (omega arith) kept (kept-set edge d n (from + 1) m2 test (omega (arith, above, up)))) goes
      ∙ ap (λ x. follows (truth_bits (x == 0)) (shown m2)) (set_same m2 (from + 1) test (omega (arith, room, kept.room)))
      ∙ ap (λ x. follows x (shown m2)) (zero_of_truth (register m2 from == 0))

  pub same_word : (a : Answer) → word_of a ≡ drawn a
  same_word answers.Done = refl
  same_word (answers.Bytes bs) = refl
  same_word (answers.Size n) = refl
  same_word (answers.Word w) = refl
  same_word (answers.Number n) = refl
  same_word (answers.Value v) = refl

  pub same_bytes : (a : Answer) → bytes_in a ≡ source.bytes_in a
  same_bytes answers.Done = refl
  same_bytes (answers.Bytes bs) = refl
  same_bytes (answers.Size n) = refl
  same_bytes (answers.Word w) = refl
  same_bytes (answers.Number n) = refl
  same_bytes (answers.Value v) = refl

  -- a read gives as many bytes as it asks for
  read_size : (pointer count : ℕ) (a : Answer) → has_shape (shape_of (Read pointer count)) a ≡ true → length (bytes_in a) ≡ count
  read_size pointer count answers.Done h = absurd (false≢true h)
  read_size pointer count (answers.Bytes bs) h = test_equal (length bs) count (left_of _ _ h)
  read_size pointer count (answers.Size n) h = absurd (false≢true h)
  read_size pointer count (answers.Word w) h = absurd (false≢true h)
  read_size pointer count (answers.Number n) h = absurd (false≢true h)
  read_size pointer count (answers.Value v) h = absurd (false≢true h)

  -- ---- calls

  -- a call of code does what a call of the source means, where what follows does
  abbrev pub Agree : List Signature → Type 0
  Agree functions =
      (f line : ℕ) (g : Signature) (blocks values : List (List ℕ)) (x : Given → Behaviour) (y : source.Given → Behaviour)
      → slice_get functions f ≡ Some g → Callable g.gives → AreArguments g.parameters blocks values
      → ((given : source.Given) → IsGiven g.gives given → x (handed g.gives given) ≡ y given)
      → calls running.function f line blocks x ≡ meant f line values y

  -- calls agree, addresses are held by variables of 8 bytes, each offset within a variable is small, and no more is allocated than a block has
  pub record Sound (functions : List Signature) : Type 0 where
    pub agree : Agree functions
    pub homed : (v h : ℕ) → source.home_of running v ≡ Some h → is_within own h 0 8 ≡ true
    pub limited : running.malloc_limit ≤ heap_bytes
    pub bounded : limits.malloc_limit ≡ running.malloc_limit
    pub failing : limits.malloc_may_fail ≡ running.malloc_may_fail
    pub small : (v offset count : ℕ) → is_within own v offset count ≡ true → offset_of offset ≡ offset

  pub variable_size_is : (v : ℕ) → source.size_of running v ≡ slice_index own v
  variable_size_is v = size_in running.variables v

  -- bytes within a variable are there
  in_bounds : (v offset count line : ℕ) (b : Behaviour) → is_within own v offset count ≡ true → source.unless_outside running v offset count line b ≡ b
  in_bounds v offset count line b within =
      let fits : nat_le (offset + count) (source.size_of running v) ≡ true =
      ap (λ n. nat_le (offset + count) n) (variable_size_is v) ∙ right_of (nat_lt v edge) (nat_le (offset + count) (slice_index own v)) within in
      λ i. if fits i then b else source.final (Broken Bounds line running.function)

  -- the blocks from b on begin with the arguments
  abbrev pub AreThere : List PassedType → ℕ → List (List ℕ) → Memory → Type 0
  AreThere [] b [] m = Unit {0}
  AreThere [] b (v ∷ vs) m = ⊥
  AreThere (p ∷ ps) b [] m = ⊥
  AreThere (p ∷ ps) b (v ∷ vs) m = (take (passed_size p) (block_of m.blocks b) ≡ v) × (length v ≡ passed_size p) × AreThere ps (b + 1) vs m

  there_still : (ps : List PassedType) (b : ℕ) (vs : List (List ℕ)) (m m' : Memory) → ((i : ℕ) → b ≤ i → i < b + length ps → block_of m'.blocks i ≡ block_of m.blocks i) → AreThere ps b vs m → AreThere ps b vs m'
  there_still [] b [] m m' same there = tt
  there_still [] b (v ∷ vs) m m' same there = absurd there
  there_still (p ∷ ps) b [] m m' same there = absurd there
  there_still (p ∷ ps) b (v ∷ vs) m m' same there =
      ((λ i. take (passed_size p) (same b (omega arith) (omega arith) i)) ∙ there.0, there.1, there_still ps (b + 1) vs m m' (λ i from lt. same i (omega (arith, from)) (omega (arith, lt))) there.2)

  arguments_there : (ps : List PassedType) (b : ℕ) (vs : List (List ℕ)) (m : Memory) → b + length ps ≤ length m.blocks → AreThere ps b vs m → AreArguments ps (take (length ps) (drop b m.blocks)) vs
  arguments_there [] b [] m room there = tt
  arguments_there [] b (v ∷ vs) m room there = absurd there
  arguments_there (p ∷ ps) b [] m room there = absurd there
  arguments_there (p ∷ ps) b (v ∷ vs) m room there =
      let front : drop b m.blocks ≡ block_of m.blocks b ∷ drop (b + 1) m.blocks = drop-cons m.blocks b [] (omega (arith, room)) ∙ (let more : suc b ≡ b + 1 = omega arith in λ i. block_of m.blocks b ∷ drop (more i) m.blocks) in
      subst (λ (bs : List (List ℕ)). AreArguments (p ∷ ps) (take (length (p ∷ ps)) bs) (v ∷ vs)) (sym front)
      (there.0, there.1, arguments_there ps (b + 1) vs m (omega (arith, room)) there.2)

  kept_lower : (d b n : ℕ) (m m' : Memory) → b ≤ d → Kept edge d n m m' → Kept edge b n m m'
  kept_lower d b n m m' low kept = record { below = kept.below; room = kept.room; sizes = kept.sizes; held = λ i from lt. kept.held i from (omega (arith, lt, low)) }

  -- a block that is filled is none of those below it
  filled_lower : (d b n to : ℕ) (value : List ℕ) (m m' : Memory) → b ≤ d → Filled edge d n b to value m m' → Kept edge b n m m'
  filled_lower d b n to value m m' low filled = record { below = filled.below; room = filled.room; sizes = filled.sizes; held = λ i from lt. filled.held i from (omega (arith, lt, low)) (λ e. omega (arith, lt, e)) }

  number_passed : (p : PassedType) (t : ValueType) → same_given (Some p) (given_as t) ≡ true → p ≡ passed.Integer (integer_of t)
  number_passed p Void h = absurd (false≢true h)
  number_passed (passed.Integer u) (Integer t) h = ap passed.Integer (same_integers u t h)
  number_passed (passed.Structure size) (Integer t) h = absurd (false≢true h)

  structure_passed : (p : PassedType) (size : ℕ) → same_passed p (passed.Structure size) ≡ true → p ≡ passed.Structure size
  structure_passed (passed.Integer u) size h = absurd (false≢true h)
  structure_passed (passed.Structure other) size h = ap passed.Structure (test_equal other size h)

  pub same_gives : (a b : Option PassedType) → same_given a b ≡ true → a ≡ b
  same_gives a b h = same_passing a b h

  found_as : (gives : Option PassedType) (o : Option Signature) → gives_this gives o ≡ true → (g : Signature) × (o ≡ Some g) × (g.gives ≡ gives)
  found_as gives None h = absurd (false≢true h)
  found_as gives (Some g) h = (g, refl, same_gives g.gives gives h)

  -- a number of bytes that are 0
  no_number : (t : IntegerType) → number_at t 0 (zeros (bytes t)) ≡ 0
  no_number types.Bool = refl
  no_number types.Char = refl
  no_number types.SignedChar = refl
  no_number types.UnsignedChar = refl
  no_number types.Short = refl
  no_number types.UnsignedShort = refl
  no_number types.Int = refl
  no_number types.UnsignedInt = refl
  no_number types.Long = refl
  no_number types.UnsignedLong = refl
  no_number types.LongLong = refl
  no_number types.UnsignedLongLong = refl

  -- the memory behind a call that hands bytes over
  abbrev with_given : Memory → (b r : ℕ) → List ℕ → Memory
  with_given m b r value = with_register (written m b 0 value) r 1

  given_whole : (m : Memory) (b r : ℕ) (value : List ℕ) → length value ≤ length (block_of m.blocks b) → flat.received m b r (Some value) ≡ with_given m b r value
  given_whole m b r value fits = λ i. with_register (written m b 0 (take_all (length (block_of m.blocks b)) value fits i)) r 1

  -- over the sizes of the static objects, how many literals there are, the types of the functions, what the function gives, and whether forms with pointers may stand
  module _ (objects : List ℕ) (literals : ℕ) (functions : List Signature) (gives : Option PassedType) (allowed : Bool) (sound : Sound functions) where
    abbrev pub known : Sizes
    known = record { variables = own; homes = homes_of running.variables; objects = objects; literals = literals; functions = functions; gives = gives; pointers = allowed }

    -- ---- how a place is reached

    abbrev holder : Access → Option ℕ
    holder (accesses.Variable v offset) = Some v
    holder (accesses.Object k offset) = None
    holder (accesses.Within v) = Some v
    holder accesses.Pointed = None

    variable_holder : (o : Option ℕ) (v offset : ℕ) → source.own_variable running o v ≡ holder (variable_access o v offset)
    variable_holder None v offset = refl
    variable_holder (Some h) v offset = refl

    home_holder : (o : Option ℕ) (v : ℕ) → source.own_variable running o v ≡ unless_homed o v
    home_holder None v = refl
    home_holder (Some h) v = refl

    inner_holder : (x : Place) → source.variable_of running x ≡ holder_in running.variables x
    inner_holder (variable_at line v offset) = home_holder (home_in running.variables v) v
    inner_holder (object_at line k offset) = refl
    inner_holder (literal_at line k) = refl
    inner_holder (pointed line e) = refl
    inner_holder (arrow line e offset) = refl
    inner_holder (member line x offset) = inner_holder x
    inner_holder (element line x e size whole swapped) = inner_holder x
    inner_holder (subscript line a e size swapped) = refl

    evaluated_holder : (o : Option ℕ) → o ≡ holder (evaluated_access o)
    evaluated_holder None = refl
    evaluated_holder (Some v) = refl

    same_holder : (x : Place) → source.variable_of running x ≡ holder (reached x)
    same_holder (variable_at line v offset) = variable_holder (home_in running.variables v) v offset
    same_holder (object_at line k offset) = refl
    same_holder (literal_at line k) = refl
    same_holder (pointed line e) = refl
    same_holder (arrow line e offset) = refl
    same_holder (member line x offset) = inner_holder x ∙ evaluated_holder (holder_in running.variables x)
    same_holder (element line x e size whole swapped) = inner_holder x ∙ evaluated_holder (holder_in running.variables x)
    same_holder (subscript line a e size swapped) = refl

    -- so many bytes may be there
    abbrev FitsAt : Access → ℕ → Type 0
    FitsAt (accesses.Variable v offset) count = is_within own v offset count ≡ true
    FitsAt (accesses.Object k offset) count = Unit {0}
    FitsAt (accesses.Within v) count = v < edge
    FitsAt accesses.Pointed count = Unit {0}

    variable_fits : (o : Option ℕ) (v offset count : ℕ) → is_within own v offset count ≡ true → FitsAt (variable_access o v offset) count
    variable_fits None v offset count h = h
    variable_fits (Some k) v offset count h = tt

    home_below : (o : Option ℕ) (v u : ℕ) → unless_homed o v ≡ Some u → v < edge → u < edge
    home_below None v u e below = let same : v ≡ u = cc in subst (λ (w : ℕ). w < edge) same below
    home_below (Some h) v u e below = absurd (cc)

    inner_below : (x : Place) (count : ℕ) → is_place known count x ≡ true → (u : ℕ) → holder_in running.variables x ≡ Some u → u < edge
    inner_below (variable_at line v offset) count typed u e = home_below (home_in running.variables v) v u e (variable_below v offset count typed)
    inner_below (object_at line k offset) count typed u e = absurd (cc)
    inner_below (literal_at line k) count typed u e = absurd (cc)
    inner_below (pointed line p) count typed u e = absurd (cc)
    inner_below (arrow line p offset) count typed u e = absurd (cc)
    inner_below (member line x offset) count typed u e = inner_below x (offset + count) (right_of _ _ typed) u e
    inner_below (element line x i size whole swapped) count typed u e = inner_below x 0 (right_of _ _ (left_of _ _ typed)) u e
    inner_below (subscript line a i size swapped) count typed u e = absurd (cc)

    evaluated_fits : (o : Option ℕ) (count : ℕ) → ((u : ℕ) → o ≡ Some u → u < edge) → FitsAt (evaluated_access o) count
    evaluated_fits None count below = tt
    evaluated_fits (Some u) count below = below u refl

    fits_place : (x : Place) (count : ℕ) → is_place known count x ≡ true → FitsAt (reached x) count
    fits_place (variable_at line v offset) count typed = variable_fits (home_in running.variables v) v offset count typed
    fits_place (object_at line k offset) count typed = tt
    fits_place (literal_at line k) count typed = tt
    fits_place (pointed line e) count typed = tt
    fits_place (arrow line e offset) count typed = tt
    fits_place (member line x offset) count typed = evaluated_fits (holder_in running.variables x) count (inner_below x (offset + count) (right_of _ _ typed))
    fits_place (element line x e size whole swapped) count typed = evaluated_fits (holder_in running.variables x) count (inner_below x 0 (right_of _ _ (left_of _ _ typed)))
    fits_place (subscript line a e size swapped) count typed = tt

    -- where a place is; the register p tells that where it is evaluated
    abbrev IsAt : Access → Memory → (p at : ℕ) → Type 0
    IsAt (accesses.Variable v offset) m p at = at ≡ offset
    IsAt (accesses.Object k offset) m p at = at ≡ pointer_to k offset
    IsAt (accesses.Within v) m p at = register m p ≡ at
    IsAt accesses.Pointed m p at = register m p ≡ at

    -- so it is where registers below n are the same
    at_still : (way : Access) (n p at : ℕ) (m m' : Memory) → (is_evaluated way ≡ true → p < n) → ((r : ℕ) → r < n → register m' r ≡ register m r) → IsAt way m p at → IsAt way m' p at
    at_still (accesses.Variable v offset) n p at m m' below same is = is
    at_still (accesses.Object k offset) n p at m m' below same is = is
    at_still (accesses.Within v) n p at m m' below same is = same p (below refl) ∙ is
    at_still accesses.Pointed n p at m m' below same is = same p (below refl) ∙ is

    held_top : (b : Bool) (last n : ℕ) → b ≡ true → n + last < n + (if b then last + 1 else 0)
    held_top true last n h = omega arith
    held_top false last n h = absurd (false≢true h)

    -- where a place is evaluated, its register is below those that come behind
    held_below : (x : Place) (n : ℕ) → is_evaluated (reached x) ≡ true → n + place_top x < n + held x
    held_below x n h = held_top (is_evaluated (reached x)) (place_top x) n h

    -- a check of a range breaks its class, or what follows
    ranging : (b : Bool) (class : Class) (line : ℕ) (x y : Behaviour) → (b ≡ true → x ≡ y) → or_else here (unless b class) line running.function x ≡ (if b then y else source.final (Broken class line running.function))
    ranging true class line x y same = same refl
    ranging false class line x y same = same_final (Broken class line running.function)

    taken_inside : (count q : ℕ) (block : List ℕ) → q + count ≤ length block → flat.taken_at count q block ≡ take count (drop q block)
    taken_inside count q block fits = take-append-le count (drop q block) (zeros count) (omega (arith, fits, length-drop q block))

    put_inside : (q : ℕ) (new old : List ℕ) → q + length new ≤ length old → flat.put_within q new old ≡ put_at q new old
    put_inside q new old fits = take_all (length old) (put_at q new old) (omega (arith, put_size q new old fits))

    -- bytes of a variable are read and written without an action
    own_reads : (v at count line : ℕ) (vs : Variables) (follows : List ℕ → Behaviour) → is_within own v at count ≡ true
        → source.reads running (Some v) at count line vs follows ≡ follows (take count (drop at (block_of vs v)))
    own_reads v at count line vs follows within =
        (λ i. source.unless_outside running v (sound.small v at count within i) count line (follows (take count (drop (sound.small v at count within i) (block_of vs v)))))
        ∙ in_bounds v at count line (follows (take count (drop at (block_of vs v)))) within

    own_writes : (v at line : ℕ) (new : List ℕ) (vs : Variables) (follows : Variables → Behaviour) → is_within own v at (length new) ≡ true
        → source.writes running (Some v) at new line vs follows ≡ follows (put_bytes vs v at new)
    own_writes v at line new vs follows within =
        (λ i. source.unless_outside running v (sound.small v at (length new) within i) (length new) line (follows (put_bytes vs v (sound.small v at (length new) within i) new)))
        ∙ in_bounds v at (length new) line (follows (put_bytes vs v at new)) within

    -- a number that a free block has got, into a register from n on
    loading : (line d n r : ℕ) (t : IntegerType) (found : List ℕ) (m : Memory) (rest : Places) (follows : Follows)
        → length found ≡ bytes t → Room sizes d (bytes t) → Placed d m → n ≤ r → r < length m.registers → Goes d n m rest r follows
        → begin (on (at_line (frame d) line (operations.Load r t d 0) ∷ []) rest) (written m d 0 found) ≡ follows (number_of t found) (shown m)
    loading line d n r t found m rest follows long free placed above room goes =
        let there : d < length m.blocks = block_there (d + 1) m (placed_deeper d m free.there placed) d (omega arith) in
        let m1 : Memory = written m d 0 found in
        let filled : Filled edge (d + 1) n d 0 found m m1 = filled-put edge (d + 1) n d 0 found m there (omega (arith, long, free.fits, block_size d m placed d)) in
        sets d n r (read_variable m1.blocks d 0 t) m m1 rest follows above room (filled-kept edge d n 0 found m m1 filled) goes
        ∙ (λ i. follows (number_at t 0 (filled.filled i)) (shown m1))
        ∙ ap (λ x. follows x (shown m1)) (number_of_front t 0 found (block_of m.blocks d) (omega (arith, long)))
        ∙ (λ i. follows (number_of t found) (shown_other m d 0 found (omega (arith, placed.deep)) i))

    -- the number at a place, into a register from n on
    reading : (line d n r p at : ℕ) (t : IntegerType) (way : Access) (m : Memory) (rest : Places) (follows : Follows)
        → FitsAt way (bytes t) → Houses d (access_temporaries (bytes t) way) → Placed d m → n ≤ r → r < length m.registers → IsAt way m p at → Goes d n m rest r follows
        → begin (on (read_code (frame d) line r t way p) rest) m ≡ source.reads running (holder way) at (bytes t) line (shown m) (λ found. follows (number_of t found) (shown m))
    reading line d n r p at t (accesses.Variable v offset) m rest follows fits housed placed above room is goes =
        sets d n r (read_variable m.blocks v offset t) m m rest follows above room (kept-refl edge d n m) goes
        ∙ ap (λ x. follows x (shown m)) (sym (number_taken t offset (block_of m.blocks v) (variable_room d m placed v offset (bytes t) fits)))
        ∙ ap (λ block. follows (number_of t (take (bytes t) (drop offset block))) (shown m)) (shown_block m v (variable_below v offset (bytes t) fits))
        ∙ sym (own_reads v offset (bytes t) line (shown m) (λ found. follows (number_of t found) (shown m)) fits)
        ∙ (λ i. source.reads running (Some v) (sym is i) (bytes t) line (shown m) (λ found. follows (number_of t found) (shown m)))
    reading line d n r p at t (accesses.Object k offset) m rest follows fits housed placed above room is goes =
        same_ask_when running (Read (pointer_to k offset) (bytes t)) line _ _ (λ a h.
        loading line d n r t (bytes_in a) m rest follows (read_size (pointer_to k offset) (bytes t) a h) (housed_room sizes edge heap d (bytes t) no_temporaries housed) placed above room goes
        ∙ (λ i. follows (number_of t (same_bytes a i)) (shown m)))
        ∙ (λ i. source.reads running None (sym is i) (bytes t) line (shown m) (λ found. follows (number_of t found) (shown m)))
    reading line d n r p at t (accesses.Within v) m rest follows fits housed placed above room is goes =
        let q = offset_of (register m p) in
        let block = block_of m.blocks v in
        let tail : List Instruction = at_line (frame d) line (operations.Load r t d 0) ∷ [] in
        ranging (nat_le (q + bytes t) (slice_index own v)) Bounds line _ _ (λ inside.
        let there : q + bytes t ≤ length block = omega (arith, test_most (q + bytes t) (slice_index own v) inside, variable_size d m placed v fits) in
        (λ i. begin (on tail rest) (written m d 0 (taken_inside (bytes t) q block there i)))
        ∙ loading line d n r t (take (bytes t) (drop q block)) m rest follows (part_long q (bytes t) block there) (housed_room sizes edge heap d (bytes t) no_temporaries housed) placed above room goes
        ∙ (λ i. follows (number_of t (take (bytes t) (drop q (shown_block m v fits i)))) (shown m)))
        ∙ (λ i. if nat_le (q + bytes t) (sym (variable_size_is v) i) then follows (number_of t (take (bytes t) (drop q (block_of (shown m) v)))) (shown m) else source.final (Broken Bounds line running.function))
        ∙ (λ i. source.reads running (Some v) (is i) (bytes t) line (shown m) (λ found. follows (number_of t found) (shown m)))
    reading line d n r p at t accesses.Pointed m rest follows fits housed placed above room is goes =
        same_ask_when running (Read (register m p) (bytes t)) line _ _ (λ a h.
        loading line d n r t (bytes_in a) m rest follows (read_size (register m p) (bytes t) a h) (housed_room sizes edge heap d (bytes t) no_temporaries housed) placed above room goes
        ∙ (λ i. follows (number_of t (same_bytes a i)) (shown m)))
        ∙ (λ i. source.reads running None (is i) (bytes t) line (shown m) (λ found. follows (number_of t found) (shown m)))

    -- bytes that a free block gets, on the way to a place
    pub record Stored (d n : ℕ) (new : List ℕ) (m0 m : Memory) : Type 0 where
      pub kept : Kept edge d n m0 (written m d 0 new)
      pub same : bytes_of (written m d 0 new).blocks d 0 (length new) ≡ new
      pub still : shown (written m d 0 new) ≡ shown m

    pub storing : (d n : ℕ) (new : List ℕ) (m0 m : Memory) → Room sizes d (length new) → Placed d m0 → Kept edge d n m0 m → Stored d n new m0 m
    storing d n new m0 m free placed kept =
        let placed1 = placed_kept d n m0 m placed kept in
        let there : d < length m.blocks = block_there (d + 1) m (placed_deeper d m free.there placed1) d (omega arith) in
        let filled : Filled edge (d + 1) n d 0 new m (written m d 0 new) = filled-put edge (d + 1) n d 0 new m there (omega (arith, free.fits, block_size d m placed1 d)) in
        record {
          kept = kept-then edge d n n m0 m (written m d 0 new) (omega arith) kept (filled-kept edge d n 0 new m (written m d 0 new) filled);
          same = (λ i. take (length new) (filled.filled i)) ∙ taken_back 0 (length new) new (block_of m.blocks d) refl (omega arith);
          still = shown_other m d 0 new (omega (arith, placed.deep));
        }

    -- bytes in the place of as many of a variable
    overwriting : (v q : ℕ) (new old : List ℕ) (m : Memory) → block_of m.blocks v ≡ old → q + length new ≤ length old → with_blocks m (slice_set m.blocks v (flat.put_within q new (block_of m.blocks v))) ≡ written m v q new
    overwriting v q new old m is fits =
        let there : q + length new ≤ length (block_of m.blocks v) = omega (arith, fits, ap length is) in
        λ i. with_blocks m (slice_set m.blocks v (put_inside q new (block_of m.blocks v) there i))

    free_for : (size : ℕ) (new : List ℕ) (d : ℕ) → length new ≡ size → Room sizes d size → Room sizes d (length new)
    free_for size new d long free = record { there = free.there; fits = omega (arith, free.fits, long) }

    -- the code of a write of a place leaves the registers as they are
    writing : (line d n r p at : ℕ) (t : IntegerType) (way : Access) (m0 m : Memory) (rest : Places) (follows : Variables → Behaviour)
        → FitsAt way (bytes t) → Houses d (access_temporaries (bytes t) way) → Placed d m0 → Kept edge d n m0 m → IsAt way m p at
        → ((m' : Memory) → Kept edge d n m0 m' → m'.registers ≡ m.registers → begin rest m' ≡ follows (shown m'))
        → begin (on (write_code (frame d) line t way p r) rest) m ≡ source.writes running (holder way) at (low_bytes (bytes t) (register m r)) line (shown m) follows
    writing line d n r p at t (accesses.Variable v offset) m0 m rest follows fits housed placed kept is goes =
        let variable = variable_below v offset (bytes t) fits in
        let new = low_bytes (bytes t) (register m r) in
        let count : length new ≡ bytes t = low_count (bytes t) (register m r) (few_bytes t) in
        let there = low_room d m (placed_kept d n m0 m placed kept) v offset t (register m r) fits in
        goes (written m v offset new) (kept-write edge d n v offset new m0 m variable there kept) refl
        ∙ ap follows (shown_write m v offset new variable)
        ∙ sym (own_writes v offset line new (shown m) follows ((λ i. is_within own v offset (count i)) ∙ fits))
        ∙ (λ i. source.writes running (Some v) (sym is i) new line (shown m) follows)
    writing line d n r p at t (accesses.Object k offset) m0 m rest follows fits housed placed kept is goes =
        let new = low_bytes (bytes t) (register m r) in
        let long : length new ≡ bytes t = low_count (bytes t) (register m r) (few_bytes t) in
        let stored = storing d n new m0 m (free_for (bytes t) new d long (housed_room sizes edge heap d (bytes t) no_temporaries housed)) placed kept in
        let same : bytes_of (written m d 0 new).blocks d 0 (bytes t) ≡ new = (λ i. bytes_of (written m d 0 new).blocks d 0 (sym long i)) ∙ stored.same in
        (λ i. ask (Write (pointer_to k offset) (same i) false) line running.function (λ a. begin rest (written m d 0 new)))
        ∙ same_ask running (Write (pointer_to k offset) new false) line _ _ (λ i a. (goes (written m d 0 new) stored.kept refl ∙ ap follows stored.still) i)
        ∙ (λ i. source.writes running None (sym is i) new line (shown m) follows)
    writing line d n r p at t (accesses.Within v) m0 m rest follows fits housed placed kept is goes =
        let q = offset_of (register m p) in
        let new = low_bytes (bytes t) (register m r) in
        let long : length new ≡ bytes t = low_count (bytes t) (register m r) (few_bytes t) in
        let stored = storing d n new m0 m (free_for (bytes t) new d long (housed_room sizes edge heap d (bytes t) no_temporaries housed)) placed kept in
        let m1 : Memory = written m d 0 new in
        let same : bytes_of m1.blocks d 0 (bytes t) ≡ new = (λ i. bytes_of m1.blocks d 0 (sym long i)) ∙ stored.same in
        let placed1 = placed_kept d n m0 m1 placed stored.kept in
        ranging (nat_le (q + bytes t) (slice_index own v)) Bounds line _ _ (λ inside.
        let there : q + length new ≤ length (block_of m1.blocks v) = omega (arith, test_most (q + bytes t) (slice_index own v) inside, variable_size d m1 placed1 v fits, long) in
        (λ i. begin rest (with_blocks m1 (slice_set m1.blocks v (flat.put_within q (same i) (block_of m1.blocks v)))))
        ∙ (λ i. begin rest (overwriting v q new (block_of m1.blocks v) m1 refl there i))
        ∙ goes (written m1 v q new) (kept-write edge d n v q new m0 m1 fits there stored.kept) refl
        ∙ ap follows (shown_write m1 v q new fits)
        ∙ (λ i. follows (put_bytes (stored.still i) v q new)))
        ∙ (λ i. if nat_le (q + sym long i) (sym (variable_size_is v) i) then follows (put_bytes (shown m) v q new) else source.final (Broken Bounds line running.function))
        ∙ (λ i. source.writes running (Some v) (is i) new line (shown m) follows)
    writing line d n r p at t accesses.Pointed m0 m rest follows fits housed placed kept is goes =
        let new = low_bytes (bytes t) (register m r) in
        let long : length new ≡ bytes t = low_count (bytes t) (register m r) (few_bytes t) in
        let stored = storing d n new m0 m (free_for (bytes t) new d long (housed_room sizes edge heap d (bytes t) no_temporaries housed)) placed kept in
        let same : bytes_of (written m d 0 new).blocks d 0 (bytes t) ≡ new = (λ i. bytes_of (written m d 0 new).blocks d 0 (sym long i)) ∙ stored.same in
        (λ i. ask (Write (register m p) (same i) false) line running.function (λ a. begin rest (written m d 0 new)))
        ∙ same_ask running (Write (register m p) new false) line _ _ (λ i a. (goes (written m d 0 new) stored.kept refl ∙ ap follows stored.still) i)
        ∙ (λ i. source.writes running None (is i) new line (shown m) follows)

    -- an operation on the number at a place, which the place then takes
    abbrev updated_by : Option ℕ → (at from line : ℕ) → IntegerType → ArithmeticOperator → (u w : IntegerType) → (y : ℕ) → Variables → (ℕ → Follows) → Behaviour
    updated_by o at from line t op u w y vs follows =
        source.reads running o at (bytes t) from vs (λ found.
        operated running op u w (converted t u (number_of t found)) y line (λ z.
        source.writes running o at (low_bytes (bytes t) (converted u t z)) line vs (follows (number_of t found) (converted u t z))))

    -- what an operation on a place does: the registers from k on hold the place's number, it converted, the result, and that converted back
    updating : (from line d : ℕ) (t : IntegerType) (way : Access) (p at : ℕ) (op : ArithmeticOperator) (u w : IntegerType) (y k : ℕ) (m : Memory) (rest : Places) (follows : ℕ → Follows)
        → FitsAt way (bytes t) → Houses d (access_temporaries (bytes t) way) → Placed d m → y < k → (is_evaluated way ≡ true → p < k) → k + 3 < length m.registers → IsAt way m p at
        → ((m' : Memory) → Kept edge d k m m' → begin rest m' ≡ follows (register m' k) (register m' (k + 3)) (shown m'))
        → begin (on (update_code (frame d) from line t way p op u w y k) rest) m ≡ updated_by (holder way) at from line t op u w (register m y) (shown m) follows
    updating from line d t way p at op u w y k m rest follows fits housed placed below p_below room is goes =
        split (read_code (frame d) from k t way p) _ rest m
        ∙ reading from d k k p at t way m _ (λ old after. operated running op u w (converted t u old) (register m y) line (λ z. source.writes running (holder way) at (low_bytes (bytes t) (converted u t z)) line after (follows old (converted u t z)))) fits housed placed (omega arith) (omega (arith, room)) is (λ m1 kept1.
        let old = register m1 k in
        let m2 : Memory = with_register m1 (k + 1) (converted t u old) in
        let m3 : Memory = with_register m2 (k + 2) (arithmetic_value op u (register m2 (k + 1)) (register m2 y)) in
        let m4 : Memory = with_register m3 (k + 3) (converted u t (register m3 (k + 2))) in
        let new = register m4 (k + 3) in
        let room2 : length m2.registers ≡ length m1.registers = set_room m1 (k + 1) _ in
        let room3 : length m3.registers ≡ length m2.registers = set_room m2 (k + 2) _ in
        let left : register m2 (k + 1) ≡ converted t u old = set_same m1 (k + 1) _ (omega (arith, room, kept1.room)) in
        let right : register m2 y ≡ register m y = set_other m1 (k + 1) _ y (λ e. omega (arith, e, below)) ∙ kept1.below y below in
        let value : register m3 (k + 2) ≡ arithmetic_value op u (register m2 (k + 1)) (register m2 y) = set_same m2 (k + 2) _ (omega (arith, room, kept1.room, room2)) in
        let back : new ≡ converted u t (arithmetic_value op u (register m2 (k + 1)) (register m2 y)) =
        set_same m3 (k + 3) _ (omega (arith, room, kept1.room, room2, room3)) ∙ ap (converted u t) value in
        let still : register m4 k ≡ old = set_other m3 (k + 3) _ k (λ e. omega (arith, e)) ∙ set_other m2 (k + 2) _ k (λ e. omega (arith, e)) ∙ set_other m1 (k + 1) _ k (λ e. omega (arith, e)) in
        let kept : Kept edge d k m m4 =
        kept-then edge d k k m m1 m4 (omega arith) kept1
        (kept-then edge d k k m1 m2 m4 (omega arith) (kept-set edge d k (k + 1) m1 _ (omega arith))
        (kept-then edge d k k m2 m3 m4 (omega arith) (kept-set edge d k (k + 2) m2 _ (omega arith)) (kept-set edge d k (k + 3) m3 _ (omega arith)))) in
        same_check calls hands running (arithmetic_check op u w (register m2 (k + 1)) (register m2 y)) line (begin (on (write_code (frame d) line t way p (k + 3)) rest) m4) (source.writes running (holder way) at (low_bytes (bytes t) new) line (shown m4) (follows old new))
        (writing line d k (k + 3) p at t way m m4 rest (follows old new) fits housed placed kept (at_still way k p at m m4 p_below kept.below is) (λ m5 kept5 same.
        goes m5 kept5
        ∙ (λ i. follows (slice_index (same i) k) (slice_index (same i) (k + 3)) (shown m5))
        ∙ ap (λ z. follows z new (shown m5)) still))
        ∙ (λ i. unless_broken running (arithmetic_check op u w (register m2 (k + 1)) (register m2 y)) line (source.writes running (holder way) at (low_bytes (bytes t) (back i)) line (shown m1) (follows old (back i))))
        ∙ (λ i. operated running op u w (left i) (right i) line (λ z. source.writes running (holder way) at (low_bytes (bytes t) (converted u t z)) line (shown m1) (follows old (converted u t z)))))

    same_size : (a : Answer) → flat.size_in a ≡ source.size_in a
    same_size answers.Done = refl
    same_size (answers.Bytes bs) = refl
    same_size (answers.Size n) = refl
    same_size (answers.Word w) = refl
    same_size (answers.Number n) = refl
    same_size (answers.Value v) = refl

    pub same_number : (a : Answer) → flat.number_in a ≡ source.number_in a
    same_number answers.Done = refl
    same_number (answers.Bytes bs) = refl
    same_number (answers.Size n) = refl
    same_number (answers.Word w) = refl
    same_number (answers.Number n) = refl
    same_number (answers.Value v) = refl

    -- a pointer that is moved, behind a look at its object: the register s holds the size, and the next one the pointer
    moving : (is_element : Bool) (line d n s p i : ℕ) (t : IntegerType) (stride : ℤ) (m0 m : Memory) (rest : Places) (follows : Follows)
        → p < s → i < s → n ≤ s → s + 1 < length m0.registers → Kept edge d n m0 m → Goes d n m0 rest (s + 1) follows
        → begin (on (move_code (frame d) is_element line p i t stride s) rest) m ≡ source.moves running is_element (register m p) (number t (register m i)) stride line (λ q. follows q (shown m))
    moving is_element line d n s p i t stride m0 m rest follows p_below i_below above room kept goes =
        same_ask running (Look (register m p) is_element) line _ _ (λ k a.
        (let m1 : Memory = with_register m s (flat.size_in a) in
        let still_p : register m1 p ≡ register m p = set_other m s (flat.size_in a) p (λ e. omega (arith, e, p_below)) in
        let still_i : register m1 i ≡ register m i = set_other m s (flat.size_in a) i (λ e. omega (arith, e, i_below)) in
        let size : register m1 s ≡ source.size_in a = set_same m s (flat.size_in a) (omega (arith, room, kept.room)) ∙ same_size a in
        let offset = flat.offset_moved m1 p i t stride in
        let kept1 : Kept edge d n m0 m1 = kept-then edge d n n m0 m m1 (omega arith) kept (kept-set edge d n s m (flat.size_in a) above) in
        ranging (in_range offset (register m1 s)) (source.range_class is_element) line _ _ (λ inside.
        sets d n (s + 1) (pointer_at (register m1 p) offset) m0 m1 rest follows (omega (arith, above)) room kept1 goes)
        ∙ (λ j. source.lands running is_element (still_p j) (size j) (number t (still_i j)) stride line (λ q. follows q (shown m)))) k)

    -- so, where the size of the whole object is known
    stepping : (line d n s p i : ℕ) (t : IntegerType) (size whole : ℕ) (m0 m : Memory) (rest : Places) (follows : Follows)
        → p < s → i < s → n ≤ s → s + 1 < length m0.registers → Kept edge d n m0 m → Goes d n m0 rest (s + 1) follows
        → begin (on (element_code (frame d) line p i t size whole s) rest) m ≡ source.steps_to running (register m p) whole (number t (register m i)) (pos size) line (λ q. follows q (shown m))
    stepping line d n s p i t size whole m0 m rest follows p_below i_below above room kept goes =
        let m1 : Memory = with_register m s whole in
        let still_p : register m1 p ≡ register m p = set_other m s whole p (λ e. omega (arith, e, p_below)) in
        let still_i : register m1 i ≡ register m i = set_other m s whole i (λ e. omega (arith, e, i_below)) in
        let size_is : register m1 s ≡ whole = set_same m s whole (omega (arith, room, kept.room)) in
        let offset = flat.offset_moved m1 p i t (pos size) in
        let kept1 : Kept edge d n m0 m1 = kept-then edge d n n m0 m m1 (omega arith) kept (kept-set edge d n s m whole above) in
        ranging (in_range offset (register m1 s)) Bounds line _ _ (λ inside.
        sets d n (s + 1) (pointer_at (register m1 p) offset) m0 m1 rest follows (omega (arith, above)) room kept1 goes)
        ∙ (λ j. source.steps_to running (still_p j) (size_is j) (number t (still_i j)) (pos size) line (λ q. follows q (shown m)))

    -- code with registers from n on and blocks from d on does what a meaning says; the register `last` behind n takes the value
    abbrev pub Means : List Instruction → ℕ → ℕ → ℕ → (Variables → Follows → Behaviour) → Type 0
    Means xs d n last meaning = (m : Memory) (rest : Places) (follows : Follows) → Placed d m → n + last < length m.registers → Goes d n m rest (n + last) follows → begin (on xs rest) m ≡ meaning (shown m) follows

    -- && and || behind their left operand, whose value the register n + left has
    means_logical : (d line : ℕ) (op : LogicalOperator) (xs : List Instruction) (last : ℕ) (meaning : Variables → Follows → Behaviour) (n left : ℕ) → Means xs d (n + (left + 1)) last meaning
        → (m m1 : Memory) (rest : Places) (follows : Follows)
        → Placed d m1 → n + (left + (last + 3)) < length m.registers → Kept edge d n m m1 → Goes d n m rest (n + (left + (last + 3))) follows
        → begin (on (logical_code (frame d) line op (n + left) xs (n + (left + 1) + last)) rest) m1
        ≡ (if decides op (register m1 (n + left)) then follows (truth_bits (is_true (register m1 (n + left)))) (shown m1) else meaning (shown m1) (λ y. follows (truth_bits (is_true y))))
    means_logical d line logicals.And xs last meaning n left means m m1 rest follows placed room kept1 goes =
        let second = n + (left + 1) in
        let result = second + last + 2 in
        let goes' : Goes d n m rest result follows = goes-at d n m rest result (n + (left + (last + 3))) follows (omega arith) goes in
        by_test (register m1 (n + left) == 0) (λ b. if not (not b) then follows (truth_bits (not b)) (shown m1) else meaning (shown m1) (λ y. follows (truth_bits (is_true y)))) _ _
        (past xs _ rest 3 m1
        ∙ sets d n result 0 m m1 rest follows (omega arith) (omega (arith, room)) kept1 goes')
        (split xs _ rest m1
        ∙ means m1 _ (λ y. follows (truth_bits (is_true y))) placed (omega (arith, room, kept1.room)) (λ m2 kept2.
        tested d n second (second + last) m m1 m2 rest follows (omega arith) (omega arith) (omega (arith, room)) kept1 kept2 goes'))
    means_logical d line logicals.Or xs last meaning n left means m m1 rest follows placed room kept1 goes =
        let second = n + (left + 1) in
        let result = second + last + 2 in
        let goes' : Goes d n m rest result follows = goes-at d n m rest result (n + (left + (last + 3))) follows (omega arith) goes in
        by_test (register m1 (n + left) == 0) (λ b. if not b then follows (truth_bits (not b)) (shown m1) else meaning (shown m1) (λ y. follows (truth_bits (is_true y)))) _ _
        (split xs _ rest m1
        ∙ means m1 _ (λ y. follows (truth_bits (is_true y))) placed (omega (arith, room, kept1.room)) (λ m2 kept2.
        tested d n second (second + last) m m1 m2 rest follows (omega arith) (omega arith) (omega (arith, room)) kept1 kept2 goes'))
        (past xs _ rest 2 (with_register m1 result 1)
        ∙ sets d n result 1 m m1 rest follows (omega arith) (omega (arith, room)) kept1 goes')

    -- the bytes of a place, into a block
    fetching : (line size d n into to p at : ℕ) (way : Access) (m : Memory) (rest : Places) (follows : FollowsBytes)
        → FitsAt way size → Placed d m → edge < into → into < d → to + size ≤ length (block_of m.blocks into) → IsAt way m p at → GoesInto d n m rest into to size follows
        → begin (on (fetch_code (frame d) line way p size into to) rest) m ≡ source.reads running (holder way) at size line (shown m) (λ value. follows value (shown m))
    fetching line size d n into to p at (accesses.Variable v offset) m rest follows fits_at placed behind free fits is goes =
        let variable = variable_below v offset size fits_at in
        let value = take size (drop offset (block_of m.blocks v)) in
        let long : length value ≡ size = part_long offset size (block_of m.blocks v) (variable_room d m placed v offset size fits_at) in
        goes (written m into to value) value long (filled-put edge d n into to value m (block_there d m placed into free) (omega (arith, fits, long)))
        ∙ (λ i. follows (take size (drop offset (shown_block m v variable i))) (shown_other m into to value (omega (arith, behind)) i))
        ∙ sym (own_reads v offset size line (shown m) (λ found. follows found (shown m)) fits_at)
        ∙ (λ i. source.reads running (Some v) (sym is i) size line (shown m) (λ found. follows found (shown m)))
    fetching line size d n into to p at (accesses.Object k offset) m rest follows fits_at placed behind free fits is goes =
        same_ask_when running (Read (pointer_to k offset) size) line _ _ (λ a h.
        let value = bytes_in a in
        let long : length value ≡ size = read_size (pointer_to k offset) size a h in
        goes (written m into to value) value long (filled-put edge d n into to value m (block_there d m placed into free) (omega (arith, fits, long)))
        ∙ (λ i. follows (same_bytes a i) (shown_other m into to value (omega (arith, behind)) i)))
        ∙ (λ i. source.reads running None (sym is i) size line (shown m) (λ found. follows found (shown m)))
    fetching line size d n into to p at (accesses.Within v) m rest follows fits_at placed behind free fits is goes =
        let q = offset_of (register m p) in
        let block = block_of m.blocks v in
        let value = take size (drop q block) in
        ranging (nat_le (q + size) (slice_index own v)) Bounds line _ _ (λ inside.
        let there : q + size ≤ length block = omega (arith, test_most (q + size) (slice_index own v) inside, variable_size d m placed v fits_at) in
        let long : length value ≡ size = part_long q size block there in
        (λ i. begin rest (written m into to (taken_inside size q block there i)))
        ∙ goes (written m into to value) value long (filled-put edge d n into to value m (block_there d m placed into free) (omega (arith, fits, long)))
        ∙ (λ i. follows (take size (drop q (shown_block m v fits_at i))) (shown_other m into to value (omega (arith, behind)) i)))
        ∙ (λ i. if nat_le (q + size) (sym (variable_size_is v) i) then follows (take size (drop q (block_of (shown m) v))) (shown m) else source.final (Broken Bounds line running.function))
        ∙ (λ i. source.reads running (Some v) (is i) size line (shown m) (λ found. follows found (shown m)))
    fetching line size d n into to p at accesses.Pointed m rest follows fits_at placed behind free fits is goes =
        same_ask_when running (Read (register m p) size) line _ _ (λ a h.
        let value = bytes_in a in
        let long : length value ≡ size = read_size (register m p) size a h in
        goes (written m into to value) value long (filled-put edge d n into to value m (block_there d m placed into free) (omega (arith, fits, long)))
        ∙ (λ i. follows (same_bytes a i) (shown_other m into to value (omega (arith, behind)) i)))
        ∙ (λ i. source.reads running None (is i) size line (shown m) (λ found. follows found (shown m)))

    -- the bytes that a block has got, into a place
    putting : (line size d n into to p at : ℕ) (way : Access) (value : List ℕ) (m m1 : Memory) (rest : Places) (follows : FollowsBytes)
        → FitsAt way size → Placed d m → edge < into → into < d → to + size ≤ length (block_of m.blocks into) → length value ≡ size → Filled edge d n into to value m m1 → IsAt way m1 p at → GoesInto d n m rest into to size follows
        → begin (on (put_code (frame d) line way p size into to) rest) m1 ≡ source.writes running (holder way) at value line (shown m1) (follows value)
    putting line size d n into to p at (accesses.Variable v offset) value m m1 rest follows fits_at placed behind free fits long filled is goes =
        let variable = variable_below v offset size fits_at in
        let new = take size (drop to (block_of m1.blocks into)) in
        let same : new ≡ value = (λ i. take size (drop to (filled.filled i))) ∙ taken_back to size value (block_of m.blocks into) long (omega (arith, fits)) in
        let placed1 = placed_filled d n into to value m m1 placed behind filled in
        let there : offset + length new ≤ length (block_of m1.blocks v) = omega (arith, long, ap length same, variable_room d m1 placed1 v offset size fits_at) in
        goes (written m1 v offset new) value long (filled-write edge d n into to v offset value new m m1 variable (omega (arith, behind)) there filled)
        ∙ (λ i. follows value (shown_write m1 v offset new variable i))
        ∙ (λ i. follows value (put_bytes (shown m1) v offset (same i)))
        ∙ sym (own_writes v offset line value (shown m1) (follows value) ((λ i. is_within own v offset (long i)) ∙ fits_at))
        ∙ (λ i. source.writes running (Some v) (sym is i) value line (shown m1) (follows value))
    putting line size d n into to p at (accesses.Object k offset) value m m1 rest follows fits_at placed behind free fits long filled is goes =
        let new = take size (drop to (block_of m1.blocks into)) in
        let same : new ≡ value = (λ i. take size (drop to (filled.filled i))) ∙ taken_back to size value (block_of m.blocks into) long (omega (arith, fits)) in
        (λ i. ask (Write (pointer_to k offset) (same i) false) line running.function (λ done. begin rest m1))
        ∙ same_ask running (Write (pointer_to k offset) value false) line _ _ (λ i done. goes m1 value long filled i)
        ∙ (λ i. source.writes running None (sym is i) value line (shown m1) (follows value))
    putting line size d n into to p at (accesses.Within v) value m m1 rest follows fits_at placed behind free fits long filled is goes =
        let q = offset_of (register m1 p) in
        let new = take size (drop to (block_of m1.blocks into)) in
        let same : new ≡ value = (λ i. take size (drop to (filled.filled i))) ∙ taken_back to size value (block_of m.blocks into) long (omega (arith, fits)) in
        let placed1 = placed_filled d n into to value m m1 placed behind filled in
        ranging (nat_le (q + size) (slice_index own v)) Bounds line _ _ (λ inside.
        let there : q + length value ≤ length (block_of m1.blocks v) = omega (arith, test_most (q + size) (slice_index own v) inside, variable_size d m1 placed1 v fits_at, long) in
        (λ i. begin rest (with_blocks m1 (slice_set m1.blocks v (flat.put_within q (same i) (block_of m1.blocks v)))))
        ∙ (λ i. begin rest (overwriting v q value (block_of m1.blocks v) m1 refl there i))
        ∙ goes (written m1 v q value) value long (filled-write edge d n into to v q value value m m1 fits_at (omega (arith, behind)) there filled)
        ∙ (λ i. follows value (shown_write m1 v q value fits_at i)))
        ∙ (λ i. if nat_le (q + sym long i) (sym (variable_size_is v) i) then follows value (put_bytes (shown m1) v q value) else source.final (Broken Bounds line running.function))
        ∙ (λ i. source.writes running (Some v) (is i) value line (shown m1) (follows value))
    putting line size d n into to p at accesses.Pointed value m m1 rest follows fits_at placed behind free fits long filled is goes =
        let new = take size (drop to (block_of m1.blocks into)) in
        let same : new ≡ value = (λ i. take size (drop to (filled.filled i))) ∙ taken_back to size value (block_of m.blocks into) long (omega (arith, fits)) in
        (λ i. ask (Write (register m1 p) (same i) false) line running.function (λ done. begin rest m1))
        ∙ same_ask running (Write (register m1 p) value false) line _ _ (λ i done. goes m1 value long filled i)
        ∙ (λ i. source.writes running None (is i) value line (shown m1) (follows value))

    -- what follows a place: where it is, and the variables
    abbrev pub GoesAt : ℕ → ℕ → Memory → Places → Place → Follows → Type 0
    GoesAt d n m rest x follows = (m' : Memory) (at : ℕ) → Kept edge d n m m' → IsAt (reached x) m' (n + place_top x) at → begin rest m' ≡ follows at (shown m')

    -- the pointer to an offset of a variable, or that offset
    based : (o : Option ℕ) (line v offset d n : ℕ) (m : Memory) (rest : Places) (follows : Follows)
        → source.home_of running v ≡ o → Placed d m → n + 1 < length m.registers → Goes d n m rest (n + 1) follows
        → begin (on (base_code (frame d) line o offset n) rest) m ≡ follows (source.in_variable running o (shown m) offset) (shown m)
    based None line v offset d n m rest follows home placed room goes =
        sets d n (n + 1) offset m m rest follows (omega arith) room (kept-refl edge d n m) goes
    based (Some h) line v offset d n m rest follows home placed room goes =
        let within = sound.homed v h home in
        let pointer = read_variable m.blocks h 0 types.UnsignedLong in
        let m1 : Memory = with_register m n pointer in
        let here_it_is : register m1 n ≡ pointer = set_same m n pointer (omega (arith, room)) in
        sets d n (n + 1) (further (register m1 n) offset) m m1 rest follows (omega arith) room (kept-set edge d n n m pointer (omega arith)) goes
        ∙ (λ i. follows (further (here_it_is i) offset) (shown m))
        ∙ (λ i. follows (further (number_at types.UnsignedLong 0 (shown_block m h (variable_below h 0 8 within) i)) offset) (shown m))

    -- the bytes of a string, over the bytes so far
    text_means : (text : List ℕ) (line d n into to size offset at_offset : ℕ) (value : List ℕ) (m0 m : Memory) (rest : Places) (follows : FollowsBytes)
        → list_all (λ b. nat_lt b 256) text ≡ true → at_offset ≡ to + offset → Placed d m → edge < into → into < d
        → length value ≡ size → to + size ≤ length (block_of m0.blocks into) → offset + length text ≤ size → n < length m.registers
        → Filled edge d n into to value m0 m → GoesInto d n m0 rest into to size follows
        → begin (on (text_code (frame d) line text n into at_offset) rest) m ≡ follows (put_at offset text value) (shown m)
    text_means [] line d n into to size offset at_offset value m0 m rest follows typed where_at placed behind free long fits inner room so_far goes =
        goes m value long so_far ∙ ap (λ block. follows block (shown m)) (sym (put_none offset value))
    text_means (c ∷ cs) line d n into to size offset at_offset value m0 m rest follows typed where_at placed behind free long fits inner room so_far goes =
        let m1 : Memory = with_register m n c in
        let kept1 : Kept edge d n m m1 = kept-set edge d n n m c (omega arith) in
        let byte = c ∷ [] in
        let new : low_bytes 1 (register m1 n) ≡ byte = ap (low_bytes 1) (set_same m n c room) ∙ one_byte c (test_less c 256 (left_of _ _ typed)) in
        let m2 : Memory = written m1 into (to + offset) byte in
        let size1 = block_kept d n into to value m0 m so_far in
        let there : to + offset + length byte ≤ length (block_of m1.blocks into) = omega (arith, inner, fits, size1) in
        let one = kept-filled edge d n n into (to + offset) byte m m1 m2 (omega arith) (omega (arith, behind)) free kept1 (filled-put edge d n into (to + offset) byte m1 (block_there d m1 (placed_kept d n m m1 placed kept1) into free) there) in
        let now : Filled edge d n into to (put_at offset byte value) m0 m2 = filled-within edge d n n into to offset value byte m0 m m2 (omega arith) (omega (arith, inner, long)) (omega (arith, long, fits)) so_far one in
        (λ i. begin (on (text_code (frame d) line cs n into (at_offset + 1)) rest) (written m1 into (where_at i) (new i)))
        ∙ text_means cs line d n into to size (offset + 1) (at_offset + 1) (put_at offset byte value) m0 m2 rest follows (right_of _ _ typed) (omega (arith, where_at)) (placed_filled d n into (to + offset) byte m m2 placed behind one) behind free
        (put_size offset byte value (omega (arith, inner, long)) ∙ long) fits (omega (arith, inner)) (omega (arith, room, one.room)) now goes
        ∙ (λ i. follows (put_more offset c cs value (omega (arith, inner, long)) i) (shown_other m1 into (to + offset) byte (omega (arith, behind)) i))

    -- a call whose arguments are in blocks from d on, and what comes behind it
    call_does : (line f : ℕ) (used : Bool) (size count d r : ℕ) (g : Signature) (values : List (List ℕ)) (m : Memory) (xs : List Instruction) (rest : Places) (y : source.Given → Behaviour)
        → slice_get functions f ≡ Some g → Callable g.gives → AreThere g.parameters d values m → count ≡ length g.parameters → edge + 1 < d → Placed (d + (count + 1)) m
        → size ≤ slice_index sizes edge → size ≤ length (block_of m.blocks (d + count))
        → ((given : source.Given) → IsGiven g.gives given → begin (on (use_code (frame d) line used r ++ xs) rest) (flat.received (written m (d + count) 0 (zeros size)) (d + count) r (handed g.gives given)) ≡ y given)
        → begin (on (call_code (frame d) line f used size count r ++ xs) rest) m ≡ meant f line values y
    call_does line f used size count d r g values m xs rest y found callable there many low placed zero_room room goes =
        let into = d + count in
        let behind : Given → Behaviour = λ given. begin (on (use_code (frame d) line used r ++ xs) rest) (flat.received (written m into 0 (zeros size)) into r given) in
        let zero : take size (drop 0 (block_of m.blocks edge)) ≡ zeros size = (λ i. take size (placed.clean i)) ∙ some_zeros size (slice_index sizes edge) zero_room in
        let m1 : Memory = written m into 0 (zeros size) in
        let wide : length m1.blocks ≡ length m.blocks = length-set m.blocks into (put_at 0 (zeros size) (block_of m.blocks into)) in
        let last : into < length m.blocks = block_there (d + (count + 1)) m placed into (omega arith) in
        let still : AreThere g.parameters d values m1 = there_still g.parameters d values m m1 (λ i from lt. written_other m into 0 i (zeros size) (λ e. omega (arith, e, lt, many))) there in
        let first : AreArguments g.parameters (take (length g.parameters) (drop d m1.blocks)) values = arguments_there g.parameters d values m1 (omega (arith, many, wide, last)) still in
        let taken : AreArguments g.parameters (take count (drop d m1.blocks)) values = subst (λ (k : ℕ). AreArguments g.parameters (take k (drop d m1.blocks)) values) (sym many) first in
        (λ i. calls running.function f line (take count (drop d (written m into 0 (zero i)).blocks)) (λ given. begin (on (use_code (frame d) line used r ++ xs) rest) (flat.received (written m into 0 (zero i)) into r given)))
        ∙ sound.agree f line g (take count (drop d m1.blocks)) values behind y found callable taken goes

    -- what tells that a value was handed over lets its use pass
    used_means : (line : ℕ) (used : Bool) (d r : ℕ) (xs : List Instruction) (m : Memory) (rest : Places) → register m r ≡ 1 → begin (on (use_code (frame d) line used r ++ xs) rest) m ≡ begin (on xs rest) m
    used_means line true d r xs m rest one = λ i. or_else here (flat.return_check (one i)) line running.function (begin (on xs rest) m)
    used_means line false d r xs m rest one = refl

    -- nothing was handed over
    unused_means : (line : ℕ) (used : Bool) (d r : ℕ) (xs : List Instruction) (m : Memory) (rest : Places) (b : Behaviour) → register m r ≡ 0 → begin (on xs rest) m ≡ b → begin (on (use_code (frame d) line used r ++ xs) rest) m ≡ unless_used running used line b
    unused_means line true d r xs m rest b none same = (λ i. or_else here (flat.return_check (none i)) line running.function (begin (on xs rest) m)) ∙ same_final (Broken Return line running.function)
    unused_means line false d r xs m rest b none same = same

    none_means : (line : ℕ) (used : Bool) (t : ValueType) (d n into r : ℕ) (old : List ℕ) (m m1 m2 : Memory) (rest : Places) (follows : Follows)
        → Kept edge d n m m2 → n ≤ r → r + 1 < length m.registers → block_of m1.blocks into ≡ put_at 0 (zeros (value_size t)) old → value_size t ≤ length old
        → register m2 r ≡ 0 → m2.blocks ≡ m1.blocks → Goes d n m rest (r + 1) follows
        → begin (on (use_code (frame d) line used r ++ taken_code (frame d) line t into (r + 1) ∷ []) rest) m2 ≡ unless_used running used line (follows 0 (shown m1))
    none_means line used Void d n into r old m m1 m2 rest follows kept above room clear fits none blocks goes =
        unused_means line used d r (at_line (frame d) line (operations.Constant (r + 1) 0) ∷ []) m2 rest (follows 0 (shown m1)) none
        (sets d n (r + 1) 0 m m2 rest follows (omega (arith, above)) room kept goes ∙ (λ i. follows 0 (take edge (blocks i))))
    none_means line used (Integer t) d n into r old m m1 m2 rest follows kept above room clear fits none blocks goes =
        let last = number_at t 0 (block_of m2.blocks into) in
        let is_zero_number : last ≡ 0 =
        (λ i. number_at t 0 (block_of (blocks i) into)) ∙ ap (number_at t 0) clear ∙ number_of_front t 0 (zeros (bytes t)) old (omega (arith, zeros_length (bytes t))) ∙ no_number t in
        unused_means line used d r (at_line (frame d) line (operations.Load (r + 1) t into 0) ∷ []) m2 rest (follows 0 (shown m1)) none
        (sets d n (r + 1) last m m2 rest follows (omega (arith, above)) room kept goes ∙ (λ i. follows (is_zero_number i) (take edge (blocks i))))

    -- the value of a call, in a register behind the one that tells whether it is handed over
    taken_means : (line : ℕ) (used : Bool) (t : ValueType) (d n into r : ℕ) (old : List ℕ) (m m1 : Memory) (rest : Places) (follows : Follows) (given : source.Given)
        → IsGiven (given_as t) given → Kept edge d n m m1 → n ≤ r → r + 1 < length m.registers → edge < into → d ≤ into → into < length m1.blocks
        → block_of m1.blocks into ≡ put_at 0 (zeros (value_size t)) old → value_size t ≤ length old
        → Goes d n m rest (r + 1) follows
        → begin (on (use_code (frame d) line used r ++ taken_code (frame d) line t into (r + 1) ∷ []) rest) (flat.received m1 into r (handed (given_as t) given)) ≡ received running used line (integer_of t) (λ x. follows x (shown m1)) given
    taken_means line used t d n into r old m m1 rest follows source.nothing is kept above room behind free there clear fits goes =
        let m2 : Memory = with_register m1 r 0 in
        let kept2 : Kept edge d n m m2 = kept-then edge d n n m m1 m2 (omega arith) kept (kept-set edge d n r m1 0 above) in
        none_means line used t d n into r old m m1 m2 rest follows kept2 above room clear fits (set_same m1 r 0 (omega (arith, room, kept.room))) refl goes
    taken_means line used Void d n into r old m m1 rest follows (source.number x) is kept above room behind free there clear fits goes = absurd is
    taken_means line used (Integer t) d n into r old m m1 rest follows (source.number x) is kept above room behind free there clear fits goes =
        let value = low_bytes (bytes t) x in
        let count : length value ≡ bytes t = low_count (bytes t) x (few_bytes t) in
        let long : length (block_of m1.blocks into) ≡ length old = ap length clear ∙ put_size 0 (zeros (bytes t)) old (omega (arith, zeros_length (bytes t), fits)) in
        let m2 : Memory = written m1 into 0 value in
        let m3 : Memory = with_register m2 r 1 in
        let filled : Filled edge (into + 1) n into 0 value m1 m2 = filled-put edge (into + 1) n into 0 value m1 there (omega (arith, count, long, fits)) in
        let kept2 : Kept edge d n m m2 = kept-then edge d n n m m1 m2 (omega arith) kept (kept_lower into d n m1 m2 free (filled-kept edge into n 0 value m1 m2 filled)) in
        let kept3 : Kept edge d n m m3 = kept-then edge d n n m m2 m3 (omega arith) kept2 (kept-set edge d n r m2 1 above) in
        let one : register m3 r ≡ 1 = set_same m2 r 1 (omega (arith, room, kept2.room)) in
        let last = number_at t 0 (block_of m3.blocks into) in
        let is_value : last ≡ number_of t value = ap (number_at t 0) filled.filled ∙ number_of_front t 0 value (block_of m1.blocks into) (omega (arith, count)) in
        let same : shown m3 ≡ shown m1 = shown_other m1 into 0 value (omega (arith, behind)) in
        (λ i. begin (on (use_code (frame d) line used r ++ taken_code (frame d) line (Integer t) into (r + 1) ∷ []) rest) (given_whole m1 into r value (omega (arith, count, long, fits)) i))
        ∙ used_means line used d r (at_line (frame d) line (operations.Load (r + 1) t into 0) ∷ []) m3 rest one
        ∙ sets d n (r + 1) last m m3 rest follows (omega (arith, above)) room kept3 goes
        ∙ (λ i. follows (is_value i) (same i))
    taken_means line used Void d n into r old m m1 rest follows (source.structure value) is kept above room behind free there clear fits goes = absurd is
    taken_means line used (Integer t) d n into r old m m1 rest follows (source.structure value) is kept above room behind free there clear fits goes = absurd is

    argument_total : (ps : List PassedType) (args : Arguments) → are_arguments known ps args ≡ true → argument_count args ≡ length ps
    argument_total [] no_argument h = refl
    argument_total (p ∷ ps) no_argument h = absurd (false≢true h)
    argument_total [] (number_argument e args) h = absurd (false≢true h)
    argument_total (p ∷ ps) (number_argument e args) h = omega (arith, argument_total ps args (right_of _ _ h))
    argument_total [] (structure_argument a args) h = absurd (false≢true h)
    argument_total (p ∷ ps) (structure_argument a args) h = omega (arith, argument_total ps args (right_of _ _ h))

    size_total : (args : Arguments) → length (argument_sizes args) ≡ argument_count args
    size_total no_argument = refl
    size_total (number_argument e args) = omega (arith, size_total args)
    size_total (structure_argument a args) = omega (arith, size_total args)

    -- the blocks of the arguments, that of what is handed over, and those for values on the way to the arguments
    call_temporaries : (args : Arguments) (size d : ℕ) → Houses d (under_all (argument_sizes args) (under size (arguments_temporaries args)))
        → HasTemporaries sizes d (argument_sizes args) × Room sizes (d + argument_count args) size × Houses (d + (argument_count args + 1)) (arguments_temporaries args)
    call_temporaries args size d housed =
        let many = size_total args in
        let back : Houses (d + argument_count args) (under size (arguments_temporaries args)) =
        subst (λ (k : ℕ). Houses (d + k) (under size (arguments_temporaries args))) many (housed_back sizes edge heap d (argument_sizes args) (under size (arguments_temporaries args)) housed) in
        let more : d + argument_count args + 1 ≡ d + (argument_count args + 1) = omega arith in (
          housed_front sizes edge heap d (argument_sizes args) (under size (arguments_temporaries args)) housed,
          housed_room sizes edge heap (d + argument_count args) size (arguments_temporaries args) back,
          subst (λ (k : ℕ). Houses k (arguments_temporaries args)) more (housed_under sizes edge heap (d + argument_count args) size (arguments_temporaries args) back),
        )

    placed_at : (d e : ℕ) (m : Memory) → edge + 1 < e → e < length sizes → Placed d m → Placed e m
    placed_at d e m deep within placed = record { deep = deep; within = within; last = placed.last; most = placed.most; sized = placed.sized; clean = placed.clean }

    -- the structure value of a call goes where it is wanted
    structure_taken : (line : ℕ) (used : Bool) (size d n into to b r : ℕ) (old : List ℕ) (m m1 : Memory) (rest : Places) (follows : FollowsBytes) (given : source.Given)
        → IsGiven (Some (passed.Structure size)) given → Placed d m → Kept edge d n m m1 → n ≤ r → r < length m.registers → edge < into → into < d → d ≤ b → b < length m1.blocks
        → block_of m1.blocks b ≡ put_at 0 (zeros size) old → size ≤ length old → to + size ≤ length (block_of m.blocks into)
        → GoesInto d n m rest into to size follows
        → begin (on (use_code (frame d) line used r ++ at_line (frame d) line (operations.CopyBytes into to b 0 size) ∷ []) rest) (flat.received m1 b r (handed (Some (passed.Structure size)) given)) ≡ received_structure running used size line (λ value. follows value (shown m1)) given
    structure_taken line used size d n into to b r old m m1 rest follows source.nothing is placed kept above room behind inside free there clear fits wide goes =
        let m2 : Memory = with_register m1 r 0 in
        let kept2 : Kept edge d n m m2 = kept-then edge d n n m m1 m2 (omega arith) kept (kept-set edge d n r m1 0 above) in
        let new = take size (drop 0 (block_of m2.blocks b)) in
        let same : new ≡ zeros size = (λ i. take size (drop 0 (clear i))) ∙ taken_back 0 size (zeros size) old (zeros_length size) (omega arith) in
        let placed2 = placed_kept d n m m2 placed kept2 in
        let room2 : to + length (zeros size) ≤ length (block_of m2.blocks into) = omega (arith, wide, zeros_length size, kept_size d n m m2 placed kept2 into) in
        let filled : Filled edge d n into to (zeros size) m (written m2 into to (zeros size)) = kept-filled edge d n n into to (zeros size) m m2 (written m2 into to (zeros size)) (omega arith) (omega (arith, behind)) inside kept2 (filled-put edge d n into to (zeros size) m2 (block_there d m2 placed2 into inside) room2) in
        unused_means line used d r (at_line (frame d) line (operations.CopyBytes into to b 0 size) ∷ []) m2 rest (follows (zeros size) (shown m1)) (set_same m1 r 0 (omega (arith, room, kept.room)))
        ((λ i. begin rest (written m2 into to (same i)))
        ∙ goes (written m2 into to (zeros size)) (zeros size) (zeros_length size) filled
        ∙ ap (follows (zeros size)) (shown_other m2 into to (zeros size) (omega (arith, behind))))
    structure_taken line used size d n into to b r old m m1 rest follows (source.number x) is placed kept above room behind inside free there clear fits wide goes = absurd is
    structure_taken line used size d n into to b r old m m1 rest follows (source.structure value) is placed kept above room behind inside free there clear fits wide goes =
        let long : length (block_of m1.blocks b) ≡ length old = ap length clear ∙ put_size 0 (zeros size) old (omega (arith, zeros_length size, fits)) in
        let m2 : Memory = written m1 b 0 value in
        let m3 : Memory = with_register m2 r 1 in
        let filled_b : Filled edge (b + 1) n b 0 value m1 m2 = filled-put edge (b + 1) n b 0 value m1 there (omega (arith, is, long, fits)) in
        let kept2 : Kept edge d n m m2 = kept-then edge d n n m m1 m2 (omega arith) kept (kept_lower b d n m1 m2 free (filled-kept edge b n 0 value m1 m2 filled_b)) in
        let kept3 : Kept edge d n m m3 = kept-then edge d n n m m2 m3 (omega arith) kept2 (kept-set edge d n r m2 1 above) in
        let new = take size (drop 0 (block_of m3.blocks b)) in
        let same : new ≡ value = (λ i. take size (drop 0 (filled_b.filled i))) ∙ taken_back 0 size value (block_of m1.blocks b) is (omega arith) in
        let placed3 = placed_kept d n m m3 placed kept3 in
        let room3 : to + length value ≤ length (block_of m3.blocks into) = omega (arith, wide, is, kept_size d n m m3 placed kept3 into) in
        let filled : Filled edge d n into to value m (written m3 into to value) = kept-filled edge d n n into to value m m3 (written m3 into to value) (omega arith) (omega (arith, behind)) inside kept3 (filled-put edge d n into to value m3 (block_there d m3 placed3 into inside) room3) in
        (λ i. begin (on (use_code (frame d) line used r ++ at_line (frame d) line (operations.CopyBytes into to b 0 size) ∷ []) rest) (given_whole m1 b r value (omega (arith, is, long, fits)) i))
        ∙ used_means line used d r (at_line (frame d) line (operations.CopyBytes into to b 0 size) ∷ []) m3 rest (set_same m2 r 1 (omega (arith, room, kept2.room)))
        ∙ (λ i. begin rest (written m3 into to (same i)))
        ∙ goes (written m3 into to value) value is filled
        ∙ (λ i. follows value (shown_other m3 into to value (omega (arith, behind)) i))
        ∙ (λ i. follows value (shown_other m1 b 0 value (omega (arith, behind, inside, free)) i))

    -- a pointer at a place is moved, and the place then takes it
    abbrev pointer_updated : Option ℕ → (at from line : ℕ) → IntegerType → ℤ → (y : ℕ) → Variables → (ℕ → Follows) → Behaviour
    pointer_updated o at from line t stride y vs follows =
        source.reads running o at 8 from vs (λ found.
        let p = number_of types.UnsignedLong found in
        source.moves running false p (number t y) stride line (λ q. source.writes running o at (low_bytes 8 q) line vs (follows p q)))

    -- the registers from p on hold the pointer, its object's size, and the pointer that is moved
    abbrev pointer_update_code : (d from line p i r : ℕ) → IntegerType → ℤ → Access → List Instruction
    pointer_update_code d from line p i r t stride way =
        read_code (frame d) from p types.UnsignedLong way r ++ (move_code (frame d) false line p i t stride (p + 1) ++ write_code (frame d) line types.UnsignedLong way r (p + 2))

    pointer_updating : (from line d n p i r at : ℕ) (t : IntegerType) (stride : ℤ) (way : Access) (m0 m : Memory) (rest : Places) (follows : ℕ → Follows)
        → FitsAt way 8 → Houses d (access_temporaries 8 way) → Placed d m0 → Kept edge d n m0 m → i < p → n ≤ p → (is_evaluated way ≡ true → r < p) → p + 2 < length m0.registers → IsAt way m r at
        → ((m' : Memory) → Kept edge d n m0 m' → begin rest m' ≡ follows (register m' p) (register m' (p + 2)) (shown m'))
        → begin (on (pointer_update_code d from line p i r t stride way) rest) m ≡ pointer_updated (holder way) at from line t stride (register m i) (shown m) follows
    pointer_updating from line d n p i r at t stride way m0 m rest follows fits housed placed kept i_below above r_below room is goes =
        let move : List Instruction = move_code (frame d) false line p i t stride (p + 1) in
        let write : List Instruction = write_code (frame d) line types.UnsignedLong way r (p + 2) in
        split (read_code (frame d) from p types.UnsignedLong way r) (move ++ write) rest m
        ∙ reading from d p p r at types.UnsignedLong way m _ (λ x after. source.moves running false x (number t (register m i)) stride line (λ q. source.writes running (holder way) at (low_bytes 8 q) line after (follows x q))) fits housed (placed_kept d n m0 m placed kept) (omega arith) (omega (arith, room, kept.room)) is (λ m1 kept1.
        let kept_in : Kept edge d n m0 m1 = kept-then edge d n p m0 m m1 above kept kept1 in
        let x = register m1 p in
        split move write rest m1
        ∙ moving false line d (p + 1) (p + 1) p i t stride m1 m1 (on write rest) (λ q after. source.writes running (holder way) at (low_bytes 8 q) line after (follows x q)) (omega arith) (omega (arith, i_below)) (omega arith) (omega (arith, room, kept_in.room)) (kept-refl edge d (p + 1) m1) (λ m2 kept2.
        let all : Kept edge d n m0 m2 = kept-then edge d n (p + 1) m0 m1 m2 (omega (arith, above)) kept_in kept2 in
        let q = register m2 (p + 1 + 1) in
        writing line d n (p + 2) r at types.UnsignedLong way m0 m2 rest (follows (register m2 p) (register m2 (p + 2))) fits housed placed all
        (at_still way p r at m m2 r_below (λ s lt. kept2.below s (omega (arith, lt)) ∙ kept1.below s lt) is) (λ m3 kept3 same.
        goes m3 kept3 ∙ (λ j. follows (slice_index (same j) p) (slice_index (same j) (p + 2)) (shown m3)))
        ∙ (let two : p + 2 ≡ p + 1 + 1 = omega arith in
        (λ j. source.writes running (holder way) at (low_bytes 8 (register m2 (two j))) line (shown m2) (follows (kept2.below p (omega arith) j) (register m2 (two j))))))
        ∙ (λ j. source.moves running false x (number t (kept1.below i i_below j)) stride line (λ q. source.writes running (holder way) at (low_bytes 8 q) line (shown m1) (follows x q))))

    joined_update : (from line d p i r : ℕ) (t : IntegerType) (stride : ℤ) (way : Access) (last : List Instruction) (rest : Places) (m : Memory)
        → begin (on (read_code (frame d) from p types.UnsignedLong way r ++ (move_code (frame d) false line p i t stride (p + 1) ++ (write_code (frame d) line types.UnsignedLong way r (p + 2) ++ last))) rest) m
        ≡ begin (on (pointer_update_code d from line p i r t stride way) (on last rest)) m
    joined_update from line d p i r t stride way last rest m =
        let read : List Instruction = read_code (frame d) from p types.UnsignedLong way r in
        let move : List Instruction = move_code (frame d) false line p i t stride (p + 1) in
        let write : List Instruction = write_code (frame d) line types.UnsignedLong way r (p + 2) in
        (λ j. begin (on (read ++ sym (append_assoc move write last) j) rest) m)
        ∙ (λ j. begin (on (sym (append_assoc read (move ++ write) last) j) rest) m)
        ∙ split (read ++ (move ++ write)) last rest m

    -- a choice by a test, the same for both
    choosing : {A : Type 0} (b : Bool) (x y u v : A) → x ≡ u → y ≡ v → (if b then x else y) ≡ (if b then u else v)
    choosing true x y u v first second = first
    choosing false x y u v first second = second

    -- what a test decides by a register that was set
    skipping : (line d n b r x : ℕ) (granted : List Instruction) (m0 m : Memory) (rest : Places) (follows : Follows) (goes_on : Behaviour)
        → n ≤ r → b < length m0.registers → r < length m0.registers → Kept edge d n m0 (with_register m b x) → Goes d n m0 rest r follows
        → begin (on granted rest) (with_register m b x) ≡ goes_on
        → begin (on (at_line (frame d) line (operations.SkipIfZero b 2) ∷ at_line (frame d) line (operations.Constant r 0) ∷ at_line (frame d) line (operations.Skip (length granted)) ∷ granted) rest) (with_register m b x)
        ≡ (if is_true x then follows 0 (shown m) else goes_on)
    skipping line d n b r x granted m0 m rest follows goes_on above there room kept goes does =
        let m1 : Memory = with_register m b x in
        let same : register m1 b ≡ x = set_same m b x (omega (arith, there, kept.room, set_room m b x)) in
        turned (register m1 b == 0) _ _ _ _ does (past_all granted rest (with_register m1 r 0) ∙ sets d n r 0 m0 m1 rest follows above room kept goes)
        ∙ (λ j. if not (same j == 0) then follows 0 (shown m) else goes_on)

    granting : (line d n b r : ℕ) (granted : List Instruction) (m0 m : Memory) (rest : Places) (follows : Follows) (goes_on : Behaviour)
        → n ≤ b → n ≤ r → b < length m0.registers → r < length m0.registers → Kept edge d n m0 m → Goes d n m0 rest r follows
        → ((x : ℕ) → begin (on granted rest) (with_register m b x) ≡ goes_on)
        → begin (on (grant_code (frame d) line b r granted) rest) m ≡ source.may_fail running line (follows 0 (shown m)) goes_on
    granting line d n b r granted m0 m rest follows goes_on low above there room kept goes does =
        by_failing limits.malloc_may_fail ∙ (λ j. if sound.failing j then source.ask running (Draw 1) line (λ a. if is_true (drawn a) then follows 0 (shown m) else goes_on) else goes_on)
      where
        tail : List Instruction
        tail = at_line (frame d) line (operations.SkipIfZero b 2) ∷ at_line (frame d) line (operations.Constant r 0) ∷ at_line (frame d) line (operations.Skip (length granted)) ∷ granted

        kept_with : (x : ℕ) → Kept edge d n m0 (with_register m b x)
        kept_with x = kept-then edge d n n m0 m (with_register m b x) (omega arith) kept (kept-set edge d n b m x low)

        skips : (x : ℕ) → begin (on tail rest) (with_register m b x) ≡ (if is_true x then follows 0 (shown m) else goes_on)
        skips x = skipping line d n b r x granted m0 m rest follows goes_on above there room (kept_with x) goes (does x)

        by_failing : (c : Bool) → flat.operates here true 0 line running.function (if c then operations.Draw b 1 else operations.Constant b 0) (on tail rest) m
            ≡ (if c then source.ask running (Draw 1) line (λ a. if is_true (drawn a) then follows 0 (shown m) else goes_on) else goes_on)
        by_failing true = same_ask running (Draw 1) line _ _ (λ j a. (skips (word_of a) ∙ (λ k. if is_true (same_word a k) then follows 0 (shown m) else goes_on)) j)
        by_failing false = skips 0

    word_in : (found new old : List ℕ) (offset : ℕ) → length found ≡ offset → take (length found) old ≡ found → offset + length new ≤ length old → take (length (found ++ new)) (put_at offset new old) ≡ found ++ new
    word_in found new old offset long is fits =
        let front : take offset old ≡ found = (λ j. take (sym long j) old) ∙ is in
        let rest = drop (offset + length new) old in
        let size : length (found ++ new) ≡ length found + length new = length-append found new in
        (λ j. take (size j) (front j ++ (new ++ rest)))
        ∙ take-append-add found (new ++ rest) (length new)
        ∙ (λ j. found ++ take-append_seam new rest j)

    -- words that are drawn into the block in which objects are made
    filling : (k size offset line d n : ℕ) (found : List ℕ) (m0 m : Memory) (ps : Places) (follows : List ℕ → Behaviour)
        → size ≤ length (block_of m.blocks heap) → d ≤ heap → edge ≤ heap → heap < length m.blocks → size ≤ offset + 8 * k → offset + 8 * k < size + 8 → length found ≡ min offset size → take (length found) (block_of m.blocks heap) ≡ found → Kept edge d n m0 m
        → ((m' : Memory) (all : List ℕ) → Kept edge d n m0 m' → m'.registers ≡ m.registers → shown m' ≡ shown m → length all ≡ size → take size (block_of m'.blocks heap) ≡ all → begin ps m' ≡ follows all)
        → flat.fills here k 0 line running.function heap size offset ps m ≡ source.draws_bytes running k line size found follows
    filling zero size offset line d n found m0 m ps follows fits behind above there enough few long is kept goes =
        let whole : length found ≡ size = omega (arith, long, enough) in
        goes m found kept refl refl whole ((λ j. take (sym whole j) (block_of m.blocks heap)) ∙ is)
    filling (suc k) size offset line d n found m0 m ps follows fits behind above there enough few long is kept goes =
        let at : length found ≡ offset = omega (arith, long, few) in
        let count = drawn_count size offset in
        let few_count : count ≤ 8 = omega arith in
        let within : offset + count ≤ size = omega (arith, few) in
        same_ask running (Draw (8 * count)) line _ _ (λ j a.
        (let new = low_bytes count (word_of a) in
        let new_size : length new ≡ count = low_count count (word_of a) few_count in
        let m1 : Memory = written m heap offset new in
        let room : offset + length new ≤ length (block_of m.blocks heap) = omega (arith, within, new_size, fits) in
        let still : shown m1 ≡ shown m = shown_other m heap offset new above in
        let block : block_of m1.blocks heap ≡ put_at offset new (block_of m.blocks heap) = get_or-set_same m.blocks heap (put_at offset new (block_of m.blocks heap)) [] there in
        let more : length (found ++ new) ≡ min (offset + 8) size = omega (arith, length-append found new, new_size, at, few) in
        filling k size (offset + 8) line d n (found ++ new) m0 m1 ps follows
        (omega (arith, fits, ap length block, put_size offset new (block_of m.blocks heap) room)) behind above (omega (arith, there, length-set m.blocks heap (put_at offset new (block_of m.blocks heap))))
        (omega (arith, enough)) (omega (arith, few)) more
        ((λ i. take (length (found ++ new)) (block i)) ∙ word_in found new (block_of m.blocks heap) offset at is room)
        (kept-behind edge d n heap offset new m0 m behind room kept)
        (λ m' all kept' same view size_is all_is. goes m' all kept' same (view ∙ still) size_is all_is)
        ∙ (λ i. source.draws_bytes running k line size (found ++ low_bytes count (same_word a i)) follows)) j)
        ∙ (λ j. source.ask running (Draw (8 * drawn_count size (sym at j))) line (λ a. source.draws_bytes running k line size (found ++ low_bytes (drawn_count size (sym at j)) (drawn a)) follows))

    -- an object of the first bytes of that block
    making_object : (line d n r y size : ℕ) (bytes_of_it : List ℕ) (m0 m : Memory) (rest : Places) (follows : Follows)
        → n ≤ r → r < length m0.registers → Kept edge d n m0 m → Goes d n m0 rest r follows → register m y ≡ size → take size (block_of m.blocks heap) ≡ bytes_of_it
        → begin (on (at_line (frame d) line (operations.Alloc r heap y false true) ∷ []) rest) m ≡ source.allocates running line bytes_of_it (λ p. follows p (shown m))
    making_object line d n r y size bytes_of_it m0 m rest follows above room kept goes count is =
        let same : flat.first_bytes m heap y ≡ bytes_of_it = (λ j. take (count j) (block_of m.blocks heap)) ∙ is in
        (λ j. ask (Alloc (made_of false true (same j))) line running.function (λ a. begin rest (with_register m r (pointer_to (flat.number_in a) 0))))
        ∙ same_ask running (Alloc (made_of false true bytes_of_it)) line _ _ (λ j a.
        (sets d n r (pointer_to (flat.number_in a) 0) m0 m rest follows above room kept goes
        ∙ (λ i. follows (pointer_to (same_number a i) 0) (shown m))) j)

    -- an object that malloc grants, whose size a register has
    granted_malloc : (line d n r y size : ℕ) (m0 m : Memory) (rest : Places) (follows : Follows)
        → n ≤ r → r < length m0.registers → Placed d m → heap_bytes ≤ slice_index sizes heap → size ≤ running.malloc_limit → Kept edge d n m0 m → Goes d n m0 rest r follows → register m y ≡ size
        → begin (on (at_line (frame d) line (operations.Fill heap y) ∷ at_line (frame d) line (operations.Alloc r heap y false true) ∷ []) rest) m
        ≡ source.draws_bytes running (word_count size) line size [] (λ found. source.allocates running line found (λ p. follows p (shown m)))
    granted_malloc line d n r y size m0 m rest follows above room placed large small kept goes is =
        let last : List Instruction = at_line (frame d) line (operations.Alloc r heap y false true) ∷ [] in
        let block = block_size d m placed heap in
        let fits : size ≤ length (block_of m.blocks heap) = omega (arith, small, sound.limited, large, block) in
        let count : flat.first_count m heap y ≡ size = (λ j. min (is j) (length (block_of m.blocks heap))) ∙ (let least : min size (length (block_of m.blocks heap)) ≡ size = omega (arith, fits) in least) in
        let many : length m.blocks ≡ length sizes = sym (length-map m.blocks length) ∙ ap length placed.sized in
        let words : word_count size - 0 ≡ word_count size = omega arith in
        (λ j. flat.fills here (word_count (count j) - 0) 0 line running.function heap (count j) 0 (on last rest) m)
        ∙ (λ j. flat.fills here (words j) 0 line running.function heap size 0 (on last rest) m)
        ∙ filling (word_count size) size 0 line d n [] m0 m (on last rest) (λ found. source.allocates running line found (λ p. follows p (shown m))) fits (omega (arith, placed.within, placed.last)) (omega (arith, placed.deep, placed.within, placed.last)) (omega (arith, many, placed.last)) (omega arith) (omega arith) (omega arith) refl kept (λ m' all kept' same view long found.
        making_object line d n r y size all m0 m' rest follows above room kept' goes ((λ j. slice_index (same j) y) ∙ is) found
        ∙ (λ j. source.allocates running line all (λ p. follows p (view j))))

    product_fits : (x y : ℕ) → x * y < 2 ^ 64 → arithmetic_value arithmetics.Multiply types.UnsignedLong x y ≡ x * y
    unfolding word_product
    product_fits x y few = mod-eq_of_lt few

    -- an object of bytes that are 0, as large as the product of two registers says
    granted_calloc : (line d n r s p q x y : ℕ) (m0 m : Memory) (rest : Places) (follows : Follows)
        → n ≤ r → n ≤ s → r < length m0.registers → s < length m0.registers → Placed d m → heap_bytes ≤ slice_index sizes heap → x * y ≤ running.malloc_limit → Kept edge d n m0 m → Goes d n m0 rest r follows → register m p ≡ x → register m q ≡ y
        → begin (on (at_line (frame d) line (operations.Arithmetic s arithmetics.Multiply types.UnsignedLong types.UnsignedLong p q) ∷ at_line (frame d) line (operations.Clear heap heap_bytes) ∷ at_line (frame d) line (operations.Alloc r heap s false true) ∷ []) rest) m
        ≡ source.allocates running line (zeros (x * y)) (λ v. follows v (shown m))
    granted_calloc line d n r s p q x y m0 m rest follows above above_s room room_s placed large small kept goes left right =
        let product = arithmetic_value arithmetics.Multiply types.UnsignedLong (register m p) (register m q) in
        let is : product ≡ x * y = (λ j. arithmetic_value arithmetics.Multiply types.UnsignedLong (left j) (right j)) ∙ product_fits x y (omega (arith, small, sound.limited)) in
        let m1 : Memory = with_register m s product in
        let m2 : Memory = with_blocks m1 (cleared m1.blocks heap heap_bytes) in
        let many : length m.blocks ≡ length sizes = sym (length-map m.blocks length) ∙ ap length placed.sized in
        let there : heap < length m.blocks = omega (arith, many, placed.last) in
        let count : register m2 s ≡ x * y = set_same m s product (omega (arith, room_s, kept.room)) ∙ is in
        let block : block_of m2.blocks heap ≡ zeros heap_bytes = get_or-set_same m1.blocks heap (zeros heap_bytes) [] there in
        let kept1 : Kept edge d n m0 m1 = kept-then edge d n n m0 m m1 (omega arith) kept (kept-set edge d n s m product above_s) in
        let kept2 : Kept edge d n m0 m2 = kept-cleared edge d n heap heap_bytes m0 m1 (omega (arith, placed.within, placed.last)) (omega (arith, block_size d m placed heap, large, placed.most)) kept1 in
        let view : shown m2 ≡ shown m = take-set-le edge m1.blocks heap (zeros heap_bytes) (omega (arith, placed.deep, placed.within, placed.last)) in
        making_object line d n r s (x * y) (zeros (x * y)) m0 m2 rest follows above room kept2 goes count ((λ j. take (x * y) (block j)) ∙ take-replicate (x * y) heap_bytes 0 (omega (arith, small, sound.limited)))
        ∙ (λ j. source.allocates running line (zeros (x * y)) (λ v. follows v (view j)))

    -- a place that is evaluated always, in its last register
    held_evaluated : (o : Option ℕ) (xs : List Instruction) (last d n : ℕ) (m : Memory) (rest : Places) (follows : Follows) (goal : Behaviour)
        → n + (if is_evaluated (evaluated_access o) then last + 1 else 0) ≤ length m.registers
        → ((m' : Memory) (at : ℕ) → Kept edge d n m m' → IsAt (evaluated_access o) m' (n + last) at → begin rest m' ≡ follows at (shown m'))
        → (n + last < length m.registers → Goes d n m rest (n + last) follows → begin (on xs rest) m ≡ goal)
        → begin (on (if_evaluated (evaluated_access o) xs) rest) m ≡ goal
    held_evaluated None xs last d n m rest follows goal room goes does = does (omega (arith, room)) (λ m' kept. goes m' (register m' (n + last)) kept refl)
    held_evaluated (Some v) xs last d n m rest follows goal room goes does = does (omega (arith, room)) (λ m' kept. goes m' (register m' (n + last)) kept refl)

    held_variable : (o : Option ℕ) (line v offset d n : ℕ) (m : Memory) (rest : Places) (follows : Follows)
        → source.home_of running v ≡ o → Placed d m → n + (if is_evaluated (variable_access o v offset) then 1 + 1 else 0) ≤ length m.registers
        → ((m' : Memory) (at : ℕ) → Kept edge d n m m' → IsAt (variable_access o v offset) m' (n + 1) at → begin rest m' ≡ follows at (shown m'))
        → begin (on (if_evaluated (variable_access o v offset) (base_code (frame d) line o offset n)) rest) m ≡ follows (source.in_variable running o (shown m) offset) (shown m)
    held_variable None line v offset d n m rest follows home placed room goes = goes m offset (kept-refl edge d n m) refl
    held_variable (Some h) line v offset d n m rest follows home placed room goes =
        based (Some h) line v offset d n m rest follows home placed (omega (arith, room)) (λ m' kept. goes m' (register m' (n + 1)) kept refl)

    -- an element of a named array, whose place and whose index are evaluated in this order
    place_first : (line d n last top_of_index : ℕ) (xs ys : List Instruction) (t : IntegerType) (size whole : ℕ) (one two : Variables → Follows → Behaviour)
        → Means xs d n last one → Means ys d (n + (last + 1)) top_of_index two
        → (m : Memory) (rest : Places) (follows : Follows) → Placed d m → n + (last + (top_of_index + 3)) < length m.registers → Goes d n m rest (n + (last + (top_of_index + 3))) follows
        → begin (on (xs ++ (ys ++ element_code (frame d) line (n + last) (n + (last + 1) + top_of_index) t size whole (n + (last + 1) + (top_of_index + 1)))) rest) m
        ≡ one (shown m) (λ at after. two after (λ k following. source.steps_to running at whole (number t k) (pos size) line (λ q. follows q following)))
    place_first line d n last top_of_index xs ys t size whole one two means_one means_two m rest follows placed room goes =
        let second = n + (last + 1) in
        let step : List Instruction = element_code (frame d) line (n + last) (second + top_of_index) t size whole (second + (top_of_index + 1)) in
        split xs (ys ++ step) rest m
        ∙ means_one m (on (ys ++ step) rest) (λ at after. two after (λ k following. source.steps_to running at whole (number t k) (pos size) line (λ q. follows q following))) placed (omega (arith, room)) (λ m1 kept1.
        split ys step rest m1
        ∙ means_two m1 (on step rest) (λ k following. source.steps_to running (register m1 (n + last)) whole (number t k) (pos size) line (λ q. follows q following)) (placed_kept d n m m1 placed kept1) (omega (arith, room, kept1.room)) (λ m2 kept2.
        stepping line d n (second + (top_of_index + 1)) (n + last) (second + top_of_index) t size whole m m2 rest follows (omega arith) (omega arith) (omega arith) (omega (arith, room)) (kept-then edge d n second m m1 m2 (omega arith) kept1 kept2)
        (goes-at d n m rest (second + (top_of_index + 1) + 1) (n + (last + (top_of_index + 3))) follows (omega arith) goes)
        ∙ (λ j. source.steps_to running (kept2.below (n + last) (omega arith) j) whole (number t (register m2 (second + top_of_index))) (pos size) line (λ q. follows q (shown m2)))))

    -- and in the other one
    index_first : (line d n last top_of_index : ℕ) (xs ys : List Instruction) (t : IntegerType) (size whole : ℕ) (one two : Variables → Follows → Behaviour)
        → Means xs d (n + (top_of_index + 1)) last one → Means ys d n top_of_index two
        → (m : Memory) (rest : Places) (follows : Follows) → Placed d m → n + (last + (top_of_index + 3)) < length m.registers → Goes d n m rest (n + (last + (top_of_index + 3))) follows
        → begin (on (ys ++ (xs ++ element_code (frame d) line (n + (top_of_index + 1) + last) (n + top_of_index) t size whole (n + (top_of_index + 1) + (last + 1)))) rest) m
        ≡ two (shown m) (λ k after. one after (λ at following. source.steps_to running at whole (number t k) (pos size) line (λ q. follows q following)))
    index_first line d n last top_of_index xs ys t size whole one two means_one means_two m rest follows placed room goes =
        let second = n + (top_of_index + 1) in
        let step : List Instruction = element_code (frame d) line (second + last) (n + top_of_index) t size whole (second + (last + 1)) in
        split ys (xs ++ step) rest m
        ∙ means_two m (on (xs ++ step) rest) (λ k after. one after (λ at following. source.steps_to running at whole (number t k) (pos size) line (λ q. follows q following))) placed (omega (arith, room)) (λ m1 kept1.
        split xs step rest m1
        ∙ means_one m1 (on step rest) (λ at following. source.steps_to running at whole (number t (register m1 (n + top_of_index))) (pos size) line (λ q. follows q following)) (placed_kept d n m m1 placed kept1) (omega (arith, room, kept1.room)) (λ m2 kept2.
        stepping line d n (second + (last + 1)) (second + last) (n + top_of_index) t size whole m m2 rest follows (omega arith) (omega arith) (omega arith) (omega (arith, room)) (kept-then edge d n second m m1 m2 (omega arith) kept1 kept2)
        (goes-at d n m rest (second + (last + 1) + 1) (n + (last + (top_of_index + 3))) follows (omega arith) goes)
        ∙ (λ j. source.steps_to running (register m2 (second + last)) whole (number t (kept2.below (n + top_of_index) (omega arith) j)) (pos size) line (λ q. follows q (shown m2)))))

    -- a sum of a pointer and an index, which are evaluated in this order
    pointer_first : (is_element : Bool) (line d n last top_of_index : ℕ) (xs ys : List Instruction) (t : IntegerType) (stride : ℤ) (one two : Variables → Follows → Behaviour)
        → Means xs d n last one → Means ys d (n + (last + 1)) top_of_index two
        → (m : Memory) (rest : Places) (follows : Follows) → Placed d m → n + (last + (top_of_index + 3)) < length m.registers → Goes d n m rest (n + (last + (top_of_index + 3))) follows
        → begin (on (xs ++ (ys ++ move_code (frame d) is_element line (n + last) (n + (last + 1) + top_of_index) t stride (n + (last + 1) + (top_of_index + 1)))) rest) m
        ≡ one (shown m) (λ p after. two after (λ k following. source.moves running is_element p (number t k) stride line (λ q. follows q following)))
    pointer_first is_element line d n last top_of_index xs ys t stride one two means_one means_two m rest follows placed room goes =
        let second = n + (last + 1) in
        let step : List Instruction = move_code (frame d) is_element line (n + last) (second + top_of_index) t stride (second + (top_of_index + 1)) in
        split xs (ys ++ step) rest m
        ∙ means_one m (on (ys ++ step) rest) (λ p after. two after (λ k following. source.moves running is_element p (number t k) stride line (λ q. follows q following))) placed (omega (arith, room)) (λ m1 kept1.
        split ys step rest m1
        ∙ means_two m1 (on step rest) (λ k following. source.moves running is_element (register m1 (n + last)) (number t k) stride line (λ q. follows q following)) (placed_kept d n m m1 placed kept1) (omega (arith, room, kept1.room)) (λ m2 kept2.
        moving is_element line d n (second + (top_of_index + 1)) (n + last) (second + top_of_index) t stride m m2 rest follows (omega arith) (omega arith) (omega arith) (omega (arith, room)) (kept-then edge d n second m m1 m2 (omega arith) kept1 kept2)
        (goes-at d n m rest (second + (top_of_index + 1) + 1) (n + (last + (top_of_index + 3))) follows (omega arith) goes)
        ∙ (λ j. source.moves running is_element (kept2.below (n + last) (omega arith) j) (number t (register m2 (second + top_of_index))) stride line (λ q. follows q (shown m2)))))

    -- and in the other one
    pointer_last : (is_element : Bool) (line d n last top_of_index : ℕ) (xs ys : List Instruction) (t : IntegerType) (stride : ℤ) (one two : Variables → Follows → Behaviour)
        → Means xs d (n + (top_of_index + 1)) last one → Means ys d n top_of_index two
        → (m : Memory) (rest : Places) (follows : Follows) → Placed d m → n + (last + (top_of_index + 3)) < length m.registers → Goes d n m rest (n + (last + (top_of_index + 3))) follows
        → begin (on (ys ++ (xs ++ move_code (frame d) is_element line (n + (top_of_index + 1) + last) (n + top_of_index) t stride (n + (top_of_index + 1) + (last + 1)))) rest) m
        ≡ two (shown m) (λ k after. one after (λ p following. source.moves running is_element p (number t k) stride line (λ q. follows q following)))
    pointer_last is_element line d n last top_of_index xs ys t stride one two means_one means_two m rest follows placed room goes =
        let second = n + (top_of_index + 1) in
        let step : List Instruction = move_code (frame d) is_element line (second + last) (n + top_of_index) t stride (second + (last + 1)) in
        split ys (xs ++ step) rest m
        ∙ means_two m (on (xs ++ step) rest) (λ k after. one after (λ p following. source.moves running is_element p (number t k) stride line (λ q. follows q following))) placed (omega (arith, room)) (λ m1 kept1.
        split xs step rest m1
        ∙ means_one m1 (on step rest) (λ p following. source.moves running is_element p (number t (register m1 (n + top_of_index))) stride line (λ q. follows q following)) (placed_kept d n m m1 placed kept1) (omega (arith, room, kept1.room)) (λ m2 kept2.
        moving is_element line d n (second + (last + 1)) (second + last) (n + top_of_index) t stride m m2 rest follows (omega arith) (omega arith) (omega arith) (omega (arith, room)) (kept-then edge d n second m m1 m2 (omega arith) kept1 kept2)
        (goes-at d n m rest (second + (last + 1) + 1) (n + (last + (top_of_index + 3))) follows (omega arith) goes)
        ∙ (λ j. source.moves running is_element (register m2 (second + last)) (number t (kept2.below (n + top_of_index) (omega arith) j)) stride line (λ q. follows q (shown m2)))))

    -- what stands at a place is looked for behind the code that evaluates it, where that code does what it should
    holding_by : (x : Place) (d n : ℕ) (m : Memory) (rest : Places) (follows : Follows)
        → Means (place_code (frame d) x n) d n (place_top x) (source.locate running meant x) → Placed d m → n + held x ≤ length m.registers → GoesAt d n m rest x follows
        → begin (on (if_evaluated (reached x) (place_code (frame d) x n)) rest) m ≡ source.locate running meant x (shown m) follows
    holding_by (variable_at line v offset) d n m rest follows means_place placed room goes = held_variable (home_in running.variables v) line v offset d n m rest follows refl placed room goes
    holding_by (object_at line k offset) d n m rest follows means_place placed room goes = goes m (pointer_to k offset) (kept-refl edge d n m) refl
    holding_by (literal_at line k) d n m rest follows means_place placed room goes = means_place m rest follows placed (omega (arith, room)) (λ m' kept. goes m' (register m' (n + 0)) kept refl)
    holding_by (pointed line e) d n m rest follows means_place placed room goes = means_place m rest follows placed (omega (arith, room)) (λ m' kept. goes m' (register m' (n + top e)) kept refl)
    holding_by (arrow line e offset) d n m rest follows means_place placed room goes = means_place m rest follows placed (omega (arith, room)) (λ m' kept. goes m' (register m' (n + (top e + 1))) kept refl)
    holding_by (member line x offset) d n m rest follows means_place placed room goes =
        held_evaluated (holder_in running.variables x) (place_code (frame d) (member line x offset) n) (place_top x + 1) d n m rest follows _ room goes (λ lt go. means_place m rest follows placed lt go)
    holding_by (element line x e size whole swapped) d n m rest follows means_place placed room goes =
        held_evaluated (holder_in running.variables x) (place_code (frame d) (element line x e size whole swapped) n) (place_top x + (top e + 3)) d n m rest follows _ room goes (λ lt go. means_place m rest follows placed lt go)
    holding_by (subscript line a e size swapped) d n m rest follows means_place placed room goes = means_place m rest follows placed (omega (arith, room)) (λ m' kept. goes m' (register m' (n + (top a + (top e + 3)))) kept refl)

    mutual
      -- where a place is, in its last register
      pub place_means : (x : Place) (count d n : ℕ) (m : Memory) (rest : Places) (follows : Follows)
          → is_place known count x ≡ true → Houses d (way_temporaries x) → Placed d m → n + place_top x < length m.registers → Goes d n m rest (n + place_top x) follows
          → begin (on (place_code (frame d) x n) rest) m ≡ source.locate running meant x (shown m) follows
      place_means (variable_at line v offset) count d n m rest follows typed housed placed room goes = based (home_in running.variables v) line v offset d n m rest follows refl placed room goes
      place_means (object_at line k offset) count d n m rest follows typed housed placed room goes =
          sets d n n (pointer_to k offset) m m rest follows (omega arith) (omega (arith, room)) (kept-refl edge d n m) (goes-at d n m rest n (n + 0) follows (omega arith) goes)
      place_means (literal_at line k) count d n m rest follows typed housed placed room goes =
          sets d n n (pointer_to (running.literals + k) 0) m m rest follows (omega arith) (omega (arith, room)) (kept-refl edge d n m) (goes-at d n m rest n (n + 0) follows (omega arith) goes)
      place_means (pointed line e) count d n m rest follows typed housed placed room goes = means e d n m rest follows (right_of _ _ typed) housed placed room goes
      place_means (arrow line e offset) count d n m rest follows typed housed placed room goes =
          split (code (frame d) e n) _ rest m
          ∙ means e d n m _ (λ p. follows (further p offset)) (right_of _ _ typed) housed placed (omega (arith, room)) (λ m' kept.
          sets d n (n + (top e + 1)) (further (register m' (n + top e)) offset) m m' rest follows (omega arith) room kept goes)
      place_means (member line x offset) count d n m rest follows typed housed placed room goes =
          split (place_code (frame d) x n) _ rest m
          ∙ place_means x (offset + count) d n m _ (λ p. follows (further p offset)) (right_of _ _ typed) housed placed (omega (arith, room)) (λ m' kept.
          sets d n (n + (place_top x + 1)) (further (register m' (n + place_top x)) offset) m m' rest follows (omega arith) room kept goes)
      place_means (element line x e size whole false) count d n m rest follows typed housed placed room goes =
          place_first line d n (place_top x) (top e) (place_code (frame d) x n) (code (frame d) e (n + (place_top x + 1))) (number_type e) size whole (source.locate running meant x) (eval running meant e)
          (λ m1 rest1 follows1 placed1 room1 goes1. place_means x 0 d n m1 rest1 follows1 (right_of _ _ (left_of _ _ typed)) (housed_left sizes edge heap d (way_temporaries x) (temporaries e) housed) placed1 room1 goes1)
          (λ m1 rest1 follows1 placed1 room1 goes1. means e d (n + (place_top x + 1)) m1 rest1 follows1 (right_of _ _ typed) (housed_right sizes edge heap d (way_temporaries x) (temporaries e) housed) placed1 room1 goes1)
          m rest follows placed room goes
      place_means (element line x e size whole true) count d n m rest follows typed housed placed room goes =
          index_first line d n (place_top x) (top e) (place_code (frame d) x (n + (top e + 1))) (code (frame d) e n) (number_type e) size whole (source.locate running meant x) (eval running meant e)
          (λ m1 rest1 follows1 placed1 room1 goes1. place_means x 0 d (n + (top e + 1)) m1 rest1 follows1 (right_of _ _ (left_of _ _ typed)) (housed_left sizes edge heap d (way_temporaries x) (temporaries e) housed) placed1 room1 goes1)
          (λ m1 rest1 follows1 placed1 room1 goes1. means e d n m1 rest1 follows1 (right_of _ _ typed) (housed_right sizes edge heap d (way_temporaries x) (temporaries e) housed) placed1 room1 goes1)
          m rest follows placed room goes
      place_means (subscript line a e size false) count d n m rest follows typed housed placed room goes =
          pointer_first true line d n (top a) (top e) (code (frame d) a n) (code (frame d) e (n + (top a + 1))) (number_type e) (pos size) (eval running meant a) (eval running meant e)
          (λ m1 rest1 follows1 placed1 room1 goes1. means a d n m1 rest1 follows1 (right_of _ _ (left_of _ _ typed)) (housed_left sizes edge heap d (temporaries a) (temporaries e) housed) placed1 room1 goes1)
          (λ m1 rest1 follows1 placed1 room1 goes1. means e d (n + (top a + 1)) m1 rest1 follows1 (right_of _ _ typed) (housed_right sizes edge heap d (temporaries a) (temporaries e) housed) placed1 room1 goes1)
          m rest follows placed room goes
      place_means (subscript line a e size true) count d n m rest follows typed housed placed room goes =
          pointer_last true line d n (top a) (top e) (code (frame d) a (n + (top e + 1))) (code (frame d) e n) (number_type e) (pos size) (eval running meant a) (eval running meant e)
          (λ m1 rest1 follows1 placed1 room1 goes1. means a d (n + (top e + 1)) m1 rest1 follows1 (right_of _ _ (left_of _ _ typed)) (housed_left sizes edge heap d (temporaries a) (temporaries e) housed) placed1 room1 goes1)
          (λ m1 rest1 follows1 placed1 room1 goes1. means e d n m1 rest1 follows1 (right_of _ _ typed) (housed_right sizes edge heap d (temporaries a) (temporaries e) housed) placed1 room1 goes1)
          m rest follows placed room goes

      pub means : (e : Expression) (d n : ℕ) (m : Memory) (rest : Places) (follows : Follows)
          → is_typed known e ≡ true → Houses d (temporaries e) → Placed d m → n + top e < length m.registers → Goes d n m rest (n + top e) follows
          → begin (on (code (frame d) e n) rest) m ≡ eval running meant e (shown m) follows
      means (constant line t bits) d n m rest follows typed housed placed room goes =
          sets d n n bits m m rest follows (omega arith) (omega (arith, room)) (kept-refl edge d n m) (goes-at d n m rest n (n + 0) follows (omega arith) goes)
      means (read t x) d n m rest follows typed housed placed room goes =
          split (if_evaluated (reached x) (place_code (frame d) x n)) _ rest m
          ∙ holding_by x d n m _ (λ at after. source.reads_number running t x at after (λ found. follows found after)) (λ m0 rest0 follows0 placed0 room0 goes0. place_means x (bytes t) d n m0 rest0 follows0 typed (housed_left sizes edge heap d (way_temporaries x) (number_temporaries t x) housed) placed0 room0 goes0) placed (omega (arith, room)) (λ m1 at kept1 is.
          reading (place_line x) d n (n + held x) (n + place_top x) at t (reached x) m1 rest follows (fits_place x (bytes t) typed) (housed_right sizes edge heap d (way_temporaries x) (number_temporaries t x) housed) (placed_kept d n m m1 placed kept1) (omega arith) (omega (arith, room, kept1.room)) is
          (λ m2 kept2. goes m2 (kept-then edge d n n m m1 m2 (omega arith) kept1 kept2))
          ∙ (λ j. source.reads running (sym (same_holder x) j) at (bytes t) (place_line x) (shown m1) (λ found. follows (number_of t found) (shown m1))))
      means (draw line t) d n m rest follows typed housed placed room goes =
          same_ask running (Draw (drawn_width t)) line _ _ (λ i a.
          (sets d n n (word_of a) m m rest follows (omega arith) (omega (arith, room)) (kept-refl edge d n m) (goes-at d n m rest n (n + 0) follows (omega arith) goes)
          ∙ ap (λ x. follows x (shown m)) (same_word a)) i)
      means (convert to e) d n m rest follows typed housed placed room goes =
          split (code (frame d) e n) _ rest m
          ∙ means e d n m _ (λ x. follows (converted (number_type e) to x)) (right_of _ _ typed) housed placed (omega (arith, room)) (λ m' kept.
          sets d n (n + (top e + 1)) (converted (number_type e) to (register m' (n + top e))) m m' rest follows (omega arith) room kept goes)
      means (sign line op e) d n m rest follows typed housed placed room goes =
          split (code (frame d) e n) _ rest m
          ∙ means e d n m _ (λ x after. unless_broken running (sign_check op (number_type e) x) line (follows (sign_value op (number_type e) x) after)) (right_of _ _ typed) housed placed (omega (arith, room)) (λ m' kept.
          same_check calls hands running (sign_check op (number_type e) (register m' (n + top e))) line _ _
          (sets d n (n + (top e + 1)) (sign_value op (number_type e) (register m' (n + top e))) m m' rest follows (omega arith) room kept goes))
      means (is_zero line e) d n m rest follows typed housed placed room goes =
          split (code (frame d) e n) _ rest m
          ∙ means e d n m _ (λ x. follows (truth_bits (not (is_true x)))) (right_of _ _ typed) housed placed (omega (arith, room)) (λ m' kept.
          sets d n (n + (top e + 1)) (truth_bits (register m' (n + top e) == 0)) m m' rest follows (omega arith) room kept goes
          ∙ ap (λ b. follows (truth_bits b) (shown m')) (not_not (register m' (n + top e) == 0)))
      means (arithmetic line op a b) d n m rest follows typed housed placed room goes =
          let second = n + (top a + 1) in
          split (code (frame d) a n) _ rest m
          ∙ means a d n m _ (λ x after. eval running meant b after (λ y last. operated running op (number_type a) (number_type b) x y line (λ z. follows z last))) (right_of _ _ (left_of _ _ typed)) (housed_left sizes edge heap d (temporaries a) (temporaries b) housed) placed (omega (arith, room)) (λ m1 kept1.
          split (code (frame d) b second) _ rest m1
          ∙ means b d second m1 _ (λ y last. operated running op (number_type a) (number_type b) (register m1 (n + top a)) y line (λ z. follows z last)) (right_of _ _ typed) (housed_right sizes edge heap d (temporaries a) (temporaries b) housed) (placed_kept d n m m1 placed kept1) (omega (arith, room, kept1.room)) (λ m2 kept2.
          same_check calls hands running (arithmetic_check op (number_type a) (number_type b) (register m2 (n + top a)) (register m2 (second + top b))) line _ _
          (sets d n (n + (top a + (top b + 2))) (arithmetic_value op (number_type a) (register m2 (n + top a)) (register m2 (second + top b))) m m2 rest follows (omega arith) room
          (kept-then edge d n second m m1 m2 (omega arith) kept1 kept2) goes)
          ∙ ap (λ x. operated running op (number_type a) (number_type b) x (register m2 (second + top b)) line (λ z. follows z (shown m2))) (kept2.below (n + top a) (omega arith))))
      means (compare line op a b) d n m rest follows typed housed placed room goes =
          let second = n + (top a + 1) in
          split (code (frame d) a n) _ rest m
          ∙ means a d n m _ (λ x after. eval running meant b after (λ y. follows (truth_bits (compared op (number_type a) x y)))) (right_of _ _ (left_of _ _ typed)) (housed_left sizes edge heap d (temporaries a) (temporaries b) housed) placed (omega (arith, room)) (λ m1 kept1.
          split (code (frame d) b second) _ rest m1
          ∙ means b d second m1 _ (λ y. follows (truth_bits (compared op (number_type a) (register m1 (n + top a)) y))) (right_of _ _ typed) (housed_right sizes edge heap d (temporaries a) (temporaries b) housed) (placed_kept d n m m1 placed kept1) (omega (arith, room, kept1.room)) (λ m2 kept2.
          sets d n (n + (top a + (top b + 2))) (truth_bits (compared op (number_type a) (register m2 (n + top a)) (register m2 (second + top b)))) m m2 rest follows (omega arith) room
          (kept-then edge d n second m m1 m2 (omega arith) kept1 kept2) goes
          ∙ ap (λ x. follows (truth_bits (compared op (number_type a) x (register m2 (second + top b)))) (shown m2)) (kept2.below (n + top a) (omega arith))))
      means (logical line op a b) d n m rest follows typed housed placed room goes =
          split (code (frame d) a n) _ rest m
          ∙ means a d n m _ _ (right_of _ _ (left_of _ _ typed)) (housed_left sizes edge heap d (temporaries a) (temporaries b) housed) placed (omega (arith, room)) (λ m1 kept1. means_logical d line op (code (frame d) b (n + (top a + 1))) (top b) (eval running meant b) n (top a) (λ m2 rest2 follows2 placed2. means b d (n + (top a + 1)) m2 rest2 follows2 (right_of _ _ typed) (housed_right sizes edge heap d (temporaries a) (temporaries b) housed) placed2) m m1 rest follows (placed_kept d n m m1 placed kept1) room kept1 goes)
      means (choice line test a b) d n m rest follows typed housed placed room goes =
          let first = n + (top test + 1) in
          let second = first + (top a + 1) in
          let result = second + (top b + 1) in
          let yes_code = code (frame d) a first in
          let no_code = code (frame d) b second in
          let goes' : Goes d n m rest result follows = goes-at d n m rest result (n + (top test + (top a + (top b + 3)))) follows (omega arith) goes in
          split (code (frame d) test n) _ rest m
          ∙ means test d n m _ (λ x after. if is_true x then eval running meant a after follows else eval running meant b after follows) (right_of _ _ (left_of _ _ (left_of _ _ typed))) (housed_left sizes edge heap d (temporaries test) (both (temporaries a) (temporaries b)) housed) placed (omega (arith, room)) (λ m1 kept1.
          turned (register m1 (n + top test) == 0) _ _ _ _
          (past yes_code _ rest 2 m1
          ∙ split no_code _ rest m1
          ∙ means b d second m1 _ follows (right_of _ _ typed) (housed_right sizes edge heap d (temporaries a) (temporaries b) (housed_right sizes edge heap d (temporaries test) (both (temporaries a) (temporaries b)) housed)) (placed_kept d n m m1 placed kept1) (omega (arith, room, kept1.room)) (λ m2 kept2.
          sets d n result (register m2 (second + top b)) m m2 rest follows (omega arith) (omega (arith, room)) (kept-then edge d n second m m1 m2 (omega arith) kept1 kept2) goes'))
          (split yes_code _ rest m1
          ∙ means a d first m1 _ follows (right_of _ _ (left_of _ _ typed)) (housed_left sizes edge heap d (temporaries a) (temporaries b) (housed_right sizes edge heap d (temporaries test) (both (temporaries a) (temporaries b)) housed)) (placed_kept d n m m1 placed kept1) (omega (arith, room, kept1.room)) (λ m2 kept2.
          past no_code _ rest 1 (with_register m2 result (register m2 (first + top a)))
          ∙ sets d n result (register m2 (first + top a)) m m2 rest follows (omega arith) (omega (arith, room)) (kept-then edge d n first m m1 m2 (omega arith) kept1 kept2) goes')))
      means (assign line t x e) d n m rest follows typed housed placed room goes =
          let k = n + held x in
          let there = left_of _ _ (left_of _ _ typed) in
          let inner = housed_right sizes edge heap d (temporaries e) (place_temporaries t x) housed in
          split (if_evaluated (reached x) (place_code (frame d) x n)) _ rest m
          ∙ holding_by x d n m _ (λ at after. eval running meant e after (λ y last. source.writes_number running t x at line y last (follows y))) (λ m0 rest0 follows0 placed0 room0 goes0. place_means x (bytes t) d n m0 rest0 follows0 there (housed_left sizes edge heap d (way_temporaries x) (number_temporaries t x) inner) placed0 room0 goes0) placed (omega (arith, room)) (λ m1 at kept1 is.
          split (code (frame d) e k) _ rest m1
          ∙ means e d k m1 _ (λ y last. source.writes_number running t x at line y last (follows y)) (right_of _ _ typed) (housed_left sizes edge heap d (temporaries e) (place_temporaries t x) housed) (placed_kept d n m m1 placed kept1) (omega (arith, room, kept1.room)) (λ m2 kept2.
          writing line d n (k + top e) (n + place_top x) at t (reached x) m m2 rest (follows (register m2 (k + top e))) (fits_place x (bytes t) there) (housed_right sizes edge heap d (way_temporaries x) (number_temporaries t x) inner) placed (kept-then edge d n k m m1 m2 (omega arith) kept1 kept2)
          (at_still (reached x) k (n + place_top x) at m1 m2 (held_below x n) kept2.below is) (λ m3 kept3 same.
          goes-at d n m rest (k + top e) (n + (held x + top e)) follows (omega arith) goes m3 kept3 ∙ (λ j. follows (slice_index (same j) (k + top e)) (shown m3)))
          ∙ (λ j. source.writes running (sym (same_holder x) j) at (low_bytes (bytes t) (register m2 (k + top e))) line (shown m2) (follows (register m2 (k + top e))))))
      means (update line t x op u e) d n m rest follows typed housed placed room goes =
          let k = n + held x in
          let there = left_of _ _ (left_of _ _ typed) in
          let inner = housed_right sizes edge heap d (temporaries e) (place_temporaries t x) housed in
          split (if_evaluated (reached x) (place_code (frame d) x n)) _ rest m
          ∙ holding_by x d n m _ (λ at after. eval running meant e after (λ y last. updated_by (source.variable_of running x) at (place_line x) line t op u (number_type e) y last (λ old. follows))) (λ m0 rest0 follows0 placed0 room0 goes0. place_means x (bytes t) d n m0 rest0 follows0 there (housed_left sizes edge heap d (way_temporaries x) (number_temporaries t x) inner) placed0 room0 goes0) placed (omega (arith, room)) (λ m1 at kept1 is.
          split (code (frame d) e k) _ rest m1
          ∙ means e d k m1 _ (λ y last. updated_by (source.variable_of running x) at (place_line x) line t op u (number_type e) y last (λ old. follows)) (right_of _ _ typed) (housed_left sizes edge heap d (temporaries e) (place_temporaries t x) housed) (placed_kept d n m m1 placed kept1) (omega (arith, room, kept1.room)) (λ m2 kept2.
          let kept : Kept edge d n m m2 = kept-then edge d n k m m1 m2 (omega arith) kept1 kept2 in
          updating (place_line x) line d t (reached x) (n + place_top x) at op u (number_type e) (k + top e) (k + (top e + 1)) m2 rest (λ old. follows) (fits_place x (bytes t) there) (housed_right sizes edge heap d (way_temporaries x) (number_temporaries t x) inner) (placed_kept d n m m2 placed kept) (omega arith)
          (λ ev. omega (arith, held_below x n ev)) (omega (arith, room, kept.room)) (at_still (reached x) k (n + place_top x) at m1 m2 (held_below x n) kept2.below is) (λ m3 kept3.
          goes m3 (kept-then edge d n (k + (top e + 1)) m m2 m3 (omega arith) kept kept3)
          ∙ (let same : n + (held x + (top e + 4)) ≡ k + (top e + 1) + 3 = omega arith in ap (λ r. follows (register m3 r) (shown m3)) same))
          ∙ (λ j. updated_by (sym (same_holder x) j) at (place_line x) line t op u (number_type e) (register m2 (k + top e)) (shown m2) (λ old. follows))))
      means (step line t x op before) d n m rest follows typed housed placed room goes =
          let k = n + held x in
          let u = promoted t in
          let last : List Instruction = at_line (frame d) line (operations.Copy (k + 5) (if before then k + 4 else k + 1)) ∷ [] in
          split (if_evaluated (reached x) (place_code (frame d) x n)) _ rest m
          ∙ holding_by x d n m _ (λ at after. updated_by (source.variable_of running x) at (place_line x) line t (step_operation op) u u 1 after (λ old new. follows (if before then new else old))) (λ m0 rest0 follows0 placed0 room0 goes0. place_means x (bytes t) d n m0 rest0 follows0 typed (housed_left sizes edge heap d (way_temporaries x) (number_temporaries t x) housed) placed0 room0 goes0) placed (omega (arith, room)) (λ m1 at kept1 is.
          let m2 : Memory = with_register m1 k 1 in
          let kept2 : Kept edge d n m m2 = kept-then edge d n n m m1 m2 (omega arith) kept1 (kept-set edge d n k m1 1 (omega arith)) in
          let one : register m2 k ≡ 1 = set_same m1 k 1 (omega (arith, room, kept1.room)) in
          split (update_code (frame d) (place_line x) line t (reached x) (n + place_top x) (step_operation op) u u k (k + 1)) last rest m2
          ∙ updating (place_line x) line d t (reached x) (n + place_top x) at (step_operation op) u u k (k + 1) m2 (on last rest) (λ old new. follows (if before then new else old)) (fits_place x (bytes t) typed) (housed_right sizes edge heap d (way_temporaries x) (number_temporaries t x) housed) (placed_kept d n m m2 placed kept2) (omega arith)
          (λ ev. omega (arith, held_below x n ev)) (omega (arith, room, kept2.room)) (at_still (reached x) k (n + place_top x) at m1 m2 (held_below x n) (λ r lt. set_other m1 k 1 r (λ e. omega (arith, e, lt))) is) (λ m3 kept3.
          sets d n (k + 5) (register m3 (if before then k + 4 else k + 1)) m m3 rest follows (omega arith) (omega (arith, room)) (kept-then edge d n (k + 1) m m2 m3 (omega arith) kept2 kept3) (goes-at d n m rest (k + 5) (n + (held x + 5)) follows (omega arith) goes)
          ∙ ap (λ z. follows z (shown m3)) (chosen before (register m3) (k + 4) (k + 1) (k + 1 + 3) (register m3 (k + 1)) (omega arith) refl))
          ∙ (λ j. updated_by (sym (same_holder x) j) at (place_line x) line t (step_operation op) u u (one j) (shown m1) (λ old new. follows (if before then new else old))))
      means (comma line a b) d n m rest follows typed housed placed room goes =
          let second = n + (top a + 1) in
          split (code (frame d) a n) _ rest m
          ∙ means a d n m _ (λ x after. eval running meant b after follows) (left_of _ _ typed) (housed_left sizes edge heap d (temporaries a) (temporaries b) housed) placed (omega (arith, room)) (λ m1 kept1.
          means b d second m1 rest follows (right_of _ _ typed) (housed_right sizes edge heap d (temporaries a) (temporaries b) housed) (placed_kept d n m m1 placed kept1) (omega (arith, room, kept1.room)) (λ m2 kept2.
          goes m2 (kept-then edge d n second m m1 m2 (omega arith) kept1 kept2)
          ∙ (let same : n + (top a + (top b + 1)) ≡ second + top b = omega arith in ap (λ r. follows (register m2 r) (shown m2)) same)))
      means (assertion line e) d n m rest follows typed housed placed room goes =
          split (code (frame d) e n) _ rest m
          ∙ means e d n m _ (λ x after. if is_true x then follows 0 after else source.final (Broken Assertion line running.function)) (right_of _ _ typed) housed placed (omega (arith, room)) (λ m' kept.
          turned (register m' (n + top e) == 0) _ _ _ _ (same_final (Broken Assertion line running.function))
          (sets d n (n + (top e + 1)) 0 m m' rest follows (omega arith) room kept goes))
      means (assumption line e) d n m rest follows typed housed placed room goes =
          split (code (frame d) e n) _ rest m
          ∙ means e d n m _ (λ x after. if is_true x then follows 0 after else source.final Blocked) (right_of _ _ typed) housed placed (omega (arith, room)) (λ m' kept.
          turned (register m' (n + top e) == 0) _ _ _ _ (same_final Blocked)
          (sets d n (n + (top e + 1)) 0 m m' rest follows (omega arith) room kept goes))
      means (part line t offset a) d n m rest follows typed housed placed room goes =
          let free = housed_room sizes edge heap d (size_of a) (structure_temporaries a) housed in
          let inner = test_most (offset + bytes t) (size_of a) (left_of _ _ typed) in
          split (structure_code (frame (d + 1)) a n d 0) _ rest m
          ∙ structure_means a (d + 1) n d 0 m _ (λ value. follows (number_at t offset value)) (right_of _ _ typed) (housed_under sizes edge heap d (size_of a) (structure_temporaries a) housed) (placed_deeper d m free.there placed)
          (omega (arith, placed.deep)) (omega arith) (omega (arith, free.fits, block_size d m placed d)) (omega (arith, room)) (λ m1 value long filled.
          sets d n (n + structure_registers a) (read_variable m1.blocks d offset t) m m1 rest follows (omega arith) room (filled-kept edge d n 0 value m m1 filled) goes
          ∙ (λ i. follows (number_at t offset (filled.filled i)) (shown m1))
          ∙ ap (λ x. follows x (shown m1)) (number_of_front t offset value (block_of m.blocks d) (omega (arith, inner, long))))
      means (discard line e) d n m rest follows typed housed placed room goes =
          split (code (frame d) e n) _ rest m
          ∙ means e d n m _ (λ x. follows 0) (right_of _ _ typed) housed placed (omega (arith, room)) (λ m' kept.
          sets d n (n + (top e + 1)) 0 m m' rest follows (omega arith) room kept goes)
      means (discard_structure a) d n m rest follows typed housed placed room goes =
          let free = housed_room sizes edge heap d (size_of a) (structure_temporaries a) housed in
          split (structure_code (frame (d + 1)) a n d 0) _ rest m
          ∙ structure_means a (d + 1) n d 0 m _ (λ value. follows 0) typed (housed_under sizes edge heap d (size_of a) (structure_temporaries a) housed) (placed_deeper d m free.there placed)
          (omega (arith, placed.deep)) (omega arith) (omega (arith, free.fits, block_size d m placed d)) (omega (arith, room)) (λ m1 value long filled.
          sets d n (n + structure_registers a) 0 m m1 rest follows (omega arith) room (filled-kept edge d n 0 value m m1 filled) goes)
      means (call line f used t args) d n m rest follows typed housed placed room goes =
          let count = argument_count args in
          let size = value_size t in
          let into = d + count in
          let deep = d + (count + 1) in
          let r = n + arguments_registers args in
          let found = found_as (given_as t) (slice_get functions f) (right_of _ _ (left_of _ _ typed)) in
          let g = found.0 in
          let parameters : parameters_of (slice_get functions f) ≡ g.parameters = ap parameters_of found.1 in
          let fitting : are_arguments known g.parameters args ≡ true = (λ i. are_arguments known (sym parameters i) args) ∙ right_of _ _ typed in
          let many : count ≡ length g.parameters = argument_total g.parameters args fitting in
          let inner = call_temporaries args size d (housed_behind sizes edge heap d size (under_all (argument_sizes args) (under size (arguments_temporaries args))) housed) in
          let free = inner.1 in
          let placed_in : Placed deep m = placed_at d deep m (omega (arith, placed.deep)) (omega (arith, free.there)) placed in
          split (arguments_code (frame deep) args n d) (call_code (frame d) line f used size count r ++ taken_code (frame d) line t into (r + 1) ∷ []) rest m
          ∙ arguments_mean args g.parameters deep n d [] m _ (λ blocks after. meant f line blocks (received running used line (integer_of t) (λ x. follows x after))) fitting inner.2 inner.0 placed_in placed.deep (omega arith) (omega (arith, room)) (λ m1 values kept1 there.
          let placed1 = placed_kept d n m m1 placed kept1 in
          let placed_deep : Placed deep m1 = placed_at d deep m1 (omega (arith, placed.deep)) (omega (arith, free.there)) placed1 in
          let fits : size ≤ length (block_of m1.blocks into) = omega (arith, free.fits, block_size d m1 placed1 into) in
          let zero_room = housed_zeros sizes edge heap d size (under_all (argument_sizes args) (under size (arguments_temporaries args))) housed in
          let m2 : Memory = written m1 into 0 (zeros size) in
          let wide : into < length m1.blocks = block_there deep m1 placed_deep into (omega arith) in
          let filled : Filled edge (into + 1) n into 0 (zeros size) m1 m2 = filled-put edge (into + 1) n into 0 (zeros size) m1 wide (omega (arith, zeros_length size, fits)) in
          let kept2 : Kept edge d n m m2 = kept-then edge d n n m m1 m2 (omega arith) kept1 (kept_lower into d n m1 m2 (omega arith) (filled-kept edge into n 0 (zeros size) m1 m2 filled)) in
          let same : shown m2 ≡ shown m1 = shown_other m1 into 0 (zeros size) (omega (arith, placed.deep)) in
          call_does line f used size count d r g values m1 (taken_code (frame d) line t into (r + 1) ∷ []) rest (received running used line (integer_of t) (λ x. follows x (shown m1))) found.1 (subst Callable (sym found.2) (number_callable t)) there many placed.deep placed_deep zero_room fits (λ given is.
          (λ i. begin (on (use_code (frame d) line used r ++ taken_code (frame d) line t into (r + 1) ∷ []) rest) (flat.received m2 into r (handed (found.2 i) given)))
          ∙ taken_means line used t d n into r (block_of m1.blocks into) m m2 rest follows given (subst (λ (gives : Option PassedType). IsGiven gives given) found.2 is) kept2 (omega arith) (omega (arith, room)) (omega (arith, placed.deep)) (omega arith)
          (omega (arith, wide, length-set m1.blocks into (put_at 0 (zeros size) (block_of m1.blocks into)))) (filled.filled) fits (goes-at d n m rest (r + 1) (n + (arguments_registers args + 1)) follows (omega arith) goes)
          ∙ (λ i. received running used line (integer_of t) (λ x. follows x (same i)) given)))
      means (function_name line) d n m rest follows typed housed placed room goes =
          sets d n n 0 m m rest follows (omega arith) (omega (arith, room)) (kept-refl edge d n m) (goes-at d n m rest n (n + 0) follows (omega arith) goes)
      means (size_of_value line bits e) d n m rest follows typed housed placed room goes =
          sets d n n bits m m rest follows (omega arith) (omega (arith, room)) (kept-refl edge d n m) (goes-at d n m rest n (n + 0) follows (omega arith) goes)
      means (size_of_structure line bits a) d n m rest follows typed housed placed room goes =
          sets d n n bits m m rest follows (omega arith) (omega (arith, room)) (kept-refl edge d n m) (goes-at d n m rest n (n + 0) follows (omega arith) goes)
      means (address line x) d n m rest follows typed housed placed room goes = place_means x 0 d n m rest follows (right_of _ _ typed) housed placed room goes
      means (sum line a e i false) d n m rest follows typed housed placed room goes =
          pointer_first false line d n (top a) (top e) (code (frame d) a n) (code (frame d) e (n + (top a + 1))) (number_type e) i (eval running meant a) (eval running meant e)
          (λ m1 rest1 follows1 placed1 room1 goes1. means a d n m1 rest1 follows1 (right_of _ _ (left_of _ _ typed)) (housed_left sizes edge heap d (temporaries a) (temporaries e) housed) placed1 room1 goes1)
          (λ m1 rest1 follows1 placed1 room1 goes1. means e d (n + (top a + 1)) m1 rest1 follows1 (right_of _ _ typed) (housed_right sizes edge heap d (temporaries a) (temporaries e) housed) placed1 room1 goes1)
          m rest follows placed room goes
      means (sum line a e i true) d n m rest follows typed housed placed room goes =
          pointer_last false line d n (top a) (top e) (code (frame d) a (n + (top e + 1))) (code (frame d) e n) (number_type e) i (eval running meant a) (eval running meant e)
          (λ m1 rest1 follows1 placed1 room1 goes1. means a d (n + (top e + 1)) m1 rest1 follows1 (right_of _ _ (left_of _ _ typed)) (housed_left sizes edge heap d (temporaries a) (temporaries e) housed) placed1 room1 goes1)
          (λ m1 rest1 follows1 placed1 room1 goes1. means e d n m1 rest1 follows1 (right_of _ _ typed) (housed_right sizes edge heap d (temporaries a) (temporaries e) housed) placed1 room1 goes1)
          m rest follows placed room goes
      means (distance line a b i) d n m rest follows typed housed placed room goes =
          let second = n + (top a + 1) in
          let p = n + top a in
          let q = second + top b in
          split (code (frame d) a n) _ rest m
          ∙ means a d n m _ (λ x after. eval running meant b after (λ y last. source.unless_apart running x y line (follows (elements_between x y i) last))) (right_of _ _ (left_of _ _ typed)) (housed_left sizes edge heap d (temporaries a) (temporaries b) housed) placed (omega (arith, room)) (λ m1 kept1.
          split (code (frame d) b second) _ rest m1
          ∙ means b d second m1 _ (λ y last. source.unless_apart running (register m1 p) y line (follows (elements_between (register m1 p) y i) last)) (right_of _ _ typed) (housed_right sizes edge heap d (temporaries a) (temporaries b) housed) (placed_kept d n m m1 placed kept1) (omega (arith, room, kept1.room)) (λ m2 kept2.
          ranging (object_of (register m2 p) == object_of (register m2 q)) Pointer line _ _ (λ same.
          sets d n (q + 1) (elements_between (register m2 p) (register m2 q) i) m m2 rest follows (omega arith) (omega (arith, room)) (kept-then edge d n second m m1 m2 (omega arith) kept1 kept2) (goes-at d n m rest (q + 1) (n + (top a + (top b + 2))) follows (omega arith) goes))
          ∙ (λ j. source.unless_apart running (kept2.below p (omega arith) j) (register m2 q) line (follows (elements_between (kept2.below p (omega arith) j) (register m2 q) i) (shown m2)))))
      means (relation line op a b) d n m rest follows typed housed placed room goes =
          let second = n + (top a + 1) in
          let p = n + top a in
          let q = second + top b in
          split (code (frame d) a n) _ rest m
          ∙ means a d n m _ (λ x after. eval running meant b after (λ y last. source.unless_apart running x y line (follows (truth_bits (compared op types.UnsignedLong (offset_of x) (offset_of y))) last))) (right_of _ _ (left_of _ _ typed)) (housed_left sizes edge heap d (temporaries a) (temporaries b) housed) placed (omega (arith, room)) (λ m1 kept1.
          split (code (frame d) b second) _ rest m1
          ∙ means b d second m1 _ (λ y last. source.unless_apart running (register m1 p) y line (follows (truth_bits (compared op types.UnsignedLong (offset_of (register m1 p)) (offset_of y))) last)) (right_of _ _ typed) (housed_right sizes edge heap d (temporaries a) (temporaries b) housed) (placed_kept d n m m1 placed kept1) (omega (arith, room, kept1.room)) (λ m2 kept2.
          ranging (object_of (register m2 p) == object_of (register m2 q)) Pointer line _ _ (λ same.
          sets d n (q + 1) (truth_bits (compared op types.UnsignedLong (offset_of (register m2 p)) (offset_of (register m2 q)))) m m2 rest follows (omega arith) (omega (arith, room)) (kept-then edge d n second m m1 m2 (omega arith) kept1 kept2) (goes-at d n m rest (q + 1) (n + (top a + (top b + 2))) follows (omega arith) goes))
          ∙ (λ j. source.unless_apart running (kept2.below p (omega arith) j) (register m2 q) line (follows (truth_bits (compared op types.UnsignedLong (offset_of (kept2.below p (omega arith) j)) (offset_of (register m2 q)))) (shown m2)))))
      means (pointer_update line x i e) d n m rest follows typed housed placed room goes =
          let k = n + held x in
          let p = k + (top e + 1) in
          let t = number_type e in
          let there = right_of _ _ (left_of _ _ typed) in
          let inner = housed_right sizes edge heap d (temporaries e) (place_temporaries types.UnsignedLong x) housed in
          let fits = fits_place x 8 there in
          let number_housed = housed_right sizes edge heap d (way_temporaries x) (number_temporaries types.UnsignedLong x) inner in
          split (if_evaluated (reached x) (place_code (frame d) x n)) _ rest m
          ∙ holding_by x d n m _ (λ at after. eval running meant e after (λ y last. pointer_updated (source.variable_of running x) at (place_line x) line t i y last (λ old q. follows q))) (λ m0 rest0 follows0 placed0 room0 goes0. place_means x 8 d n m0 rest0 follows0 there (housed_left sizes edge heap d (way_temporaries x) (number_temporaries types.UnsignedLong x) inner) placed0 room0 goes0) placed (omega (arith, room)) (λ m1 at kept1 is.
          split (code (frame d) e k) _ rest m1
          ∙ means e d k m1 _ (λ y last. pointer_updated (source.variable_of running x) at (place_line x) line t i y last (λ old q. follows q)) (right_of _ _ typed) (housed_left sizes edge heap d (temporaries e) (place_temporaries types.UnsignedLong x) housed) (placed_kept d n m m1 placed kept1) (omega (arith, room, kept1.room)) (λ m2 kept2.
          let kept : Kept edge d n m m2 = kept-then edge d n k m m1 m2 (omega arith) kept1 kept2 in
          pointer_updating (place_line x) line d n p (k + top e) (n + place_top x) at t i (reached x) m m2 rest (λ old q. follows q) fits number_housed placed kept (omega arith) (omega arith) (λ ev. omega (arith, held_below x n ev)) (omega (arith, room)) (at_still (reached x) k (n + place_top x) at m1 m2 (held_below x n) kept2.below is) (λ m3 kept3.
          goes-at d n m rest (p + 2) (n + (held x + (top e + 3))) follows (omega arith) goes m3 kept3)
          ∙ (λ j. pointer_updated (sym (same_holder x) j) at (place_line x) line t i (register m2 (k + top e)) (shown m2) (λ old q. follows q))))
      means (pointer_step line x i before) d n m rest follows typed housed placed room goes =
          let k = n + held x in
          let p = k + 1 in
          let there = right_of _ _ typed in
          let fits = fits_place x 8 there in
          let number_housed = housed_right sizes edge heap d (way_temporaries x) (number_temporaries types.UnsignedLong x) housed in
          let last : List Instruction = at_line (frame d) line (operations.Copy (k + 4) (if before then k + 3 else k + 1)) ∷ [] in
          split (if_evaluated (reached x) (place_code (frame d) x n)) _ rest m
          ∙ holding_by x d n m _ (λ at after. source.reads_number running types.UnsignedLong x at after (λ p. source.moves running false p (pos 1) i line (λ q. source.writes_number running types.UnsignedLong x at line q after (follows (if before then q else p))))) (λ m0 rest0 follows0 placed0 room0 goes0. place_means x 8 d n m0 rest0 follows0 there (housed_left sizes edge heap d (way_temporaries x) (number_temporaries types.UnsignedLong x) housed) placed0 room0 goes0) placed (omega (arith, room)) (λ m1 at kept1 is.
          let m2 : Memory = with_register m1 k 1 in
          let kept2 : Kept edge d n m m2 = kept-then edge d n n m m1 m2 (omega arith) kept1 (kept-set edge d n k m1 1 (omega arith)) in
          let one : register m2 k ≡ 1 = set_same m1 k 1 (omega (arith, room, kept1.room)) in
          (let two : k + 2 ≡ p + 1 = omega arith in
          let three : k + 3 ≡ p + 2 = omega arith in
          λ j. begin (on (read_code (frame d) (place_line x) p types.UnsignedLong (reached x) (n + place_top x) ++ (move_code (frame d) false line p k types.Int i (two j) ++ (write_code (frame d) line types.UnsignedLong (reached x) (n + place_top x) (three j) ++ last))) rest) m2)
          ∙ joined_update (place_line x) line d p k (n + place_top x) types.Int i (reached x) last rest m2
          ∙ pointer_updating (place_line x) line d n p k (n + place_top x) at types.Int i (reached x) m m2 (on last rest) (λ old q. follows (if before then q else old)) fits number_housed placed kept2 (omega arith) (omega arith) (λ ev. omega (arith, held_below x n ev)) (omega (arith, room)) (at_still (reached x) k (n + place_top x) at m1 m2 (held_below x n) (λ r lt. set_other m1 k 1 r (λ e. omega (arith, e, lt))) is) (λ m3 kept3.
          sets d n (k + 4) (register m3 (if before then k + 3 else k + 1)) m m3 rest follows (omega arith) (omega (arith, room)) kept3 (goes-at d n m rest (k + 4) (n + (held x + 4)) follows (omega arith) goes)
          ∙ ap (λ z. follows z (shown m3)) (chosen before (register m3) (k + 3) (k + 1) (p + 2) (register m3 p) (omega arith) refl))
          ∙ (λ j. pointer_updated (sym (same_holder x) j) at (place_line x) line types.Int i (one j) (shown m1) (λ old q. follows (if before then q else old)))
          ∙ (λ j. source.reads running (source.variable_of running x) at 8 (place_line x) (shown m1) (λ found.
          let old = number_of types.UnsignedLong found in
          source.moves running false old (one_step j) i line (λ q. source.writes running (source.variable_of running x) at (low_bytes 8 q) line (shown m1) (follows (if before then q else old))))))
      means (allocate line e) d n m rest follows typed housed placed room goes =
          let y = n + top e in
          let b = y + 1 in
          let one = y + 2 in
          let r = y + 3 in
          let granted : List Instruction = at_line (frame d) line (operations.Constant one 1) ∷ at_line (frame d) line (operations.Limit y one) ∷ at_line (frame d) line (operations.Fill heap y) ∷ at_line (frame d) line (operations.Alloc r heap y false true) ∷ [] in
          let goes_r : Goes d n m rest r follows = goes-at d n m rest r (n + (top e + 3)) follows (omega arith) goes in
          split (code (frame d) e n) _ rest m
          ∙ means e d n m _ (λ size after. source.mallocs running size line (λ p. follows p after)) (right_of _ _ typed) (housed_making sizes edge heap d (temporaries e) housed) placed (omega (arith, room)) (λ m1 kept1.
          granting line d n b r granted m m1 rest follows (source.grants running (register m1 y) line (λ p. follows p (shown m1))) (omega arith) (omega arith) (omega (arith, room)) (omega (arith, room)) kept1 goes_r (λ x.
          let m2 : Memory = with_register (with_register m1 b x) one 1 in
          let kept2 : Kept edge d n m m2 = kept-then edge d n n m m1 m2 (omega arith) kept1 (kept-then edge d n n m1 (with_register m1 b x) m2 (omega arith) (kept-set edge d n b m1 x (omega arith)) (kept-set edge d n one (with_register m1 b x) 1 (omega arith))) in
          let size : register m2 y ≡ register m1 y = set_other (with_register m1 b x) one 1 y (λ e. omega (arith, e)) ∙ set_other m1 b x y (λ e. omega (arith, e)) in
          let one_is : register m2 one ≡ 1 = set_same (with_register m1 b x) one 1 (omega (arith, room, kept1.room, set_room m1 b x)) in
          let times : register m1 y * 1 ≡ register m1 y = omega arith in
          let limit : nat_le (register m2 y * register m2 one) limits.malloc_limit ≡ nat_le (register m1 y) running.malloc_limit = (λ j. nat_le (size j * one_is j) (sound.bounded j)) ∙ (λ j. nat_le (times j) running.malloc_limit) in
          let placed2 = placed_kept d n m m2 placed kept2 in
          ranging (nat_le (register m2 y * register m2 one) limits.malloc_limit) MallocLimit line _ _ (λ small.
          granted_malloc line d n r y (register m1 y) m m2 rest follows (omega arith) (omega (arith, room)) placed2 (housed_heap sizes edge heap d (temporaries e) housed) (test_most (register m1 y) running.malloc_limit (sym limit ∙ small)) kept2 goes_r size)
          ∙ (λ j. if limit j then source.draws_bytes running (word_count (register m1 y)) line (register m1 y) [] (λ found. source.allocates running line found (λ p. follows p (shown m1))) else source.final (Broken MallocLimit line running.function))))
      means (allocate_zeroed line a c) d n m rest follows typed housed placed room goes =
          let p = n + top a in
          let second = n + (top a + 1) in
          let q = second + top c in
          let b = q + 1 in
          let s = q + 2 in
          let r = q + 3 in
          let granted : List Instruction = at_line (frame d) line (operations.Limit p q) ∷ at_line (frame d) line (operations.Arithmetic s arithmetics.Multiply types.UnsignedLong types.UnsignedLong p q) ∷ at_line (frame d) line (operations.Clear heap heap_bytes) ∷ at_line (frame d) line (operations.Alloc r heap s false true) ∷ [] in
          let inner = housed_making sizes edge heap d (both (temporaries a) (temporaries c)) housed in
          let goes_r : Goes d n m rest r follows = goes-at d n m rest r (n + (top a + (top c + 4))) follows (omega arith) goes in
          split (code (frame d) a n) _ rest m
          ∙ means a d n m _ (λ x after. eval running meant c after (λ y last. source.callocs running x y line (λ v. follows v last))) (right_of _ _ (left_of _ _ typed)) (housed_left sizes edge heap d (temporaries a) (temporaries c) inner) placed (omega (arith, room)) (λ m1 kept1.
          split (code (frame d) c second) _ rest m1
          ∙ means c d second m1 _ (λ y last. source.callocs running (register m1 p) y line (λ v. follows v last)) (right_of _ _ typed) (housed_right sizes edge heap d (temporaries a) (temporaries c) inner) (placed_kept d n m m1 placed kept1) (omega (arith, room, kept1.room)) (λ m2 kept2.
          let kept : Kept edge d n m m2 = kept-then edge d n second m m1 m2 (omega arith) kept1 kept2 in
          granting line d n b r granted m m2 rest follows (source.grants_zeroed running (register m2 p) (register m2 q) line (λ v. follows v (shown m2))) (omega arith) (omega arith) (omega (arith, room)) (omega (arith, room)) kept goes_r (λ x.
          let m3 : Memory = with_register m2 b x in
          let kept3 : Kept edge d n m m3 = kept-then edge d n n m m2 m3 (omega arith) kept (kept-set edge d n b m2 x (omega arith)) in
          let left : register m3 p ≡ register m2 p = set_other m2 b x p (λ e. omega (arith, e)) in
          let right : register m3 q ≡ register m2 q = set_other m2 b x q (λ e. omega (arith, e)) in
          let limit : nat_le (register m3 p * register m3 q) limits.malloc_limit ≡ nat_le (register m2 p * register m2 q) running.malloc_limit = λ j. nat_le (left j * right j) (sound.bounded j) in
          ranging (nat_le (register m3 p * register m3 q) limits.malloc_limit) MallocLimit line _ _ (λ small.
          granted_calloc line d n r s p q (register m2 p) (register m2 q) m m3 rest follows (omega arith) (omega arith) (omega (arith, room)) (omega (arith, room)) (placed_kept d n m m3 placed kept3) (housed_heap sizes edge heap d (both (temporaries a) (temporaries c)) housed) (test_most (register m2 p * register m2 q) running.malloc_limit (sym limit ∙ small)) kept3 goes_r left right)
          ∙ (λ j. if limit j then source.allocates running line (zeros (register m2 p * register m2 q)) (λ v. follows v (shown m2)) else source.final (Broken MallocLimit line running.function)))
          ∙ (λ j. source.callocs running (kept2.below p (omega arith) j) (register m2 q) line (λ v. follows v (shown m2)))))
      means (release line e) d n m rest follows typed housed placed room goes =
          let p = n + top e in
          split (code (frame d) e n) _ rest m
          ∙ means e d n m _ (λ x after. source.frees running x line (follows 0 after)) (right_of _ _ typed) housed placed (omega (arith, room)) (λ m' kept.
          choosing (register m' p == 0) _ _ _ _
          (sets d n (p + 1) 0 m m' rest follows (omega arith) (omega (arith, room)) kept (goes-at d n m rest (p + 1) (n + (top e + 1)) follows (omega arith) goes))
          (same_ask running (Free (register m' p)) line _ _ (λ j a. sets d n (p + 1) 0 m m' rest follows (omega arith) (omega (arith, room)) kept (goes-at d n m rest (p + 1) (n + (top e + 1)) follows (omega arith) goes) j)))
      means (exit line e) d n m rest follows typed housed placed room goes =
          split (code (frame d) e n) _ rest m
          ∙ means e d n m _ (λ x after. source.ends_process running line) (right_of _ _ typed) housed placed (omega (arith, room)) (λ m' kept. same_ask running Exit line _ _ (λ j a. same_final (Ended (word_64 0)) j))
      means (abort line) d n m rest follows typed housed placed room goes = same_ask running Exit line _ _ (λ j a. same_final (Ended (word_64 0)) j)

      -- the arguments of a call are put into blocks from b on
      pub arguments_mean : (args : Arguments) (ps : List PassedType) (d n b : ℕ) (so_far : List (List ℕ)) (m : Memory) (rest : Places) (follows : List (List ℕ) → Variables → Behaviour)
          → are_arguments known ps args ≡ true → Houses d (arguments_temporaries args) → HasTemporaries sizes b (argument_sizes args) → Placed d m → edge + 1 < b → b + argument_count args ≤ d
          → n + arguments_registers args ≤ length m.registers
          → ((m' : Memory) (values : List (List ℕ)) → Kept edge b n m m' → AreThere ps b values m' → begin rest m' ≡ follows (so_far ++ values) (shown m'))
          → begin (on (arguments_code (frame d) args n b) rest) m ≡ eval_arguments running meant args so_far (shown m) follows
      arguments_mean no_argument [] d n b so_far m rest follows typed housed temporaries_there placed behind free room goes =
          goes m [] (kept-refl edge b n m) tt ∙ (λ i. follows (append-nil so_far i) (shown m))
      arguments_mean no_argument (p ∷ ps) d n b so_far m rest follows typed housed temporaries_there placed behind free room goes = absurd (false≢true typed)
      arguments_mean (number_argument e args) [] d n b so_far m rest follows typed housed temporaries_there placed behind free room goes = absurd (false≢true typed)
      arguments_mean (number_argument e args) (p ∷ ps) d n b so_far m rest follows typed housed temporaries_there placed behind free room goes =
          let t = number_type e in
          let is_passed : p ≡ passed.Integer t = number_passed p (type_of e) (left_of _ _ (left_of _ _ typed)) in
          let place : b < d = omega (arith, free) in
          split (code (frame d) e n) _ rest m
          ∙ means e d n m _ (λ x after. eval_arguments running meant args (so_far ++ low_bytes (bytes t) x ∷ []) after follows) (right_of _ _ (left_of _ _ typed)) (housed_left sizes edge heap d (temporaries e) (arguments_temporaries args) housed) placed (omega (arith, room)) (λ m1 kept1.
          let new = low_bytes (bytes t) (register m1 (n + top e)) in
          let count : length new ≡ bytes t = low_count (bytes t) (register m1 (n + top e)) (few_bytes t) in
          let placed1 = placed_kept d n m m1 placed kept1 in
          let m2 : Memory = written m1 b 0 new in
          let fits : 0 + length new ≤ length (block_of m1.blocks b) = omega (arith, count, temporaries_there.0.fits, block_size d m1 placed1 b) in
          let filled : Filled edge (b + 1) n b 0 new m1 m2 = filled-put edge (b + 1) n b 0 new m1 (block_there d m1 placed1 b place) fits in
          let filled_in : Filled edge d n b 0 new m1 m2 = filled-put edge d n b 0 new m1 (block_there d m1 placed1 b place) fits in
          let placed2 : Placed d m2 = placed_filled d n b 0 new m1 m2 placed1 (omega (arith, behind)) filled_in in
          let kept2 : Kept edge b n m m2 = kept-then edge b n n m m1 m2 (omega arith) (kept_lower d b n m m1 (omega (arith, place)) kept1) (filled-kept edge b n 0 new m1 m2 filled) in
          arguments_mean args ps d (n + (top e + 1)) (b + 1) (so_far ++ new ∷ []) m2 rest follows (right_of _ _ typed) (housed_right sizes edge heap d (temporaries e) (arguments_temporaries args) housed) temporaries_there.1 placed2 (omega (arith, behind)) (omega (arith, free)) (omega (arith, room, kept2.room)) (λ m3 values kept3 there.
          let kept : Kept edge b n m m3 = kept-then edge b n (n + (top e + 1)) m m2 m3 (omega arith) kept2 (kept_lower (b + 1) b (n + (top e + 1)) m2 m3 (omega arith) kept3) in
          let held : block_of m3.blocks b ≡ put_at 0 new (block_of m1.blocks b) = kept3.held b (omega (arith, behind)) (omega arith) ∙ filled_in.filled in
          let size : passed_size p ≡ bytes t = ap passed_size is_passed in
          let first : take (passed_size p) (block_of m3.blocks b) ≡ new = (λ i. take (size i) (drop 0 (held i))) ∙ taken_back 0 (bytes t) new (block_of m1.blocks b) count (omega arith) in
          goes m3 (new ∷ values) kept (first, count ∙ sym size, there) ∙ sym (λ i. follows (append_assoc so_far (new ∷ []) values i) (shown m3)))
          ∙ (λ i. eval_arguments running meant args (so_far ++ new ∷ []) (shown_other m1 b 0 new (omega (arith, behind)) i) follows))
      arguments_mean (structure_argument a args) [] d n b so_far m rest follows typed housed temporaries_there placed behind free room goes = absurd (false≢true typed)
      arguments_mean (structure_argument a args) (p ∷ ps) d n b so_far m rest follows typed housed temporaries_there placed behind free room goes =
          let is_passed : p ≡ passed.Structure (size_of a) = structure_passed p (size_of a) (left_of _ _ (left_of _ _ typed)) in
          let place : b < d = omega (arith, free) in
          split (structure_code (frame d) a n b 0) _ rest m
          ∙ structure_means a d n b 0 m _ (λ value after. eval_arguments running meant args (so_far ++ value ∷ []) after follows) (right_of _ _ (left_of _ _ typed)) (housed_left sizes edge heap d (structure_temporaries a) (arguments_temporaries args) housed) placed (omega (arith, behind)) place
          (omega (arith, temporaries_there.0.fits, block_size d m placed b)) (omega (arith, room)) (λ m1 value long filled.
          let placed1 : Placed d m1 = placed_filled d n b 0 value m m1 placed (omega (arith, behind)) filled in
          let kept1 : Kept edge b n m m1 = filled_lower d b n 0 value m m1 (omega (arith, place)) filled in
          arguments_mean args ps d (n + structure_registers a) (b + 1) (so_far ++ value ∷ []) m1 rest follows (right_of _ _ typed) (housed_right sizes edge heap d (structure_temporaries a) (arguments_temporaries args) housed) temporaries_there.1 placed1 (omega (arith, behind)) (omega (arith, free)) (omega (arith, room, kept1.room)) (λ m2 values kept2 there.
          let kept : Kept edge b n m m2 = kept-then edge b n (n + structure_registers a) m m1 m2 (omega arith) kept1 (kept_lower (b + 1) b (n + structure_registers a) m1 m2 (omega arith) kept2) in
          let held : block_of m2.blocks b ≡ put_at 0 value (block_of m.blocks b) = kept2.held b (omega (arith, behind)) (omega arith) ∙ filled.filled in
          let size : passed_size p ≡ size_of a = ap passed_size is_passed in
          let first : take (passed_size p) (block_of m2.blocks b) ≡ value = (λ i. take (size i) (drop 0 (held i))) ∙ taken_back 0 (size_of a) value (block_of m.blocks b) long (omega arith) in
          goes m2 (value ∷ values) kept (first, long ∙ sym size, there) ∙ sym (λ i. follows (append_assoc so_far (value ∷ []) values i) (shown m2))))

      -- the code of a structure value puts its bytes where they are wanted
      pub structure_means : (a : Structure) (d n into to : ℕ) (m : Memory) (rest : Places) (follows : FollowsBytes)
          → is_structure known a ≡ true → Houses d (structure_temporaries a) → Placed d m → edge < into → into < d → to + size_of a ≤ length (block_of m.blocks into)
          → n + structure_registers a ≤ length m.registers → GoesInto d n m rest into to (size_of a) follows
          → begin (on (structure_code (frame d) a n into to) rest) m ≡ eval_structure running meant a (shown m) follows
      structure_means (copy x size) d n into to m rest follows typed housed placed behind free fits room goes =
          split (if_evaluated (reached x) (place_code (frame d) x n)) _ rest m
          ∙ holding_by x d n m _ (λ at after. source.reads running (source.variable_of running x) at size (place_line x) after (λ value. follows value after)) (λ m0 rest0 follows0 placed0 room0 goes0. place_means x size d n m0 rest0 follows0 typed housed placed0 room0 goes0) placed room (λ m1 at kept1 is.
          fetching (place_line x) size d n into to (n + place_top x) at (reached x) m1 rest follows (fits_place x size typed) (placed_kept d n m m1 placed kept1) behind free (omega (arith, fits, kept_size d n m m1 placed kept1 into)) is
          (λ m2 value long filled. goes m2 value long (kept-filled edge d n n into to value m m1 m2 (omega arith) (omega (arith, behind)) free kept1 filled))
          ∙ (λ j. source.reads running (sym (same_holder x) j) at size (place_line x) (shown m1) (λ value. follows value (shown m1))))
      structure_means (choose line test a b) d n into to m rest follows typed housed placed behind free fits room goes =
          let first = n + (top test + 1) in
          let second = first + structure_registers a in
          let yes_code = structure_code (frame d) a first into to in
          let no_code = structure_code (frame d) b second into to in
          let ways = housed_right sizes edge heap d (temporaries test) (both (structure_temporaries a) (structure_temporaries b)) housed in
          let same = test_equal (size_of a) (size_of b) (right_of _ _ (left_of _ _ (left_of _ _ (left_of _ _ typed)))) in
          split (code (frame d) test n) _ rest m
          ∙ means test d n m _ (λ x after. if is_true x then eval_structure running meant a after follows else eval_structure running meant b after follows) (right_of _ _ (left_of _ _ (left_of _ _ typed))) (housed_left sizes edge heap d (temporaries test) (both (structure_temporaries a) (structure_temporaries b)) housed) placed (omega (arith, room)) (λ m1 kept1.
          turned (register m1 (n + top test) == 0) _ _ _ _
          (past yes_code _ rest 1 m1
          ∙ structure_means b d second into to m1 rest follows (right_of _ _ typed) (housed_right sizes edge heap d (structure_temporaries a) (structure_temporaries b) ways) (placed_kept d n m m1 placed kept1) behind free (omega (arith, fits, same, kept_size d n m m1 placed kept1 into)) (omega (arith, room, kept1.room)) (λ m2 value long filled.
          goes m2 value (omega (arith, long, same)) (kept-filled edge d n second into to value m m1 m2 (omega arith) (omega (arith, behind)) free kept1 filled)))
          (split yes_code _ rest m1
          ∙ structure_means a d first into to m1 _ follows (right_of _ _ (left_of _ _ typed)) (housed_left sizes edge heap d (structure_temporaries a) (structure_temporaries b) ways) (placed_kept d n m m1 placed kept1) behind free (omega (arith, fits, kept_size d n m m1 placed kept1 into)) (omega (arith, room, kept1.room)) (λ m2 value long filled.
          past_all no_code rest m2
          ∙ goes m2 value long (kept-filled edge d n first into to value m m1 m2 (omega arith) (omega (arith, behind)) free kept1 filled))))
      structure_means (put line x a) d n into to m rest follows typed housed placed behind free fits room goes =
          let k = n + held x in
          let there = left_of _ _ typed in
          split (if_evaluated (reached x) (place_code (frame d) x n)) _ rest m
          ∙ holding_by x d n m _ (λ at after. eval_structure running meant a after (λ value last. source.writes running (source.variable_of running x) at value line last (follows value))) (λ m0 rest0 follows0 placed0 room0 goes0. place_means x (size_of a) d n m0 rest0 follows0 there (housed_right sizes edge heap d (structure_temporaries a) (way_temporaries x) housed) placed0 room0 goes0) placed (omega (arith, room)) (λ m1 at kept1 is.
          split (structure_code (frame d) a k into to) _ rest m1
          ∙ structure_means a d k into to m1 _ (λ value last. source.writes running (source.variable_of running x) at value line last (follows value)) (right_of _ _ typed) (housed_left sizes edge heap d (structure_temporaries a) (way_temporaries x) housed) (placed_kept d n m m1 placed kept1) behind free (omega (arith, fits, kept_size d n m m1 placed kept1 into)) (omega (arith, room, kept1.room)) (λ m2 value long filled.
          let all : Filled edge d n into to value m m2 = kept-filled edge d n k into to value m m1 m2 (omega arith) (omega (arith, behind)) free kept1 filled in
          putting line (size_of a) d n into to (n + place_top x) at (reached x) value m m2 rest follows (fits_place x (size_of a) there) placed behind free fits long all (at_still (reached x) k (n + place_top x) at m1 m2 (held_below x n) filled.below is) goes
          ∙ (λ j. source.writes running (sym (same_holder x) j) at value line (shown m2) (follows value))))
      structure_means (follow line e a) d n into to m rest follows typed housed placed behind free fits room goes =
          split (code (frame d) e n) _ rest m
          ∙ means e d n m _ (λ x after. eval_structure running meant a after follows) (left_of _ _ typed) (housed_left sizes edge heap d (temporaries e) (structure_temporaries a) housed) placed (omega (arith, room)) (λ m1 kept1.
          structure_means a d (n + (top e + 1)) into to m1 rest follows (right_of _ _ typed) (housed_right sizes edge heap d (temporaries e) (structure_temporaries a) housed) (placed_kept d n m m1 placed kept1) behind free (omega (arith, fits, kept_size d n m m1 placed kept1 into)) (omega (arith, room, kept1.room)) (λ m2 value long filled.
          goes m2 value long (kept-filled edge d n (n + (top e + 1)) into to value m m1 m2 (omega arith) (omega (arith, behind)) free kept1 filled)))
      structure_means (section line offset size a) d n into to m rest follows typed housed placed behind free fits room goes =
          let block = housed_room sizes edge heap d (size_of a) (structure_temporaries a) housed in
          let inner = test_most (offset + size) (size_of a) (left_of _ _ typed) in
          split (structure_code (frame (d + 1)) a n d 0) _ rest m
          ∙ structure_means a (d + 1) n d 0 m _ (λ value. follows (take size (drop offset value))) (right_of _ _ typed) (housed_under sizes edge heap d (size_of a) (structure_temporaries a) housed) (placed_deeper d m block.there placed)
          (omega (arith, placed.deep)) (omega arith) (omega (arith, block.fits, block_size d m placed d)) room (λ m1 value long filled.
          let part_of = take size (drop offset value) in
          let new = take size (drop offset (block_of m1.blocks d)) in
          let same : new ≡ part_of = (λ i. take size (drop offset (filled.filled i))) ∙ part_of_front offset size value (block_of m.blocks d) (omega (arith, inner, long)) in
          let part_size : length part_of ≡ size = part_long offset size value (omega (arith, inner, long)) in
          let kept = filled-kept edge d n 0 value m m1 filled in
          let there : to + length part_of ≤ length (block_of m1.blocks into) = omega (arith, fits, part_size, kept_size d n m m1 placed kept into) in
          let done : Filled edge d n into to part_of m (written m1 into to part_of) =
          kept-filled edge d n n into to part_of m m1 (written m1 into to part_of) (omega arith) (omega (arith, behind)) free kept (filled-put edge d n into to part_of m1 (block_there d m1 (placed_kept d n m m1 placed kept) into free) there) in
          (λ i. begin rest (written m1 into to (same i)))
          ∙ goes (written m1 into to part_of) part_of part_size done
          ∙ ap (follows part_of) (shown_other m1 into to part_of (omega (arith, behind))))
      structure_means (list line size ps) d n into to m rest follows typed housed placed behind free fits room goes =
          let new = take size (drop 0 (block_of m.blocks edge)) in
          let zero : new ≡ zeros size = (λ i. take size (placed.clean i)) ∙ some_zeros size (slice_index sizes edge) (housed_zeros sizes edge heap d size (parts_temporaries ps) housed) in
          let start = filled-put edge d n into to (zeros size) m (block_there d m placed into free) (omega (arith, fits, zeros_length size)) in
          let m1 : Memory = written m into to (zeros size) in
          (λ i. begin (on (parts_code (frame d) line ps n into to) rest) (written m into to (zero i)))
          ∙ parts_mean ps line d n into to size n (zeros size) m m1 rest follows (right_of _ _ typed) (housed_behind sizes edge heap d size (parts_temporaries ps) housed) (placed_filled d n into to (zeros size) m m1 placed behind start) behind free (zeros_length size) fits (omega arith) room start goes
          ∙ (λ i. eval_parts running meant ps (zeros size) (shown_other m into to (zeros size) (omega (arith, behind)) i) follows)
      structure_means (string line size text) d n into to m rest follows typed housed placed behind free fits room goes =
          let new = take size (drop 0 (block_of m.blocks edge)) in
          let zero : new ≡ zeros size = (λ i. take size (placed.clean i)) ∙ some_zeros size (slice_index sizes edge) (housed_zeros sizes edge heap d size no_temporaries housed) in
          let start = filled-put edge d n into to (zeros size) m (block_there d m placed into free) (omega (arith, fits, zeros_length size)) in
          let m1 : Memory = written m into to (zeros size) in
          let few = test_most (length text) size (right_of _ _ (left_of _ _ typed)) in
          (λ i. begin (on (text_code (frame d) line text n into to) rest) (written m into to (zero i)))
          ∙ text_means text line d n into to size 0 to (zeros size) m m1 rest follows (right_of _ _ typed) (omega arith) (placed_filled d n into to (zeros size) m m1 placed behind start) behind free (zeros_length size) fits (omega (arith, few)) (omega (arith, room)) start goes
          ∙ (λ i. follows (put_at 0 text (zeros size)) (shown_other m into to (zeros size) (omega (arith, behind)) i))
      structure_means (give line f used size args) d n into to m rest follows typed housed placed behind free fits room goes =
          let count = argument_count args in
          let b = d + count in
          let deep = d + (count + 1) in
          let r = n + arguments_registers args in
          let found = found_as (Some (passed.Structure size)) (slice_get functions f) (right_of _ _ (left_of _ _ typed)) in
          let g = found.0 in
          let parameters : parameters_of (slice_get functions f) ≡ g.parameters = ap parameters_of found.1 in
          let fitting : are_arguments known g.parameters args ≡ true = (λ i. are_arguments known (sym parameters i) args) ∙ right_of _ _ typed in
          let many : count ≡ length g.parameters = argument_total g.parameters args fitting in
          let inner = call_temporaries args size d (housed_behind sizes edge heap d size (under_all (argument_sizes args) (under size (arguments_temporaries args))) housed) in
          let last = inner.1 in
          let placed_in : Placed deep m = placed_at d deep m (omega (arith, placed.deep)) (omega (arith, last.there)) placed in
          let copy_code : List Instruction = at_line (frame d) line (operations.CopyBytes into to b 0 size) ∷ [] in
          split (arguments_code (frame deep) args n d) (call_code (frame d) line f used size count r ++ copy_code) rest m
          ∙ arguments_mean args g.parameters deep n d [] m _ (λ blocks after. meant f line blocks (received_structure running used size line (λ value. follows value after))) fitting inner.2 inner.0 placed_in placed.deep (omega arith) (omega (arith, room)) (λ m1 values kept1 there.
          let placed1 = placed_kept d n m m1 placed kept1 in
          let placed_deep : Placed deep m1 = placed_at d deep m1 (omega (arith, placed.deep)) (omega (arith, last.there)) placed1 in
          let room1 : size ≤ length (block_of m1.blocks b) = omega (arith, last.fits, block_size d m1 placed1 b) in
          let zero_room = housed_zeros sizes edge heap d size (under_all (argument_sizes args) (under size (arguments_temporaries args))) housed in
          let m2 : Memory = written m1 b 0 (zeros size) in
          let wide : b < length m1.blocks = block_there deep m1 placed_deep b (omega arith) in
          let filled : Filled edge (b + 1) n b 0 (zeros size) m1 m2 = filled-put edge (b + 1) n b 0 (zeros size) m1 wide (omega (arith, zeros_length size, room1)) in
          let kept2 : Kept edge d n m m2 = kept-then edge d n n m m1 m2 (omega arith) kept1 (kept_lower b d n m1 m2 (omega arith) (filled-kept edge b n 0 (zeros size) m1 m2 filled)) in
          let same : shown m2 ≡ shown m1 = shown_other m1 b 0 (zeros size) (omega (arith, placed.deep)) in
          call_does line f used size count d r g values m1 copy_code rest (received_structure running used size line (λ value. follows value (shown m1))) found.1 (subst Callable (sym found.2) (test_less size (2 ^ 31) (left_of _ _ (left_of _ _ typed)))) there many placed.deep placed_deep zero_room room1 (λ given is.
          (λ i. begin (on (use_code (frame d) line used r ++ copy_code) rest) (flat.received m2 b r (handed (found.2 i) given)))
          ∙ structure_taken line used size d n into to b r (block_of m1.blocks b) m m2 rest follows given (subst (λ (gives : Option PassedType). IsGiven gives given) found.2 is) placed kept2 (omega arith) (omega (arith, room)) behind free (omega arith)
          (omega (arith, wide, length-set m1.blocks b (put_at 0 (zeros size) (block_of m1.blocks b)))) filled.filled room1 fits goes
          ∙ (λ i. received_structure running used size line (λ value. follows value (same i)) given)))

      -- the parts of an initializer, over the bytes so far
      pub parts_mean : (ps : Parts) (line d n into to size from : ℕ) (value : List ℕ) (m0 m : Memory) (rest : Places) (follows : FollowsBytes)
          → are_parts known size ps ≡ true → Houses d (parts_temporaries ps) → Placed d m → edge < into → into < d
          → length value ≡ size → to + size ≤ length (block_of m0.blocks into) → from ≤ n → n + parts_registers ps ≤ length m.registers
          → Filled edge d from into to value m0 m → GoesInto d from m0 rest into to size follows
          → begin (on (parts_code (frame d) line ps n into to) rest) m ≡ eval_parts running meant ps value (shown m) follows
      parts_mean no_part line d n into to size from value m0 m rest follows typed housed placed behind free long fits above room so_far goes = goes m value long so_far
      parts_mean (number_part offset e others) line d n into to size from value m0 m rest follows typed housed placed behind free long fits above room so_far goes =
          let t = number_type e in
          let inner = number_within size offset (type_of e) (left_of _ _ (left_of _ _ typed)) in
          split (code (frame d) e n) _ rest m
          ∙ means e d n m _ (λ x after. eval_parts running meant others (put_at offset (low_bytes (bytes t) x) value) after follows) (right_of _ _ (left_of _ _ typed)) (housed_left sizes edge heap d (temporaries e) (parts_temporaries others) housed) placed (omega (arith, room)) (λ m1 kept1.
          let new = low_bytes (bytes t) (register m1 (n + top e)) in
          let count = low_count (bytes t) (register m1 (n + top e)) (few_bytes t) in
          let m2 : Memory = written m1 into (to + offset) new in
          let placed1 = placed_kept d n m m1 placed kept1 in
          let size1 = block_kept d from into to value m0 m so_far in
          let there : to + offset + length new ≤ length (block_of m1.blocks into) = omega (arith, inner, count, fits, size1, kept_size d n m m1 placed kept1 into) in
          let one = kept-filled edge d n n into (to + offset) new m m1 m2 (omega arith) (omega (arith, behind)) free kept1 (filled-put edge d n into (to + offset) new m1 (block_there d m1 placed1 into free) there) in
          let now : Filled edge d from into to (put_at offset new value) m0 m2 = filled-within edge d from n into to offset value new m0 m m2 above (omega (arith, inner, count, long)) (omega (arith, long, fits)) so_far one in
          parts_mean others line d (n + (top e + 1)) into to size from (put_at offset new value) m0 m2 rest follows (right_of _ _ typed) (housed_right sizes edge heap d (temporaries e) (parts_temporaries others) housed) (placed_filled d n into (to + offset) new m m2 placed behind one) behind free
          (put_size offset new value (omega (arith, inner, count, long)) ∙ long) fits (omega (arith, above)) (omega (arith, room, kept1.room)) now goes
          ∙ (λ i. eval_parts running meant others (put_at offset new value) (shown_other m1 into (to + offset) new (omega (arith, behind)) i) follows))
      parts_mean (structure_part offset a others) line d n into to size from value m0 m rest follows typed housed placed behind free long fits above room so_far goes =
          let inner = test_most (offset + size_of a) size (left_of _ _ (left_of _ _ typed)) in
          let size1 = block_kept d from into to value m0 m so_far in
          split (structure_code (frame d) a n into (to + offset)) _ rest m
          ∙ structure_means a d n into (to + offset) m _ (λ part_of after. eval_parts running meant others (put_at offset part_of value) after follows) (right_of _ _ (left_of _ _ typed)) (housed_left sizes edge heap d (structure_temporaries a) (parts_temporaries others) housed) placed behind free (omega (arith, inner, fits, size1)) (omega (arith, room)) (λ m1 part_of part_size one.
          let now : Filled edge d from into to (put_at offset part_of value) m0 m1 = filled-within edge d from n into to offset value part_of m0 m m1 above (omega (arith, inner, part_size, long)) (omega (arith, long, fits)) so_far one in
          parts_mean others line d (n + structure_registers a) into to size from (put_at offset part_of value) m0 m1 rest follows (right_of _ _ typed) (housed_right sizes edge heap d (structure_temporaries a) (parts_temporaries others) housed) (placed_filled d n into (to + offset) part_of m m1 placed behind one) behind free
          (put_size offset part_of value (omega (arith, inner, part_size, long)) ∙ long) fits (omega (arith, above)) (omega (arith, room, one.room)) now goes)

    -- where a place is, behind the code that evaluates it
    pub holding : (x : Place) (count d n : ℕ) (m : Memory) (rest : Places) (follows : Follows)
        → is_place known count x ≡ true → Houses d (way_temporaries x) → Placed d m → n + held x ≤ length m.registers → GoesAt d n m rest x follows
        → begin (on (if_evaluated (reached x) (place_code (frame d) x n)) rest) m ≡ source.locate running meant x (shown m) follows
    holding x count d n m rest follows typed housed placed room goes =
        holding_by x d n m rest follows (λ m0 rest0 follows0 placed0 room0 goes0. place_means x count d n m0 rest0 follows0 typed housed placed0 room0 goes0) placed room goes
