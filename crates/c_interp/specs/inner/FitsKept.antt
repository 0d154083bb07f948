-- Each step leaves items that find the numbers that they ask for.
use Rattle.std.proofs.Common.{◌≡◌, ◌<◌, ◌≤◌, ℕ, ◌-◌, ◌*◌, ◌||◌, not, slice_get, slice_index, zero, suc, ◌+◌, ◌++◌, ◌^◌, ℤ, pos, Bool, true, false, ◌&&◌, ◌==◌, nat_lt, nat_le, List, [], ◌∷◌, length, take, drop, Option, Some, None, if◌then◌else◌, refl, sym, ap, subst, ◌∙◌, rules, arith, length-append, length-drop}
use Rattle.std.proofs.lemmas.List.{length-map, length-take-le}
use Rattle.words.specs.declared.check.Class.{Class}
use Rattle.words.specs.declared.check.Class.TheVariants.{Assertion, Return, Unwind, Recursion, Bounds, Pointer, MallocLimit}
use Rattle.c_types.specs.declared.integers.IntegerType.TheVariants.{Int, Long, UnsignedLong}
use Rattle.c_types.specs.declared.integers.IntegerType.{IntegerType}
use Rattle.c_types.specs.Integers.{bytes, promoted}
use Rattle.core_tree.specs.Ranges.{Limits}
use Rattle.core_tree.specs.declared.functions.Variable.{Variable}
use Rattle.core_tree.specs.declared.functions.PassedType.{PassedType}
use Rattle.core_tree.specs.declared.functions.PassedType.TheVariants as passed
use Rattle.c_types.specs.declared.types.ValueType.{ValueType}
use Rattle.c_types.specs.declared.types.ValueType.TheVariants.{Void, Integer}
use Rattle.core_tree.specs.Trees as trees
use Rattle.core_tree.specs.Trees.{Place, variable_at, object_at, literal_at, pointed, arrow, member, element, subscript, Expression, constant, read, convert, sign, is_zero, arithmetic, compare, logical, choice, assign, update, step, comma, assertion, assumption, draw, part, discard, discard_structure, call, function_name, size_of_value, size_of_structure, address, sum, distance, relation, pointer_update, pointer_step, allocate, allocate_zeroed, release, exit, abort, Structure, copy, choose, put, follow, section, list, string, give, Parts, no_part, number_part, structure_part, Arguments, no_argument, number_argument, structure_argument, Statement, block, if_then, if_else, evaluate, Items, done, declares, initializes, initializes_structure, does, label, case_at, default_at, Procedure, TypedFile}
use Rattle.core_tree.specs.declared.operators.ArithmeticOperator.{ArithmeticOperator}
use Rattle.core_tree.specs.Typed.{Sizes, type_of, size_of, is_within, is_place, is_typed, is_structure, are_parts, are_arguments, are_operands, are_typed, are_typed_items, is_shift, is_home, is_promoted, is_test, is_typed_part, is_typed_statement, is_integer, gives_this, given_as, same_given, same_passed, sizes_of_variables, have_parameters}
use Rattle.c_types.specs.Integers.{same_type}
use Rattle.core_tree.specs.Typed as typing
use Rattle.core_tree.specs.Operations.{is_true, truth_bits, converted, arithmetic_check, sign_check, step_operation}
use Rattle.std.specs.Int.{w64, to_le_bytes}
use Rattle.std.proofs.lemmas.Bool.Decides.{nat_tests}
use Rattle.std.proofs.lemmas.Bool.{false≢true}
use Rattle.actions.specs.ByteList.{are_bytes}
use Rattle.actions.specs.declared.action.Answer.{Answer}
use Rattle.actions.specs.declared.action.Answer.TheVariants as answer
use Rattle.actions.specs.Behaviour.{shape_of, has_shape, bytes as bytes_shape}
use Rattle.actions.specs.Pointer.{object_of, offset_of}
use Rattle.c_values.specs.Pointers.{in_range, offset_by}
use Rattle.c_values.specs.Variables.{Variables, low_bytes, put_at, zeros, word_count, drawn_count, block_of}
use Rattle.c_meaning.specs.Source.{code_of}
use Rattle.c_meaning.specs.Meaning as meaning
use Rattle.c_meaning.specs.Meaning.{Code, integer_of, number_type, decides, drawn, bytes_in, place_line, variable_of, home_of, size_in_list, body_of, variables_of, has_case, has_default}
use Rattle.c_values.specs.Numbers.{TypedNumber, typed}
use Rattle.c_tasks.specs.Items.{top, rest, second, top_bytes, rest_bytes, Active, active, back, running_of, base, index_number, Wanted, wants_number, wants_structure, wants_end, line_of, Handed, by_nothing, by_number, by_structure, given_by, values_under, structures_under, blocks_on, Loop, loop_of, Item, evaluates, converts, signs, negates, operates, compares, decides_on, tests, chooses, retypes, drops, passes, asserts, assumes, locates, reaches, elements, loads, stores, rewrites, updates, combines, steps, increments, looks, lands, shifts, paces, advances, arrives, measures, orders, claims, tries, admits, draws, makes, releases, quits, evaluates_structure, picks, discards, discards_structure, chooses_structure, copies, stores_structure, passes_structure, cuts, lists, places_number, places_structure, runs, branches, divides, enters, goes_on, ends_block, leaves, fills, settles, initial, initial_structure, dies, enters_parameters, ends_parameters, leaves_parameters, gathers, adds_number, resumes, goes_out, gets, turns, retests, repeats, loops, selects, switches, strays, ending, ended, State, state}
use Rattle.c_values.specs.Numbers.{same_width, are_operands_of}
use Rattle.c_tasks.specs.Fits.{top_type, rest_types, second_type, types_of, top_size, rest_sizes, second_size, has_top, sizes_of, has_words, sizes_on, passed_sizes, same_sizes, types_under, sizes_under, gives_number, gives_structure, handed_of, wanted_of, gets_this, starts_thread, is_loop, without_operands, signature_of, parameters_at, gives_at, declared_at, variables_at, home_at, sizes_for, is_variable, got, exits_fit, fits, Fits}
use Rattle.c_tasks.specs.Steps.{Move, silent, asks, breaks, blocks, ends, part_items, behind_case, behind_default, unless_stopped, move_bytes, move_put, move_pointer, move_place, move_expression, move_structure, move_parts, move_statement, move_fill, move_entry, move_settle, move_initial, move_death, move_end, move_parameters, move_last, move_claim, move_try, move_admission, move_draw, move_items, move_turn, move_test, move_body, move_arguments, move_given, move_item, move}
use Rattle.c_tasks.specs.declared.task.Change.{Change}
use Rattle.c_tasks.specs.Tasks.{behind, changed, Accepts, Answers}
use Rattle.c_interp.specs.inner.Parts.{of_two, of_three, of_four, of_five, all_three, all_four, all_five, place_start, pointer_width, pointed_part, arrow_part, member_part, element_parts, subscript_parts, address_part, sum_parts, distance_parts, relation_parts, update_parts, step_part, allocate_part, zeroed_parts, release_part, exit_part}
use Rattle.c_interp.specs.inner.ExitsFit.{case_typed, default_typed, out_fits, types_below, sizes_below}
use Rattle.c_interp.specs.inner.CallsFit.{number_wanted, structure_wanted, dropped_more, same_itself, argument_fits, number_passed, structure_passed, body_typed, parameters_there, home_typed, arguments_few}
use Rattle.c_meaning.proofs.TypeWidths.{width_itself, type_widths, type_widths_back, operand_widths}
use Rattle.c_meaning.proofs.Holding.{left_of, right_of, both, or_right, to_le, from_le}
use Rattle.c_tasks.proofs.FitParts.{top_types, rest_of_types, second_types}
use Rattle.c_meaning.proofs.Holding.{from_same}
use Rattle.c_tasks.proofs.Places.{size_listed}
use Rattle.c_tasks.proofs.Words.{filled_there, filled_within, placed_within, structure_fills, all_words, next_words}
use Rattle.c_tasks.proofs.Sizes.{block_size, number_bytes, section_size, top_of_sizes, resized, rest_of_sizes, same_top, zeros_size, string_size, cut_size, number_size, joined_size}

-- an answer to a read of so many bytes has as many
pub read_size : (n : ℕ) (a : Answer) → has_shape (bytes_shape n) a ≡ true → length (bytes_in a) ≡ n
read_size n (answer.Bytes bs) h = from_same (length bs) n (left_of (length bs == n) (are_bytes bs) h)
read_size n answer.Done h = absurd (false≢true h)
read_size n (answer.Size m) h = absurd (false≢true h)
read_size n (answer.Word w) h = absurd (false≢true h)
read_size n (answer.Number m) h = absurd (false≢true h)
read_size n (answer.Value v) h = absurd (false≢true h)

number_handed : (gives : Option PassedType) (t : ValueType) → same_given gives (given_as t) ≡ true → is_integer t ≡ true → gives_number gives (integer_of t) ≡ true
number_handed gives Void h k = absurd (false≢true k)
number_handed None (Integer t) h k = absurd (false≢true h)
number_handed (Some (passed.Integer u)) (Integer t) h k = type_widths_back (Integer u) (Integer t) h
number_handed (Some (passed.Structure n)) (Integer t) h k = absurd (false≢true h)

structure_handed : (gives : Option PassedType) (size : ℕ) → same_given gives (Some (passed.Structure size)) ≡ true → gives_structure gives size ≡ true
structure_handed None size h = absurd (false≢true h)
structure_handed (Some (passed.Integer u)) size h = absurd (false≢true h)
structure_handed (Some (passed.Structure n)) size h = structure_passed (passed.Structure n) size h

-- ---- sizes of what is drawn and made

below : (a b : ℕ) → a < b → nat_lt a b ≡ true
below a b h = grind (arith, nat_tests)

from_below : (a b : ℕ) → nat_lt a b ≡ true → a < b
from_below a b h = grind (arith, nat_tests)

taken_few : (n : ℕ) (ys : List ℕ) → length (take n ys) ≤ n
taken_few zero ys = omega arith
taken_few (suc n) [] = omega arith
taken_few (suc n) (y ∷ ys) = let h = taken_few n ys in omega (arith, h)

pub few_low : (count x : ℕ) → length (low_bytes count x) ≤ count
few_low count x = taken_few count (to_le_bytes w64 x)

-- so many words of an object of this size are left to be drawn, behind so many bytes
abbrev are_left : (words have size : ℕ) → Bool
are_left words have size = nat_le have size && nat_le (have + 8 * words) (size + 7) && nat_lt size (2 ^ 31)

fewer_left : (k have size x : ℕ) (now : List ℕ) → length now ≡ have → are_left (suc k) have size ≡ true → are_left k (length (now ++ low_bytes (drawn_count size (length now)) x)) size ≡ true
fewer_left k have size x now e h =
    let m = of_three (nat_le have size) (nat_le (have + 8 * suc k) (size + 7)) (nat_lt size (2 ^ 31)) h in
    let count = drawn_count size (length now) in
    let a : have ≤ size = from_le have size m.0 in
    let b : have + 8 * suc k ≤ size + 7 = from_le (have + 8 * suc k) (size + 7) m.1 in
    let l : length (now ++ low_bytes count x) ≡ length now + length (low_bytes count x) = length-append now (low_bytes count x) in
    let c = few_low count x in
    let d : count ≤ 8 = omega arith in
    let g : count ≤ size - length now = omega arith in
    all_three (nat_le (length (now ++ low_bytes count x)) size) (nat_le (length (now ++ low_bytes count x) + 8 * k) (size + 7)) (nat_lt size (2 ^ 31))
    (to_le (length (now ++ low_bytes count x)) size (omega (arith, a, e, l, c, g)))
    (to_le (length (now ++ low_bytes count x) + 8 * k) (size + 7) (omega (arith, b, e, l, c, d))) m.2

all_left : (size : ℕ) → size ≤ 4096 → are_left (word_count size) 0 size ≡ true
all_left size few =
    let a : 0 + 8 * word_count size ≤ size + 7 = omega arith in
    all_three (nat_le 0 size) (nat_le (0 + 8 * word_count size) (size + 7)) (nat_lt size (2 ^ 31)) (to_le 0 size (omega arith)) (to_le (0 + 8 * word_count size) (size + 7) a) (below size (2 ^ 31) (omega (arith, few)))

-- a file, and the bounds of a command
module _ (file : TypedFile) (limits : Limits) (few_bytes : limits.malloc_limit ≤ 4096) (first : Bool) (all_typed : are_typed file ≡ true) where
  abbrev code : Code
  code = code_of file limits

  abbrev z : Active → Sizes
  z r = sizes_for file r.function

  abbrev pub KeepsFit : Move → Type 0
  KeepsFit (silent t) = Fits file t
  KeepsFit (asks action line follows) = (a : Answer) → has_shape (shape_of action) a ≡ true → Fits file (follows a)
  KeepsFit _ = Unit {0}

  checked_kept : (c : Option Class) (line : ℕ) (t : State) → Fits file t → KeepsFit (unless_stopped code first true c line t)
  checked_kept None line t h = h
  checked_kept (Some class) line t h = tt

  if_kept : (b : Bool) (m n : Move) → KeepsFit m → KeepsFit n → KeepsFit (if b then m else n)
  if_kept true m n h k = h
  if_kept false m n h k = k

  ranged_kept : (b : Bool) (class : Class) (line : ℕ) (t : State) → Fits file t → KeepsFit (if b then silent t else breaks class line)
  ranged_kept true class line t h = h
  ranged_kept false class line t h = tt

  -- where a test holds
  tested_kept : (b : Bool) (class : Class) (line : ℕ) (t : State) → (b ≡ true → Fits file t) → KeepsFit (if b then silent t else breaks class line)
  tested_kept true class line t h = h refl
  tested_kept false class line t h = tt

  deciding_kept : (b : Bool) (s t : State) → Fits file s → Fits file t → Fits file (if b then s else t)
  deciding_kept true s t h k = h
  deciding_kept false s t h k = k

  assuming_kept : (b : Bool) (t : State) → Fits file t → KeepsFit (if b then silent t else blocks)
  assuming_kept true t h = h
  assuming_kept false t h = tt

  branching_kept : (c : Bool) (s : Statement) (is : List Item) (r : Active) (xs : List TypedNumber) (bs : List (List ℕ)) (vs : Variables) →
      (is_typed_statement (z r) s && (fits file is r.function (types_of xs) (sizes_of bs) && exits_fit file is r.function (types_of xs) (sizes_of bs))) ≡ true →
      Fits file (state (if c then runs s ∷ is else is) r xs bs vs)
  branching_kept true s is r xs bs vs h = h
  branching_kept false s is r xs bs vs h = left_of _ _ (right_of (is_typed_statement (z r) s) _ h)

  choosing_kept : (b : Bool) (a c : Expression) (is : List Item) (r : Active) (ts : List IntegerType) (zs : List ℕ) →
      (is_typed (z r) a && is_typed (z r) c && same_width (number_type c) (number_type a) && fits file is r.function (number_type a ∷ ts) zs) ≡ true →
      (is_typed (z r) (if b then a else c) && (same_width (number_type (if b then a else c)) (number_type a) && fits file is r.function (number_type a ∷ ts) zs)) ≡ true
  choosing_kept true a c is r ts zs h =
      let same = width_itself (number_type a) in
      search (rules, left_of, right_of, both)
  choosing_kept false a c is r ts zs h = search (rules, left_of, right_of, both)

  choosing_structure_kept : (b : Bool) (a c : Structure) (is : List Item) (r : Active) (ts : List IntegerType) (zs : List ℕ) →
      (is_structure (z r) a && is_structure (z r) c && size_of a == size_of c && fits file is r.function ts (size_of a ∷ zs)) ≡ true →
      (is_structure (z r) (if b then a else c) && fits file is r.function ts (size_of (if b then a else c) ∷ zs)) ≡ true
  choosing_structure_kept true a c is r ts zs h = search (rules, left_of, right_of, both)
  choosing_structure_kept false a c is r ts zs h =
      let same = from_same (size_of a) (size_of c) (right_of (is_structure (z r) a && is_structure (z r) c) _ (left_of (is_structure (z r) a && is_structure (z r) c && size_of a == size_of c) _ h)) in
      both (is_structure (z r) c) _ (right_of (is_structure (z r) a) _ (left_of (is_structure (z r) a && is_structure (z r) c) _ (left_of (is_structure (z r) a && is_structure (z r) c && size_of a == size_of c) _ h)))
      (resized (λ n. fits file is r.function ts (n ∷ zs)) (size_of a) (size_of c) (sym same) (right_of (is_structure (z r) a && is_structure (z r) c && size_of a == size_of c) _ h))

  dividing_kept : (c : Bool) (s t : Statement) (is : List Item) (r : Active) (xs : List TypedNumber) (bs : List (List ℕ)) (vs : Variables) →
      (is_typed_statement (z r) s && is_typed_statement (z r) t && (fits file is r.function (types_of xs) (sizes_of bs) && exits_fit file is r.function (types_of xs) (sizes_of bs))) ≡ true →
      Fits file (state (runs (if c then s else t) ∷ is) r xs bs vs)
  dividing_kept true s t is r xs bs vs h = search (rules, left_of, right_of, both)
  dividing_kept false s t is r xs bs vs h = search (rules, left_of, right_of, both)

  -- ---- numbers on top

  popped : (is : List Item) (r : Active) (t : IntegerType) (xs : List TypedNumber) (zs : List ℕ) → fits file is r.function (t ∷ rest_types (types_of xs)) zs ≡ true → fits file is r.function (t ∷ types_of (rest xs)) zs ≡ true
  popped is r t xs zs h = ap (λ ts. fits file is r.function (t ∷ ts) zs) (sym (rest_of_types xs)) ∙ h

  dropped : (is : List Item) (r : Active) (xs : List TypedNumber) (zs : List ℕ) → fits file is r.function (rest_types (types_of xs)) zs ≡ true → fits file is r.function (types_of (rest xs)) zs ≡ true
  dropped is r xs zs h = ap (λ ts. fits file is r.function ts zs) (sym (rest_of_types xs)) ∙ h

  two_types : (xs : List TypedNumber) → rest_types (rest_types (types_of xs)) ≡ types_of (rest (rest xs))
  two_types xs = ap rest_types (rest_of_types xs) ∙ rest_of_types (rest xs)

  three_types : (xs : List TypedNumber) → rest_types (rest_types (rest_types (types_of xs))) ≡ types_of (rest (rest (rest xs)))
  three_types xs = ap rest_types (two_types xs) ∙ rest_of_types (rest (rest xs))

  popped_two : (is : List Item) (r : Active) (t : IntegerType) (xs : List TypedNumber) (zs : List ℕ) → fits file is r.function (t ∷ rest_types (rest_types (types_of xs))) zs ≡ true → fits file is r.function (t ∷ types_of (rest (rest xs))) zs ≡ true
  popped_two is r t xs zs h = ap (λ ts. fits file is r.function (t ∷ ts) zs) (sym (two_types xs)) ∙ h

  popped_three : (is : List Item) (r : Active) (t : IntegerType) (xs : List TypedNumber) (zs : List ℕ) → fits file is r.function (t ∷ rest_types (rest_types (rest_types (types_of xs)))) zs ≡ true → fits file is r.function (t ∷ types_of (rest (rest (rest xs)))) zs ≡ true
  popped_three is r t xs zs h = ap (λ ts. fits file is r.function (t ∷ ts) zs) (sym (three_types xs)) ∙ h

  -- ---- places

  size_is : (r : Active) (v : ℕ) → meaning.size_of (running_of code r) v ≡ slice_index (variables_at file r.function) v
  size_is r v = size_listed (declared_at file r.function) v

  -- so many bytes of a variable from an offset on
  found_size : (r : Active) (v offset count : ℕ) (vs : Variables) → sizes_of vs ≡ variables_at file r.function → nat_le (offset + count) (meaning.size_of (running_of code r) v) ≡ true → length (take count (drop offset (block_of vs v))) ≡ count
  found_size r v offset count vs sized h =
      let within : offset + count ≤ meaning.size_of (running_of code r) v = from_le (offset + count) (meaning.size_of (running_of code r) v) h in
      section_size offset count (block_of vs v) (omega (arith, within, size_is r v, block_size vs (variables_at file r.function) v sized))

  bytes_kept : (o : Option ℕ) (at count line : ℕ) (r : Active) (vs : Variables) (next : List ℕ → State) → sizes_of vs ≡ variables_at file r.function → ((found : List ℕ) → length found ≡ count → Fits file (next found)) → KeepsFit (move_bytes code first true o at count line r vs next)
  bytes_kept (Some v) at count line r vs next sized h =
      tested_kept (nat_le (offset_of at + count) (meaning.size_of (running_of code r) v)) Bounds line (next (take count (drop (offset_of at) (block_of vs v))))
      (λ e. h (take count (drop (offset_of at) (block_of vs v))) (found_size r v (offset_of at) count vs sized e))
  bytes_kept None at count line r vs next sized h = λ a shape. h (bytes_in a) (read_size count a shape)

  -- bytes of which the number alone is taken
  number_kept : (o : Option ℕ) (at count line : ℕ) (r : Active) (vs : Variables) (next : List ℕ → State) → ((found : List ℕ) → Fits file (next found)) → KeepsFit (move_bytes code first true o at count line r vs next)
  number_kept (Some v) at count line r vs next h = ranged_kept (nat_le (offset_of at + count) (meaning.size_of (running_of code r) v)) Bounds line (next (take count (drop (offset_of at) (block_of vs v)))) (h (take count (drop (offset_of at) (block_of vs v))))
  number_kept None at count line r vs next h = λ a shape. h (bytes_in a)

  put_kept : (o : Option ℕ) (at : ℕ) (new : List ℕ) (line : ℕ) (r : Active) (vs : Variables) (next : Variables → State) → ((now : Variables) → Fits file (next now)) → KeepsFit (move_put code first true o at new line r vs next)
  put_kept (Some v) at new line r vs next h = ranged_kept (nat_le (offset_of at + length new) (meaning.size_of (running_of code r) v)) Bounds line _ (h _)
  put_kept None at new line r vs next h = λ a shape. h vs

  pointer_kept : (is_element : Bool) (p size : ℕ) (index stride : ℤ) (line : ℕ) (next : ℕ → State) → ((q : ℕ) → Fits file (next q)) → KeepsFit (move_pointer code first true is_element p size index stride line next)
  pointer_kept is_element p size index stride line next h = ranged_kept (in_range (offset_by (offset_of p) index stride) size) _ line _ (h _)

  initial_kept : (home : Option ℕ) (v : ℕ) (new : List ℕ) (line : ℕ) (r : Active) (vs : Variables) (next : Variables → State) → ((now : Variables) → Fits file (next now)) → KeepsFit (move_initial code first true home v new line r vs next)
  initial_kept None v new line r vs next h = h _
  initial_kept (Some home) v new line r vs next h = λ a shape. h vs

  kept_place : (p : Place) (is : List Item) (r : Active) (xs : List TypedNumber) (bs : List (List ℕ)) (vs : Variables) → is_place (z r) 0 p ≡ true → fits file is r.function (UnsignedLong ∷ types_of xs) (sizes_of bs) ≡ true → KeepsFit (move_place code first true p is r xs bs vs)
  kept_place (variable_at line v offset) is r xs bs vs t k = k
  kept_place (object_at line n offset) is r xs bs vs t k = k
  kept_place (literal_at line n) is r xs bs vs t k = k
  kept_place (pointed line e) is r xs bs vs t k =
      let e_part = pointed_part (z r) 0 line e t in
      both (is_typed (z r) e) _ e_part.1 (both (same_width (number_type e) UnsignedLong) _ (pointer_width (z r) e e_part.0) k)
  kept_place (arrow line e offset) is r xs bs vs t k = both (is_typed (z r) e) _ (arrow_part (z r) 0 line e offset t) k
  kept_place (member line x offset) is r xs bs vs t k = both (is_place (z r) 0 x) _ (member_part (z r) 0 line x offset t) k
  kept_place (element line x e size whole false) is r xs bs vs t k =
      let parts = element_parts (z r) 0 line x e size whole false t in both (is_place (z r) 0 x) _ parts.0 (both (is_typed (z r) e) _ parts.1 k)
  kept_place (element line x e size whole true) is r xs bs vs t k =
      let parts = element_parts (z r) 0 line x e size whole true t in both (is_typed (z r) e) _ parts.1 (both (is_place (z r) 0 x) _ parts.0 k)
  kept_place (subscript line a e size false) is r xs bs vs t k =
      let parts = subscript_parts (z r) 0 line a e size false t in both (is_typed (z r) a) _ parts.0 (both (is_typed (z r) e) _ parts.1 k)
  kept_place (subscript line a e size true) is r xs bs vs t k =
      let parts = subscript_parts (z r) 0 line a e size true t in both (is_typed (z r) e) _ parts.1 (both (is_typed (z r) a) _ parts.0 k)

  -- a place is to take a number of its type, where the number for it is on top
  to_rewrite : (line : ℕ) (t : IntegerType) (p : Place) (at : ℕ) (is : List Item) (r : Active) (ts : List IntegerType) (zs : List ℕ) → is_place (z r) (bytes t) p ≡ true → fits file is r.function (t ∷ ts) zs ≡ true → fits file (rewrites line t p at ∷ is) r.function (t ∷ ts) zs ≡ true
  to_rewrite line t p at is r ts zs there h = all_three (is_place (z r) (bytes t) p) (same_width t t) (fits file is r.function (t ∷ ts) zs) there (width_itself t) h

  to_store : (line : ℕ) (t : IntegerType) (p : Place) (is : List Item) (r : Active) (ts : List IntegerType) (zs : List ℕ) → is_place (z r) (bytes t) p ≡ true → fits file is r.function (t ∷ rest_types ts) zs ≡ true → fits file (stores line t p ∷ is) r.function (t ∷ ts) zs ≡ true
  to_store line t p is r ts zs there h = all_three (is_place (z r) (bytes t) p) (same_width t t) (fits file is r.function (t ∷ rest_types ts) zs) there (width_itself t) h

  -- ---- expressions

  kept_expression : (e : Expression) (is : List Item) (r : Active) (xs : List TypedNumber) (bs : List (List ℕ)) (vs : Variables) → is_typed (z r) e ≡ true → fits file is r.function (number_type e ∷ types_of xs) (sizes_of bs) ≡ true → KeepsFit (move_expression code first true e is r xs bs vs)
  kept_expression (constant line t bits) is r xs bs vs h k = k
  kept_expression (read t p) is r xs bs vs h k = both (is_place (z r) 0 p) _ (place_start (z r) (bytes t) p h) (both (is_place (z r) (bytes t) p) _ h k)
  kept_expression (convert to e) is r xs bs vs h k = both (is_typed (z r) e) _ (right_of (is_integer (type_of e)) (is_typed (z r) e) h) k
  kept_expression (sign line op e) is r xs bs vs h k = both (is_typed (z r) e) _ (right_of (is_promoted (type_of e)) (is_typed (z r) e) h) k
  kept_expression (is_zero line e) is r xs bs vs h k = both (is_typed (z r) e) _ (right_of (is_integer (type_of e)) (is_typed (z r) e) h) k
  kept_expression (arithmetic line op a b) is r xs bs vs h k =
      let m = of_three (are_operands op (type_of a) (type_of b)) (is_typed (z r) a) (is_typed (z r) b) h in
      both (is_typed (z r) a) _ m.1 (both (is_typed (z r) b) _ m.2 (both (are_operands_of op (number_type a) (number_type b)) _ (operand_widths op (type_of a) (type_of b) m.0) k))
  kept_expression (compare line op a b) is r xs bs vs h k =
      let m = of_four (is_promoted (type_of a)) (same_type (type_of a) (type_of b)) (is_typed (z r) a) (is_typed (z r) b) h in
      both (is_typed (z r) a) _ m.2 (both (is_typed (z r) b) _ m.3 (both (same_width (number_type a) (number_type b)) _ (type_widths (type_of a) (type_of b) m.1) k))
  kept_expression (logical line op a b) is r xs bs vs h k =
      let m = of_four (is_integer (type_of a)) (is_integer (type_of b)) (is_typed (z r) a) (is_typed (z r) b) h in
      both (is_typed (z r) a) _ m.2 (both (is_typed (z r) b) _ m.3 k)
  kept_expression (choice line test a b) is r xs bs vs h k =
      let m = of_five (is_integer (type_of test)) (same_type (type_of a) (type_of b)) (is_typed (z r) test) (is_typed (z r) a) (is_typed (z r) b) h in
      both (is_typed (z r) test) _ m.2 (all_four (is_typed (z r) a) (is_typed (z r) b) (same_width (number_type b) (number_type a)) _ m.3 m.4 (type_widths_back (type_of a) (type_of b) m.1) k)
  kept_expression (assign line t p e) is r xs bs vs h k =
      let m = of_three (is_place (z r) (bytes t) p) (same_type (type_of e) (Integer t)) (is_typed (z r) e) h in
      both (is_place (z r) 0 p) _ (place_start (z r) (bytes t) p m.0) (both (is_typed (z r) e) _ m.2 (all_three (is_place (z r) (bytes t) p) (same_width (number_type e) t) _ m.0 (type_widths (type_of e) (Integer t) m.1) k))
  kept_expression (update line t p op u e) is r xs bs vs h k =
      let m = of_three (is_place (z r) (bytes t) p) (are_operands op (Integer u) (type_of e)) (is_typed (z r) e) h in
      both (is_place (z r) 0 p) _ (place_start (z r) (bytes t) p m.0) (both (is_typed (z r) e) _ m.2 (all_three (is_place (z r) (bytes t) p) (are_operands_of op u (number_type e)) _ m.0 (operand_widths op (Integer u) (type_of e) m.1) k))
  kept_expression (step line t p op before) is r xs bs vs h k =
      both (is_place (z r) 0 p) _ (place_start (z r) (bytes t) p h)
      (all_three (is_place (z r) (bytes t) p) (are_operands_of (step_operation op) (promoted t) (promoted t)) _ h (or_right (is_shift (step_operation op)) (same_width (promoted t) (promoted t)) (width_itself (promoted t))) k)
  kept_expression (comma line a b) is r xs bs vs h k =
      both (is_typed (z r) a) _ (left_of (is_typed (z r) a) (is_typed (z r) b) h) (both (is_typed (z r) b) _ (right_of (is_typed (z r) a) (is_typed (z r) b) h) k)
  kept_expression (assertion line e) is r xs bs vs h k = both (is_typed (z r) e) _ (right_of (is_integer (type_of e)) (is_typed (z r) e) h) k
  kept_expression (assumption line e) is r xs bs vs h k = both (is_typed (z r) e) _ (right_of (is_integer (type_of e)) (is_typed (z r) e) h) k
  kept_expression (draw line t) is r xs bs vs h k = λ a shape. k
  kept_expression (part line t offset a) is r xs bs vs h k = both (is_structure (z r) a) _ (right_of (nat_le (offset + bytes t) (size_of a)) (is_structure (z r) a) h) k
  kept_expression (discard line e) is r xs bs vs h k = both (is_typed (z r) e) _ (right_of (is_integer (type_of e)) (is_typed (z r) e) h) k
  kept_expression (discard_structure a) is r xs bs vs h k = both (is_structure (z r) a) _ h k
  kept_expression (call line f used t args) is r xs bs vs h k =
      let m = of_three (not used || is_integer t) (gives_this (given_as t) (signature_of file f)) (are_arguments (z r) (parameters_at file f) args) h in
      let wanted = number_wanted line used t (signature_of file f) m.1 in
      let first_call = starts_thread args (wants_number line used (integer_of t)) 0 in
      both (wanted_of (wants_number line used (integer_of t)) (signature_of file f) && true && (first_call || are_arguments (z r) (parameters_at file f) args)) _
      (both (wanted_of (wants_number line used (integer_of t)) (signature_of file f) && true) _ (both _ _ wanted refl) (or_right first_call _ m.2)) k
  kept_expression (function_name line) is r xs bs vs h k = k
  kept_expression (size_of_value line bits e) is r xs bs vs h k = k
  kept_expression (size_of_structure line bits a) is r xs bs vs h k = k
  kept_expression (address line p) is r xs bs vs h k = both (is_place (z r) 0 p) _ (address_part (z r) line p h) k
  kept_expression (sum line a e n false) is r xs bs vs h k = let m = sum_parts (z r) line a e n false h in both (is_typed (z r) a) _ m.0 (both (is_typed (z r) e) _ m.1 k)
  kept_expression (sum line a e n true) is r xs bs vs h k = let m = sum_parts (z r) line a e n true h in both (is_typed (z r) e) _ m.1 (both (is_typed (z r) a) _ m.0 k)
  kept_expression (distance line a b n) is r xs bs vs h k = let m = distance_parts (z r) line a b n h in both (is_typed (z r) a) _ m.1 (both (is_typed (z r) b) _ m.2 (both (nat_lt 0 n) _ m.0 k))
  kept_expression (relation line op a b) is r xs bs vs h k = let m = relation_parts (z r) line op a b h in both (is_typed (z r) a) _ m.0 (both (is_typed (z r) b) _ m.1 k)
  kept_expression (pointer_update line p n e) is r xs bs vs h k =
      let m = update_parts (z r) line p n e h in both (is_place (z r) 0 p) _ (place_start (z r) 8 p m.0) (both (is_typed (z r) e) _ m.1 (both (is_place (z r) 8 p) _ m.0 k))
  kept_expression (pointer_step line p n before) is r xs bs vs h k =
      let m = step_part (z r) line p n before h in both (is_place (z r) 0 p) _ (place_start (z r) 8 p m) (both (is_place (z r) 8 p) _ m k)
  kept_expression (allocate line e) is r xs bs vs h k = both (is_typed (z r) e) _ (allocate_part (z r) line e h) k
  kept_expression (allocate_zeroed line a b) is r xs bs vs h k = let m = zeroed_parts (z r) line a b h in both (is_typed (z r) a) _ m.0 (both (is_typed (z r) b) _ m.1 k)
  kept_expression (release line e) is r xs bs vs h k = both (is_typed (z r) e) _ (release_part (z r) line e h) k
  kept_expression (exit line e) is r xs bs vs h k = both (is_typed (z r) e) _ (exit_part (z r) line e h) refl
  kept_expression (abort line) is r xs bs vs h k = refl

  -- ---- structure values

  kept_structure : (a : Structure) (is : List Item) (r : Active) (xs : List TypedNumber) (bs : List (List ℕ)) (vs : Variables) → is_structure (z r) a ≡ true → fits file is r.function (types_of xs) (size_of a ∷ sizes_of bs) ≡ true → KeepsFit (move_structure code first true a is r xs bs vs)
  kept_structure (copy p size) is r xs bs vs h k = both (is_place (z r) 0 p) _ (place_start (z r) size p h) (both (is_place (z r) size p) _ h k)
  kept_structure (choose line test a b) is r xs bs vs h k =
      let m = of_five (is_integer (type_of test)) (size_of a == size_of b) (is_typed (z r) test) (is_structure (z r) a) (is_structure (z r) b) h in
      both (is_typed (z r) test) _ m.2 (all_four (is_structure (z r) a) (is_structure (z r) b) (size_of a == size_of b) _ m.3 m.4 m.1 k)
  kept_structure (put line p a) is r xs bs vs h k =
      let m = of_two (is_place (z r) (size_of a) p) (is_structure (z r) a) h in
      both (is_place (z r) 0 p) _ (place_start (z r) (size_of a) p m.0) (both (is_structure (z r) a) _ m.1 (both (is_place (z r) (size_of a) p) _ m.0 k))
  kept_structure (follow line e a) is r xs bs vs h k =
      let m = of_two (is_typed (z r) e) (is_structure (z r) a) h in both (is_typed (z r) e) _ m.0 (both (is_structure (z r) a) _ m.1 k)
  kept_structure (section line offset size a) is r xs bs vs h k =
      let m = of_two (nat_le (offset + size) (size_of a)) (is_structure (z r) a) h in both (is_structure (z r) a) _ m.1 (both (nat_le (offset + size) (size_of a)) _ m.0 k)
  kept_structure (list line size parts) is r xs bs vs h k =
      let m = both (are_parts (z r) size parts) _ (right_of (nat_lt size (2 ^ 31)) (are_parts (z r) size parts) h) k in
      resized (λ n. are_parts (z r) n parts && fits file is r.function (types_of xs) (n ∷ sizes_of bs)) size (length (zeros size)) (zeros_size size) m
  kept_structure (string line size text) is r xs bs vs h k =
      let m = of_three (nat_lt size (2 ^ 31)) (nat_le (length text) size) _ h in
      resized (λ n. fits file is r.function (types_of xs) (n ∷ sizes_of bs)) size (length (put_at 0 text (zeros size))) (string_size size text m.1) k
  kept_structure (give line f used size args) is r xs bs vs h k =
      let m = of_three (nat_lt size (2 ^ 31)) (gives_this (Some (passed.Structure size)) (signature_of file f)) (are_arguments (z r) (parameters_at file f) args) h in
      let wanted = structure_wanted line size used (signature_of file f) m.1 in
      let first_call = starts_thread args (wants_structure line used size) 0 in
      both (wanted_of (wants_structure line used size) (signature_of file f) && true && (first_call || are_arguments (z r) (parameters_at file f) args)) _
      (both (wanted_of (wants_structure line used size) (signature_of file f) && true) _ (both _ _ wanted refl) (or_right first_call _ m.2)) k

  kept_parts : (parts : Parts) (is : List Item) (r : Active) (xs : List TypedNumber) (bs : List (List ℕ)) (vs : Variables) → fits file (lists parts ∷ is) r.function (types_of xs) (sizes_of bs) ≡ true → KeepsFit (move_parts code first true parts is r xs bs vs)
  kept_parts no_part is r xs bs vs h =
      let there : has_top (sizes_of bs) ≡ true = left_of (has_top (sizes_of bs)) true (left_of (has_top (sizes_of bs) && true) (fits file is r.function (types_of xs) (sizes_of bs)) h) in
      ap (fits file is r.function (types_of xs)) (same_top bs (top_bytes bs) there refl) ∙ right_of (has_top (sizes_of bs) && true) (fits file is r.function (types_of xs) (sizes_of bs)) h
  kept_parts (number_part offset e more) is r xs bs vs h = search (rules, left_of, right_of, both, placed_within)
  kept_parts (structure_part offset a more) is r xs bs vs h = search (rules, left_of, right_of, both)

  kept_start : (start : Option Expression) (line n : ℕ) (test last : Option Expression) (s : Statement) (is : List Item) (r : Active) (xs : List TypedNumber) (bs : List (List ℕ)) (vs : Variables) → fits file (runs (trees.for_loop line n start test last s) ∷ is) r.function (types_of xs) (sizes_of bs) ≡ true →
      Fits file (state (part_items start (retests (code.tests r.function n - 1) (loop_of line test last s) ∷ is)) r xs bs vs)
  kept_start None line n test last s is r xs bs vs h = search (rules, left_of, right_of, both)
  kept_start (Some e) line n test last s is r xs bs vs h = search (rules, left_of, right_of, both)

  kept_statement : (s : Statement) (is : List Item) (r : Active) (xs : List TypedNumber) (bs : List (List ℕ)) (vs : Variables) → fits file (runs s ∷ is) r.function (types_of xs) (sizes_of bs) ≡ true → KeepsFit (move_statement code first true s is r xs bs vs)
  kept_statement (block items) is r xs bs vs h = search (rules, left_of, right_of, both)
  kept_statement (if_then line test s) is r xs bs vs h = search (rules, left_of, right_of, both)
  kept_statement (if_else line test s t) is r xs bs vs h = search (rules, left_of, right_of, both)
  kept_statement (evaluate e) is r xs bs vs h = search (rules, left_of, right_of, both)
  kept_statement (trees.returns line e) is r xs bs vs h =
      let typed_return = left_of (is_typed_statement (z r) (trees.returns line e)) _ h in
      let kind = is_integer (type_of e) && same_given (gives_at file r.function) (given_as (type_of e)) in
      both (is_typed (z r) e) _ (right_of kind (is_typed (z r) e) typed_return)
      (both _ _ (number_handed (gives_at file r.function) (type_of e) (right_of (is_integer (type_of e)) _ (left_of kind _ typed_return)) (left_of (is_integer (type_of e)) _ (left_of kind _ typed_return))) (right_of (fits file is r.function (types_of xs) (sizes_of bs)) _ (right_of (is_typed_statement (z r) (trees.returns line e)) _ h)))
  kept_statement (trees.returns_structure line a) is r xs bs vs h =
      let typed_return = left_of (is_typed_statement (z r) (trees.returns_structure line a)) _ h in
      let kind = same_given (gives_at file r.function) (Some (passed.Structure (size_of a))) in
      both (is_structure (z r) a) _ (right_of kind (is_structure (z r) a) typed_return)
      (both _ _ (structure_handed (gives_at file r.function) (size_of a) (left_of kind _ typed_return)) (right_of (fits file is r.function (types_of xs) (sizes_of bs)) _ (right_of (is_typed_statement (z r) (trees.returns_structure line a)) _ h)))
  kept_statement (trees.returns_nothing line) is r xs bs vs h = right_of (fits file is r.function (types_of xs) (sizes_of bs)) _ (right_of (is_typed_statement (z r) (trees.returns_nothing line)) _ h)
  kept_statement (trees.for_loop line n start test last s) is r xs bs vs h = kept_start start line n test last s is r xs bs vs h
  kept_statement (trees.do_loop line n s test) is r xs bs vs h = search (rules, left_of, right_of, both)
  kept_statement (trees.switch line e items) is r xs bs vs h = search (rules, left_of, right_of, both)
  kept_statement (trees.breaks line) is r xs bs vs h = right_of _ _ h
  kept_statement (trees.continues line) is r xs bs vs h = right_of _ _ h
  kept_statement (trees.jumps line n) is r xs bs vs h = right_of _ _ h
  kept_statement (trees.stray line s) is r xs bs vs h = h

  -- ---- variables

  -- a variable that is there, and where its address is held
  there : (r : Active) (v : ℕ) → nat_lt v (length (variables_at file r.function)) ≡ true → is_variable file r.function v 0 ≡ true
  there r v h = both (nat_lt v (length (variables_at file r.function))) (nat_le (0 + 0) (slice_index (variables_at file r.function) v)) h (to_le (0 + 0) (slice_index (variables_at file r.function) v) (omega arith))

  settled : (line v : ℕ) (is : List Item) (r : Active) (ts : List IntegerType) (zs : List ℕ) → nat_lt v (length (variables_at file r.function)) ≡ true → fits file is r.function ts zs ≡ true → fits file (settles line v ∷ is) r.function ts zs ≡ true
  settled line v is r ts zs h k = all_three (is_variable file r.function v 0) _ (fits file is r.function ts zs) (there r v h) (home_typed file all_typed r.function v) k

  words_there : (r : Active) (v : ℕ) → nat_lt v (length (variables_at file r.function)) ≡ true → has_words (variables_at file r.function) v 0 (word_count (meaning.size_of (running_of code r) v)) ≡ true
  words_there r v h = ap (λ n. has_words (variables_at file r.function) v 0 (word_count n)) (size_is r v) ∙ all_words (variables_at file r.function) v h

  made : (line v : ℕ) (more : Items) (is : List Item) (r : Active) (ts : List IntegerType) (zs : List ℕ) → nat_lt v (length (variables_at file r.function)) ≡ true → are_typed_items (z r) more ≡ true → fits file is r.function ts zs ≡ true → fits file (settles line v ∷ enters more ∷ is) r.function ts zs ≡ true
  made line v more is r ts zs h t k = settled line v (enters more ∷ is) r ts zs h (both (are_typed_items (z r) more) (fits file is r.function ts zs) t k)

  drawn_first : (line v : ℕ) (more : Items) (is : List Item) (r : Active) (ts : List IntegerType) (zs : List ℕ) → nat_lt v (length (variables_at file r.function)) ≡ true → are_typed_items (z r) more ≡ true → fits file is r.function ts zs ≡ true →
      fits file (fills (word_count (meaning.size_of (running_of code r) v)) line v 0 ∷ settles line v ∷ enters more ∷ is) r.function ts zs ≡ true
  drawn_first line v more is r ts zs h t k = both (has_words (variables_at file r.function) v 0 (word_count (meaning.size_of (running_of code r) v))) _ (words_there r v h) (made line v more is r ts zs h t k)

  kept_entry : (items : Items) (is : List Item) (r : Active) (xs : List TypedNumber) (bs : List (List ℕ)) (vs : Variables) → fits file (enters items ∷ is) r.function (types_of xs) (sizes_of bs) ≡ true → KeepsFit (move_entry code first true items is r xs bs vs)
  kept_entry done is r xs bs vs h = h
  kept_entry (declares line v more) is r xs bs vs h =
      let m = of_three (nat_lt v (length (variables_at file r.function))) (are_typed_items (z r) more) (fits file is r.function (types_of xs) (sizes_of bs)) h in
      drawn_first line v more is r (types_of xs) (sizes_of bs) m.0 m.1 m.2
  kept_entry (initializes line v true e more) is r xs bs vs h =
      let m = of_four (typing.fills (variables_at file r.function) v (type_of e)) (is_typed (z r) e) (are_typed_items (z r) more) (fits file is r.function (types_of xs) (sizes_of bs)) h in
      drawn_first line v more is r (types_of xs) (sizes_of bs) (filled_there (variables_at file r.function) v (type_of e) m.0) m.2 m.3
  kept_entry (initializes line v false e more) is r xs bs vs h =
      let m = of_four (typing.fills (variables_at file r.function) v (type_of e)) (is_typed (z r) e) (are_typed_items (z r) more) (fits file is r.function (types_of xs) (sizes_of bs)) h in
      made line v more is r (types_of xs) (sizes_of bs) (filled_there (variables_at file r.function) v (type_of e) m.0) m.2 m.3
  kept_entry (initializes_structure line v true a more) is r xs bs vs h =
      let m = of_five (nat_lt v (length (variables_at file r.function))) (size_of a == slice_index (variables_at file r.function) v) (is_structure (z r) a) (are_typed_items (z r) more) (fits file is r.function (types_of xs) (sizes_of bs)) h in
      drawn_first line v more is r (types_of xs) (sizes_of bs) m.0 m.3 m.4
  kept_entry (initializes_structure line v false a more) is r xs bs vs h =
      let m = of_five (nat_lt v (length (variables_at file r.function))) (size_of a == slice_index (variables_at file r.function) v) (is_structure (z r) a) (are_typed_items (z r) more) (fits file is r.function (types_of xs) (sizes_of bs)) h in
      made line v more is r (types_of xs) (sizes_of bs) m.0 m.3 m.4
  kept_entry (does s more) is r xs bs vs h = let m = of_three (is_typed_statement (z r) s) (are_typed_items (z r) more) (fits file is r.function (types_of xs) (sizes_of bs)) h in both (are_typed_items (z r) more) _ m.1 m.2
  kept_entry (label n more) is r xs bs vs h = h
  kept_entry (case_at line t bits more) is r xs bs vs h = let m = of_three _ (are_typed_items (z r) more) (fits file is r.function (types_of xs) (sizes_of bs)) h in both (are_typed_items (z r) more) _ m.1 m.2
  kept_entry (default_at line more) is r xs bs vs h = h

  kept_fill : (words line v offset : ℕ) (is : List Item) (r : Active) (xs : List TypedNumber) (bs : List (List ℕ)) (vs : Variables) → fits file (fills words line v offset ∷ is) r.function (types_of xs) (sizes_of bs) ≡ true → KeepsFit (move_fill code first true words line v offset is r xs bs vs)
  kept_fill zero line v offset is r xs bs vs h = right_of (has_words (variables_at file r.function) v offset 0) _ h
  kept_fill (suc k) line v offset is r xs bs vs h =
      λ a shape. both (has_words (variables_at file r.function) v (offset + 8) k) _ (next_words (variables_at file r.function) v offset k (left_of (has_words (variables_at file r.function) v offset (suc k)) _ h)) (right_of (has_words (variables_at file r.function) v offset (suc k)) _ h)

  kept_settle : (home : Option ℕ) (line v : ℕ) (is : List Item) (r : Active) (xs : List TypedNumber) (bs : List (List ℕ)) (vs : Variables) → fits file is r.function (types_of xs) (sizes_of bs) ≡ true → KeepsFit (move_settle code first true home line v is r xs bs vs)
  kept_settle None line v is r xs bs vs h = h
  kept_settle (Some home) line v is r xs bs vs h = λ a shape. h

  kept_death : (home : Option ℕ) (line : ℕ) (is : List Item) (r : Active) (xs : List TypedNumber) (bs : List (List ℕ)) (vs : Variables) → fits file is r.function (types_of xs) (sizes_of bs) ≡ true → KeepsFit (move_death code first true home line is r xs bs vs)
  kept_death None line is r xs bs vs h = h
  kept_death (Some home) line is r xs bs vs h = λ a shape. h

  kept_end : (items : Items) (is : List Item) (r : Active) (xs : List TypedNumber) (bs : List (List ℕ)) (vs : Variables) → fits file is r.function (types_of xs) (sizes_of bs) ≡ true → KeepsFit (move_end code first true items is r xs bs vs)
  kept_end done is r xs bs vs h = h
  kept_end _ is r xs bs vs h = h

  listed : (f : ℕ) → length (variables_at file f) ≡ length (declared_at file f)
  listed f = length-map (declared_at file f) (λ (v : Variable). v.size)

  kept_parameters : (count v : ℕ) (is : List Item) (r : Active) (xs : List TypedNumber) (bs : List (List ℕ)) (vs : Variables) → fits file (enters_parameters count v ∷ is) r.function (types_of xs) (sizes_of bs) ≡ true → KeepsFit (move_parameters code first true count v is r xs bs vs)
  kept_parameters zero v is r xs bs vs h = right_of (nat_le (v + 0) (length (declared_at file r.function))) _ h
  kept_parameters (suc count) v is r xs bs vs h =
      let most = length (declared_at file r.function) in
      let within : v + suc count ≤ most = from_le (v + suc count) most (left_of (nat_le (v + suc count) most) (fits file is r.function (types_of xs) (sizes_of bs)) h) in
      let here : nat_lt v (length (variables_at file r.function)) ≡ true = below v (length (variables_at file r.function)) (omega (arith, within, listed r.function)) in
      let running = running_of code r in
      settled running.line v (enters_parameters count (suc v) ∷ is) r (types_of xs) (sizes_of bs) here
      (both (nat_le (suc v + count) most) _ (to_le (suc v + count) most (omega (arith, within))) (right_of (nat_le (v + suc count) most) (fits file is r.function (types_of xs) (sizes_of bs)) h))

  kept_last_parameters : (count v : ℕ) (is : List Item) (r : Active) (xs : List TypedNumber) (bs : List (List ℕ)) (vs : Variables) → fits file is r.function (types_of xs) (sizes_of bs) ≡ true → KeepsFit (move_last code first true count v is r xs bs vs)
  kept_last_parameters zero v is r xs bs vs h = h
  kept_last_parameters (suc count) v is r xs bs vs h = h

  kept_items : (items : Items) (is : List Item) (r : Active) (xs : List TypedNumber) (bs : List (List ℕ)) (vs : Variables) → fits file (goes_on items ∷ is) r.function (types_of xs) (sizes_of bs) ≡ true → KeepsFit (move_items code first true items is r xs bs vs)
  kept_items done is r xs bs vs h = left_of (fits file is r.function (types_of xs) (sizes_of bs)) _ h
  kept_items (declares line v more) is r xs bs vs h =
      let m = of_three (nat_lt v (length (variables_at file r.function))) (are_typed_items (z r) more) _ h in both (are_typed_items (z r) more) _ m.1 m.2
  kept_items (initializes line v is_drawn e more) is r xs bs vs h =
      let m = of_four (typing.fills (variables_at file r.function) v (type_of e)) (is_typed (z r) e) (are_typed_items (z r) more) _ h in
      both (is_typed (z r) e) _ m.1 (both (is_variable file r.function v (bytes (number_type e))) _ (filled_within (variables_at file r.function) v (type_of e) m.0) (both (are_typed_items (z r) more) _ m.2 m.3))
  kept_items (initializes_structure line v is_drawn a more) is r xs bs vs h =
      let m = of_five (nat_lt v (length (variables_at file r.function))) (size_of a == slice_index (variables_at file r.function) v) (is_structure (z r) a) (are_typed_items (z r) more) _ h in
      both (is_structure (z r) a) _ m.2 (both (is_variable file r.function v (size_of a)) _ (structure_fills (variables_at file r.function) v (size_of a) (both (nat_lt v (length (variables_at file r.function))) _ m.0 m.1)) (both (are_typed_items (z r) more) _ m.3 m.4))
  kept_items (does s more) is r xs bs vs h =
      let m = of_three (is_typed_statement (z r) s) (are_typed_items (z r) more) _ h in
      let k = both (are_typed_items (z r) more) _ m.1 m.2 in
      both (is_typed_statement (z r) s) _ m.0 (both _ _ k k)
  kept_items (label n more) is r xs bs vs h = h
  kept_items (case_at line t bits more) is r xs bs vs h = let m = of_three _ (are_typed_items (z r) more) _ h in both (are_typed_items (z r) more) _ m.1 m.2
  kept_items (default_at line more) is r xs bs vs h = h

  -- ---- steps of a place's number

  kept_steps : (line : ℕ) (t : IntegerType) (p : Place) (op : ArithmeticOperator) (before : Bool) (is : List Item) (r : Active) (xs : List TypedNumber) (bs : List (List ℕ)) (vs : Variables) → fits file (steps line t p op before ∷ is) r.function (types_of xs) (sizes_of bs) ≡ true → KeepsFit (move_item code first true (steps line t p op before) is r xs bs vs)
  kept_steps line t p op true is r xs bs vs h =
      let m = of_three (is_place (z r) (bytes t) p) (are_operands_of op (promoted t) (promoted t)) _ h in
      number_kept (variable_of (running_of code r) p) (top xs).bits (bytes t) (place_line p) r vs _
      (λ found. all_four (is_place (z r) (bytes t) p) (same_width t t) (are_operands_of op (promoted t) (promoted t)) _ m.0 (width_itself t) m.1 (popped is r t xs (sizes_of bs) m.2))
  kept_steps line t p op false is r xs bs vs h =
      let m = of_three (is_place (z r) (bytes t) p) (are_operands_of op (promoted t) (promoted t)) _ h in
      number_kept (variable_of (running_of code r) p) (top xs).bits (bytes t) (place_line p) r vs _
      (λ found. all_four (is_place (z r) (bytes t) p) (same_width t t) (are_operands_of op (promoted t) (promoted t)) _ m.0 (width_itself t) m.1 (popped is r t xs (sizes_of bs) m.2))

  kept_increment : (line : ℕ) (t : IntegerType) (p : Place) (op : ArithmeticOperator) (before : Bool) (at : ℕ) (is : List Item) (r : Active) (xs : List TypedNumber) (bs : List (List ℕ)) (vs : Variables) → fits file (increments line t p op before at ∷ is) r.function (types_of xs) (sizes_of bs) ≡ true → KeepsFit (move_item code first true (increments line t p op before at) is r xs bs vs)
  kept_increment line t p op true at is r xs bs vs h =
      let u = promoted t in
      let m = of_four (is_place (z r) (bytes t) p) (same_width (top_type (types_of xs)) t) (are_operands_of op u u) (fits file is r.function (t ∷ rest_types (types_of xs)) (sizes_of bs)) h in
      checked_kept (arithmetic_check op u u (converted t u (top xs).bits) 1) line _ (to_rewrite line t p at is r (types_of (rest xs)) (sizes_of bs) m.0 (popped is r t xs (sizes_of bs) m.3))
  kept_increment line t p op false at is r xs bs vs h =
      let u = promoted t in
      let m = of_four (is_place (z r) (bytes t) p) (same_width (top_type (types_of xs)) t) (are_operands_of op u u) (fits file is r.function (types_of xs) (sizes_of bs)) h in
      checked_kept (arithmetic_check op u u (converted t u (top xs).bits) 1) line _ (to_rewrite line t p at (drops ∷ is) r (types_of xs) (sizes_of bs) m.0 m.3)

  kept_paces : (line : ℕ) (p : Place) (n : ℤ) (before : Bool) (is : List Item) (r : Active) (xs : List TypedNumber) (bs : List (List ℕ)) (vs : Variables) → fits file (paces line p n before ∷ is) r.function (types_of xs) (sizes_of bs) ≡ true → KeepsFit (move_item code first true (paces line p n before) is r xs bs vs)
  kept_paces line p n true is r xs bs vs h =
      let m = of_two (is_place (z r) 8 p) _ h in
      number_kept (variable_of (running_of code r) p) (top xs).bits (bytes UnsignedLong) (place_line p) r vs _ (λ found. both (is_place (z r) 8 p) _ m.0 (popped is r UnsignedLong xs (sizes_of bs) m.1))
  kept_paces line p n false is r xs bs vs h =
      let m = of_two (is_place (z r) 8 p) _ h in
      number_kept (variable_of (running_of code r) p) (top xs).bits (bytes UnsignedLong) (place_line p) r vs _ (λ found. both (is_place (z r) 8 p) _ m.0 (popped is r UnsignedLong xs (sizes_of bs) m.1))

  kept_arrives : (line : ℕ) (p : Place) (n : ℤ) (before : Bool) (at : ℕ) (is : List Item) (r : Active) (xs : List TypedNumber) (bs : List (List ℕ)) (vs : Variables) → fits file (arrives line p n before at ∷ is) r.function (types_of xs) (sizes_of bs) ≡ true → KeepsFit (move_item code first true (arrives line p n before at) is r xs bs vs)
  kept_arrives line p n true at is r xs bs vs h =
      let m = of_two (is_place (z r) 8 p) (fits file is r.function (UnsignedLong ∷ rest_types (rest_types (types_of xs))) (sizes_of bs)) h in
      pointer_kept false (second xs).bits (top xs).bits (pos 1) n line (λ q. state (rewrites line UnsignedLong p at ∷ is) r (typed UnsignedLong q ∷ rest (rest xs)) bs vs) (λ q. to_rewrite line UnsignedLong p at is r (types_of (rest (rest xs))) (sizes_of bs) m.0 (popped_two is r UnsignedLong xs (sizes_of bs) m.1))
  kept_arrives line p n false at is r xs bs vs h =
      let m = of_two (is_place (z r) 8 p) (fits file is r.function (rest_types (types_of xs)) (sizes_of bs)) h in
      pointer_kept false (second xs).bits (top xs).bits (pos 1) n line (λ q. state (rewrites line UnsignedLong p at ∷ drops ∷ is) r (typed UnsignedLong q ∷ rest xs) bs vs) (λ q. to_rewrite line UnsignedLong p at (drops ∷ is) r (types_of (rest xs)) (sizes_of bs) m.0 (dropped is r xs (sizes_of bs) m.1))

  -- ---- allocations

  kept_try : (line : ℕ) (zeroed : Bool) (is : List Item) (r : Active) (xs : List TypedNumber) (bs : List (List ℕ)) (vs : Variables) → fits file (tries line zeroed ∷ is) r.function (types_of xs) (sizes_of bs) ≡ true → KeepsFit (move_try code first true line zeroed is r xs bs vs)
  kept_try line false is r xs bs vs h =
      deciding_kept (is_true (top xs).bits) (state is r (typed UnsignedLong 0 ∷ rest (rest xs)) bs vs) (state (admits line false ∷ is) r (rest xs) bs vs) (popped_two is r UnsignedLong xs (sizes_of bs) h)
      (ap (λ ts. fits file is r.function (UnsignedLong ∷ rest_types ts) (sizes_of bs)) (sym (rest_of_types xs)) ∙ h)
  kept_try line true is r xs bs vs h =
      deciding_kept (is_true (top xs).bits) (state is r (typed UnsignedLong 0 ∷ rest (rest (rest xs))) bs vs) (state (admits line true ∷ is) r (rest xs) bs vs) (popped_three is r UnsignedLong xs (sizes_of bs) h)
      (ap (λ ts. fits file is r.function (UnsignedLong ∷ rest_types (rest_types ts)) (sizes_of bs)) (sym (rest_of_types xs)) ∙ h)

  admitted : (size : ℕ) → nat_le size code.malloc_limit ≡ true → size ≤ 4096
  admitted size h = let e = from_le size limits.malloc_limit h in omega (arith, e, few_bytes)

  kept_admission : (line : ℕ) (zeroed : Bool) (is : List Item) (r : Active) (xs : List TypedNumber) (bs : List (List ℕ)) (vs : Variables) → fits file (admits line zeroed ∷ is) r.function (types_of xs) (sizes_of bs) ≡ true → KeepsFit (move_admission code first true line zeroed is r xs bs vs)
  kept_admission line false is r xs bs vs h =
      let size = (top xs).bits in
      tested_kept (nat_le size code.malloc_limit) MallocLimit line (state (draws (word_count size) size line ∷ is) r xs ([] ∷ bs) vs)
      (λ e. both (are_left (word_count size) 0 size) _ (all_left size (admitted size e)) h)
  kept_admission line true is r xs bs vs h =
      let size = (second xs).bits * (top xs).bits in
      tested_kept (nat_le size code.malloc_limit) MallocLimit line (state (makes line ∷ is) r (typed UnsignedLong size ∷ rest (rest xs)) (zeros size ∷ bs) vs)
      (λ e. both (nat_lt (length (zeros size)) (2 ^ 31)) _ (below (length (zeros size)) (2 ^ 31) (omega (arith, zeros_size size, admitted size e))) (popped_two is r UnsignedLong xs (sizes_of bs) h))

  kept_draw : (words size line : ℕ) (is : List Item) (r : Active) (xs : List TypedNumber) (bs : List (List ℕ)) (vs : Variables) → fits file (draws words size line ∷ is) r.function (types_of xs) (sizes_of bs) ≡ true → KeepsFit (move_draw code first true words size line is r xs bs vs)
  kept_draw zero size line is r xs bs vs h =
      let have = top_size (sizes_of bs) in
      let m = of_five (has_top (sizes_of bs)) (nat_le have size) (nat_le (have + 8 * 0) (size + 7)) (nat_lt size (2 ^ 31)) (fits file is r.function (UnsignedLong ∷ rest_types (types_of xs)) (rest_sizes (sizes_of bs))) h in
      let a : have ≤ size = from_le have size m.1 in
      let b : size < 2 ^ 31 = from_below size (2 ^ 31) m.3 in
      all_three (has_top (sizes_of bs)) (nat_lt have (2 ^ 31)) _ m.0 (below have (2 ^ 31) (omega (arith, a, b))) m.4
  kept_draw (suc k) size line is r xs bs vs h =
      let have = top_size (sizes_of bs) in
      let m = of_five (has_top (sizes_of bs)) (nat_le have size) (nat_le (have + 8 * suc k) (size + 7)) (nat_lt size (2 ^ 31)) (fits file is r.function (UnsignedLong ∷ rest_types (types_of xs)) (rest_sizes (sizes_of bs))) h in
      let left : are_left (suc k) have size ≡ true = all_three (nat_le have size) (nat_le (have + 8 * suc k) (size + 7)) (nat_lt size (2 ^ 31)) m.1 m.2 m.3 in
      let count = drawn_count size (length (top_bytes bs)) in
      λ a shape. both (are_left k (length (top_bytes bs ++ low_bytes count (drawn a))) size) _ (fewer_left k have size (drawn a) (top_bytes bs) (sym (top_of_sizes bs)) left)
      (ap (fits file is r.function (UnsignedLong ∷ rest_types (types_of xs))) (sym (rest_of_sizes bs)) ∙ m.4)

  -- ---- loops

  stopped_kept : (b : Bool) (class : Class) (line : ℕ) → KeepsFit (if b then breaks class line else blocks)
  stopped_kept true class line = tt
  stopped_kept false class line = tt

  kept_turn : (n : ℕ) (loop : Loop) (is : List Item) (r : Active) (xs : List TypedNumber) (bs : List (List ℕ)) (vs : Variables) → fits file (turns n loop ∷ is) r.function (types_of xs) (sizes_of bs) ≡ true → KeepsFit (move_turn code first true n loop is r xs bs vs)
  kept_turn zero loop is r xs bs vs h = stopped_kept code.assertions Unwind loop.line
  kept_turn (suc n) loop is r xs bs vs h = search (rules, left_of, right_of, both)

  kept_test : (test : Option Expression) (n : ℕ) (loop : Loop) (is : List Item) (r : Active) (xs : List TypedNumber) (bs : List (List ℕ)) (vs : Variables) → loop.test ≡ test → fits file (retests n loop ∷ is) r.function (types_of xs) (sizes_of bs) ≡ true → KeepsFit (move_test code first true test n loop is r xs bs vs)
  kept_test None n loop is r xs bs vs e h = h
  kept_test (Some a) n loop is r xs bs vs e h =
      let is_a_test = ap (is_test (z r)) (sym e) ∙ left_of _ _ (left_of _ _ (left_of (is_loop (z r) loop) _ h)) in
      both (is_typed (z r) a) _ (right_of (is_integer (type_of a)) _ is_a_test) h

  kept_last : (last : Option Expression) (n : ℕ) (loop : Loop) (is : List Item) (r : Active) (xs : List TypedNumber) (bs : List (List ℕ)) (vs : Variables) → loop.last ≡ last → fits file (loops n loop ∷ is) r.function (types_of xs) (sizes_of bs) ≡ true → Fits file (state (part_items last (retests n loop ∷ is)) r xs bs vs)
  kept_last None n loop is r xs bs vs e h = h
  kept_last (Some a) n loop is r xs bs vs e h =
      both (is_typed (z r) a) _ (ap (is_typed_part (z r)) (sym e) ∙ right_of (is_test (z r) loop.test) _ (left_of _ _ (left_of (is_loop (z r) loop) _ h))) h

  repeating_kept : (b : Bool) (n : ℕ) (loop : Loop) (is : List Item) (r : Active) (xs : List TypedNumber) (bs : List (List ℕ)) (vs : Variables) → (is_loop (z r) loop && (fits file is r.function (types_of xs) (sizes_of bs) && exits_fit file is r.function (types_of xs) (sizes_of bs))) ≡ true →
      Fits file (state (if b then turns n loop ∷ is else is) r xs bs vs)
  repeating_kept true n loop is r xs bs vs h = h
  repeating_kept false n loop is r xs bs vs h = left_of _ _ (right_of (is_loop (z r) loop) _ h)

  selecting_kept : (b c : Bool) (items : Items) (x : ℕ) (is : List Item) (r : Active) (xs : List TypedNumber) (bs : List (List ℕ)) (vs : Variables) → (are_typed_items (z r) items && (fits file is r.function (types_of xs) (sizes_of bs) && exits_fit file is r.function (types_of xs) (sizes_of bs))) ≡ true →
      Fits file (state (if b then enters items ∷ goes_on (behind_case x items) ∷ switches items ∷ is else (if c then enters items ∷ goes_on (behind_default items) ∷ switches items ∷ is else is)) r xs bs vs)
  selecting_kept true c items x is r xs bs vs h =
      let t = left_of (are_typed_items (z r) items) _ h in
      let k = right_of (are_typed_items (z r) items) _ h in
      both (are_typed_items (z r) items) _ t (both (are_typed_items (z r) (behind_case x items)) _ (case_typed (z r) x items t) (both _ _ (left_of _ _ k) k))
  selecting_kept false true items x is r xs bs vs h =
      let t = left_of (are_typed_items (z r) items) _ h in
      let k = right_of (are_typed_items (z r) items) _ h in
      both (are_typed_items (z r) items) _ t (both (are_typed_items (z r) (behind_default items)) _ (default_typed (z r) items t) (both _ _ (left_of _ _ k) k))
  selecting_kept false false items x is r xs bs vs h = left_of _ _ (right_of (are_typed_items (z r) items) _ h)

  -- ---- calls

  kept_body : (want : Wanted) (f count : ℕ) (cs : List (List ℕ)) (body : Option Statement) (is : List Item) (r : Active) (xs : List TypedNumber) (bs : List (List ℕ)) (vs : Variables) → body_of (slice_get file.functions f) ≡ body → sizes_of vs ≡ variables_at file r.function → same_sizes (sizes_on count (sizes_of cs)) (passed_sizes (take count (parameters_at file f))) ≡ true →
      wanted_of want (signature_of file f) ≡ true → got file want (λ us ws. fits file is r.function us ws) (types_of xs) (sizes_of bs) ≡ true → KeepsFit (move_body code first true want f (blocks_on count cs) (meaning.sizes_of (variables_of (slice_get file.functions f))) body is r xs bs vs)
  kept_body want f count cs None is r xs bs vs e sized p w h = tt
  kept_body want f count cs (Some s) is r xs bs vs e sized p w h =
      let same : same_sizes (sizes_of vs) (variables_at file r.function) ≡ true = ap (λ zs. same_sizes zs (variables_at file r.function)) sized ∙ same_itself (variables_at file r.function) in
      let resumed = both (wanted_of want (signature_of file f) && same_sizes (sizes_of vs) (variables_at file r.function)) _ (both _ _ w same) h in
      let few = arguments_few file f count cs (parameters_there file all_typed f (slice_get file.functions f) refl s e) p in
      both (nat_le (0 + length (blocks_on count cs)) (length (declared_at file f))) _ few (both (is_typed_statement (sizes_for file f) s) _ (body_typed file all_typed f (slice_get file.functions f) refl s e) (both _ _ resumed resumed))

  kept_call : (b : Bool) (want : Wanted) (f count : ℕ) (cs : List (List ℕ)) (is : List Item) (r : Active) (xs : List TypedNumber) (bs : List (List ℕ)) (vs : Variables) → sizes_of vs ≡ variables_at file r.function → same_sizes (sizes_on count (sizes_of cs)) (passed_sizes (take count (parameters_at file f))) ≡ true →
      wanted_of want (signature_of file f) ≡ true → got file want (λ us ws. fits file is r.function us ws) (types_of xs) (sizes_of bs) ≡ true →
      KeepsFit (if b then (if code.assertions then breaks Recursion (line_of want) else blocks) else move_body code first true want f (blocks_on count cs) (meaning.sizes_of (variables_of (slice_get file.functions f))) (body_of (slice_get file.functions f)) is r xs bs vs)
  kept_call true want f count cs is r xs bs vs sized p w h = stopped_kept code.assertions Recursion (line_of want)
  kept_call false want f count cs is r xs bs vs sized p w h = kept_body want f count cs (body_of (slice_get file.functions f)) is r xs bs vs refl sized p w h

  drop_sizes : (count : ℕ) (bs : List (List ℕ)) → sizes_of (drop count bs) ≡ drop count (sizes_of bs)
  drop_sizes zero bs = refl
  drop_sizes (suc n) [] = refl
  drop_sizes (suc n) (b ∷ bs) = drop_sizes n bs

  kept_arguments : (ps : List PassedType) (want : Wanted) (f count : ℕ) (args : Arguments) (is : List Item) (r : Active) (xs : List TypedNumber) (bs : List (List ℕ)) (vs : Variables) → sizes_of vs ≡ variables_at file r.function → drop count (parameters_at file f) ≡ ps →
      fits file (gathers want f count args ∷ is) r.function (types_of xs) (sizes_of bs) ≡ true → KeepsFit (move_arguments code first true want f count args is r xs bs vs)
  kept_arguments ps want f count no_argument is r xs bs vs sized e h =
      let w = wanted_of want (signature_of file f) in
      let s = same_sizes (sizes_on count (sizes_of bs)) (passed_sizes (take count (parameters_at file f))) in
      let t = starts_thread no_argument want count || are_arguments (z r) (drop count (parameters_at file f)) no_argument in
      kept_call (slice_index r.left f == 0) want f count bs is r xs (drop count bs) vs sized (right_of w s (left_of (w && s) t (left_of (w && s && t) _ h))) (left_of w s (left_of (w && s) t (left_of (w && s && t) _ h)))
      (ap (λ zs. got file want (λ us ws. fits file is r.function us ws) (types_of xs) zs) (drop_sizes count bs) ∙ right_of (w && s && t) _ h)
  kept_arguments [] want f count (number_argument a more) is r xs bs vs sized e h =
      let w = wanted_of want (signature_of file f) in
      let s = same_sizes (sizes_on count (sizes_of bs)) (passed_sizes (take count (parameters_at file f))) in
      let t = are_arguments (z r) (drop count (parameters_at file f)) (number_argument a more) in
      absurd (false≢true (ap (λ qs. are_arguments (z r) qs (number_argument a more)) (sym e) ∙ right_of (w && s) t (left_of (w && s && t) _ h)))
  kept_arguments (p ∷ ps) want f count (number_argument a more) is r xs bs vs sized e h =
      let w = wanted_of want (signature_of file f) in
      let s = same_sizes (sizes_on count (sizes_of bs)) (passed_sizes (take count (parameters_at file f))) in
      let t = are_arguments (z r) (drop count (parameters_at file f)) (number_argument a more) in
      let there = ap (λ qs. are_arguments (z r) qs (number_argument a more)) (sym e) ∙ right_of (w && s) t (left_of (w && s && t) _ h) in
      let given = same_given (Some p) (given_as (type_of a)) in
      let kind = number_passed p (type_of a) (left_of given _ (left_of (given && is_typed (z r) a) _ there)) in
      let sizes = argument_fits (parameters_at file f) ps count p (sizes_of bs) (bytes (number_type a)) e (right_of w s (left_of (w && s) t (left_of (w && s && t) _ h))) kind in
      let others = ap (λ qs. are_arguments (z r) qs more) (dropped_more (parameters_at file f) ps count p e) ∙ right_of (given && is_typed (z r) a) _ there in
      both (is_typed (z r) a) _ (right_of given _ (left_of (given && is_typed (z r) a) _ there))
      (both (w && same_sizes (sizes_on (suc count) (bytes (number_type a) ∷ sizes_of bs)) (passed_sizes (take (suc count) (parameters_at file f))) && are_arguments (z r) (drop (suc count) (parameters_at file f)) more) _
      (both (w && same_sizes (sizes_on (suc count) (bytes (number_type a) ∷ sizes_of bs)) (passed_sizes (take (suc count) (parameters_at file f)))) _ (both w _ (left_of w s (left_of (w && s) t (left_of (w && s && t) _ h))) sizes) others)
      (right_of (w && s && t) _ h))
  kept_arguments [] want f count (structure_argument a more) is r xs bs vs sized e h =
      let w = wanted_of want (signature_of file f) in
      let s = same_sizes (sizes_on count (sizes_of bs)) (passed_sizes (take count (parameters_at file f))) in
      let t = are_arguments (z r) (drop count (parameters_at file f)) (structure_argument a more) in
      absurd (false≢true (ap (λ qs. are_arguments (z r) qs (structure_argument a more)) (sym e) ∙ right_of (w && s) t (left_of (w && s && t) _ h)))
  kept_arguments (p ∷ ps) want f count (structure_argument a more) is r xs bs vs sized e h =
      let w = wanted_of want (signature_of file f) in
      let s = same_sizes (sizes_on count (sizes_of bs)) (passed_sizes (take count (parameters_at file f))) in
      let t = are_arguments (z r) (drop count (parameters_at file f)) (structure_argument a more) in
      let there = ap (λ qs. are_arguments (z r) qs (structure_argument a more)) (sym e) ∙ right_of (w && s) t (left_of (w && s && t) _ h) in
      let given = same_passed p (passed.Structure (size_of a)) in
      let kind = structure_passed p (size_of a) (left_of given _ (left_of (given && is_structure (z r) a) _ there)) in
      let sizes = argument_fits (parameters_at file f) ps count p (sizes_of bs) (size_of a) e (right_of w s (left_of (w && s) t (left_of (w && s && t) _ h))) kind in
      let others = ap (λ qs. are_arguments (z r) qs more) (dropped_more (parameters_at file f) ps count p e) ∙ right_of (given && is_structure (z r) a) _ there in
      let first_call = starts_thread more want (suc count) in
      both (is_structure (z r) a) _ (right_of given _ (left_of (given && is_structure (z r) a) _ there))
      (both (w && same_sizes (sizes_on (suc count) (size_of a ∷ sizes_of bs)) (passed_sizes (take (suc count) (parameters_at file f))) && (first_call || are_arguments (z r) (drop (suc count) (parameters_at file f)) more)) _
      (both (w && same_sizes (sizes_on (suc count) (size_of a ∷ sizes_of bs)) (passed_sizes (take (suc count) (parameters_at file f)))) _ (both w _ (left_of w s (left_of (w && s) t (left_of (w && s && t) _ h))) sizes) (or_right first_call _ others))
      (right_of (w && s && t) _ h))

  using_kept : (used : Bool) (line : ℕ) (t : State) → Fits file t → KeepsFit (if used then breaks Return line else silent t)
  using_kept true line t h = tt
  using_kept false line t h = h

  kept_given : (want : Wanted) (how : Handed) (is : List Item) (r : Active) (xs : List TypedNumber) (bs : List (List ℕ)) (vs : Variables) → gets_this want how (types_of xs) (sizes_of bs) ≡ true →
      got file want (λ us ws. fits file is r.function us ws) (types_of (values_under how xs)) (sizes_of (structures_under how bs)) ≡ true →
      KeepsFit (move_given code first true want (given_by how xs bs) is r (values_under how xs) (structures_under how bs) vs)
  kept_given (wants_number line used t) by_nothing is r xs bs vs g h = using_kept used line _ h
  kept_given (wants_number line used t) by_number is r xs bs vs g h = h
  kept_given (wants_number line used t) by_structure is r xs bs vs g h = h
  kept_given (wants_structure line used size) by_nothing is r xs bs vs g h = using_kept used line _ (ap (λ n. fits file is r.function (types_of xs) (n ∷ sizes_of bs)) (zeros_size size) ∙ h)
  kept_given (wants_structure line used size) by_number is r xs bs vs g h = ap (λ n. fits file is r.function (types_of (rest xs)) (n ∷ sizes_of bs)) (zeros_size size) ∙ h
  kept_given (wants_structure line used size) by_structure is r xs bs vs g h =
      let e = from_same (top_size (sizes_of bs)) size (right_of (has_top (sizes_of bs)) _ g) in
      ap (λ n. fits file is r.function (types_of xs) (n ∷ sizes_of (rest_bytes bs))) (sym (top_of_sizes bs) ∙ e) ∙ h
  kept_given (wants_end line) by_nothing is r xs bs vs g h = refl
  kept_given (wants_end line) by_number is r xs bs vs g h = refl
  kept_given (wants_end line) by_structure is r xs bs vs g h = refl

  kept_item : (i : Item) (is : List Item) (r : Active) (xs : List TypedNumber) (bs : List (List ℕ)) (vs : Variables) → sizes_of vs ≡ variables_at file r.function → fits file (i ∷ is) r.function (types_of xs) (sizes_of bs) ≡ true → KeepsFit (move_item code first true i is r xs bs vs)
  kept_item (evaluates e) is r xs bs vs sized h = kept_expression e is r xs bs vs (left_of (is_typed (z r) e) _ h) (right_of (is_typed (z r) e) _ h)
  kept_item (converts to) is r xs bs vs sized h = popped is r to xs (sizes_of bs) h
  kept_item (signs line op) is r xs bs vs sized h =
      checked_kept (sign_check op (top xs).type (top xs).bits) line _ (ap (λ t. fits file is r.function (t ∷ types_of (rest xs)) (sizes_of bs)) (sym (top_types xs)) ∙ popped is r (top_type (types_of xs)) xs (sizes_of bs) h)
  kept_item negates is r xs bs vs sized h = popped is r Int xs (sizes_of bs) h
  kept_item (operates line op) is r xs bs vs sized h =
      let k = right_of (are_operands_of op (second_type (types_of xs)) (top_type (types_of xs))) _ h in
      checked_kept (arithmetic_check op (second xs).type (top xs).type (second xs).bits (top xs).bits) line _
      (ap (λ t. fits file is r.function (t ∷ types_of (rest (rest xs))) (sizes_of bs)) (sym (second_types xs)) ∙ popped_two is r (second_type (types_of xs)) xs (sizes_of bs) k)
  kept_item (compares op) is r xs bs vs sized h = popped_two is r Int xs (sizes_of bs) (right_of (same_width (second_type (types_of xs)) (top_type (types_of xs))) _ h)
  kept_item (decides_on op b) is r xs bs vs sized h =
      let k = popped is r Int xs (sizes_of bs) (right_of (is_typed (z r) b) _ h) in
      deciding_kept (decides op (top xs).bits) (state is r (typed Int (truth_bits (is_true (top xs).bits)) ∷ rest xs) bs vs) (state (evaluates b ∷ tests ∷ is) r (rest xs) bs vs) k (both (is_typed (z r) b) _ (left_of (is_typed (z r) b) _ h) k)
  kept_item tests is r xs bs vs sized h = popped is r Int xs (sizes_of bs) h
  kept_item (chooses a b) is r xs bs vs sized h =
      choosing_kept (is_true (top xs).bits) a b is r (types_of (rest xs)) (sizes_of bs)
      (ap (λ ts. is_typed (z r) a && is_typed (z r) b && same_width (number_type b) (number_type a) && fits file is r.function (number_type a ∷ ts) (sizes_of bs)) (sym (rest_of_types xs)) ∙ h)
  kept_item (retypes t) is r xs bs vs sized h = popped is r t xs (sizes_of bs) (right_of (same_width (top_type (types_of xs)) t) _ h)
  kept_item drops is r xs bs vs sized h = dropped is r xs (sizes_of bs) h
  kept_item (passes b) is r xs bs vs sized h = both (is_typed (z r) b) _ (left_of (is_typed (z r) b) _ h) (popped is r (number_type b) xs (sizes_of bs) (right_of (is_typed (z r) b) _ h))
  kept_item (asserts line) is r xs bs vs sized h = checked_kept (if is_true (top xs).bits then None else Some Assertion) line _ (popped is r Int xs (sizes_of bs) h)
  kept_item assumes is r xs bs vs sized h = assuming_kept (is_true (top xs).bits) _ (popped is r Int xs (sizes_of bs) h)
  kept_item (locates p) is r xs bs vs sized h = kept_place p is r xs bs vs (left_of (is_place (z r) 0 p) _ h) (right_of (is_place (z r) 0 p) _ h)
  kept_item (reaches offset) is r xs bs vs sized h = popped is r UnsignedLong xs (sizes_of bs) h
  kept_item (elements line size whole swapped) is r xs bs vs sized h = pointer_kept true (base swapped xs).bits whole (index_number swapped xs) (pos size) line (λ q. state is r (typed UnsignedLong q ∷ rest (rest xs)) bs vs) (λ q. popped_two is r UnsignedLong xs (sizes_of bs) h)
  kept_item (loads t p) is r xs bs vs sized h =
      number_kept (variable_of (running_of code r) p) (top xs).bits (bytes t) (place_line p) r vs _ (λ found. popped is r t xs (sizes_of bs) (right_of (is_place (z r) (bytes t) p) _ h))
  kept_item (stores line t p) is r xs bs vs sized h =
      let m = of_three (is_place (z r) (bytes t) p) (same_width (top_type (types_of xs)) t) _ h in
      put_kept (variable_of (running_of code r) p) (second xs).bits (low_bytes (bytes t) (top xs).bits) line r vs _ (λ now. popped_two is r t xs (sizes_of bs) m.2)
  kept_item (rewrites line t p at) is r xs bs vs sized h =
      let m = of_three (is_place (z r) (bytes t) p) (same_width (top_type (types_of xs)) t) _ h in
      put_kept (variable_of (running_of code r) p) at (low_bytes (bytes t) (top xs).bits) line r vs _ (λ now. popped is r t xs (sizes_of bs) m.2)
  kept_item (updates line t p op u) is r xs bs vs sized h =
      let m = of_three (is_place (z r) (bytes t) p) (are_operands_of op u (top_type (types_of xs))) _ h in
      number_kept (variable_of (running_of code r) p) (second xs).bits (bytes t) (place_line p) r vs _ (λ found. all_four (is_place (z r) (bytes t) p) (same_width t t) (are_operands_of op u (top_type (types_of xs))) _ m.0 (width_itself t) m.1 m.2)
  kept_item (combines line t p op u) is r xs bs vs sized h =
      let ts = types_of xs in
      let m = of_four (is_place (z r) (bytes t) p) (same_width (top_type ts) t) (are_operands_of op u (second_type ts)) _ h in
      checked_kept (arithmetic_check op u (second xs).type (converted t u (top xs).bits) (second xs).bits) line _
      (to_store line t p is r (types_of (rest (rest xs))) (sizes_of bs) m.0 (ap (λ us. fits file is r.function (t ∷ rest_types us) (sizes_of bs)) (sym (two_types xs)) ∙ m.3))
  kept_item (steps line t p op before) is r xs bs vs sized h = kept_steps line t p op before is r xs bs vs h
  kept_item (increments line t p op before at) is r xs bs vs sized h = kept_increment line t p op before at is r xs bs vs h
  kept_item (looks line n is_element swapped) is r xs bs vs sized h = λ a shape. h
  kept_item (lands line n is_element swapped) is r xs bs vs sized h =
      pointer_kept is_element (base swapped (rest xs)).bits (top xs).bits (index_number swapped (rest xs)) n line (λ q. state is r (typed UnsignedLong q ∷ rest (rest (rest xs))) bs vs) (λ q. popped_three is r UnsignedLong xs (sizes_of bs) h)
  kept_item (shifts line p n) is r xs bs vs sized h =
      let m = of_two (is_place (z r) 8 p) _ h in
      number_kept (variable_of (running_of code r) p) (second xs).bits (bytes UnsignedLong) (place_line p) r vs _ (λ found. to_store line UnsignedLong p is r (rest_types (types_of xs)) (sizes_of bs) m.0 m.1)
  kept_item (paces line p n before) is r xs bs vs sized h = kept_paces line p n before is r xs bs vs h
  kept_item (advances line p n before at) is r xs bs vs sized h = λ a shape. h
  kept_item (arrives line p n before at) is r xs bs vs sized h = kept_arrives line p n before at is r xs bs vs h
  kept_item (measures line n) is r xs bs vs sized h = checked_kept (if object_of (second xs).bits == object_of (top xs).bits then None else Some Pointer) line _ (popped_two is r Long xs (sizes_of bs) (right_of (nat_lt 0 n) _ h))
  kept_item (orders line op) is r xs bs vs sized h = checked_kept (if object_of (second xs).bits == object_of (top xs).bits then None else Some Pointer) line _ (popped_two is r Int xs (sizes_of bs) h)
  kept_item (claims line zeroed) is r xs bs vs sized h = if_kept code.malloc_may_fail _ _ (λ a shape. h) h
  kept_item (tries line zeroed) is r xs bs vs sized h = kept_try line zeroed is r xs bs vs h
  kept_item (admits line zeroed) is r xs bs vs sized h = kept_admission line zeroed is r xs bs vs h
  kept_item (draws words size line) is r xs bs vs sized h = kept_draw words size line is r xs bs vs h
  kept_item (makes line) is r xs bs vs sized h =
      let m = of_three (has_top (sizes_of bs)) (nat_lt (top_size (sizes_of bs)) (2 ^ 31)) _ h in
      λ a shape. popped is r UnsignedLong xs (sizes_of (rest_bytes bs)) (ap (fits file is r.function (UnsignedLong ∷ rest_types (types_of xs))) (sym (rest_of_sizes bs)) ∙ m.2)
  kept_item (releases line) is r xs bs vs sized h = if_kept ((top xs).bits == 0) _ _ (popped is r Int xs (sizes_of bs) h) (λ a shape. popped is r Int xs (sizes_of bs) h)
  kept_item (quits line) is r xs bs vs sized h = λ a shape. refl
  kept_item (evaluates_structure a) is r xs bs vs sized h = kept_structure a is r xs bs vs (left_of (is_structure (z r) a) _ h) (right_of (is_structure (z r) a) _ h)
  kept_item (picks t offset) is r xs bs vs sized h = ap (fits file is r.function (t ∷ types_of xs)) (sym (rest_of_sizes bs)) ∙ h
  kept_item discards is r xs bs vs sized h = popped is r Int xs (sizes_of bs) h
  kept_item discards_structure is r xs bs vs sized h = ap (fits file is r.function (Int ∷ types_of xs)) (sym (rest_of_sizes bs)) ∙ h
  kept_item (chooses_structure a b) is r xs bs vs sized h =
      choosing_structure_kept (is_true (top xs).bits) a b is r (types_of (rest xs)) (sizes_of bs)
      (ap (λ ts. is_structure (z r) a && is_structure (z r) b && size_of a == size_of b && fits file is r.function ts (size_of a ∷ sizes_of bs)) (sym (rest_of_types xs)) ∙ h)
  kept_item (copies p size) is r xs bs vs sized h =
      let m = of_two (is_place (z r) size p) (fits file is r.function (rest_types (types_of xs)) (size ∷ sizes_of bs)) h in
      bytes_kept (variable_of (running_of code r) p) (top xs).bits size (place_line p) r vs _ sized (λ found e. resized (λ n. fits file is r.function (types_of (rest xs)) (n ∷ sizes_of bs)) size (length found) e (dropped is r xs (size ∷ sizes_of bs) m.1))
  kept_item (stores_structure line p) is r xs bs vs sized h =
      let m = of_three (has_top (sizes_of bs)) (is_place (z r) (top_size (sizes_of bs)) p) _ h in
      put_kept (variable_of (running_of code r) p) (top xs).bits (top_bytes bs) line r vs _ (λ now. dropped is r xs (sizes_of bs) m.2)
  kept_item (passes_structure a) is r xs bs vs sized h = both (is_structure (z r) a) _ (left_of (is_structure (z r) a) _ h) (dropped is r xs (size_of a ∷ sizes_of bs) (right_of (is_structure (z r) a) _ h))
  kept_item (cuts offset size) is r xs bs vs sized h =
      let e = cut_size offset size bs (left_of (nat_le (offset + size) (top_size (sizes_of bs))) _ h) in
      ap (fits file is r.function (types_of xs)) e ∙ right_of (nat_le (offset + size) (top_size (sizes_of bs))) _ h
  kept_item (lists parts) is r xs bs vs sized h = kept_parts parts is r xs bs vs h
  kept_item (places_number offset t) is r xs bs vs sized h =
      let within = has_top (sizes_of bs) && nat_le (offset + bytes t) (top_size (sizes_of bs)) in
      let e = number_size offset t (top xs).bits bs (left_of within _ h) in
      ap (fits file is r.function (types_of (rest xs))) e ∙ dropped is r xs (sizes_of bs) (right_of within _ h)
  kept_item (places_structure offset) is r xs bs vs sized h =
      let within = has_top (rest_sizes (sizes_of bs)) && nat_le (offset + top_size (sizes_of bs)) (second_size (sizes_of bs)) in
      let e = joined_size offset bs (left_of within _ h) in
      ap (fits file is r.function (types_of xs)) e ∙ right_of within _ h
  kept_item (runs s) is r xs bs vs sized h = kept_statement s is r xs bs vs h
  kept_item (branches s) is r xs bs vs sized h =
      branching_kept (is_true (top xs).bits) s is r (rest xs) bs vs
      (ap (λ ts. is_typed_statement (z r) s && (fits file is r.function ts (sizes_of bs) && exits_fit file is r.function ts (sizes_of bs))) (sym (rest_of_types xs)) ∙ h)
  kept_item (divides s t) is r xs bs vs sized h =
      dividing_kept (is_true (top xs).bits) s t is r (rest xs) bs vs
      (ap (λ ts. is_typed_statement (z r) s && is_typed_statement (z r) t && (fits file is r.function ts (sizes_of bs) && exits_fit file is r.function ts (sizes_of bs))) (sym (rest_of_types xs)) ∙ h)
  kept_item (enters items) is r xs bs vs sized h = kept_entry items is r xs bs vs h
  kept_item (goes_on items) is r xs bs vs sized h = kept_items items is r xs bs vs h
  kept_item (ends_block items) is r xs bs vs sized h = h
  kept_item (leaves items) is r xs bs vs sized h = kept_end items is r xs bs vs h
  kept_item (fills words line v offset) is r xs bs vs sized h = kept_fill words line v offset is r xs bs vs h
  kept_item (settles line v) is r xs bs vs sized h =
      let m = of_three (is_variable file r.function v 0) _ (fits file is r.function (types_of xs) (sizes_of bs)) h in kept_settle (home_of (running_of code r) v) line v is r xs bs vs m.2
  kept_item (initial line v t) is r xs bs vs sized h =
      initial_kept (home_of (running_of code r) v) v (low_bytes (bytes t) (top xs).bits) line r vs _ (λ now. dropped is r xs (sizes_of bs) (right_of (is_variable file r.function v (bytes t)) _ h))
  kept_item (initial_structure line v) is r xs bs vs sized h =
      let m = of_three (has_top (sizes_of bs)) (is_variable file r.function v (top_size (sizes_of bs))) _ h in
      initial_kept (home_of (running_of code r) v) v (top_bytes bs) line r vs _ (λ now. ap (fits file is r.function (types_of xs)) (sym (rest_of_sizes bs)) ∙ m.2)
  kept_item (dies line v) is r xs bs vs sized h = kept_death (home_of (running_of code r) v) line is r xs bs vs h
  kept_item (enters_parameters count v) is r xs bs vs sized h = kept_parameters count v is r xs bs vs h
  kept_item (ends_parameters count) is r xs bs vs sized h = h
  kept_item (leaves_parameters count v) is r xs bs vs sized h = kept_last_parameters count v is r xs bs vs h
  kept_item (gathers want f count args) is r xs bs vs sized h = kept_arguments (drop count (parameters_at file f)) want f count args is r xs bs vs sized refl h
  kept_item (adds_number want f count t args) is r xs bs vs sized h =
      let e = number_bytes t (top xs).bits in
      let w = wanted_of want (signature_of file f) in
      let s = same_sizes (sizes_on (suc count) (length (low_bytes (bytes t) (top xs).bits) ∷ sizes_of bs)) (passed_sizes (take (suc count) (parameters_at file f))) in
      let there = are_arguments (z r) (drop (suc count) (parameters_at file f)) args in
      let g = got file want (λ us ws. fits file is r.function us ws) (types_of (rest xs)) (drop count (sizes_of bs)) in
      let first_call = starts_thread args want (suc count) in
      let k : (w && s && there && g) ≡ true =
      ap (λ n. w && same_sizes (sizes_on (suc count) (n ∷ sizes_of bs)) (passed_sizes (take (suc count) (parameters_at file f))) && there && g) e
      ∙ ap (λ ts. w && same_sizes (sizes_on (suc count) (bytes t ∷ sizes_of bs)) (passed_sizes (take (suc count) (parameters_at file f))) && there
      && got file want (λ us ws. fits file is r.function us ws) ts (drop count (sizes_of bs))) (sym (rest_of_types xs))
      ∙ h in
      both (w && s && (first_call || there)) g (both (w && s) _ (left_of (w && s) there (left_of (w && s && there) g k)) (or_right first_call there (right_of (w && s) there (left_of (w && s && there) g k)))) (right_of (w && s && there) g k)
  kept_item (resumes want caller saved) is r xs bs vs sized h = both true _ refl (right_of _ _ h)
  kept_item (goes_out way) is r xs bs vs sized h = out_fits file way is r xs bs vs h
  kept_item (gets want how) is r xs bs vs sized h =
      kept_given want how is r xs bs vs
      (left_of _ _ h) (ap (λ ts. got file want (λ us ws. fits file is r.function us ws) ts (sizes_of (structures_under how bs))) (sym (types_below how xs))
      ∙ ap (λ zs. got file want (λ us ws. fits file is r.function us ws) (types_under how (types_of xs)) zs) (sym (sizes_below how bs)) ∙ right_of _ _ h)
  kept_item (turns n loop) is r xs bs vs sized h = kept_turn n loop is r xs bs vs h
  kept_item (retests n loop) is r xs bs vs sized h = kept_test loop.test n loop is r xs bs vs refl h
  kept_item (repeats n loop) is r xs bs vs sized h =
      repeating_kept (is_true (top xs).bits) n loop is r (rest xs) bs vs (ap (λ ts. is_loop (z r) loop && (fits file is r.function ts (sizes_of bs) && exits_fit file is r.function ts (sizes_of bs))) (sym (rest_of_types xs)) ∙ h)
  kept_item (loops n loop) is r xs bs vs sized h = kept_last loop.last n loop is r xs bs vs refl h
  kept_item (selects items) is r xs bs vs sized h =
      selecting_kept (has_case items (top xs).bits) (has_default items) items (top xs).bits is r (rest xs) bs vs
      (ap (λ ts. are_typed_items (z r) items && (fits file is r.function ts (sizes_of bs) && exits_fit file is r.function ts (sizes_of bs))) (sym (rest_of_types xs)) ∙ h)
  kept_item (switches items) is r xs bs vs sized h = h
  kept_item strays is r xs bs vs sized h = tt
  kept_item (ending line x) is r xs bs vs sized h = λ a shape. refl
  kept_item (ended x) is r xs bs vs sized h = tt

  kept_from : (is : List Item) (r : Active) (xs : List TypedNumber) (bs : List (List ℕ)) (vs : Variables) → sizes_of vs ≡ variables_at file r.function → fits file is r.function (types_of xs) (sizes_of bs) ≡ true → KeepsFit (move code first true (state is r xs bs vs))
  kept_from [] r xs bs vs sized h = tt
  kept_from (i ∷ is) r xs bs vs sized h = kept_item i is r xs bs vs sized h

  pub fit_of_next : (s : State) → (let r = s.active in sizes_of s.variables ≡ variables_at file r.function) → Fits file s → KeepsFit (move code first true s)
  fit_of_next s sized h = kept_from s.items s.active s.values s.structures s.variables sized h

  pub fits_kept : (s t : State) → (let r = s.active in sizes_of s.variables ≡ variables_at file r.function) → Fits file s → move code first true s ≡ silent t → Fits file t
  fits_kept s t sized h e = subst KeepsFit e (fit_of_next s sized h)

  answered_kept : (m : Move) (a : Answer) (c : Change) (is : List Item) (r : Active) (xs : List TypedNumber) (bs : List (List ℕ)) (vs : Variables) → KeepsFit m → Accepts m a → Answers is r xs bs vs m a c → Fits file (changed c is r xs bs vs)
  answered_kept (asks action line follows) a c is r xs bs vs h d w = let P : State → Type 0 = Fits file in subst P w (h a d)
  answered_kept (silent t) a c is r xs bs vs h d w = absurd d
  answered_kept (breaks class line) a c is r xs bs vs h d w = absurd d
  answered_kept blocks a c is r xs bs vs h d w = absurd d
  answered_kept (ends v) a c is r xs bs vs h d w = absurd d

  pub fits_answered : (s : State) (a : Answer) (c : Change) → (let r = s.active in sizes_of s.variables ≡ variables_at file r.function) → Fits file s → Accepts (move code first true s) a →
      Answers (behind s.items) s.active s.values s.structures s.variables (move code first true s) a c → Fits file (changed c (behind s.items) s.active s.values s.structures s.variables)
  fits_answered s a c sized h d w =
      answered_kept (move code first true s) a c (behind s.items) s.active s.values s.structures s.variables (kept_from s.items s.active s.values s.structures s.variables sized h) d w
