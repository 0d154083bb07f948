-- Each step leaves the variables of the function that runs, by their sizes.
use Rattle.std.proofs.Common.{◌≡◌, ◌≤◌, ◌+◌, ◌-◌, ◌*◌, ◌==◌, ℕ, zero, suc, ℤ, pos, Bool, true, false, ◌&&◌, ◌||◌, nat_le, nat_lt, List, [], ◌∷◌, ◌++◌, length, take, drop, slice_set, Option, Some, None, slice_get, slice_index, if◌then◌else◌, refl, ap, sym, subst, ◌∙◌, arith}
use Rattle.std.proofs.lemmas.Bool.{false≢true}
use Rattle.words.specs.declared.check.Class.{Class}
use Rattle.words.specs.declared.check.Class.TheVariants.{Assertion, Return, Unwind, Recursion, Bounds, Pointer}
use Rattle.c_types.specs.declared.integers.IntegerType.TheVariants.{UnsignedLong}
use Rattle.c_types.specs.Integers.{bytes, promoted}
use Rattle.core_tree.specs.declared.functions.PassedType.{PassedType}
use Rattle.core_tree.specs.Ranges.{Limits}
use Rattle.core_tree.specs.Trees as trees
use Rattle.core_tree.specs.Trees.{Place, element, subscript, Expression, sum, Structure, string, Parts, no_part, Arguments, no_argument, number_argument, structure_argument, Statement, block, Items, done, initializes, initializes_structure, TypedFile}
use Rattle.core_tree.specs.Typed.{Sizes, is_within, are_arguments, are_typed}
use Rattle.core_tree.specs.Operations.{is_true, converted, arithmetic_check, sign_check}
use Rattle.actions.specs.declared.action.Answer.{Answer}
use Rattle.actions.specs.Pointer.{object_of, offset_of}
use Rattle.c_values.specs.Pointers.{in_range, offset_by}
use Rattle.c_values.specs.Variables.{Variables, low_bytes, put_at, drawn_count, pointer_to, block_of, put_bytes, cleared, first_variables}
use Rattle.c_values.specs.Numbers.{TypedNumber, typed}
use Rattle.c_meaning.specs.Meaning as meaning
use Rattle.c_meaning.specs.Meaning.{Given, Code, decides, bytes_in, number_in, drawn, place_line, variable_of, home_of, body_of, variables_of}
use Rattle.c_meaning.specs.Source.{code_of}
use Rattle.c_tasks.specs.Items.{top, rest, second, top_bytes, Active, running_of, base, index_number, Wanted, wants_number, wants_structure, wants_end, line_of, Handed, Way, by_break, by_continue, by_jump, by_return, given_by, values_under, structures_under, blocks_on, Loop, Item, evaluates, signs, operates, decides_on, drops, asserts, assumes, locates, elements, loads, stores, rewrites, updates, combines, steps, increments, looks, lands, shifts, paces, advances, arrives, measures, orders, claims, tries, admits, draws, makes, releases, quits, evaluates_structure, copies, stores_structure, lists, runs, enters, goes_on, ends_block, leaves, fills, settles, initial, initial_structure, dies, enters_parameters, ends_parameters, leaves_parameters, gathers, resumes, goes_out, gets, turns, retests, loops, switches, strays, ending, ended, State, state}
use Rattle.c_tasks.specs.Fits.{top_size, has_top, sizes_of, has_words, holds_address, home_at, sizes_on, passed_sizes, same_sizes, types_of, handed_of, wanted_of, starts_thread, signature_of, gives_at, declared_at, variables_at, parameters_at, sizes_for, is_variable, exits_fit, fits, Fits, IsSized, types_under, sizes_under}
use Rattle.c_tasks.specs.Steps.{Move, silent, asks, breaks, blocks, ends, behind_label, jumped, out_of, unless_stopped, move_bytes, move_put, move_pointer, move_place, move_expression, move_structure, move_parts, move_statement, move_fill, move_entry, move_settle, move_initial, move_death, move_end, move_parameters, move_last, move_claim, move_admission, move_draw, move_items, move_turn, move_test, move_body, move_arguments, move_given, move_item, move}
use Rattle.c_interp.specs.inner.FitsKept.{few_low}
use Rattle.c_interp.specs.inner.CallsFit.{same_lists, frame_sizes, blocks_sizes, taken_all, parameters_there}
use Rattle.c_meaning.proofs.Holding.{left_of, right_of}
use Rattle.c_tasks.proofs.Places.{size_listed}
use Rattle.c_tasks.proofs.Sizes.{put_size, block_size, first_sizes, zeros_size, top_of_sizes, number_bytes}
use Rattle.c_meaning.proofs.Holding.{from_le}

-- ---- writes

set_sizes : (vs : Variables) (v : ℕ) (new : List ℕ) → length new ≡ length (block_of vs v) → sizes_of (slice_set vs v new) ≡ sizes_of vs
set_sizes [] v new h = refl
set_sizes (b ∷ vs) zero new h = λ i. h i ∷ sizes_of vs
set_sizes (b ∷ vs) (suc v) new h = ap (λ zs. length b ∷ zs) (set_sizes vs v new h)

put_sizes : (vs : Variables) (sizes : List ℕ) (v offset : ℕ) (new : List ℕ) → sizes_of vs ≡ sizes → offset + length new ≤ slice_index sizes v → sizes_of (put_bytes vs v offset new) ≡ sizes
put_sizes vs sizes v offset new sized within = set_sizes vs v (put_at offset new (block_of vs v)) (put_size offset new (block_of vs v) (omega (arith, within, block_size vs sizes v sized))) ∙ sized

put_within : (vs : Variables) (sizes : List ℕ) (v offset size : ℕ) (new : List ℕ) → sizes_of vs ≡ sizes → length new ≡ size → is_within sizes v offset size ≡ true → sizes_of (put_bytes vs v offset new) ≡ sizes
put_within vs sizes v offset size new sized e h =
    let within : offset + size ≤ slice_index sizes v = from_le (offset + size) (slice_index sizes v) (right_of (nat_lt v (length sizes)) (nat_le (offset + size) (slice_index sizes v)) h) in
    put_sizes vs sizes v offset new sized (omega (arith, within, e))

cleared_sizes : (vs : Variables) (sizes : List ℕ) (v n : ℕ) → sizes_of vs ≡ sizes → n ≡ slice_index sizes v → sizes_of (cleared vs v n) ≡ sizes
cleared_sizes vs sizes v n sized e = set_sizes vs v _ (zeros_size n ∙ e ∙ sym (block_size vs sizes v sized)) ∙ sized

no_parameters : (z : Sizes) (ps : List PassedType) → are_arguments z ps no_argument ≡ true → ps ≡ []
no_parameters z [] h = refl
no_parameters z (p ∷ ps) h = absurd (false≢true h)

module _ (file : TypedFile) (limits : Limits) (first : Bool) (all_typed : are_typed file ≡ true) where
  abbrev code : Code
  code = code_of file limits

  abbrev pub KeepsSizes : Move → Type 0
  KeepsSizes (silent t) = IsSized file t
  KeepsSizes (asks action line follows) = (a : Answer) → IsSized file (follows a)
  KeepsSizes (breaks class line) = Unit {0}
  KeepsSizes blocks = Unit {0}
  KeepsSizes (ends v) = Unit {0}

  checked : (c : Option Class) (line : ℕ) (t : State) → IsSized file t → KeepsSizes (unless_stopped code first true c line t)
  checked None line t h = h
  checked (Some class) line t h = tt

  stopped : (b : Bool) (class : Class) (line : ℕ) → KeepsSizes (if b then breaks class line else blocks)
  stopped true class line = tt
  stopped false class line = tt

  chosen : (b : Bool) (m n : Move) → KeepsSizes m → KeepsSizes n → KeepsSizes (if b then m else n)
  chosen true m n h k = h
  chosen false m n h k = k

  tested : (b : Bool) (class : Class) (line : ℕ) (t : State) → (b ≡ true → IsSized file t) → KeepsSizes (if b then silent t else breaks class line)
  tested true class line t h = h refl
  tested false class line t h = tt

  used_value : (b : Bool) (line : ℕ) (t : State) → IsSized file t → KeepsSizes (if b then breaks Return line else silent t)
  used_value true line t h = tt
  used_value false line t h = h

  either : (b : Bool) (s t : State) → IsSized file s → IsSized file t → IsSized file (if b then s else t)
  either true s t h k = h
  either false s t h k = k

  assumed : (b : Bool) (t : State) → IsSized file t → KeepsSizes (if b then silent t else blocks)
  assumed true t h = h
  assumed false t h = tt

  size_is : (r : Active) (v : ℕ) → meaning.size_of (running_of code r) v ≡ slice_index (variables_at file r.function) v
  size_is r v = size_listed (declared_at file r.function) v

  -- ---- ways out

  jumped_sized : (o : Option Items) (further : State) (next : Items → State) → IsSized file further → ((more : Items) → IsSized file (next more)) → IsSized file (jumped o further next)
  jumped_sized None further next h k = h
  jumped_sized (Some more) further next h k = k more

  resumed : (want : Wanted) (caller : ℕ) (saved : Variables) (is : List Item) (f : ℕ) (b : Bool) → (wanted_of want (signature_of file f) && same_sizes (sizes_of saved) (variables_at file caller) && b) ≡ true → sizes_of saved ≡ variables_at file caller
  resumed want caller saved is f b k =
      let w = wanted_of want (signature_of file f) in
      let s = same_sizes (sizes_of saved) (variables_at file caller) in
      same_lists (sizes_of saved) (variables_at file caller) (right_of w s (left_of (w && s) b k))

  break_sized : (is : List Item) (r : Active) (xs : List TypedNumber) (bs : List (List ℕ)) (vs : Variables) → sizes_of vs ≡ variables_at file r.function → IsSized file (out_of by_break is r xs bs vs)
  break_sized [] r xs bs vs h = h
  break_sized (ends_block items ∷ is) r xs bs vs h = h
  break_sized (ends_parameters count ∷ is) r xs bs vs h = h
  break_sized (switches items ∷ is) r xs bs vs h = h
  break_sized (loops n loop ∷ is) r xs bs vs h = h
  break_sized (resumes want caller saved ∷ is) r xs bs vs h = h
  break_sized (_ ∷ is) r xs bs vs h = break_sized is r xs bs vs h

  continue_sized : (is : List Item) (r : Active) (xs : List TypedNumber) (bs : List (List ℕ)) (vs : Variables) → sizes_of vs ≡ variables_at file r.function → IsSized file (out_of by_continue is r xs bs vs)
  continue_sized [] r xs bs vs h = h
  continue_sized (ends_block items ∷ is) r xs bs vs h = h
  continue_sized (ends_parameters count ∷ is) r xs bs vs h = h
  continue_sized (switches items ∷ is) r xs bs vs h = h
  continue_sized (loops n loop ∷ is) r xs bs vs h = h
  continue_sized (resumes want caller saved ∷ is) r xs bs vs h = h
  continue_sized (_ ∷ is) r xs bs vs h = continue_sized is r xs bs vs h

  jump_sized : (n : ℕ) (is : List Item) (r : Active) (xs : List TypedNumber) (bs : List (List ℕ)) (vs : Variables) → sizes_of vs ≡ variables_at file r.function → IsSized file (out_of (by_jump n) is r xs bs vs)
  jump_sized n [] r xs bs vs h = h
  jump_sized n (ends_block items ∷ is) r xs bs vs h = h
  jump_sized n (ends_parameters count ∷ is) r xs bs vs h = h
  jump_sized n (switches items ∷ is) r xs bs vs h = h
  jump_sized n (goes_on items ∷ is) r xs bs vs h = jumped_sized (behind_label n items) _ _ (jump_sized n is r xs bs vs h) (λ more. h)
  jump_sized n (resumes want caller saved ∷ is) r xs bs vs h = h
  jump_sized n (_ ∷ is) r xs bs vs h = jump_sized n is r xs bs vs h

  return_sized : (how : Handed) (is : List Item) (r : Active) (xs : List TypedNumber) (bs : List (List ℕ)) (vs : Variables) → sizes_of vs ≡ variables_at file r.function → exits_fit file is r.function (types_under how (types_of xs)) (sizes_under how (sizes_of bs)) ≡ true → IsSized file (out_of (by_return how) is r xs bs vs)
  return_sized how [] r xs bs vs h k = h
  return_sized how (ends_block items ∷ is) r xs bs vs h k = h
  return_sized how (ends_parameters count ∷ is) r xs bs vs h k = h
  return_sized how (switches items ∷ is) r xs bs vs h k = h
  return_sized how (loops n loop ∷ is) r xs bs vs h k = return_sized how is r xs bs vs h (right_of _ _ (right_of _ _ k))
  return_sized how (goes_on items ∷ is) r xs bs vs h k = return_sized how is r xs bs vs h (right_of _ _ (right_of _ _ k))
  return_sized how (resumes want caller saved ∷ is) r xs bs vs h k = resumed want caller saved is r.function _ k
  return_sized how (_ ∷ is) r xs bs vs h k = return_sized how is r xs bs vs h k

  out_sized : (way : Way) (is : List Item) (r : Active) (xs : List TypedNumber) (bs : List (List ℕ)) (vs : Variables) → sizes_of vs ≡ variables_at file r.function → fits file (goes_out way ∷ is) r.function (types_of xs) (sizes_of bs) ≡ true → IsSized file (out_of way is r xs bs vs)
  out_sized by_break is r xs bs vs h k = break_sized is r xs bs vs h
  out_sized by_continue is r xs bs vs h k = continue_sized is r xs bs vs h
  out_sized (by_jump n) is r xs bs vs h k = jump_sized n is r xs bs vs h
  out_sized (by_return how) is r xs bs vs h k = return_sized how is r xs bs vs h (right_of (handed_of how (gives_at file r.function) (types_of xs) (sizes_of bs)) _ k)

  -- ---- calls

  module _ (f : ℕ) (s : Statement) (e : body_of (slice_get file.functions f) ≡ Some s) where
    passed : (z : Sizes) (count : ℕ) (bs : List (List ℕ)) → same_sizes (sizes_on count (sizes_of bs)) (passed_sizes (take count (parameters_at file f))) ≡ true → are_arguments z (drop count (parameters_at file f)) no_argument ≡ true →
        (let args = blocks_on count bs in sizes_of (args ++ first_variables (drop (length args) (variables_at file f)))) ≡ variables_at file f
    passed z count bs h t =
        let ps = parameters_at file f in
        let all : take count ps ≡ ps = taken_all ps count (no_parameters z (drop count ps) t) in
        let same : same_sizes (sizes_of (blocks_on count bs)) (passed_sizes ps) ≡ true =
        ap (λ zs. same_sizes zs (passed_sizes ps)) (blocks_sizes count bs) ∙ ap (λ qs. same_sizes (sizes_on count (sizes_of bs)) (passed_sizes qs)) (sym all) ∙ h in
        frame_sizes (blocks_on count bs) ps (variables_at file f) (parameters_there file all_typed f (slice_get file.functions f) refl s e) same

    begun : (z : Sizes) (want : Wanted) (count : ℕ) (bs : List (List ℕ)) → same_sizes (sizes_on count (sizes_of bs)) (passed_sizes (take count (parameters_at file f))) ≡ true → (starts_thread no_argument want count || are_arguments z (drop count (parameters_at file f)) no_argument) ≡ true →
        (let args = blocks_on count bs in sizes_of (args ++ first_variables (drop (length args) (variables_at file f)))) ≡ variables_at file f
    begun z (wants_end line) zero bs h t = first_sizes (variables_at file f)
    begun z (wants_end line) (suc n) bs h t = passed z (suc n) bs h t
    begun z (wants_number line used t) count bs h u = passed z count bs h u
    begun z (wants_structure line used size) count bs h t = passed z count bs h t

  module _ (z : Sizes) (want : Wanted) (f count : ℕ) (is : List Item) (r : Active) (xs : List TypedNumber) (bs : List (List ℕ)) (vs : Variables) (h : same_sizes (sizes_on count (sizes_of bs)) (passed_sizes (take count (parameters_at file f))) ≡ true)
      (t : (starts_thread no_argument want count || are_arguments z (drop count (parameters_at file f)) no_argument) ≡ true) where
    body_sized : (body : Option Statement) → body_of (slice_get file.functions f) ≡ body → KeepsSizes (move_body code first true want f (blocks_on count bs) (meaning.sizes_of (variables_of (slice_get file.functions f))) body is r xs (drop count bs) vs)
    body_sized None e = tt
    body_sized (Some s) e = begun f s e z want count bs h t

    call_sized : (b : Bool) → KeepsSizes (if b then (if code.assertions then breaks Recursion (line_of want) else blocks) else move_body code first true want f (blocks_on count bs) (meaning.sizes_of (variables_of (slice_get file.functions f))) (body_of (slice_get file.functions f)) is r xs (drop count bs) vs)
    call_sized true = stopped code.assertions Recursion (line_of want)
    call_sized false = body_sized (body_of (slice_get file.functions f)) refl

  -- ---- moves

  module _ (r : Active) (vs : Variables) (sized : sizes_of vs ≡ variables_at file r.function) where
    bytes_sized : (o : Option ℕ) (at count line : ℕ) (next : List ℕ → State) → ((found : List ℕ) → IsSized file (next found)) → KeepsSizes (move_bytes code first true o at count line r vs next)
    bytes_sized (Some v) at count line next h = chosen (nat_le (offset_of at + count) (meaning.size_of (running_of code r) v)) _ _ (h _) tt
    bytes_sized None at count line next h = λ a. h (bytes_in a)

    put_sized : (o : Option ℕ) (at : ℕ) (new : List ℕ) (line : ℕ) (next : Variables → State) → ((now : Variables) → sizes_of now ≡ variables_at file r.function → IsSized file (next now)) → KeepsSizes (move_put code first true o at new line r vs next)
    put_sized (Some v) at new line next h =
        let n = meaning.size_of (running_of code r) v in
        tested (nat_le (offset_of at + length new) n) Bounds line (next (put_bytes vs v (offset_of at) new)) (λ e.
        let l : offset_of at + length new ≤ n = from_le (offset_of at + length new) n e in
        h (put_bytes vs v (offset_of at) new) (put_sizes vs (variables_at file r.function) v (offset_of at) new sized (omega (arith, l, size_is r v))))
    put_sized None at new line next h = λ a. h vs sized

    pointer_sized : (is_element : Bool) (p size : ℕ) (index stride : ℤ) (line : ℕ) (next : ℕ → State) → ((q : ℕ) → IsSized file (next q)) → KeepsSizes (move_pointer code first true is_element p size index stride line next)
    pointer_sized is_element p size index stride line next h = chosen (in_range (offset_by (offset_of p) index stride) size) _ _ (h _) tt

    initial_sized : (home : Option ℕ) (v size : ℕ) (new : List ℕ) (line : ℕ) (next : Variables → State) → length new ≡ size → is_variable file r.function v size ≡ true → ((now : Variables) → sizes_of now ≡ variables_at file r.function → IsSized file (next now)) → KeepsSizes (move_initial code first true home v new line r vs next)
    initial_sized None v size new line next e there h = h (put_bytes vs v 0 new) (put_within vs (variables_at file r.function) v 0 size new sized e there)
    initial_sized (Some home) v size new line next e there h = λ a. h vs sized

  module _ (is : List Item) (r : Active) (xs : List TypedNumber) (bs : List (List ℕ)) (vs : Variables) (sized : sizes_of vs ≡ variables_at file r.function) where
    place_sized : (p : Place) → KeepsSizes (move_place code first true p is r xs bs vs)
    place_sized (element line p e size whole true) = sized
    place_sized (element line p e size whole false) = sized
    place_sized (subscript line a e size true) = sized
    place_sized (subscript line a e size false) = sized
    place_sized _ = sized

    expression_sized : (e : Expression) → KeepsSizes (move_expression code first true e is r xs bs vs)
    expression_sized (sum line a e n true) = sized
    expression_sized (sum line a e n false) = sized
    expression_sized (trees.draw line t) = λ a. sized
    expression_sized _ = sized

    structure_sized : (a : Structure) → KeepsSizes (move_structure code first true a is r xs bs vs)
    structure_sized (string line size text) = sized
    structure_sized _ = sized

    parts_sized : (parts : Parts) → KeepsSizes (move_parts code first true parts is r xs bs vs)
    parts_sized no_part = sized
    parts_sized _ = sized

    statement_sized : (s : Statement) → KeepsSizes (move_statement code first true s is r xs bs vs)
    statement_sized (block items) = sized
    statement_sized _ = sized

    entry_sized : (items : Items) → KeepsSizes (move_entry code first true items is r xs bs vs)
    entry_sized (initializes line v true e more) = sized
    entry_sized (initializes line v false e more) = cleared_sizes vs (variables_at file r.function) v (meaning.size_of (running_of code r) v) sized (size_is r v)
    entry_sized (initializes_structure line v true a more) = sized
    entry_sized (initializes_structure line v false a more) = cleared_sizes vs (variables_at file r.function) v (meaning.size_of (running_of code r) v) sized (size_is r v)
    entry_sized _ = sized

    fill_sized : (words line v offset : ℕ) → has_words (variables_at file r.function) v offset words ≡ true → KeepsSizes (move_fill code first true words line v offset is r xs bs vs)
    fill_sized zero line v offset h = sized
    fill_sized (suc k) line v offset h =
        let sizes = variables_at file r.function in
        let count = drawn_count (meaning.size_of (running_of code r) v) offset in
        let within : offset + 8 * suc k ≤ slice_index sizes v + 7 = from_le (offset + 8 * suc k) (slice_index sizes v + 7) (right_of (nat_lt v (length sizes)) (nat_le (offset + 8 * suc k) (slice_index sizes v + 7)) h) in
        let e = size_is r v in
        let c : count ≤ meaning.size_of (running_of code r) v - offset = omega arith in
        λ a. let l = few_low count (drawn a) in put_sizes vs sizes v offset (low_bytes count (drawn a)) sized (omega (arith, within, e, c, l))

    settle_sized : (home : Option ℕ) (line v : ℕ) → holds_address (variables_at file r.function) home ≡ true → KeepsSizes (move_settle code first true home line v is r xs bs vs)
    settle_sized None line v h = sized
    settle_sized (Some home) line v h = λ a. put_within vs (variables_at file r.function) home 0 8 (low_bytes (bytes UnsignedLong) (pointer_to (number_in a) 0)) sized (number_bytes UnsignedLong (pointer_to (number_in a) 0)) h

    death_sized : (home : Option ℕ) (line : ℕ) → KeepsSizes (move_death code first true home line is r xs bs vs)
    death_sized None line = sized
    death_sized (Some h) line = λ a. sized

    end_sized : (items : Items) → KeepsSizes (move_end code first true items is r xs bs vs)
    end_sized done = sized
    end_sized _ = sized

    parameters_sized : (count v : ℕ) → KeepsSizes (move_parameters code first true count v is r xs bs vs)
    parameters_sized zero v = sized
    parameters_sized (suc count) v = sized

    last_sized : (count v : ℕ) → KeepsSizes (move_last code first true count v is r xs bs vs)
    last_sized zero v = sized
    last_sized (suc count) v = sized

    claim_sized : (line : ℕ) (zeroed : Bool) → KeepsSizes (move_claim code first true line zeroed is r xs bs vs)
    claim_sized line zeroed = chosen code.malloc_may_fail _ _ (λ a. sized) sized

    admission_sized : (line : ℕ) (zeroed : Bool) → KeepsSizes (move_admission code first true line zeroed is r xs bs vs)
    admission_sized line false = chosen (nat_le (top xs).bits code.malloc_limit) _ _ sized tt
    admission_sized line true = chosen (nat_le ((second xs).bits * (top xs).bits) code.malloc_limit) _ _ sized tt

    draw_sized : (words size line : ℕ) → KeepsSizes (move_draw code first true words size line is r xs bs vs)
    draw_sized zero size line = sized
    draw_sized (suc k) size line = λ a. sized

    items_sized : (items : Items) → KeepsSizes (move_items code first true items is r xs bs vs)
    items_sized done = sized
    items_sized _ = sized

    turn_sized : (n : ℕ) (loop : Loop) → KeepsSizes (move_turn code first true n loop is r xs bs vs)
    turn_sized zero loop = stopped code.assertions Unwind loop.line
    turn_sized (suc n) loop = sized

    test_sized : (test : Option Expression) (n : ℕ) (loop : Loop) → KeepsSizes (move_test code first true test n loop is r xs bs vs)
    test_sized None n loop = sized
    test_sized (Some e) n loop = sized

    given_sized : (want : Wanted) (given : Given) → KeepsSizes (move_given code first true want given is r xs bs vs)
    given_sized (wants_number line used t) meaning.nothing = used_value used line _ sized
    given_sized (wants_number line used t) (meaning.number x) = sized
    given_sized (wants_number line used t) (meaning.structure value) = sized
    given_sized (wants_structure line used size) meaning.nothing = used_value used line _ sized
    given_sized (wants_structure line used size) (meaning.number x) = sized
    given_sized (wants_structure line used size) (meaning.structure value) = sized
    given_sized (wants_end line) given = sized

  arguments_sized : (want : Wanted) (f count : ℕ) (args : Arguments) (is : List Item) (r : Active) (xs : List TypedNumber) (bs : List (List ℕ)) (vs : Variables) → sizes_of vs ≡ variables_at file r.function → fits file (gathers want f count args ∷ is) r.function (types_of xs) (sizes_of bs) ≡ true →
      KeepsSizes (move_arguments code first true want f count args is r xs bs vs)
  arguments_sized want f count no_argument is r xs bs vs sized h =
      let z = sizes_for file r.function in
      let w = wanted_of want (signature_of file f) in
      let s = same_sizes (sizes_on count (sizes_of bs)) (passed_sizes (take count (parameters_at file f))) in
      let t = starts_thread no_argument want count || are_arguments z (drop count (parameters_at file f)) no_argument in
      call_sized z want f count is r xs bs vs (right_of w s (left_of (w && s) t (left_of (w && s && t) _ h))) (right_of (w && s) t (left_of (w && s && t) _ h)) (slice_index r.left f == 0)
  arguments_sized want f count (number_argument e more) is r xs bs vs sized h = sized
  arguments_sized want f count (structure_argument a more) is r xs bs vs sized h = sized

  item_sized : (i : Item) (is : List Item) (r : Active) (xs : List TypedNumber) (bs : List (List ℕ)) (vs : Variables) → sizes_of vs ≡ variables_at file r.function → fits file (i ∷ is) r.function (types_of xs) (sizes_of bs) ≡ true → KeepsSizes (move_item code first true i is r xs bs vs)
  item_sized (evaluates e) is r xs bs vs sized h = expression_sized is r xs bs vs sized e
  item_sized (signs line op) is r xs bs vs sized h = checked (sign_check op (top xs).type (top xs).bits) line _ sized
  item_sized (operates line op) is r xs bs vs sized h = checked (arithmetic_check op (second xs).type (top xs).type (second xs).bits (top xs).bits) line _ sized
  item_sized (decides_on op b) is r xs bs vs sized h = either (decides op (top xs).bits) _ _ sized sized
  item_sized (asserts line) is r xs bs vs sized h = checked (if is_true (top xs).bits then None else Some Assertion) line _ sized
  item_sized assumes is r xs bs vs sized h = assumed (is_true (top xs).bits) _ sized
  item_sized (locates p) is r xs bs vs sized h = place_sized is r xs bs vs sized p
  item_sized (elements line size whole swapped) is r xs bs vs sized h = pointer_sized r vs sized true (base swapped xs).bits whole (index_number swapped xs) (pos size) line (λ q. state is r (typed UnsignedLong q ∷ rest (rest xs)) bs vs) (λ q. sized)
  item_sized (loads t p) is r xs bs vs sized h = bytes_sized r vs sized (variable_of (running_of code r) p) (top xs).bits (bytes t) (place_line p) _ (λ found. sized)
  item_sized (stores line t p) is r xs bs vs sized h = put_sized r vs sized (variable_of (running_of code r) p) (second xs).bits (low_bytes (bytes t) (top xs).bits) line _ (λ now e. e)
  item_sized (rewrites line t p at) is r xs bs vs sized h = put_sized r vs sized (variable_of (running_of code r) p) at (low_bytes (bytes t) (top xs).bits) line _ (λ now e. e)
  item_sized (updates line t p op u) is r xs bs vs sized h = bytes_sized r vs sized (variable_of (running_of code r) p) (second xs).bits (bytes t) (place_line p) _ (λ found. sized)
  item_sized (combines line t p op u) is r xs bs vs sized h = checked (arithmetic_check op u (second xs).type (converted t u (top xs).bits) (second xs).bits) line _ sized
  item_sized (steps line t p op before) is r xs bs vs sized h = bytes_sized r vs sized (variable_of (running_of code r) p) (top xs).bits (bytes t) (place_line p) _ (λ found. sized)
  item_sized (increments line t p op before at) is r xs bs vs sized h = let u = promoted t in checked (arithmetic_check op u u (converted t u (top xs).bits) 1) line _ sized
  item_sized (looks line n is_element swapped) is r xs bs vs sized h = λ a. sized
  item_sized (lands line n is_element swapped) is r xs bs vs sized h = pointer_sized r vs sized is_element (base swapped (rest xs)).bits (top xs).bits (index_number swapped (rest xs)) n line (λ q. state is r (typed UnsignedLong q ∷ rest (rest (rest xs))) bs vs) (λ q. sized)
  item_sized (shifts line p n) is r xs bs vs sized h = bytes_sized r vs sized (variable_of (running_of code r) p) (second xs).bits (bytes UnsignedLong) (place_line p) _ (λ found. sized)
  item_sized (paces line p n before) is r xs bs vs sized h = bytes_sized r vs sized (variable_of (running_of code r) p) (top xs).bits (bytes UnsignedLong) (place_line p) _ (λ found. sized)
  item_sized (advances line p n before at) is r xs bs vs sized h = λ a. sized
  item_sized (arrives line p n before at) is r xs bs vs sized h = pointer_sized r vs sized false (second xs).bits (top xs).bits (pos 1) n line (λ q. state (rewrites line UnsignedLong p at ∷ (if before then is else drops ∷ is)) r (typed UnsignedLong q ∷ (if before then rest (rest xs) else rest xs)) bs vs) (λ q. sized)
  item_sized (measures line n) is r xs bs vs sized h = checked (if object_of (second xs).bits == object_of (top xs).bits then None else Some Pointer) line _ sized
  item_sized (orders line op) is r xs bs vs sized h = checked (if object_of (second xs).bits == object_of (top xs).bits then None else Some Pointer) line _ sized
  item_sized (claims line zeroed) is r xs bs vs sized h = claim_sized is r xs bs vs sized line zeroed
  item_sized (tries line zeroed) is r xs bs vs sized h = either (is_true (top xs).bits) _ _ sized sized
  item_sized (admits line zeroed) is r xs bs vs sized h = admission_sized is r xs bs vs sized line zeroed
  item_sized (draws words size line) is r xs bs vs sized h = draw_sized is r xs bs vs sized words size line
  item_sized (makes line) is r xs bs vs sized h = λ a. sized
  item_sized (releases line) is r xs bs vs sized h = chosen ((top xs).bits == 0) _ _ sized (λ a. sized)
  item_sized (quits line) is r xs bs vs sized h = λ a. sized
  item_sized (evaluates_structure a) is r xs bs vs sized h = structure_sized is r xs bs vs sized a
  item_sized (copies p size) is r xs bs vs sized h = bytes_sized r vs sized (variable_of (running_of code r) p) (top xs).bits size (place_line p) _ (λ found. sized)
  item_sized (stores_structure line p) is r xs bs vs sized h = put_sized r vs sized (variable_of (running_of code r) p) (top xs).bits (top_bytes bs) line _ (λ now e. e)
  item_sized (lists parts) is r xs bs vs sized h = parts_sized is r xs bs vs sized parts
  item_sized (runs s) is r xs bs vs sized h = statement_sized is r xs bs vs sized s
  item_sized (enters items) is r xs bs vs sized h = entry_sized is r xs bs vs sized items
  item_sized (goes_on items) is r xs bs vs sized h = items_sized is r xs bs vs sized items
  item_sized (leaves items) is r xs bs vs sized h = end_sized is r xs bs vs sized items
  item_sized (fills words line v offset) is r xs bs vs sized h = fill_sized is r xs bs vs sized words line v offset (left_of (has_words (variables_at file r.function) v offset words) _ h)
  item_sized (settles line v) is r xs bs vs sized h = settle_sized is r xs bs vs sized (home_of (running_of code r) v) line v (right_of (is_variable file r.function v 0) _ (left_of (is_variable file r.function v 0 && holds_address (variables_at file r.function) (home_at file r.function v)) _ h))
  item_sized (initial line v t) is r xs bs vs sized h =
      initial_sized r vs sized (home_of (running_of code r) v) v (bytes t) (low_bytes (bytes t) (top xs).bits) line _ (number_bytes t (top xs).bits) (left_of (is_variable file r.function v (bytes t)) _ h) (λ now e. e)
  item_sized (initial_structure line v) is r xs bs vs sized h =
      let there = has_top (sizes_of bs) in
      let size = top_size (sizes_of bs) in
      initial_sized r vs sized (home_of (running_of code r) v) v size (top_bytes bs) line _ (sym (top_of_sizes bs)) (right_of there (is_variable file r.function v size) (left_of (there && is_variable file r.function v size) _ h)) (λ now e. e)
  item_sized (dies line v) is r xs bs vs sized h = death_sized is r xs bs vs sized (home_of (running_of code r) v) line
  item_sized (enters_parameters count v) is r xs bs vs sized h = parameters_sized is r xs bs vs sized count v
  item_sized (leaves_parameters count v) is r xs bs vs sized h = last_sized is r xs bs vs sized count v
  item_sized (gathers want f count args) is r xs bs vs sized h = arguments_sized want f count args is r xs bs vs sized h
  item_sized (resumes want caller saved) is r xs bs vs sized h = resumed want caller saved is r.function _ h
  item_sized (goes_out way) is r xs bs vs sized h = out_sized way is r xs bs vs sized h
  item_sized (gets want how) is r xs bs vs sized h = given_sized is r (values_under how xs) (structures_under how bs) vs sized want (given_by how xs bs)
  item_sized (turns n loop) is r xs bs vs sized h = turn_sized is r xs bs vs sized n loop
  item_sized (retests n loop) is r xs bs vs sized h = test_sized is r xs bs vs sized loop.test n loop
  item_sized strays is r xs bs vs sized h = tt
  item_sized (ending line x) is r xs bs vs sized h = λ a. sized
  item_sized (ended x) is r xs bs vs sized h = tt
  item_sized _ is r xs bs vs sized h = sized

  sized_from : (is : List Item) (r : Active) (xs : List TypedNumber) (bs : List (List ℕ)) (vs : Variables) → sizes_of vs ≡ variables_at file r.function → fits file is r.function (types_of xs) (sizes_of bs) ≡ true → KeepsSizes (move code first true (state is r xs bs vs))
  sized_from [] r xs bs vs sized h = tt
  sized_from (i ∷ is) r xs bs vs sized h = item_sized i is r xs bs vs sized h

  pub sizes_of_next : (s : State) → IsSized file s → Fits file s → KeepsSizes (move code first true s)
  sizes_of_next s sized h = sized_from s.items s.active s.values s.structures s.variables sized h

  pub sizes_kept : (s t : State) → IsSized file s → Fits file s → move code first true s ≡ silent t → IsSized file t
  sizes_kept s t sized h e = subst KeepsSizes e (sizes_of_next s sized h)
