-- Each step leaves bytes in each block, and each object that a step makes can be made.
use Rattle.std.proofs.Common.{◌≡◌, ◌<◌, ◌+◌, ◌*◌, ◌^◌, ◌==◌, ℕ, zero, suc, ℤ, pos, Bool, true, false, ◌&&◌, nat_le, nat_lt, List, [], ◌∷◌, ◌++◌, length, take, drop, Option, Some, None, slice_get, slice_index, if◌then◌else◌, refl, subst, ◌∙◌, arith}
use Rattle.std.specs.Prelude.{IfSome}
use Rattle.std.proofs.lemmas.Bool.Decides.{nat_tests}
use Rattle.words.specs.declared.check.Class.{Class}
use Rattle.words.specs.declared.check.Class.TheVariants.{Assertion, Return, Unwind, Recursion, Pointer}
use Rattle.c_types.specs.declared.integers.IntegerType.{IntegerType}
use Rattle.c_types.specs.declared.integers.IntegerType.TheVariants.{UnsignedLong}
use Rattle.c_types.specs.Integers.{bytes, promoted}
use Rattle.core_tree.specs.declared.functions.Variable.{Variable}
use Rattle.core_tree.specs.Ranges.{Limits}
use Rattle.core_tree.specs.Trees as trees
use Rattle.core_tree.specs.Trees.{Place, element, subscript, Expression, sum, Structure, list, string, Parts, no_part, Arguments, no_argument, number_argument, structure_argument, Statement, block, Items, done, initializes, initializes_structure, Procedure, TypedFile}
use Rattle.core_tree.specs.Typed.{is_structure, sizes_of_variables, are_small, have_small}
use Rattle.core_tree.specs.Operations.{is_true, converted, arithmetic_check, sign_check}
use Rattle.actions.specs.ByteList.{are_bytes}
use Rattle.actions.specs.StoredObject.{CanBeMade}
use Rattle.c_values.proofs.MadeObjects.{made_can_be}
use Rattle.actions.specs.Behaviour.{shape_of, has_shape, made_by}
use Rattle.actions.specs.declared.action.Action.TheVariants.{End, Exit}
use Rattle.actions.specs.declared.action.Answer.{Answer}
use Rattle.actions.specs.Pointer.{object_of, offset_of}
use Rattle.c_values.specs.Pointers.{in_range, offset_by}
use Rattle.c_values.specs.Variables.{Variables, low_bytes, put_at, zeros, drawn_count, pointer_to, block_of, put_bytes, cleared, first_variables}
use Rattle.c_values.specs.Numbers.{TypedNumber, typed}
use Rattle.c_meaning.specs.Meaning as meaning
use Rattle.c_meaning.specs.Meaning.{Given, Code, decides, bytes_in, drawn, number_in, place_line, variable_of, home_of, readonly_of, variables_of, has_case, has_default}
use Rattle.c_meaning.specs.Source.{code_of}
use Rattle.c_meaning.proofs.Holding.{left_of, right_of, both}
use Rattle.c_tasks.specs.Items.{top, rest, second, top_bytes, rest_bytes, second_bytes, Active, running_of, base, index_number, Wanted, wants_number, wants_structure, wants_end, line_of, Handed, by_nothing, by_number, by_structure, Way, by_break, by_continue, by_jump, by_return, given_by, values_under, structures_under, blocks_on, Loop, Item, evaluates, signs, operates, decides_on, drops, asserts, assumes, locates, elements, loads, stores, rewrites, updates, combines, steps, increments, looks, lands, shifts, paces, advances, arrives, measures, orders, claims, tries, admits, draws, makes, releases, quits, evaluates_structure, picks, discards_structure, copies, stores_structure, cuts, lists, places_number, places_structure, runs, branches, enters, goes_on, ends_block, leaves, fills, settles, initial, initial_structure, dies, enters_parameters, ends_parameters, leaves_parameters, gathers, adds_number, resumes, goes_out, gets, turns, retests, repeats, loops, selects, switches, strays, ending, ended, State, state}
use Rattle.c_tasks.specs.Fits.{sizes_of, types_of, sizes_for, variables_at, fits, Fits, IsSized}
use Rattle.c_tasks.specs.Steps.{Move, silent, asks, breaks, blocks, ends, behind_label, behind_case, behind_default, part_items, jumped, out_of, unless_stopped, move_bytes, move_put, move_pointer, move_place, move_expression, move_structure, move_parts, move_statement, move_fill, move_entry, move_settle, move_initial, move_death, move_end, move_parameters, move_last, move_claim, move_admission, move_draw, move_items, move_turn, move_test, move_body, move_arguments, move_given, move_item, move}
use Rattle.c_tasks.specs.declared.task.Change.{Change}
use Rattle.c_tasks.specs.Tasks.{behind, changed, Accepts, Answers}
use Rattle.c_tasks.proofs.Sizes.{block_size}
use Rattle.c_interp.specs.Keeps.{are_blocks, are_saved, holds_bytes, HoldsBytes}
use Rattle.c_interp.specs.inner.Blocks.{joined_bytes, zero_bytes, number_bytes, placed_bytes, read_bytes, part_bytes, written_blocks, cleared_blocks, joined_blocks, first_blocks, left_blocks, argument_blocks, top_block, rest_blocks, second_block, held_structures, held_variables, held_saved, all_held, with_structures, with_variables, with_block, with_top, without_top}
use Rattle.actions.proofs.ByteLists.{are_bytes-part}

-- ---- sizes

from_below : (a b : ℕ) → nat_lt a b ≡ true → a < b
from_below a b h = grind (arith, nat_tests)

-- a variable of a list has fewer than 2 ^ 31 bytes, and one that isn't there has none
listed_small : (variables : List Variable) (v : ℕ) → are_small variables ≡ true → slice_index (sizes_of_variables variables) v < 2 ^ 31
listed_small [] v h = omega arith
listed_small (x ∷ variables) zero h = from_below x.size (2 ^ 31) (left_of (nat_lt x.size (2 ^ 31)) (are_small variables) h)
listed_small (x ∷ variables) (suc v) h = listed_small variables v (right_of (nat_lt x.size (2 ^ 31)) (are_small variables) h)

-- so of the functions of a file
small_at : (functions : List Procedure) (f v : ℕ) → have_small functions ≡ true → slice_index (sizes_of_variables (variables_of (slice_get functions f))) v < 2 ^ 31
small_at [] f v h = omega arith
small_at (p ∷ functions) zero v h = listed_small p.variables v (left_of (are_small p.variables) (have_small functions) h)
small_at (p ∷ functions) (suc f) v h = small_at functions f v (right_of (are_small p.variables) (have_small functions) h)

-- ---- items

part_saved : (o : Option Expression) (is : List Item) → are_saved (part_items o is) ≡ are_saved is
part_saved None is = refl
part_saved (Some e) is = refl

one_saved : (b : Bool) (is js : List Item) → are_saved is ≡ true → are_saved js ≡ true → are_saved (if b then is else js) ≡ true
one_saved true is js h k = h
one_saved false is js h k = k

abbrev given_bytes : Given → Bool
given_bytes meaning.nothing = true
given_bytes (meaning.number x) = true
given_bytes (meaning.structure value) = are_bytes value

handed_bytes : (how : Handed) (xs : List TypedNumber) (bs : List (List ℕ)) → are_blocks bs ≡ true → given_bytes (given_by how xs bs) ≡ true
handed_bytes by_nothing xs bs h = refl
handed_bytes by_number xs bs h = refl
handed_bytes by_structure xs bs h = top_block bs h

under_blocks : (how : Handed) (bs : List (List ℕ)) → are_blocks bs ≡ true → are_blocks (structures_under how bs) ≡ true
under_blocks by_nothing bs h = h
under_blocks by_number bs h = h
under_blocks by_structure bs h = rest_blocks bs h

-- ---- ways out

jumped_held : (o : Option Items) (further : State) (next : Items → State) → HoldsBytes further → ((more : Items) → HoldsBytes (next more)) → HoldsBytes (jumped o further next)
jumped_held None further next h k = h
jumped_held (Some more) further next h k = k more

-- the caller's variables are there again
resumed : (want : Wanted) (caller : ℕ) (saved : Variables) (is : List Item) (bs : List (List ℕ)) (vs : Variables) → holds_bytes (resumes want caller saved ∷ is) bs vs ≡ true → holds_bytes is bs saved ≡ true
resumed want caller saved is bs vs h =
    let k = held_saved (resumes want caller saved ∷ is) bs vs h in
    all_held is bs saved (held_structures (resumes want caller saved ∷ is) bs vs h) (left_of (are_blocks saved) (are_saved is) k) (right_of (are_blocks saved) (are_saved is) k)

nothing_saved : (is : List Item) (bs : List (List ℕ)) (vs : Variables) → holds_bytes is bs vs ≡ true → holds_bytes [] bs vs ≡ true
nothing_saved is bs vs h = all_held [] bs vs (held_structures is bs vs h) (held_variables is bs vs h) refl

break_held : (is : List Item) (r : Active) (xs : List TypedNumber) (bs : List (List ℕ)) (vs : Variables) → holds_bytes is bs vs ≡ true → HoldsBytes (out_of by_break is r xs bs vs)
break_held [] r xs bs vs h = h
break_held (ends_block items ∷ is) r xs bs vs h = h
break_held (ends_parameters count ∷ is) r xs bs vs h = h
break_held (switches items ∷ is) r xs bs vs h = h
break_held (loops n loop ∷ is) r xs bs vs h = h
break_held (resumes want caller saved ∷ is) r xs bs vs h = nothing_saved (resumes want caller saved ∷ is) bs vs h
break_held (_ ∷ is) r xs bs vs h = break_held is r xs bs vs h

continue_held : (is : List Item) (r : Active) (xs : List TypedNumber) (bs : List (List ℕ)) (vs : Variables) → holds_bytes is bs vs ≡ true → HoldsBytes (out_of by_continue is r xs bs vs)
continue_held [] r xs bs vs h = h
continue_held (ends_block items ∷ is) r xs bs vs h = h
continue_held (ends_parameters count ∷ is) r xs bs vs h = h
continue_held (switches items ∷ is) r xs bs vs h = h
continue_held (loops n loop ∷ is) r xs bs vs h = h
continue_held (resumes want caller saved ∷ is) r xs bs vs h = nothing_saved (resumes want caller saved ∷ is) bs vs h
continue_held (_ ∷ is) r xs bs vs h = continue_held is r xs bs vs h

jump_held : (n : ℕ) (is : List Item) (r : Active) (xs : List TypedNumber) (bs : List (List ℕ)) (vs : Variables) → holds_bytes is bs vs ≡ true → HoldsBytes (out_of (by_jump n) is r xs bs vs)
jump_held n [] r xs bs vs h = h
jump_held n (ends_block items ∷ is) r xs bs vs h = h
jump_held n (ends_parameters count ∷ is) r xs bs vs h = h
jump_held n (switches items ∷ is) r xs bs vs h = h
jump_held n (goes_on items ∷ is) r xs bs vs h = jumped_held (behind_label n items) _ _ (jump_held n is r xs bs vs h) (λ more. h)
jump_held n (resumes want caller saved ∷ is) r xs bs vs h = nothing_saved (resumes want caller saved ∷ is) bs vs h
jump_held n (_ ∷ is) r xs bs vs h = jump_held n is r xs bs vs h

return_held : (how : Handed) (is : List Item) (r : Active) (xs : List TypedNumber) (bs : List (List ℕ)) (vs : Variables) → holds_bytes is bs vs ≡ true → HoldsBytes (out_of (by_return how) is r xs bs vs)
return_held how [] r xs bs vs h = h
return_held how (ends_block items ∷ is) r xs bs vs h = h
return_held how (ends_parameters count ∷ is) r xs bs vs h = h
return_held how (switches items ∷ is) r xs bs vs h = h
return_held how (resumes want caller saved ∷ is) r xs bs vs h = resumed want caller saved is bs vs h
return_held how (_ ∷ is) r xs bs vs h = return_held how is r xs bs vs h

out_held : (way : Way) (is : List Item) (r : Active) (xs : List TypedNumber) (bs : List (List ℕ)) (vs : Variables) → holds_bytes is bs vs ≡ true → HoldsBytes (out_of way is r xs bs vs)
out_held by_break is r xs bs vs h = break_held is r xs bs vs h
out_held by_continue is r xs bs vs h = continue_held is r xs bs vs h
out_held (by_jump n) is r xs bs vs h = jump_held n is r xs bs vs h
out_held (by_return how) is r xs bs vs h = return_held how is r xs bs vs h

module _ (file : TypedFile) (limits : Limits) (first : Bool) (all_small : have_small file.functions ≡ true) where
  abbrev code : Code
  code = code_of file limits

  abbrev pub KeepsBytes : Move → Type 0
  KeepsBytes (silent t) = HoldsBytes t
  KeepsBytes (asks action line follows) = IfSome (made_by action) CanBeMade × ((a : Answer) → has_shape (shape_of action) a ≡ true → HoldsBytes (follows a))
  KeepsBytes (breaks class line) = Unit {0}
  KeepsBytes blocks = Unit {0}
  KeepsBytes (ends v) = Unit {0}

  checked : (c : Option Class) (line : ℕ) (t : State) → HoldsBytes t → KeepsBytes (unless_stopped code first true c line t)
  checked None line t h = h
  checked (Some class) line t h = tt

  stopped : (b : Bool) (class : Class) (line : ℕ) → KeepsBytes (if b then breaks class line else blocks)
  stopped true class line = tt
  stopped false class line = tt

  chosen : (b : Bool) (m n : Move) → KeepsBytes m → KeepsBytes n → KeepsBytes (if b then m else n)
  chosen true m n h k = h
  chosen false m n h k = k

  either : (b : Bool) (s t : State) → HoldsBytes s → HoldsBytes t → HoldsBytes (if b then s else t)
  either true s t h k = h
  either false s t h k = k

  -- ---- places

  bytes_held : (o : Option ℕ) (at count line : ℕ) (r : Active) (vs : Variables) (next : List ℕ → State) → are_blocks vs ≡ true → ((found : List ℕ) → are_bytes found ≡ true → HoldsBytes (next found)) → KeepsBytes (move_bytes code first true o at count line r vs next)
  bytes_held (Some v) at count line r vs next k h = chosen (nat_le (offset_of at + count) (meaning.size_of (running_of code r) v)) _ _ (h _ (part_bytes vs v (offset_of at) count k)) tt
  bytes_held None at count line r vs next k h = (tt, λ a shape. h (bytes_in a) (read_bytes count a shape))

  put_held : (o : Option ℕ) (at : ℕ) (new : List ℕ) (line : ℕ) (r : Active) (vs : Variables) (next : Variables → State) → are_blocks vs ≡ true → are_bytes new ≡ true → ((now : Variables) → are_blocks now ≡ true → HoldsBytes (next now)) → KeepsBytes (move_put code first true o at new line r vs next)
  put_held (Some v) at new line r vs next k l h = chosen (nat_le (offset_of at + length new) (meaning.size_of (running_of code r) v)) _ _ (h _ (written_blocks vs v (offset_of at) new k l)) tt
  put_held None at new line r vs next k l h = (tt, λ a shape. h vs k)

  pointer_held : (is_element : Bool) (p size : ℕ) (index stride : ℤ) (line : ℕ) (next : ℕ → State) → ((q : ℕ) → HoldsBytes (next q)) → KeepsBytes (move_pointer code first true is_element p size index stride line next)
  pointer_held is_element p size index stride line next h = chosen (in_range (offset_by (offset_of p) index stride) size) _ _ (h _) tt

  initial_held : (home : Option ℕ) (v : ℕ) (new : List ℕ) (line : ℕ) (r : Active) (vs : Variables) (next : Variables → State) → are_blocks vs ≡ true → are_bytes new ≡ true → ((now : Variables) → are_blocks now ≡ true → HoldsBytes (next now)) → KeepsBytes (move_initial code first true home v new line r vs next)
  initial_held None v new line r vs next k l h = h _ (written_blocks vs v 0 new k l)
  initial_held (Some home) v new line r vs next k l h = (tt, λ a shape. h vs k)

  module _ (is : List Item) (r : Active) (xs : List TypedNumber) (bs : List (List ℕ)) (vs : Variables) (h : holds_bytes is bs vs ≡ true) where
    place_held : (p : Place) → KeepsBytes (move_place code first true p is r xs bs vs)
    place_held (element line p e size whole true) = h
    place_held (element line p e size whole false) = h
    place_held (subscript line a e size true) = h
    place_held (subscript line a e size false) = h
    place_held _ = h

    expression_held : (e : Expression) → KeepsBytes (move_expression code first true e is r xs bs vs)
    expression_held (sum line a e n true) = h
    expression_held (sum line a e n false) = h
    expression_held (trees.draw line t) = (tt, λ a shape. h)
    expression_held _ = h

    structure_held : (a : Structure) → is_structure (sizes_for file r.function) a ≡ true → KeepsBytes (move_structure code first true a is r xs bs vs)
    structure_held (list line size parts) t = with_block is (zeros size) bs vs h (zero_bytes size)
    structure_held (string line size text) t =
        let below : are_bytes text ≡ true = right_of (nat_lt size (2 ^ 31) && nat_le (length text) size) (are_bytes text) t in
        with_block is (put_at 0 text (zeros size)) bs vs h (placed_bytes 0 text (zeros size) below (zero_bytes size))
    structure_held _ t = h

    parts_held : (parts : Parts) → KeepsBytes (move_parts code first true parts is r xs bs vs)
    parts_held no_part = with_top is (top_bytes bs) bs vs h (top_block bs (held_structures is bs vs h))
    parts_held _ = h

    -- the first part of a loop
    begun : (o : Option Expression) (js : List Item) → are_saved js ≡ are_saved is → HoldsBytes (state (part_items o js) r xs bs vs)
    begun o js e = all_held (part_items o js) bs vs (held_structures is bs vs h) (held_variables is bs vs h) (part_saved o js ∙ e ∙ held_saved is bs vs h)

    statement_held : (s : Statement) → KeepsBytes (move_statement code first true s is r xs bs vs)
    statement_held (block items) = h
    statement_held (trees.for_loop line n start test last s) = begun start _ refl
    statement_held _ = h

    entry_held : (items : Items) → KeepsBytes (move_entry code first true items is r xs bs vs)
    entry_held (initializes line v true e more) = h
    entry_held (initializes line v false e more) = with_variables is bs vs (cleared vs v (meaning.size_of (running_of code r) v)) h (cleared_blocks vs v (meaning.size_of (running_of code r) v) (held_variables is bs vs h))
    entry_held (initializes_structure line v true a more) = h
    entry_held (initializes_structure line v false a more) = with_variables is bs vs (cleared vs v (meaning.size_of (running_of code r) v)) h (cleared_blocks vs v (meaning.size_of (running_of code r) v) (held_variables is bs vs h))
    entry_held _ = h

    fill_held : (words line v offset : ℕ) → KeepsBytes (move_fill code first true words line v offset is r xs bs vs)
    fill_held zero line v offset = h
    fill_held (suc k) line v offset =
        let count = drawn_count (meaning.size_of (running_of code r) v) offset in
        (tt, λ a shape. with_variables is bs vs (put_bytes vs v offset (low_bytes count (drawn a))) h (written_blocks vs v offset (low_bytes count (drawn a)) (held_variables is bs vs h) (number_bytes count (drawn a))))

    -- a variable that becomes an object
    settle_held : (home : Option ℕ) (line v : ℕ) → length (block_of vs v) < 2 ^ 32 → KeepsBytes (move_settle code first true home line v is r xs bs vs)
    settle_held None line v small = h
    settle_held (Some home) line v small = (
      made_can_be (readonly_of (running_of code r) v) false (block_of vs v),
      λ a shape. let new = low_bytes (bytes UnsignedLong) (pointer_to (number_in a) 0) in with_variables is bs vs (put_bytes vs home 0 new) h (written_blocks vs home 0 new (held_variables is bs vs h) (number_bytes (bytes UnsignedLong) (pointer_to (number_in a) 0))),
    )

    death_held : (home : Option ℕ) (line : ℕ) → KeepsBytes (move_death code first true home line is r xs bs vs)
    death_held None line = h
    death_held (Some home) line = (tt, λ a shape. h)

    end_held : (items : Items) → KeepsBytes (move_end code first true items is r xs bs vs)
    end_held done = h
    end_held _ = h

    parameters_held : (count v : ℕ) → KeepsBytes (move_parameters code first true count v is r xs bs vs)
    parameters_held zero v = h
    parameters_held (suc count) v = h

    last_held : (count v : ℕ) → KeepsBytes (move_last code first true count v is r xs bs vs)
    last_held zero v = h
    last_held (suc count) v = h

    -- ---- allocations

    claim_held : (line : ℕ) (zeroed : Bool) → KeepsBytes (move_claim code first true line zeroed is r xs bs vs)
    claim_held line zeroed = chosen code.malloc_may_fail _ _ (tt, λ a shape. h) h

    admission_held : (line : ℕ) (zeroed : Bool) → KeepsBytes (move_admission code first true line zeroed is r xs bs vs)
    admission_held line false = chosen (nat_le (top xs).bits code.malloc_limit) _ _ (with_block is [] bs vs h refl) tt
    admission_held line true =
        let size = (second xs).bits * (top xs).bits in
        chosen (nat_le size code.malloc_limit) _ _ (with_block is (zeros size) bs vs h (zero_bytes size)) tt

    draw_held : (words size line : ℕ) → KeepsBytes (move_draw code first true words size line is r xs bs vs)
    draw_held zero size line = h
    draw_held (suc k) size line =
        let count = drawn_count size (length (top_bytes bs)) in
        (tt, λ a shape. with_top is (top_bytes bs ++ low_bytes count (drawn a)) bs vs h (joined_bytes (top_bytes bs) (low_bytes count (drawn a)) (top_block bs (held_structures is bs vs h)) (number_bytes count (drawn a))))

    items_held : (items : Items) → KeepsBytes (move_items code first true items is r xs bs vs)
    items_held done = h
    items_held _ = h

    -- ---- loops and calls

    turn_held : (n : ℕ) (loop : Loop) → KeepsBytes (move_turn code first true n loop is r xs bs vs)
    turn_held zero loop = stopped code.assertions Unwind loop.line
    turn_held (suc n) loop = h

    test_held : (test : Option Expression) (n : ℕ) (loop : Loop) → KeepsBytes (move_test code first true test n loop is r xs bs vs)
    test_held None n loop = h
    test_held (Some e) n loop = h

    used_value : (b : Bool) (line : ℕ) (t : State) → HoldsBytes t → KeepsBytes (if b then breaks Return line else silent t)
    used_value true line t k = tt
    used_value false line t k = k

    given_held : (want : Wanted) (given : Given) → given_bytes given ≡ true → KeepsBytes (move_given code first true want given is r xs bs vs)
    given_held (wants_number line used t) meaning.nothing k = used_value used line _ h
    given_held (wants_number line used t) (meaning.number x) k = h
    given_held (wants_number line used t) (meaning.structure value) k = h
    given_held (wants_structure line used size) meaning.nothing k = used_value used line _ (with_block is (zeros size) bs vs h (zero_bytes size))
    given_held (wants_structure line used size) (meaning.number x) k = with_block is (zeros size) bs vs h (zero_bytes size)
    given_held (wants_structure line used size) (meaning.structure value) k = with_block is value bs vs h k
    given_held (wants_end line) given k = h

    -- the arguments are the first variables of the function that is called, and the caller's variables wait
    body_held : (want : Wanted) (f count : ℕ) (sizes : List ℕ) (body : Option Statement) → KeepsBytes (move_body code first true want f (blocks_on count bs) sizes body is r xs (drop count bs) vs)
    body_held want f count sizes None = tt
    body_held want f count sizes (Some s) =
        let own = held_structures is bs vs h in
        let args = blocks_on count bs in
        let under : are_blocks (drop count bs) ≡ true = left_blocks count bs own in
        let frame : are_blocks (args ++ first_variables (drop (length args) sizes)) ≡ true = joined_blocks args (first_variables (drop (length args) sizes)) (argument_blocks count bs own) (first_blocks (drop (length args) sizes)) in
        let waiting : (are_blocks vs && are_saved is) ≡ true = both (are_blocks vs) (are_saved is) (held_variables is bs vs h) (held_saved is bs vs h) in
        all_held (enters_parameters (length args) 0 ∷ runs s ∷ ends_parameters (length args) ∷ resumes want r.function vs ∷ is) (drop count bs) (args ++ first_variables (drop (length args) sizes)) under frame waiting

    call_held : (b : Bool) (want : Wanted) (f count : ℕ) (sizes : List ℕ) (body : Option Statement) → KeepsBytes (if b then (if code.assertions then breaks Recursion (line_of want) else blocks) else move_body code first true want f (blocks_on count bs) sizes body is r xs (drop count bs) vs)
    call_held true want f count sizes body = stopped code.assertions Recursion (line_of want)
    call_held false want f count sizes body = body_held want f count sizes body

    arguments_held : (want : Wanted) (f count : ℕ) (args : Arguments) → KeepsBytes (move_arguments code first true want f count args is r xs bs vs)
    arguments_held want f count no_argument = call_held (slice_index r.left f == 0) want f count _ _
    arguments_held want f count (number_argument e more) = h
    arguments_held want f count (structure_argument a more) = h

    handed_held : (want : Wanted) (how : Handed) → holds_bytes is (structures_under how bs) vs ≡ true
    handed_held want how = with_structures is bs (structures_under how bs) vs h (under_blocks how bs (held_structures is bs vs h))

    ending_held : (b : Bool) (line x : ℕ) → KeepsBytes (asks (if b then Exit else End x) line (λ a. state (ended x ∷ is) r xs bs vs))
    ending_held true line x = (tt, λ a shape. h)
    ending_held false line x = (tt, λ a shape. h)

    -- a statement where a test holds, and behind a step what is dropped
    one_held : (b : Bool) (js ks : List Item) (zs : List TypedNumber) → are_saved js ≡ are_saved is → are_saved ks ≡ are_saved is → HoldsBytes (state (if b then js else ks) r zs bs vs)
    one_held b js ks zs e f =
        let own = held_saved is bs vs h in
        all_held (if b then js else ks) bs vs (held_structures is bs vs h) (held_variables is bs vs h) (one_saved b js ks (e ∙ own) (f ∙ own))

    stepping_held : (line : ℕ) (t : IntegerType) (p : Place) (at : ℕ) (before : Bool) → holds_bytes (rewrites line t p at ∷ (if before then is else drops ∷ is)) bs vs ≡ true
    stepping_held line t p at true = h
    stepping_held line t p at false = h

    selected_held : (b c : Bool) (items : Items) (x : ℕ) (zs : List TypedNumber) →
        HoldsBytes (state (if b then enters items ∷ goes_on (behind_case x items) ∷ switches items ∷ is else (if c then enters items ∷ goes_on (behind_default items) ∷ switches items ∷ is else is)) r zs bs vs)
    selected_held true c items x zs = h
    selected_held false true items x zs = h
    selected_held false false items x zs = h

  module _ (is : List Item) (r : Active) (xs : List TypedNumber) (bs : List (List ℕ)) (vs : Variables) (sized : sizes_of vs ≡ variables_at file r.function) where
    -- what is held behind the first item
    item_held : (i : Item) → fits file (i ∷ is) r.function (types_of xs) (sizes_of bs) ≡ true → holds_bytes (i ∷ is) bs vs ≡ true → KeepsBytes (move_item code first true i is r xs bs vs)
    item_held (evaluates e) t h = expression_held is r xs bs vs h e
    item_held (signs line op) t h = checked (sign_check op (top xs).type (top xs).bits) line _ h
    item_held (operates line op) t h = checked (arithmetic_check op (second xs).type (top xs).type (second xs).bits (top xs).bits) line _ h
    item_held (decides_on op b) t h = either (decides op (top xs).bits) _ _ h h
    item_held (asserts line) t h = checked (if is_true (top xs).bits then None else Some Assertion) line _ h
    item_held assumes t h = chosen (is_true (top xs).bits) _ _ h tt
    item_held (locates p) t h = place_held is r xs bs vs h p
    item_held (elements line size whole swapped) t h = pointer_held true (base swapped xs).bits whole (index_number swapped xs) (pos size) line (λ q. state is r (typed UnsignedLong q ∷ rest (rest xs)) bs vs) (λ q. h)
    item_held (loads t p) u h = bytes_held (variable_of (running_of code r) p) (top xs).bits (bytes t) (place_line p) r vs _ (held_variables is bs vs h) (λ found below. h)
    item_held (stores line t p) u h =
        put_held (variable_of (running_of code r) p) (second xs).bits (low_bytes (bytes t) (top xs).bits) line r vs _ (held_variables is bs vs h) (number_bytes (bytes t) (top xs).bits) (λ now k. with_variables is bs vs now h k)
    item_held (rewrites line t p at) u h =
        put_held (variable_of (running_of code r) p) at (low_bytes (bytes t) (top xs).bits) line r vs _ (held_variables is bs vs h) (number_bytes (bytes t) (top xs).bits) (λ now k. with_variables is bs vs now h k)
    item_held (updates line t p op u) w h = bytes_held (variable_of (running_of code r) p) (second xs).bits (bytes t) (place_line p) r vs _ (held_variables is bs vs h) (λ found below. h)
    item_held (combines line t p op u) w h = checked (arithmetic_check op u (second xs).type (converted t u (top xs).bits) (second xs).bits) line _ h
    item_held (steps line t p op before) w h = bytes_held (variable_of (running_of code r) p) (top xs).bits (bytes t) (place_line p) r vs _ (held_variables is bs vs h) (λ found below. h)
    item_held (increments line t p op before at) w h =
        let u = promoted t in checked (arithmetic_check op u u (converted t u (top xs).bits) 1) line _ (stepping_held is r xs bs vs h line t p at before)
    item_held (looks line n is_element swapped) t h = (tt, λ a shape. h)
    item_held (lands line n is_element swapped) t h = pointer_held is_element (base swapped (rest xs)).bits (top xs).bits (index_number swapped (rest xs)) n line (λ q. state is r (typed UnsignedLong q ∷ rest (rest (rest xs))) bs vs) (λ q. h)
    item_held (shifts line p n) t h = bytes_held (variable_of (running_of code r) p) (second xs).bits (bytes UnsignedLong) (place_line p) r vs _ (held_variables is bs vs h) (λ found below. h)
    item_held (paces line p n before) t h = bytes_held (variable_of (running_of code r) p) (top xs).bits (bytes UnsignedLong) (place_line p) r vs _ (held_variables is bs vs h) (λ found below. h)
    item_held (advances line p n before at) t h = (tt, λ a shape. h)
    item_held (arrives line p n before at) t h =
        pointer_held false (second xs).bits (top xs).bits (pos 1) n line (λ q. state (rewrites line UnsignedLong p at ∷ (if before then is else drops ∷ is)) r (typed UnsignedLong q ∷ (if before then rest (rest xs) else rest xs)) bs vs)
        (λ q. stepping_held is r xs bs vs h line UnsignedLong p at before)
    item_held (measures line n) t h = checked (if object_of (second xs).bits == object_of (top xs).bits then None else Some Pointer) line _ h
    item_held (orders line op) t h = checked (if object_of (second xs).bits == object_of (top xs).bits then None else Some Pointer) line _ h
    item_held (claims line zeroed) t h = claim_held is r xs bs vs h line zeroed
    item_held (tries line zeroed) t h = either (is_true (top xs).bits) _ _ h h
    item_held (admits line zeroed) t h = admission_held is r xs bs vs h line zeroed
    item_held (draws words size line) t h = draw_held is r xs bs vs h words size line
    item_held (makes line) t h = (
      made_can_be false true (top_bytes bs),
      λ a shape. without_top is bs vs h,
    )
    item_held (releases line) t h = chosen ((top xs).bits == 0) _ _ h (tt, λ a shape. h)
    item_held (quits line) t h = (tt, λ a shape. h)
    item_held (evaluates_structure a) t h = structure_held is r xs bs vs h a (left_of (is_structure (sizes_for file r.function) a) _ t)
    item_held (picks u offset) t h = without_top is bs vs h
    item_held discards_structure t h = without_top is bs vs h
    item_held (copies p size) t h = bytes_held (variable_of (running_of code r) p) (top xs).bits size (place_line p) r vs _ (held_variables is bs vs h) (λ found below. with_block is found bs vs h below)
    item_held (stores_structure line p) t h =
        put_held (variable_of (running_of code r) p) (top xs).bits (top_bytes bs) line r vs _ (held_variables is bs vs h) (top_block bs (held_structures is bs vs h)) (λ now k. with_variables is bs vs now h k)
    item_held (cuts offset size) t h = with_top is (take size (drop offset (top_bytes bs))) bs vs h (are_bytes-part offset size (top_bytes bs) (top_block bs (held_structures is bs vs h)))
    item_held (lists parts) t h = parts_held is r xs bs vs h parts
    item_held (places_number offset u) t h =
        with_top is (put_at offset (low_bytes (bytes u) (top xs).bits) (top_bytes bs)) bs vs h (placed_bytes offset (low_bytes (bytes u) (top xs).bits) (top_bytes bs) (number_bytes (bytes u) (top xs).bits) (top_block bs (held_structures is bs vs h)))
    item_held (places_structure offset) t h =
        let own = held_structures is bs vs h in
        with_top is (put_at offset (top_bytes bs) (second_bytes bs)) (rest_bytes bs) vs (without_top is bs vs h) (placed_bytes offset (top_bytes bs) (second_bytes bs) (top_block bs own) (second_block bs own))
    item_held (runs s) t h = statement_held is r xs bs vs h s
    item_held (branches s) t h = one_held is r xs bs vs h (is_true (top xs).bits) (runs s ∷ is) is (rest xs) refl refl
    item_held (enters items) t h = entry_held is r xs bs vs h items
    item_held (goes_on items) t h = items_held is r xs bs vs h items
    item_held (leaves items) t h = end_held is r xs bs vs h items
    item_held (fills words line v offset) t h = fill_held is r xs bs vs h words line v offset
    item_held (settles line v) t h =
        let small : slice_index (variables_at file r.function) v < 2 ^ 31 = small_at file.functions r.function v all_small in
        settle_held is r xs bs vs h (home_of (running_of code r) v) line v (omega (arith, small, block_size vs (variables_at file r.function) v sized))
    item_held (initial line v u) t h =
        initial_held (home_of (running_of code r) v) v (low_bytes (bytes u) (top xs).bits) line r vs _ (held_variables is bs vs h) (number_bytes (bytes u) (top xs).bits) (λ now k. with_variables is bs vs now h k)
    item_held (initial_structure line v) t h =
        initial_held (home_of (running_of code r) v) v (top_bytes bs) line r vs _ (held_variables is bs vs h) (top_block bs (held_structures is bs vs h)) (λ now k. with_variables is (rest_bytes bs) vs now (without_top is bs vs h) k)
    item_held (dies line v) t h = death_held is r xs bs vs h (home_of (running_of code r) v) line
    item_held (enters_parameters count v) t h = parameters_held is r xs bs vs h count v
    item_held (leaves_parameters count v) t h = last_held is r xs bs vs h count v
    item_held (gathers want f count args) t h = arguments_held is r xs bs vs h want f count args
    item_held (adds_number want f count u args) t h = with_block is (low_bytes (bytes u) (top xs).bits) bs vs h (number_bytes (bytes u) (top xs).bits)
    item_held (resumes want caller saved) t h = resumed want caller saved is bs vs h
    item_held (goes_out way) t h = out_held way is r xs bs vs h
    item_held (gets want how) t h =
        given_held is r (values_under how xs) (structures_under how bs) vs (handed_held is r xs bs vs h want how) want (given_by how xs bs) (handed_bytes how xs bs (held_structures is bs vs h))
    item_held (turns n loop) t h = turn_held is r xs bs vs h n loop
    item_held (retests n loop) t h = test_held is r xs bs vs h loop.test n loop
    item_held (repeats n loop) t h = one_held is r xs bs vs h (is_true (top xs).bits) (turns n loop ∷ is) is (rest xs) refl refl
    item_held (loops n loop) t h = begun is r xs bs vs h loop.last (retests n loop ∷ is) refl
    item_held (selects items) t h = selected_held is r xs bs vs h (has_case items (top xs).bits) (has_default items) items (top xs).bits (rest xs)
    item_held strays t h = tt
    item_held (ending line x) t h = ending_held is r xs bs vs h first line x
    item_held (ended x) t h = tt
    item_held _ t h = h

  held_from : (is : List Item) (r : Active) (xs : List TypedNumber) (bs : List (List ℕ)) (vs : Variables) → sizes_of vs ≡ variables_at file r.function → fits file is r.function (types_of xs) (sizes_of bs) ≡ true → holds_bytes is bs vs ≡ true → KeepsBytes (move code first true (state is r xs bs vs))
  held_from [] r xs bs vs sized t h = tt
  held_from (i ∷ is) r xs bs vs sized t h = item_held is r xs bs vs sized i t h

  pub bytes_of_next : (s : State) → IsSized file s → Fits file s → HoldsBytes s → KeepsBytes (move code first true s)
  bytes_of_next s sized t h = held_from s.items s.active s.values s.structures s.variables sized t h

  pub bytes_kept : (s t : State) → IsSized file s → Fits file s → HoldsBytes s → move code first true s ≡ silent t → HoldsBytes t
  bytes_kept s t sized k h e = subst KeepsBytes e (bytes_of_next s sized k h)

  answered_bytes : (m : Move) (a : Answer) (c : Change) (is : List Item) (r : Active) (xs : List TypedNumber) (bs : List (List ℕ)) (vs : Variables) → KeepsBytes m → Accepts m a → Answers is r xs bs vs m a c → HoldsBytes (changed c is r xs bs vs)
  answered_bytes (asks action line follows) a c is r xs bs vs h d w = let P : State → Type 0 = HoldsBytes in subst P w (h.1 a d)
  answered_bytes (silent t) a c is r xs bs vs h d w = absurd d
  answered_bytes (breaks class line) a c is r xs bs vs h d w = absurd d
  answered_bytes blocks a c is r xs bs vs h d w = absurd d
  answered_bytes (ends v) a c is r xs bs vs h d w = absurd d

  pub bytes_answered : (s : State) (a : Answer) (c : Change) → IsSized file s → Fits file s → HoldsBytes s → Accepts (move code first true s) a →
      Answers (behind s.items) s.active s.values s.structures s.variables (move code first true s) a c → HoldsBytes (changed c (behind s.items) s.active s.values s.structures s.variables)
  bytes_answered s a c sized k h d w =
      answered_bytes (move code first true s) a c (behind s.items) s.active s.values s.structures s.variables (bytes_of_next s sized k h) d w
