-- No step makes more activations: one that is opened is one fewer that may be, and the other way round.
use Rattle.std.proofs.Common.{◌≡◌, ◌≤◌, ◌+◌, ◌*◌, ◌==◌, ℕ, zero, suc, ℤ, pos, nat_le, length, Bool, true, false, List, [], ◌∷◌, drop, Option, Some, None, slice_get, slice_index, if◌then◌else◌, refl, subst, arith, ◌-◌}
use Rattle.words.specs.declared.check.Class.{Class}
use Rattle.words.specs.declared.check.Class.TheVariants.{Assertion, Return, Unwind, Recursion, Pointer}
use Rattle.c_types.specs.declared.integers.IntegerType.{IntegerType}
use Rattle.c_types.specs.declared.integers.IntegerType.TheVariants.{UnsignedLong}
use Rattle.c_types.specs.Integers.{bytes, promoted}
use Rattle.core_tree.specs.declared.operators.ArithmeticOperator.{ArithmeticOperator}
use Rattle.core_tree.specs.Trees as trees
use Rattle.core_tree.specs.Trees.{Place, element, subscript, Expression, sum, Structure, string, Parts, no_part, Arguments, no_argument, number_argument, structure_argument, Statement, block, Items, done, initializes, initializes_structure}
use Rattle.core_tree.specs.Operations.{is_true, converted, arithmetic_check, sign_check}
use Rattle.actions.specs.declared.action.Answer.{Answer}
use Rattle.actions.specs.Pointer.{object_of, offset_of}
use Rattle.c_values.specs.Pointers.{in_range, offset_by}
use Rattle.c_values.specs.Variables.{Variables, low_bytes}
use Rattle.c_values.specs.Numbers.{TypedNumber, typed}
use Rattle.c_meaning.specs.Meaning as meaning
use Rattle.c_meaning.specs.Meaning.{Given, Code, place_line, home_of, variable_of, body_of, variables_of, total, decides, has_case, has_default}
use Rattle.c_tasks.specs.Items.{top, rest, second, top_bytes, Active, closed, running_of, base, index_number, Wanted, wants_number, wants_structure, wants_end, line_of, Handed, Way, by_break, by_continue, by_jump, by_return, given_by, values_under, structures_under, blocks_on, Loop, loop_of, Item, evaluates, signs, operates, decides_on, drops, asserts, assumes, locates, elements, loads, stores, rewrites, updates, combines, steps, increments, looks, lands, shifts, paces, advances, arrives, measures, orders, claims, tries, admits, draws, makes, releases, quits, evaluates_structure, copies, stores_structure, lists, runs, branches, enters as enters_items, goes_on, ends_block, leaves, fills, settles, initial, initial_structure, dies, enters_parameters, ends_parameters, leaves_parameters, gathers, resumes, goes_out, gets, turns, retests, repeats, loops, selects, switches, strays, ending, ended, State, state}
use Rattle.c_tasks.specs.Steps.{Move, silent, asks, breaks, blocks, ends, part_items, behind_case, behind_default, behind_label, jumped, out_of, unless_stopped, move_bytes, move_put, move_pointer, move_place, move_expression, move_structure, move_parts, move_statement, move_fill, move_entry, move_settle, move_initial, move_death, move_end, move_parameters, move_last, move_claim, move_try, move_admission, move_draw, move_items, move_turn, move_test, move_body, move_arguments, move_given, move_item, move}
use Rattle.c_interp.specs.inner.Cuts.{total_opened}
use Rattle.c_tasks.specs.Tasks.{behind, changed, open_in, activations, Accepts, Answers}
use Rattle.c_tasks.specs.declared.task.Change.{Change}

-- ---- ways out

total_closed : (left : List ℕ) (f : ℕ) → total (closed left f) ≤ total left + 1
total_closed [] f = omega arith
total_closed (n ∷ left) zero = omega arith
total_closed (n ∷ left) (suc f) = omega (arith, total_closed left f)

break_open : (is : List Item) (r : Active) (xs : List TypedNumber) (bs : List (List ℕ)) (vs : Variables) → activations (out_of by_break is r xs bs vs) ≤ total r.left + open_in is
break_open [] r xs bs vs = omega arith
break_open (ends_block items ∷ is) r xs bs vs = omega arith
break_open (ends_parameters count ∷ is) r xs bs vs = omega arith
break_open (loops n loop ∷ is) r xs bs vs = omega arith
break_open (switches items ∷ is) r xs bs vs = omega arith
break_open (resumes want caller saved ∷ is) r xs bs vs = omega arith
break_open (_ ∷ is) r xs bs vs = break_open is r xs bs vs

continue_open : (is : List Item) (r : Active) (xs : List TypedNumber) (bs : List (List ℕ)) (vs : Variables) → activations (out_of by_continue is r xs bs vs) ≤ total r.left + open_in is
continue_open [] r xs bs vs = omega arith
continue_open (ends_block items ∷ is) r xs bs vs = omega arith
continue_open (ends_parameters count ∷ is) r xs bs vs = omega arith
continue_open (loops n loop ∷ is) r xs bs vs = omega arith
continue_open (switches items ∷ is) r xs bs vs = omega arith
continue_open (resumes want caller saved ∷ is) r xs bs vs = omega arith
continue_open (_ ∷ is) r xs bs vs = continue_open is r xs bs vs

label_open : (is : List Item) (r : Active) (xs : List TypedNumber) (bs : List (List ℕ)) (vs : Variables) (o : Option Items) (further : State) → activations further ≤ total r.left + open_in is → activations (jumped o further (λ more. state (goes_on more ∷ is) r xs bs vs)) ≤ total r.left + open_in is
label_open is r xs bs vs None further h = h
label_open is r xs bs vs (Some items) further h = omega arith

jump_open : (n : ℕ) (is : List Item) (r : Active) (xs : List TypedNumber) (bs : List (List ℕ)) (vs : Variables) → activations (out_of (by_jump n) is r xs bs vs) ≤ total r.left + open_in is
jump_open n [] r xs bs vs = omega arith
jump_open n (ends_block items ∷ is) r xs bs vs = omega arith
jump_open n (ends_parameters count ∷ is) r xs bs vs = omega arith
jump_open n (switches items ∷ is) r xs bs vs = omega arith
jump_open n (goes_on items ∷ is) r xs bs vs = label_open is r xs bs vs (behind_label n items) (out_of (by_jump n) is r xs bs vs) (jump_open n is r xs bs vs)
jump_open n (resumes want caller saved ∷ is) r xs bs vs = omega arith
jump_open n (_ ∷ is) r xs bs vs = jump_open n is r xs bs vs

return_open : (how : Handed) (is : List Item) (r : Active) (xs : List TypedNumber) (bs : List (List ℕ)) (vs : Variables) → activations (out_of (by_return how) is r xs bs vs) ≤ total r.left + open_in is
return_open how [] r xs bs vs = omega arith
return_open how (ends_block items ∷ is) r xs bs vs = omega arith
return_open how (ends_parameters count ∷ is) r xs bs vs = omega arith
return_open how (switches items ∷ is) r xs bs vs = omega arith
return_open how (resumes want caller saved ∷ is) r xs bs vs = omega (arith, total_closed r.left r.function)
return_open how (_ ∷ is) r xs bs vs = return_open how is r xs bs vs

out_open : (way : Way) (is : List Item) (r : Active) (xs : List TypedNumber) (bs : List (List ℕ)) (vs : Variables) → activations (out_of way is r xs bs vs) ≤ total r.left + open_in is
out_open by_break is r xs bs vs = break_open is r xs bs vs
out_open by_continue is r xs bs vs = continue_open is r xs bs vs
out_open (by_jump n) is r xs bs vs = jump_open n is r xs bs vs
out_open (by_return how) is r xs bs vs = return_open how is r xs bs vs

-- ---- moves

module _ (code : Code) (first : Bool) where
  -- from so many
  abbrev Keeps : ℕ → Move → Type 0
  Keeps n (silent t) = activations t ≤ n
  Keeps n (asks action line follows) = (a : Answer) → activations (follows a) ≤ n
  Keeps n _ = Unit {0}

  checked : (n : ℕ) (c : Option Class) (line : ℕ) (t : State) → activations t ≤ n → Keeps n (unless_stopped code first true c line t)
  checked n None line t h = h
  checked n (Some class) line t h = tt

  stopped : (n : ℕ) (b : Bool) (class : Class) (line : ℕ) → Keeps n (if b then breaks class line else blocks)
  stopped n true class line = tt
  stopped n false class line = tt

  chosen : (n : ℕ) (b : Bool) (m o : Move) → Keeps n m → Keeps n o → Keeps n (if b then m else o)
  chosen n true m o h k = h
  chosen n false m o h k = k

  using_value : (n : ℕ) (b : Bool) (line : ℕ) (t : State) → activations t ≤ n → Keeps n (if b then breaks Return line else silent t)
  using_value n true line t h = tt
  using_value n false line t h = h

  either : (n : ℕ) (b : Bool) (s t : State) → activations s ≤ n → activations t ≤ n → activations (if b then s else t) ≤ n
  either n true s t h k = h
  either n false s t h k = k

  assumed : (n : ℕ) (b : Bool) (t : State) → activations t ≤ n → Keeps n (if b then silent t else blocks)
  assumed n true t h = h
  assumed n false t h = tt

  items_either : (b : Bool) (is js ks : List Item) → open_in js ≤ open_in is → open_in ks ≤ open_in is → open_in (if b then js else ks) ≤ open_in is
  items_either true is js ks h k = h
  items_either false is js ks h k = k

  part_open : (o : Option Expression) (is : List Item) → open_in (part_items o is) ≤ open_in is
  part_open None is = omega arith
  part_open (Some e) is = omega arith

  bytes_keep : (n : ℕ) (o : Option ℕ) (at count line : ℕ) (r : Active) (vs : Variables) (next : List ℕ → State) → ((found : List ℕ) → activations (next found) ≤ n) → Keeps n (move_bytes code first true o at count line r vs next)
  bytes_keep n (Some v) at count line r vs next h = chosen n (nat_le (offset_of at + count) (meaning.size_of (running_of code r) v)) _ _ (h _) tt
  bytes_keep n None at count line r vs next h = λ a. h _

  put_keeps : (n : ℕ) (o : Option ℕ) (at : ℕ) (new : List ℕ) (line : ℕ) (r : Active) (vs : Variables) (next : Variables → State) → ((now : Variables) → activations (next now) ≤ n) → Keeps n (move_put code first true o at new line r vs next)
  put_keeps n (Some v) at new line r vs next h = chosen n (nat_le (offset_of at + length new) (meaning.size_of (running_of code r) v)) _ _ (h _) tt
  put_keeps n None at new line r vs next h = λ a. h vs

  pointer_keeps : (n : ℕ) (is_element : Bool) (p size : ℕ) (index stride : ℤ) (line : ℕ) (next : ℕ → State) → ((q : ℕ) → activations (next q) ≤ n) → Keeps n (move_pointer code first true is_element p size index stride line next)
  pointer_keeps n is_element p size index stride line next h = chosen n (in_range (offset_by (offset_of p) index stride) size) _ _ (h _) tt

  initial_keeps : (n : ℕ) (home : Option ℕ) (v : ℕ) (new : List ℕ) (line : ℕ) (r : Active) (vs : Variables) (next : Variables → State) → ((now : Variables) → activations (next now) ≤ n) → Keeps n (move_initial code first true home v new line r vs next)
  initial_keeps n None v new line r vs next h = h _
  initial_keeps n (Some home) v new line r vs next h = λ a. h vs

  module _ (is : List Item) (r : Active) (xs : List TypedNumber) (bs : List (List ℕ)) (vs : Variables) where
    abbrev n : ℕ
    n = total r.left + open_in is

    place_keeps : (p : Place) → Keeps n (move_place code first true p is r xs bs vs)
    place_keeps (element line p e size whole true) = omega arith
    place_keeps (element line p e size whole false) = omega arith
    place_keeps (subscript line a e size true) = omega arith
    place_keeps (subscript line a e size false) = omega arith
    place_keeps _ = omega arith

    expression_keeps : (e : Expression) → Keeps n (move_expression code first true e is r xs bs vs)
    expression_keeps (sum line a e m true) = omega arith
    expression_keeps (sum line a e m false) = omega arith
    expression_keeps (trees.draw line t) = λ a. omega arith
    expression_keeps _ = omega arith

    structure_keeps : (a : Structure) → Keeps n (move_structure code first true a is r xs bs vs)
    structure_keeps (string line size text) = omega arith
    structure_keeps _ = omega arith

    parts_keep : (parts : Parts) → Keeps n (move_parts code first true parts is r xs bs vs)
    parts_keep no_part = omega arith
    parts_keep _ = omega arith

    statement_keeps : (s : Statement) → Keeps n (move_statement code first true s is r xs bs vs)
    statement_keeps (trees.for_loop line m start test last s) = let h = part_open start (retests (code.tests r.function m - 1) (loop_of line test last s) ∷ is) in omega (arith, h)
    statement_keeps _ = omega arith

    entry_keeps : (items : Items) → Keeps n (move_entry code first true items is r xs bs vs)
    entry_keeps (initializes line v true e more) = omega arith
    entry_keeps (initializes line v false e more) = omega arith
    entry_keeps (initializes_structure line v true e more) = omega arith
    entry_keeps (initializes_structure line v false e more) = omega arith
    entry_keeps _ = omega arith

    fill_keeps : (words line v offset : ℕ) → Keeps n (move_fill code first true words line v offset is r xs bs vs)
    fill_keeps zero line v offset = omega arith
    fill_keeps (suc k) line v offset = λ a. omega arith

    settle_keeps : (home : Option ℕ) (line v : ℕ) → Keeps n (move_settle code first true home line v is r xs bs vs)
    settle_keeps None line v = omega arith
    settle_keeps (Some h) line v = λ a. omega arith

    death_keeps : (home : Option ℕ) (line : ℕ) → Keeps n (move_death code first true home line is r xs bs vs)
    death_keeps None line = omega arith
    death_keeps (Some h) line = λ a. omega arith

    end_keeps : (items : Items) → Keeps n (move_end code first true items is r xs bs vs)
    end_keeps done = omega arith
    end_keeps _ = omega arith

    parameters_keep : (count v : ℕ) → Keeps n (move_parameters code first true count v is r xs bs vs)
    parameters_keep zero v = omega arith
    parameters_keep (suc count) v = omega arith

    last_keeps : (count v : ℕ) → Keeps n (move_last code first true count v is r xs bs vs)
    last_keeps zero v = omega arith
    last_keeps (suc count) v = omega arith

    claim_keeps : (line : ℕ) (zeroed : Bool) → Keeps n (move_claim code first true line zeroed is r xs bs vs)
    claim_keeps line zeroed = chosen n code.malloc_may_fail _ _ (λ a. omega arith) (omega arith)

    admission_keeps : (line : ℕ) (zeroed : Bool) → Keeps n (move_admission code first true line zeroed is r xs bs vs)
    admission_keeps line false = chosen n (nat_le (top xs).bits code.malloc_limit) _ _ (omega arith) tt
    admission_keeps line true = chosen n (nat_le ((second xs).bits * (top xs).bits) code.malloc_limit) _ _ (omega arith) tt

    draw_keeps : (words size line : ℕ) → Keeps n (move_draw code first true words size line is r xs bs vs)
    draw_keeps zero size line = omega arith
    draw_keeps (suc k) size line = λ a. omega arith

    items_keep : (items : Items) → Keeps n (move_items code first true items is r xs bs vs)
    items_keep done = omega arith
    items_keep _ = omega arith

    turn_keeps : (m : ℕ) (loop : Loop) → Keeps n (move_turn code first true m loop is r xs bs vs)
    turn_keeps zero loop = stopped n code.assertions Unwind loop.line
    turn_keeps (suc m) loop = omega arith

    test_keeps : (test : Option Expression) (m : ℕ) (loop : Loop) → Keeps n (move_test code first true test m loop is r xs bs vs)
    test_keeps None m loop = omega arith
    test_keeps (Some e) m loop = omega arith

    body_keeps : (want : Wanted) (f : ℕ) (args : List (List ℕ)) (sizes : List ℕ) (body : Option Statement) → (slice_index r.left f == 0) ≡ false → Keeps n (move_body code first true want f args sizes body is r xs bs vs)
    body_keeps want f args sizes None h = tt
    body_keeps want f args sizes (Some s) h = let e = total_opened r.left f h in omega (arith, e)

    call_keeps : (b : Bool) (want : Wanted) (f : ℕ) (args : List (List ℕ)) → (slice_index r.left f == 0) ≡ b →
        Keeps n (if b then (if code.assertions then breaks Recursion (line_of want) else blocks) else move_body code first true want f args (meaning.sizes_of (variables_of (slice_get code.functions f))) (body_of (slice_get code.functions f)) is r xs bs vs)
    call_keeps true want f args h = stopped n code.assertions Recursion (line_of want)
    call_keeps false want f args h = body_keeps want f args (meaning.sizes_of (variables_of (slice_get code.functions f))) (body_of (slice_get code.functions f)) h

    given_keeps : (want : Wanted) (given : Given) → Keeps n (move_given code first true want given is r xs bs vs)
    given_keeps (wants_number line used t) meaning.nothing = using_value n used line _ (omega arith)
    given_keeps (wants_number line used t) (meaning.number x) = omega arith
    given_keeps (wants_number line used t) (meaning.structure value) = omega arith
    given_keeps (wants_structure line used size) meaning.nothing = using_value n used line _ (omega arith)
    given_keeps (wants_structure line used size) (meaning.number x) = omega arith
    given_keeps (wants_structure line used size) (meaning.structure value) = omega arith
    given_keeps (wants_end line) given = omega arith

  arguments_keep : (want : Wanted) (f count : ℕ) (args : Arguments) (is : List Item) (r : Active) (xs : List TypedNumber) (bs : List (List ℕ)) (vs : Variables) → Keeps (total r.left + open_in is) (move_arguments code first true want f count args is r xs bs vs)
  arguments_keep want f count no_argument is r xs bs vs = call_keeps is r xs (drop count bs) vs (slice_index r.left f == 0) want f (blocks_on count bs) refl
  arguments_keep want f count (number_argument e more) is r xs bs vs = omega arith
  arguments_keep want f count (structure_argument a more) is r xs bs vs = omega arith

  item_keeps : (i : Item) (is : List Item) (r : Active) (xs : List TypedNumber) (bs : List (List ℕ)) (vs : Variables) → Keeps (total r.left + open_in (i ∷ is)) (move_item code first true i is r xs bs vs)
  item_keeps (evaluates e) is r xs bs vs = expression_keeps is r xs bs vs e
  item_keeps (signs line op) is r xs bs vs = checked _ (sign_check op (top xs).type (top xs).bits) line _ (omega arith)
  item_keeps (operates line op) is r xs bs vs = checked _ (arithmetic_check op (second xs).type (top xs).type (second xs).bits (top xs).bits) line _ (omega arith)
  item_keeps (decides_on op b) is r xs bs vs = either _ (decides op (top xs).bits) _ _ (omega arith) (omega arith)
  item_keeps (asserts line) is r xs bs vs = checked _ (if is_true (top xs).bits then None else Some Assertion) line _ (omega arith)
  item_keeps assumes is r xs bs vs = assumed _ (is_true (top xs).bits) _ (omega arith)
  item_keeps (locates p) is r xs bs vs = place_keeps is r xs bs vs p
  item_keeps (elements line size whole swapped) is r xs bs vs = pointer_keeps _ true (base swapped xs).bits whole (index_number swapped xs) (pos size) line (λ q. state is r (typed UnsignedLong q ∷ rest (rest xs)) bs vs) (λ q. omega arith)
  item_keeps (loads t p) is r xs bs vs = bytes_keep _ (variable_of (running_of code r) p) (top xs).bits (bytes t) (place_line p) r vs _ (λ found. omega arith)
  item_keeps (stores line t p) is r xs bs vs = put_keeps _ (variable_of (running_of code r) p) (second xs).bits (low_bytes (bytes t) (top xs).bits) line r vs _ (λ now. omega arith)
  item_keeps (rewrites line t p at) is r xs bs vs = put_keeps _ (variable_of (running_of code r) p) at (low_bytes (bytes t) (top xs).bits) line r vs _ (λ now. omega arith)
  item_keeps (updates line t p op u) is r xs bs vs = bytes_keep _ (variable_of (running_of code r) p) (second xs).bits (bytes t) (place_line p) r vs _ (λ found. omega arith)
  item_keeps (combines line t p op u) is r xs bs vs = checked _ (arithmetic_check op u (second xs).type (converted t u (top xs).bits) (second xs).bits) line _ (omega arith)
  item_keeps (steps line t p op before) is r xs bs vs = bytes_keep _ (variable_of (running_of code r) p) (top xs).bits (bytes t) (place_line p) r vs _ (λ found. omega arith)
  item_keeps (increments line t p op true at) is r xs bs vs = let u = promoted t in checked _ (arithmetic_check op u u (converted t u (top xs).bits) 1) line _ (omega arith)
  item_keeps (increments line t p op false at) is r xs bs vs = let u = promoted t in checked _ (arithmetic_check op u u (converted t u (top xs).bits) 1) line _ (omega arith)
  item_keeps (looks line k is_element swapped) is r xs bs vs = λ a. omega arith
  item_keeps (lands line k is_element swapped) is r xs bs vs = pointer_keeps _ is_element (base swapped (rest xs)).bits (top xs).bits (index_number swapped (rest xs)) k line (λ q. state is r (typed UnsignedLong q ∷ rest (rest (rest xs))) bs vs) (λ q. omega arith)
  item_keeps (shifts line p k) is r xs bs vs = bytes_keep _ (variable_of (running_of code r) p) (second xs).bits (bytes UnsignedLong) (place_line p) r vs _ (λ found. omega arith)
  item_keeps (paces line p k before) is r xs bs vs = bytes_keep _ (variable_of (running_of code r) p) (top xs).bits (bytes UnsignedLong) (place_line p) r vs _ (λ found. omega arith)
  item_keeps (advances line p k before at) is r xs bs vs = λ a. omega arith
  item_keeps (arrives line p k true at) is r xs bs vs = pointer_keeps _ false (second xs).bits (top xs).bits (pos 1) k line (λ q. state (rewrites line UnsignedLong p at ∷ is) r (typed UnsignedLong q ∷ rest (rest xs)) bs vs) (λ q. omega arith)
  item_keeps (arrives line p k false at) is r xs bs vs = pointer_keeps _ false (second xs).bits (top xs).bits (pos 1) k line (λ q. state (rewrites line UnsignedLong p at ∷ drops ∷ is) r (typed UnsignedLong q ∷ rest xs) bs vs) (λ q. omega arith)
  item_keeps (measures line k) is r xs bs vs = checked _ (if object_of (second xs).bits == object_of (top xs).bits then None else Some Pointer) line _ (omega arith)
  item_keeps (orders line op) is r xs bs vs = checked _ (if object_of (second xs).bits == object_of (top xs).bits then None else Some Pointer) line _ (omega arith)
  item_keeps (claims line zeroed) is r xs bs vs = claim_keeps is r xs bs vs line zeroed
  item_keeps (tries line zeroed) is r xs bs vs = either _ (is_true (top xs).bits) _ _ (omega arith) (omega arith)
  item_keeps (admits line zeroed) is r xs bs vs = admission_keeps is r xs bs vs line zeroed
  item_keeps (draws words size line) is r xs bs vs = draw_keeps is r xs bs vs words size line
  item_keeps (makes line) is r xs bs vs = λ a. omega arith
  item_keeps (releases line) is r xs bs vs = chosen _ ((top xs).bits == 0) _ _ (omega arith) (λ a. omega arith)
  item_keeps (quits line) is r xs bs vs = λ a. omega arith
  item_keeps (evaluates_structure a) is r xs bs vs = structure_keeps is r xs bs vs a
  item_keeps (copies p size) is r xs bs vs = bytes_keep _ (variable_of (running_of code r) p) (top xs).bits size (place_line p) r vs _ (λ found. omega arith)
  item_keeps (stores_structure line p) is r xs bs vs = put_keeps _ (variable_of (running_of code r) p) (top xs).bits (top_bytes bs) line r vs _ (λ now. omega arith)
  item_keeps (lists parts) is r xs bs vs = parts_keep is r xs bs vs parts
  item_keeps (runs s) is r xs bs vs = statement_keeps is r xs bs vs s
  item_keeps (branches s) is r xs bs vs = let h = items_either (is_true (top xs).bits) is (runs s ∷ is) is (omega arith) (omega arith) in omega (arith, h)
  item_keeps (enters_items items) is r xs bs vs = entry_keeps is r xs bs vs items
  item_keeps (goes_on items) is r xs bs vs = items_keep is r xs bs vs items
  item_keeps (leaves items) is r xs bs vs = end_keeps is r xs bs vs items
  item_keeps (fills words line v offset) is r xs bs vs = fill_keeps is r xs bs vs words line v offset
  item_keeps (settles line v) is r xs bs vs = settle_keeps is r xs bs vs (home_of (running_of code r) v) line v
  item_keeps (initial line v t) is r xs bs vs = initial_keeps _ (home_of (running_of code r) v) v (low_bytes (bytes t) (top xs).bits) line r vs _ (λ now. omega arith)
  item_keeps (initial_structure line v) is r xs bs vs = initial_keeps _ (home_of (running_of code r) v) v (top_bytes bs) line r vs _ (λ now. omega arith)
  item_keeps (dies line v) is r xs bs vs = death_keeps is r xs bs vs (home_of (running_of code r) v) line
  item_keeps (enters_parameters count v) is r xs bs vs = parameters_keep is r xs bs vs count v
  item_keeps (leaves_parameters count v) is r xs bs vs = last_keeps is r xs bs vs count v
  item_keeps (gathers want f count args) is r xs bs vs = arguments_keep want f count args is r xs bs vs
  item_keeps (resumes want caller saved) is r xs bs vs = omega (arith, total_closed r.left r.function)
  item_keeps (goes_out way) is r xs bs vs = out_open way is r xs bs vs
  item_keeps (gets want how) is r xs bs vs = given_keeps is r (values_under how xs) (structures_under how bs) vs want (given_by how xs bs)
  item_keeps (turns m loop) is r xs bs vs = turn_keeps is r xs bs vs m loop
  item_keeps (retests m loop) is r xs bs vs = test_keeps is r xs bs vs loop.test m loop
  item_keeps (repeats m loop) is r xs bs vs = let h = items_either (is_true (top xs).bits) is (turns m loop ∷ is) is (omega arith) (omega arith) in omega (arith, h)
  item_keeps (loops m loop) is r xs bs vs = let h = part_open loop.last (retests m loop ∷ is) in omega (arith, h)
  item_keeps (selects items) is r xs bs vs =
      let k = items_either (has_default items) is (enters_items items ∷ goes_on (behind_default items) ∷ switches items ∷ is) is (omega arith) (omega arith) in
      let h = items_either (has_case items (top xs).bits) is (enters_items items ∷ goes_on (behind_case (top xs).bits items) ∷ switches items ∷ is)
      (if has_default items then enters_items items ∷ goes_on (behind_default items) ∷ switches items ∷ is else is) (omega arith) k in
      omega (arith, h)
  item_keeps strays is r xs bs vs = tt
  item_keeps (ended x) is r xs bs vs = tt
  item_keeps (ending line x) is r xs bs vs = λ a. omega arith
  item_keeps _ is r xs bs vs = omega arith

  keeps_from : (is : List Item) (r : Active) (xs : List TypedNumber) (bs : List (List ℕ)) (vs : Variables) → Keeps (total r.left + open_in is) (move code first true (state is r xs bs vs))
  keeps_from [] r xs bs vs = tt
  keeps_from (i ∷ is) r xs bs vs = item_keeps i is r xs bs vs

  keeps : (s : State) → Keeps (activations s) (move code first true s)
  keeps s = keeps_from s.items s.active s.values s.structures s.variables

  pub counts_kept : (s t : State) → move code first true s ≡ silent t → activations t ≤ activations s
  counts_kept s t e = subst (Keeps (activations s)) e (keeps s)

  answered_keeps : (n : ℕ) (m : Move) (a : Answer) (c : Change) (is : List Item) (r : Active) (xs : List TypedNumber) (bs : List (List ℕ)) (vs : Variables) → Keeps n m → Accepts m a → Answers is r xs bs vs m a c → activations (changed c is r xs bs vs) ≤ n
  answered_keeps n (asks action line follows) a c is r xs bs vs h d w = subst (λ t. activations t ≤ n) w (h a)
  answered_keeps n (silent t) a c is r xs bs vs h d w = absurd d
  answered_keeps n (breaks class line) a c is r xs bs vs h d w = absurd d
  answered_keeps n blocks a c is r xs bs vs h d w = absurd d
  answered_keeps n (ends v) a c is r xs bs vs h d w = absurd d

  pub counts_answered : (s : State) (a : Answer) (c : Change) → Accepts (move code first true s) a → Answers (behind s.items) s.active s.values s.structures s.variables (move code first true s) a c →
      activations (changed c (behind s.items) s.active s.values s.structures s.variables) ≤ activations s
  counts_answered s a c d w = answered_keeps (activations s) (move code first true s) a c (behind s.items) s.active s.values s.structures s.variables (keeps s) d w
