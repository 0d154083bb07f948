-- What a function does is what its small steps do from its start; and that is what a thread may do.
use Rattle.std.specs.Prelude.{◌≡◌, ◌≤◌, ◌+◌, ◌*◌, ◌==◌, ℕ, zero, suc, pos, drop, length, nat_le, slice_index, Bool, true, false, List, [], ◌∷◌, Option, Some, None, slice_get, if◌then◌else◌}
use Rattle.std.proofs.Common.{refl, ap, sym, subst, ◌∙◌}
use Rattle.words.specs.declared.check.Class.{Class}
use Rattle.words.specs.declared.check.Class.TheVariants.{Assertion, Return, Unwind, Recursion, Pointer}
use Rattle.c_types.specs.declared.integers.IntegerType.TheVariants.{UnsignedLong}
use Rattle.c_types.specs.Integers.{bytes, promoted}
use Rattle.core_tree.specs.Ranges.{Limits}
use Rattle.core_tree.specs.Trees.{Place, element, subscript, Expression, sum, Structure, string, Parts, no_part, Arguments, no_argument, number_argument, structure_argument, Statement, block, Items, done, initializes, initializes_structure, Procedure, TypedFile}
use Rattle.core_tree.specs.Typed.{are_typed, have_small, sizes_of_variables}
use Rattle.core_tree.specs.Operations.{is_true, converted, arithmetic_check, sign_check}
use Rattle.actions.specs.declared.action.Answer.{Answer}
use Rattle.actions.specs.declared.action.Action.TheVariants.{Create, End, Exit}
use Rattle.actions.specs.declared.action.Next.{Next}
use Rattle.actions.specs.declared.action.Next.TheVariants.{Act, Ended, Blocked}
use Rattle.actions.specs.Behaviour.{Behaviour, accepts, Program, Thread, CanStart, EndsAfter, IsBehaviour, IsThread, word_64}
use Rattle.actions.specs.ByStates.{behaves_by_states}
use Rattle.actions.specs.Pointer.{object_of, offset_of}
use Rattle.c_values.specs.Pointers.{in_range, offset_by}
use Rattle.c_values.specs.Variables.{Variables, low_bytes, first_variables}
use Rattle.c_meaning.specs.Meaning as meaning
use Rattle.c_meaning.specs.Meaning.{Given, Code, place_line, home_of, variable_of, size_of, sizes_of, body_of, variables_of, total, activation}
use Rattle.c_meaning.specs.Source.{code_of, first_left, function_behaviour, runs_at, source_program}
use Rattle.c_values.specs.Numbers.{TypedNumber}
use Rattle.c_tasks.specs.Items.{top, rest, second, top_bytes, Active, active, running_of, base, index_number, Wanted, wants_number, wants_structure, wants_end, line_of, given_by, values_under, structures_under, blocks_on, Loop, Item, evaluates, signs, operates, locates, elements, loads, stores, rewrites, updates, combines, steps, increments, lands, shifts, paces, arrives, measures, orders, claims, admits, draws, releases, quits, asserts, assumes, evaluates_structure, copies, stores_structure, lists, runs, enters, goes_on, leaves, fills, settles, initial, initial_structure, dies, enters_parameters, leaves_parameters, gathers, gets, turns, retests, ending, ended, State, state, behaves}
use Rattle.c_tasks.specs.Steps.{Move, silent, asks, breaks, blocks, unless_stopped, move_bytes, move_put, move_place, move_expression, move_structure, move_parts, move_statement, move_fill, move_entry, move_settle, move_initial, move_death, move_end, move_parameters, move_last, move_claim, move_admission, move_draw, move_items, move_turn, move_test, move_body, move_arguments, move_given, move_item, move}
use Rattle.c_interp.specs.Work.{weight}
use Rattle.c_interp.specs.Small.{settled, settle, next_of, answered_by, next_small, answered_small, bounded}
use Rattle.c_interp.specs.inner.Cuts.{fuel_enough}
use Rattle.c_interp.specs.inner.Adequate.{adequate}
use Rattle.c_interp.specs.Keeps.{IsKept}
use Rattle.c_tasks.proofs.Sizes.{first_sizes}
use Rattle.c_interp.specs.inner.Blocks.{first_blocks, all_held}
use Rattle.c_interp.specs.inner.FirstStates.{start_fits}
use Rattle.c_interp.specs.inner.KeptStates.{small_kept, small_makes}

-- ---- the start of a thread: the first call of a function, whose name stands on this line. Its caller is the function itself, before its start

abbrev pub start_state : TypedFile → Limits → (f line : ℕ) → State
start_state file limits f line = state (gathers (wants_end line) f 0 no_argument ∷ []) (active f (first_left file.functions limits)) [] [] (first_variables (sizes_of (variables_of (slice_get file.functions f))))

-- a thread in a state, of a program that can start threads in the functions with numbers below `startable`
abbrev pub thread_in : TypedFile → Limits → ℕ → Bool → State → Thread
thread_in file limits startable first s = record { behaves = behaves (code_of file limits) first s; program = source_program file limits startable }

-- a thread at the start of a function
abbrev pub function_thread : TypedFile → Limits → ℕ → Bool → ℕ → Thread
function_thread file limits startable first number = record { behaves = function_behaviour file limits first number; program = source_program file limits startable }

-- ---- no action starts a thread, and an action that ends the thread or the process is the last

abbrev pub StartsNone : Next → Type 0
StartsNone (Act (Create f v) line function) = ⊥
StartsNone _ = Unit {0}

none_starts : (program : Program) (n : Next) → StartsNone n → CanStart program n
none_starts program (Act (Create f v) line function) h = absurd h
none_starts program _ h = tt

same_zero : (b : Bool) → Ended (word_64 (if b then 0 else 0)) ≡ Ended (word_64 0)
same_zero true = refl
same_zero false = refl

module _ (code : Code) (first : Bool) where
  -- what a move asks for starts no thread, and the end is the last
  abbrev IsFine : Active → Move → Type 0
  IsFine r m = StartsNone (next_of r m) × ((s : State) (a : Answer) → EndsAfter (next_of r m) a (next_small code first true (weight code) (answered_by m a s)))

  either_fine : (r : Active) (b : Bool) (m n : Move) → IsFine r m → IsFine r n → IsFine r (if b then m else n)
  either_fine r true m n h k = h
  either_fine r false m n h k = k

  silent_fine : (r : Active) (s : State) → IsFine r (silent s)
  silent_fine r t = (tt, λ s a. tt)

  broken_fine : (r : Active) (class : Class) (line : ℕ) → IsFine r (breaks class line)
  broken_fine r class line = (tt, λ s a. tt)

  blocked_fine : (r : Active) → IsFine r blocks
  blocked_fine r = (tt, λ s a. tt)

  checked_fine : (r : Active) (c : Option Class) (line : ℕ) (s : State) → IsFine r (unless_stopped code first true c line s)
  checked_fine r None line s = (tt, λ s a. tt)
  checked_fine r (Some class) line s = (tt, λ s a. tt)

  stopped_fine : (r : Active) (class : Class) (line : ℕ) → IsFine r (if code.assertions then breaks class line else blocks)
  stopped_fine r class line = either_fine r code.assertions (breaks class line) blocks (broken_fine r class line) (blocked_fine r)

  -- nothing follows an end
  ended_stays : (n x : ℕ) (is : List Item) (r : Active) (xs : List TypedNumber) (bs : List (List ℕ)) (vs : Variables) → settled code first true n (state (ended x ∷ is) r xs bs vs) ≡ state (ended x ∷ is) r xs bs vs
  ended_stays zero x is r xs bs vs = refl
  ended_stays (suc n) x is r xs bs vs = refl

  next_ended : (x : ℕ) (is : List Item) (r : Active) (xs : List TypedNumber) (bs : List (List ℕ)) (vs : Variables) →
      next_small code first true (weight code) (state (ended x ∷ is) r xs bs vs) ≡ Ended (word_64 (if first then 0 else x))
  next_ended x is r xs bs vs =
      let s = state (ended x ∷ is) r xs bs vs in
      ap (λ (t : State). next_of t.active (move code first true t)) (ended_stays (weight code s) x is r xs bs vs)

  ending_fine : (b : Bool) (r : Active) (line x : ℕ) (is : List Item) (xs : List TypedNumber) (bs : List (List ℕ)) (vs : Variables) →
      first ≡ b → IsFine r (asks (if b then Exit else End x) line (λ a. state (ended x ∷ is) r xs bs vs))
  ending_fine true r line x is xs bs vs h = (tt, λ s a ok. next_ended x is r xs bs vs ∙ (λ i. Ended (word_64 (if h i then 0 else x))))
  ending_fine false r line x is xs bs vs h = (tt, λ s a ok. next_ended x is r xs bs vs ∙ (λ i. Ended (word_64 (if h i then 0 else x))))

  quitting_fine : (r : Active) (line : ℕ) (is : List Item) (xs : List TypedNumber) (bs : List (List ℕ)) (vs : Variables) → IsFine r (asks Exit line (λ a. state (ended 0 ∷ is) r xs bs vs))
  quitting_fine r line is xs bs vs = (tt, λ s a ok. next_ended 0 is r xs bs vs ∙ same_zero first)

  -- ---- places

  bytes_fine : (o : Option ℕ) (at count line : ℕ) (r : Active) (vs : Variables) (next : List ℕ → State) → IsFine r (move_bytes code first true o at count line r vs next)
  bytes_fine (Some v) at count line r vs next = either_fine r (nat_le (offset_of at + count) (size_of (running_of code r) v)) _ _ (tt, λ s a. tt) (tt, λ s a. tt)
  bytes_fine None at count line r vs next = (tt, λ s a. tt)

  put_fine : (o : Option ℕ) (at : ℕ) (new : List ℕ) (line : ℕ) (r : Active) (vs : Variables) (next : Variables → State) → IsFine r (move_put code first true o at new line r vs next)
  put_fine (Some v) at new line r vs next = either_fine r (nat_le (offset_of at + length new) (size_of (running_of code r) v)) _ _ (tt, λ s a. tt) (tt, λ s a. tt)
  put_fine None at new line r vs next = (tt, λ s a. tt)

  module _ (is : List Item) (r : Active) (xs : List TypedNumber) (bs : List (List ℕ)) (vs : Variables) where
    place_fine : (p : Place) → IsFine r (move_place code first true p is r xs bs vs)
    place_fine (element line p e size whole true) = (tt, λ s a. tt)
    place_fine (element line p e size whole false) = (tt, λ s a. tt)
    place_fine (subscript line a e size true) = (tt, λ s a. tt)
    place_fine (subscript line a e size false) = (tt, λ s a. tt)
    place_fine _ = (tt, λ s a. tt)

    expression_fine : (e : Expression) → IsFine r (move_expression code first true e is r xs bs vs)
    expression_fine (sum line a e n true) = (tt, λ s a. tt)
    expression_fine (sum line a e n false) = (tt, λ s a. tt)
    expression_fine _ = (tt, λ s a. tt)

    structure_fine : (a : Structure) → IsFine r (move_structure code first true a is r xs bs vs)
    structure_fine (string line size text) = (tt, λ s a. tt)
    structure_fine _ = (tt, λ s a. tt)

    parts_fine : (parts : Parts) → IsFine r (move_parts code first true parts is r xs bs vs)
    parts_fine no_part = (tt, λ s a. tt)
    parts_fine _ = (tt, λ s a. tt)

    statement_fine : (s : Statement) → IsFine r (move_statement code first true s is r xs bs vs)
    statement_fine (block items) = (tt, λ s a. tt)
    statement_fine _ = (tt, λ s a. tt)

    -- ---- variables

    entry_fine : (items : Items) → IsFine r (move_entry code first true items is r xs bs vs)
    entry_fine (initializes line v true e more) = (tt, λ s a. tt)
    entry_fine (initializes line v false e more) = (tt, λ s a. tt)
    entry_fine (initializes_structure line v true e more) = (tt, λ s a. tt)
    entry_fine (initializes_structure line v false e more) = (tt, λ s a. tt)
    entry_fine _ = (tt, λ s a. tt)

    fill_fine : (words line v offset : ℕ) → IsFine r (move_fill code first true words line v offset is r xs bs vs)
    fill_fine zero line v offset = (tt, λ s a. tt)
    fill_fine (suc k) line v offset = (tt, λ s a. tt)

    settle_fine : (home : Option ℕ) (line v : ℕ) → IsFine r (move_settle code first true home line v is r xs bs vs)
    settle_fine None line v = (tt, λ s a. tt)
    settle_fine (Some h) line v = (tt, λ s a. tt)

    death_fine : (home : Option ℕ) (line : ℕ) → IsFine r (move_death code first true home line is r xs bs vs)
    death_fine None line = (tt, λ s a. tt)
    death_fine (Some h) line = (tt, λ s a. tt)

    end_fine : (items : Items) → IsFine r (move_end code first true items is r xs bs vs)
    end_fine done = (tt, λ s a. tt)
    end_fine _ = (tt, λ s a. tt)

    parameters_fine : (count v : ℕ) → IsFine r (move_parameters code first true count v is r xs bs vs)
    parameters_fine zero v = (tt, λ s a. tt)
    parameters_fine (suc count) v = (tt, λ s a. tt)

    last_fine : (count v : ℕ) → IsFine r (move_last code first true count v is r xs bs vs)
    last_fine zero v = (tt, λ s a. tt)
    last_fine (suc count) v = (tt, λ s a. tt)

    items_fine : (items : Items) → IsFine r (move_items code first true items is r xs bs vs)
    items_fine done = (tt, λ s a. tt)
    items_fine _ = (tt, λ s a. tt)

    -- ---- allocations

    claim_fine : (line : ℕ) (zeroed : Bool) → IsFine r (move_claim code first true line zeroed is r xs bs vs)
    claim_fine line zeroed = either_fine r code.malloc_may_fail _ _ (tt, λ s a. tt) (tt, λ s a. tt)

    admission_fine : (line : ℕ) (zeroed : Bool) → IsFine r (move_admission code first true line zeroed is r xs bs vs)
    admission_fine line false = either_fine r (nat_le (top xs).bits code.malloc_limit) _ _ (tt, λ s a. tt) (tt, λ s a. tt)
    admission_fine line true = either_fine r (nat_le ((second xs).bits * (top xs).bits) code.malloc_limit) _ _ (tt, λ s a. tt) (tt, λ s a. tt)

    draw_fine : (words size line : ℕ) → IsFine r (move_draw code first true words size line is r xs bs vs)
    draw_fine zero size line = (tt, λ s a. tt)
    draw_fine (suc k) size line = (tt, λ s a. tt)

    -- ---- loops and calls

    turn_fine : (n : ℕ) (loop : Loop) → IsFine r (move_turn code first true n loop is r xs bs vs)
    turn_fine zero loop = stopped_fine r Unwind loop.line
    turn_fine (suc n) loop = (tt, λ s a. tt)

    test_fine : (test : Option Expression) (n : ℕ) (loop : Loop) → IsFine r (move_test code first true test n loop is r xs bs vs)
    test_fine None n loop = (tt, λ s a. tt)
    test_fine (Some e) n loop = (tt, λ s a. tt)

    body_fine : (want : Wanted) (f : ℕ) (args : List (List ℕ)) (sizes : List ℕ) (body : Option Statement) → IsFine r (move_body code first true want f args sizes body is r xs bs vs)
    body_fine want f args sizes None = (tt, λ s a. tt)
    body_fine want f args sizes (Some b) = (tt, λ s a. tt)

    call_fine : (want : Wanted) (f : ℕ) (args : List (List ℕ)) (sizes : List ℕ) (body : Option Statement) →
        IsFine r (if slice_index r.left f == 0 then (if code.assertions then breaks Recursion (line_of want) else blocks) else move_body code first true want f args sizes body is r xs bs vs)
    call_fine want f args sizes body = either_fine r (slice_index r.left f == 0) _ _ (stopped_fine r Recursion (line_of want)) (body_fine want f args sizes body)

    given_fine : (want : Wanted) (given : Given) → IsFine r (move_given code first true want given is r xs bs vs)
    given_fine (wants_number line used t) meaning.nothing = either_fine r used _ _ (broken_fine r Return line) (tt, λ s a. tt)
    given_fine (wants_number line used t) (meaning.number x) = (tt, λ s a. tt)
    given_fine (wants_number line used t) (meaning.structure value) = (tt, λ s a. tt)
    given_fine (wants_structure line used size) meaning.nothing = either_fine r used _ _ (broken_fine r Return line) (tt, λ s a. tt)
    given_fine (wants_structure line used size) (meaning.number x) = (tt, λ s a. tt)
    given_fine (wants_structure line used size) (meaning.structure value) = (tt, λ s a. tt)
    given_fine (wants_end line) given = (tt, λ s a. tt)

  initial_fine : (home : Option ℕ) (v : ℕ) (new : List ℕ) (line : ℕ) (r : Active) (vs : Variables) (next : Variables → State) → IsFine r (move_initial code first true home v new line r vs next)
  initial_fine None v new line r vs next = (tt, λ s a. tt)
  initial_fine (Some h) v new line r vs next = (tt, λ s a. tt)

  arguments_fine : (want : Wanted) (f count : ℕ) (args : Arguments) (is : List Item) (r : Active) (xs : List TypedNumber) (bs : List (List ℕ)) (vs : Variables) → IsFine r (move_arguments code first true want f count args is r xs bs vs)
  arguments_fine want f count no_argument is r xs bs vs = call_fine is r xs (drop count bs) vs want f (blocks_on count bs) (sizes_of (variables_of (slice_get code.functions f))) (body_of (slice_get code.functions f))
  arguments_fine want f count (number_argument e more) is r xs bs vs = (tt, λ s a. tt)
  arguments_fine want f count (structure_argument a more) is r xs bs vs = (tt, λ s a. tt)

  item_fine : (i : Item) (is : List Item) (r : Active) (xs : List TypedNumber) (bs : List (List ℕ)) (vs : Variables) → IsFine r (move_item code first true i is r xs bs vs)
  item_fine (evaluates e) is r xs bs vs = expression_fine is r xs bs vs e
  item_fine (signs line op) is r xs bs vs = checked_fine r (sign_check op (top xs).type (top xs).bits) line _
  item_fine (operates line op) is r xs bs vs = checked_fine r (arithmetic_check op (second xs).type (top xs).type (second xs).bits (top xs).bits) line _
  item_fine (locates p) is r xs bs vs = place_fine is r xs bs vs p
  item_fine (elements line size whole swapped) is r xs bs vs = either_fine r (in_range (offset_by (offset_of (base swapped xs).bits) (index_number swapped xs) (pos size)) whole) _ _ (tt, λ s a. tt) (tt, λ s a. tt)
  item_fine (loads t p) is r xs bs vs = bytes_fine (variable_of (running_of code r) p) (top xs).bits (bytes t) (place_line p) r vs _
  item_fine (stores line t p) is r xs bs vs = put_fine (variable_of (running_of code r) p) (second xs).bits (low_bytes (bytes t) (top xs).bits) line r vs _
  item_fine (rewrites line t p at) is r xs bs vs = put_fine (variable_of (running_of code r) p) at (low_bytes (bytes t) (top xs).bits) line r vs _
  item_fine (updates line t p op u) is r xs bs vs = bytes_fine (variable_of (running_of code r) p) (second xs).bits (bytes t) (place_line p) r vs _
  item_fine (combines line t p op u) is r xs bs vs = checked_fine r (arithmetic_check op u (second xs).type (converted t u (top xs).bits) (second xs).bits) line _
  item_fine (steps line t p op before) is r xs bs vs = bytes_fine (variable_of (running_of code r) p) (top xs).bits (bytes t) (place_line p) r vs _
  item_fine (increments line t p op before at) is r xs bs vs = let u = promoted t in checked_fine r (arithmetic_check op u u (converted t u (top xs).bits) 1) line _
  item_fine (lands line n is_element swapped) is r xs bs vs = either_fine r (in_range (offset_by (offset_of (base swapped (rest xs)).bits) (index_number swapped (rest xs)) n) (top xs).bits) _ _ (tt, λ s a. tt) (tt, λ s a. tt)
  item_fine (shifts line p n) is r xs bs vs = bytes_fine (variable_of (running_of code r) p) (second xs).bits (bytes UnsignedLong) (place_line p) r vs _
  item_fine (paces line p n before) is r xs bs vs = bytes_fine (variable_of (running_of code r) p) (top xs).bits (bytes UnsignedLong) (place_line p) r vs _
  item_fine (arrives line p n before at) is r xs bs vs = either_fine r (in_range (offset_by (offset_of (second xs).bits) (pos 1) n) (top xs).bits) _ _ (tt, λ s a. tt) (tt, λ s a. tt)
  item_fine (measures line n) is r xs bs vs = checked_fine r (if object_of (second xs).bits == object_of (top xs).bits then None else Some Pointer) line _
  item_fine (orders line op) is r xs bs vs = checked_fine r (if object_of (second xs).bits == object_of (top xs).bits then None else Some Pointer) line _
  item_fine (claims line zeroed) is r xs bs vs = claim_fine is r xs bs vs line zeroed
  item_fine (admits line zeroed) is r xs bs vs = admission_fine is r xs bs vs line zeroed
  item_fine (draws words size line) is r xs bs vs = draw_fine is r xs bs vs words size line
  item_fine (releases line) is r xs bs vs = either_fine r ((top xs).bits == 0) _ _ (tt, λ s a. tt) (tt, λ s a. tt)
  item_fine (quits line) is r xs bs vs = quitting_fine r line is xs bs vs
  item_fine (asserts line) is r xs bs vs = checked_fine r (if is_true (top xs).bits then None else Some Assertion) line _
  item_fine assumes is r xs bs vs = either_fine r (is_true (top xs).bits) _ _ (tt, λ s a. tt) (blocked_fine r)
  item_fine (evaluates_structure a) is r xs bs vs = structure_fine is r xs bs vs a
  item_fine (copies p size) is r xs bs vs = bytes_fine (variable_of (running_of code r) p) (top xs).bits size (place_line p) r vs _
  item_fine (stores_structure line p) is r xs bs vs = put_fine (variable_of (running_of code r) p) (top xs).bits (top_bytes bs) line r vs _
  item_fine (lists parts) is r xs bs vs = parts_fine is r xs bs vs parts
  item_fine (runs s) is r xs bs vs = statement_fine is r xs bs vs s
  item_fine (enters items) is r xs bs vs = entry_fine is r xs bs vs items
  item_fine (goes_on items) is r xs bs vs = items_fine is r xs bs vs items
  item_fine (leaves items) is r xs bs vs = end_fine is r xs bs vs items
  item_fine (fills words line v offset) is r xs bs vs = fill_fine is r xs bs vs words line v offset
  item_fine (settles line v) is r xs bs vs = settle_fine is r xs bs vs (home_of (running_of code r) v) line v
  item_fine (initial line v t) is r xs bs vs = initial_fine (home_of (running_of code r) v) v (low_bytes (bytes t) (top xs).bits) line r vs _
  item_fine (initial_structure line v) is r xs bs vs = initial_fine (home_of (running_of code r) v) v (top_bytes bs) line r vs _
  item_fine (dies line v) is r xs bs vs = death_fine is r xs bs vs (home_of (running_of code r) v) line
  item_fine (enters_parameters count v) is r xs bs vs = parameters_fine is r xs bs vs count v
  item_fine (leaves_parameters count v) is r xs bs vs = last_fine is r xs bs vs count v
  item_fine (gathers want f count args) is r xs bs vs = arguments_fine want f count args is r xs bs vs
  item_fine (gets want how) is r xs bs vs = given_fine is r (values_under how xs) (structures_under how bs) vs want (given_by how xs bs)
  item_fine (turns n loop) is r xs bs vs = turn_fine is r xs bs vs n loop
  item_fine (retests n loop) is r xs bs vs = test_fine is r xs bs vs loop.test n loop
  item_fine (ending line x) is r xs bs vs = ending_fine first r line x is xs bs vs refl
  item_fine _ is r xs bs vs = (tt, λ s a. tt)

  fine_from : (is : List Item) (r : Active) (xs : List TypedNumber) (bs : List (List ℕ)) (vs : Variables) → IsFine r (move code first true (state is r xs bs vs))
  fine_from [] r xs bs vs = (tt, λ s a. tt)
  fine_from (i ∷ is) r xs bs vs = item_fine i is r xs bs vs

  fine : (s : State) → IsFine s.active (move code first true s)
  fine s = fine_from s.items s.active s.values s.structures s.variables

  none_small : (s : State) → StartsNone (next_small code first true (weight code) s)
  none_small s = (fine (settle code first s)).0

  none_choice : (b : Bool) (n : Next) → StartsNone n → StartsNone (if b then n else Blocked)
  none_choice true n h = h
  none_choice false n h = tt

  none_after : (answers : List Answer) (s : State) → StartsNone (bounded code first s answers)
  none_after [] s = none_small s
  none_after (a ∷ answers) s =
      let next = answered_small code first true (weight code) s a in
      none_choice (accepts (next_small code first true (weight code) s) a) (bounded code first next answers) (none_after answers next)

  state_starts_none : (s : State) (answers : List Answer) → StartsNone (behaves code first s answers)
  state_starts_none s answers = let P : Behaviour → Type 0 = λ b. StartsNone (b answers) in subst P (adequate code first s) (none_after answers s)

-- ---- threads of a file

-- a function that isn't there breaks a check at line 1
abbrev nowhere_state : ℕ → State
nowhere_state f = state (asserts 1 ∷ []) (active f []) [] [] []

module _ (file : TypedFile) (limits : Limits) where
  starts_none_at : (first : Bool) (f : ℕ) (p : Option Procedure) (answers : List Answer) → StartsNone (runs_at file limits first f p answers)
  starts_none_at first f None answers = state_starts_none (code_of file limits) first (nowhere_state f) answers
  starts_none_at first f (Some p) answers = state_starts_none (code_of file limits) first (start_state file limits f p.line) answers

  pub function_starts_none : (first : Bool) (f : ℕ) (answers : List Answer) → StartsNone (function_behaviour file limits first f answers)
  function_starts_none first f answers = starts_none_at first f (slice_get file.functions f) answers

  -- of a typed file, whose variables and allocations have fewer bytes than 32 bits tell: what a thread does that starts in a state which keeps what is said there
  module _ (few_bytes : limits.malloc_limit ≤ 4096) (all_typed : are_typed file ≡ true) (all_small : have_small file.functions ≡ true) where
    small_thread : (program : Program) (first : Bool) (s : State) → IsKept file s → IsBehaviour program (bounded (code_of file limits) first s)
    small_thread program first s k =
        let code = code_of file limits in
        behaves_by_states (next_small code first true (weight code)) (answered_small code first true (weight code)) program (IsKept file)
        (small_kept file limits few_bytes first all_typed all_small)
        (λ s k. none_starts program (next_small code first true (weight code) s) (none_small code first s))
        (small_makes file limits few_bytes first all_typed all_small)
        (λ s a k. let t = settle code first s in (fine code first t).1 t a) s k

    pub state_behaves : (program : Program) (first : Bool) (s : State) → IsKept file s → IsBehaviour program (behaves (code_of file limits) first s)
    state_behaves program first s k = let P : Behaviour → Type 0 = IsBehaviour program in subst P (adequate (code_of file limits) first s) (small_thread program first s k)

    nowhere_kept : (f : ℕ) → slice_get file.functions f ≡ None → IsKept file (nowhere_state f)
    nowhere_kept f e = (refl, sym (ap (λ (o : Option Procedure). sizes_of_variables (variables_of o)) e), refl)

    start_kept : (f : ℕ) (p : Procedure) → slice_get file.functions f ≡ Some p → IsKept file (start_state file limits f p.line)
    start_kept f p e =
        let sizes = sizes_of (variables_of (slice_get file.functions f)) in
        (start_fits file f p e p.line, first_sizes sizes, all_held (gathers (wants_end p.line) f 0 no_argument ∷ []) [] (first_variables sizes) refl (first_blocks sizes) refl)

    function_at : (program : Program) (first : Bool) (f : ℕ) (p : Option Procedure) → slice_get file.functions f ≡ p → IsBehaviour program (runs_at file limits first f p)
    function_at program first f None e = state_behaves program first (nowhere_state f) (nowhere_kept f e)
    function_at program first f (Some p) e = state_behaves program first (start_state file limits f p.line) (start_kept f p e)

    pub is_thread : (startable : ℕ) (first : Bool) (s : State) → IsKept file s → IsThread (thread_in file limits startable first s)
    is_thread startable first s k = record {
      itself = state_behaves (source_program file limits startable) first s k;
      others = λ f v h j. function_at (source_program file limits startable) false f (slice_get file.functions f) refl;
    }

-- small steps from the start of a function do what the function means, and no fuel of its calls is used up
abbrev pub SmallSteps : Type 0
SmallSteps = (file : TypedFile) (limits : Limits) (first : Bool) (number : ℕ) (f : Procedure) →
    bounded (code_of file limits) first (start_state file limits number f.line) ≡ runs_at file limits first number (Some f)

pub small_steps : SmallSteps
small_steps file limits first number f = adequate (code_of file limits) first (start_state file limits number f.line)

-- more fuel than is said of the calls of a thread changes nothing
abbrev pub EnoughFuel : Type 0
EnoughFuel = (code : Code) (fuel : ℕ) (left : List ℕ) → suc (total left) ≤ fuel → activation code fuel left ≡ activation code (suc (total left)) left

pub enough_fuel : EnoughFuel
enough_fuel = fuel_enough
