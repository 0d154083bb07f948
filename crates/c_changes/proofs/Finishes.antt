-- What an answer makes of a move that may ask for an action; one that asks for none takes no answer.
use Rattle.std.proofs.Common.{◌≡◌, ℕ, zero, suc, ◌+◌, ◌-◌, ◌==◌, ◌++◌, ◌∷◌, ℤ, pos, nat_le, length, drop, slice_index, slice_get, Bool, true, false, List, Option, Some, None, if◌then◌else◌, sym, ap, ◌∙◌, arith}
use Rattle.words.specs.declared.check.Class.{Class}
use Rattle.words.specs.declared.check.Class.TheVariants.{Assertion, Bounds, Pointer}
use Rattle.c_types.specs.declared.integers.IntegerType.{IntegerType}
use Rattle.c_types.specs.Integers.{promoted}
use Rattle.core_tree.specs.declared.operators.ArithmeticOperator.{ArithmeticOperator}
use Rattle.core_tree.specs.Trees as trees
use Rattle.core_tree.specs.Trees.{Place, element, subscript, Expression, sign, arithmetic, assertion, assumption, distance, relation, read, assign, update, step, sum, pointer_update, pointer_step, allocate, allocate_zeroed, release, exit, abort, Parts, no_part, Arguments, no_argument, number_argument, structure_argument, Statement, block, Items, done, initializes, initializes_structure, view_statement}
use Rattle.core_tree.specs.Operations.{is_true, converted, arithmetic_check, sign_check}
use Rattle.actions.specs.declared.action.Answer.{Answer}
use Rattle.actions.specs.Pointer.{object_of, offset_of}
use Rattle.c_values.specs.Numbers.{TypedNumber}
use Rattle.c_values.specs.Pointers.{in_range, offset_by}
use Rattle.c_values.specs.Variables.{Variables, low_bytes, drawn_count}
use Rattle.c_meaning.specs.Meaning as meaning
use Rattle.c_meaning.specs.Meaning.{Given, Code, bytes_in, drawn, size_of, sizes_of, body_of, variables_of}
use Rattle.c_tasks.specs.declared.task.Change.{Change}
use Rattle.c_tasks.specs.declared.task.Task.{Task}
use Rattle.c_tasks.specs.declared.task.Task.TheVariants as task
use Rattle.c_tasks.specs.declared.task.Stage.TheVariants as stage
use Rattle.c_tasks.specs.declared.task.Part.TheVariants as phase
use Rattle.c_tasks.specs.Items.{top, second, top_bytes, rest_bytes, Active, Loop, Wanted, wants_number, wants_structure, wants_end, given_by, values_under, structures_under, blocks_on, line_of, Item, combines, increments, lands, arrives, admits, lists, runs, enters, goes_on, leaves, enters_parameters, leaves_parameters, gathers, gets, turns, retests, draws, State, state, running_of, base, index_number}
use Rattle.c_tasks.specs.Steps.{Move, silent, asks, breaks, blocks, unless_stopped, move_bytes, move_put, move_initial, move_pointer, move_place, move_parts, move_statement, move_entry, move_end, move_items, move_parameters, move_last, move_admission, move_draw, move_turn, move_test, move_body, move_arguments, move_given, move_item}
use Rattle.c_tasks.specs.Tasks.{changed, Accepts, Answers, finish_of, end_of, want_of, loop_in, statement_item, item_of}
use Rattle.c_changes.specs.Asking.{IsAsking, MayAsk}

pub ranged : (a : Answer) (b : Bool) (class : Class) (line : ℕ) (s : State) → Accepts (if b then silent s else breaks class line) a → ⊥
ranged a true class line s h = h
ranged a false class line s h = h

pub assumed : (a : Answer) (b : Bool) (s : State) → Accepts (if b then silent s else blocks) a → ⊥
assumed a true s h = h
assumed a false s h = h

either : (a : Answer) (b : Bool) (m n : Move) → (Accepts m a → ⊥) → (Accepts n a → ⊥) → Accepts (if b then m else n) a → ⊥
either a true m n f g h = f h
either a false m n f g h = g h

module _ (code : Code) (first : Bool) (a : Answer) where
  pub unstopped : (c : Option Class) (line : ℕ) (s : State) → Accepts (unless_stopped code first true c line s) a → ⊥
  unstopped None line s h = h
  unstopped (Some class) line s h = h

  stopped : (b : Bool) (class : Class) (line : ℕ) → Accepts (if b then breaks class line else blocks) a → ⊥
  stopped true class line h = h
  stopped false class line h = h

  module _ (c : Change) (is : List Item) (r : Active) (xs : List TypedNumber) (bs : List (List ℕ)) (vs : Variables) where
    -- the bytes at a place
    pub read_answered : (o : Option ℕ) (at count line : ℕ) (next : List ℕ → State) → Accepts (move_bytes code first true o at count line r vs next) a → next (bytes_in a) ≡ changed c is r xs bs vs →
        Answers is r xs bs vs (move_bytes code first true o at count line r vs next) a c
    read_answered None at count line next h e = e
    read_answered (Some v) at count line next h e = absurd (ranged a (nat_le (offset_of at + count) (size_of (running_of code r) v)) Bounds line _ h)

    -- bytes that are written
    pub write_answered : (o : Option ℕ) (at : ℕ) (new : List ℕ) (line : ℕ) (next : Variables → State) → Accepts (move_put code first true o at new line r vs next) a → next vs ≡ changed c is r xs bs vs →
        Answers is r xs bs vs (move_put code first true o at new line r vs next) a c
    write_answered None at new line next h e = e
    write_answered (Some v) at new line next h e = absurd (ranged a (nat_le (offset_of at + length new) (size_of (running_of code r) v)) Bounds line _ h)

    pub initial_answered : (o : Option ℕ) (v : ℕ) (new : List ℕ) (line : ℕ) (next : Variables → State) → Accepts (move_initial code first true o v new line r vs next) a → next vs ≡ changed c is r xs bs vs →
        Answers is r xs bs vs (move_initial code first true o v new line r vs next) a c
    initial_answered None v new line next h e = absurd h
    initial_answered (Some home) v new line next h e = e

    -- the next word of an object
    pub draw_answered : (words size line : ℕ) → Accepts (move_draw code first true words size line is r xs bs vs) a →
        changed c is r xs bs vs ≡ state (draws (words - 1) size line ∷ is) r xs ((top_bytes bs ++ low_bytes (drawn_count size (length (top_bytes bs))) (drawn a)) ∷ rest_bytes bs) vs →
        Answers is r xs bs vs (move_draw code first true words size line is r xs bs vs) a c
    draw_answered zero size line h e = absurd h
    draw_answered (suc k) size line h e =
        let n : suc k - 1 ≡ k = omega arith in
        (λ i. state (draws (sym n i) size line ∷ is) r xs ((top_bytes bs ++ low_bytes (drawn_count size (length (top_bytes bs))) (drawn a)) ∷ rest_bytes bs) vs) ∙ sym e

  module _ (is : List Item) (r : Active) (xs : List TypedNumber) (bs : List (List ℕ)) (vs : Variables) where
    -- ---- moves that ask for nothing

    pub place_asks_none : (p : Place) → Accepts (move_place code first true p is r xs bs vs) a → ⊥
    place_asks_none (element line p e size whole true) h = h
    place_asks_none (element line p e size whole false) h = h
    place_asks_none (subscript line b e size true) h = h
    place_asks_none (subscript line b e size false) h = h
    place_asks_none _ h = h

    pointer_asks_none : (is_element : Bool) (p size : ℕ) (index stride : ℤ) (line : ℕ) (next : ℕ → State) → Accepts (move_pointer code first true is_element p size index stride line next) a → ⊥
    pointer_asks_none is_element p size index stride line next h = ranged a (in_range (offset_by (offset_of p) index stride) size) _ line _ h

    parts_ask_none : (parts : Parts) → Accepts (move_parts code first true parts is r xs bs vs) a → ⊥
    parts_ask_none no_part h = h
    parts_ask_none _ h = h

    statement_asks_none : (s : Statement) → Accepts (move_statement code first true s is r xs bs vs) a → ⊥
    statement_asks_none (block items) h = h
    statement_asks_none _ h = h

    entry_asks_none : (items : Items) → Accepts (move_entry code first true items is r xs bs vs) a → ⊥
    entry_asks_none (initializes line v true e more) h = h
    entry_asks_none (initializes line v false e more) h = h
    entry_asks_none (initializes_structure line v true b more) h = h
    entry_asks_none (initializes_structure line v false b more) h = h
    entry_asks_none _ h = h

    items_ask_none : (items : Items) → Accepts (move_items code first true items is r xs bs vs) a → ⊥
    items_ask_none done h = h
    items_ask_none _ h = h

    end_asks_none : (items : Items) → Accepts (move_end code first true items is r xs bs vs) a → ⊥
    end_asks_none done h = h
    end_asks_none _ h = h

    parameters_ask_none : (count v : ℕ) → Accepts (move_parameters code first true count v is r xs bs vs) a → ⊥
    parameters_ask_none zero v h = h
    parameters_ask_none (suc n) v h = h

    last_asks_none : (count v : ℕ) → Accepts (move_last code first true count v is r xs bs vs) a → ⊥
    last_asks_none zero v h = h
    last_asks_none (suc n) v h = h

    admission_asks_none : (line : ℕ) (zeroed : Bool) → Accepts (move_admission code first true line zeroed is r xs bs vs) a → ⊥
    admission_asks_none line false h = ranged a _ _ line _ h
    admission_asks_none line true h = ranged a _ _ line _ h

    turn_asks_none : (n : ℕ) (loop : Loop) → Accepts (move_turn code first true n loop is r xs bs vs) a → ⊥
    turn_asks_none zero loop h = stopped code.assertions _ loop.line h
    turn_asks_none (suc n) loop h = h

    test_asks_none : (test : Option Expression) (n : ℕ) (loop : Loop) → Accepts (move_test code first true test n loop is r xs bs vs) a → ⊥
    test_asks_none None n loop h = h
    test_asks_none (Some e) n loop h = h

    body_asks_none : (want : Wanted) (f : ℕ) (args : List (List ℕ)) (sizes : List ℕ) (body : Option Statement) → Accepts (move_body code first true want f args sizes body is r xs bs vs) a → ⊥
    body_asks_none want f args sizes None h = h
    body_asks_none want f args sizes (Some s) h = h

    given_asks_none : (want : Wanted) (given : Given) → Accepts (move_given code first true want given is r xs bs vs) a → ⊥
    given_asks_none (wants_number line used t) meaning.nothing h = either a used _ _ (λ k. k) (λ k. k) h
    given_asks_none (wants_number line used t) (meaning.number x) h = h
    given_asks_none (wants_number line used t) (meaning.structure value) h = h
    given_asks_none (wants_structure line used size) meaning.nothing h = either a used _ _ (λ k. k) (λ k. k) h
    given_asks_none (wants_structure line used size) (meaning.number x) h = h
    given_asks_none (wants_structure line used size) (meaning.structure value) h = h
    given_asks_none (wants_end line) given h = h

  arguments_ask_none : (want : Wanted) (f count : ℕ) (args : Arguments) (is : List Item) (r : Active) (xs : List TypedNumber) (bs : List (List ℕ)) (vs : Variables) → Accepts (move_arguments code first true want f count args is r xs bs vs) a → ⊥
  arguments_ask_none want f count no_argument is r xs bs vs h =
      either a (slice_index r.left f == 0) _ _ (λ k. stopped code.assertions _ (line_of want) k)
      (λ k. body_asks_none is r xs (drop count bs) vs want f (blocks_on count bs) (sizes_of (variables_of (slice_get code.functions f))) (body_of (slice_get code.functions f)) k) h
  arguments_ask_none want f count (number_argument e more) is r xs bs vs h = h
  arguments_ask_none want f count (structure_argument b more) is r xs bs vs h = h

  -- ---- what may ask

  -- behind the operands of an expression
  pub finished : (e : Expression) (is : List Item) (r : Active) (xs : List TypedNumber) (bs : List (List ℕ)) (vs : Variables) → Accepts (move_item code first true (finish_of e) is r xs bs vs) a → IsAsking e
  finished (read t p) is r xs bs vs h = tt
  finished (assign line t p e) is r xs bs vs h = tt
  finished (update line t p op u e) is r xs bs vs h = tt
  finished (step line t p op before) is r xs bs vs h = tt
  finished (sum line b e n swapped) is r xs bs vs h = tt
  finished (pointer_update line p n e) is r xs bs vs h = tt
  finished (pointer_step line p n before) is r xs bs vs h = tt
  finished (allocate line e) is r xs bs vs h = tt
  finished (allocate_zeroed line b c) is r xs bs vs h = tt
  finished (release line e) is r xs bs vs h = tt
  finished (exit line e) is r xs bs vs h = tt
  finished (abort line) is r xs bs vs h = tt
  finished (sign line op e) is r xs bs vs h = unstopped (sign_check op (top xs).type (top xs).bits) line _ h
  finished (arithmetic line op b c) is r xs bs vs h = unstopped (arithmetic_check op (second xs).type (top xs).type (second xs).bits (top xs).bits) line _ h
  finished (assertion line e) is r xs bs vs h = unstopped (if is_true (top xs).bits then None else Some Assertion) line _ h
  finished (assumption line e) is r xs bs vs h = assumed a (is_true (top xs).bits) _ h
  finished (distance line b c n) is r xs bs vs h = unstopped (if object_of (second xs).bits == object_of (top xs).bits then None else Some Pointer) line _ h
  finished (relation line op b c) is r xs bs vs h = unstopped (if object_of (second xs).bits == object_of (top xs).bits then None else Some Pointer) line _ h
  finished _ is r xs bs vs h = h

  module _ (is : List Item) (r : Active) (xs : List TypedNumber) (bs : List (List ℕ)) (vs : Variables) where
    ended_asks_none : (s : Statement) → Accepts (move_item code first true (end_of s) is r xs bs vs) a → ⊥
    ended_asks_none (trees.switch line e items) h = h
    ended_asks_none _ h = h

    pub task_asks : (t : Task) → Accepts (move_item code first true (item_of t) is r xs bs vs) a → MayAsk t
    task_asks (task.Structure b complete) h = tt
    task_asks (task.DrawWords words size line) h = tt
    task_asks (task.Expression e finish) h = tt
    task_asks (task.Place p finish) h = tt
    task_asks (task.Store line t p) h = tt
    task_asks (task.Rewrite line t p at) h = tt
    task_asks (task.Move line n is_element swapped) h = tt
    task_asks (task.Advance line p n before at) h = tt
    task_asks (task.Make line) h = tt
    task_asks (task.Settle line v) h = tt
    task_asks (task.Initialize line v t) h = tt
    task_asks (task.InitializeStructure line v) h = tt
    task_asks (task.Die line v) h = tt
    task_asks (task.Fill words line v offset) h = tt
    task_asks (task.End line x) h = tt
    task_asks (task.Combine line t p op u) h = unstopped (arithmetic_check op u (second xs).type (converted t u (top xs).bits) (second xs).bits) line _ h
    task_asks (task.Increment line t p op before at) h = let u = promoted t in unstopped (arithmetic_check op u u (converted t u (top xs).bits) 1) line _ h
    task_asks (task.Land line n is_element swapped) h = ranged a _ _ line _ h
    task_asks (task.Arrive line p n before at) h = ranged a _ _ line _ h
    task_asks (task.Admit line zeroed) h = admission_asks_none is r xs bs vs line zeroed h
    task_asks (task.List parts start) h = parts_ask_none is r xs bs vs _ h
    task_asks (task.Statement s stage.Run) h = statement_asks_none is r xs bs vs (view_statement s.now) h
    task_asks (task.Statement s stage.End) h = ended_asks_none (view_statement s.now) h
    task_asks (task.Statement s (stage.Turn n)) h = turn_asks_none is r xs bs vs n (loop_in (view_statement s.now)) h
    task_asks (task.Statement s (stage.Retest n)) h = let loop : Loop = loop_in (view_statement s.now) in test_asks_none is r xs bs vs loop.test n loop h
    task_asks (task.Statement s (stage.Repeat n)) h = h
    task_asks (task.Statement s (stage.Body n)) h = h
    task_asks (task.Items items start phase.Entry) h = entry_asks_none is r xs bs vs _ h
    task_asks (task.Items items start phase.Body) h = items_ask_none is r xs bs vs _ h
    task_asks (task.Items items start phase.End) h = h
    task_asks (task.Items items start phase.Exit) h = end_asks_none is r xs bs vs _ h
    task_asks (task.EnterParameters v end) h = parameters_ask_none is r xs bs vs _ v h
    task_asks (task.LeaveParameters v end) h = last_asks_none is r xs bs vs _ v h
    task_asks (task.Begin f line) h = arguments_ask_none (wants_end line) f 0 no_argument is r xs bs vs h
    task_asks (task.Gather want f args start) h = arguments_ask_none (want_of want) f start _ is r xs bs vs h
    task_asks (task.Get want how) h = given_asks_none is r _ _ vs _ _ h
    task_asks _ h = h
