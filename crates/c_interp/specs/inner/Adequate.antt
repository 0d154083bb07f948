-- Small steps do what the tree means: each silent step keeps what follows, and less work is left.
use Rattle.std.specs.Prelude.{◌≡◌, ◌<◌, ◌≤◌, ◌+◌, ◌*◌, ◌-◌, ◌==◌, drop, take, length, slice_index, slice_get, ◌++◌, ℕ, zero, suc, ℤ, pos, nat_le, Bool, true, false, List, [], ◌∷◌, Option, Some, None, if◌then◌else◌}
use Rattle.std.proofs.Common.{refl, arith, sym, subst, ap, ◌∙◌}
use Rattle.words.specs.declared.check.Class.{Class}
use Rattle.words.specs.declared.check.Class.TheVariants.{Assertion, Return, Unwind, Recursion, Bounds, Pointer, MallocLimit}
use Rattle.c_types.specs.declared.integers.IntegerType.{IntegerType}
use Rattle.c_types.specs.declared.integers.IntegerType.TheVariants.{Int, UnsignedLong}
use Rattle.c_types.specs.Integers.{bytes, promoted}
use Rattle.core_tree.specs.declared.operators.ArithmeticOperator.{ArithmeticOperator}
use Rattle.core_tree.specs.Trees as trees
use Rattle.core_tree.specs.Trees.{Place, variable_at, object_at, literal_at, pointed, arrow, member, element, subscript, Expression, constant, read, convert, sign, is_zero, arithmetic, compare, logical, choice, assign, update, step, comma, assertion, assumption, draw, part, discard, discard_structure, call, function_name, size_of_value, size_of_structure, address, sum, distance, relation, pointer_update, pointer_step, allocate, allocate_zeroed, release, exit, abort, Structure, copy, choose, put, follow, section, list, string, give, Parts, no_part, number_part, structure_part, Arguments, no_argument, number_argument, structure_argument, Statement, block, if_then, if_else, evaluate, Items, done, declares, initializes, initializes_structure, does, label, case_at, default_at}
use Rattle.core_tree.specs.Operations.{is_true, truth_bits, converted, arithmetic_check, sign_check}
use Rattle.actions.specs.declared.action.Action.{Action}
use Rattle.actions.specs.declared.action.Action.TheVariants.{Draw, Free, Exit}
use Rattle.actions.specs.declared.action.Answer.{Answer}
use Rattle.actions.specs.declared.action.Next.{Next}
use Rattle.actions.specs.declared.action.Next.TheVariants.{Ended, Blocked, Broken}
use Rattle.actions.specs.Behaviour.{Behaviour, accepts, shape_of, has_shape, word_64}
use Rattle.actions.specs.Pointer.{object_of, offset_of}
use Rattle.c_values.specs.Pointers.{pointer_at, in_range, offset_by}
use Rattle.c_values.specs.Variables.{Variables, low_bytes, zeros, block_of, put_bytes}
use Rattle.c_meaning.specs.Meaning as meaning
use Rattle.c_meaning.specs.Meaning.{Given, nothing, number, structure, Running, Exits, Code, place_line, size_of, home_of, variable_of, range_class, sizes_of, body_of, variables_of, running_in, enters, opened, total, activation, passed, number_type, decides, final, ask_in, has_case, has_default, in_switch, leaving, enter, leave, at_case, at_default, unless_broken, reads, writes, eval, eval_structure, exec, exec_body, tested, at_end}
use Rattle.c_values.specs.Numbers.{TypedNumber, typed}
use Rattle.c_tasks.specs.Items.{top, rest, second, top_bytes, Active, active, closed, back, running_of, calls_of, base, index_number, Wanted, wants_number, wants_structure, wants_end, line_of, Way, by_break, by_continue, by_jump, by_return, given_by, values_under, structures_under, blocks_on, Loop, loop_of, Item, evaluates, converts, signs, negates, operates, compares, decides_on, tests, chooses, retypes, drops, passes, asserts, assumes, locates, reaches, elements, loads, stores, rewrites, updates, combines, steps, increments, looks, lands, shifts, paces, advances, arrives, measures, orders, claims, tries, admits, draws, makes, releases, quits, evaluates_structure, picks, discards, discards_structure, chooses_structure, copies, stores_structure, passes_structure, cuts, lists, places_number, places_structure, runs, branches, divides, enters as enters_items, goes_on, ends_block, leaves, fills, settles, initial, initial_structure, dies, enters_parameters, ends_parameters, leaves_parameters, gathers, adds_number, resumes, goes_out, gets, turns, retests, repeats, loops, selects, switches, strays, ending, ended, State, state, from, receives, exits_of, rounds_of, behaves}
use Rattle.c_interp.specs.Work.{work, structure_work, statement_work, items_work, entry_work, leave_work, part_work, turns_work, body_work, call_work_of, activation_work, total_work, weight}
use Rattle.c_interp.specs.inner.Cuts.{closed_opened, total_opened, break_at, continue_at, jump_at, return_at, case_is, default_is, case_less, default_less, break_less, continue_less, jump_less, return_less, blocks_fewer}
use Rattle.c_tasks.specs.Steps.{Move, silent, asks, breaks, blocks, ends, part_items, behind_case, behind_default, without_sizes, unless_stopped, move_bytes, move_put, move_pointer, move_place, move_expression, move_structure, move_parts, move_statement, move_fill, move_entry, move_settle, move_initial, move_death, move_end, move_parameters, move_last, move_claim, move_try, move_admission, move_draw, move_items, move_turn, move_test, move_body, move_call, move_arguments, move_given, move_item, move}
use Rattle.c_interp.specs.Small.{stepped_on, settled, settle, next_of, answered_by, bounded}

same_zero : (b : Bool) → ◌≡◌ {A = ℕ} 0 (if b then 0 else 0)
same_zero true = refl
same_zero false = refl

module _ (code : Code) (first : Bool) where
  -- what a move has to do with what a state means
  abbrev pub Meets : State → Move → Type 0
  Meets s (silent t) = (behaves code first s ≡ behaves code first t) × (weight code t < weight code s)
  Meets s (asks action line follows) = behaves code first s ≡ ask_in s.active.function action line (λ a. behaves code first (follows a))
  Meets s (breaks class line) = behaves code first s ≡ final (Broken class line s.active.function)
  Meets s blocks = behaves code first s ≡ final Blocked
  Meets s (ends v) = behaves code first s ≡ final (Ended (word_64 v))

  checked : (c : Option Class) (line : ℕ) (s t : State) → behaves code first s ≡ unless_broken (running_of code s.active) c line (behaves code first t) → weight code t < weight code s →
      Meets s (unless_stopped code first true c line t)
  checked None line s t e w = (e, w)
  checked (Some class) line s t e w = e

  -- a test decides between two silent steps, a silent step and a break, and an action and a silent step
  deciding : (b : Bool) (s t u : State) → behaves code first s ≡ (if b then behaves code first t else behaves code first u) → weight code t < weight code s → weight code u < weight code s → Meets s (silent (if b then t else u))
  deciding true s t u e p q = (e, p)
  deciding false s t u e p q = (e, q)

  ranging : (b : Bool) (class : Class) (line : ℕ) (s t : State) → behaves code first s ≡ (if b then behaves code first t else final (Broken class line s.active.function)) → weight code t < weight code s → Meets s (if b then silent t else breaks class line)
  ranging true class line s t e w = (e, w)
  ranging false class line s t e w = e

  asking : (b : Bool) (action : Action) (line : ℕ) (s : State) (follows : Answer → State) (t : State) → behaves code first s ≡ (if b then ask_in s.active.function action line (λ a. behaves code first (follows a)) else behaves code first t) → weight code t < weight code s →
      Meets s (if b then asks action line follows else silent t)
  asking true action line s follows t e w = e
  asking false action line s follows t e w = (e, w)

  skipping : (b : Bool) (action : Action) (line : ℕ) (s t : State) (follows : Answer → State) → behaves code first s ≡ (if b then behaves code first t else ask_in s.active.function action line (λ a. behaves code first (follows a))) → weight code t < weight code s →
      Meets s (if b then silent t else asks action line follows)
  skipping true action line s t follows e w = (e, w)
  skipping false action line s t follows e w = e

  -- ---- places

  module _ (js : List Item) (r : Active) (ys : List TypedNumber) (cs : List (List ℕ)) (vs : Variables) where
    abbrev here : State
    here = state js r ys cs vs

    meets_bytes : (o : Option ℕ) (at count line : ℕ) (next : List ℕ → State) → behaves code first here ≡ reads (running_of code r) o at count line vs (λ found. behaves code first (next found)) → ((found : List ℕ) → weight code (next found) < weight code here) →
        Meets here (move_bytes code first true o at count line r vs next)
    meets_bytes (Some v) at count line next e w =
        ranging (nat_le (offset_of at + count) (size_of (running_of code r) v)) Bounds line here (next (take count (drop (offset_of at) (block_of vs v)))) e (w (take count (drop (offset_of at) (block_of vs v))))
    meets_bytes None at count line next e w = e

    meets_put : (o : Option ℕ) (at : ℕ) (new : List ℕ) (line : ℕ) (next : Variables → State) → behaves code first here ≡ writes (running_of code r) o at new line vs (λ now. behaves code first (next now)) → ((now : Variables) → weight code (next now) < weight code here) →
        Meets here (move_put code first true o at new line r vs next)
    meets_put (Some v) at new line next e w = ranging (nat_le (offset_of at + length new) (size_of (running_of code r) v)) Bounds line here (next (put_bytes vs v (offset_of at) new)) e (w (put_bytes vs v (offset_of at) new))
    meets_put None at new line next e w = e

    meets_pointer : (is_element : Bool) (p size : ℕ) (index stride : ℤ) (line : ℕ) (next : ℕ → State) → behaves code first here ≡ meaning.lands (running_of code r) is_element p size index stride line (λ q. behaves code first (next q)) → ((q : ℕ) → weight code (next q) < weight code here) →
        Meets here (move_pointer code first true is_element p size index stride line next)
    meets_pointer is_element p size index stride line next e w =
        let offset = offset_by (offset_of p) index stride in
        ranging (in_range offset size) (range_class is_element) line here (next (pointer_at p offset)) e (w (pointer_at p offset))

    meets_initial : (home : Option ℕ) (v : ℕ) (new : List ℕ) (line : ℕ) (next : Variables → State) → behaves code first here ≡ meaning.initial (running_of code r) home v new line vs (λ now. behaves code first (next now)) → ((now : Variables) → weight code (next now) < weight code here) →
        Meets here (move_initial code first true home v new line r vs next)
    meets_initial None v new line next e w = (e, w (put_bytes vs v 0 new))
    meets_initial (Some h) v new line next e w = e

  meets_place : (p : Place) (is : List Item) (r : Active) (xs : List TypedNumber) (bs : List (List ℕ)) (vs : Variables) → Meets (state (locates p ∷ is) r xs bs vs) (move_place code first true p is r xs bs vs)
  meets_place (variable_at line v offset) is r xs bs vs = (refl, omega arith)
  meets_place (object_at line k offset) is r xs bs vs = (refl, omega arith)
  meets_place (literal_at line k) is r xs bs vs = (refl, omega arith)
  meets_place (pointed line e) is r xs bs vs = (refl, omega arith)
  meets_place (arrow line e offset) is r xs bs vs = (refl, omega arith)
  meets_place (member line p offset) is r xs bs vs = (refl, omega arith)
  meets_place (element line p e size whole true) is r xs bs vs = (refl, omega arith)
  meets_place (element line p e size whole false) is r xs bs vs = (refl, omega arith)
  meets_place (subscript line a e size true) is r xs bs vs = (refl, omega arith)
  meets_place (subscript line a e size false) is r xs bs vs = (refl, omega arith)

  -- the value of a step is the new number, or the old one
  meets_steps : (line : ℕ) (t : IntegerType) (p : Place) (op : ArithmeticOperator) (before : Bool) (is : List Item) (r : Active) (xs : List TypedNumber) (bs : List (List ℕ)) (vs : Variables) →
      Meets (state (steps line t p op before ∷ is) r xs bs vs) (move_item code first true (steps line t p op before) is r xs bs vs)
  meets_steps line t p op true is r xs bs vs =
      meets_bytes (steps line t p op true ∷ is) r xs bs vs (variable_of (running_of code r) p) (top xs).bits (bytes t) (place_line p) _ refl (λ found. omega arith)
  meets_steps line t p op false is r xs bs vs =
      meets_bytes (steps line t p op false ∷ is) r xs bs vs (variable_of (running_of code r) p) (top xs).bits (bytes t) (place_line p) _ refl (λ found. omega arith)

  meets_increment : (line : ℕ) (t : IntegerType) (p : Place) (op : ArithmeticOperator) (before : Bool) (at : ℕ) (is : List Item) (r : Active) (xs : List TypedNumber) (bs : List (List ℕ)) (vs : Variables) →
      Meets (state (increments line t p op before at ∷ is) r xs bs vs) (move_item code first true (increments line t p op before at) is r xs bs vs)
  meets_increment line t p op true at is r xs bs vs =
      let u = promoted t in
      checked (arithmetic_check op u u (converted t u (top xs).bits) 1) line (state (increments line t p op true at ∷ is) r xs bs vs) (state (rewrites line t p at ∷ is) r _ _ _) refl (omega arith)
  meets_increment line t p op false at is r xs bs vs =
      let u = promoted t in
      checked (arithmetic_check op u u (converted t u (top xs).bits) 1) line (state (increments line t p op false at ∷ is) r xs bs vs) (state (rewrites line t p at ∷ drops ∷ is) r _ _ _) refl (omega arith)

  meets_paces : (line : ℕ) (p : Place) (n : ℤ) (before : Bool) (is : List Item) (r : Active) (xs : List TypedNumber) (bs : List (List ℕ)) (vs : Variables) →
      Meets (state (paces line p n before ∷ is) r xs bs vs) (move_item code first true (paces line p n before) is r xs bs vs)
  meets_paces line p n true is r xs bs vs =
      meets_bytes (paces line p n true ∷ is) r xs bs vs (variable_of (running_of code r) p) (top xs).bits (bytes UnsignedLong) (place_line p) _ refl (λ found. omega arith)
  meets_paces line p n false is r xs bs vs =
      meets_bytes (paces line p n false ∷ is) r xs bs vs (variable_of (running_of code r) p) (top xs).bits (bytes UnsignedLong) (place_line p) _ refl (λ found. omega arith)

  meets_arrives : (line : ℕ) (p : Place) (n : ℤ) (before : Bool) (at : ℕ) (is : List Item) (r : Active) (xs : List TypedNumber) (bs : List (List ℕ)) (vs : Variables) →
      Meets (state (arrives line p n before at ∷ is) r xs bs vs) (move_item code first true (arrives line p n before at) is r xs bs vs)
  meets_arrives line p n true at is r xs bs vs = meets_pointer (arrives line p n true at ∷ is) r xs bs vs false (second xs).bits (top xs).bits (pos 1) n line (λ q. state (rewrites line UnsignedLong p at ∷ is) r (typed UnsignedLong q ∷ rest (rest xs)) bs vs) refl (λ q. omega arith)
  meets_arrives line p n false at is r xs bs vs = meets_pointer (arrives line p n false at ∷ is) r xs bs vs false (second xs).bits (top xs).bits (pos 1) n line (λ q. state (rewrites line UnsignedLong p at ∷ drops ∷ is) r (typed UnsignedLong q ∷ rest xs) bs vs) refl (λ q. omega arith)

  meets_expression : (e : Expression) (is : List Item) (r : Active) (xs : List TypedNumber) (bs : List (List ℕ)) (vs : Variables) → Meets (state (evaluates e ∷ is) r xs bs vs) (move_expression code first true e is r xs bs vs)
  meets_expression (constant line t bits) is r xs bs vs = (refl, omega arith)
  meets_expression (read t p) is r xs bs vs = (refl, omega arith)
  meets_expression (convert to e) is r xs bs vs = (refl, omega arith)
  meets_expression (sign line op e) is r xs bs vs = (refl, omega arith)
  meets_expression (is_zero line e) is r xs bs vs = (refl, omega arith)
  meets_expression (arithmetic line op a b) is r xs bs vs = (refl, omega arith)
  meets_expression (compare line op a b) is r xs bs vs = (refl, omega arith)
  meets_expression (logical line op a b) is r xs bs vs = (refl, omega arith)
  meets_expression (choice line test a b) is r xs bs vs = (refl, omega arith)
  meets_expression (assign line t p e) is r xs bs vs = (refl, omega arith)
  meets_expression (update line t p op u e) is r xs bs vs = (refl, omega arith)
  meets_expression (step line t p op before) is r xs bs vs = (refl, omega arith)
  meets_expression (comma line a b) is r xs bs vs = (refl, omega arith)
  meets_expression (assertion line e) is r xs bs vs = (refl, omega arith)
  meets_expression (assumption line e) is r xs bs vs = (refl, omega arith)
  meets_expression (draw line t) is r xs bs vs = refl
  meets_expression (part line t offset a) is r xs bs vs = (refl, omega arith)
  meets_expression (discard line e) is r xs bs vs = (refl, omega arith)
  meets_expression (discard_structure a) is r xs bs vs = (refl, omega arith)
  meets_expression (call line f used t args) is r xs bs vs = (refl, omega arith)
  meets_expression (function_name line) is r xs bs vs = (refl, omega arith)
  meets_expression (size_of_value line bits e) is r xs bs vs = (refl, omega arith)
  meets_expression (size_of_structure line bits a) is r xs bs vs = (refl, omega arith)
  meets_expression (address line p) is r xs bs vs = (refl, omega arith)
  meets_expression (sum line a e n true) is r xs bs vs = (refl, omega arith)
  meets_expression (sum line a e n false) is r xs bs vs = (refl, omega arith)
  meets_expression (distance line a b n) is r xs bs vs = (refl, omega arith)
  meets_expression (relation line op a b) is r xs bs vs = (refl, omega arith)
  meets_expression (pointer_update line p n e) is r xs bs vs = (refl, omega arith)
  meets_expression (pointer_step line p n before) is r xs bs vs = (refl, omega arith)
  meets_expression (allocate line e) is r xs bs vs = (refl, omega arith)
  meets_expression (allocate_zeroed line a b) is r xs bs vs = (refl, omega arith)
  meets_expression (release line e) is r xs bs vs = (refl, omega arith)
  meets_expression (exit line e) is r xs bs vs = (refl, omega arith)
  meets_expression (abort line) is r xs bs vs = (refl, omega arith)

  meets_structure : (a : Structure) (is : List Item) (r : Active) (xs : List TypedNumber) (bs : List (List ℕ)) (vs : Variables) → Meets (state (evaluates_structure a ∷ is) r xs bs vs) (move_structure code first true a is r xs bs vs)
  meets_structure (copy p size) is r xs bs vs = (refl, omega arith)
  meets_structure (choose line test a b) is r xs bs vs = (refl, omega arith)
  meets_structure (put line p a) is r xs bs vs = (refl, omega arith)
  meets_structure (follow line e a) is r xs bs vs = (refl, omega arith)
  meets_structure (section line offset size a) is r xs bs vs = (refl, omega arith)
  meets_structure (list line size parts) is r xs bs vs = (refl, omega arith)
  meets_structure (string line size text) is r xs bs vs = (refl, omega arith)
  meets_structure (give line f used size args) is r xs bs vs = (refl, omega arith)

  meets_parts : (parts : Parts) (is : List Item) (r : Active) (xs : List TypedNumber) (bs : List (List ℕ)) (vs : Variables) → Meets (state (lists parts ∷ is) r xs bs vs) (move_parts code first true parts is r xs bs vs)
  meets_parts no_part is r xs bs vs = (refl, omega arith)
  meets_parts (number_part offset e more) is r xs bs vs = (refl, omega arith)
  meets_parts (structure_part offset a more) is r xs bs vs = (refl, omega arith)

  -- ---- loops

  stopped : (b : Bool) (class : Class) (line : ℕ) (s : State) → behaves code first s ≡ passed b class line s.active.function → Meets s (if b then breaks class line else blocks)
  stopped true class line s e = e
  stopped false class line s e = e

  meets_start : (start : Option Expression) (line n : ℕ) (test last : Option Expression) (body : Statement) (is : List Item) (r : Active) (xs : List TypedNumber) (bs : List (List ℕ)) (vs : Variables) →
      Meets (state (runs (trees.for_loop line n start test last body) ∷ is) r xs bs vs) (silent (state (part_items start (retests (code.tests r.function n - 1) (loop_of line test last body) ∷ is)) r xs bs vs))
  meets_start None line n test last body is r xs bs vs = (refl, omega arith)
  meets_start (Some e) line n test last body is r xs bs vs = (refl, omega arith)

  meets_turn : (b : Bool) (n : ℕ) (loop : Loop) (is : List Item) (r : Active) (xs : List TypedNumber) (bs : List (List ℕ)) (vs : Variables) → code.assertions ≡ b → Meets (state (turns n loop ∷ is) r xs bs vs) (move_turn code first true n loop is r xs bs vs)
  meets_turn b zero loop is r xs bs vs h = stopped code.assertions Unwind loop.line (state (turns zero loop ∷ is) r xs bs vs) refl
  meets_turn b (suc n) loop is r xs bs vs h = (refl, omega arith)

  meets_test : (test : Option Expression) (n : ℕ) (loop : Loop) (is : List Item) (r : Active) (xs : List TypedNumber) (bs : List (List ℕ)) (vs : Variables) → loop.test ≡ test → Meets (state (retests n loop ∷ is) r xs bs vs) (move_test code first true test n loop is r xs bs vs)
  meets_test None n loop is r xs bs vs h =
      (ap (λ test. tested (running_of code r) (calls_of code r) test vs (rounds_of code first r loop (exits_of code first is r xs bs) (from code first is r xs bs) n) (from code first is r xs bs)) h, omega arith)
  meets_test (Some e) n loop is r xs bs vs h =
      let w : part_work (code.tests r.function) (call_work_of code r) loop.test ≡ work (code.tests r.function) (call_work_of code r) e + 1 = ap (part_work (code.tests r.function) (call_work_of code r)) h in
      (ap (λ test. tested (running_of code r) (calls_of code r) test vs (rounds_of code first r loop (exits_of code first is r xs bs) (from code first is r xs bs) n) (from code first is r xs bs)) h, omega (arith, w))

  meets_last : (last : Option Expression) (n : ℕ) (loop : Loop) (is : List Item) (r : Active) (xs : List TypedNumber) (bs : List (List ℕ)) (vs : Variables) → loop.last ≡ last → Meets (state (loops n loop ∷ is) r xs bs vs) (silent (state (part_items last (retests n loop ∷ is)) r xs bs vs))
  meets_last None n loop is r xs bs vs h =
      (ap (λ last. at_end (running_of code r) (calls_of code r) last loop.test (rounds_of code first r loop (exits_of code first is r xs bs) (from code first is r xs bs) n) (from code first is r xs bs) vs) h, omega arith)
  meets_last (Some e) n loop is r xs bs vs h =
      let w : part_work (code.tests r.function) (call_work_of code r) loop.last ≡ work (code.tests r.function) (call_work_of code r) e + 1 = ap (part_work (code.tests r.function) (call_work_of code r)) h in
      (ap (λ last. at_end (running_of code r) (calls_of code r) last loop.test (rounds_of code first r loop (exits_of code first is r xs bs) (from code first is r xs bs) n) (from code first is r xs bs) vs) h, omega (arith, w))

  repeating : (b : Bool) (n : ℕ) (loop : Loop) (s : State) (is : List Item) (r : Active) (xs : List TypedNumber) (bs : List (List ℕ)) (vs : Variables) →
      behaves code first s ≡ (if b then rounds_of code first r loop (exits_of code first is r xs bs) (from code first is r xs bs) n vs else from code first is r xs bs vs) →
      weight code s ≡ turns_work (code.tests r.function) (call_work_of code r) loop n + 1 + total_work code is r →
      Meets s (silent (state (if b then turns n loop ∷ is else is) r xs bs vs))
  repeating true n loop s is r xs bs vs e w = (e, omega (arith, w))
  repeating false n loop s is r xs bs vs e w = (e, omega (arith, w))

  -- ---- switches

  selecting : (b c : Bool) (items : Items) (x : ℕ) (s : State) (is : List Item) (r : Active) (xs : List TypedNumber) (bs : List (List ℕ)) (vs : Variables) →
      behaves code first s ≡ (if b then enter (running_of code r) items vs (λ now. at_case (running_of code r) (calls_of code r) items x (leaving (leave (running_of code r) items) (in_switch (exits_of code first is r xs bs) (from code first is r xs bs))) now (λ last. leave (running_of code r) items last (from code first is r xs bs last)))
      else (if c then enter (running_of code r) items vs (λ now. at_default (running_of code r) (calls_of code r) items (leaving (leave (running_of code r) items) (in_switch (exits_of code first is r xs bs) (from code first is r xs bs))) now (λ last. leave (running_of code r) items last (from code first is r xs bs last))) else from code first is r xs bs vs)) →
      weight code s ≡ entry_work (code.tests r.function) (call_work_of code r) items + items_work (code.tests r.function) (call_work_of code r) items + leave_work (code.tests r.function) (call_work_of code r) items + 2 + total_work code is r →
      Meets s (silent (state (if b then enters_items items ∷ goes_on (behind_case x items) ∷ switches items ∷ is else (if c then enters_items items ∷ goes_on (behind_default items) ∷ switches items ∷ is else is)) r xs bs vs))
  selecting true c items x s is r xs bs vs e w =
      let less = case_less (code.tests r.function) (call_work_of code r) x items in
      (e ∙ (λ i. enter (running_of code r) items vs (λ now. case_is (running_of code r) (calls_of code r) (leaving (leave (running_of code r) items) (in_switch (exits_of code first is r xs bs) (from code first is r xs bs))) now (λ last. leave (running_of code r) items last (from code first is r xs bs last)) x items i)), omega (arith, w, less))
  selecting false true items x s is r xs bs vs e w =
      let less = default_less (code.tests r.function) (call_work_of code r) items in
      (e ∙ (λ i. enter (running_of code r) items vs (λ now. default_is (running_of code r) (calls_of code r) (leaving (leave (running_of code r) items) (in_switch (exits_of code first is r xs bs) (from code first is r xs bs))) now (λ last. leave (running_of code r) items last (from code first is r xs bs last)) items i)), omega (arith, w, less))
  selecting false false items x s is r xs bs vs e w = (e, omega (arith, w))

  -- ---- calls

  -- what a call in a function is for, and what it has given, goes on there
  abbrev goes_on_with : Wanted → List Item → Active → List TypedNumber → List (List ℕ) → Variables → Given → Behaviour
  goes_on_with want is r xs bs vs given = receives code first want r (λ ys cs. from code first is r ys cs vs) xs bs given

  module _ (want : Wanted) (f count : ℕ) (args : List (List ℕ)) (few : length args ≤ count) (js : List Item) (ys : List TypedNumber) (cs : List (List ℕ)) (is : List Item) (r : Active) (xs : List TypedNumber) (bs : List (List ℕ)) (vs : Variables) (h : (slice_index r.left f == 0) ≡ false) where
    abbrev within : (function line : ℕ) → List (List ℕ) → (Given → Behaviour) → Behaviour
    within = activation code (total r.left) (opened r.left f) f

    abbrev inner : Active
    inner = active f (opened r.left f)

    same_active : r ≡ back r.function inner
    same_active = λ i. active r.function (sym (closed_opened r.left f h) i)

    same_calls : within ≡ calls_of code inner
    same_calls = λ i. activation code (total_opened r.left f h i) (opened r.left f) f

    same_work : activation_work code (total r.left) (opened r.left f) ≡ call_work_of code inner
    same_work = λ i. activation_work code (total_opened r.left f h i) (opened r.left f)

    meets_body : (body : Option Statement) →
        behaves code first (state js r ys cs vs) ≡ enters code r.function (line_of want) f body within args (goes_on_with want is r xs bs vs) →
        weight code (state js r ys cs vs) ≡ 4 * count + body_work (code.tests f) (activation_work code (total r.left) (opened r.left f)) body + 1 + total_work code is r →
        Meets (state js r ys cs vs) (move_body code first true want f args (sizes_of (variables_of (slice_get code.functions f))) body is r xs bs vs)
    meets_body None e w = e
    meets_body (Some a) e w =
        let here : total_work code is (back r.function inner) ≡ total_work code is r = λ i. total_work code is (sym same_active i) in
        let there : statement_work (code.tests f) (activation_work code (total r.left) (opened r.left f)) a ≡ statement_work (code.tests f) (call_work_of code inner) a = λ i. statement_work (code.tests f) (same_work i) a in (
          e ∙ (λ i. exec_body (running_in code f) (same_calls i) a args (goes_on_with want is (same_active i) xs bs vs)),
          omega (arith, w, here, there, few),
        )

  meets_call : (b : Bool) (want : Wanted) (f count : ℕ) (args : List (List ℕ)) → length args ≤ count → (js : List Item) (ys : List TypedNumber) (cs : List (List ℕ)) (is : List Item) (r : Active) (xs : List TypedNumber) (bs : List (List ℕ)) (vs : Variables) → (slice_index r.left f == 0) ≡ b →
      behaves code first (state js r ys cs vs) ≡ (if b then passed code.assertions Recursion (line_of want) r.function
      else enters code r.function (line_of want) f (body_of (slice_get code.functions f)) (activation code (total r.left) (opened r.left f) f) args (goes_on_with want is r xs bs vs)) →
      weight code (state js r ys cs vs) ≡ 4 * count + (if b then 0 else body_work (code.tests f) (activation_work code (total r.left) (opened r.left f)) (body_of (slice_get code.functions f))) + 1 + total_work code is r →
      Meets (state js r ys cs vs) (if b then (if code.assertions then breaks Recursion (line_of want) else blocks) else move_body code first true want f args (sizes_of (variables_of (slice_get code.functions f))) (body_of (slice_get code.functions f)) is r xs bs vs)
  meets_call true want f count args few js ys cs is r xs bs vs h e w = stopped code.assertions Recursion (line_of want) (state js r ys cs vs) e
  meets_call false want f count args few js ys cs is r xs bs vs h e w = meets_body want f count args few js ys cs is r xs bs vs h (body_of (slice_get code.functions f)) e w

  meets_arguments : (want : Wanted) (f count : ℕ) (args : Arguments) (is : List Item) (r : Active) (xs : List TypedNumber) (bs : List (List ℕ)) (vs : Variables) → Meets (state (gathers want f count args ∷ is) r xs bs vs) (move_arguments code first true want f count args is r xs bs vs)
  meets_arguments want f count no_argument is r xs bs vs =
      meets_call (slice_index r.left f == 0) want f count (blocks_on count bs) (blocks_fewer count bs) (gathers want f count no_argument ∷ is) xs bs is r xs (drop count bs) vs refl refl (omega arith)
  meets_arguments want f count (number_argument e more) is r xs bs vs = (refl, omega arith)
  meets_arguments want f count (structure_argument a more) is r xs bs vs = (refl, omega arith)

  using_number : (used : Bool) (line : ℕ) (s t : State) → behaves code first s ≡ (if used then final (Broken Return line s.active.function) else behaves code first t) → weight code t < weight code s →
      Meets s (if used then breaks Return line else silent t)
  using_number true line s t e w = e
  using_number false line s t e w = (e, w)

  meets_given : (want : Wanted) (given : Given) (js : List Item) (ys : List TypedNumber) (cs : List (List ℕ)) (is : List Item) (r : Active) (xs : List TypedNumber) (bs : List (List ℕ)) (vs : Variables) →
      behaves code first (state js r ys cs vs) ≡ goes_on_with want is r xs bs vs given → weight code (state js r ys cs vs) ≡ 2 + total_work code is r →
      Meets (state js r ys cs vs) (move_given code first true want given is r xs bs vs)
  meets_given (wants_number line used t) nothing js ys cs is r xs bs vs e w = using_number used line (state js r ys cs vs) (state is r (typed t 0 ∷ xs) bs vs) e (omega (arith, w))
  meets_given (wants_number line used t) (number x) js ys cs is r xs bs vs e w = (e, omega (arith, w))
  meets_given (wants_number line used t) (structure value) js ys cs is r xs bs vs e w = (e, omega (arith, w))
  meets_given (wants_structure line used size) nothing js ys cs is r xs bs vs e w = using_number used line (state js r ys cs vs) (state is r xs (zeros size ∷ bs) vs) e (omega (arith, w))
  meets_given (wants_structure line used size) (number x) js ys cs is r xs bs vs e w = (e, omega (arith, w))
  meets_given (wants_structure line used size) (structure value) js ys cs is r xs bs vs e w = (e, omega (arith, w))
  meets_given (wants_end line) given js ys cs is r xs bs vs e w = (e, omega (arith, w))

  -- ---- statements

  meets_statement : (s : Statement) (is : List Item) (r : Active) (xs : List TypedNumber) (bs : List (List ℕ)) (vs : Variables) → Meets (state (runs s ∷ is) r xs bs vs) (move_statement code first true s is r xs bs vs)
  meets_statement (block items) is r xs bs vs = (refl, omega arith)
  meets_statement (if_then line test s) is r xs bs vs = (refl, omega arith)
  meets_statement (if_else line test s t) is r xs bs vs = (refl, omega arith)
  meets_statement (evaluate e) is r xs bs vs = (refl, omega arith)
  meets_statement (trees.returns line e) is r xs bs vs = (refl, omega arith)
  meets_statement (trees.returns_structure line a) is r xs bs vs = (refl, omega arith)
  meets_statement (trees.returns_nothing line) is r xs bs vs = (refl, omega arith)
  meets_statement (trees.for_loop line n start test last s) is r xs bs vs = meets_start start line n test last s is r xs bs vs
  meets_statement (trees.do_loop line n s test) is r xs bs vs = (refl, omega arith)
  meets_statement (trees.switch line e items) is r xs bs vs = (refl, omega arith)
  meets_statement (trees.breaks line) is r xs bs vs = (refl, omega arith)
  meets_statement (trees.continues line) is r xs bs vs = (refl, omega arith)
  meets_statement (trees.jumps line n) is r xs bs vs = (refl, omega arith)
  meets_statement (trees.stray line s) is r xs bs vs = (refl, omega arith)

  -- a way out of statements
  meets_out : (way : Way) (is : List Item) (r : Active) (xs : List TypedNumber) (bs : List (List ℕ)) (vs : Variables) → Meets (state (goes_out way ∷ is) r xs bs vs) (move_item code first true (goes_out way) is r xs bs vs)
  meets_out by_break is r xs bs vs = let w = break_less code is r xs bs vs in (break_at code first is r xs bs vs, omega (arith, w))
  meets_out by_continue is r xs bs vs = let w = continue_less code is r xs bs vs in (continue_at code first is r xs bs vs, omega (arith, w))
  meets_out (by_jump n) is r xs bs vs = let w = jump_less code n is r xs bs vs in (jump_at code first n is r xs bs vs, omega (arith, w))
  meets_out (by_return how) is r xs bs vs = let w = return_less code how is r xs bs vs in (return_at code first how is r xs bs vs, omega (arith, w))

  meets_entry : (items : Items) (is : List Item) (r : Active) (xs : List TypedNumber) (bs : List (List ℕ)) (vs : Variables) → Meets (state (enters_items items ∷ is) r xs bs vs) (move_entry code first true items is r xs bs vs)
  meets_entry done is r xs bs vs = (refl, omega arith)
  meets_entry (declares line v more) is r xs bs vs = (refl, omega arith)
  meets_entry (initializes line v true e more) is r xs bs vs = (refl, omega arith)
  meets_entry (initializes line v false e more) is r xs bs vs = (refl, omega arith)
  meets_entry (initializes_structure line v true a more) is r xs bs vs = (refl, omega arith)
  meets_entry (initializes_structure line v false a more) is r xs bs vs = (refl, omega arith)
  meets_entry (does s more) is r xs bs vs = (refl, omega arith)
  meets_entry (label n more) is r xs bs vs = (refl, omega arith)
  meets_entry (case_at line t bits more) is r xs bs vs = (refl, omega arith)
  meets_entry (default_at line more) is r xs bs vs = (refl, omega arith)

  meets_items : (items : Items) (is : List Item) (r : Active) (xs : List TypedNumber) (bs : List (List ℕ)) (vs : Variables) → Meets (state (goes_on items ∷ is) r xs bs vs) (move_items code first true items is r xs bs vs)
  meets_items done is r xs bs vs = (refl, omega arith)
  meets_items (declares line v more) is r xs bs vs = (refl, omega arith)
  meets_items (initializes line v is_drawn e more) is r xs bs vs = (refl, omega arith)
  meets_items (initializes_structure line v is_drawn a more) is r xs bs vs = (refl, omega arith)
  meets_items (does s more) is r xs bs vs = (refl, omega arith)
  meets_items (label n more) is r xs bs vs = (refl, omega arith)
  meets_items (case_at line t bits more) is r xs bs vs = (refl, omega arith)
  meets_items (default_at line more) is r xs bs vs = (refl, omega arith)

  meets_fill : (words line v offset : ℕ) (is : List Item) (r : Active) (xs : List TypedNumber) (bs : List (List ℕ)) (vs : Variables) → Meets (state (fills words line v offset ∷ is) r xs bs vs) (move_fill code first true words line v offset is r xs bs vs)
  meets_fill zero line v offset is r xs bs vs = (refl, omega arith)
  meets_fill (suc k) line v offset is r xs bs vs = refl

  meets_settle : (home : Option ℕ) (line v : ℕ) (is : List Item) (r : Active) (xs : List TypedNumber) (bs : List (List ℕ)) (vs : Variables) → behaves code first (state (settles line v ∷ is) r xs bs vs) ≡ meaning.places (running_of code r) home line v vs (from code first is r xs bs) →
      Meets (state (settles line v ∷ is) r xs bs vs) (move_settle code first true home line v is r xs bs vs)
  meets_settle None line v is r xs bs vs e = (e, omega arith)
  meets_settle (Some h) line v is r xs bs vs e = e

  meets_death : (home : Option ℕ) (line v : ℕ) (is : List Item) (r : Active) (xs : List TypedNumber) (bs : List (List ℕ)) (vs : Variables) → behaves code first (state (dies line v ∷ is) r xs bs vs) ≡ meaning.dies (running_of code r) home line vs (from code first is r xs bs vs) →
      Meets (state (dies line v ∷ is) r xs bs vs) (move_death code first true home line is r xs bs vs)
  meets_death None line v is r xs bs vs e = (e, omega arith)
  meets_death (Some h) line v is r xs bs vs e = e

  meets_end : (items : Items) (is : List Item) (r : Active) (xs : List TypedNumber) (bs : List (List ℕ)) (vs : Variables) → Meets (state (leaves items ∷ is) r xs bs vs) (move_end code first true items is r xs bs vs)
  meets_end done is r xs bs vs = (refl, omega arith)
  meets_end (declares line v more) is r xs bs vs = (refl, omega arith)
  meets_end (initializes line v is_drawn e more) is r xs bs vs = (refl, omega arith)
  meets_end (initializes_structure line v is_drawn a more) is r xs bs vs = (refl, omega arith)
  meets_end (does s more) is r xs bs vs = (refl, omega arith)
  meets_end (label n more) is r xs bs vs = (refl, omega arith)
  meets_end (case_at line t bits more) is r xs bs vs = (refl, omega arith)
  meets_end (default_at line more) is r xs bs vs = (refl, omega arith)

  meets_parameters : (count v : ℕ) (is : List Item) (r : Active) (xs : List TypedNumber) (bs : List (List ℕ)) (vs : Variables) → Meets (state (enters_parameters count v ∷ is) r xs bs vs) (move_parameters code first true count v is r xs bs vs)
  meets_parameters zero v is r xs bs vs = (refl, omega arith)
  meets_parameters (suc count) v is r xs bs vs = (refl, omega arith)

  meets_last_parameters : (count v : ℕ) (is : List Item) (r : Active) (xs : List TypedNumber) (bs : List (List ℕ)) (vs : Variables) → Meets (state (leaves_parameters count v ∷ is) r xs bs vs) (move_last code first true count v is r xs bs vs)
  meets_last_parameters zero v is r xs bs vs = (refl, omega arith)
  meets_last_parameters (suc count) v is r xs bs vs = (refl, omega arith)

  -- ---- objects that are allocated

  meets_claim : (line : ℕ) (zeroed : Bool) (is : List Item) (r : Active) (xs : List TypedNumber) (bs : List (List ℕ)) (vs : Variables) → Meets (state (claims line zeroed ∷ is) r xs bs vs) (move_claim code first true line zeroed is r xs bs vs)
  meets_claim line false is r xs bs vs = asking code.malloc_may_fail (Draw 1) line (state (claims line false ∷ is) r xs bs vs) _ (state (admits line false ∷ is) r xs bs vs) refl (omega arith)
  meets_claim line true is r xs bs vs = asking code.malloc_may_fail (Draw 1) line (state (claims line true ∷ is) r xs bs vs) _ (state (admits line true ∷ is) r xs bs vs) refl (omega arith)

  meets_try : (line : ℕ) (zeroed : Bool) (is : List Item) (r : Active) (xs : List TypedNumber) (bs : List (List ℕ)) (vs : Variables) → Meets (state (tries line zeroed ∷ is) r xs bs vs) (move_try code first true line zeroed is r xs bs vs)
  meets_try line false is r xs bs vs =
      deciding (is_true (top xs).bits) (state (tries line false ∷ is) r xs bs vs) (state is r (typed UnsignedLong 0 ∷ rest (rest xs)) bs vs) (state (admits line false ∷ is) r (rest xs) bs vs) refl (omega arith) (omega arith)
  meets_try line true is r xs bs vs =
      deciding (is_true (top xs).bits) (state (tries line true ∷ is) r xs bs vs) (state is r (typed UnsignedLong 0 ∷ rest (rest (rest xs))) bs vs) (state (admits line true ∷ is) r (rest xs) bs vs) refl (omega arith) (omega arith)

  meets_admission : (line : ℕ) (zeroed : Bool) (is : List Item) (r : Active) (xs : List TypedNumber) (bs : List (List ℕ)) (vs : Variables) → Meets (state (admits line zeroed ∷ is) r xs bs vs) (move_admission code first true line zeroed is r xs bs vs)
  meets_admission line false is r xs bs vs = ranging (nat_le (top xs).bits code.malloc_limit) MallocLimit line (state (admits line false ∷ is) r xs bs vs) (state (draws _ _ line ∷ is) r xs ([] ∷ bs) vs) refl (omega arith)
  meets_admission line true is r xs bs vs =
      let size = (second xs).bits * (top xs).bits in
      ranging (nat_le size code.malloc_limit) MallocLimit line (state (admits line true ∷ is) r xs bs vs) (state (makes line ∷ is) r (typed UnsignedLong size ∷ rest (rest xs)) (zeros size ∷ bs) vs) refl (omega arith)

  meets_draw : (words size line : ℕ) (is : List Item) (r : Active) (xs : List TypedNumber) (bs : List (List ℕ)) (vs : Variables) → Meets (state (draws words size line ∷ is) r xs bs vs) (move_draw code first true words size line is r xs bs vs)
  meets_draw zero size line is r xs bs vs = (refl, omega arith)
  meets_draw (suc k) size line is r xs bs vs = refl

  -- ---- items that test a value

  choosing : (s : State) (b : Bool) (a c : Expression) (is : List Item) (r : Active) (ys : List TypedNumber) (bs : List (List ℕ)) (vs : Variables) →
      behaves code first s ≡ (if b then eval (running_of code r) (calls_of code r) a vs (λ x. from code first is r (typed (number_type a) x ∷ ys) bs) else eval (running_of code r) (calls_of code r) c vs (λ x. from code first is r (typed (number_type a) x ∷ ys) bs)) →
      weight code s ≡ work (code.tests r.function) (call_work_of code r) a + work (code.tests r.function) (call_work_of code r) c + 3 + total_work code is r →
      Meets s (silent (state (evaluates (if b then a else c) ∷ retypes (number_type a) ∷ is) r ys bs vs))
  choosing s true a c is r ys bs vs e w = (e, omega arith)
  choosing s false a c is r ys bs vs e w = (e, omega arith)

  choosing_structure : (s : State) (b : Bool) (a c : Structure) (is : List Item) (r : Active) (ys : List TypedNumber) (bs : List (List ℕ)) (vs : Variables) →
      behaves code first s ≡ (if b then eval_structure (running_of code r) (calls_of code r) a vs (λ value. from code first is r ys (value ∷ bs)) else eval_structure (running_of code r) (calls_of code r) c vs (λ value. from code first is r ys (value ∷ bs))) →
      weight code s ≡ structure_work (code.tests r.function) (call_work_of code r) a + structure_work (code.tests r.function) (call_work_of code r) c + 2 + total_work code is r →
      Meets s (silent (state (evaluates_structure (if b then a else c) ∷ is) r ys bs vs))
  choosing_structure s true a c is r ys bs vs e w = (e, omega arith)
  choosing_structure s false a c is r ys bs vs e w = (e, omega arith)

  holding : (class : Class) (s t : State) (b : Bool) (line : ℕ) → behaves code first s ≡ (if b then behaves code first t else final (Broken class line s.active.function)) → weight code t < weight code s → Meets s (unless_stopped code first true (if b then None else Some class) line t)
  holding class s t true line e w = (e, w)
  holding class s t false line e w = e

  assuming : (s t : State) (b : Bool) → behaves code first s ≡ (if b then behaves code first t else final Blocked) → weight code t < weight code s → Meets s (if b then silent t else blocks)
  assuming s t true e w = (e, w)
  assuming s t false e w = e

  branching : (s : State) (b : Bool) (a : Statement) (is : List Item) (r : Active) (ys : List TypedNumber) (bs : List (List ℕ)) (vs : Variables) →
      behaves code first s ≡ (if b then exec (running_of code r) (calls_of code r) a (exits_of code first is r ys bs) vs (from code first is r ys bs) else from code first is r ys bs vs) → weight code s ≡ statement_work (code.tests r.function) (call_work_of code r) a + 1 + total_work code is r →
      Meets s (silent (state (if b then runs a ∷ is else is) r ys bs vs))
  branching s true a is r ys bs vs e w = (e, omega arith)
  branching s false a is r ys bs vs e w = (e, omega arith)

  dividing : (s : State) (b : Bool) (a c : Statement) (is : List Item) (r : Active) (ys : List TypedNumber) (bs : List (List ℕ)) (vs : Variables) →
      behaves code first s ≡ (if b then exec (running_of code r) (calls_of code r) a (exits_of code first is r ys bs) vs (from code first is r ys bs) else exec (running_of code r) (calls_of code r) c (exits_of code first is r ys bs) vs (from code first is r ys bs)) → weight code s ≡ statement_work (code.tests r.function) (call_work_of code r) a + statement_work (code.tests r.function) (call_work_of code r) c + 1 + total_work code is r →
      Meets s (silent (state (runs (if b then a else c) ∷ is) r ys bs vs))
  dividing s true a c is r ys bs vs e w = (e, omega arith)
  dividing s false a c is r ys bs vs e w = (e, omega arith)

  meets_item : (i : Item) (is : List Item) (r : Active) (xs : List TypedNumber) (bs : List (List ℕ)) (vs : Variables) → Meets (state (i ∷ is) r xs bs vs) (move_item code first true i is r xs bs vs)
  meets_item (evaluates e) is r xs bs vs = meets_expression e is r xs bs vs
  meets_item (converts to) is r xs bs vs = (refl, omega arith)
  meets_item (signs line op) is r xs bs vs = checked (sign_check op (top xs).type (top xs).bits) line (state (signs line op ∷ is) r xs bs vs) (state is r _ _ _) refl (omega arith)
  meets_item negates is r xs bs vs = (refl, omega arith)
  meets_item (operates line op) is r xs bs vs = checked (arithmetic_check op (second xs).type (top xs).type (second xs).bits (top xs).bits) line (state (operates line op ∷ is) r xs bs vs) (state is r _ _ _) refl (omega arith)
  meets_item (compares op) is r xs bs vs = (refl, omega arith)
  meets_item (decides_on op b) is r xs bs vs = deciding (decides op (top xs).bits) (state (decides_on op b ∷ is) r xs bs vs) (state is r (typed Int (truth_bits (is_true (top xs).bits)) ∷ rest xs) bs vs) (state (evaluates b ∷ tests ∷ is) r (rest xs) bs vs) refl (omega arith) (omega arith)
  meets_item tests is r xs bs vs = (refl, omega arith)
  meets_item (chooses a b) is r xs bs vs = choosing (state (chooses a b ∷ is) r xs bs vs) (is_true (top xs).bits) a b is r (rest xs) bs vs refl refl
  meets_item (retypes t) is r xs bs vs = (refl, omega arith)
  meets_item drops is r xs bs vs = (refl, omega arith)
  meets_item (passes b) is r xs bs vs = (refl, omega arith)
  meets_item (asserts line) is r xs bs vs = holding Assertion (state (asserts line ∷ is) r xs bs vs) (state is r (typed Int 0 ∷ rest xs) bs vs) (is_true (top xs).bits) line refl (omega arith)
  meets_item assumes is r xs bs vs = assuming (state (assumes ∷ is) r xs bs vs) (state is r (typed Int 0 ∷ rest xs) bs vs) (is_true (top xs).bits) refl (omega arith)
  meets_item (locates p) is r xs bs vs = meets_place p is r xs bs vs
  meets_item (reaches offset) is r xs bs vs = (refl, omega arith)
  meets_item (elements line size whole swapped) is r xs bs vs = meets_pointer (elements line size whole swapped ∷ is) r xs bs vs true (base swapped xs).bits whole (index_number swapped xs) (pos size) line (λ q. state is r (typed UnsignedLong q ∷ rest (rest xs)) bs vs) refl (λ q. omega arith)
  meets_item (loads t p) is r xs bs vs = meets_bytes (loads t p ∷ is) r xs bs vs (variable_of (running_of code r) p) (top xs).bits (bytes t) (place_line p) _ refl (λ found. omega arith)
  meets_item (stores line t p) is r xs bs vs = meets_put (stores line t p ∷ is) r xs bs vs (variable_of (running_of code r) p) (second xs).bits (low_bytes (bytes t) (top xs).bits) line _ refl (λ now. omega arith)
  meets_item (rewrites line t p at) is r xs bs vs = meets_put (rewrites line t p at ∷ is) r xs bs vs (variable_of (running_of code r) p) at (low_bytes (bytes t) (top xs).bits) line _ refl (λ now. omega arith)
  meets_item (updates line t p op u) is r xs bs vs = meets_bytes (updates line t p op u ∷ is) r xs bs vs (variable_of (running_of code r) p) (second xs).bits (bytes t) (place_line p) _ refl (λ found. omega arith)
  meets_item (combines line t p op u) is r xs bs vs =
      checked (arithmetic_check op u (second xs).type (converted t u (top xs).bits) (second xs).bits) line (state (combines line t p op u ∷ is) r xs bs vs) (state (stores line t p ∷ is) r _ _ _) refl (omega arith)
  meets_item (steps line t p op before) is r xs bs vs = meets_steps line t p op before is r xs bs vs
  meets_item (increments line t p op before at) is r xs bs vs = meets_increment line t p op before at is r xs bs vs
  meets_item (looks line n is_element swapped) is r xs bs vs = refl
  meets_item (lands line n is_element swapped) is r xs bs vs =
      meets_pointer (lands line n is_element swapped ∷ is) r xs bs vs is_element (base swapped (rest xs)).bits (top xs).bits (index_number swapped (rest xs)) n line (λ q. state is r (typed UnsignedLong q ∷ rest (rest (rest xs))) bs vs) refl (λ q. omega arith)
  meets_item (shifts line p n) is r xs bs vs = meets_bytes (shifts line p n ∷ is) r xs bs vs (variable_of (running_of code r) p) (second xs).bits (bytes UnsignedLong) (place_line p) _ refl (λ found. omega arith)
  meets_item (paces line p n before) is r xs bs vs = meets_paces line p n before is r xs bs vs
  meets_item (advances line p n before at) is r xs bs vs = refl
  meets_item (arrives line p n before at) is r xs bs vs = meets_arrives line p n before at is r xs bs vs
  meets_item (measures line n) is r xs bs vs = holding Pointer (state (measures line n ∷ is) r xs bs vs) (state is r _ bs vs) (object_of (second xs).bits == object_of (top xs).bits) line refl (omega arith)
  meets_item (orders line op) is r xs bs vs = holding Pointer (state (orders line op ∷ is) r xs bs vs) (state is r _ bs vs) (object_of (second xs).bits == object_of (top xs).bits) line refl (omega arith)
  meets_item (claims line zeroed) is r xs bs vs = meets_claim line zeroed is r xs bs vs
  meets_item (tries line zeroed) is r xs bs vs = meets_try line zeroed is r xs bs vs
  meets_item (admits line zeroed) is r xs bs vs = meets_admission line zeroed is r xs bs vs
  meets_item (draws words size line) is r xs bs vs = meets_draw words size line is r xs bs vs
  meets_item (makes line) is r xs bs vs = refl
  meets_item (releases line) is r xs bs vs = skipping ((top xs).bits == 0) (Free (top xs).bits) line (state (releases line ∷ is) r xs bs vs) (state is r (typed Int 0 ∷ rest xs) bs vs) (λ a. state is r (typed Int 0 ∷ rest xs) bs vs) refl (omega arith)
  meets_item (quits line) is r xs bs vs = λ i. ask_in r.function Exit line (λ a. final (Ended (word_64 (same_zero first i))))
  meets_item (evaluates_structure a) is r xs bs vs = meets_structure a is r xs bs vs
  meets_item (picks t offset) is r xs bs vs = (refl, omega arith)
  meets_item discards is r xs bs vs = (refl, omega arith)
  meets_item discards_structure is r xs bs vs = (refl, omega arith)
  meets_item (chooses_structure a b) is r xs bs vs = choosing_structure (state (chooses_structure a b ∷ is) r xs bs vs) (is_true (top xs).bits) a b is r (rest xs) bs vs refl refl
  meets_item (copies p size) is r xs bs vs = meets_bytes (copies p size ∷ is) r xs bs vs (variable_of (running_of code r) p) (top xs).bits size (place_line p) _ refl (λ found. omega arith)
  meets_item (stores_structure line p) is r xs bs vs = meets_put (stores_structure line p ∷ is) r xs bs vs (variable_of (running_of code r) p) (top xs).bits (top_bytes bs) line _ refl (λ now. omega arith)
  meets_item (passes_structure a) is r xs bs vs = (refl, omega arith)
  meets_item (cuts offset size) is r xs bs vs = (refl, omega arith)
  meets_item (lists parts) is r xs bs vs = meets_parts parts is r xs bs vs
  meets_item (places_number offset t) is r xs bs vs = (refl, omega arith)
  meets_item (places_structure offset) is r xs bs vs = (refl, omega arith)
  meets_item (runs s) is r xs bs vs = meets_statement s is r xs bs vs
  meets_item (branches s) is r xs bs vs = branching (state (branches s ∷ is) r xs bs vs) (is_true (top xs).bits) s is r (rest xs) bs vs refl refl
  meets_item (divides s t) is r xs bs vs = dividing (state (divides s t ∷ is) r xs bs vs) (is_true (top xs).bits) s t is r (rest xs) bs vs refl refl
  meets_item (enters_items items) is r xs bs vs = meets_entry items is r xs bs vs
  meets_item (goes_on items) is r xs bs vs = meets_items items is r xs bs vs
  meets_item (ends_block items) is r xs bs vs = (refl, omega arith)
  meets_item (leaves items) is r xs bs vs = meets_end items is r xs bs vs
  meets_item (fills words line v offset) is r xs bs vs = meets_fill words line v offset is r xs bs vs
  meets_item (settles line v) is r xs bs vs = meets_settle (home_of (running_of code r) v) line v is r xs bs vs refl
  meets_item (initial line v t) is r xs bs vs = meets_initial (initial line v t ∷ is) r xs bs vs (home_of (running_of code r) v) v (low_bytes (bytes t) (top xs).bits) line _ refl (λ now. omega arith)
  meets_item (initial_structure line v) is r xs bs vs = meets_initial (initial_structure line v ∷ is) r xs bs vs (home_of (running_of code r) v) v (top_bytes bs) line _ refl (λ now. omega arith)
  meets_item (dies line v) is r xs bs vs = meets_death (home_of (running_of code r) v) line v is r xs bs vs refl
  meets_item (enters_parameters count v) is r xs bs vs = meets_parameters count v is r xs bs vs
  meets_item (ends_parameters count) is r xs bs vs = (refl, omega arith)
  meets_item (leaves_parameters count v) is r xs bs vs = meets_last_parameters count v is r xs bs vs
  meets_item (gathers want f count args) is r xs bs vs = meets_arguments want f count args is r xs bs vs
  meets_item (adds_number want f count t args) is r xs bs vs = (refl, omega arith)
  meets_item (resumes want caller saved) is r xs bs vs = (refl, omega arith)
  meets_item (goes_out way) is r xs bs vs = meets_out way is r xs bs vs
  meets_item (gets want how) is r xs bs vs =
      meets_given want (given_by how xs bs) (gets want how ∷ is) xs bs is r (values_under how xs) (structures_under how bs) vs refl refl
  meets_item (turns n loop) is r xs bs vs = meets_turn code.assertions n loop is r xs bs vs refl
  meets_item (retests n loop) is r xs bs vs = meets_test loop.test n loop is r xs bs vs refl
  meets_item (repeats n loop) is r xs bs vs = repeating (is_true (top xs).bits) n loop (state (repeats n loop ∷ is) r xs bs vs) is r (rest xs) bs vs refl refl
  meets_item (loops n loop) is r xs bs vs = meets_last loop.last n loop is r xs bs vs refl
  meets_item (selects items) is r xs bs vs = selecting (has_case items (top xs).bits) (has_default items) items (top xs).bits (state (selects items ∷ is) r xs bs vs) is r (rest xs) bs vs refl refl
  meets_item (switches items) is r xs bs vs = (refl, omega arith)
  meets_item strays is r xs bs vs = refl
  meets_item (ending line x) is r xs bs vs = refl
  meets_item (ended x) is r xs bs vs = refl

  meets_from : (is : List Item) (r : Active) (xs : List TypedNumber) (bs : List (List ℕ)) (vs : Variables) → Meets (state is r xs bs vs) (move code first true (state is r xs bs vs))
  meets_from [] r xs bs vs = refl
  meets_from (i ∷ is) r xs bs vs = meets_item i is r xs bs vs

  pub meets : (s : State) → Meets s (move code first true s)
  meets s = meets_from s.items s.active s.values s.structures s.variables

  -- ---- silent steps up to an action or an end

  abbrev pub IsStill : Move → Type 0
  IsStill (silent t) = ⊥
  IsStill _ = Unit {0}

  same_by : (n : ℕ) (s : State) (m : Move) → ((t : State) → behaves code first (settled code first true n t) ≡ behaves code first t) → Meets s m → behaves code first (stepped_on m s (settled code first true n)) ≡ behaves code first s
  same_by n s (silent t) later e = later t ∙ sym e.0
  same_by n s (asks action line follows) later e = refl
  same_by n s (breaks class line) later e = refl
  same_by n s blocks later e = refl
  same_by n s (ends v) later e = refl

  settled_same : (n : ℕ) (s : State) → behaves code first (settled code first true n s) ≡ behaves code first s
  settled_same zero s = refl
  settled_same (suc n) s = same_by n s (move code first true s) (settled_same n) (meets s)

  no_work_left : (s : State) (m : Move) → weight code s ≤ 0 → Meets s m → IsStill m
  no_work_left s (silent t) w e = absurd (omega (arith, e.1))
  no_work_left s (asks action line follows) w e = tt
  no_work_left s (breaks class line) w e = tt
  no_work_left s blocks w e = tt
  no_work_left s (ends v) w e = tt

  still_by : (n : ℕ) (s : State) (m : Move) → ((t : State) → weight code t ≤ n → IsStill (move code first true (settled code first true n t))) → move code first true s ≡ m → Meets s m → weight code s ≤ suc n →
      IsStill (move code first true (stepped_on m s (settled code first true n)))
  still_by n s (silent t) later h e w = later t (omega (arith, e.1))
  still_by n s (asks action line follows) later h e w = subst IsStill (sym h) tt
  still_by n s (breaks class line) later h e w = subst IsStill (sym h) tt
  still_by n s blocks later h e w = subst IsStill (sym h) tt
  still_by n s (ends v) later h e w = subst IsStill (sym h) tt

  pub settled_still : (n : ℕ) (s : State) → weight code s ≤ n → IsStill (move code first true (settled code first true n s))
  settled_still zero s w = no_work_left s (move code first true s) w (meets s)
  settled_still (suc n) s w = still_by n s (move code first true s) (settled_still n) refl (meets s) w

  -- ---- what is next, and after an answer

  next_is : (s : State) (m : Move) → IsStill m → Meets s m → next_of s.active m ≡ behaves code first s []
  next_is s (silent t) h e = absurd h
  next_is s (asks action line follows) h e = λ i. sym e i []
  next_is s (breaks class line) h e = λ i. sym e i []
  next_is s blocks h e = λ i. sym e i []
  next_is s (ends v) h e = λ i. sym e i []

  choice_same : (b : Bool) (x y z : Next) → x ≡ y → (if b then x else z) ≡ (if b then y else z)
  choice_same true x y z e = e
  choice_same false x y z e = refl

  answered_is : (s : State) (m : Move) (a : Answer) (answers : List Answer) → ((t : State) → bounded code first t answers ≡ behaves code first t answers) → IsStill m → Meets s m →
      (if accepts (next_of s.active m) a then bounded code first (answered_by m a s) answers else Blocked) ≡ behaves code first s (a ∷ answers)
  answered_is s (silent t) a answers later h e = absurd h
  answered_is s (asks action line follows) a answers later h e =
      choice_same (has_shape (shape_of action) a) (bounded code first (follows a) answers) (behaves code first (follows a) answers) Blocked (later (follows a)) ∙ (λ i. sym e i (a ∷ answers))
  answered_is s (breaks class line) a answers later h e = λ i. sym e i (a ∷ answers)
  answered_is s blocks a answers later h e = λ i. sym e i (a ∷ answers)
  answered_is s (ends v) a answers later h e = λ i. sym e i (a ∷ answers)

  adequate_at : (answers : List Answer) (s : State) → bounded code first s answers ≡ behaves code first s answers
  adequate_at [] s =
      let t = settle code first s in
      let w : weight code s ≤ weight code s = omega arith in
      next_is t (move code first true t) (settled_still (weight code s) s w) (meets t) ∙ (λ i. settled_same (weight code s) s i [])
  adequate_at (a ∷ answers) s =
      let t = settle code first s in
      let w : weight code s ≤ weight code s = omega arith in
      answered_is t (move code first true t) a answers (adequate_at answers) (settled_still (weight code s) s w) (meets t) ∙ (λ i. settled_same (weight code s) s i (a ∷ answers))

  pub adequate : (s : State) → bounded code first s ≡ behaves code first s
  adequate s = λ i answers. adequate_at answers s i
