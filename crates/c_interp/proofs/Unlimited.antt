-- A run without bounds does what the run within them does, until that passes a bound.
use Rattle.std.proofs.Common.{◌≡◌, ◌⊎◌, ℕ, zero, suc, ◌<◌, ◌≤◌, Bool, true, false, List, [], ◌∷◌, Option, Some, None, if◌then◌else◌, refl, sym, subst, ◌∙◌, arith, inl, inr}
use Rattle.std.specs.Prelude.{◌==◌, slice_get, slice_index, drop, length}
use Rattle.std.specs.Ordering.{nat_cmp}
use Rattle.std.specs.BTreeMap.{is_at}
use Rattle.words.specs.declared.check.Check.{Check}
use Rattle.words.specs.declared.check.Class.{Class}
use Rattle.words.specs.declared.check.Class.TheVariants.{Assertion, Unwind, Recursion, Pointer}
use Rattle.c_types.specs.Integers.{bytes, promoted}
use Rattle.c_types.specs.declared.integers.IntegerType.TheVariants.{UnsignedLong}
use Rattle.core_tree.specs.Operations.{is_true, converted, arithmetic_check, sign_check}
use Rattle.actions.specs.Pointer.{object_of}
use Rattle.c_values.specs.Variables.{Variables, low_bytes}
use Rattle.c_values.specs.Numbers.{TypedNumber}
use Rattle.core_tree.specs.Ranges.{Limits}
use Rattle.core_tree.specs.Trees.{Place, element, subscript, Expression, sum, Structure, string, Parts, no_part, Arguments, no_argument, number_argument, structure_argument, Statement, block, Items, done, initializes, initializes_structure, Procedure, TypedFile}
use Rattle.actions.specs.declared.action.Action.{Action}
use Rattle.actions.specs.declared.action.Answer.{Answer}
use Rattle.actions.specs.declared.action.Next.{Next}
use Rattle.actions.specs.declared.action.Next.TheVariants.{Act, Ended, Blocked, Broken}
use Rattle.actions.specs.Behaviour.{Behaviour, Thread, after, answered, accepts}
use Rattle.actions.specs.Memory.{Change, starts, keeps}
use Rattle.actions.specs.Row as rows
use Rattle.actions.specs.Row.{breaks as breaks_row, waits, moves}
use Rattle.interleave.specs.declared.counts.Counts.{Counts}
use Rattle.interleave.specs.declared.turn.Turn.{Turn}
use Rattle.interleave.specs.declared.turn.Turn.TheVariants as turned
use Rattle.interleave.specs.declared.turn.Outcome.{Outcome}
use Rattle.interleave.specs.declared.turn.Outcome.TheVariants as ending
use Rattle.interleave.specs.Inputs.{InputLists, words_of}
use Rattle.interleave.specs.World.{World, Common, Member, member_at, may_move, moved, told, with_told, with_child}
use Rattle.interleave.specs.Turn.{turn, settled as settled_turn, outcome, with_next, with_member, check_of}
use Rattle.interleave.specs.Run.{run, unless_broken}
use Rattle.c_meaning.specs.Meaning as meaning
use Rattle.c_meaning.specs.Meaning.{Given, nothing, number, structure, Code, place_line, home_of, variable_of, body_of, variables_of, final}
use Rattle.c_tasks.specs.Items.{top, rest, second, top_bytes, running_of, Item, evaluates, signs, operates, locates, loads, stores, rewrites, updates, combines, steps, increments, shifts, paces, measures, orders, admits, draws, asserts, evaluates_structure, copies, stores_structure, lists, runs, enters, goes_on, leaves, fills, settles, initial, initial_structure, dies, enters_parameters, leaves_parameters, gathers, gets, turns, retests, State, Active, line_of, blocks_on, Wanted, wants_number, wants_structure, wants_end, given_by, values_under, structures_under, Loop}
use Rattle.c_interp.specs.Work.{weight}
use Rattle.c_tasks.specs.Steps.{Move, silent, asks, breaks, blocks, ends, unless_stopped, move_bytes, move_put, move_place, move_expression, move_structure, move_parts, move_statement, move_fill, move_entry, move_settle, move_initial, move_death, move_end, move_parameters, move_last, move_admission, move_draw, move_turn, move_test, move_body, move_arguments, move_given, move_items, move_item, move_from, move}
use Rattle.c_interp.specs.Small.{stepped_on, settled, next_of, answered_by, bounded, unbounded}
use Rattle.c_interp.specs.inner.Adequate.{IsStill, settled_still}
use Rattle.c_meaning.specs.Source.{code_of, main_number, runs_at, source_thread}
use Rattle.c_interp.specs.SourceThread.{StartsNone, start_state, small_steps, function_starts_none}
use Rattle.c_interp.specs.Alone.{Quietly}
use Rattle.c_interp.specs.Unlimited.{unlimited_at, unlimited_thread, SafeAtAll}
use Rattle.c_interp.proofs.SourceRuns.{IsPlain, plain}

-- ---- behaviours

abbrev IsBroken : Next → Type 0
IsBroken (Act action line f) = ⊥
IsBroken (Ended v) = ⊥
IsBroken Blocked = ⊥
IsBroken (Broken class line f) = Unit {0}

-- the first has broken a check after some of these answers; or the other is next as it is, or blocked
abbrev pub Cut : Behaviour → Behaviour → List Answer → Type 0
Cut b u [] = IsBroken (b []) ⊎ ((u [] ≡ b []) ⊎ (u [] ≡ Blocked))
Cut b u (a ∷ answers) = IsBroken (b []) ⊎ Cut (after b a) (after u a) answers

abbrev pub Cuts : Behaviour → Behaviour → Type 0
Cuts b u = (answers : List Answer) → Cut b u answers

never : (b : Behaviour) (answers : List Answer) → Cut b (λ more. Blocked) answers
never b [] = inr (inr refl)
never b (a ∷ answers) = inr (never (after b a) answers)

pub choice_cut : (z y : Bool) (b u : Behaviour) (answers : List Answer) → z ≡ y → Cut b u answers → Cut (λ more. if z then b more else Blocked) (λ more. if y then u more else Blocked) answers
choice_cut true true b u answers same cut = cut
choice_cut true false b u answers same cut = absurd (cc)
choice_cut false true b u answers same cut = absurd (cc)
choice_cut false false b u answers same cut = never (λ more. Blocked) answers

-- ---- moves

-- a bound is passed
abbrev Passes : Move → Type 0
Passes m = (class : Class) × (line : ℕ) × (m ≡ breaks class line)

module _ (code : Code) (first : Bool) (checked : code.assertions ≡ true) where
  stop_breaks : (b : Bool) → b ≡ true → (class : Class) (line : ℕ) (other : Move) → Passes (if b then breaks class line else other)
  stop_breaks true h class line other = (class, line, refl)
  stop_breaks false h class line other = absurd (cc)

  passes_or : (b : Bool) (class : Class) (line : ℕ) (m other : Move) → m ≡ other → Passes (if b then (if code.assertions then breaks class line else blocks) else m) ⊎ ((if b then (if code.assertions then breaks class line else blocks) else m) ≡ other)
  passes_or true class line m other same = inl (stop_breaks code.assertions checked class line blocks)
  passes_or false class line m other same = inr same

  same_checked : (c : Option Class) (line : ℕ) (s : State) → unless_stopped code first true c line s ≡ unless_stopped code first false c line s
  same_checked None line s = refl
  same_checked (Some class) line s = refl

  same_bytes : (o : Option ℕ) (at count line : ℕ) (r : Active) (vs : Variables) (next : List ℕ → State) → move_bytes code first true o at count line r vs next ≡ move_bytes code first false o at count line r vs next
  same_bytes (Some v) at count line r vs next = refl
  same_bytes None at count line r vs next = refl

  same_put : (o : Option ℕ) (at : ℕ) (new : List ℕ) (line : ℕ) (r : Active) (vs : Variables) (next : Variables → State) → move_put code first true o at new line r vs next ≡ move_put code first false o at new line r vs next
  same_put (Some v) at new line r vs next = refl
  same_put None at new line r vs next = refl

  same_initial : (home : Option ℕ) (v : ℕ) (new : List ℕ) (line : ℕ) (r : Active) (vs : Variables) (next : Variables → State) → move_initial code first true home v new line r vs next ≡ move_initial code first false home v new line r vs next
  same_initial None v new line r vs next = refl
  same_initial (Some h) v new line r vs next = refl

  module _ (is : List Item) (r : Active) (xs : List TypedNumber) (bs : List (List ℕ)) (vs : Variables) where
    same_place : (p : Place) → move_place code first true p is r xs bs vs ≡ move_place code first false p is r xs bs vs
    same_place (element line p e size whole true) = refl
    same_place (element line p e size whole false) = refl
    same_place (subscript line a e size true) = refl
    same_place (subscript line a e size false) = refl
    same_place _ = refl

    same_expression : (e : Expression) → move_expression code first true e is r xs bs vs ≡ move_expression code first false e is r xs bs vs
    same_expression (sum line a e n true) = refl
    same_expression (sum line a e n false) = refl
    same_expression _ = refl

    same_structure : (a : Structure) → move_structure code first true a is r xs bs vs ≡ move_structure code first false a is r xs bs vs
    same_structure (string line size text) = refl
    same_structure _ = refl

    same_parts : (parts : Parts) → move_parts code first true parts is r xs bs vs ≡ move_parts code first false parts is r xs bs vs
    same_parts no_part = refl
    same_parts _ = refl

    same_statement : (s : Statement) → move_statement code first true s is r xs bs vs ≡ move_statement code first false s is r xs bs vs
    same_statement (block items) = refl
    same_statement _ = refl

    same_entry : (items : Items) → move_entry code first true items is r xs bs vs ≡ move_entry code first false items is r xs bs vs
    same_entry (initializes line v true e more) = refl
    same_entry (initializes line v false e more) = refl
    same_entry (initializes_structure line v true a more) = refl
    same_entry (initializes_structure line v false a more) = refl
    same_entry _ = refl

    same_end : (items : Items) → move_end code first true items is r xs bs vs ≡ move_end code first false items is r xs bs vs
    same_end done = refl
    same_end _ = refl

    same_items : (items : Items) → move_items code first true items is r xs bs vs ≡ move_items code first false items is r xs bs vs
    same_items done = refl
    same_items _ = refl

    same_fill : (words line v offset : ℕ) → move_fill code first true words line v offset is r xs bs vs ≡ move_fill code first false words line v offset is r xs bs vs
    same_fill zero line v offset = refl
    same_fill (suc k) line v offset = refl

    same_settle : (home : Option ℕ) (line v : ℕ) → move_settle code first true home line v is r xs bs vs ≡ move_settle code first false home line v is r xs bs vs
    same_settle None line v = refl
    same_settle (Some h) line v = refl

    same_death : (home : Option ℕ) (line : ℕ) → move_death code first true home line is r xs bs vs ≡ move_death code first false home line is r xs bs vs
    same_death None line = refl
    same_death (Some h) line = refl

    same_parameters : (count v : ℕ) → move_parameters code first true count v is r xs bs vs ≡ move_parameters code first false count v is r xs bs vs
    same_parameters zero v = refl
    same_parameters (suc count) v = refl

    same_last : (count v : ℕ) → move_last code first true count v is r xs bs vs ≡ move_last code first false count v is r xs bs vs
    same_last zero v = refl
    same_last (suc count) v = refl

    same_admission : (line : ℕ) (zeroed : Bool) → move_admission code first true line zeroed is r xs bs vs ≡ move_admission code first false line zeroed is r xs bs vs
    same_admission line false = refl
    same_admission line true = refl

    same_draw : (words size line : ℕ) → move_draw code first true words size line is r xs bs vs ≡ move_draw code first false words size line is r xs bs vs
    same_draw zero size line = refl
    same_draw (suc k) size line = refl

    same_test : (test : Option Expression) (n : ℕ) (loop : Loop) → move_test code first true test n loop is r xs bs vs ≡ move_test code first false test n loop is r xs bs vs
    same_test None n loop = refl
    same_test (Some e) n loop = refl

    same_given : (want : Wanted) (given : Given) → move_given code first true want given is r xs bs vs ≡ move_given code first false want given is r xs bs vs
    same_given (wants_number line used t) nothing = refl
    same_given (wants_number line used t) (number x) = refl
    same_given (wants_number line used t) (structure value) = refl
    same_given (wants_structure line used size) nothing = refl
    same_given (wants_structure line used size) (number x) = refl
    same_given (wants_structure line used size) (structure value) = refl
    same_given (wants_end line) given = refl

    same_body : (want : Wanted) (f count : ℕ) (args : List (List ℕ)) (sizes : List ℕ) (body : Option Statement)
        → move_body code first true want f args sizes body is r xs (drop count bs) vs ≡ move_body code first false want f args sizes body is r xs (drop count bs) vs
    same_body want f count args sizes None = refl
    same_body want f count args sizes (Some s) = refl

    -- a call and a loop's round may pass a bound
    arguments_or : (want : Wanted) (f count : ℕ) (args : Arguments) →
        Passes (move_arguments code first true want f count args is r xs bs vs) ⊎ (move_arguments code first true want f count args is r xs bs vs ≡ move_arguments code first false want f count args is r xs bs vs)
    arguments_or want f count no_argument =
        passes_or (slice_index r.left f == 0) Recursion (line_of want) _ _ (same_body want f count (blocks_on count bs) (meaning.sizes_of (variables_of (slice_get code.functions f))) (body_of (slice_get code.functions f)))
    arguments_or want f count (number_argument e more) = inr refl
    arguments_or want f count (structure_argument a more) = inr refl

    turn_or : (n : ℕ) (loop : Loop) → Passes (move_turn code first true n loop is r xs bs vs) ⊎ (move_turn code first true n loop is r xs bs vs ≡ move_turn code first false n loop is r xs bs vs)
    turn_or zero loop = inl (stop_breaks code.assertions checked Unwind loop.line blocks)
    turn_or (suc n) loop = inr refl

  item_or : (i : Item) (is : List Item) (r : Active) (xs : List TypedNumber) (bs : List (List ℕ)) (vs : Variables)
      → Passes (move_item code first true i is r xs bs vs) ⊎ (move_item code first true i is r xs bs vs ≡ move_item code first false i is r xs bs vs)
  item_or (evaluates e) is r xs bs vs = inr (same_expression is r xs bs vs e)
  item_or (signs line op) is r xs bs vs = inr (same_checked (sign_check op (top xs).type (top xs).bits) line _)
  item_or (operates line op) is r xs bs vs = inr (same_checked (arithmetic_check op (second xs).type (top xs).type (second xs).bits (top xs).bits) line _)
  item_or (locates p) is r xs bs vs = inr (same_place is r xs bs vs p)
  item_or (loads t p) is r xs bs vs = inr (same_bytes (variable_of (running_of code r) p) (top xs).bits (bytes t) (place_line p) r vs _)
  item_or (stores line t p) is r xs bs vs = inr (same_put (variable_of (running_of code r) p) (second xs).bits (low_bytes (bytes t) (top xs).bits) line r vs _)
  item_or (rewrites line t p at) is r xs bs vs = inr (same_put (variable_of (running_of code r) p) at (low_bytes (bytes t) (top xs).bits) line r vs _)
  item_or (updates line t p op u) is r xs bs vs = inr (same_bytes (variable_of (running_of code r) p) (second xs).bits (bytes t) (place_line p) r vs _)
  item_or (combines line t p op u) is r xs bs vs = inr (same_checked (arithmetic_check op u (second xs).type (converted t u (top xs).bits) (second xs).bits) line _)
  item_or (steps line t p op before) is r xs bs vs = inr (same_bytes (variable_of (running_of code r) p) (top xs).bits (bytes t) (place_line p) r vs _)
  item_or (increments line t p op before at) is r xs bs vs = let u = promoted t in inr (same_checked (arithmetic_check op u u (converted t u (top xs).bits) 1) line _)
  item_or (shifts line p n) is r xs bs vs = inr (same_bytes (variable_of (running_of code r) p) (second xs).bits (bytes UnsignedLong) (place_line p) r vs _)
  item_or (paces line p n before) is r xs bs vs = inr (same_bytes (variable_of (running_of code r) p) (top xs).bits (bytes UnsignedLong) (place_line p) r vs _)
  item_or (measures line n) is r xs bs vs = inr (same_checked (if object_of (second xs).bits == object_of (top xs).bits then None else Some Pointer) line _)
  item_or (orders line op) is r xs bs vs = inr (same_checked (if object_of (second xs).bits == object_of (top xs).bits then None else Some Pointer) line _)
  item_or (admits line zeroed) is r xs bs vs = inr (same_admission is r xs bs vs line zeroed)
  item_or (draws words size line) is r xs bs vs = inr (same_draw is r xs bs vs words size line)
  item_or (asserts line) is r xs bs vs = inr (same_checked (if is_true (top xs).bits then None else Some Assertion) line _)
  item_or (evaluates_structure a) is r xs bs vs = inr (same_structure is r xs bs vs a)
  item_or (copies p size) is r xs bs vs = inr (same_bytes (variable_of (running_of code r) p) (top xs).bits size (place_line p) r vs _)
  item_or (stores_structure line p) is r xs bs vs = inr (same_put (variable_of (running_of code r) p) (top xs).bits (top_bytes bs) line r vs _)
  item_or (lists parts) is r xs bs vs = inr (same_parts is r xs bs vs parts)
  item_or (runs s) is r xs bs vs = inr (same_statement is r xs bs vs s)
  item_or (enters items) is r xs bs vs = inr (same_entry is r xs bs vs items)
  item_or (goes_on items) is r xs bs vs = inr (same_items is r xs bs vs items)
  item_or (leaves items) is r xs bs vs = inr (same_end is r xs bs vs items)
  item_or (fills words line v offset) is r xs bs vs = inr (same_fill is r xs bs vs words line v offset)
  item_or (settles line v) is r xs bs vs = inr (same_settle is r xs bs vs (home_of (running_of code r) v) line v)
  item_or (initial line v t) is r xs bs vs = inr (same_initial (home_of (running_of code r) v) v (low_bytes (bytes t) (top xs).bits) line r vs _)
  item_or (initial_structure line v) is r xs bs vs = inr (same_initial (home_of (running_of code r) v) v (top_bytes bs) line r vs _)
  item_or (dies line v) is r xs bs vs = inr (same_death is r xs bs vs (home_of (running_of code r) v) line)
  item_or (enters_parameters count v) is r xs bs vs = inr (same_parameters is r xs bs vs count v)
  item_or (leaves_parameters count v) is r xs bs vs = inr (same_last is r xs bs vs count v)
  item_or (gathers want f count args) is r xs bs vs = arguments_or is r xs bs vs want f count args
  item_or (gets want how) is r xs bs vs = inr (same_given is r (values_under how xs) (structures_under how bs) vs want (given_by how xs bs))
  item_or (turns n loop) is r xs bs vs = turn_or is r xs bs vs n loop
  item_or (retests n loop) is r xs bs vs = inr (same_test is r xs bs vs loop.test n loop)
  item_or _ is r xs bs vs = inr refl

  move_or : (s : State) → Passes (move code first true s) ⊎ (move code first true s ≡ move code first false s)
  move_or s = from_or s.items s.active s.values s.structures s.variables
    where
      from_or : (is : List Item) (r : Active) (xs : List TypedNumber) (bs : List (List ℕ)) (vs : Variables)
          → Passes (move_from code first true is r xs bs vs) ⊎ (move_from code first true is r xs bs vs ≡ move_from code first false is r xs bs vs)
      from_or [] r xs bs vs = inr refl
      from_or (i ∷ is) r xs bs vs = item_or i is r xs bs vs

  -- ---- silent steps

  abbrev IsSilent : Move → Type 0
  IsSilent (silent next) = Unit {0}
  IsSilent _ = ⊥

  -- the states that both settle in
  abbrev Settles : State → State → Type 0
  Settles t w = Passes (move code first true t) ⊎ (((t ≡ w) × (move code first true t ≡ move code first false w)) ⊎ IsSilent (move code first false w))

  stays : (n : ℕ) (s : State) (m : Move) → move code first true s ≡ m → IsStill code first m → settled code first true n s ≡ s
  stays zero s m h still = refl
  stays (suc n) s (silent next) h still = absurd still
  stays (suc n) s (asks action line follows) h still = λ i. stepped_on (h i) s (settled code first true n)
  stays (suc n) s (breaks class line) h still = λ i. stepped_on (h i) s (settled code first true n)
  stays (suc n) s blocks h still = λ i. stepped_on (h i) s (settled code first true n)
  stays (suc n) s (ends v) h still = λ i. stepped_on (h i) s (settled code first true n)

  stays_free : (n : ℕ) (s : State) (m : Move) → move code first false s ≡ m → IsStill code first m → settled code first false n s ≡ s
  stays_free zero s m h still = refl
  stays_free (suc n) s (silent next) h still = absurd still
  stays_free (suc n) s (asks action line follows) h still = λ i. stepped_on (h i) s (settled code first false n)
  stays_free (suc n) s (breaks class line) h still = λ i. stepped_on (h i) s (settled code first false n)
  stays_free (suc n) s blocks h still = λ i. stepped_on (h i) s (settled code first false n)
  stays_free (suc n) s (ends v) h still = λ i. stepped_on (h i) s (settled code first false n)

  abbrev Steps : ℕ → ℕ → State → Type 0
  Steps n q s = IsStill code first (move code first true (settled code first true n s)) → Settles (settled code first true n s) (settled code first false q s)

  at_rest : (n q : ℕ) (s : State) (m : Move) → move code first true s ≡ m → move code first false s ≡ m → IsStill code first m → Settles (settled code first true n s) (settled code first false q s)
  at_rest n q s m h g still =
      subst (λ (x : State × State). Settles x.0 x.1) (λ i. (sym (stays n s m h still) i, sym (stays_free q s m g still) i)) (inr (inl (refl, h ∙ sym g)))

  settle_by : (n q : ℕ) (s : State) (m : Move) → move code first true s ≡ m → move code first false s ≡ m → ((k p : ℕ) (t : State) → k < n → Steps k p t) → Steps n q s
  settle_by zero q s (silent next) h g later still = absurd (subst (IsStill code first) h still)
  settle_by (suc n) zero s (silent next) h g later still = inr (inr (subst IsSilent (sym g) tt))
  settle_by (suc n) (suc q) s (silent next) h g later still =
      subst (λ (x : State × State). Settles x.0 x.1) (λ i. (stepped_on (sym h i) s (settled code first true n), stepped_on (sym g i) s (settled code first false q)))
      (later n q next (omega arith) (subst (λ (t : State). IsStill code first (move code first true t)) (λ i. stepped_on (h i) s (settled code first true n)) still))
  settle_by n q s (asks action line follows) h g later still = at_rest n q s (asks action line follows) h g tt
  settle_by n q s (breaks class line) h g later still = at_rest n q s (breaks class line) h g tt
  settle_by n q s blocks h g later still = at_rest n q s blocks h g tt
  settle_by n q s (ends v) h g later still = at_rest n q s (ends v) h g tt

  settle_or : (n q : ℕ) (s : State) → Passes (move code first true s) ⊎ (move code first true s ≡ move code first false s) → ((k p : ℕ) (t : State) → k < n → Steps k p t) → Steps n q s
  settle_or n q s (inl passes) later still =
      inl (subst (λ (t : State). Passes (move code first true t)) (sym (stays n s (breaks passes.0 passes.1) passes.2 tt)) passes)
  settle_or n q s (inr same) later still = settle_by n q s (move code first true s) refl (sym same) later still

  settles_below : (most n q : ℕ) (s : State) → n < most → Steps n q s
  settles_below zero n q s less = absurd (omega (arith, less))
  settles_below (suc most) n q s less = settle_or n q s (move_or s) (λ k p t below. settles_below most k p t (omega (arith, less, below)))

  -- ---- what is next

  broken_next : (r : Active) (m : Move) → Passes m → IsBroken (next_of r m)
  broken_next r m passes = subst (λ (x : Move). IsBroken (next_of r x)) (sym passes.2) tt

  silent_next : (r : Active) (m : Move) → IsSilent m → next_of r m ≡ Blocked
  silent_next r (silent next) h = refl
  silent_next r (asks action line follows) h = absurd h
  silent_next r (breaks class line) h = absurd h
  silent_next r blocks h = absurd h
  silent_next r (ends v) h = absurd h

  module _ (q : ℕ) where
    cut_here : (s : State) (answers : List Answer) → Settles (settled code first true (weight code s) s) (settled code first false q s)
        → ((t : State) (later : List Answer) → length later < length answers → Cut (bounded code first t) (unbounded q code first t) later) → Cut (bounded code first s) (unbounded q code first s) answers
    cut_here s [] (inl passes) more = (let t = settled code first true (weight code s) s in inl (broken_next t.active (move code first true t) passes))
    cut_here s [] (inr (inl same)) more = inr (inl (λ i. next_of (sym same.0 i).active (sym same.1 i)))
    cut_here s [] (inr (inr still)) more = (let w = settled code first false q s in inr (inr (silent_next w.active (move code first false w) still)))
    cut_here s (a ∷ answers) (inl passes) more = (let t = settled code first true (weight code s) s in inl (broken_next t.active (move code first true t) passes))
    cut_here s (a ∷ answers) (inr (inl same)) more =
        let t = settled code first true (weight code s) s in
        let w = settled code first false q s in
        let next : next_of t.active (move code first true t) ≡ next_of w.active (move code first false w) = λ i. next_of (same.0 i).active (same.1 i) in
        let behind : answered_by (move code first true t) a t ≡ answered_by (move code first false w) a w = λ i. answered_by (same.1 i) a (same.0 i) in
        inr (choice_cut (accepts (next_of t.active (move code first true t)) a) (accepts (next_of w.active (move code first false w)) a)
        (bounded code first (answered_by (move code first true t) a t)) (unbounded q code first (answered_by (move code first false w) a w)) answers (λ i. accepts (next i) a)
        (subst (λ (x : State). Cut (bounded code first (answered_by (move code first true t) a t)) (unbounded q code first x) answers) behind (more (answered_by (move code first true t) a t) answers (omega arith))))
    cut_here s (a ∷ answers) (inr (inr still)) more =
        let w = settled code first false q s in
        let none : accepts (next_of w.active (move code first false w)) a ≡ false = λ i. accepts (silent_next w.active (move code first false w) still i) a in
        inr (subst (λ (u : Behaviour). Cut (after (bounded code first s) a) u answers) (λ i later. if sym none i then unbounded q code first (answered_by (move code first false w) a w) later else Blocked) (never (after (bounded code first s) a) answers))

    cuts_below : (most : ℕ) (s : State) (answers : List Answer) → length answers < most → Cut (bounded code first s) (unbounded q code first s) answers
    cuts_below zero s answers less = absurd (omega (arith, less))
    cuts_below (suc most) s answers less =
        let w : weight code s ≤ weight code s = omega arith in
        cut_here s answers (settles_below (suc (weight code s)) (weight code s) q s (omega arith) (settled_still code first (weight code s) s w)) (λ t later below. cuts_below most t later (omega (arith, less, below)))

    pub cuts : (s : State) → Cuts (bounded code first s) (unbounded q code first s)
    cuts s answers = cuts_below (suc (length answers)) s answers (omega arith)

-- ---- runs of one thread

-- thread 0 alone
abbrev one : Common → Counts → Thread → World
one c k t = record { common = c; members = (0, record { thread = t; counts = k }) ∷ [] }

module _ (inputs : InputLists) where
  -- both have moved to states that go together
  record Goes (x y : Turn × World) : Type 0 where
    common : Common
    counts : Counts
    bounded_thread : Thread
    other_thread : Thread
    first_is : x ≡ (turned.Moved, one common counts bounded_thread)
    second_is : y ≡ (turned.Moved, one common counts other_thread)
    cut : Cuts bounded_thread.behaves other_thread.behaves
    quiet : Quietly bounded_thread.behaves

  -- a turn of the first breaks a check; or nothing changes in the second; or both go on
  abbrev Turned : World → Turn × World → Turn × World → Type 0
  Turned w x y = ((check : Check) × (x.0 ≡ turned.Broken check)) ⊎ ((y ≡ (turned.Nothing, w)) ⊎ Goes x y)

  module _ (c : Common) (k : Counts) (b u : Thread) (cut : Cuts b.behaves u.behaves) (quiet : Quietly b.behaves) (t : ℕ) (words : List ℕ) (there : is_at (nat_cmp t) 0 ≡ true) where
    abbrev mb : Member
    mb = record { thread = b; counts = k }

    abbrev mu : Member
    mu = record { thread = u; counts = k }

    no_child : (m : Member) (a : Answer) (change : Change) (members : List (ℕ × Member)) → IsPlain (moves a change) → with_child m change members ≡ members
    no_child m a (starts n f v) members h = absurd h
    no_child m a keeps members h = refl
    no_child m a _ members h = refl

    told_is : (m n : Member) → with_told ((0, m) ∷ []) t n ≡ (0, n) ∷ []
    told_is m n = λ i. if there i then (0, n) ∷ [] else (0, m) ∷ []

    later : (a : Answer) → (IsBroken (b.behaves []) → ⊥) → Cuts (after b.behaves a) (after u.behaves a)
    later a sound answers = by_cut (cut (a ∷ answers))
      where
        by_cut : Cut b.behaves u.behaves (a ∷ answers) → Cut (after b.behaves a) (after u.behaves a) answers
        by_cut (inl broken) = absurd (sound broken)
        by_cut (inr rest) = rest

    settles_turn : (action : Action) (line f : ℕ) (o : rows.Outcome) → IsPlain o → (IsBroken (b.behaves []) → ⊥)
        → Turned (one c k u) (settled_turn (one c k b) t words mb action line f o) (settled_turn (one c k u) t words mu action line f o)
    settles_turn action line f (breaks_row class) h sound = inl (check_of class line f t, refl)
    settles_turn action line f waits h sound = inr (inl refl)
    settles_turn action line f (moves a change) h sound = inr (inr (record {
      common = moved c t action change;
      counts = (told mb words action a).counts;
      bounded_thread = answered b a;
      other_thread = answered u a;
      first_is = λ i. (turned.Moved, record { common = moved c t action change; members = (no_child mb a change (with_told ((0, mb) ∷ []) t (told mb words action a)) h ∙ told_is mb (told mb words action a)) i });
      second_is = λ i. (turned.Moved, record { common = moved c t action change; members = (no_child mu a change (with_told ((0, mu) ∷ []) t (told mu words action a)) h ∙ told_is mu (told mu words action a)) i });
      cut = later a sound;
      quiet = λ answers. quiet (a ∷ answers);
    }))

    next_turn : (n : Next) → b.behaves [] ≡ n → StartsNone n → Turned (one c k u) (with_next (one c k b) t words mb n) (with_next (one c k u) t words mu n)
    next_turn (Act action line f) is h =
        settles_turn action line f (outcome c t words k action) (plain c t line f words k action h) (λ broken. subst IsBroken is broken)
    next_turn (Ended v) is h = inr (inl refl)
    next_turn Blocked is h = inr (inl refl)
    next_turn (Broken class line f) is h = inl (check_of class line f t, refl)

    broken_turn : (n : Next) → IsBroken n → (check : Check) × ((with_next (one c k b) t words mb n).0 ≡ turned.Broken check)
    broken_turn (Act action line f) h = absurd h
    broken_turn (Ended v) h = absurd h
    broken_turn Blocked h = absurd h
    broken_turn (Broken class line f) h = (check_of class line f t, refl)

    member_turn : Cut b.behaves u.behaves [] → Turned (one c k u) (with_next (one c k b) t words mb (b.behaves [])) (with_next (one c k u) t words mu (u.behaves []))
    member_turn (inl broken) = inl (broken_turn (b.behaves []) broken)
    member_turn (inr (inl same)) =
        subst (λ (n : Next). Turned (one c k u) (with_next (one c k b) t words mb (b.behaves [])) (with_next (one c k u) t words mu n)) (sym same) (next_turn (b.behaves []) refl (quiet []))
    member_turn (inr (inr blocked)) =
        subst (λ (n : Next). Turned (one c k u) (with_next (one c k b) t words mb (b.behaves [])) (with_next (one c k u) t words mu n)) (sym blocked) (inr (inl refl))

  module _ (c : Common) (k : Counts) (b u : Thread) (cut : Cuts b.behaves u.behaves) (quiet : Quietly b.behaves) (t : ℕ) where
    there_turn : (z : Bool) → is_at (nat_cmp t) 0 ≡ z
        → Turned (one c k u) (with_member (one c k b) t (words_of inputs t) (if z then Some (record { thread = b; counts = k }) else None)) (with_member (one c k u) t (words_of inputs t) (if z then Some (record { thread = u; counts = k }) else None))
    there_turn true h = member_turn c k b u cut quiet t (words_of inputs t) h (cut [])
    there_turn false h = inr (inl refl)

    may_turn : (z : Bool)
        → Turned (one c k u) (if z then with_member (one c k b) t (words_of inputs t) (member_at (one c k b).members t) else (turned.Nothing, one c k b)) (if z then with_member (one c k u) t (words_of inputs t) (member_at (one c k u).members t) else (turned.Nothing, one c k u))
    may_turn true = there_turn (is_at (nat_cmp t) 0) refl
    may_turn false = inr (inl refl)

    one_turn : Turned (one c k u) (turn (one c k b) t inputs) (turn (one c k u) t inputs)
    one_turn = may_turn (may_move c t)

  abbrev SafeFor : World → Type 0
  SafeFor w = (schedule : List ℕ) → (run w inputs schedule).0 ≡ ending.Fine

  after_turn : (x : Turn × World) (check : Check) (go : World → Outcome × World) → x.0 ≡ turned.Broken check → (unless_broken x.0 x.1 go).0 ≡ ending.Broken check
  after_turn x check go broken = λ i. (unless_broken (broken i) x.1 go).0

  module _ (t : ℕ) (schedule : List ℕ) (c : Common) (k : Counts) (b u : Thread) (safe : SafeFor (one c k b))
      (stays : (run (one c k u) inputs schedule).0 ≡ ending.Fine)
      (goes_on : (next : Common) (counts : Counts) (b' u' : Thread) → Cuts b'.behaves u'.behaves → Quietly b'.behaves → SafeFor (one next counts b') → (run (one next counts u') inputs schedule).0 ≡ ending.Fine) where
    by_turn : Turned (one c k u) (turn (one c k b) t inputs) (turn (one c k u) t inputs) → (run (one c k u) inputs (t ∷ schedule)).0 ≡ ending.Fine
    by_turn (inl broken) =
        let one_only : (run (one c k b) inputs (t ∷ [])).0 ≡ ending.Broken broken.0 = after_turn (turn (one c k b) t inputs) broken.0 (λ n. run n inputs []) broken.1 in
        let both : ending.Broken broken.0 ≡ ending.Fine = sym one_only ∙ safe (t ∷ []) in
        absurd (cc)
    by_turn (inr (inl nothing_done)) = (λ i. (unless_broken (nothing_done i).0 (nothing_done i).1 (λ n. run n inputs schedule)).0) ∙ stays
    by_turn (inr (inr goes)) =
        let next : SafeFor (one goes.common goes.counts goes.bounded_thread) =
        λ rest. (λ i. (unless_broken (sym goes.first_is i).0 (sym goes.first_is i).1 (λ n. run n inputs rest)).0) ∙ safe (t ∷ rest) in
        (λ i. (unless_broken (goes.second_is i).0 (goes.second_is i).1 (λ n. run n inputs schedule)).0)
        ∙ goes_on goes.common goes.counts goes.bounded_thread goes.other_thread goes.cut goes.quiet next

  pub safe_run : (schedule : List ℕ) (c : Common) (k : Counts) (b u : Thread) → Cuts b.behaves u.behaves → Quietly b.behaves → SafeFor (one c k b) → (run (one c k u) inputs schedule).0 ≡ ending.Fine
  safe_run [] c k b u cut quiet safe = refl
  safe_run (t ∷ schedule) c k b u cut quiet safe =
      by_turn t schedule c k b u safe (safe_run schedule c k b u cut quiet safe) (safe_run schedule) (one_turn c k b u cut quiet t)

-- ---- files

pub same_cuts : (b : Behaviour) (answers : List Answer) → Cut b b answers
same_cuts b [] = inr (inl refl)
same_cuts b (a ∷ answers) = inr (same_cuts (after b a) answers)

thread_cuts : (file : TypedFile) (limits : Limits) → limits.assertions ≡ true → (q : ℕ) (first : Bool) (n : ℕ) (p : Option Procedure) → Cuts (runs_at file limits first n p) (unlimited_at file limits q first n p)
thread_cuts file limits checked q first n None answers = same_cuts (final (Broken Assertion 1 n)) answers
thread_cuts file limits checked q first n (Some f) answers =
    subst (λ (b : Behaviour). Cut b (unlimited_at file limits q first n (Some f)) answers) (small_steps file limits first n f)
    (cuts (code_of file limits) first checked q (start_state file limits n f.line) answers)

pub safe_at_all : SafeAtAll
safe_at_all file limits checked safe q inputs schedule =
    let main = main_number file.functions in
    safe_run inputs schedule _ _ (source_thread file limits) (unlimited_thread file limits q) (thread_cuts file limits checked q true main (slice_get file.functions main))
    (function_starts_none file limits true main) (safe inputs)
