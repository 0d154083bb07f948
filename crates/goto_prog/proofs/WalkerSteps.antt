-- From a state of a thread to the next.
use Rattle.std.proofs.Common.{◌≡◌, ℕ, zero, suc, ◌+◌, ◌-◌, ◌*◌, ◌<◌, ◌≤◌, Bool, true, false, List, [], ◌∷◌, length, Option, Some, None, refl, sym, ap, ◌∙◌, subst, arith}
use Rattle.std.specs.Prelude.{replicate, slice_get, slice_index, slice_set, option_map, if◌then◌else◌, ◌==◌}
use Rattle.std.proofs.lemmas.Bool.{false≢true}
use Rattle.std.proofs.lemmas.Bool.Decides.{nat_tests}
use Rattle.std.proofs.lemmas.Option.{slice_get-map, slice_get_within, none-some}
use Rattle.std.proofs.lemmas.List.{set_past, length-map}
use Rattle.words.specs.declared.check.Class.TheVariants as classes
use Rattle.core_tree.specs.Ranges.{Limits}
use Rattle.actions.specs.declared.action.Action.{Action}
use Rattle.actions.specs.declared.action.Action.TheVariants.{End, Exit}
use Rattle.actions.specs.declared.action.Answer.{Answer}
use Rattle.actions.specs.declared.action.Next.{Next}
use Rattle.actions.specs.declared.action.Next.TheVariants.{Act, Ended, Broken, Blocked}
use Rattle.actions.specs.Behaviour.{Behaviour, Thread, shape_of, has_shape, accepts, after, answered, word_64}
use Rattle.goto_prog.specs.declared.code.Instruction.{Instruction}
use Rattle.goto_prog.specs.declared.nodes.Procedure.{Procedure}
use Rattle.goto_prog.specs.declared.activation.Received.{Received}
use Rattle.goto_prog.specs.declared.activation.Received.TheVariants as receiveds
use Rattle.goto_prog.specs.declared.walker.Status.{Status}
use Rattle.goto_prog.specs.declared.walker.Status.TheVariants as statuses
use Rattle.goto_prog.specs.Meaning.{Given, arguments_of, received}
use Rattle.goto_prog.specs.Threads.{Calls, acting, ask, final}
use Rattle.goto_prog.specs.Nodes.{Routine, view_procedure, view_procedures, routine_fits, routines_fit}
use Rattle.goto_prog.proofs.Registers.{both}
use Rattle.goto_prog.specs.Running.{is_act}
use Rattle.goto_prog.specs.Structured.{first_left, first_fuel, leaves, runs_at, function_thread, Bounded, passed, enters, opened, activation, leaves_with, value_of, bounded_program}
use Rattle.goto_prog.specs.Walking.{Activation, does, does_from, place_weight, entry, stepped_over, GoesOn, GoesOnWith, Stops, StopsOn, StepsOn, CallsFunction, HandsOver, IsReceived, lone_on}
use Rattle.goto_prog.specs.Walks.{total, Waiting, Walk, bounded, calls_with, closed, hands_to, ends_of, status_behind, top_on, does_by, walks, thread_of, entry_weight, call_weight, calls_weight, waiting_weight, weight_by, weight, IsHalted, Steps}

-- ---- counts of activations

pub set_back : (left : List ℕ) (f x : ℕ) → slice_set (slice_set left f x) f (slice_index left f) ≡ left
set_back [] f x = refl
set_back (y ∷ left) zero x = refl
set_back (y ∷ left) (suc f) x = ap (λ ys. y ∷ ys) (set_back left f x)

pub sum_opened : (left : List ℕ) (f : ℕ) → 0 < slice_index left f → total left ≡ suc (total (opened left f))
sum_opened [] f more = absurd (omega (arith, more))
sum_opened (y ∷ left) zero more = omega (arith, more)
sum_opened (y ∷ left) (suc f) more = omega (arith, sum_opened left f more)

some_left : (n : ℕ) → 0 < n → (n == 0) ≡ false
some_left n more = grind (arith, nat_tests)

-- ---- steps of a thread that runs

module _ (w : Walk) (running : w.status ≡ statuses.Running) where
  abbrev b : Bounded
  b = bounded w

  abbrev hands : Given → Behaviour
  hands = hands_to b (ends_of w) w.left w.below

  walks_top : walks w ≡ does b (calls_with b w.left) hands w.top
  walks_top = ap (λ s. does_by s w) running

  weight_top : weight w ≡ place_weight b (calls_weight b w.left) w.top.place + waiting_weight b w.left w.below
  weight_top = ap (λ s. weight_by s w) running

  same_thread : (new : Behaviour) → new ≡ does b (calls_with b w.left) hands w.top → (let t : Thread = record { behaves = new; program = bounded_program b } in t ≡ thread_of w)
  same_thread new same = λ k. record { behaves = (same ∙ sym walks_top) k; program = bounded_program b }

  pub walk_goes : (top : Activation) → GoesOn b w.top top → Steps w (record w { top = top }) None
  walk_goes top goes = (
    same_thread (walks (record w { top = top })) (ap (λ s. does_by s (record w { top = top })) running ∙ goes.same (calls_with b w.left) hands),
    omega (arith, weight_top, ap (λ s. weight_by s (record w { top = top })) running, goes.falls (calls_weight b w.left)),
  )

  pub walk_stops : (next : Next) → Stops b w.top w.top next → Steps w w (Some next)
  walk_stops next stops =
      (refl, stops.next_is (calls_with b w.left) hands ∙ sym (λ k. walks_top k []), subst (λ s. IsHalted s w next) (sym running) (λ act. record { next_is = stops.next_is; acting = stops.acting }))

  no_act : (next : Next) → is_act next ≡ false → IsHalted w.status w next
  no_act next none = subst (λ s. IsHalted s w next) (sym running) (λ act. absurd (false≢true (sym none ∙ act)))

  bound_act : (s : Bool) (line f : ℕ) → is_act (if s then Broken classes.Recursion line f else Blocked) ≡ false
  bound_act true line f = refl
  bound_act false line f = refl

  -- ---- calls

  module _ (i : Instruction) (f first count into returned : ℕ) (calls : CallsFunction b w.top i f first count into returned) where
    abbrev arguments : List (List ℕ)
    arguments = arguments_of w.top.working.memory.blocks first count

    abbrev follows : Given → Behaviour
    follows given = does_from b (acting (calls_with b w.left) hands) (stepped_over w.top).place (received w.top.working.memory into returned given)

    called : walks w ≡ calls_with b w.left i.function f i.line arguments follows
    called = walks_top ∙ calls.same (calls_with b w.left) hands

    passed_final : (s : Bool) (x y : Next) → (if s then final x else final y) ≡ final (if s then x else y)
    passed_final true x y = refl
    passed_final false x y = refl

    by_test : (t : Bool) (x y : Behaviour) → t ≡ true → (if t then x else y) ≡ x
    by_test t x y h = λ k. if h k then x else y

    by_other : (t : Bool) (x y : Behaviour) → t ≡ false → (if t then x else y) ≡ y
    by_other t x y h = λ k. if h k then x else y

    abbrev entering : Option Routine → Behaviour
    entering p = enters b p (activation b (total w.left) (opened w.left f)) arguments follows

    pub past_bound : slice_index w.left f ≡ 0 → walks w ≡ final (if w.limits.assertions then Broken classes.Recursion i.line i.function else Blocked)
    past_bound none =
        called
        ∙ by_test (slice_index w.left f == 0) (passed w.limits.assertions classes.Recursion i.line i.function) (entering (slice_get b.functions f)) (ap (λ n. n == 0) none)
        ∙ passed_final w.limits.assertions (Broken classes.Recursion i.line i.function) Blocked

    pub walk_passed : slice_index w.left f ≡ 0 → Steps w w (Some (if w.limits.assertions then Broken classes.Recursion i.line i.function else Blocked))
    walk_passed none = (refl, sym (λ k. past_bound none k []), no_act _ (bound_act w.limits.assertions i.line i.function))

    is_entering : 0 < slice_index w.left f → walks w ≡ entering (slice_get b.functions f)
    is_entering more = called ∙ by_other (slice_index w.left f == 0) (passed w.limits.assertions classes.Recursion i.line i.function) (entering (slice_get b.functions f)) (some_left (slice_index w.left f) more)

    pub nowhere : 0 < slice_index w.left f → slice_get b.functions f ≡ None → walks w ≡ final Blocked
    nowhere more none = is_entering more ∙ ap entering none

    pub walk_blocked : 0 < slice_index w.left f → slice_get b.functions f ≡ None → Steps w w (Some Blocked)
    walk_blocked more none = (refl, sym (λ k. nowhere more none k []), no_act Blocked refl)

    -- the callee runs, and the caller waits
    module _ (p : Procedure) (more : 0 < slice_index w.left f) (found : slice_get b.functions f ≡ Some (view_procedure p)) where
      abbrev waiting : Waiting
      waiting = record { activation = stepped_over w.top; function = f; count = slice_index w.left f; into = into; returned = returned }

      abbrev new : Walk
      new = record w { left = opened w.left f; top = entry p arguments; below = waiting ∷ w.below }

      back : closed (opened w.left f) waiting ≡ w.left
      back = set_back w.left f (slice_index w.left f - 1)

      abbrev handed : List ℕ → Given → Behaviour
      handed now given = does_from b (acting (calls_with b now) (hands_to b (ends_of w) now w.below)) (stepped_over w.top).place (received w.top.working.memory into returned given)

      entered : walks new ≡ walks w
      entered =
          ap (λ s. does_by s new) running
          ∙ ap (λ (now : List ℕ). does b (calls_with b (opened w.left f)) (handed now) (entry p arguments)) back
          ∙ ap (λ n. enters b (Some (view_procedure p)) (activation b n (opened w.left f)) arguments follows) (sym (sum_opened w.left f more))
          ∙ sym (ap entering found) ∙ sym (is_entering more)

      abbrev opened_weight : ℕ → ℕ
      opened_weight n = entry_weight b (call_weight b n (opened w.left f)) (Some (view_procedure p))

      by_left : (t : Bool) (x : ℕ) → t ≡ false → (if t then 0 else x) ≡ x
      by_left t x h = λ k. if h k then 0 else x

      call_weighs : calls_weight b w.left f ≡ opened_weight (suc (total (opened w.left f)))
      call_weighs =
          by_left (slice_index w.left f == 0) (entry_weight b (call_weight b (total w.left) (opened w.left f)) (slice_get b.functions f)) (some_left (slice_index w.left f) more)
          ∙ ap (entry_weight b (call_weight b (total w.left) (opened w.left f))) found
          ∙ ap opened_weight (sum_opened w.left f more)

      new_weight : weight new ≡ opened_weight (suc (total (opened w.left f))) + (place_weight b (calls_weight b w.left) (stepped_over w.top).place + waiting_weight b w.left w.below)
      new_weight =
          ap (λ s. weight_by s new) running
          ∙ ap (λ (now : List ℕ). opened_weight (suc (total (opened w.left f))) + (place_weight b (calls_weight b now) (stepped_over w.top).place + waiting_weight b now w.below)) back

      pub walk_enters : Steps w new None
      walk_enters = (
        (λ k. record { behaves = entered k; program = bounded_program b }),
        omega (arith, new_weight, weight_top, call_weighs, calls.falls (calls_weight b w.left)),
      )

  -- ---- the end of a function

  module _ (given : Given) (over : HandsOver b w.top given) where
    pub walk_leaves : w.below ≡ [] → Steps w (record w { status = statuses.Leaving (value_of given) }) None
    walk_leaves none = (
      same_thread (leaves_with w.first w.number w.line (value_of given)) (sym (over.same (calls_with b w.left) hands ∙ ap (λ (ws : List Waiting). hands_to b (ends_of w) w.left ws given) none)),
      omega (arith, weight_top, over.falls (calls_weight b w.left)),
    )

    pub walk_returns : (v : Waiting) (ws : List Waiting) → w.below ≡ v ∷ ws
        → Steps w (record w { left = closed w.left v; top = record { place = v.activation.place; working = record v.activation.working { memory = received v.activation.working.memory v.into v.returned given } }; below = ws }) None
    walk_returns v ws is =
        let new = record w { left = closed w.left v; top = record { place = v.activation.place; working = record v.activation.working { memory = received v.activation.working.memory v.into v.returned given } }; below = ws } in (
          same_thread (walks new)
              (ap (λ s. does_by s new) running
              ∙ sym (over.same (calls_with b w.left) hands ∙ ap (λ (xs : List Waiting). hands_to b (ends_of w) w.left xs given) is)),
          omega (arith, weight_top, ap (λ s. weight_by s new) running, ap (λ (xs : List Waiting). waiting_weight b w.left xs) is, over.falls (calls_weight b w.left)),
        )

-- ---- steps and answers where some words of the instruction on top have been drawn

module _ (w : Walk) (words : ℕ) where
  abbrev bs : Bounded
  bs = bounded w

  pub draws_stop : (next : Next) → w.status ≡ statuses.Drawing words → StopsOn bs words w.top next → Steps w w (Some next)
  draws_stop next is stops = (
    refl,
    stops.next_is (calls_with bs w.left) (hands_to bs (ends_of w) w.left w.below) ∙ sym (λ k. (ap (λ s. does_by s w) is) k []),
    subst (λ s. IsHalted s w next) (sym is) (λ act. stops),
  )

  pub draws_go : (top : Activation) → w.status ≡ statuses.Drawing words → GoesOnWith bs words w.top top → Steps w (record w { top = top; status = statuses.Running }) None
  draws_go top is goes = (
    (λ k. record { behaves = (goes.same (calls_with bs w.left) (hands_to bs (ends_of w) w.left w.below) ∙ sym (ap (λ s. does_by s w) is)) k; program = bounded_program bs }),
    omega (arith, ap (λ s. weight_by s w) is, goes.falls (calls_weight bs w.left)),
  )

  pub draws_on_stop : (new : Walk) (result : Option Next) (n : Next) → w.status ≡ statuses.Drawing words → StepsOn bs words w.top new.top result → new ≡ record w { top = new.top } → result ≡ Some n → Steps w new (Some n)
  draws_on_stop new result n is steps others some =
      let s = subst (λ (r : Option Next). StepsOn bs words w.top new.top r) some steps in
      subst (λ (x : Walk). Steps w x (Some n)) (sym (others ∙ ap (λ (a : Activation). record w { top = a }) s.0)) (draws_stop n is s.1)

  pub draws_on_go : (new : Walk) (result : Option Next) → w.status ≡ statuses.Drawing words → StepsOn bs words w.top new.top result → new ≡ record w { top = new.top } → result ≡ None → Steps w (record new { status = statuses.Running }) None
  draws_on_go new result is steps others none =
      let s = subst (λ (r : Option Next). StepsOn bs words w.top new.top r) none steps in
      subst (λ (x : Walk). Steps w (record x { status = statuses.Running }) None) (sym others) (draws_go new.top is s)

  pub allowed_top : (next : Next) (x : Answer) → StopsOn bs words w.top next → accepts next x ≡ true → accepts (lone_on bs words w.top []) x ≡ true
  allowed_top next x stops ok = subst (λ (n : Next). accepts n x ≡ true) (stops.next_is (λ caller f line arguments follows. final Blocked) (λ given. final Blocked)) ok

  module _ (stands : walks w ≡ top_on w words) (top : Activation) (x : Answer) where
    answered_by : (status : Status) → does_by status (record w { top = top; status = status }) ≡ after (top_on w words) x → thread_of (record w { top = top; status = status }) ≡ answered (thread_of w) x
    answered_by status same = λ k. record { behaves = (same ∙ sym (ap (λ (y : Behaviour). after y x) stands)) k; program = bounded_program bs }

    pub walk_receives : IsReceived bs words w.top top x receiveds.GoesOn → thread_of (record w { top = top; status = statuses.Running }) ≡ answered (thread_of w) x
    walk_receives is = answered_by statuses.Running (is (calls_with bs w.left) (hands_to bs (ends_of w) w.left w.below))

    pub walk_draws : (more : ℕ) → IsReceived bs words w.top top x (receiveds.Draws more) → thread_of (record w { top = top; status = statuses.Drawing more }) ≡ answered (thread_of w) x
    walk_draws more is = answered_by (statuses.Drawing more) (is (calls_with bs w.left) (hands_to bs (ends_of w) w.left w.below))

    pub walk_ends : IsReceived bs words w.top top x receiveds.Ends → thread_of (record w { top = top; status = statuses.Over 0 }) ≡ answered (thread_of w) x
    walk_ends is = answered_by (statuses.Over 0) (is (calls_with bs w.left) (hands_to bs (ends_of w) w.left w.below))

    pub walk_received : (r : Received) → IsReceived bs words w.top top x r → thread_of (record w { top = top; status = status_behind r }) ≡ answered (thread_of w) x
    walk_received receiveds.GoesOn is = walk_receives is
    walk_received (receiveds.Draws more) is = walk_draws more is
    walk_received receiveds.Ends is = walk_ends is

pub stands_running : (w : Walk) → w.status ≡ statuses.Running → walks w ≡ top_on w 0
stands_running w is = ap (λ s. does_by s w) is

pub stands_drawing : (w : Walk) (words : ℕ) → w.status ≡ statuses.Drawing words → walks w ≡ top_on w words
stands_drawing w words is = ap (λ s. does_by s w) is

pub halted_running : (w : Walk) (next : Next) → w.status ≡ statuses.Running → IsHalted w.status w next → is_act next ≡ true → StopsOn (bounded w) 0 w.top next
halted_running w next is halted = subst (λ s. IsHalted s w next) is halted

pub halted_drawing : (w : Walk) (words : ℕ) (next : Next) → w.status ≡ statuses.Drawing words → IsHalted w.status w next → is_act next ≡ true → StopsOn (bounded w) words w.top next
halted_drawing w words next is halted = subst (λ s. IsHalted s w next) is halted

-- ---- the end of a thread

pub leaving_stops : (w : Walk) (v : ℕ) → w.status ≡ statuses.Leaving v → Steps w w (Some (Act (if w.first then Exit else End v) w.line w.number))
leaving_stops w v is = (refl, sym (λ k. (ap (λ s. does_by s w) is) k []), subst (λ s. IsHalted s w (Act (if w.first then Exit else End v) w.line w.number)) (sym is) tt)

pub over_stops : (w : Walk) (v : ℕ) → w.status ≡ statuses.Over v → Steps w w (Some (Ended (word_64 v)))
over_stops w v is = (refl, sym (λ k. (ap (λ s. does_by s w) is) k []), subst (λ s. IsHalted s w (Ended (word_64 v))) (sym is) tt)

taken : (action : Action) (line f : ℕ) (follows : Answer → Behaviour) (a : Answer) (t : Bool) → has_shape (shape_of action) a ≡ t → t ≡ true → (λ answers. ask action line f follows (a ∷ answers)) ≡ follows a
taken action line f follows a t same holds = λ k answers. if (same ∙ holds) k then follows a answers else Blocked

pub walk_left : (w : Walk) (v : ℕ) (x : Answer) (next : Next) → w.status ≡ statuses.Leaving v → next ≡ walks w [] → accepts next x ≡ true
    → thread_of (record w { status = statuses.Over (if w.first then 0 else v) }) ≡ answered (thread_of w) x
walk_left w v x next is says ok =
    let action : Action = if w.first then Exit else End v in
    let shape : has_shape (shape_of action) x ≡ true = subst (λ (n : Next). accepts n x ≡ true) (says ∙ (λ k. (ap (λ s. does_by s w) is) k [])) ok in
    let same = sym (taken action w.line w.number (λ a. final (Ended (word_64 (if w.first then 0 else v)))) x true shape refl) ∙ sym (ap (λ s. after (does_by s w) x) is) in
    λ k. record { behaves = same k; program = bounded_program (bounded w) }

pub over_takes_none : (w : Walk) (v : ℕ) (x : Answer) (next : Next) → w.status ≡ statuses.Over v → next ≡ walks w [] → accepts next x ≡ true → ⊥
over_takes_none w v x next is says ok = false≢true (subst (λ (n : Next). accepts n x ≡ true) (says ∙ (λ k. (ap (λ s. does_by s w) is) k [])) ok)

-- ---- the start of a thread

total_same : (n k : ℕ) → total (replicate n k) ≡ n * k
total_same zero k = omega arith
total_same (suc n) k = omega (arith, total_same n k)

index_same : (n k f : ℕ) → f < n → slice_index (replicate n k) f ≡ k
index_same zero k f lt = absurd (omega (arith, lt))
index_same (suc n) k zero lt = refl
index_same (suc n) k (suc f) lt = index_same n k f (omega (arith, lt))

by_other_than : (t : Bool) (x y : Behaviour) → t ≡ false → (if t then x else y) ≡ y
by_other_than t x y h = λ k. if h k then x else y

-- a thread at the start of a function
abbrev pub starting : Walk → Procedure → ℕ → Walk
starting w p number = record w { number = number; line = p.line; status = statuses.Running; left = opened (first_left (bounded w)) number; top = entry p []; below = [] }

pub walk_starts : (w : Walk) (p : Procedure) (number : ℕ) → 0 < w.limits.unwind → number < length (view_procedures w.functions) → slice_get (view_procedures w.functions) number ≡ Some (view_procedure p)
    → thread_of (starting w p number) ≡ function_thread (bounded w) w.first number
walk_starts w p number positive within found =
    let b = bounded w in
    let ends = leaves w.first number p.line in
    let unwind = b.limits.unwind in
    let n = length b.functions in
    let some : 0 < slice_index (first_left b) number = subst (λ k. 0 < k) (sym (index_same n unwind number within)) positive in
    let fuel : total (first_left b) ≡ suc (total (opened (first_left b) number)) = sum_opened (first_left b) number some in
    let whole : first_fuel b ≡ suc (total (first_left b)) = omega (arith, total_same n unwind) in
    let calls = λ (k : ℕ). activation b k (opened (first_left b) number) in
    let run = ap (runs_at b w.first number) found
    ∙ ap (λ k. activation b k (first_left b) number number p.line [] ends) whole
    ∙ by_other_than (slice_index (first_left b) number == 0) (passed b.limits.assertions classes.Recursion p.line number) (enters b (slice_get b.functions number) (calls (total (first_left b))) [] ends) (some_left (slice_index (first_left b) number) some)
    ∙ ap (λ q. enters b q (calls (total (first_left b))) [] ends) found
    ∙ ap (λ k. enters b (Some (view_procedure p)) (calls k) [] ends) fuel in
    λ k. record { behaves = sym run k; program = bounded_program b }

-- ---- functions by their numbers

pub set_beyond : (xs : List ℕ) (i y : ℕ) → length xs ≤ i → slice_set xs i y ≡ xs
set_beyond xs i y past = set_past xs i y past

or_procedure : Procedure → Option Procedure → Procedure
or_procedure q None = q
or_procedure q (Some p) = p

some_procedure : (q p : Procedure) → Some q ≡ Some p → q ≡ p
unfolding or_procedure
some_procedure q p h = ap (or_procedure q) h

pub fits_found : (ps : List Procedure) (f : ℕ) (p : Procedure) → routines_fit (view_procedures ps) ≡ true → slice_get ps f ≡ Some p → routine_fits (view_procedure p) ≡ true
fits_found [] f p fits found = absurd (none-some p found)
fits_found (q ∷ ps) zero p fits found =
    subst (λ (x : Procedure). routine_fits (view_procedure x) ≡ true) (some_procedure q p found) (both (routine_fits (view_procedure q)) (routines_fit (view_procedures ps)) fits).0
fits_found (q ∷ ps) (suc f) p fits found = fits_found ps f p (both (routine_fits (view_procedure q)) (routines_fit (view_procedures ps)) fits).1 found

pub found_view : (ps : List Procedure) (f : ℕ) (p : Procedure) → slice_get ps f ≡ Some p → slice_get (view_procedures ps) f ≡ Some (view_procedure p)
found_view ps f p found = slice_get-map view_procedure ps f ∙ ap (option_map view_procedure) found

pub none_view : (ps : List Procedure) (f : ℕ) → slice_get ps f ≡ None → slice_get (view_procedures ps) f ≡ None
none_view ps f none = slice_get-map view_procedure ps f ∙ ap (option_map view_procedure) none

-- what a thread at the start of a function is made of
abbrev pub first_walk : Bool → List Procedure → Limits → Bool → (number : ℕ) → Procedure → Walk
first_walk strict functions limits first number p = record {
  strict = strict;
  functions = functions;
  limits = limits;
  first = first;
  number = number;
  line = p.line;
  status = statuses.Running;
  left = slice_set (replicate (length functions) limits.unwind) number (limits.unwind - 1);
  top = entry p [];
  below = [];
}

pub first_walk_starts : (strict : Bool) (functions : List Procedure) (limits : Limits) (first : Bool) (number : ℕ) (p : Procedure) → 0 < limits.unwind → slice_get functions number ≡ Some p
    → (let b : Bounded = record { strict = strict; functions = view_procedures functions; limits = limits } in thread_of (first_walk strict functions limits first number p) ≡ function_thread b first number)
first_walk_starts strict functions limits first number p positive found =
    let w = first_walk strict functions limits first number p in
    let n = length (view_procedures functions) in
    let same : n ≡ length functions = length-map functions view_procedure in
    let within : number < n = subst (λ k. number < k) (sym same) (slice_get_within functions number p found) in
    let left : w.left ≡ opened (first_left (bounded w)) number =
    ap (λ k. slice_set (replicate k limits.unwind) number (limits.unwind - 1)) (sym same)
    ∙ ap (λ k. slice_set (replicate n limits.unwind) number (k - 1)) (sym (index_same n limits.unwind number within)) in
    ap (λ (l : List ℕ). thread_of (record w { left = l })) left ∙ walk_starts w p number positive within (found_view functions number p found)
