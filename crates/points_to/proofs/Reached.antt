-- In each state that a run of one thread of code reaches, the numbers of the objects of the store have object places.
use Rattle.std.proofs.Common.{◌≡◌, ◌<◌, ℕ, zero, suc, true, false, List, [], ◌∷◌, ◌++◌, length, Option, Some, None, refl, sym, ◌∙◌, ap, subst, append_assoc, inl, inr}
use Rattle.std.specs.Prelude.{◌⊎◌}
use Rattle.words.specs.declared.check.Check.{Check}
use Rattle.actions.specs.Pointer.{object_of}
use Rattle.actions.specs.StoredObject.{as_dead}
use Rattle.actions.specs.Objects.{Objects, with_bytes_at}
use Rattle.actions.specs.Memory.{keeps, kills, changed}
use Rattle.actions.specs.Row.{Outcome, breaks, waits, moves}
use Rattle.actions.specs.Table.{mode_of, plain}
use Rattle.actions.specs.declared.action.Action.{Action}
use Rattle.actions.specs.declared.action.Action.TheVariants as actions
use Rattle.actions.specs.declared.action.Answer.{Answer}
use Rattle.actions.specs.declared.action.Answer.TheVariants as answers
use Rattle.actions.specs.declared.action.Next.{Next}
use Rattle.actions.specs.declared.action.Next.TheVariants.{Act, Ended, Blocked, Broken}
use Rattle.actions.specs.Behaviour.{Behaviour, Program, after}
use Rattle.interleave.specs.declared.counts.Counts.{Counts}
use Rattle.interleave.specs.declared.turn.Turn.{Turn}
use Rattle.interleave.specs.declared.turn.Turn.TheVariants as turned
use Rattle.interleave.specs.Inputs.{InputLists, words_of}
use Rattle.interleave.specs.Own.{counted}
use Rattle.interleave.specs.World.{World, first_world, no_counts}
use Rattle.interleave.specs.Turn.{turn, check_of}
use Rattle.interleave.specs.Run.{run, unless_broken}
use Rattle.goto_prog.specs.declared.code.Instruction.{Instruction}
use Rattle.goto_prog.specs.CodeThread.{first_memory}
use Rattle.goto_prog.specs.Flat.{Flat, main_code, plain_thread}
use Rattle.event_forms.specs.Accesses.{AreFirst, memory_of}
use Rattle.event_forms.specs.Happenings.{Happening, does, fails, happens, happened, before}
use Rattle.event_forms.proofs.Quiet.{outcome_with, read_cases, write_cases, look_cases, die_cases, free_cases, IsOfObjects}
use Rattle.event_forms.proofs.Alone.{alone, over, other_turn, other_happens, own_turn, own_happens, exit_turn, own, act_turn, act_happens, behind_it, moves_on, first_happens}
use Rattle.points_to.specs.Sets.{instructions_of, place_next, pointers_in, object_places, answers_in, has_member, AreSets}
use Rattle.points_to.proofs.Readings.{IsAt, NextIsAt, Agree, readings_agree}
use Rattle.points_to.proofs.Ranks.{pointer_below}
use Rattle.points_to.proofs.Placed.{none_behind, Good, IsPlaced, number_of, placed, other_good, new_good, changed_good, first_good}

module _ (u : Flat) where
  abbrev code : List Instruction
  code = instructions_of u

  -- ---- the store behind an action

  -- it doesn't wait and changes objects alone, and what was true of the numbers is true behind its answer
  abbrev Leaves : List Answer → Objects → Outcome → Type 0
  Leaves given objects (breaks class) = Unit {0}
  Leaves given objects waits = ⊥
  Leaves given objects (moves a change) = IsOfObjects change × Good u (given ++ a ∷ []) (changed (memory_of objects) change).objects

  module _ (given : List Answer) (objects : Objects) (good : Good u given objects) where
    killed : (k : ℕ) → Leaves given objects (moves answers.Done (kills k))
    killed k = (tt, other_good u given answers.Done tt _ (changed_good u given k objects as_dead good))

    same : (a : Answer) → Good u (given ++ a ∷ []) objects → Leaves given objects (moves a keeps)
    same a h = (tt, h)

    leaves : (action : Action) → IsAt code action (place_next u given) → (number : ℕ) → Leaves given objects (outcome_with objects number action)
    leaves (actions.Read p n) is number = read_cases objects (Leaves given objects) p n (λ class. tt) (λ fine. same _ (other_good u given _ tt objects good)) number
    leaves (actions.Write p bytes first) is number =
        write_cases objects (Leaves given objects) p bytes first (λ class. tt) (tt, other_good u given answers.Done tt _ (changed_good u given (object_of p) objects (with_bytes_at _ bytes) good)) number
    leaves (actions.Look p subscript) is number = look_cases objects (Leaves given objects) p subscript (λ class. tt) (λ size fine. same _ (other_good u given (answers.Size size) tt objects good)) number
    leaves (actions.Draw bits) is number = same _ (other_good u given _ tt objects good)
    leaves (actions.Alloc o) is number = (tt, new_good u given number objects _ is good)
    leaves (actions.Die k) is number = die_cases objects (Leaves given objects) k (same _ (other_good u given answers.Done tt objects good)) (killed k) number
    leaves (actions.Free p) is number = free_cases objects (Leaves given objects) p (same _ (other_good u given answers.Done tt objects good)) (λ class. tt) (killed (object_of p)) number
    leaves actions.Exit is number = same _ (other_good u given answers.Done tt objects good)
    leaves _ is number = absurd is

  mode_is : (action : Action) (place : Option ℕ) → IsAt code action place → (mode_of action ≡ plain) ⊎ (action ≡ actions.Exit)
  mode_is (actions.Read p n) place is = inl refl
  mode_is (actions.Write p bytes first) place is = inl refl
  mode_is (actions.Look p subscript) place is = inl refl
  mode_is (actions.Draw bits) place is = inl refl
  mode_is (actions.Alloc o) place is = inl refl
  mode_is (actions.Die k) place is = inl refl
  mode_is (actions.Free p) place is = inl refl
  mode_is actions.Exit place is = inr refl
  mode_is _ place is = absurd is

  -- ---- a run

  -- of a state, behind the answers so far and those of what was told
  abbrev Reaches : List Answer → List Happening → World → Type 0
  Reaches given told w = Good u (given ++ answers_in told) w.common.memory.objects

  -- the thread is the code after these answers
  record Kept (given : List Answer) (objects : Objects) (b : Behaviour) : Type 0 where
    good : Good u given objects
    agree : Agree code b (λ later. place_next u (given ++ later))

  module _ (program : Program) (inputs : InputLists) where
    -- a state is reached as well by a run that tells the same and ends in the same state
    as_well : (given : List Answer) (told told' : List Happening) (w w' : World) → told ≡ told' → w ≡ w' → Reaches given told' w' → Reaches given told w
    as_well given told told' w w' telling is h = subst (λ (hs : List Happening). Reaches given hs w) (sym telling) (subst (λ (x : World). Reaches given told' x) (sym is) h)

    nothing_more : (given : List Answer) (objects : Objects) → Good u given objects → Good u (given ++ []) objects
    nothing_more given objects good = subst (λ (g : List Answer). Good u g objects) (sym (none_behind given)) good

    -- once the process has ended
    over_reached : (schedule : List ℕ) (given : List Answer) (objects : Objects) (b : Behaviour) (counts : Counts) → Good u given objects
        → Reaches given (happened (over objects program b counts) inputs schedule) (run (over objects program b counts) inputs schedule).1
    over_reached [] given objects b counts good = nothing_more given objects good
    over_reached (t ∷ schedule) given objects b counts good = over_reached schedule given objects b counts good

    module _ (schedule : List ℕ)
        (later : (given : List Answer) (objects : Objects) (b : Behaviour) (counts : Counts) → Kept given objects b → Reaches given (happened (alone objects program b counts) inputs schedule) (run (alone objects program b counts) inputs schedule).1) where
      module _ (given : List Answer) (objects : Objects) (b : Behaviour) (counts : Counts) (kept : Kept given objects b) where
        abbrev now : World
        now = alone objects program b counts

        abbrev told_now : List Happening
        told_now = happened now inputs (0 ∷ schedule)

        abbrev then_on : Turn × World → World
        then_on r = (unless_broken r.0 r.1 (λ next. run next inputs schedule)).1

        told_from : (said : Turn) (next : World) (h : Option Happening) → turn now 0 inputs ≡ (said, next) → happens now 0 inputs ≡ h → told_now ≡ before h (happened next inputs schedule)
        told_from said next h turn_is is = first_happens now next inputs 0 schedule said h turn_is is

        abbrev Goal : Type 0
        Goal = Reaches given told_now (run now inputs (0 ∷ schedule)).1

        silent : turn now 0 inputs ≡ (turned.Nothing, now) → happens now 0 inputs ≡ None → Goal
        silent turn_is is = as_well given told_now (happened now inputs schedule) (then_on (turn now 0 inputs)) (run now inputs schedule).1 (told_from turned.Nothing now None turn_is is) (ap then_on turn_is) (later given objects b counts kept)

        broken : (check : Check) → turn now 0 inputs ≡ (turned.Broken check, now) → happens now 0 inputs ≡ Some (fails check) → Goal
        broken check turn_is is = as_well given told_now (fails check ∷ []) (then_on (turn now 0 inputs)) now (told_from (turned.Broken check) now (Some (fails check)) turn_is is) (ap then_on turn_is) (nothing_more given objects kept.good)

        module _ (action : Action) (line f : ℕ) (is : b [] ≡ Act action line f) where
          abbrev ours : ℕ
          ours = own objects program b counts inputs action line f

          at_place : IsAt code action (place_next u given)
          at_place = subst (λ (g : List Answer). IsAt code action (place_next u g)) (none_behind given) (subst (λ (n : Next). NextIsAt code n (place_next u (given ++ []))) is (kept.agree []))

          -- it is given this answer, and the rest of the run follows
          answered_by : (a : Answer) (next : World) → turn now 0 inputs ≡ (turned.Moved, next) → happens now 0 inputs ≡ Some (does 0 action line f a)
              → Reaches (given ++ a ∷ []) (happened next inputs schedule) (run next inputs schedule).1 → Goal
          answered_by a next turn_is happens_is h =
              let told = happened next inputs schedule in
              as_well given told_now (does 0 action line f a ∷ told) (then_on (turn now 0 inputs)) (run next inputs schedule).1 (told_from turned.Moved next (Some (does 0 action line f a)) turn_is happens_is) (ap then_on turn_is)
              (subst (λ (g : List Answer). Good u g (run next inputs schedule).1.common.memory.objects) (append_assoc given (a ∷ []) (answers_in told)) h)

          kept_behind : (a : Answer) (objects' : Objects) → Good u (given ++ a ∷ []) objects' → Kept (given ++ a ∷ []) objects' (after b a)
          kept_behind a objects' good = record {
            good = good;
            agree = λ more. subst (λ (g : List Answer). NextIsAt code (b (a ∷ more)) (place_next u g)) (sym (append_assoc given (a ∷ []) more)) (kept.agree (a ∷ more));
          }

          by_outcome : mode_of action ≡ plain → (o : Outcome) → outcome_with objects ours action ≡ o → Leaves given objects o → Goal
          by_outcome mode (breaks class) comes left =
              broken (check_of class line f 0) (act_turn objects program b counts inputs action line f is (breaks class) comes) (act_happens objects program b counts inputs action line f is (breaks class) comes)
          by_outcome mode waits comes left = absurd left
          by_outcome mode (moves a change) comes left =
              let objects' : Objects = (changed (memory_of objects) change).objects in
              answered_by a (behind_it objects program b counts inputs action line f a change)
              (act_turn objects program b counts inputs action line f is (moves a change) comes ∙ moves_on objects program b counts inputs action line f mode a change left.0)
              (act_happens objects program b counts inputs action line f is (moves a change) comes)
              (later (given ++ a ∷ []) objects' (after b a) (counted (words_of inputs 0) counts action) (kept_behind a objects' left.1))

          by_exit : action ≡ actions.Exit → Goal
          by_exit exits =
              let exit_is : b [] ≡ Act actions.Exit line f = is ∙ ap (λ (x : Action). Act x line f) exits in
              let good = other_good u given answers.Done tt objects kept.good in
              answered_by answers.Done (over objects program (after b answers.Done) counts) (exit_turn objects program b counts inputs line f exit_is)
              (act_happens objects program b counts inputs action line f is (moves answers.Done keeps) (ap (outcome_with objects ours) exits))
              (over_reached schedule (given ++ answers.Done ∷ []) objects (after b answers.Done) counts good)

          by_mode : (mode_of action ≡ plain) ⊎ (action ≡ actions.Exit) → Goal
          by_mode (inl mode) = by_outcome mode (outcome_with objects ours action) refl (leaves given objects kept.good action at_place ours)
          by_mode (inr exits) = by_exit exits

        next_reached : (next : Next) → b [] ≡ next → Goal
        next_reached (Act action line f) is = by_mode action line f is (mode_is action (place_next u given) (at_place action line f is))
        next_reached (Ended v) is = silent (own_turn objects program b counts inputs (Ended v) is) (own_happens objects program b counts inputs (Ended v) is)
        next_reached Blocked is = silent (own_turn objects program b counts inputs Blocked is) (own_happens objects program b counts inputs Blocked is)
        next_reached (Broken class line f) is = broken (check_of class line f 0) (own_turn objects program b counts inputs (Broken class line f) is) (own_happens objects program b counts inputs (Broken class line f) is)

    reached : (schedule : List ℕ) (given : List Answer) (objects : Objects) (b : Behaviour) (counts : Counts) → Kept given objects b
        → Reaches given (happened (alone objects program b counts) inputs schedule) (run (alone objects program b counts) inputs schedule).1
    reached [] given objects b counts kept = nothing_more given objects kept.good
    reached (zero ∷ schedule) given objects b counts kept = next_reached schedule (reached schedule) given objects b counts kept (b []) refl
    reached (suc t ∷ schedule) given objects b counts kept =
        let here = alone objects program b counts in
        let turn_is = other_turn objects program b counts t inputs in
        as_well given (happened here inputs (suc t ∷ schedule)) (happened here inputs schedule) (run here inputs (suc t ∷ schedule)).1 (run here inputs schedule).1
        (first_happens here here inputs (suc t) schedule turned.Nothing None turn_is (other_happens objects program b counts t inputs))
        (ap (λ (r : Turn × World). (unless_broken r.0 r.1 (λ next. run next inputs schedule)).1) turn_is)
        (reached schedule given objects b counts kept)

  start_kept : AreFirst u.store → Kept [] u.store (plain_thread u).behaves
  start_kept first = record { good = first_good u first.numbers; agree = readings_agree false code (first_memory (main_code u)) }

  -- ---- sets of which each has all object places

  pub all_places : (members : ℕ → List ℕ) → ((place k : ℕ) → place < pointers_in code → k < object_places u → has_member (members place) k ≡ true) → AreFirst u.store → AreSets u members
  all_places members all first inputs schedule c place p o at pointer accesses found =
      let given = answers_in (happened (first_world (plain_thread u) u.store) inputs schedule) in
      let objects = (run (first_world (plain_thread u) u.store) inputs schedule).1.common.memory.objects in
      let good : Good u given objects = reached (plain_thread u).program inputs schedule [] u.store (plain_thread u).behaves (record no_counts { objects = length u.store }) (start_kept first) in
      let has = placed u given objects (object_of p) good (number_of (IsPlaced u given) (object_of p) objects o good.numbers found) in
      (has.place, has.is, all place has.place (pointer_below code c place pointer) has.below)
