-- Each run of the file that breaks a check is a local run of its thread, whose answers are those that the store gives; a run of a valuation that begins with it, or in which the same happens, breaks the check.
use Rattle.std.proofs.Common.{◌≡◌, ◌<◌, ◌+◌, ◌*◌, ◌^◌, ℕ, zero, suc, true, List, [], ◌∷◌, length, Option, Some, None, refl, sym, ◌∙◌, ap, subst, arith, inl, inr}
use Rattle.std.specs.Prelude.{◌&&◌}
use Rattle.words.specs.declared.check.Class.{Class}
use Rattle.words.specs.declared.check.Check.{Check}
use Rattle.words.proofs.Ranges.{low_bits_below}
use Rattle.actions.specs.Objects.{Objects}
use Rattle.actions.specs.Memory.{Change, changed}
use Rattle.actions.specs.Row.{Outcome, breaks, waits, moves}
use Rattle.actions.specs.Table.{mode_of, plain}
use Rattle.actions.specs.declared.action.Action.{Action}
use Rattle.actions.specs.declared.action.Action.TheVariants as actions
use Rattle.actions.specs.declared.action.Answer.{Answer}
use Rattle.actions.specs.declared.action.Answer.TheVariants as answers
use Rattle.actions.specs.declared.action.Next.{Next}
use Rattle.actions.specs.declared.action.Next.TheVariants.{Act, Ended, Blocked, Broken}
use Rattle.actions.specs.Behaviour.{Behaviour, Program, after, accepts, has_shape, shape_of}
use Rattle.actions.specs.LocalRun.{Exchange, IsLocalRun}
use Rattle.interleave.specs.declared.counts.Counts.{Counts}
use Rattle.interleave.specs.declared.turn.Turn.{Turn}
use Rattle.interleave.specs.declared.turn.Turn.TheVariants as turned
use Rattle.interleave.specs.declared.turn.Outcome.{Outcome as Ending}
use Rattle.interleave.specs.declared.turn.Outcome.TheVariants as ending
use Rattle.interleave.specs.Inputs.{InputLists, words_of}
use Rattle.interleave.specs.Own.{next_word, own_part, counted}
use Rattle.interleave.specs.World.{World}
use Rattle.interleave.specs.Turn.{turn, check_of}
use Rattle.interleave.specs.Run.{run, unless_broken}
use Rattle.event_forms.specs.Runs.{Run, stops, asks}
use Rattle.event_forms.specs.Forms.{Begins}
use Rattle.event_forms.specs.Accesses.{memory_of, own_by, outcome_of, class_in, has_answer, objects_behind, access_class, is_given, stored_by, unless, checked, agrees}
use Rattle.event_forms.specs.Happenings.{Happening, does, fails, happens, before, happened, check_in}
use Rattle.event_forms.specs.Turns.{breaks as breaks_run, end_happens, happenings}
use Rattle.event_forms.proofs.Stores.{IsStore}
use Rattle.event_forms.proofs.Quiet.{answer_itself, IsQuietAction, quiet_mode, more, outcome_with, class_own, outcome_own, IsOfObjects, IsPossible, possible, IsNext, own_told, IsSmall, Fits, fits, leaves}
use Rattle.event_forms.proofs.Alone.{alone, other_turn, other_happens, own_turn, own_happens, exit_turn, over_fine, own, act_turn, act_happens, behind_it, moves_on, first_happens}
use Rattle.event_forms.proofs.QuietRuns.{IsEnd, AreEnds, Quiets, quiets_behind}

-- ---- a run of the file that breaks a check is a local run whose answers are what the store gives, and what is next breaks it

-- by itself, or by its access to the store
abbrev pub BreaksNext : Objects → Next → Check → Type 0
BreaksNext objects (Act action line f) check = (class : Class) × ((a : Answer) → access_class objects action a ≡ Some class) × (check_of class line f 0 ≡ check)
BreaksNext objects (Broken class line f) check = check_of class line f 0 ≡ check
BreaksNext objects _ check = ⊥

abbrev pub EndsIn : Objects → List Exchange → Next → Check → Type 0
EndsIn objects [] next check = BreaksNext objects next check
EndsIn objects (x ∷ xs) next check = (access_class objects x.action x.answer ≡ None) × (is_given objects x.action x.answer ≡ true) × EndsIn (stored_by objects x.action x.answer) xs next check

-- what happens in such a run
abbrev pub told_in : List Exchange → Check → List Happening
told_in [] check = fails check ∷ []
told_in (x ∷ xs) check = does 0 x.action x.line x.function x.answer ∷ told_in xs check

pub told_check : (xs : List Exchange) (check : Check) → check_in (told_in xs check) ≡ Some check
told_check [] check = refl
told_check (x ∷ xs) check = told_check xs check

pub record Found (objects : Objects) (b : Behaviour) (check : Check) (told : List Happening) : Type 0 where
  pub exchanges : List Exchange
  pub next : Next
  pub local : IsLocalRun b exchanges next
  pub ends : EndsIn objects exchanges next check
  pub told_is : told ≡ told_in exchanges check

accepted : (b : Behaviour) (action : Action) (line f : ℕ) (a : Answer) → b [] ≡ Act action line f → has_shape (shape_of action) a ≡ true → accepts (b []) a ≡ true
accepted b action line f a is fits_it = ap (λ (n : Next). accepts n a) is ∙ fits_it

found_behind : (objects : Objects) (b : Behaviour) (action : Action) (line f : ℕ) (a : Answer) (check : Check) (told later : List Happening) → b [] ≡ Act action line f → accepts (b []) a ≡ true → access_class objects action a ≡ None
    → is_given objects action a ≡ true → told ≡ does 0 action line f a ∷ later → Found (stored_by objects action a) (after b a) check later → Found objects b check told
found_behind objects b action line f a check told later is ok fine given is_told found =
    record {
      exchanges = record { action = action; line = line; function = f; answer = a } ∷ found.exchanges;
      next = found.next;
      local = (is, ok, found.local);
      ends = (fine, given, found.ends);
      told_is = is_told ∙ ap (λ hs. does 0 action line f a ∷ hs) found.told_is;
    }

-- what is next breaks the check
found_now : (objects : Objects) (b : Behaviour) (next : Next) (check broken : Check) (told : List Happening) → b [] ≡ next → BreaksNext objects next check → told ≡ fails broken ∷ [] → broken ≡ check → Found objects b check told
found_now objects b next check broken told is ends is_told same =
    record { exchanges = []; next = next; local = is; ends = ends; told_is = is_told ∙ ap (λ c. fails c ∷ []) same }

same_check : (first check : Check) → ending.Broken first ≡ ending.Broken check → first ≡ check
same_check first check broke = cc

-- ---- what a state of the run keeps

pub record Kept (objects : Objects) (b : Behaviour) (counts : Counts) : Type 0 where
  pub store : IsStore objects
  pub quiets : Quiets objects b
  pub made : counts.objects ≡ length objects

-- what the thread's own record gives: the next number, and small
own_next : (objects : Objects) (words : List ℕ) (counts : Counts) (action : Action) → IsQuietAction action → counts.objects ≡ length objects → IsNext objects action (own_part 0 words counts action)
own_next objects words counts (actions.Alloc o) quiet made = let same : 0 * 65536 + (counts.objects + 1) ≡ suc (length objects) = omega (arith, made) in same
own_next objects words counts (actions.Read p n) quiet made = tt
own_next objects words counts (actions.Write p bytes first) quiet made = tt
own_next objects words counts (actions.Look p subscript) quiet made = tt
own_next objects words counts (actions.Draw n) quiet made = tt
own_next objects words counts (actions.Die k) quiet made = tt
own_next objects words counts (actions.Free p) quiet made = tt
own_next objects words counts actions.Exit quiet made = tt
own_next objects words counts _ quiet made = absurd quiet

own_small : (objects : Objects) (words : List ℕ) (counts : Counts) (action : Action) → IsQuietAction action → counts.objects ≡ length objects → length objects + more action 0 < 2 ^ 32 → IsSmall action (own_part 0 words counts action)
own_small objects words counts (actions.Alloc o) quiet made room = let small : 0 * 65536 + (counts.objects + 1) < 2 ^ 32 = omega (arith, made, room) in small
own_small objects words counts (actions.Draw n) quiet made room = low_bits_below n (next_word words counts.used)
own_small objects words counts (actions.Read p n) quiet made room = tt
own_small objects words counts (actions.Write p bytes first) quiet made room = tt
own_small objects words counts (actions.Look p subscript) quiet made room = tt
own_small objects words counts (actions.Die k) quiet made room = tt
own_small objects words counts (actions.Free p) quiet made room = tt
own_small objects words counts actions.Exit quiet made room = tt
own_small objects words counts _ quiet made room = absurd quiet

pub made_counted : (words : List ℕ) (counts : Counts) (n : ℕ) (action : Action) → IsQuietAction action → counts.objects ≡ n → (counted words counts action).objects ≡ more action n
made_counted words counts n (actions.Alloc o) quiet made = let same : counts.objects + 1 ≡ suc n = omega (arith, made) in same
made_counted words counts n (actions.Draw k) quiet made = made
made_counted words counts n (actions.Read p k) quiet made = made
made_counted words counts n (actions.Write p bytes first) quiet made = made
made_counted words counts n (actions.Look p subscript) quiet made = made
made_counted words counts n (actions.Die k) quiet made = made
made_counted words counts n (actions.Free p) quiet made = made
made_counted words counts n actions.Exit quiet made = made
made_counted words counts n _ quiet made = absurd quiet

module _ (program : Program) (inputs : InputLists) (check : Check) where
  abbrev words : List ℕ
  words = words_of inputs 0

  abbrev Ends : Objects → Behaviour → Counts → List ℕ → Type 0
  Ends objects b counts schedule = (run (alone objects program b counts) inputs schedule).0 ≡ ending.Broken check

  abbrev told_of : Objects → Behaviour → Counts → List ℕ → List Happening
  told_of objects b counts schedule = happened (alone objects program b counts) inputs schedule

  module _ (schedule : List ℕ) (later : (objects : Objects) (b : Behaviour) (counts : Counts) → Kept objects b counts → Ends objects b counts schedule → Found objects b check (told_of objects b counts schedule)) where
    abbrev goes_on : Turn × World → Ending
    goes_on r = (unless_broken r.0 r.1 (λ next. run next inputs schedule)).0

    module _ (objects : Objects) (b : Behaviour) (counts : Counts) (kept : Kept objects b counts) (broke : Ends objects b counts (0 ∷ schedule)) where
      abbrev now : World
      now = alone objects program b counts

      abbrev told_now : List Happening
      told_now = told_of objects b counts (0 ∷ schedule)

      -- what happens from here on where the turn of thread 0 comes to this
      happens_from : (said : Turn) (next : World) (h : Option Happening) → turn now 0 inputs ≡ (said, next) → happens now 0 inputs ≡ h → told_now ≡ before h (happened next inputs schedule)
      happens_from said next h turn_is is = first_happens now next inputs 0 schedule said h turn_is is

      -- nothing happens
      found_silent : turn now 0 inputs ≡ (turned.Nothing, now) → happens now 0 inputs ≡ None → Found objects b check told_now
      found_silent turn_is is = subst (Found objects b check) (sym (happens_from turned.Nothing now None turn_is is)) (later objects b counts kept (sym (ap goes_on turn_is) ∙ broke))

      -- a check is broken
      found_broken : (next : Next) (its : Check) → b [] ≡ next → turn now 0 inputs ≡ (turned.Broken its, now) → happens now 0 inputs ≡ Some (fails its) → (its ≡ check → BreaksNext objects next check) → Found objects b check told_now
      found_broken next its is turn_is happens_is breaks_it =
          let same = same_check its check (sym (ap goes_on turn_is) ∙ broke) in
          found_now objects b next check its told_now is (breaks_it same) (happens_from (turned.Broken its) now (Some (fails its)) turn_is happens_is) same

      module _ (action : Action) (line f : ℕ) (is : b [] ≡ Act action line f) where
        abbrev ours : ℕ
        ours = own objects program b counts inputs action line f

        quiet : IsQuietAction action
        quiet = kept.quiets.quiet [] (Act action line f) is

        next_number : IsNext objects action ours
        next_number = own_next objects words counts action quiet kept.made

        -- it moves with this answer
        found_moved : mode_of action ≡ plain → (a : Answer) (change : Change) → outcome_with objects ours action ≡ moves a change → IsOfObjects change → Found objects b check told_now
        found_moved mode a change comes of =
            let same : outcome_of objects action a ≡ moves a change = sym (outcome_own objects action quiet ours (own_by objects a) (own_told objects action quiet ours next_number a change comes)) ∙ comes in
            let fits_it : has_shape (shape_of action) a ≡ true =
            subst (Fits action) comes (fits objects action quiet kept.store ours (own_small objects words counts action quiet kept.made (kept.quiets.room [] (Act action line f) is))) in
            let left = subst (λ (o : Outcome). IsStore (objects_behind o objects) × (length (objects_behind o objects) ≡ more action (length objects))) comes (leaves objects action quiet kept.store ours next_number) in
            let behind : Objects = (changed (memory_of objects) change).objects in
            let counts_behind : Counts = counted words counts action in
            let ok = accepted b action line f a is fits_it in
            let turn_is : turn now 0 inputs ≡ (turned.Moved, behind_it objects program b counts inputs action line f a change) =
            act_turn objects program b counts inputs action line f is (moves a change) comes ∙ moves_on objects program b counts inputs action line f mode a change of in
            let happens_is = act_happens objects program b counts inputs action line f is (moves a change) comes in
            let stored : stored_by objects action a ≡ behind = ap (λ (o : Outcome). objects_behind o objects) same in
            let kept_behind : Kept behind (after b a) counts_behind = record {
              store = left.0;
              quiets = quiets_behind objects behind b action line f a is ok left.1 kept.quiets;
              made = made_counted words counts (length objects) action quiet kept.made ∙ sym left.1;
            } in
            found_behind objects b action line f a check told_now (told_of behind (after b a) counts_behind schedule) is ok (ap class_in same) (ap (λ (o : Outcome). has_answer o a) same ∙ answer_itself a)
            (happens_from turned.Moved (behind_it objects program b counts inputs action line f a change) (Some (does 0 action line f a)) turn_is happens_is)
            (subst (λ (os : Objects). Found os (after b a) check (told_of behind (after b a) counts_behind schedule)) (sym stored)
            (later behind (after b a) counts_behind kept_behind (sym (ap goes_on turn_is) ∙ broke)))

        by_outcome : mode_of action ≡ plain → (o : Outcome) → outcome_with objects ours action ≡ o → IsPossible o → Found objects b check told_now
        by_outcome mode (breaks class) comes may =
            found_broken (Act action line f) (check_of class line f 0) is (act_turn objects program b counts inputs action line f is (breaks class) comes) (act_happens objects program b counts inputs action line f is (breaks class) comes)
            (λ same. (class, (λ a. class_own objects action quiet (own_by objects a) ours ∙ ap class_in comes), same))
        by_outcome mode waits comes may = absurd may
        by_outcome mode (moves a change) comes may = found_moved mode a change comes may

        found_exit : action ≡ actions.Exit → Found objects b check told_now
        found_exit exit =
            let is_exit : b [] ≡ Act actions.Exit line f = is ∙ ap (λ x. Act x line f) exit in
            absurd (let fine : ending.Fine ≡ ending.Broken check = sym (over_fine objects program (after b answers.Done) counts inputs schedule) ∙ sym (ap goes_on (exit_turn objects program b counts inputs line f is_exit)) ∙ broke in cc)

        found_act : Found objects b check told_now
        found_act = elim (quiet_mode action quiet) [
          | inl mode ↦ by_outcome mode (outcome_with objects ours action) refl (possible objects action quiet ours)
          | inr exit ↦ found_exit exit
        ]

      found_next : (next : Next) → b [] ≡ next → Found objects b check told_now
      found_next (Act action line f) is = found_act action line f is
      found_next (Ended w) is = found_silent (own_turn objects program b counts inputs (Ended w) is) (own_happens objects program b counts inputs (Ended w) is)
      found_next Blocked is = found_silent (own_turn objects program b counts inputs Blocked is) (own_happens objects program b counts inputs Blocked is)
      found_next (Broken class line f) is =
          found_broken (Broken class line f) (check_of class line f 0) is (own_turn objects program b counts inputs (Broken class line f) is) (own_happens objects program b counts inputs (Broken class line f) is) (λ same. same)

  pub found : (schedule : List ℕ) (objects : Objects) (b : Behaviour) (counts : Counts) → Kept objects b counts → Ends objects b counts schedule → Found objects b check (told_of objects b counts schedule)
  found [] objects b counts kept broke = absurd (let same : ending.Fine ≡ ending.Broken check = broke in cc)
  found (zero ∷ schedule) objects b counts kept broke = found_next schedule (found schedule) objects b counts kept broke (b []) refl
  found (suc t ∷ schedule) objects b counts kept broke =
      let here = alone objects program b counts in
      let turn_is = other_turn objects program b counts t inputs in
      subst (Found objects b check) (sym (first_happens here here inputs (suc t) schedule turned.Nothing None turn_is (other_happens objects program b counts t inputs)))
      (found schedule objects b counts kept (sym (ap (λ (r : Turn × World). (unless_broken r.0 r.1 (λ next. run next inputs schedule)).0) turn_is) ∙ broke))

-- ---- and the run of a valuation that begins with it agrees with the store and breaks the check

pub record Broke (objects : Objects) (r : Run) (xs : List Exchange) (check : Check) : Type 0 where
  pub agreed : agrees objects (checked objects r) ≡ true
  pub broken : breaks_run (checked objects r) ≡ true
  pub told_is : happenings (checked objects r) ≡ told_in xs check

broke_end : (objects : Objects) (end : Next) (check : Check) → IsEnd end → BreaksNext objects end check → Broke objects (stops end) [] check
broke_end objects (Act action line f) check is ends = absurd is
broke_end objects (Ended w) check is ends = absurd ends
broke_end objects Blocked check is ends = absurd ends
broke_end objects (Broken class line f) check is ends = record { agreed = refl; broken = refl; told_is = ap (λ c. fails c ∷ []) ends }

pub begins_break : (r : Run) (objects : Objects) (xs : List Exchange) (next : Next) (check : Check) → AreEnds r → Begins xs next r → EndsIn objects xs next check → Broke objects r xs check
begins_break (stops end) objects [] next check are begins ends = broke_end objects end check are (subst (λ (n : Next). BreaksNext objects n check) (sym begins) ends)
begins_break (stops end) objects (x ∷ xs) next check are begins ends = absurd begins
begins_break (asks action line f a rest) objects [] next check are begins ends =
    let h = subst (λ (n : Next). BreaksNext objects n check) (sym begins) ends in
    let stopped_is : checked objects (asks action line f a rest) ≡ stops (Broken h.0 line f) = λ i. unless (h.1 a i) line f (asks action line f a (checked (stored_by objects action a) rest)) in
    record { agreed = ap (agrees objects) stopped_is; broken = ap breaks_run stopped_is; told_is = ap happenings stopped_is ∙ ap (λ c. fails c ∷ []) h.2 }
begins_break (asks action line f a rest) objects (x ∷ xs) next check are begins ends =
    let fine : access_class objects action a ≡ None = (λ i. access_class objects (sym begins.0 i) (sym begins.3 i)) ∙ ends.0 in
    let given : is_given objects action a ≡ true = (λ i. is_given objects (sym begins.0 i) (sym begins.3 i)) ∙ ends.1 in
    let later = begins_break rest (stored_by objects action a) xs next check are begins.4 (subst (λ (os : Objects). EndsIn os xs next check) (λ i. stored_by objects (begins.0 i) (begins.3 i)) ends.2) in
    let goes : checked objects (asks action line f a rest) ≡ asks action line f a (checked (stored_by objects action a) rest) = λ i. unless (fine i) line f (asks action line f a (checked (stored_by objects action a) rest)) in
    record {
      agreed = ap (agrees objects) goes ∙ (λ i. given i && later.agreed i);
      broken = ap breaks_run goes ∙ later.broken;
      told_is = ap happenings goes ∙ (let p = begins in λ i. does 0 (sym p.0 i) (sym p.1 i) (sym p.2 i) (sym p.3 i) ∷ later.told_is i);
    }

-- ---- a run in which the same happens agrees with the store and breaks the check

-- an action is no broken check
told_apart : {P : Type 0} (t : ℕ) (action : Action) (line f : ℕ) (a : Answer) (check : Check) (hs ks : List Happening) → does t action line f a ∷ hs ≡ fails check ∷ ks → P
told_apart t action line f a check hs ks same = cc

pub record Agrees (objects : Objects) (r : Run) : Type 0 where
  pub agreed : agrees objects r ≡ true
  pub broken : breaks_run r ≡ true

not_fails : {P : Type 0} (check : Check) (hs : List Happening) → [] ≡ fails check ∷ hs → P
not_fails check hs same = cc

not_does : {P : Type 0} (x : Exchange) (hs : List Happening) → [] ≡ does 0 x.action x.line x.function x.answer ∷ hs → P
not_does x hs same = cc

nothing_told : {P : Type 0} (xs : List Exchange) (check : Check) → [] ≡ told_in xs check → P
nothing_told [] check same = not_fails check [] same
nothing_told (x ∷ xs) check same = not_does x (told_in xs check) same

agrees_end : (objects : Objects) (end : Next) (xs : List Exchange) (check : Check) → end_happens end ≡ told_in xs check → Agrees objects (stops end)
agrees_end objects (Act action line f) xs check same = nothing_told xs check same
agrees_end objects (Ended w) xs check same = nothing_told xs check same
agrees_end objects Blocked xs check same = nothing_told xs check same
agrees_end objects (Broken class line f) xs check same = record { agreed = refl; broken = refl }

head_told : (action action' : Action) (line line' f f' : ℕ) (a a' : Answer) (hs ks : List Happening) → does 0 action line f a ∷ hs ≡ does 0 action' line' f' a' ∷ ks → (action ≡ action') × (a ≡ a') × (hs ≡ ks)
head_told action action' line line' f f' a a' hs ks same = (cc, cc, cc)

agrees_by : (c : Option Class) (objects : Objects) (action : Action) (line f : ℕ) (a : Answer) (left : Run) (xs : List Exchange) (next : Next) (check : Check)
    → ((ys : List Exchange) → EndsIn (stored_by objects action a) ys next check → happenings left ≡ told_in ys check → Agrees (stored_by objects action a) left)
    → EndsIn objects xs next check → happenings (unless c line f (asks action line f a left)) ≡ told_in xs check → Agrees objects (unless c line f (asks action line f a left))
agrees_by (Some class) objects action line f a left xs next check later ends same = record { agreed = refl; broken = refl }
agrees_by None objects action line f a left [] next check later ends same = told_apart 0 action line f a check (happenings left) [] same
agrees_by None objects action line f a left (x ∷ xs) next check later ends same =
    let parts = head_told action x.action line x.line f x.function a x.answer (happenings left) (told_in xs check) same in
    let given : is_given objects action a ≡ true = (λ i. is_given objects (parts.0 i) (parts.1 i)) ∙ ends.1 in
    let more_told = later xs (subst (λ (os : Objects). EndsIn os xs next check) (λ i. stored_by objects (sym parts.0 i) (sym parts.1 i)) ends.2) parts.2 in
    record { agreed = λ i. given i && more_told.agreed i; broken = more_told.broken }

pub told_agrees : (r : Run) (objects : Objects) (xs : List Exchange) (next : Next) (check : Check) → EndsIn objects xs next check → happenings (checked objects r) ≡ told_in xs check → Agrees objects (checked objects r)
told_agrees (stops end) objects xs next check ends same = agrees_end objects end xs check same
told_agrees (asks action line f a rest) objects xs next check ends same =
    agrees_by (access_class objects action a) objects action line f a (checked (stored_by objects action a) rest) xs next check (λ ys. told_agrees rest (stored_by objects action a) ys next check) ends same
