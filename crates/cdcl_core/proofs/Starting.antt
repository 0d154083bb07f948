-- A search at its start, with a decision more, and with steps that follow.
use Rattle.std.proofs.Common.{◌≡◌, ℕ, suc, ◌-◌, ◌+◌, ◌*◌, ◌<◌, ◌≤◌, true, false, List, [], ◌∷◌, ◌++◌, Vec, Global, length, get_or, None, refl, sym, ap, ◌∙◌, subst, arith, append-nil}
use Rattle.std.specs.Prelude.{Contains, if◌then◌else◌}
use Rattle.std.proofs.lemmas.List.{length-append, get_or_default}
use Rattle.sat_form.specs.Satisfaction.{Literal, Form, AreWithin}
use Rattle.sat_form.specs.Propagation.{Conflicts}
use Rattle.sat_form.specs.Budget.{AreAllowed}
use Rattle.cdcl_core.specs.declared.trail.Step.{Step}
use Rattle.cdcl_core.specs.declared.search.Search.{Search}
use Rattle.cdcl_core.specs.Steps.{Course, known_value, oldest, decision_places}
use Rattle.cdcl_core.specs.Learning.{IsClear}
use Rattle.cdcl_core.specs.Watched.{AreListed, AreWatched, IsHeld}
use Rattle.cdcl_core.specs.Going.{GoesOn}
use Rattle.cdcl_core.specs.Answers.{IsLogged, IsKept, IsReady, IsWatching, IsPropagated, left}
use Rattle.cdcl_core.proofs.Courses.{oldest-all, oldest-more}
use Rattle.cdcl_core.proofs.Settling.{AreQuiet-decided, AreWatched-push, IsSettled-watched, no_conflict}

none_allowed : (form : List (List Literal)) → AreAllowed form []
none_allowed form before e after is = absurd (omega (arith, ap length is, length-append before (e ∷ after)))

nothing_held :
    (n : ℕ) (cs : List (List Literal)) (s : Search) → s.trail ≡ record { variables = n; steps = [] } → AreWithin n cs → AreListed n cs s.watches.pairs.items s.watches.lists → IsHeld cs s.trail s.watches
nothing_held n cs s trail within listed =
    let start : Course = record { variables = n; steps = [] } in
    let at_start : IsHeld cs start s.watches =
    record { within = within; fresh = tt; justified = tt; listed = listed; quiet = λ d at. absurd (omega (arith, at.1)) } in
    subst (λ (x : Course). IsHeld cs x s.watches) (sym trail) at_start

pub IsReady-new :
    (form : Form) (budget : ℕ) (s : Search) → s.trail ≡ record { variables = form.variables; steps = [] } → s.clauses ≡ form.clauses → AreWithin form.variables form.clauses →
    AreListed form.variables form.clauses s.watches.pairs.items s.watches.lists → IsClear form.variables s.analysis → s.decisions.items ≡ [] → s.log ≡ [] → IsReady form budget s
IsReady-new form budget s trail clauses within listed clear decisions log =
    let variables : s.trail.variables ≡ form.variables = ap (λ (x : Course). x.variables) trail in
    let logged : IsLogged form budget form.clauses [] =
    record { numbered = sym (append-nil form.clauses); live = refl; allowed = none_allowed form.clauses; within = tt; count = omega arith } in
    record {
      kept = record {
        held = subst (λ x. IsHeld x s.trail s.watches) (sym clauses) (nothing_held form.variables form.clauses s trail within listed);
        clear = subst (λ k. IsClear k s.analysis) (sym variables) clear;
        places = decisions ∙ sym (ap (λ (x : Course). decision_places x.steps) trail);
      };
      variables = variables;
      logged = subst (λ x. IsLogged form budget x s.log) (sym clauses) (subst (IsLogged form budget form.clauses) (sym log) logged);
    }

-- what is known of a decision
pub record IsDecided (old : Search) (t : Course) (d : Vec ℕ Global) (s : Step) : Type 0 where
  pub trail : t ≡ record { variables = old.trail.variables; steps = s ∷ old.trail.steps }
  pub decides : s.decision ≡ true
  pub within : s.literal.variable < old.trail.variables
  pub open_ : known_value old.trail.steps s.literal.variable ≡ None
  pub room : length old.trail.steps < old.trail.variables
  pub decisions : d.items ≡ old.decisions.items ++ length old.trail.steps ∷ []
  pub propagated : IsPropagated old

held_decided : (old : Search) (t : Course) (d : Vec ℕ Global) (s : Step) → IsDecided old t d s → IsHeld old.clauses old.trail old.watches → IsHeld old.clauses t old.watches
held_decided old t d s is held =
    let longer : Course = record { variables = old.trail.variables; steps = s ∷ old.trail.steps } in
    let at_longer : IsHeld old.clauses longer old.watches =
    record {
      within = held.within;
      fresh = (is.within, is.open_, held.fresh);
      justified = (λ follows. let both : true ≡ false = sym is.decides ∙ follows in cc, held.justified);
      listed = held.listed;
      quiet = AreQuiet-decided old.clauses old.watches.pairs.items s old.trail.steps is.decides held.quiet is.propagated.watched;
    } in
    subst (λ (x : Course). IsHeld old.clauses x old.watches) (sym is.trail) at_longer

pub IsReady-decided : (form : Form) (n : ℕ) (old : Search) (t : Course) (d : Vec ℕ Global) (s : Step) → IsDecided old t d s → IsReady form n old → IsReady form n (record old { trail = t; decisions = d })
IsReady-decided form n old t d s is ready =
    let variables : t.variables ≡ old.trail.variables = ap (λ (x : Course). x.variables) is.trail in
    let places : decision_places t.steps ≡ decision_places old.trail.steps ++ length old.trail.steps ∷ [] =
    ap (λ (x : Course). decision_places x.steps) is.trail
    ∙ ap (λ b. if b then decision_places old.trail.steps ++ length old.trail.steps ∷ [] else decision_places old.trail.steps) is.decides in
    record {
      kept = record {
        held = held_decided old t d s is ready.kept.held;
        clear = subst (λ k. IsClear k old.analysis) (sym variables) ready.kept.clear;
        places = is.decisions ∙ ap (λ ns. ns ++ length old.trail.steps ∷ []) ready.kept.places ∙ sym places;
      };
      variables = variables ∙ ready.variables;
      logged = record { numbered = ready.logged.numbered; live = ready.logged.live; allowed = ready.logged.allowed; within = ready.logged.within; count = ready.logged.count };
    }

pub IsWatching-decided : (old : Search) (t : Course) (d : Vec ℕ Global) (s : Step) → IsDecided old t d s → IsWatching (record old { trail = t; decisions = d })
IsWatching-decided old t d s is =
    let steps : t.steps ≡ s ∷ old.trail.steps = ap (λ (x : Course). x.steps) is.trail in
    let same : oldest old.propagated t.steps ≡ old.trail.steps =
    ap (oldest old.propagated) steps
    ∙ oldest-more old.propagated s old.trail.steps (omega (arith, is.propagated.all))
    ∙ oldest-all old.propagated old.trail.steps (omega (arith, is.propagated.all)) in
    record {
      most = omega (arith, ap length steps, is.propagated.all);
      watched = subst (λ (x : List Step). AreWatched x t.steps old.clauses old.watches.pairs.items) (sym same)
          (subst (λ (x : List Step). AreWatched old.trail.steps x old.clauses old.watches.pairs.items) (sym steps)
          (AreWatched-push old.clauses old.watches.pairs.items s old.trail.steps is.open_ is.propagated.watched));
    }

one_more : (a v k : ℕ) → k < v → a + (v - suc k) < a + (v - k)
one_more a v k room = omega (arith, room)

pub left-decided : (n : ℕ) (old : Search) (t : Course) (d : Vec ℕ Global) (s : Step) → IsDecided old t d s → left n (record old { trail = t; decisions = d }) < left n old
left-decided n old t d s is =
    subst (λ (x : Course). (n - length old.log) * suc x.variables + (x.variables - length x.steps) < left n old) (sym is.trail)
    (one_more ((n - length old.log) * suc old.trail.variables) old.trail.variables (length old.trail.steps) is.room)

-- a search that has taken steps that follow
pub IsReady-begun : (form : Form) (n : ℕ) (old new : Search) → new ≡ record old { trail = new.trail } → IsHeld old.clauses new.trail old.watches → GoesOn old.trail new.trail → IsReady form n old → IsReady form n new
IsReady-begun form n old new is held on ready =
    subst (IsReady form n) (sym is)
    (record {
      kept = record { held = held; clear = subst (λ k. IsClear k old.analysis) (sym on.variables) ready.kept.clear; places = ready.kept.places ∙ sym on.places };
      variables = on.variables ∙ ready.variables;
      logged = ready.logged;
    })

pub IsKept-gone_on : (old new : Search) → new ≡ record old { trail = new.trail; watches = new.watches; propagated = new.propagated } → IsHeld old.clauses new.trail new.watches → GoesOn old.trail new.trail → IsKept old → IsKept new
IsKept-gone_on old new is held on kept =
    subst IsKept (sym is) (record { held = held; clear = subst (λ k. IsClear k old.analysis) (sym on.variables) kept.clear; places = kept.places ∙ sym on.places })

pub IsReady-gone_on :
    (form : Form) (n : ℕ) (old new : Search) → new ≡ record old { trail = new.trail; watches = new.watches; propagated = new.propagated } → IsHeld old.clauses new.trail new.watches →
    GoesOn old.trail new.trail → IsReady form n old → IsReady form n new
IsReady-gone_on form n old new is held on ready =
    subst (IsReady form n) (sym is)
    (record {
      kept = record { held = held; clear = subst (λ k. IsClear k old.analysis) (sym on.variables) ready.kept.clear; places = ready.kept.places ∙ sym on.places };
      variables = on.variables ∙ ready.variables;
      logged = ready.logged;
    })

no_more : (a v w k m : ℕ) → w ≡ v → k ≤ m → a * suc w + (w - m) ≤ a * suc v + (v - k)
no_more a v w k m same longer = rw same (omega (arith, longer))

pub left-gone_on :
    (n : ℕ) (old new : Search) → new ≡ record old { trail = new.trail; watches = new.watches; propagated = new.propagated } → GoesOn old.trail new.trail → left n new ≤ left n old
left-gone_on n old new is on =
    subst (λ (x : Search). left n x ≤ left n old) (sym is)
    (no_more (n - length old.log) old.trail.variables new.trail.variables (length old.trail.steps) (length new.trail.steps) on.variables on.longer)

-- where a decision stands, the clauses do not come to a conflict by themselves
pub undecided : (cs : List (List Literal)) (x : Course) (places : List ℕ) (s : Search) → IsHeld cs x s.watches → places ≡ decision_places x.steps → 0 < length places → Conflicts cs → ⊥
undecided cs x places s held are some =
    let d : ℕ = get_or places 0 0 in
    let at : Contains (decision_places x.steps) d = subst (λ ns. Contains ns d) are (0, some, get_or_default places 0 d 0 some) in
    no_conflict cs (oldest d x.steps) (IsSettled-watched cs s.watches.pairs.items (oldest d x.steps) held.listed.count (held.quiet d at))
