-- How a search goes on.
use Rattle.std.proofs.Common.{◌≡◌, ◌≢◌, ℕ, ◌<◌, false, List, [], ◌∷◌, ◌++◌, length, Some, None, refl, sym, ap, ◌∙◌, subst, arith}
use Rattle.std.specs.Prelude.{IsSomeAnd, if◌then◌else◌, Contains}
use Rattle.sat_form.specs.Satisfaction.{Literal, IsWithin, index_of}
use Rattle.sat_form.proofs.Within.{AreWithin-push}
use Rattle.cdcl_core.specs.declared.trail.Step.{Step}
use Rattle.cdcl_core.specs.declared.watches.Pair.{Pair}
use Rattle.cdcl_core.specs.declared.watches.Watches.{Watches}
use Rattle.cdcl_core.specs.Steps.{Course, known_value, known_truth, oldest, decision_places}
use Rattle.cdcl_core.specs.Settled.{IsReason}
use Rattle.cdcl_core.specs.Lists.{IsEntered}
use Rattle.cdcl_core.specs.Watched.{AreFalseBeside, AreOpen, AreListed, AreQuiet, IsHeld}
use Rattle.cdcl_core.specs.Going.{GoesOn}
use Rattle.cdcl_core.proofs.Courses.{oldest-more}
use Rattle.cdcl_core.proofs.Places.{slice_get-new}
use Rattle.cdcl_core.proofs.Listed.{AreListed-entered, IsWithin-contains, room-contains}
use Rattle.cdcl_core.proofs.Watching.{known_truth-push, known_value-open, AreQuiet-gone, AreFresh-oldest}
use Rattle.cdcl_core.proofs.Settling.{AreJustified-more, AreJustified-oldest, AreQuiet-more, AreQuiet-oldest}

pub GoesOn-refl : (x : Course) → GoesOn x x
GoesOn-refl x = record { variables = refl; longer = omega arith; oldest = λ k within. refl; kept = λ l b is. is; places = refl }

pub GoesOn-trans : (x y z : Course) → GoesOn x y → GoesOn y z → GoesOn x z
GoesOn-trans x y z first second =
    record {
      variables = second.variables ∙ first.variables;
      longer = omega (arith, first.longer, second.longer);
      oldest = λ k within. second.oldest k (omega (arith, within, first.longer)) ∙ first.oldest k within;
      kept = λ l b is. second.kept l b (first.kept l b is);
      places = second.places ∙ first.places;
    }

decision_places-follows : (s : Step) (older : List Step) → s.decision ≡ false → decision_places (s ∷ older) ≡ decision_places older
decision_places-follows s older follows = ap (λ b. if b then decision_places older ++ length older ∷ [] else decision_places older) follows

-- one more step that is no decision
pub GoesOn-push :
    (old new : Course) (s : Step) → new ≡ record { variables = old.variables; steps = s ∷ old.steps } → s.decision ≡ false →
    length old.steps < old.variables → known_value old.steps s.literal.variable ≡ None → GoesOn old new
GoesOn-push old new s is follows room none =
    let longer : Course = record { variables = old.variables; steps = s ∷ old.steps } in
    let at_longer : GoesOn old longer =
    record {
      variables = refl;
      longer = omega arith;
      oldest = λ k within. oldest-more k s old.steps within;
      kept = λ l b told. known_truth-push s old.steps l b none told;
      places = decision_places-follows s old.steps follows;
    } in
    subst (GoesOn old) (sym is) at_longer

-- what is held after a step that a clause gives
pub IsHeld-push :
    (cs : List (List Literal)) (old new : Course) (w : Watches) (s : Step) (number : ℕ) → new ≡ record { variables = old.variables; steps = s ∷ old.steps } →
    s.decision ≡ false → s.reason ≡ Some number → IsReason cs old.steps s.literal number → s.literal.variable < old.variables →
    known_value old.steps s.literal.variable ≡ None → GoesOn old new → IsHeld cs old w → IsHeld cs new w
IsHeld-push cs old new w s number is follows reason given within none on held =
    let longer : Course = record { variables = old.variables; steps = s ∷ old.steps } in
    let quiet : AreQuiet cs w.pairs.items new.steps = AreQuiet-gone cs w.pairs.items old new on held.quiet in
    let at_longer : IsHeld cs longer w =
    record {
      within = held.within;
      fresh = (within, none, held.fresh);
      justified = (λ _. subst (λ o. IsSomeAnd o (IsReason cs old.steps s.literal)) (sym reason) given, held.justified);
      listed = held.listed;
      quiet = subst (λ (x : Course). AreQuiet cs w.pairs.items x.steps) is quiet;
    } in
    subst (λ (x : Course). IsHeld cs x w) (sym is) at_longer

-- what is held after a clause that leaves one literal was added, and that literal taken
pub IsHeld-asserted :
    (cs : List (List Literal)) (x new : Course) (w v : Watches) (c : List Literal) (p : Pair) →
    new ≡ record { variables = x.variables; steps = record { literal = p.first; decision = false; reason = Some (length cs) } ∷ x.steps } →
    v.pairs.items ≡ w.pairs.items ++ p ∷ [] → IsEntered w.lists (length w.pairs.items) p.first p.second v.lists → IsWithin x.variables c → Contains c p.first →
    (p.first ≢ p.second → Contains c p.second) → known_truth x.steps p.first ≡ None → AreFalseBeside x.steps c p.first →
    ((d : ℕ) → Contains (decision_places x.steps) d → AreOpen (oldest d x.steps) c p) → length x.steps < x.variables → IsHeld cs x w → IsHeld (cs ++ c ∷ []) new v
IsHeld-asserted cs x new w v c p is pairs entered within first second none others open_ room held =
    let s : Step = record { literal = p.first; decision = false; reason = Some (length cs) } in
    let without : known_value x.steps p.first.variable ≡ None = known_value-open x.steps p.first none in
    let below : (l : Literal) → Contains c l → index_of l < length w.lists = λ l at. room-contains x.variables (length w.lists) c l held.listed.room within at in
    let mid : IsHeld (cs ++ c ∷ []) x v =
    record {
      within = AreWithin-push x.variables cs c held.within within;
      fresh = held.fresh;
      justified = AreJustified-more cs c x.steps held.justified;
      listed = subst (λ (ps : List Pair). AreListed x.variables (cs ++ c ∷ []) ps v.lists) (sym pairs)
          (AreListed-entered x.variables cs w.pairs.items w.lists v.lists c p held.listed (λ _. first) second (λ _. below p.first first) (λ e. below p.second (second e)) entered);
      quiet = subst (λ (ps : List Pair). AreQuiet (cs ++ c ∷ []) ps x.steps) (sym pairs) (AreQuiet-more cs w.pairs.items c p x.steps held.listed.count held.quiet open_);
    } in
    IsHeld-push (cs ++ c ∷ []) x new v s (length cs) is refl refl
    (record { clause = c; found = slice_get-new cs c; stands = first; others = others }) (IsWithin-contains x.variables c p.first within first) without
    (GoesOn-push x new s is refl room without) mid

-- what is held of the oldest steps
pub IsHeld-oldest : (cs : List (List Literal)) (x : Course) (w : Watches) (k : ℕ) → IsHeld cs x w → IsHeld cs (record x { steps = oldest k x.steps }) w
IsHeld-oldest cs x w k held =
    record {
      within = held.within;
      fresh = AreFresh-oldest x.variables k x.steps held.fresh;
      justified = AreJustified-oldest cs k x.steps held.justified;
      listed = held.listed;
      quiet = AreQuiet-oldest cs w.pairs.items k x.steps held.quiet;
    }
