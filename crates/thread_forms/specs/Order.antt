-- What a formula of many threads promises: it is true where marks meet the conditions and an event breaks a check.
use Rattle.std.specs.Prelude.{◌≡◌, ◌<◌, Bool, true}
use Rattle.words.specs.declared.check.Class.{Class}
use Rattle.actions.specs.Behaviour.{Thread}
use Rattle.actions.specs.Objects.{Objects}
use Rattle.actions.specs.Row.{breaks}
use Rattle.weave.specs.Candidate.{Candidate, In, Executed, outcome_at, Later}
use Rattle.weave.specs.Consistent.{IsConsistent}
use Rattle.weave.specs.Family.{IsFamily}
use Rattle.thread_forms.specs.Forms.{Valuation, Name, Forms, names, SameBelow, AreForms}
use Rattle.thread_forms.specs.Valued.{Marks, taken, candidate, IsTaken}
use Rattle.thread_forms.specs.Meets.{Meets}
use Rattle.thread_forms.specs.Runs.{AreFit, TellsRun}

abbrev pub HasBreak : Forms → Valuation → Marks → Type 0
HasBreak F v m = (x : Name) × IsTaken F v m x × (class : Class) × (outcome_at (candidate F v m) x ≡ breaks class)

-- the same events are taken, and in the same order; their clocks may be others
pub record SameTurns (F : Forms) (v : Valuation) (m : Marks) (w : Valuation) (n : Marks) : Type 0 where
  pub turns : (x : Name) → x.form < F.many → In x (names F x.form) → taken F v m x ≡ taken F w n x
  pub order : (x y : Name) → IsTaken F v m x → IsTaken F v m y → Later (candidate F v m) y x → Later (candidate F w n) y x

-- `goal` is the value of the formula, `marks` are read from its variables. Where it is true its marks meet the conditions and an event breaks (sound). Where any marks do, there is a valuation with the same answers, whose marks take the same turns, for which it is true (complete).
pub record IsOrder (F : Forms) (objects : Objects) (goal : Valuation → Bool) (marks : Valuation → Marks) : Type 0 where
  pub sound : (v : Valuation) → goal v ≡ true → Meets F v (marks v) objects × HasBreak F v (marks v)
  pub complete : (v : Valuation) (m : Marks) → Meets F v m objects → HasBreak F v m → (w : Valuation) × SameBelow (F.low F.many) v w × (goal w ≡ true) × SameTurns F v m w (marks w)

-- where the formula is true its candidate is consistent, and an executed event breaks
abbrev pub GoalIsCandidate : Type 0
GoalIsCandidate =
    (t : Thread) (objects : Objects) (F : Forms) (goal : Valuation → Bool) (marks : Valuation → Marks) → IsFamily t → AreForms t F → IsOrder F objects goal marks
    → (v : Valuation) → goal v ≡ true
    → IsConsistent (candidate F v (marks v)) t objects × (x : Name) × Executed (candidate F v (marks v)) x × (class : Class) × (outcome_at (candidate F v (marks v)) x ≡ breaks class)

-- a valuation for which the formula is true, and which takes the turns of a candidate
pub record HasGoal {Id : Type 0} (d : Candidate Id) (F : Forms) (goal : Valuation → Bool) (marks : Valuation → Marks) : Type 0 where
  pub told : Valuation
  pub told_marks : Marks
  pub tells : TellsRun d F told told_marks
  pub valuation : Valuation
  pub same_answers : SameBelow (F.low F.many) told valuation
  pub same_turns : SameTurns F told told_marks valuation (marks valuation)
  pub is_true : goal valuation ≡ true

-- where an executed event of a consistent candidate breaks, there is such a valuation
abbrev pub CandidateHasGoal : Type 0 → Type 0
CandidateHasGoal Id =
    (t : Thread) (objects : Objects) (F : Forms) (goal : Valuation → Bool) (marks : Valuation → Marks) → IsFamily t → AreForms t F → IsOrder F objects goal marks
    → (d : Candidate Id) → IsConsistent d t objects → AreFit d → (y : Id) → Executed d y → (class : Class) → outcome_at d y ≡ breaks class → HasGoal d F goal marks
