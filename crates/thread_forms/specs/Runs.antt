-- From a run to a valuation: a consistent candidate, of events of any name, is told by one valuation of all forms with marks that meet the conditions.
use Rattle.std.specs.Prelude.{◌≡◌, true}
use Rattle.actions.specs.declared.action.Answer.{Answer}
use Rattle.actions.specs.Behaviour.{Thread, accepts}
use Rattle.actions.specs.Memory.{Change}
use Rattle.actions.specs.Objects.{Objects}
use Rattle.actions.specs.Row.{moves}
use Rattle.weave.specs.Candidate.{Candidate, Executed, outcome_at}
use Rattle.weave.specs.Consistent.{IsConsistent}
use Rattle.weave.specs.Family.{IsFamily}
use Rattle.thread_forms.specs.Forms.{Valuation, Name, Forms, AreForms}
use Rattle.thread_forms.specs.Valued.{Marks, candidate, IsTaken}
use Rattle.thread_forms.specs.Meets.{Meets}

module _ {Id : Type 0} (d : Candidate Id) where
  -- each answer that comes has the shape that its action asks for
  abbrev pub AreFit : Type 0
  AreFit = (x : Id) → Executed d x → (a : Answer) (change : Change) → outcome_at d x ≡ moves a change → accepts (d.next x) a ≡ true

  module _ (F : Forms) (v : Valuation) (m : Marks) where
    -- one step of one thread at one time, with the same outcome
    pub record IsSame (x : Name) (y : Id) : Type 0 where
      pub thread : (candidate F v m).thread x ≡ d.thread y
      pub clock : (candidate F v m).clock x ≡ d.clock y
      pub next : (candidate F v m).next x ≡ d.next y
      pub outcome : outcome_at (candidate F v m) x ≡ outcome_at d y

    -- the taken events of the forms are the executed events of the candidate
    pub record TellsRun : Type 0 where
      pub only : (x : Name) → IsTaken F v m x → (y : Id) × Executed d y × IsSame x y
      pub all : (y : Id) → Executed d y → (x : Name) × IsTaken F v m x × IsSame x y

  pub record HasValuation (objects : Objects) (F : Forms) : Type 0 where
    pub valuation : Valuation
    pub marks : Marks
    pub meets : Meets F valuation marks objects
    pub tells : TellsRun F valuation marks

abbrev pub RunsGiveValuations : Type 0 → Type 0
RunsGiveValuations Id =
    (t : Thread) (objects : Objects) (F : Forms) (d : Candidate Id) → IsFamily t → AreForms t F → IsConsistent d t objects → AreFit d → HasValuation d objects F
