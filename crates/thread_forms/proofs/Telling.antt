-- Each run of bounded threads is told by a valuation, and by one that makes a formula true where it breaks a check.
use Rattle.std.proofs.Common.{ℕ, List, length, ap, ◌∙◌}
use Rattle.words.specs.declared.check.Check.{Check}
use Rattle.actions.specs.declared.action.Next.{Next}
use Rattle.actions.specs.Behaviour.{Thread}
use Rattle.actions.specs.Objects.{Objects}
use Rattle.interleave.specs.Inputs.{InputLists}
use Rattle.weave.specs.Candidate.{Candidate}
use Rattle.weave.specs.Step.{check_by}
use Rattle.weave.specs.Order.{Breaks}
use Rattle.weave.specs.RunCandidate.{from}
use Rattle.weave.specs.Family.{IsFamily, AreWhole}
use Rattle.weave.specs.Laws.{IsOfRun}
use Rattle.weave.proofs.Schedules.{runs_have_candidates}
use Rattle.thread_forms.specs.Forms.{Valuation, Name, Forms, AreForms}
use Rattle.thread_forms.specs.Valued.{Marks, candidate}
use Rattle.thread_forms.specs.Runs.{AreFit, IsSame, HasValuation}
use Rattle.thread_forms.specs.Bounds.{IsBounded}
use Rattle.thread_forms.specs.EachRun.{turns, run_candidate, IsTold, RunsAreTold, RunsHaveGoals}
use Rattle.thread_forms.proofs.Marking.{runs_give_valuations}
use Rattle.thread_forms.proofs.Deciding.{candidate_has_goal}
use Rattle.thread_forms.proofs.Counting.{candidates_are_fit}

module _ {Id : Type 0} (d : Candidate Id) (F : Forms) (v : Valuation) (m : Marks) where
  -- an event that stands for one that breaks a check breaks it
  same_break : (x : Name) (y : Id) (check : Check) → IsSame d F v m x y → Breaks d y check → Breaks (candidate F v m) x check
  same_break x y check s b = (b.0, s.outcome ∙ b.1, ap (λ (k : ℕ). check_by k b.0 ((candidate F v m).next x)) s.thread ∙ ap (λ (n : Next). check_by (d.thread y) b.0 n) s.next ∙ b.2)

module _ (t : Thread) (objects : Objects) (inputs : InputLists) (schedule : List ℕ) (family : IsFamily t) (whole : AreWhole objects) (bounded : IsBounded t objects) where
  of_run : IsOfRun (run_candidate t objects inputs schedule) (from 0 (length (turns t objects inputs schedule))) t objects inputs schedule
  of_run = runs_have_candidates t objects inputs schedule family whole

  fit : AreFit (run_candidate t objects inputs schedule)
  fit = candidates_are_fit ℕ t objects (run_candidate t objects inputs schedule) family whole bounded of_run.consistent

  module _ (F : Forms) (forms : AreForms t F) where
    valuation : HasValuation (run_candidate t objects inputs schedule) objects F
    valuation = runs_give_valuations ℕ t objects F (run_candidate t objects inputs schedule) family forms of_run.consistent fit

    is_told : IsTold t objects inputs schedule F
    is_told = record {
      is_run = of_run;
      told = valuation;
      breaks = λ check e.
          let b = of_run.breaks check e in
          let x = valuation.tells.all b.0 (of_run.is_order.only b.0 b.1) in
          (x.0, x.1, same_break (run_candidate t objects inputs schedule) F valuation.valuation valuation.marks x.0 b.0 check x.2 b.2);
    }

pub runs_are_told : RunsAreTold
runs_are_told = λ t objects inputs schedule F family whole bounded forms. is_told t objects inputs schedule family whole bounded F forms

pub runs_have_goals : RunsHaveGoals
runs_have_goals = λ t objects inputs schedule F goal marks family whole bounded forms order check e.
    let r = of_run t objects inputs schedule family whole bounded in
    let b = r.breaks check e in
    candidate_has_goal ℕ t objects F goal marks family forms order (run_candidate t objects inputs schedule) r.consistent (fit t objects inputs schedule family whole bounded) b.0 (r.is_order.only b.0 b.1) b.2.0 b.2.1
