-- A formula that keeps its promise is true exactly for the candidates in which an event breaks.
use Rattle.std.proofs.Common.{◌∙◌}
use Rattle.thread_forms.specs.Runs.{HasValuation}
use Rattle.thread_forms.specs.Order.{GoalIsCandidate, CandidateHasGoal}
use Rattle.thread_forms.proofs.Consistent.{consistent, executed_of}
use Rattle.thread_forms.proofs.Marking.{runs_give_valuations}

pub goal_is_candidate : GoalIsCandidate
goal_is_candidate = λ t objects F goal marks family forms order v e.
    let s = order.sound v e in
    (consistent t objects F v (marks v) family forms s.0, s.1.0, executed_of t objects F v (marks v) family forms s.0 s.1.0 s.1.1, s.1.2, s.1.3)

pub candidate_has_goal : (Id : Type 0) → CandidateHasGoal Id
candidate_has_goal Id = λ t objects F goal marks family forms order d h fit y i class e.
    let r : HasValuation d objects F = runs_give_valuations Id t objects F d family forms h fit in
    let x = r.tells.all y i in
    let w = order.complete r.valuation r.marks r.meets (x.0, x.1, class, x.2.outcome ∙ e) in
    record {
      told = r.valuation;
      told_marks = r.marks;
      tells = r.tells;
      valuation = w.0;
      same_answers = w.1;
      same_turns = w.3;
      is_true = w.2;
    }
