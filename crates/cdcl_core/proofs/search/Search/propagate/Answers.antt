use Rattle.std.proofs.Common.{◌≤◌, List, length, sym, subst, arith, inl, inr}
use Rattle.std.proofs.lemmas.Bool.{cases_lt, true≢false}
use Rattle.cdcl_core.specs.declared.trail.Step.{Step}
use Rattle.cdcl_core.specs.Watched.{AreWatched}
use Rattle.cdcl_core.proofs.Courses.{oldest-all}
use Rattle.cdcl_core.proofs.search.Search.propagate.Goals as goal

pub returns-clause-done : goal.returns-clause-done
returns-clause-done c =
    let all : length c.loop-step.self.trail.steps ≤ c.loop-step.self.propagated =
    elim (cases_lt c.loop-step.self.propagated (length c.loop-step.self.trail.steps)) [
      | inl less ↦ absurd (true≢false (sym (c.in_default.ensures.found.1 less)))
      | inr past ↦ past
    ] in
    record {
      all = omega (arith, all, c.loop-step.invariant.watching.most);
      watched = subst (λ (x : List Step). AreWatched x c.loop-step.self.trail.steps c.loop-step.self.clauses c.loop-step.self.watches.pairs.items)
          (oldest-all c.loop-step.self.propagated c.loop-step.self.trail.steps all) c.loop-step.invariant.watching.watched;
    }
