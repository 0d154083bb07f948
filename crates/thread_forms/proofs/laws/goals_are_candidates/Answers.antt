use Rattle.std.proofs.Common.{ℕ}
use Rattle.thread_forms.proofs.Deciding.{goal_is_candidate, candidate_has_goal}
use Rattle.thread_forms.proofs.laws.goals_are_candidates.Goals as goal

pub returns-clause-only : goal.returns-clause-only
returns-clause-only c = goal_is_candidate

pub returns-clause-each : goal.returns-clause-each
returns-clause-each c = candidate_has_goal ℕ
