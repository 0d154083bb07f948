use Rattle.std.proofs.Common.{sym, ◌∙◌}
use Rattle.interleave.proofs.Rows.{free_ok, free_err}
use Rattle.interleave.proofs.shared.Shared.free.Goals as goal
use Rattle.interleave.proofs.shared.Shared.free.Goals.{in-Ok, in-Err}

pub returns-clause-effect : goal.returns-clause-effect
returns-clause-effect c = rw (← c.self.view_is) (elim c.match-free.branch [
  | in-Ok w ↦ w.result-is ∙ sym (free_ok (record { objects = c.self.inside.store; threads = c.self.inside.threads.entries }) c.args.p (sym c.free.ensures.answer ∙ w.in-Ok.is))
  | in-Err w ↦ w.result-is ∙ sym (free_err (record { objects = c.self.inside.store; threads = c.self.inside.threads.entries }) c.args.p w.in-Err.class (sym c.free.ensures.answer ∙ w.in-Err.is))
])
