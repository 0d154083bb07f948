use Rattle.std.proofs.Common.{◌≡◌, drop}
use Rattle.goto_checks.proofs.totals.Totals.leave.Given as goal

abbrev pub invariant-loop : goal.invariant-loop
invariant-loop l = l.self ≡ drop l.counter l.fn.self
