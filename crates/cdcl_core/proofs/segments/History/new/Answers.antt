use Rattle.std.proofs.Common.{arith}
use Rattle.cdcl_core.proofs.Ongoing.{history_new}
use Rattle.cdcl_core.proofs.segments.History.new.Goals as goal

pub returns-clause-history : goal.returns-clause-history
returns-clause-history c = λ form first within.
    history_new form _ c.new.ensures first first (omega (arith, c.loop-number.invariant.count, c.loop-number-test.false, c.loop-number.auto.number-end, first)) c.loop-number.invariant.same within
