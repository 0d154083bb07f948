use Rattle.generator.specs.Program.{joins}
use Rattle.generator.proofs.Lines.{one_more}
use Rattle.generator.proofs.program.push_joins.Goals as goal

pub loop-earlier-preserved : goal.loop-earlier-preserved
loop-earlier-preserved c = one_more joins c.loop-earlier.earlier _ _ _ c.loop-earlier.invariant c.in_ok-push_join.ensures
