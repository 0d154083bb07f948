use Rattle.generator.specs.Program.{creates}
use Rattle.generator.proofs.Lines.{one_more}
use Rattle.generator.proofs.program.push_creations.Goals as goal

pub loop-earlier-preserved : goal.loop-earlier-preserved
loop-earlier-preserved c = one_more creates c.loop-earlier.earlier _ _ _ c.loop-earlier.invariant c.in_ok-push_creation.ensures
