use Rattle.std.proofs.Common.{rules}
use Rattle.c_tasks.proofs.Frames.{more_blocks}
use Rattle.c_tasks.proofs.variables.add_variables.Goals as goal

pub loop-place-preserved : goal.loop-place-preserved
loop-place-preserved c = search (rules, more_blocks)
