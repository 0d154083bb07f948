use Rattle.std.proofs.Common.{arith}
use Rattle.trace_build.proofs.NodeWords.{some_low}
use Rattle.trace_build.proofs.values.lowest.Goals as goal

pub returns-else-count-ge64 : goal.returns-else-count-ge64
returns-else-count-ge64 c = some_low c.args.bits c.args.count (omega arith)
