use Rattle.std.proofs.Common.{arith}
use Rattle.told_lines.specs.TypedLines.{IsLine}
use Rattle.told_lines.proofs.Running.{broken_line}
use Rattle.told_lines.proofs.laws.run_lines.Goals as goal

pub returns : goal.returns
returns c core limits inputs schedule check lined replays = broken_line IsLine (omega arith) core limits inputs schedule check lined replays
