use Rattle.told_lines.specs.TypedLines.{IsLine}
use Rattle.told_lines.proofs.Statements.{file_lined}
use Rattle.told_lines.proofs.laws.typed_lines.Goals as goal

pub returns : goal.returns
returns c tree core typed lined = file_lined IsLine tree core typed lined
