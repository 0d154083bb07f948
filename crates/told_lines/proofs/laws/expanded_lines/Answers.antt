use Rattle.told_lines.specs.TypedLines.{IsLine}
use Rattle.told_lines.proofs.Expansion.{expansion_lined}
use Rattle.told_lines.proofs.laws.expanded_lines.Goals as goal

pub returns : goal.returns
returns c bytes tokens found expanded lined = expansion_lined IsLine bytes tokens found expanded lined
