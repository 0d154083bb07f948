use Rattle.told_lines.specs.TypedLines.{IsLine}
use Rattle.told_lines.proofs.Trees.{is_file_lined}
use Rattle.told_lines.proofs.laws.tree_lines.Goals as goal

pub returns : goal.returns
returns c bytes tokens tree file lined = is_file_lined IsLine bytes tokens tree file lined
