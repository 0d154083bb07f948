use Rattle.told_lines.proofs.Cutting.{cut_lined}
use Rattle.told_lines.proofs.laws.token_lines.Goals as goal

pub returns : goal.returns
returns c file tokens cut = cut_lined file tokens cut
