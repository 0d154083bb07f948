use Rattle.cbmc_top.proofs.Stages.{one_program}
use Rattle.cbmc_top.proofs.laws.one_program.Goals as goal

pub returns : goal.returns
returns c = one_program c.one_cutting.ensures c.one_expansion.ensures c.one_file.ensures
