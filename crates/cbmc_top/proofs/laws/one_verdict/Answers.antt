use Rattle.cbmc_top.proofs.Stages.{one_verdict}
use Rattle.cbmc_top.proofs.laws.one_verdict.Goals as goal

pub returns : goal.returns
returns c = one_verdict c.one_cutting.ensures c.one_expansion.ensures c.one_file.ensures
