use Rattle.cbmc_top.proofs.Stages.{one_answer}
use Rattle.cbmc_top.proofs.laws.one_answer.Goals as goal

pub returns : goal.returns
returns c = one_answer c.one_cutting.ensures c.one_expansion.ensures c.one_file.ensures c.one_place.ensures
