use Rattle.cbmc_top.proofs.Stages.{runs_answer}
use Rattle.cbmc_top.proofs.laws.runs_answer.Goals as goal

pub returns : goal.returns
returns c = runs_answer c.one_cutting.ensures c.one_expansion.ensures c.one_file.ensures
