use Rattle.cbmc_top.proofs.Stages.{listing_answers}
use Rattle.cbmc_top.proofs.laws.listing_answers.Goals as goal

pub returns : goal.returns
returns c = listing_answers c.one_cutting.ensures c.one_expansion.ensures c.one_file.ensures
