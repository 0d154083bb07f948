use Rattle.options.proofs.Items.{cut_is}
use Rattle.options.proofs.loops.cut.Goals as goal

pub returns : goal.returns
returns c = cut_is c.args.at c.args.text.now c.split_once.result c.split_once.ensures.cases c.requires
