use Rattle.c_pre.proofs.Turning.{first_there}
use Rattle.c_pre.proofs.replacing.first.Goals as goal

pub returns : goal.returns
returns c = first_there c.args.tokens.now _ c.requires
