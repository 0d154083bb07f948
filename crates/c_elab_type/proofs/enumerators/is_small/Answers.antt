use Rattle.c_elab_base.proofs.Comparing.{is_small}
use Rattle.c_elab_type.proofs.enumerators.is_small.Goals as goal

pub returns : goal.returns
returns c = is_small c.args.number
