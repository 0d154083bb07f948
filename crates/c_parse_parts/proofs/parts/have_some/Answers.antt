use Rattle.c_parse_parts.proofs.Loops.{have_by}
use Rattle.c_parse_parts.proofs.parts.have_some.Goals as goal

pub returns : goal.returns
returns c = have_by c.args.members.now c.is_empty.result c.is_empty.ensures
