use Rattle.c_parse_parts.proofs.Loops.{some_by}
use Rattle.c_parse_parts.proofs.parts.are_some.Goals as goal

pub returns : goal.returns
returns c = some_by c.args.specifiers.now c.is_empty.result c.is_empty.ensures
