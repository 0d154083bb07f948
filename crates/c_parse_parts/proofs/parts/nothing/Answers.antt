use Rattle.c_parse_parts.proofs.Loops.{empty_made}
use Rattle.c_parse_parts.proofs.parts.nothing.Goals as goal

pub returns : goal.returns
returns c = empty_made c.new.result c.new-2.result c.new.ensures.items c.new-2.ensures.items
