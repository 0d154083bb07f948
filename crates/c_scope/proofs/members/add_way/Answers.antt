use Rattle.c_scope.proofs.Tables.{there_already, one_more}
use Rattle.c_scope.proofs.members.add_way.Goals as goal

pub returns-then-contains_key : goal.returns-then-contains_key
returns-then-contains_key c = there_already c.args.ways.now.entries c.args.name c.args.way c.as_slice.result.now c.as_slice.ensures.value c.if-contains_key.ensures

pub returns : goal.returns
returns c = one_more c.args.ways.now.entries c.insert.new.self.entries c.args.name c.args.way c.as_slice.result.now c.as_slice.ensures.value c.if-contains_key.ensures c.in_ok-_old.ensures.entries
