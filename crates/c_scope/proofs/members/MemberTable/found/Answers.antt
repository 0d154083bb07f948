use Rattle.c_scope.proofs.Tables.{found_way}
use Rattle.c_scope.proofs.members.MemberTable.found.Goals as goal

pub returns : goal.returns
returns c = found_way c.get.result c.args.self.now.ways.entries c.args.name.now c.get.ensures.value
