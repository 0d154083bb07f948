use Rattle.std.proofs.Common.{sym}
use Rattle.c_scope.proofs.Compared.{other_count}
use Rattle.c_scope.proofs.comparing.same_types.Goals as goal

pub returns-then-a-b : goal.returns-then-a-b
returns-then-a-b c = sym (other_count c.args.a.now c.args.b.now c.if-a-b.true)
