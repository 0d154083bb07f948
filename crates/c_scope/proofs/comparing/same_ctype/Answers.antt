use Rattle.c_types.specs.Types.{view}
use Rattle.c_scope.proofs.Compared.{test_of_types}
use Rattle.c_scope.proofs.comparing.same_ctype.Goals as goal

pub returns : goal.returns
returns c = test_of_types c.same.result (view c.args.a.now) (view c.args.b.now) c.same.ensures.0 c.same.ensures.1
