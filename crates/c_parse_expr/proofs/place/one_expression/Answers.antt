use Rattle.c_parse_expr.proofs.Complete.{one_tree}
use Rattle.c_parse_expr.proofs.place.one_expression.Goals as goal

pub returns : goal.returns
returns c bytes names levels k t u tokens rest others s r = one_tree bytes names levels k t u tokens rest others s r
