use Rattle.c_parse_expr.proofs.Complete.{one_declared}
use Rattle.c_parse_expr.proofs.place.one_declarator.Goals as goal

pub returns : goal.returns
returns c bytes names levels with_name d e tokens rest others s r = one_declared bytes names levels with_name d e tokens rest others s r
