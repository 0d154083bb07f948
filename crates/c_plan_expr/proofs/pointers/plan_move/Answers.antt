use Rattle.c_plan_expr.proofs.pointers.plan_move.Goals as goal

pub returns : goal.returns
returns c = c.plan_look.ensures c.args._step
