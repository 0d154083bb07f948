use Rattle.std.proofs.Common.{arith}
use Rattle.goto_lower.proofs.InTurn.{next_code, no_codes}
use Rattle.goto_lower.proofs.lowering.lower_functions.Goals as goal

pub loop-number-preserved : goal.loop-number-preserved
loop-number-preserved c =
    let fs = c.args.functions.now in
    let n = c.loop-number.number in
    next_code c.args.literals fs n c.index-functions-number.result c.loop-number.procedures.items _ c.in_ok-procedure.procedure _ (omega arith) c.index-functions-number.is c.in_ok-procedure.ensures c.in_ok-push.ensures.items c.loop-number.invariant

pub returns : goal.returns
returns c = no_codes c.args.literals c.args.functions.now c.loop-number.number c.loop-number.procedures.items _ (omega arith) c.loop-number.invariant
