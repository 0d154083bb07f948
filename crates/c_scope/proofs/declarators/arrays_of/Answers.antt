use Rattle.std.proofs.Common.{arith}
use Rattle.std.proofs.lemmas.Result.{err_from_is_err_and}
use Rattle.c_types.specs.Types.{view}
use Rattle.c_scope.proofs.Arrays.{array_breaks, all_break}
use Rattle.c_scope.proofs.declarators.arrays_of.Goals as goal

pub returns-in_err-size : goal.returns-in_err-size
returns-in_err-size c =
    let p = err_from_is_err_and c.from_residual.result c.from_residual.ensures.1 in
    rw (p.1, p.2) (all_break c.in_err-size.field-0.0 c.args.layouts.now.done (view c.args.element) c.args.lengths.now (grind arith) c.in_err-size.ensures.size)

pub returns-in_err-type_ : goal.returns-in_err-type_
returns-in_err-type_ c =
    let p = err_from_is_err_and c.from_residual-in_err-type_.result c.from_residual-in_err-type_.ensures.1 in
    rw (p.1, p.2) (array_breaks c.in_err-type_.field-0.0 c.args.layouts.now.done (view c.args.element) c.args.lengths.now c.loop-left.left _ (view c.loop-left.type_) (omega arith) (omega arith)
    c.loop-left.invariant.0 c.in_err-type_.ensures.array)
