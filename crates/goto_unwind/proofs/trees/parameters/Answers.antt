use Rattle.std.proofs.Common.{◌+◌, drop, arith, sym, ap, ◌∙◌}
use Rattle.goto_unwind.specs.Linear.{Linear, parameters_made}
use Rattle.goto_unwind.proofs.Parameters.{parameter_made, parameters_end}
use Rattle.goto_unwind.proofs.trees.parameters.Goals as goal

pub loop-place-preserved : goal.loop-place-preserved
loop-place-preserved c =
    let ps = c.args.parameters.now in
    let vs = c.args.variables.now in
    let k = c.loop-place.place in
    ap (λ (s : Linear). parameters_made 1 (drop (k + 1) ps) (drop (k + 1) vs) s) c.make_home.ensures
    ∙ parameter_made 1 ps vs _ c.loop-place.linear_count k (omega (arith, c.loop-place-test.true, c.min-place-end.ensures)) (omega (arith, c.loop-place-test.true, c.min-place-end.ensures))
    ∙ c.loop-place.invariant

pub returns : goal.returns
returns c =
    let ps = c.args.parameters.now in
    let vs = c.args.variables.now in
    let k = c.loop-place.place in
    sym (parameters_end 1 ps vs c.loop-place.linear_count k (omega (arith, c.loop-place-test.false, c.min-place-end.ensures))) ∙ c.loop-place.invariant
