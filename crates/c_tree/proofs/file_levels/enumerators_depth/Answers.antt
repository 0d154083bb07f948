use Rattle.std.proofs.Common.{take, ◌+◌, ap, arith}
use Rattle.c_tree.specs.declared.declaration.Enumerator.{Enumerator}
use Rattle.c_tree.proofs.Deepest.{deepest_within, deepest_more, enumerators_deepest, of_enumerator}
use Rattle.c_tree.proofs.file_levels.enumerators_depth.Goals as goal

pub value_depth-requires : goal.value_depth-requires
value_depth-requires c =
    let below = deepest_within of_enumerator c.args.enumerators.now c.loop-enumerator.enumerator-index c.enumerator-item.result (omega arith) in
    let all = enumerators_deepest c.args.enumerators.now in
    let e = ap (λ (x : Enumerator). of_enumerator x) c.enumerator-item.is in
    omega (arith, below, all, e)

pub loop-enumerator-preserved : goal.loop-enumerator-preserved
loop-enumerator-preserved c =
    let one = deepest_more of_enumerator c.args.enumerators.now c.loop-enumerator.enumerator-index c.enumerator-item.result (omega arith) in
    let next = enumerators_deepest (take (c.loop-enumerator.enumerator-index + 1) c.args.enumerators.now) in
    let before = enumerators_deepest (take c.loop-enumerator.enumerator-index c.args.enumerators.now) in
    let e = ap (λ (x : Enumerator). of_enumerator x) c.enumerator-item.is in
    omega (arith, one, next, before, e)
