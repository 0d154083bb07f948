use Rattle.std.proofs.Common.{take, ◌+◌, ap, arith}
use Rattle.c_tree.specs.declared.declaration.InitDeclarator.{InitDeclarator}
use Rattle.c_tree.proofs.Deepest.{deepest_within, deepest_more, declarators_deepest, of_init_declarator}
use Rattle.c_tree.proofs.file_levels.declarators_depth.Goals as goal

pub full_depth-requires : goal.full_depth-requires
full_depth-requires c =
    let below = deepest_within of_init_declarator c.args.declarators.now c.loop-declarator.declarator-index c.declarator-item.result (omega arith) in
    let all = declarators_deepest c.args.declarators.now in
    let e = ap (λ (x : InitDeclarator). of_init_declarator x) c.declarator-item.is in
    omega (arith, below, all, e)

pub loop-declarator-preserved : goal.loop-declarator-preserved
loop-declarator-preserved c =
    let one = deepest_more of_init_declarator c.args.declarators.now c.loop-declarator.declarator-index c.declarator-item.result (omega arith) in
    let next = declarators_deepest (take (c.loop-declarator.declarator-index + 1) c.args.declarators.now) in
    let before = declarators_deepest (take c.loop-declarator.declarator-index c.args.declarators.now) in
    let e = ap (λ (x : InitDeclarator). of_init_declarator x) c.declarator-item.is in
    omega (arith, one, next, before, e)

pub initializer_depth-requires : goal.initializer_depth-requires
initializer_depth-requires c =
    let below = deepest_within of_init_declarator c.args.declarators.now c.loop-declarator.declarator-index c.declarator-item.result (omega arith) in
    let all = declarators_deepest c.args.declarators.now in
    let e = ap (λ (x : InitDeclarator). of_init_declarator x) c.declarator-item.is in
    omega (arith, below, all, e)
