use Rattle.std.proofs.Common.{◌<◌, ◌+◌, List, take, ap, ◌∙◌, arith}
use Rattle.c_tree.specs.declared.declaration.Initializer.{Initializer}
use Rattle.c_tree.specs.Declarations.{view_initializer, initials_of, initial_depth, initials_depth}
use Rattle.c_tree.proofs.DeclarationViews.{view_braces}
use Rattle.c_tree.proofs.Deepest.{deepest_within, deepest_more, of_initializer, initials_deepest}
use Rattle.c_tree.proofs.file_levels.+initializers.Goals as goal

pub initial_depth-initials_depth-requires : goal.initial_depth-initials_depth-requires
initial_depth-initials_depth-requires t c =
    let e = ap (λ (i : Initializer). initial_depth (view_initializer i)) c.in-List.is ∙ ap initial_depth (view_braces c.in-List.line c.in-List.items) in
    let same = ap (λ (is : List Initializer). initials_depth (initials_of is)) c.deref-in-List.ensures.value in
    let small : initial_depth (view_initializer c.args.initializer.now) < 4294967296 = c.requires in
    (omega (arith, e, same), omega (arith, e, same))

pub initial_depth-overflow_add-result : goal.initial_depth-overflow_add-result
initial_depth-overflow_add-result t c =
    let e = ap (λ (i : Initializer). initial_depth (view_initializer i)) c.in-List.is ∙ ap initial_depth (view_braces c.in-List.line c.in-List.items) in
    let same = ap (λ (is : List Initializer). initials_depth (initials_of is)) c.deref-in-List.ensures.value in
    omega (arith, e, same)

pub initial_depth-returns-in-List : goal.initial_depth-returns-in-List
initial_depth-returns-in-List t c =
    let e = ap (λ (i : Initializer). initial_depth (view_initializer i)) c.in-List.is ∙ ap initial_depth (view_braces c.in-List.line c.in-List.items) in
    let same = ap (λ (is : List Initializer). initials_depth (initials_of is)) c.deref-in-List.ensures.value in
    omega (arith, e, same)

pub initials_depth-initial_depth-requires : goal.initials_depth-initial_depth-requires
initials_depth-initial_depth-requires t c =
    let below = deepest_within of_initializer c.args.initializers.now c.loop-initializer.initializer-index c.initializer-item.result (omega arith) in
    let all = initials_deepest c.args.initializers.now in
    let e = ap (λ (x : Initializer). of_initializer x) c.initializer-item.is in
    (omega (arith, below, all, e), omega (arith, below, all, e))

pub initials_depth-loop-initializer-preserved : goal.initials_depth-loop-initializer-preserved
initials_depth-loop-initializer-preserved t c =
    let one = deepest_more of_initializer c.args.initializers.now c.loop-initializer.initializer-index c.initializer-item.result (omega arith) in
    let next = initials_deepest (take (c.loop-initializer.initializer-index + 1) c.args.initializers.now) in
    let before = initials_deepest (take c.loop-initializer.initializer-index c.args.initializers.now) in
    let e = ap (λ (x : Initializer). of_initializer x) c.initializer-item.is in
    omega (arith, one, next, before, e)
