use Rattle.std.proofs.Common.{List, ap, ◌∙◌, arith}
use Rattle.c_tree.specs.declared.declaration.Initializer.{Initializer}
use Rattle.c_tree.specs.Declarations.{view_initializer, initials_of, initial_depth, initials_depth}
use Rattle.c_tree.proofs.DeclarationViews.{view_braces}
use Rattle.c_tree.proofs.Deepest.{deepest_within, of_initializer, initials_deepest}
use Rattle.properties.proofs.Behind.{by_initializer, initials_in_turn, one_more, at_end}
use Rattle.properties.proofs.Arms.{braces_arm}
use Rattle.properties.proofs.declarations.+initializers.Goals as goal

pub push_initial-push_initials-requires : goal.push_initial-push_initials-requires
push_initial-push_initials-requires t c =
    let e = ap (λ (i : Initializer). initial_depth (view_initializer i)) c.in-List.is ∙ ap initial_depth (view_braces c.in-List.line c.in-List.items) in
    let same = ap (λ (is : List Initializer). initials_depth (initials_of is)) c.deref-in-List.ensures.value in
    omega (arith, e, same)

pub push_initials-push_initial-requires : goal.push_initials-push_initial-requires
push_initials-push_initial-requires t c =
    let below = deepest_within of_initializer c.args.initializers.now c.loop-initializer.initializer-index c.initializer-item.result (omega arith) in
    let all = initials_deepest c.args.initializers.now in
    let e = ap (λ (x : Initializer). of_initializer x) c.initializer-item.is in
    omega (arith, below, all, e)

pub push_initials-loop-initializer-preserved : goal.push_initials-loop-initializer-preserved
push_initials-loop-initializer-preserved t c =
    one_more by_initializer _ _ _ c.args.initializers.now c.loop-initializer.initializer-index c.initializer-item.result (omega arith) c.loop-initializer.invariant c.initializer-item.is c.in_ok-push_initial.ensures

pub push_initials-returns : goal.push_initials-returns
push_initials-returns t c = at_end by_initializer _ _ _ c.args.initializers.now c.loop-initializer.initializer-index c.loop-initializer-test.false c.loop-initializer.invariant (initials_in_turn _ c.args.initializers.now)

pub push_initial-returns-in_ok-push_initials-in-List : goal.push_initial-returns-in_ok-push_initials-in-List
push_initial-returns-in_ok-push_initials-in-List t c =
    braces_arm _ _ c.in-List.line c.in-List.items c.args.initializer.now _ c.in-List.is c.in_ok-push_initials-in-List.ensures c.deref-in-List.ensures.value
