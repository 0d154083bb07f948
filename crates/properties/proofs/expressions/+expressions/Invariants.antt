use Rattle.std.proofs.Common.{◌≡◌, ◌+◌, ◌*◌, max, take, fold}
use Rattle.c_tree.specs.Tree.{no_suffix, view, views_of, view_declarator, view_suffix, suffixes_of, depth, depth_of, declared_depth, suffixes_depth, view_core}
use Rattle.properties.proofs.Behind.{by_expr, by_suffix}
use Rattle.properties.proofs.expressions.+expressions.Given as goal

abbrev pub invariant-push_arguments-loop-expr : goal.invariant-push_arguments-loop-expr
invariant-push_arguments-loop-expr l = l.spots.items ≡ fold by_expr l.fn.spots.items (take l.expr-index l.exprs)

abbrev pub invariant-push_suffixes-loop-suffix : goal.invariant-push_suffixes-loop-suffix
invariant-push_suffixes-loop-suffix l = l.spots.items ≡ fold by_suffix l.fn.spots.items (take l.suffix-index l.suffixes)

abbrev pub decreases-push_expression : goal.decreases-push_expression
decreases-push_expression l = 5 * depth (view l.expr.now)

abbrev pub decreases-push_both : goal.decreases-push_both
decreases-push_both l = 5 * max (depth (view l.first.now)) (depth (view l.second.now)) + 1

abbrev pub decreases-push_arguments : goal.decreases-push_arguments
decreases-push_arguments l = 5 * depth_of (views_of l.exprs.now) + 3

abbrev pub decreases-push_direct : goal.decreases-push_direct
decreases-push_direct l = 5 * declared_depth (view_core l.declarator.now.core (suffixes_of l.declarator.now.suffixes.items)) + 3

abbrev pub decreases-push_declarator : goal.decreases-push_declarator
decreases-push_declarator l = 5 * declared_depth (view_declarator l.declarator.now) + 4

abbrev pub decreases-push_suffixes : goal.decreases-push_suffixes
decreases-push_suffixes l = 5 * suffixes_depth (suffixes_of l.suffixes.now) + 2

abbrev pub decreases-push_suffix : goal.decreases-push_suffix
decreases-push_suffix l = 5 * suffixes_depth (view_suffix l.suffix.now no_suffix) + 1
