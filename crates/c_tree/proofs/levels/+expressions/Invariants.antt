use Rattle.std.proofs.Common.{◌≡◌, ◌+◌, ◌*◌, take}
use Rattle.c_tree.specs.Tree.{no_suffix, view, views_of, view_core, view_declarator, view_suffix, suffixes_of, depth, depth_of, declared_depth, suffixes_depth}
use Rattle.c_tree.proofs.levels.+expressions.Given as goal

abbrev pub invariant-arguments_depth-loop-expr : goal.invariant-arguments_depth-loop-expr
invariant-arguments_depth-loop-expr l = l.levels ≡ depth_of (views_of (take l.expr-index l.exprs))

abbrev pub invariant-suffixes_depth-loop-suffix : goal.invariant-suffixes_depth-loop-suffix
invariant-suffixes_depth-loop-suffix l = l.levels ≡ suffixes_depth (suffixes_of (take l.suffix-index l.suffixes))

abbrev pub decreases-expression_depth : goal.decreases-expression_depth
decreases-expression_depth l = 5 * depth (view l.expr.now)

abbrev pub decreases-arguments_depth : goal.decreases-arguments_depth
decreases-arguments_depth l = 5 * depth_of (views_of l.exprs.now) + 3

abbrev pub decreases-declarator_depth : goal.decreases-declarator_depth
decreases-declarator_depth l = 5 * declared_depth (view_declarator l.declarator.now) + 4

abbrev pub decreases-direct_depth : goal.decreases-direct_depth
decreases-direct_depth l = 5 * declared_depth (view_core l.declarator.now.core (suffixes_of l.declarator.now.suffixes.items)) + 3

abbrev pub decreases-suffixes_depth : goal.decreases-suffixes_depth
decreases-suffixes_depth l = 5 * suffixes_depth (suffixes_of l.suffixes.now) + 2

abbrev pub decreases-suffix_depth : goal.decreases-suffix_depth
decreases-suffix_depth l = 5 * suffixes_depth (view_suffix l.suffix.now no_suffix) + 1
