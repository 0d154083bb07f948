use Rattle.std.proofs.Common.{◌≡◌, ◌+◌, ◌*◌, max, drop, map}
use Rattle.c_tree.specs.Tree.{view as tree, views_of as trees, view_core}
use Rattle.c_tree.specs.Tree.{view_declarator, view_suffix, no_suffix, suffixes_of, depth, depth_of, declared_depth, suffixes_depth}
use Rattle.c_operands.specs.Operands.{view_operand}
use Rattle.c_elab_expr.specs.Typing.{typed_arguments, suffix_lengths, behind}
use Rattle.c_elab_expr.proofs.Arguments.{front}
use Rattle.c_elab_expr.proofs.typing.+typing.Given as goal

abbrev pub invariant-typed_arguments-loop-expr : goal.invariant-typed_arguments-loop-expr
invariant-typed_arguments-loop-expr l = front (map view_operand l.arguments.items) (typed_arguments l.scope l.measured (trees (drop l.expr-index l.exprs))) ≡ typed_arguments l.scope l.measured (trees l.exprs)

abbrev pub invariant-add_suffixes-loop-suffix : goal.invariant-add_suffixes-loop-suffix
invariant-add_suffixes-loop-suffix l =
    behind l.found.items (suffix_lengths l.scope l.measured (suffixes_of (drop l.suffix-index l.suffixes))) ≡ behind l.initial.found.items (suffix_lengths l.scope l.measured (suffixes_of l.suffixes))

abbrev pub decreases-typed_expr : goal.decreases-typed_expr
decreases-typed_expr l = 10 * depth (tree l.expr.now)

abbrev pub decreases-callee : goal.decreases-callee
decreases-callee l = 10 * depth (tree l.function.now) + 3

abbrev pub decreases-operand_size : goal.decreases-operand_size
decreases-operand_size l = 10 * depth (tree l.operand.now) + 1

abbrev pub decreases-typed_arguments : goal.decreases-typed_arguments
decreases-typed_arguments l = 10 * depth_of (trees l.exprs.now) + 3

abbrev pub decreases-bound_in : goal.decreases-bound_in
decreases-bound_in l = 10 * depth (tree l.expr.now) + 3

abbrev pub decreases-add_suffix : goal.decreases-add_suffix
decreases-add_suffix l = 10 * suffixes_depth (view_suffix l.suffix.now no_suffix) + 4

abbrev pub decreases-add_suffixes : goal.decreases-add_suffixes
decreases-add_suffixes l = 10 * suffixes_depth (suffixes_of l.suffixes.now) + 5

abbrev pub decreases-add_direct_lengths : goal.decreases-add_direct_lengths
decreases-add_direct_lengths l = 10 * declared_depth (view_core l.declarator.now.core (suffixes_of l.declarator.now.suffixes.items)) + 6

abbrev pub decreases-add_lengths : goal.decreases-add_lengths
decreases-add_lengths l = 10 * declared_depth (view_declarator l.declarator.now) + 7

abbrev pub decreases-lengths : goal.decreases-lengths
decreases-lengths l = 10 * declared_depth (view_declarator l.declarator.now) + 8

abbrev pub decreases-type_named : goal.decreases-type_named
decreases-type_named l = 10 * declared_depth (view_declarator l.name.now.declarator) + 9

abbrev pub decreases-used_expr : goal.decreases-used_expr
decreases-used_expr l = 10 * depth (tree l.expr.now) + 2

abbrev pub decreases-used_both : goal.decreases-used_both
decreases-used_both l = 10 * max (depth (tree l.left.now)) (depth (tree l.right.now)) + 2

abbrev pub decreases-used_by : goal.decreases-used_by
decreases-used_by l = 10 * depth (tree l.expr.now) + 1
