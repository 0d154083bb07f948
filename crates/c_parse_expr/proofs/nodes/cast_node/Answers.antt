use Rattle.std.proofs.Common.{refl, subst}
use Rattle.c_tree.specs.Tree.{Tree}
use Rattle.c_tree.proofs.Views.{view_cast}
use Rattle.c_parse_expr.specs.Reading.{Gives}
use Rattle.c_parse_expr.specs.inner.Findings.{tree_found}
use Rattle.c_parse_expr.specs.inner.Nodes.{read_as}
use Rattle.c_parse_expr.proofs.Made.{cast_depth}
use Rattle.c_parse_expr.proofs.nodes.cast_node.Goals as goal

pub made-requires : goal.made-requires
made-requires c =
    cast_depth c.args.line c.args.target.height c.args.operand.height c.larger-height.result c.args.target.type_name c.args.operand.tree c.args.target.type_name.value c.args.operand.tree.value
    c.larger-height.ensures c.requires.type_height c.requires.height refl refl

pub returns-clause-exact : goal.returns-clause-exact
returns-clause-exact c =
    subst (λ (t : Tree). Gives tree_found c.made.result (read_as t c.args.operand.rest.now)) (view_cast c.args.line c.args.target.type_name c.args.operand.tree) c.made.ensures.exact
