use Rattle.std.proofs.Common.{refl, subst}
use Rattle.c_tree.specs.Tree.{Tree}
use Rattle.c_tree.proofs.Views.{view_sizeof_type}
use Rattle.c_parse_expr.specs.Reading.{Gives}
use Rattle.c_parse_expr.specs.inner.Findings.{tree_found}
use Rattle.c_parse_expr.specs.inner.Nodes.{read_as}
use Rattle.c_parse_expr.proofs.Made.{sizeof_depth}
use Rattle.c_parse_expr.proofs.nodes.sizeof_type_node.Goals as goal

pub made-requires : goal.made-requires
made-requires c = sizeof_depth c.args.line c.args.target.height c.args.target.type_name c.args.target.type_name.value c.requires.height refl

pub returns-clause-exact : goal.returns-clause-exact
returns-clause-exact c =
    subst (λ (t : Tree). Gives tree_found c.made.result (read_as t c.args.target.rest.now)) (view_sizeof_type c.args.line c.args.target.type_name) c.made.ensures.exact
