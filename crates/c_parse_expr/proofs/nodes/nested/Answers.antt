use Rattle.std.proofs.Common.{List, ap, sym, ◌∙◌}
use Rattle.c_tree.specs.declared.expr.PointerMark.{PointerMark}
use Rattle.c_tree.specs.declared.expr.Declarator.{Declarator}
use Rattle.c_tree.specs.declared.expr.DeclaratorCore.{Inside}
use Rattle.c_tree.specs.Tree.{Declared, inside, behind_pointers, view_core, view_declarator, suffixes_of, declared_depth}
use Rattle.c_tree.proofs.Views.{view_inside}
use Rattle.c_parse_expr.specs.inner.Nodes.{declared_as}
use Rattle.c_parse_expr.proofs.Made.{inside_depth}
use Rattle.c_parse_expr.proofs.nodes.nested.Goals as goal

pub returns-clause-exact : goal.returns-clause-exact
returns-clause-exact c =
    let ss = suffixes_of c.args.suffixes.suffixes.items in
    ap (λ (x : Declarator). declared_as (inside c.args.line (view_declarator x) ss) c.args.suffixes.rest.now) (sym c.in_ok-inner.ensures.ok)
    ∙ ap (λ (x : Declared). declared_as x c.args.suffixes.rest.now) (sym (view_inside c.args.line c.in_ok-inner.inner ss))
    ∙ ap (λ (ps : List PointerMark). declared_as (behind_pointers ps (view_core (Inside c.args.line c.in_ok-inner.inner) ss)) c.args.suffixes.rest.now) (sym c.new-2.ensures.items)

pub returns-clause-height : goal.returns-clause-height
returns-clause-height c =
    let ss = suffixes_of c.args.suffixes.suffixes.items in
    inside_depth c.args.line c.args.height c.args.suffixes.height c.larger-height.result c.args.declared c.in_ok-inner.inner ss
    c.larger-height.ensures c.requires.height c.requires.suffixes c.in_ok-inner.ensures.ok
    ∙ ap (λ (ps : List PointerMark). declared_depth (behind_pointers ps (view_core (Inside c.args.line c.in_ok-inner.inner) ss))) (sym c.new-2.ensures.items)
