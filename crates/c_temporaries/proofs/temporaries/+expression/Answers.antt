use Rattle.std.proofs.Common.{ap, sym, ◌∙◌}
use Rattle.core_tree.specs.declared.expression.CoreStructure.{CoreStructure}
use Rattle.core_tree.specs.declared.expression.CoreExpr.{CoreExpr}
use Rattle.core_tree.specs.Trees.{view, view_structure, parts_of, arguments_of}
use Rattle.core_tree.proofs.Views.{view_list, view_call, view_give}
use Rattle.c_temporaries.specs.Temporaries.{Temporaries, temporaries, structure_temporaries, parts_temporaries, arguments_temporaries, call_needs, clearing}
use Rattle.c_temporaries.proofs.Greater.{same_temporaries}
use Rattle.c_temporaries.proofs.temporaries.+expression.Goals as goal

pub structure_temporaries-returns-in_ok-parts_temporaries-in-List : goal.structure_temporaries-returns-in_ok-parts_temporaries-in-List
structure_temporaries-returns-in_ok-parts_temporaries-in-List t c =
    c.clearing.ensures
    ∙ ap (λ (r : Temporaries). clearing c.in-List.size r) (c.in_ok-parts_temporaries-in-List.ensures ∙ ap (λ xs. parts_temporaries c.args.variables.now (parts_of xs)) c.deref-in-List.ensures.value)
    ∙ sym (ap (λ (s : CoreStructure). structure_temporaries c.args.variables.now (view_structure s)) c.in-List.is ∙ ap (structure_temporaries c.args.variables.now) (view_list c.in-List.line c.in-List.size c.in-List.parts))

pub expression_temporaries-returns-in-Call : goal.expression_temporaries-returns-in-Call
expression_temporaries-returns-in-Call t c =
    let l = c.in-Call in
    let same = c.deref-in-Call.ensures.value in
    same_temporaries c.call_temporaries.result _ _
    ((λ i. call_needs (c.value_size.ensures i) (arguments_of (same i)) (arguments_temporaries c.args.variables.now (arguments_of (same i))))
    ∙ sym (ap (λ (e : CoreExpr). temporaries c.args.variables.now (view e)) l.is ∙ ap (temporaries c.args.variables.now) (view_call l.line l.function l.used l.type_ l.arguments)))
    c.call_temporaries.ensures

pub structure_temporaries-returns-in-Call : goal.structure_temporaries-returns-in-Call
structure_temporaries-returns-in-Call t c =
    let l = c.in-Call in
    let same = c.deref-in-Call.ensures.value in
    same_temporaries c.call_temporaries.result _ _
    ((λ i. call_needs l.size (arguments_of (same i)) (arguments_temporaries c.args.variables.now (arguments_of (same i))))
    ∙ sym (ap (λ (s : CoreStructure). structure_temporaries c.args.variables.now (view_structure s)) l.is ∙ ap (structure_temporaries c.args.variables.now) (view_give l.line l.function l.used l.size l.arguments)))
    c.call_temporaries.ensures
