use Rattle.std.proofs.Common.{ap, sym, ◌∙◌}
use Rattle.core_tree.specs.declared.expression.CoreExpr.{CoreExpr}
use Rattle.core_tree.specs.declared.expression.CoreStructure.{CoreStructure}
use Rattle.core_tree.specs.Trees.{view, view_structure, view_functions, parts_of, arguments_of}
use Rattle.core_tree.proofs.Views.{view_list, view_call, view_give}
use Rattle.c_profile.specs.Rules.{expression_breach, structure_breach, parts_breach, arguments_breach}
use Rattle.c_profile.proofs.Mains.{both}
use Rattle.c_profile.proofs.breaches.+expression.Goals as goal

pub expression_breach-returns-in-Call : goal.expression_breach-returns-in-Call
expression_breach-returns-in-Call t c =
    let fs = view_functions c.args.functions.now in
    c.earlier-in-Call.ensures
    ∙ both c.call_breach.ensures (c.arguments_breach.ensures ∙ ap (λ as_. arguments_breach fs (arguments_of as_)) c.deref-in-Call.ensures.value)
    ∙ sym (ap (λ (e : CoreExpr). expression_breach fs (view e)) c.in-Call.is ∙ ap (expression_breach fs) (view_call c.in-Call.line c.in-Call.function c.in-Call.used c.in-Call.type_ c.in-Call.arguments))

pub structure_breach-returns-in-List : goal.structure_breach-returns-in-List
structure_breach-returns-in-List t c =
    let fs = view_functions c.args.functions.now in
    c.parts_breach.ensures
    ∙ ap (λ ps. parts_breach fs (parts_of ps)) c.deref-in-List.ensures.value
    ∙ sym (ap (λ (s : CoreStructure). structure_breach fs (view_structure s)) c.in-List.is ∙ ap (structure_breach fs) (view_list c.in-List.line c.in-List.size c.in-List.parts))

pub structure_breach-returns-in-Call : goal.structure_breach-returns-in-Call
structure_breach-returns-in-Call t c =
    let fs = view_functions c.args.functions.now in
    c.earlier-in-Call.ensures
    ∙ both c.call_breach.ensures (c.arguments_breach.ensures ∙ ap (λ as_. arguments_breach fs (arguments_of as_)) c.deref-in-Call.ensures.value)
    ∙ sym (ap (λ (s : CoreStructure). structure_breach fs (view_structure s)) c.in-Call.is ∙ ap (structure_breach fs) (view_give c.in-Call.line c.in-Call.function c.in-Call.used c.in-Call.size c.in-Call.arguments))
