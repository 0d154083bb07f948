use Rattle.std.proofs.Common.{ap, sym, ◌∙◌}
use Rattle.core_tree.specs.declared.expression.CoreExpr.{CoreExpr}
use Rattle.core_tree.specs.declared.expression.CoreStructure.{CoreStructure}
use Rattle.core_tree.specs.Trees.{Expression, Structure, view, view_structure, parts_of, arguments_of}
use Rattle.core_tree.proofs.Views.{view_list, view_call, view_give}
use Rattle.goto_unwind.specs.Linear.{called, expression_linear, structure_linear, parts_linear, arguments_linear}
use Rattle.goto_unwind.proofs.Adding.{ok_same}
use Rattle.goto_unwind.proofs.trees.+expression.Goals as goal

pub expression-returns-in_ok-arguments_of_call-in-Call : goal.expression-returns-in_ok-arguments_of_call-in-Call
expression-returns-in_ok-arguments_of_call-in-Call t c =
    let n = c.args.times in
    let i = c.in-Call in
    let linear_count = c.args.linear_count.now in
    ok_same c.call.result _ _ _
    (ap (called i.function n) (c.in_ok-arguments_of_call-in-Call.ensures
    ∙ ap (λ as_. arguments_linear n (arguments_of as_) c.add-in-Call.new.self) c.deref-in-Call.ensures.value
    ∙ ap (arguments_linear n (arguments_of i.arguments.items)) c.add-in-Call.ensures)
    ∙ sym (ap (λ (e : CoreExpr). expression_linear n (view e) linear_count) i.is ∙ ap (λ (e : Expression). expression_linear n e linear_count) (view_call i.line i.function i.used i.type_ i.arguments)))
    c.call.ensures

pub structure-returns-in-List : goal.structure-returns-in-List
structure-returns-in-List t c =
    let n = c.args.times in
    let i = c.in-List in
    let linear_count = c.args.linear_count.now in
    ok_same c.parts_of_list.result _ _ _
    (ap (λ ps. parts_linear n (parts_of ps) linear_count) c.deref-in-List.ensures.value
    ∙ sym (ap (λ (a : CoreStructure). structure_linear n (view_structure a) linear_count) i.is ∙ ap (λ (a : Structure). structure_linear n a linear_count) (view_list i.line i.size i.parts)))
    c.parts_of_list.ensures

pub structure-returns-in_ok-arguments_of_call-in-Call : goal.structure-returns-in_ok-arguments_of_call-in-Call
structure-returns-in_ok-arguments_of_call-in-Call t c =
    let n = c.args.times in
    let i = c.in-Call in
    let linear_count = c.args.linear_count.now in
    ok_same c.call.result _ _ _
    (ap (called i.function n) (c.in_ok-arguments_of_call-in-Call.ensures
    ∙ ap (λ as_. arguments_linear n (arguments_of as_) c.add-in-Call.new.self) c.deref-in-Call.ensures.value
    ∙ ap (arguments_linear n (arguments_of i.arguments.items)) c.add-in-Call.ensures)
    ∙ sym (ap (λ (a : CoreStructure). structure_linear n (view_structure a) linear_count) i.is ∙ ap (λ (a : Structure). structure_linear n a linear_count) (view_give i.line i.function i.used i.size i.arguments)))
    c.call.ensures
