use Rattle.std.proofs.Common.{ap, sym, ◌∙◌}
use Rattle.core_tree.specs.declared.expression.CoreExpr.{CoreExpr}
use Rattle.core_tree.specs.declared.expression.CoreStructure.{CoreStructure}
use Rattle.core_tree.specs.Trees.{view, view_structure, parts_of, arguments_of, call, give, list}
use Rattle.core_tree.proofs.Views.{view_list, view_call, view_give}
use Rattle.core_tree.specs.Typed.{is_typed, is_structure}
use Rattle.core_check.specs.Around.{sizes_around}
use Rattle.core_check.proofs.expressions.+expression.Goals as goal

pub is_typed-returns-in-Call : goal.is_typed-returns-in-Call
is_typed-returns-in-Call t c =
    let s = sizes_around c.args.around.now in
    let node = c.in-Call in
    c.is_typed_call.ensures node.line
    ∙ ap (λ as_. is_typed s (call node.line node.function node.used node.type_ (arguments_of as_))) c.deref-in-Call.ensures.value
    ∙ sym (ap (λ (e : CoreExpr). is_typed s (view e)) node.is ∙ ap (is_typed s) (view_call node.line node.function node.used node.type_ node.arguments))

pub is_structure-returns-in-List : goal.is_structure-returns-in-List
is_structure-returns-in-List t c =
    let s = sizes_around c.args.around.now in
    let node = c.in-List in
    c.is_list.ensures node.line
    ∙ ap (λ ps. is_structure s (list node.line node.size (parts_of ps))) c.deref-in-List.ensures.value
    ∙ sym (ap (λ (a : CoreStructure). is_structure s (view_structure a)) node.is ∙ ap (is_structure s) (view_list node.line node.size node.parts))

pub is_structure-returns-in-Call : goal.is_structure-returns-in-Call
is_structure-returns-in-Call t c =
    let s = sizes_around c.args.around.now in
    let node = c.in-Call in
    c.is_given.ensures node.line node.used
    ∙ ap (λ as_. is_structure s (give node.line node.function node.used node.size (arguments_of as_))) c.deref-in-Call.ensures.value
    ∙ sym (ap (λ (a : CoreStructure). is_structure s (view_structure a)) node.is ∙ ap (is_structure s) (view_give node.line node.function node.used node.size node.arguments))
