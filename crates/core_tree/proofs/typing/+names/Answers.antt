use Rattle.std.proofs.Common.{sym, ap, ◌∙◌}
use Rattle.core_tree.specs.Trees.{view, view_structure, parts_of, arguments_of}
use Rattle.core_tree.specs.Typed.{names_variable, structure_names, parts_name, arguments_name}
use Rattle.core_tree.proofs.Views.{view_list, view_call, view_give}
use Rattle.core_tree.proofs.typing.+names.Goals as goal

pub structure_names_variable-returns-in-List : goal.structure_names_variable-returns-in-List
structure_names_variable-returns-in-List t c =
    c.parts_name.ensures
    ∙ ap (λ ps. parts_name c.args.variable (parts_of ps)) c.deref-in-List.ensures.value
    ∙ sym (ap (λ s. structure_names c.args.variable (view_structure s)) c.in-List.is ∙ ap (structure_names c.args.variable) (view_list c.in-List.line c.in-List.size c.in-List.parts))

pub names_variable-returns-in-Call : goal.names_variable-returns-in-Call
names_variable-returns-in-Call t c =
    c.arguments_name.ensures
    ∙ ap (λ as_. arguments_name c.args.variable (arguments_of as_)) c.deref-in-Call.ensures.value
    ∙ sym (ap (λ e. names_variable c.args.variable (view e)) c.in-Call.is ∙ ap (names_variable c.args.variable) (view_call c.in-Call.line c.in-Call.function c.in-Call.used c.in-Call.type_ c.in-Call.arguments))

pub structure_names_variable-returns-in-Call : goal.structure_names_variable-returns-in-Call
structure_names_variable-returns-in-Call t c =
    c.arguments_name.ensures
    ∙ ap (λ as_. arguments_name c.args.variable (arguments_of as_)) c.deref-in-Call.ensures.value
    ∙ sym (ap (λ s. structure_names c.args.variable (view_structure s)) c.in-Call.is ∙ ap (structure_names c.args.variable) (view_give c.in-Call.line c.in-Call.function c.in-Call.used c.in-Call.size c.in-Call.arguments))
