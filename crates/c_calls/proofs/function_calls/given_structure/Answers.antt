use Rattle.std.proofs.Common.{ap, ap₂, ◌∙◌}
use Rattle.c_types.specs.Types.{CType, view as type_view}
use Rattle.core_tree.specs.declared.expression.CoreStructure.{CoreStructure}
use Rattle.core_tree.specs.Trees.{Structure, view_structure, give, arguments_of}
use Rattle.core_tree.proofs.Views.{view_give}
use Rattle.c_operators.specs.Pointers.{structure}
use Rattle.c_calls.proofs.function_calls.given_structure.Goals as goal

pub returns : goal.returns
returns c =
    ap (λ (a : CoreStructure). structure (type_view c.in_ok-type_.type_) (view_structure a)) c.in_ok-structure_in_box.ensures
    ∙ ap (λ (a : Structure). structure (type_view c.in_ok-type_.type_) a) (view_give c.args.line c.args.function c.args.used c.in_ok-size.size c.args.arguments)
    ∙ ap₂ (λ (u : CType) (n : _). structure u (give c.args.line c.args.function c.args.used n (arguments_of c.args.arguments.items))) c.in_ok-type_.ensures c.in_ok-size.ensures.size
