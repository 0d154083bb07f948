use Rattle.std.proofs.Common.{ℕ, List, ap, ap₂, ◌∙◌}
use Rattle.c_types.specs.Types.{view as type_view}
use Rattle.core_tree.specs.declared.expression.CorePart.{CorePart}
use Rattle.core_tree.specs.declared.expression.CoreStructure.{CoreStructure}
use Rattle.core_tree.specs.Trees.{Structure, view_structure, list, parts_of}
use Rattle.core_tree.proofs.Views.{view_list}
use Rattle.c_operators.specs.Pointers.{structure}
use Rattle.c_calls.proofs.pointer_calls.no_structure.Goals as goal

pub returns : goal.returns
returns c =
    let t = type_view c.args.type_ in
    ap (λ (a : CoreStructure). structure t (view_structure a)) c.in_ok-structure_in_box.ensures
    ∙ ap (λ (a : Structure). structure t a) (view_list c.args.line c.in_ok-bytes_of.field-0 c.new.result)
    ∙ ap₂ (λ (n : ℕ) (ps : List CorePart). structure t (list c.args.line n (parts_of ps))) c.in_ok-bytes_of.ensures.size c.new.ensures.items
