use Rattle.std.proofs.Common.{◌≡◌, [], List, ℕ, sym, ap, subst, ◌∙◌}
use Rattle.std.specs.Prelude.{IfOk}
use Rattle.core_tree.specs.declared.expression.CorePart.{CorePart}
use Rattle.core_tree.specs.declared.expression.CoreStructure.{CoreStructure}
use Rattle.core_tree.specs.Trees.{view_structure, parts_of}
use Rattle.core_tree.proofs.Views.{view_list}
use Rattle.c_elab_type.specs.Initializers.{structure_bytes, parts_bytes}
use Rattle.c_elab_type.proofs.constant_bytes.+initial_bytes.Goals as goal

pub structure_bytes-returns-in-List : goal.structure_bytes-returns-in-List
structure_bytes-returns-in-List t c =
    let same : parts_bytes (parts_of c.deref.result.now) [] ≡ structure_bytes (view_structure c.args.value.now) =
    ap (λ (ps : List CorePart). parts_bytes (parts_of ps) []) c.deref.ensures.value
    ∙ sym (ap (λ (s : CoreStructure). structure_bytes (view_structure s)) c.in-List.is ∙ ap structure_bytes (view_list c.in-List.line c.in-List.size c.in-List.parts)) in
    subst (λ (specified : List ℕ). IfOk c.parts_bytes.result (λ bytes. bytes.items ≡ specified)) same c.parts_bytes.ensures
