use Rattle.std.proofs.Common.{ℕ, Bool, List, Option, option_map, subst, ap, ◌∙◌}
use Rattle.std.specs.Prelude.{OnOk, IfSome}
use Rattle.c_tree.specs.Declarations.{view_initializer}
use Rattle.c_types.specs.Types.{CType, view as type_view}
use Rattle.c_elab_object.specs.declared.object_entries.Said.{Said}
use Rattle.c_elab_object.specs.ObjectEntries.{object_entry_type, stated_type, earlier_linked, linked_object, IsObjectThere}
use Rattle.c_elab_object.proofs.ObjectSteps.{type_there, type_given}
use Rattle.c_elab_object.proofs.object_entries.object_type.Goals as goal

pub returns-clause-gives : goal.returns-clause-gives
returns-clause-gives c =
    let s = c.args.scope.now in
    let base = c.args.base.now in
    let i = option_map view_initializer c.args.declared.now.initializer in
    let view : Said → CType × Bool = λ t. (type_view t.type_, t.unknown_length) in
    let done = s.records.done in
    let r = object_entry_type done (type_view base.type_) c.args.is_extern i c.args.lengths.items in
    let earlier = c.earlier_linked-earlier.ensures ∙ ap (λ (n : List ℕ). earlier_linked c.args.region c.args.is_extern s n) c.name_of-name.ensures in
    let linked = c.linked_object-linked.ensures ∙ ap (λ (n : List ℕ). linked_object c.args.region c.args.is_extern s n) c.name_of-name.ensures in
    let stated = c.in_ok-stated.ensures ∙ ap (λ (ls : List (Option ℕ)). stated_type done (type_view base.type_) ls) c.deref.ensures.value in
    type_given view c.object_entry_node.result s base.constant r i c.full_line-line.result _ c.earlier_linked-earlier.result _ c.linked_object-linked.result _ (option_map view c.in_ok-stated.stated) _
    c.full_line-line.ensures earlier linked stated (c.object_entry_node.ensures r c.object_entry_type-made.ensures)

pub returns-clause-there : goal.returns-clause-there
returns-clause-there c =
    let s = c.args.scope.now in
    let base = c.args.base.now in
    let i = option_map view_initializer c.args.declared.now.initializer in
    let view : Said → CType × Bool = λ t. (type_view t.type_, t.unknown_length) in
    let r = object_entry_type s.records.done (type_view base.type_) c.args.is_extern i c.args.lengths.items in
    let linked = c.linked_object-linked.ensures ∙ ap (λ (n : List ℕ). linked_object c.args.region c.args.is_extern s n) c.name_of-name.ensures in
    subst (λ (o : Option ℕ). OnOk c.object_entry_node.result (IfSome o (λ k. IsObjectThere s k))) linked
    (type_there view c.object_entry_node.result c.full_line-line.result s base.constant c.earlier_linked-earlier.result c.linked_object-linked.result r (option_map view c.in_ok-stated.stated) i
    (c.object_entry_node.ensures r c.object_entry_type-made.ensures))
