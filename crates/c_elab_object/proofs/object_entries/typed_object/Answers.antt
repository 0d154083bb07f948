use Rattle.std.proofs.Common.{◌≡◌, ℕ, Bool, List, Option, option_map, ap, ◌∙◌}
use Rattle.std.specs.Prelude.{◌&&◌, is_some}
use Rattle.c_tree.specs.Declarations.{view_full, view_initializer}
use Rattle.c_types.specs.Types.{CType, view as type_view}
use Rattle.c_scope.specs.Scopes.{view_named}
use Rattle.c_elab_type.specs.Initializers.{view_value}
use Rattle.c_elab_base.specs.Declarators.{is_open}
use Rattle.c_elab_object.proofs.ObjectSteps.{typed_as}
use Rattle.c_elab_object.proofs.object_entries.typed_object.Goals as goal

pub returns-clause-gives : goal.returns-clause-gives
returns-clause-gives c =
    let said = c.in_ok-said.said in
    let within = c.in_ok-within.within in
    let x : CType × Bool = (type_view said.type_, said.unknown_length) in
    let y : CType × Bool = (type_view within.type_, within.unknown_length) in
    let i = option_map view_initializer c.args.declared.now.initializer in
    let counted : c.is_counted-counted.result ≡ (is_some i && is_open c.args.lengths.items) = c.is_counted-counted.ensures ∙ ap (λ (ls : List (Option ℕ)). is_some i && is_open ls) c.deref.ensures.value in
    typed_as c.args.region c.args.is_extern c.args.scope.now (view_named c.args.base.now) (view_full c.args.declared.now.declarator) i
    c.full_line-line.result c.defines-defines.result c.is_counted-counted.result c.has_linkage-has_linkage.result c.name_of-name.result.now c.linked_object-linked.result
    c.args.lengths.items x y c.in_ok-number.number c.declare_object.new.scope c.declare_again.new.scope c.initialize_object.new.scope (option_map view_value c.in_ok-value.value)
    c.full_line-line.ensures c.defines-defines.ensures counted c.has_linkage-has_linkage.ensures c.name_of-name.ensures c.linked_object-linked.ensures
    c.in_ok-said.ensures.gives c.in_ok-may_define.ensures c.in_ok-within.ensures c.in_ok-number.ensures c.in_ok-value.ensures c.in_ok-declare_again.ensures c.in_ok-initialize_object.ensures
