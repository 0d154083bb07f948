use Rattle.std.proofs.Common.{option_map}
use Rattle.c_tree.specs.Declarations.{view_full, view_initializer}
use Rattle.c_types.specs.Types.{view as type_view}
use Rattle.c_scope.specs.Scopes.{view_named}
use Rattle.c_elab_type.specs.Initializers.{view_value}
use Rattle.c_elab_type.proofs.Fronts.{variable_typed}
use Rattle.c_elab_type.proofs.variables.typed_variable.Goals as goal

pub returns-clause-step : goal.returns-clause-step
returns-clause-step c = λ behind.
    let s = c.args.scope.now in
    let u = c.initialized.new.scope in
    let b = view_named c.args.base.now in
    let d = view_full c.args.declared.now.declarator in
    let o = c.in_ok-object.object in
    variable_typed c.args.region s u b d (option_map view_initializer c.args.declared.now.initializer) c.args.lengths.items c.args.passed behind (type_view o.type_) o.counted c.full_line-line.result
    (option_map view_value c.in_ok-variable.value) c.in_ok-variable.variable c.args.items.now.items c.push.new.self.items c.declared_item.result
    c.in_ok-object.ensures.gives c.in_ok-object.ensures.counted c.in_ok-variable.ensures.declared c.full_line-line.ensures c.in_ok-variable.ensures.gives c.in_ok-variable.ensures.number c.declared_item.ensures c.in_ok-push.ensures.items
