use Rattle.std.proofs.Common.{option_map}
use Rattle.c_scope.specs.Scopes.{view_cases}
use Rattle.c_elab_flow.proofs.Flowing.{default_stands, default_fails}
use Rattle.c_elab_flow.proofs.flows.add_default.Goals as goal

pub returns-then-first : goal.returns-then-first
returns-then-first c =
    let x = c.default_of_switch-behind.result in
    default_stands c.args.line c.args.scope.now c.take_switch-switch.new.scope c.put_switch.new.scope (option_map view_cases c.take_switch-switch.result) (option_map view_cases x.0) x.1 c.if-first.true
    c.take_switch-switch.ensures.is c.default_of_switch-behind.ensures c.take_switch-switch.ensures.taken c.put_switch.ensures

pub returns-else-first : goal.returns-else-first
returns-else-first c =
    let x = c.default_of_switch-behind.result in
    default_fails c.args.line c.args.scope.now (option_map view_cases c.take_switch-switch.result) (option_map view_cases x.0) x.1 c.if-first.false c.take_switch-switch.ensures.is c.default_of_switch-behind.ensures
