use Rattle.std.proofs.Common.{ℕ, Result, option_map, sym, subst}
use Rattle.c_types.specs.declared.integers.IntegerType.{IntegerType}
use Rattle.c_scope.specs.Scopes.{view_cases}
use Rattle.c_operands.specs.Operands.{view_operand}
use Rattle.c_elab_flow.specs.Nodes.{case_of_switch}
use Rattle.c_elab_flow.specs.Steps.{CaseOf}
use Rattle.c_elab_flow.proofs.Flowing.{case_stands, case_fails}
use Rattle.c_elab_flow.proofs.flows.add_case.Goals as goal

pub returns-in-Ok : goal.returns-in-Ok
returns-in-Ok c =
    let switch = option_map view_cases c.take_switch-switch.result in
    let b = option_map view_cases c.in_ok-behind.behind in
    case_stands c.args.line c.args.scope.now c.take_switch-switch.new.scope c.put_switch.new.scope (view_operand c.args.operand.now) c.in-Some.number c.in-Ok.case switch b (sym c.in-Some.ensures) c.take_switch-switch.ensures.is
    (subst (λ (r : Result (IntegerType × ℕ) ℕ). CaseOf r b (case_of_switch switch c.in-Some.number)) c.in-Ok.is c.in_ok-behind.ensures) c.take_switch-switch.ensures.taken c.put_switch.ensures

pub returns-in-Err : goal.returns-in-Err
returns-in-Err c =
    let switch = option_map view_cases c.take_switch-switch.result in
    let b = option_map view_cases c.in_ok-behind.behind in
    case_fails c.args.line c.in-Err.rule c.args.scope.now (view_operand c.args.operand.now) c.in-Some.number switch b (sym c.in-Some.ensures) c.take_switch-switch.ensures.is
    (subst (λ (r : Result (IntegerType × ℕ) ℕ). CaseOf r b (case_of_switch switch c.in-Some.number)) c.in-Err.is c.in_ok-behind.ensures)
