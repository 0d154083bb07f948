use Rattle.std.proofs.Common.{◌<◌, ap, sym, arith}
use Rattle.cdcl_core.specs.Steps.{Course}
use Rattle.cdcl_core.proofs.Reading.{known_value-open, all_known}
use Rattle.cdcl_core.proofs.trail.Trail.first_open.Goals as goal

pub returns-then-is_none-clause-found : goal.returns-then-is_none-clause-found
returns-then-is_none-clause-found c =
    let within : c.loop-variable.variable < c.args.self.now.variables = omega (arith, ap (λ (x : Course). x.variables) c.self.view_is, c.self.inside.marks.ok.0) in
    (within, known_value-open c.self.inside c.args.self.now c.loop-variable.variable c.index.result.now c.is_none.result c.self.invariant c.self.view_is within c.index.ensures (sym c.is_none.ensures) c.if-is_none.true)

pub returns-clause-none : goal.returns-clause-none
returns-clause-none c =
    all_known c.self.inside c.args.self.now c.loop-variable.variable c.self.invariant c.self.view_is (omega (arith, c.self.inside.marks.ok.0)) c.loop-variable.invariant
