use Rattle.std.proofs.Common.{◌<◌, ap, sym, arith}
use Rattle.cdcl_core.specs.Steps.{Course}
use Rattle.cdcl_core.proofs.Reading.{known_value-open, is_none-read}
use Rattle.cdcl_core.proofs.trail.Trail.is_open.Goals as goal

pub returns-then-variable-len-clause-open_ : goal.returns-then-variable-len-clause-open_
returns-then-variable-len-clause-open_ c =
    let within : c.args.variable < c.args.self.now.variables = omega (arith, ap (λ (x : Course). x.variables) c.self.view_is, c.self.inside.marks.ok.0) in (
      λ none. (within, known_value-open c.self.inside c.args.self.now c.args.variable c.index.result.now c.is_none.result c.self.invariant c.self.view_is within c.index.ensures (sym c.is_none.ensures) none),
      λ both. is_none-read c.self.inside c.args.self.now c.args.variable c.index.result.now c.is_none.result c.self.invariant c.self.view_is within c.index.ensures (sym c.is_none.ensures) both.1,
    )
