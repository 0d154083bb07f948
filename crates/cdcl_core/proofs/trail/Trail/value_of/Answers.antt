use Rattle.std.proofs.Common.{Some, None, ap, ◌∙◌}
use Rattle.cdcl_core.proofs.Reading.{known_truth-here, some_truth}
use Rattle.cdcl_core.proofs.trail.Trail.value_of.Goals as goal

pub returns-in-Some : goal.returns-in-Some
returns-in-Some c =
    ap Some (some_truth c.in-Some.value c.is_negated.result c.args.literal.negated c.is_negated.ensures)
    ∙ known_truth-here c.self.inside c.args.self.now c.args.literal c.variable.result c.index.result.now (Some c.in-Some.value) c.self.invariant c.self.view_is c.requires c.variable.ensures.is c.index.ensures c.in-Some.is

pub returns-in-None : goal.returns-in-None
returns-in-None c =
    known_truth-here c.self.inside c.args.self.now c.args.literal c.variable.result c.index.result.now None c.self.invariant c.self.view_is c.requires c.variable.ensures.is c.index.ensures c.in-None.is
