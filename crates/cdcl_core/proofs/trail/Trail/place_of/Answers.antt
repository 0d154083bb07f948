use Rattle.std.proofs.Common.{Some, None, sym}
use Rattle.cdcl_core.proofs.Reading.{known_place-told}
use Rattle.cdcl_core.proofs.trail.Trail.place_of.Goals as goal

pub returns-in-Some : goal.returns-in-Some
returns-in-Some c = sym (known_place-told c.self.inside c.args.self.now c.args.variable c.index.result.now (Some c.in-Some.mark) c.self.invariant c.self.view_is c.requires c.index.ensures c.in-Some.is)

pub returns-in-None : goal.returns-in-None
returns-in-None c = sym (known_place-told c.self.inside c.args.self.now c.args.variable c.index.result.now None c.self.invariant c.self.view_is c.requires c.index.ensures c.in-None.is)
