use Rattle.goto_prog.specs.ProgramViews.{bounded_by}
use Rattle.goto_prog.specs.Walking.{place_total, next_place}
use Rattle.goto_prog.proofs.WalkFits.{skip_here}
use Rattle.goto_prog.proofs.WalkSteps.{goes_skip}
use Rattle.goto_prog.proofs.activation.Activation.skip.Goals as goal

pub returns : goal.returns
returns c =
    let a = c.args.self.now in
    let within = skip_here a.working.types a.working.sizes (place_total (next_place a.place)) c.args.i.operation c.requires.fits c.args.count c.requires.is in
    rw c.advance.ensures (goes_skip (bounded_by c.args.program.now) a c.args.i c.requires.found c.args.count c.requires.is within)
