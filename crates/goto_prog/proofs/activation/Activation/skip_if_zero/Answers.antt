use Rattle.std.proofs.Common.{sym, ◌∙◌}
use Rattle.goto_prog.specs.ProgramViews.{bounded_by}
use Rattle.goto_prog.specs.Walking.{place_total, next_place}
use Rattle.goto_prog.proofs.WalkFits.{zero_here}
use Rattle.goto_prog.proofs.WalkSteps.{goes_zero, goes_other}
use Rattle.goto_prog.proofs.activation.Activation.skip_if_zero.Goals as goal

pub returns-then-is_zero : goal.returns-then-is_zero
returns-then-is_zero c =
    let a = c.args.self.now in
    let within = zero_here a.working.types a.working.sizes (place_total (next_place a.place)) c.args.i.operation c.requires.fits c.args.operand c.args.count c.requires.is in
    rw c.advance.ensures (goes_zero (bounded_by c.args.program.now) a c.args.i c.requires.found c.args.operand c.args.count c.requires.is (sym c.is_zero.ensures ∙ c.if-is_zero.true) within)
