use Rattle.std.proofs.Common.{◌≡◌, Some, ap, sym, ◌∙◌}
use Rattle.goto_prog.specs.ProgramViews.{bounded_by}
use Rattle.goto_prog.specs.Walking.{next_instruction}
use Rattle.goto_prog.proofs.NodeViews.{plain_first, loop_first, none_next}
use Rattle.goto_prog.proofs.Places.{resolved_here, fits_here}
use Rattle.goto_prog.proofs.WalkSteps.{none_go_on}
use Rattle.goto_prog.proofs.activation.Activation.draw_on.Goals as goal

pub draw_on_at-requires-clause-found : goal.draw_on_at-requires-clause-found
draw_on_at-requires-clause-found c =
    let b = bounded_by c.args.program.now in
    let a = c.args.self.now in
    let first = plain_first a.place.nodes c.in-Some-Plain.field-0 c.in-Some-Plain.i c.in-Some-Plain.ensures.first c.in-Some-Plain.field-0-is in
    let found : next_instruction b a.place.nodes ≡ Some c.resolved.result = resolved_here b a.place.nodes c.in-Some-Plain.i first ∙ ap Some (sym c.resolved.ensures) in
    found

pub draw_on_at-requires-clause-fits : goal.draw_on_at-requires-clause-fits
draw_on_at-requires-clause-fits c =
    let b = bounded_by c.args.program.now in
    let a = c.args.self.now in
    let first = plain_first a.place.nodes c.in-Some-Plain.field-0 c.in-Some-Plain.i c.in-Some-Plain.ensures.first c.in-Some-Plain.field-0-is in
    let found : next_instruction b a.place.nodes ≡ Some c.resolved.result = resolved_here b a.place.nodes c.in-Some-Plain.i first ∙ ap Some (sym c.resolved.ensures) in
    fits_here a.working.types a.working.sizes b a.place c.resolved.result c.first.ensures.fits found

pub returns-in-Some-Loop : goal.returns-in-Some-Loop
returns-in-Some-Loop c =
    let b = bounded_by c.args.program.now in
    let a = c.args.self.now in
    none_go_on b a c.args.words (loop_first b a.place.nodes c.in-Some-Loop.field-0 _ _ _ _ _ c.in-Some-Loop.ensures.first c.in-Some-Loop.field-0-is)

pub returns-in-None : goal.returns-in-None
returns-in-None c =
    let b = bounded_by c.args.program.now in
    let a = c.args.self.now in
    none_go_on b a c.args.words (none_next b a.place.nodes c.in-None.ensures.first)
