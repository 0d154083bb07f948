use Rattle.std.proofs.Common.{◌≡◌, Some, ap, sym, ◌∙◌}
use Rattle.goto_prog.specs.ProgramViews.{bounded_by}
use Rattle.goto_prog.specs.Walking.{next_instruction}
use Rattle.goto_prog.proofs.NodeViews.{plain_first}
use Rattle.goto_prog.proofs.Places.{resolved_here, fits_here}
use Rattle.goto_prog.specs.Running.{acts}
use Rattle.goto_prog.proofs.activation.Activation.receive.Goals as goal

pub receive_at-requires-clause-found : goal.receive_at-requires-clause-found
receive_at-requires-clause-found c =
    let b = bounded_by c.args.program.now in
    let a = c.args.self.now in
    let first = plain_first a.place.nodes c.in-Some-Plain.field-0 c.in-Some-Plain.i c.in-Some-Plain.ensures.first c.in-Some-Plain.field-0-is in
    let found : next_instruction b a.place.nodes ≡ Some c.resolved.result = resolved_here b a.place.nodes c.in-Some-Plain.i first ∙ ap Some (sym c.resolved.ensures) in
    found

pub receive_at-requires-clause-fits : goal.receive_at-requires-clause-fits
receive_at-requires-clause-fits c =
    let b = bounded_by c.args.program.now in
    let a = c.args.self.now in
    let first = plain_first a.place.nodes c.in-Some-Plain.field-0 c.in-Some-Plain.i c.in-Some-Plain.ensures.first c.in-Some-Plain.field-0-is in
    let found : next_instruction b a.place.nodes ≡ Some c.resolved.result = resolved_here b a.place.nodes c.in-Some-Plain.i first ∙ ap Some (sym c.resolved.ensures) in
    fits_here a.working.types a.working.sizes b a.place c.resolved.result c.first.ensures.fits found

pub receive_at-requires-clause-acting : goal.receive_at-requires-clause-acting
receive_at-requires-clause-acting c =
    let b = bounded_by c.args.program.now in
    let a = c.args.self.now in
    let first = plain_first a.place.nodes c.in-Some-Plain.field-0 c.in-Some-Plain.i c.in-Some-Plain.ensures.first c.in-Some-Plain.field-0-is in
    let found : next_instruction b a.place.nodes ≡ Some c.resolved.result = resolved_here b a.place.nodes c.in-Some-Plain.i first ∙ ap Some (sym c.resolved.ensures) in
    sym (ap (λ i. acts c.args.words i a.working.memory) found) ∙ c.requires.acting
