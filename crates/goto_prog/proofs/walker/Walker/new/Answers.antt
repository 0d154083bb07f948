use Rattle.std.proofs.Common.{◌≡◌, ◌<◌, Some, slice_get, ap, sym, ◌∙◌, arith}
use Rattle.std.specs.Prelude.{option_map}
use Rattle.std.specs.Borrow.{Bor}
use Rattle.goto_prog.specs.declared.nodes.Procedure.{Procedure}
use Rattle.goto_prog.proofs.WalkerSteps.{fits_found, first_walk_starts}
use Rattle.goto_prog.proofs.walker.Walker.new.Goals as goal

pub at-requires-clause-itself : goal.at-requires-clause-itself
at-requires-clause-itself c =
    let got : slice_get c.args.program.procedures.now c.args.number ≡ Some c.in-Some.procedure.now = sym c.procedure.ensures ∙ ap (option_map (λ (p : Bor Procedure). p.now)) c.in-Some.is in
    fits_found c.args.program.procedures.now c.args.number c.in-Some.procedure.now c.requires.fits got

pub returns : goal.returns
returns c =
    let q = c.args.program in
    let got : slice_get q.procedures.now c.args.number ≡ Some c.in-Some.procedure.now = sym c.procedure.ensures ∙ ap (option_map (λ (p : Bor Procedure). p.now)) c.in-Some.is in
    let positive : 0 < q.bounds.now.unwind = omega (arith, c.unwind-unwind.ensures.is, c.unwind-unwind.ensures.positive) in
    rw c.in_ok-at-in-Some.ensures (first_walk_starts q.strict q.procedures.now q.bounds.now c.args.first c.args.number c.in-Some.procedure.now positive got)
