use Rattle.std.proofs.Common.{◌≡◌, ◌<◌, Option, Some, None, slice_get, slice_index, ap, sym, ◌∙◌, arith}
use Rattle.std.specs.Prelude.{option_map}
use Rattle.std.specs.Borrow.{Bor}
use Rattle.goto_prog.specs.declared.nodes.Procedure.{Procedure}
use Rattle.goto_prog.specs.Nodes.{view_procedure, view_procedures}
use Rattle.goto_prog.proofs.WalkerSteps.{walk_passed, walk_blocked, walk_enters, fits_found, found_view, none_view}
use Rattle.goto_prog.proofs.walker.Walker.call.Goals as goal

pub returns-then-left-eq0-clause-steps : goal.returns-then-left-eq0-clause-steps
returns-then-left-eq0-clause-steps c =
    let p = c.args.plan in
    rw c.passed.ensures (walk_passed c.args.self.now c.requires.running p.instruction p.callee p.first p.count p.into p.returned c.requires.calls (sym c.left.ensures ∙ c.if-left-eq0.true))

pub enter-requires-clause-fits : goal.enter-requires-clause-fits
enter-requires-clause-fits c =
    let got : slice_get c.args.self.now.functions c.args.plan.callee ≡ Some c.in-Some.procedure.now = sym c.procedure.ensures.is ∙ ap (option_map (λ (p : Bor Procedure). p.now)) c.in-Some.is in
    fits_found c.args.self.now.functions c.args.plan.callee c.in-Some.procedure.now c.procedure.ensures.fits got

pub returns-in_ok-enter-in-Some-clause-steps : goal.returns-in_ok-enter-in-Some-clause-steps
returns-in_ok-enter-in-Some-clause-steps c =
    let w = c.args.self.now in
    let p = c.args.plan in
    let got : slice_get w.functions p.callee ≡ Some c.in-Some.procedure.now = sym c.procedure.ensures.is ∙ ap (option_map (λ (q : Bor Procedure). q.now)) c.in-Some.is in
    let more : 0 < slice_index w.left p.callee = omega (arith, c.left.ensures, c.if-left-eq0.false) in
    rw c.in_ok-enter-in-Some.ensures.ok (walk_enters w c.requires.running p.instruction p.callee p.first p.count p.into p.returned c.requires.calls c.in-Some.procedure.now more (found_view w.functions p.callee c.in-Some.procedure.now got))

pub returns-in-None-clause-steps : goal.returns-in-None-clause-steps
returns-in-None-clause-steps c =
    let w = c.args.self.now in
    let p = c.args.plan in
    let got : slice_get w.functions p.callee ≡ None = sym c.procedure.ensures.is ∙ ap (option_map (λ (q : Bor Procedure). q.now)) c.in-None.is in
    let more : 0 < slice_index w.left p.callee = omega (arith, c.left.ensures, c.if-left-eq0.false) in
    walk_blocked w c.requires.running p.instruction p.callee p.first p.count p.into p.returned c.requires.calls more (none_view w.functions p.callee got)
