use Rattle.std.proofs.Common.{◌≡◌, ◌+◌, ◌-◌, Some, sym, ap, ◌∙◌, arith}
use Rattle.code_draft.specs.declared.places.Mark.{Mark}
use Rattle.code_draft.proofs.Leaving.{leaves_label, leaves_nothing, leaves_object}
use Rattle.code_draft.proofs.draft.Draft.leave.Goals as goal

pub loop-k-preserved-in-Some-Label : goal.loop-k-preserved-in-Some-Label
loop-k-preserved-in-Some-Label c =
    let l = c.loop-k in
    let at : l.k - 1 + 1 ≡ l.k = omega (arith, c.loop-k-test.true) in
    leaves_label l.self _ (l.k - 1) l.k l.left c.args.register at l.invariant _ _ (sym c.mark.ensures ∙ c.in-Some-Label.is ∙ ap (λ (m : Mark). Some m) c.in-Some-Label.field-0-is)

pub loop-k-preserved-in-Some-Alive : goal.loop-k-preserved-in-Some-Alive
loop-k-preserved-in-Some-Alive c =
    let l = c.loop-k in
    let at : l.k - 1 + 1 ≡ l.k = omega (arith, c.loop-k-test.true) in
    leaves_object l.self _ (l.k - 1) l.k l.left c.args.register at l.invariant c.die.new.self c.in-Some-Alive.line c.in-Some-Alive.home
    (sym c.mark.ensures ∙ c.in-Some-Alive.is ∙ ap (λ (m : Mark). Some m) c.in-Some-Alive.field-0-is) (λ none. c.if-left-eq0.false none) c.in_ok-die-in-Some-Alive.ensures

pub loop-k-preserved : goal.loop-k-preserved
loop-k-preserved c =
    let l = c.loop-k in
    let at : l.k - 1 + 1 ≡ l.k = omega (arith, c.loop-k-test.true) in
    leaves_nothing l.self _ (l.k - 1) l.k l.left c.args.register at l.invariant (sym c.mark.ensures ∙ c.in-None.is)
