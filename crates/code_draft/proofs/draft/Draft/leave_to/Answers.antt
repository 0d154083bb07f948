use Rattle.std.proofs.Common.{◌≡◌, ◌+◌, ◌-◌, Some, sym, ap, ◌∙◌, arith}
use Rattle.code_draft.specs.declared.places.Mark.{Mark}
use Rattle.code_draft.proofs.Leaving.{reaches_label, passes_label, passes_nothing, passes_object}
use Rattle.code_draft.proofs.draft.Draft.leave_to.Goals as goal

pub returns-then-found-label : goal.returns-then-found-label
returns-then-found-label c =
    let l = c.loop-k in
    let at : l.k - 1 + 1 ≡ l.k = omega (arith, c.loop-k-test.true) in
    reaches_label l.self _ (l.k - 1) l.k c.args.label c.args.register at l.invariant c.in-Some-Label.found _
    (sym c.mark.ensures ∙ c.in-Some-Label.is ∙ ap (λ (m : Mark). Some m) c.in-Some-Label.field-0-is) c.if-found-label.true

pub loop-k-preserved-else-found-label : goal.loop-k-preserved-else-found-label
loop-k-preserved-else-found-label c =
    let l = c.loop-k in
    let at : l.k - 1 + 1 ≡ l.k = omega (arith, c.loop-k-test.true) in
    passes_label l.self _ (l.k - 1) l.k c.args.label c.args.register at l.invariant c.in-Some-Label.found _
    (sym c.mark.ensures ∙ c.in-Some-Label.is ∙ ap (λ (m : Mark). Some m) c.in-Some-Label.field-0-is) (λ same. c.if-found-label.false same)

pub loop-k-preserved-in-Continue-1 : goal.loop-k-preserved-in-Continue-1
loop-k-preserved-in-Continue-1 c =
    let l = c.loop-k in
    let at : l.k - 1 + 1 ≡ l.k = omega (arith, c.loop-k-test.true) in
    passes_object l.self _ (l.k - 1) l.k c.args.label c.args.register at l.invariant c.die.new.self c.in-Some-Alive.line c.in-Some-Alive.home
    (sym c.mark.ensures ∙ c.in-Some-Alive.is ∙ ap (λ (m : Mark). Some m) c.in-Some-Alive.field-0-is) c.in_ok-die-in-Some-Alive.ensures

pub loop-k-preserved : goal.loop-k-preserved
loop-k-preserved c =
    let l = c.loop-k in
    let at : l.k - 1 + 1 ≡ l.k = omega (arith, c.loop-k-test.true) in
    passes_nothing l.self _ (l.k - 1) l.k c.args.label c.args.register at l.invariant (sym c.mark.ensures ∙ c.in-None.is)
