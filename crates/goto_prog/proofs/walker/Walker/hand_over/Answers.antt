use Rattle.std.proofs.Common.{◌≡◌, Option, Some, None, sym, ap, subst, ◌∙◌}
use Rattle.goto_prog.specs.Meaning.{received}
use Rattle.goto_prog.specs.Walks.{Walk, Waiting, closed, Pops, Steps}
use Rattle.goto_prog.proofs.WalkerSteps.{walk_returns}
use Rattle.goto_prog.proofs.walker.Walker.hand_over.Goals as goal

pub returns-in-Some : goal.returns-in-Some
returns-in-Some c =
    let w = c.args.self.now in
    let p = c.pop.new.self in
    let v = c.in-Some.waiting in
    let popped : Pops w p (Some v) = c.in-Some.ensures in
    let new : c.resume.new.self ≡ record w { left = closed w.left v; top = record { place = v.activation.place; working = record v.activation.working { memory = received v.activation.working.memory v.into v.returned c.args.given } }; below = p.below } =
    c.resume.ensures
    ∙ ap (λ (x : Walk). record x { left = closed x.left v; top = record { place = v.activation.place; working = record v.activation.working { memory = received v.activation.working.memory v.into v.returned c.args.given } } }) popped.1 in
    subst (λ (x : Walk). Steps w x None) (sym new) (walk_returns w c.requires.running c.args.given c.requires.over v p.below popped.0)
