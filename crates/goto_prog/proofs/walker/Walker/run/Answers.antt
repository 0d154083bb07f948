use Rattle.std.proofs.Common.{◌≡◌, Some, None, ap, sym, subst, ◌∙◌}
use Rattle.std.specs.Prelude.{IfOk}
use Rattle.goto_prog.specs.declared.activation.Stepped.{Stepped}
use Rattle.goto_prog.specs.declared.activation.Stepped.TheVariants as stepped
use Rattle.goto_prog.specs.Walking.{Activation, GoesOn, Stops}
use Rattle.goto_prog.specs.Activations as activations
use Rattle.goto_prog.specs.Walks.{Walk, bounded, Steps}
use Rattle.goto_prog.proofs.WalkerSteps.{walk_goes, walk_stops}
use Rattle.goto_prog.proofs.walker.Walker.run.Goals as goal

pub returns-in-GoesOn-clause-steps : goal.returns-in-GoesOn-clause-steps
returns-in-GoesOn-clause-steps c =
    let w = c.args.self.now in
    let n = c.step_top.new.self in
    let goes : GoesOn (bounded w) w.top n.top = subst (λ (s : Stepped). activations.Steps (bounded w) w.top n.top s) c.in-GoesOn.is c.in_ok-step_top.ensures.steps in
    subst (λ (x : Walk). Steps w x None) (sym c.in_ok-step_top.ensures.others) (walk_goes w c.requires.running n.top goes)

pub returns-in-Calls-clause-steps : goal.returns-in-Calls-clause-steps
returns-in-Calls-clause-steps c =
    let w = c.args.self.now in
    let n = c.step_top.new.self in
    let plan = c.in-Calls.plan in
    let calls = subst (λ (s : Stepped). activations.Steps (bounded w) w.top n.top s) c.in-Calls.is c.in_ok-step_top.ensures.steps in
    let same : n ≡ w = c.in_ok-step_top.ensures.others ∙ ap (λ (a : Activation). record w { top = a }) calls.0 in
    subst (λ (x : Walk). IfOk c.call.result (Steps x c.call.new.self)) same c.call.ensures.steps

pub returns-in-Stops-clause-steps : goal.returns-in-Stops-clause-steps
returns-in-Stops-clause-steps c =
    let w = c.args.self.now in
    let n = c.step_top.new.self in
    let next = c.in-Stops.next in
    let stops : Stops (bounded w) w.top n.top next = subst (λ (s : Stepped). activations.Steps (bounded w) w.top n.top s) c.in-Stops.is c.in_ok-step_top.ensures.steps in
    let same : n ≡ w = c.in_ok-step_top.ensures.others ∙ ap (λ (a : Activation). record w { top = a }) stops.unchanged in
    subst (λ (x : Walk). Steps w x (Some next)) (sym same) (walk_stops w c.requires.running next (subst (λ (a : Activation). Stops (bounded w) w.top a next) stops.unchanged stops))
