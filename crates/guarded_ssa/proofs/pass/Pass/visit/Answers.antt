use Rattle.std.proofs.Common.{◌∙◌, ◌∷◌, length, ap, refl, arith}
use Rattle.guarded_ssa.specs.declared.pass.Pass.{Pass}
use Rattle.guarded_ssa.proofs.Visiting.{visits_slot, visits_none, popped_in, popped_first}
use Rattle.guarded_ssa.proofs.pass.Pass.visit.Goals as goal

pub step-requires-clause-reached : goal.step-requires-clause-reached
step-requires-clause-reached c =
    let p1 : Pass = record { events = c.args.self.now.events; pending = c.pop_front.new.self; trees = c.args.self.now.trees } in
    let pending = c.in-Some-Some.ensures.items ∙ ap (λ s. s ∷ c.pop_front.new.self.items) c.in-Some-Some.field-0-is in
    record {
      plan = c.requires.plan;
      room = omega (arith, c.requires.room, ap length pending);
      within = popped_in _ _ c.args.self.now p1 _ c.requires.within pending refl refl;
      slot = popped_first _ _ c.args.self.now p1 c.in-Some-Some.slot c.requires.within pending;
    }

pub returns-in_ok-step-in-Some-Some-clause-visits : goal.returns-in_ok-step-in-Some-Some-clause-visits
returns-in_ok-step-in-Some-Some-clause-visits c =
    let p1 : Pass = record { events = c.args.self.now.events; pending = c.pop_front.new.self; trees = c.args.self.now.trees } in
    visits_slot _ _ _ _ _ _ _ c.args.self.now p1 _ c.in-Some-Some.slot (c.in-Some-Some.ensures.items ∙ ap (λ s. s ∷ c.pop_front.new.self.items) c.in-Some-Some.field-0-is) refl refl c.in_ok-step-in-Some-Some.ensures.passes

pub returns-in-Some-None-clause-visits : goal.returns-in-Some-None-clause-visits
returns-in-Some-None-clause-visits c =
    let q : Pass = record { events = c.args.self.now.events; pending = c.pop_front.new.self; trees = c.args.self.now.trees } in
    let pending = c.in-Some-None.ensures.items ∙ ap (λ s. s ∷ c.pop_front.new.self.items) c.in-Some-None.field-0-is in
    visits_none _ _ _ _ _ c.args.dag.now c.args.self.now q (popped_in _ _ c.args.self.now q _ c.requires.within pending refl refl) pending refl refl
