use Rattle.std.proofs.Common.{refl}
use Rattle.guarded_ssa.specs.declared.slots.Slot.{Slot}
use Rattle.guarded_ssa.proofs.Merging.{narrowed_in, narrowed_guarded}
use Rattle.guarded_ssa.proofs.slots.Slot.narrowed.Goals as goal

pub returns-clause-within : goal.returns-clause-within
returns-clause-within c =
    let t : Slot = record { guard = c.in_ok-guard.guard; zeros = c.args.self.zeros; root = c.args.self.root } in
    narrowed_in _ _ c.args.trees.now c.args.plan.now.code.now c.args.self t c.both.ensures.extends c.requires.within refl _ c.in_ok-guard.ensures.made refl

pub returns-clause-guarded : goal.returns-clause-guarded
returns-clause-guarded c =
    let t : Slot = record { guard = c.in_ok-guard.guard; zeros = c.args.self.zeros; root = c.args.self.root } in
    narrowed_guarded _ _ c.args.trees.now c.args.plan.now.code.now c.args.self t c.both.ensures.extends c.requires.within refl c.args.test c.in_ok-guard.ensures.made
