use Rattle.std.proofs.Common.{refl, ◌∙◌}
use Rattle.guarded_ssa.proofs.Writing.{clear_guarded}
use Rattle.guarded_ssa.proofs.slots.Slot.cleared.Goals as goal

pub returns-clause-guarded : goal.returns-clause-guarded
returns-clause-guarded c = λ v.
    clear_guarded v c.args.dag.now c.args.trees.now c.replaced.new.trees c.args.plan.now.code.now c.args.self c.in_ok-next.next c.args.block c.args.size c.args.size _ c.requires.block refl (c.deref.ensures.value ∙ c.new-none.ensures.items) (c.in_ok-next.ensures.guarded v)
