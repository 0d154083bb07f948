use Rattle.std.proofs.Common.{refl}
use Rattle.guarded_ssa.proofs.Writing.{written_guarded}
use Rattle.guarded_ssa.proofs.slots.Slot.written.Goals as goal

pub returns-clause-guarded : goal.returns-clause-guarded
returns-clause-guarded c = λ v. written_guarded v c.args.dag.now c.args.trees.now c.replaced.new.trees c.args.plan.now.code.now c.args.self c.in_ok-next.next c.args.block c.args.offset _ c.args.new.now refl (c.in_ok-next.ensures.guarded v)
