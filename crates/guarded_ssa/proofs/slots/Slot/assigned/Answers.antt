use Rattle.goto_prog.specs.Fitting.{is_there}
use Rattle.std.proofs.Common.{◌≡◌, true, subst, sym}
use Rattle.guarded_ssa.proofs.Stays.{slot_grows}
use Rattle.guarded_ssa.proofs.Passing.{assigned_guarded, into_there}
use Rattle.guarded_ssa.proofs.slots.Slot.assigned.Goals as goal

pub put-requires-clause-within : goal.put-requires-clause-within
put-requires-clause-within c = slot_grows _ _ c.result.ensures.extends _ _ _ c.requires.slot.within

pub returns-clause-guarded : goal.returns-clause-guarded
returns-clause-guarded c = λ v.
    assigned_guarded v c.args.dag.now c.result.new.dag c.args.trees.now c.put.new.trees c.args.plan.now.code.now c.args.self c.in_ok-next.next c.args.operation c.into_of-into.result c.in_ok-id.id c.result.ensures.extends c.requires.slot.within c.requires.sets c.into_of-into.ensures
    (c.in_ok-id.ensures.made.value_is v) (c.in_ok-next.ensures.guarded v)

pub put-requires-clause-into : goal.put-requires-clause-into
put-requires-clause-into c = subst (λ r. is_there c.args.plan.now.code.now.registers r ≡ true) (sym c.into_of-into.ensures) (into_there _ _ c.args.operation c.requires.sets c.requires.fits)
