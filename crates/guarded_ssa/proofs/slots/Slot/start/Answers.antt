use Rattle.guarded_ssa.specs.declared.slots.Slot.{Slot}
use Rattle.guarded_ssa.proofs.Merging.{started_in, started_guarded}
use Rattle.guarded_ssa.proofs.slots.Slot.start.Goals as goal

pub returns-clause-within : goal.returns-clause-within
returns-clause-within c =
    let s : Slot = record { guard = c.in_ok-guard.guard; zeros = c.in_ok-zeros.zeros; root = c.empty-root.result } in
    started_in c.args.dag.now c.make.new.self c.new.new.dag c.args.trees.now c.args.plan.now.code.now s c.new.ensures.extends c.in_ok-guard.ensures.made c.in_ok-zeros.ensures.zeros c.empty-root.ensures.cells c.requires c.empty-root.ensures.root

pub returns-clause-guarded : goal.returns-clause-guarded
returns-clause-guarded c =
    let s : Slot = record { guard = c.in_ok-guard.guard; zeros = c.in_ok-zeros.zeros; root = c.empty-root.result } in
    started_guarded c.args.dag.now c.make.new.self c.new.new.dag c.args.trees.now c.args.plan.now.code.now s c.new.ensures.extends c.in_ok-guard.ensures.made c.in_ok-zeros.ensures.zeros c.empty-root.ensures.cells
