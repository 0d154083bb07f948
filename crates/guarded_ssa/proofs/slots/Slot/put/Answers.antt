use Rattle.std.proofs.Common.{refl}
use Rattle.guarded_ssa.specs.declared.slots.Slot.{Slot}
use Rattle.guarded_ssa.proofs.Merging.{cell_there}
use Rattle.guarded_ssa.proofs.Passing.{put_in, put_guarded}
use Rattle.guarded_ssa.proofs.slots.Slot.put.Goals as goal

pub put-requires-clause-root : goal.put-requires-clause-root
put-requires-clause-root c = c.requires.within.tree.root

pub put-requires-clause-within : goal.put-requires-clause-within
put-requires-clause-within c = cell_there _ _ c.args.plan.now.code.now c.args.self _ c.requires.within c.requires.into

pub returns-clause-within : goal.returns-clause-within
returns-clause-within c =
    let t : Slot = record { guard = c.args.self.guard; zeros = c.args.self.zeros; root = c.in_ok-root.root } in
    put_in c.args.dag.now c.args.trees.now c.put.new.self c.args.plan.now.code.now c.args.self t c.args.into c.args.id c.requires.into refl c.in_ok-root.ensures.cells c.put.ensures.keeps c.requires.within c.in_ok-root.ensures.root c.requires.id refl

pub returns-clause-guarded : goal.returns-clause-guarded
returns-clause-guarded c =
    let t : Slot = record { guard = c.args.self.guard; zeros = c.args.self.zeros; root = c.in_ok-root.root } in
    put_guarded c.args.dag.now c.args.trees.now c.put.new.self c.args.plan.now.code.now c.args.self t c.args.into c.args.id c.requires.into refl c.in_ok-root.ensures.cells
