use Rattle.std.proofs.Common.{length, refl, ap, arith}
use Rattle.guarded_ssa.specs.declared.slots.Slot.{Slot}
use Rattle.guarded_ssa.proofs.Blocks.{lies}
use Rattle.guarded_ssa.proofs.Writing.{bytes_there, bytes_in_tree, replaced_in, replaced_guarded}
use Rattle.guarded_ssa.proofs.slots.Slot.replaced.Goals as goal

pub start_of-requires-clause-there : goal.start_of-requires-clause-there
start_of-requires-clause-there c = (lies _ _ _ _ c.requires.block).0

pub overflow_add-start : goal.overflow_add-start
overflow_add-start c =
    let h = bytes_there c.args.plan.now.code.now c.args.block c.args.offset c.start_of.result c.args.count c.requires.block c.start_of.ensures in omega (arith, h, ap length c.requires.slot.plan.types, c.args.plan.now.types.ok, c.args.plan.now.types.small)

pub replaced-requires-clause-root : goal.replaced-requires-clause-root
replaced-requires-clause-root c = c.requires.slot.within.tree.root

pub replaced-requires-clause-within : goal.replaced-requires-clause-within
replaced-requires-clause-within c = bytes_in_tree _ _ c.args.plan.now.code.now c.args.self c.args.block c.args.offset c.start_of.result c.args.count c.requires.slot.within c.requires.block c.start_of.ensures

pub returns-clause-within : goal.returns-clause-within
returns-clause-within c =
    let t : Slot = record { guard = c.args.self.guard; zeros = c.args.self.zeros; root = c.in_ok-root.root } in
    replaced_in c.args.dag.now c.args.trees.now c.replaced.new.self c.args.plan.now.code.now c.args.self t c.args.block c.args.offset c.start_of.result c.args.count c.args.new.now c.requires.block c.requires.few c.start_of.ensures c.replaced.ensures.keeps c.in_ok-root.ensures.replaced refl
    c.requires.slot.within c.requires.new c.in_ok-root.ensures.root refl

pub returns-clause-guarded : goal.returns-clause-guarded
returns-clause-guarded c =
    let t : Slot = record { guard = c.args.self.guard; zeros = c.args.self.zeros; root = c.in_ok-root.root } in
    replaced_guarded c.args.dag.now c.args.trees.now c.replaced.new.self c.args.plan.now.code.now c.args.self t c.args.block c.args.offset c.start_of.result c.args.count c.args.new.now c.requires.block c.requires.few c.start_of.ensures c.replaced.ensures.keeps c.in_ok-root.ensures.replaced refl
