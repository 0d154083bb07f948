use Rattle.std.proofs.Common.{length, ap, arith}
use Rattle.guarded_ssa.proofs.Blocks.{lies}
use Rattle.guarded_ssa.proofs.Writing.{bytes_there, some_made, some_size}
use Rattle.guarded_ssa.proofs.slots.Slot.bytes.Goals as goal

pub start_of-requires-clause-there : goal.start_of-requires-clause-there
start_of-requires-clause-there c = (lies _ _ _ _ c.requires.there).0

pub overflow_add-start : goal.overflow_add-start
overflow_add-start c =
    let h = bytes_there c.args.plan.now.code.now c.args.b c.args.offset c.start_of.result c.args.count c.requires.there c.start_of.ensures in omega (arith, h, ap length c.requires.slot.plan.types, c.args.plan.now.types.ok, c.args.plan.now.types.small)

pub ids_from-requires : goal.ids_from-requires
ids_from-requires c =
    let h = bytes_there c.args.plan.now.code.now c.args.b c.args.offset c.start_of.result c.args.count c.requires.there c.start_of.ensures in omega (arith, h, ap length c.requires.slot.plan.types, c.args.plan.now.types.ok, c.args.plan.now.types.small)

pub returns-clause-made : goal.returns-clause-made
returns-clause-made c = some_made c.args.dag.now c.args.trees.now c.args.plan.now.code.now c.args.self.now c.args.b c.args.offset c.start_of.result c.args.count _ c.requires.slot.within c.requires.there c.start_of.ensures c.in_ok-ids.ensures

pub returns-clause-size : goal.returns-clause-size
returns-clause-size c = some_size c.args.dag.now c.args.trees.now c.args.plan.now.code.now c.args.self.now c.args.b c.args.offset c.start_of.result c.args.count _ c.requires.slot.within c.requires.there c.start_of.ensures c.in_ok-ids.ensures
