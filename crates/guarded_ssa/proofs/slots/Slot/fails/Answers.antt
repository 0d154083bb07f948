use Rattle.guarded_ssa.proofs.PointerFits.{within_fits}
use Rattle.guarded_ssa.proofs.slots.Slot.fails.Goals as goal

pub leaves_range-requires-clause-pointer : goal.leaves_range-requires-clause-pointer
leaves_range-requires-clause-pointer c = (within_fits c.args.plan.now.code.now.registers c.args.condition c.in-Within.pointer c.in-Within.index c.in-Within.index_type _ c.in-Within.size c.in-Within.class c.in-Within.is c.requires.fits).0

pub leaves_range-requires-clause-index : goal.leaves_range-requires-clause-index
leaves_range-requires-clause-index c = (within_fits c.args.plan.now.code.now.registers c.args.condition c.in-Within.pointer c.in-Within.index c.in-Within.index_type _ c.in-Within.size c.in-Within.class c.in-Within.is c.requires.fits).1

pub leaves_range-requires-clause-size : goal.leaves_range-requires-clause-size
leaves_range-requires-clause-size c = (within_fits c.args.plan.now.code.now.registers c.args.condition c.in-Within.pointer c.in-Within.index c.in-Within.index_type _ c.in-Within.size c.in-Within.class c.in-Within.is c.requires.fits).2
