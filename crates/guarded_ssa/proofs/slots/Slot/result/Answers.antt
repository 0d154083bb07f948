use Rattle.guarded_ssa.proofs.Merging.{copied_word}
use Rattle.guarded_ssa.proofs.PointerFits.{move_fits}
use Rattle.guarded_ssa.proofs.slots.Slot.result.Goals as goal

pub returns-in-Copy-clause-made : goal.returns-in-Copy-clause-made
returns-in-Copy-clause-made c =
    copied_word _ c.args.trees.now c.args.plan.now.code.now c.args.self.now c.args.operation c.in-Copy.into c.in-Copy.operand _ c.in-Copy.is c.requires.fits c.register.ensures.word c.register.ensures.value

pub pointer_moved-requires-clause-pointer : goal.pointer_moved-requires-clause-pointer
pointer_moved-requires-clause-pointer c =
    (move_fits c.args.plan.now.code.now.registers c.args.plan.now.code.now.blocks c.args.operation c.in-Move.into c.in-Move.pointer c.in-Move.index c.in-Move.index_type _ c.in-Move.size c.in-Move.class c.in-Move.is c.requires.fits).0

pub pointer_moved-requires-clause-index : goal.pointer_moved-requires-clause-index
pointer_moved-requires-clause-index c =
    (move_fits c.args.plan.now.code.now.registers c.args.plan.now.code.now.blocks c.args.operation c.in-Move.into c.in-Move.pointer c.in-Move.index c.in-Move.index_type _ c.in-Move.size c.in-Move.class c.in-Move.is c.requires.fits).1
