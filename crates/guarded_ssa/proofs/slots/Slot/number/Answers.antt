use Rattle.guarded_ssa.proofs.Merging.{number_word}
use Rattle.guarded_ssa.proofs.slots.Slot.number.Goals as goal

pub returns-clause-word : goal.returns-clause-word
returns-clause-word c = number_word _ c.args.plan.now.code.now.registers _ _ _ c.requires.there c.register.ensures.word
