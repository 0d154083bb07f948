use Rattle.std.proofs.Common.{ap}
use Rattle.core_tree.specs.Operations.{converted}
use Rattle.guarded_ssa.proofs.Merging.{result_word}
use Rattle.guarded_ssa.proofs.slots.Slot.convert.Goals as goal

pub returns-clause-made : goal.returns-clause-made
returns-clause-made c = result_word _ _ _ _ _ _ _ c.requires.into c.in_ok-id.ensures.made (λ v. ap (converted c.args.from c.args.to) (c.number-a.ensures.value v))
