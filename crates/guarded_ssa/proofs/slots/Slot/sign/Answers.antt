use Rattle.std.proofs.Common.{ap}
use Rattle.core_tree.specs.Operations.{sign_value}
use Rattle.guarded_ssa.proofs.Merging.{result_word}
use Rattle.guarded_ssa.proofs.slots.Slot.sign.Goals as goal

pub returns-clause-made : goal.returns-clause-made
returns-clause-made c = result_word _ _ _ _ _ _ _ c.requires.into c.in_ok-id.ensures.made (λ v. ap (sign_value c.args.operator c.args.type_) (c.number-a.ensures.value v))
