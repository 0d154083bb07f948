use Rattle.core_tree.specs.Operations.{arithmetic_value}
use Rattle.guarded_ssa.proofs.Merging.{result_word}
use Rattle.guarded_ssa.proofs.slots.Slot.arithmetic.Goals as goal

pub returns-clause-made : goal.returns-clause-made
returns-clause-made c =
    result_word _ _ _ _ _ _ _ c.requires.into c.in_ok-id.ensures.made
    (λ v. let p = c.number-a.ensures.value v in let q = c.number-b.ensures.value v in λ i. arithmetic_value c.args.operator c.args.types.0 (p i) (q i))
