use Rattle.std.proofs.Common.{arith, ap, ◌∙◌}
use Rattle.words.specs.BitVector.{BitVector, signed_value}
use Rattle.words.proofs.SignedBodies.{low_of_64, high_of_64}
use Rattle.words.proofs.word.Word.signed.Goals as goal

pub returns-then-self-half-clause-value : goal.returns-then-self-half-clause-value
returns-then-self-half-clause-value c =
    low_of_64 _ _ c.self.invariant.at_most_64 (omega arith) ∙ ap (λ (v : BitVector). signed_value v.width v.bits) c.self.view_is

pub returns-else-self-half-clause-value : goal.returns-else-self-half-clause-value
returns-else-self-half-clause-value c =
    rw c.mask.ensures (high_of_64 _ _ c.self.invariant.positive c.self.invariant.at_most_64 (omega arith) c.self.invariant.within ∙ ap (λ (v : BitVector). signed_value v.width v.bits) c.self.view_is)
