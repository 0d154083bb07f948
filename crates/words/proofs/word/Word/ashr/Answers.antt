use Rattle.std.proofs.Common.{◌≡◌, ap, ◌∙◌}
use Rattle.words.specs.BitVector.{BitVector, word}
use Rattle.words.proofs.SignedBodies.{arithmetic_shift_64}
use Rattle.words.proofs.word.Word.ashr.Goals as goal

pub returns-clause-value : goal.returns-clause-value
returns-clause-value c =
    let width : c.self.inside.width ≡ c.args.self.width = ap (λ (v : BitVector). v.width) c.self.view_is in
    (rw width at c.from_signed.ensures.value)
    ∙ ap (word c.args.self.width) (arithmetic_shift_64 _ c.args.self.bits _ _ (record { sfits = c.signed.type_inv }) c.signed.ensures.value c.requires)
