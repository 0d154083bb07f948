use Rattle.std.proofs.Common.{◌≡◌, ap, sym, ◌∙◌}
use Rattle.words.specs.BitVector.{BitVector, signed_value, word}
use Rattle.words.proofs.SignedBodies.{divides, divisor_positive, quotient_64, quotient_minus_one}
use Rattle.words.proofs.word.Word.sdiv.Goals as goal

pub nonzero_div-dividend : goal.nonzero_div-dividend
nonzero_div-dividend c = (
  divisor_positive _ _ _ c.signed-divisor.ensures.is_word.positive c.signed-divisor.ensures.is_word.at_most_64 c.requires.nonzero c.signed-divisor.ensures.is_word.within c.signed-divisor.ensures.value,
  divides c.signed-dividend.result c.signed-divisor.result (record { sfits = c.signed-dividend.type_inv }) (record { sfits = c.signed-divisor.type_inv }) c.if-divisor.false,
)

pub returns-then-divisor-clause-value : goal.returns-then-divisor-clause-value
returns-then-divisor-clause-value c =
    let divisor = c.signed-divisor.ensures.value ∙ ap (λ w. signed_value w c.args.other.bits) (sym c.requires.same_width) in
    c.neg.ensures.value ∙ ap (word c.args.self.width) (quotient_minus_one _ _ c.args.other.bits _ c.signed-dividend.ensures.is_word.positive c.signed-dividend.ensures.is_word.within (record { sfits = c.signed-divisor.type_inv }) c.if-divisor.true divisor)

pub returns-else-divisor-clause-value : goal.returns-else-divisor-clause-value
returns-else-divisor-clause-value c =
    let width : c.self.inside.width ≡ c.args.self.width = ap (λ (v : BitVector). v.width) c.self.view_is in
    let divisor = c.signed-divisor.ensures.value ∙ ap (λ w. signed_value w c.args.other.bits) (sym c.requires.same_width) in
    (rw width at c.from_signed.ensures.value)
    ∙ ap (word c.args.self.width) (quotient_64 _ c.args.self.bits c.args.other.bits _ _ (record { sfits = c.signed-dividend.type_inv }) (record { sfits = c.signed-divisor.type_inv }) c.if-divisor.false c.signed-dividend.ensures.value divisor)
