use Rattle.std.proofs.Common.{ap, ◌∙◌, arith}
use Rattle.words.specs.BitVector.{BitVector}
use Rattle.words.specs.Operators.{left_shift_fits}
use Rattle.words.proofs.SignedBodies.{left_shift_test}
use Rattle.words.proofs.word.Word.fits_shl.Goals as goal

pub returns : goal.returns
returns c =
    left_shift_test _ _ _ c.self.invariant.positive c.self.invariant.within (omega (arith, ap (λ (v : BitVector). v.width) c.self.view_is))
    ∙ ap (λ (v : BitVector). left_shift_fits v.width v.bits c.args.count) c.self.view_is
