use Rattle.bit_blast.proofs.Rearranging.{signs_above}
use Rattle.bit_blast.proofs.bits.sign_extended.Goals as goal

pub returns : goal.returns
returns c = λ form within. signs_above form _ _ c.in_ok-literals.ensures.0 _ _ within c.requires.positive c.index-a-a.is c.in_ok-literals.ensures.1 c.in_ok-literals.ensures.2
