use Rattle.std.proofs.Common.{ap, ◌∙◌}
use Rattle.words.specs.BitVector.{word}
use Rattle.words.proofs.SignedBodies.{low_bits_signed}
use Rattle.words.proofs.word.from_signed.Goals as goal

pub returns-clause-value : goal.returns-clause-value
returns-clause-value c =
    c.lowest.ensures.value ∙ ap (word c.args.width) (low_bits_signed _ _ _ c.ranges.number c.requires.at_most_64 c.cast_unsigned.ensures)
