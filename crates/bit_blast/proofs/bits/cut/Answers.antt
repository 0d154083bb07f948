use Rattle.std.proofs.Common.{◌∙◌, arith}
use Rattle.bit_blast.proofs.Rearranging.{cut_is}
use Rattle.bit_blast.proofs.bits.cut.Goals as goal

pub returns : goal.returns
returns c = λ form within. cut_is form _ _ c.args.low _ c.args.width within c.requires (omega arith) (c.new.ensures ∙ c.in_ok-from_slice.ensures.items)
