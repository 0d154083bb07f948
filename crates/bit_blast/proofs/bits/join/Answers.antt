use Rattle.std.proofs.Common.{◌∙◌}
use Rattle.bit_blast.proofs.Rearranging.{join_is, appended_twice}
use Rattle.bit_blast.proofs.bits.join.Goals as goal

pub returns : goal.returns
returns c = λ form first second. join_is form _ _ _ first second (c.new.ensures ∙ appended_twice _ _ _ _ _ c.in_ok-literals.ensures.items c.in_ok-extend_from_slice.ensures.items c.in_ok-extend_from_slice-2.ensures.items)
