use Rattle.std.proofs.Common.{◌∙◌}
use Rattle.gate_bits.proofs.Wording.{Complement_is}
use Rattle.gate_bits.proofs.bits.complement.Goals as goal

pub returns : goal.returns
returns c = λ form within. Complement_is form c.args.a.now c.new.result (c.new.ensures ∙ c.in_ok-bits.ensures) within
