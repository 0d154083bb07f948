use Rattle.std.proofs.Common.{take}
use Rattle.sat_form.specs.Numbers.{value_of}
use Rattle.gate_bits.specs.Growth.{GrowsFreely}
use Rattle.gate_bits.specs.Truth.{IsNumber}
use Rattle.gate_bits.specs.Bitwise.{word_by}
use Rattle.gate_bits.proofs.bits.bit_by_bit.Given as goal

abbrev pub invariant-loop-i : goal.invariant-loop-i
invariant-loop-i l = record {
  grows : GrowsFreely l.fn.cnf l.cnf;
  is : IsNumber l.cnf l.i l.bits.items (λ x. word_by l.kind (value_of (take l.i l.a) x) (value_of (take l.i l.b) x));
}
