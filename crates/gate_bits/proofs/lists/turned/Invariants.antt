use Rattle.std.proofs.Common.{map, take}
use Rattle.sat_form.specs.Satisfaction.{literal_value}
use Rattle.gate_bits.specs.Growth.{GrowsFreely}
use Rattle.gate_bits.specs.Truth.{AreTruths, differs}
use Rattle.gate_bits.proofs.lists.turned.Given as goal

abbrev pub invariant-loop-bit : goal.invariant-loop-bit
invariant-loop-bit l = record {
  grows : GrowsFreely l.fn.cnf l.cnf;
  is : AreTruths l.cnf l.bit-index l.flipped.items (λ x. map (λ m. differs (literal_value x l.fn.by) (literal_value x m)) (take l.bit-index l.bits));
}
