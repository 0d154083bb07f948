use Rattle.std.proofs.Common.{map, take}
use Rattle.std.specs.Prelude.{if◌then◌else◌}
use Rattle.sat_form.specs.Satisfaction.{literal_value}
use Rattle.gate_bits.specs.Growth.{GrowsFreely}
use Rattle.gate_bits.specs.Truth.{AreTruths}
use Rattle.gate_bits.proofs.lists.chosen.Given as goal

abbrev pub invariant-loop-i : goal.invariant-loop-i
invariant-loop-i l = record {
  grows : GrowsFreely l.fn.cnf l.cnf;
  is : AreTruths l.cnf l.i l.bits.items (λ x. if literal_value x l.fn.test then map (literal_value x) (take l.i l.yes) else map (literal_value x) (take l.i l.no));
}
