use Rattle.std.proofs.Common.{take}
use Rattle.sat_form.specs.Numbers.{value_of}
use Rattle.gate_bits.specs.Growth.{GrowsFreely}
use Rattle.gate_words.specs.Shifts.{IsShiftedDown}
use Rattle.gate_words.proofs.shifts.shifted_down.Given as goal

abbrev pub invariant-loop-k : goal.invariant-loop-k
invariant-loop-k l = record {
  grows : GrowsFreely l.fn.cnf l.cnf;
  is : IsShiftedDown l.cnf l.fn.a l.fn.fill l.bits.items (λ x. value_of (take l.k l.count) x);
}
