use Rattle.std.proofs.Common.{take, nat_lt}
use Rattle.sat_form.specs.Numbers.{value_of}
use Rattle.gate_bits.specs.Growth.{GrowsFreely}
use Rattle.gate_bits.specs.Truth.{IsTruth}
use Rattle.gate_bits.proofs.orders.borrow.Given as goal

abbrev pub invariant-loop-i : goal.invariant-loop-i
invariant-loop-i l = record {
  grows : GrowsFreely l.fn.cnf l.cnf;
  is : IsTruth l.cnf l.below (λ x. nat_lt (value_of (take l.i l.a) x) (value_of (take l.i l.b) x));
}
