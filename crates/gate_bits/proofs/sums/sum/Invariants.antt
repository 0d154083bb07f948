use Rattle.std.proofs.Common.{take}
use Rattle.gate_bits.specs.Growth.{GrowsFreely}
use Rattle.gate_bits.specs.Sums.{IsSum}
use Rattle.gate_bits.proofs.sums.sum.Given as goal

abbrev pub invariant-loop-i : goal.invariant-loop-i
invariant-loop-i l = record {
  grows : GrowsFreely l.fn.cnf l.cnf;
  is : IsSum l.cnf (take l.i l.a) (take l.i l.b) l.fn.start l.bits.items l.carry;
}
