use Rattle.std.proofs.Common.{false, take, length}
use Rattle.sat_form.specs.Numbers.{value_of}
use Rattle.words.specs.Operators.{left_shift}
use Rattle.gate_bits.specs.Growth.{GrowsFreely}
use Rattle.gate_bits.specs.Truth.{IsTruth, IsNumber}
use Rattle.gate_words.proofs.shifts.shifted_up.Given as goal

abbrev pub invariant-loop-k : goal.invariant-loop-k
invariant-loop-k l = record {
  grows : GrowsFreely l.fn.cnf l.cnf;
  zero : IsTruth l.cnf l.zero (λ x. false);
  is : IsNumber l.cnf (length l.fn.a) l.bits.items (λ x. left_shift (length l.fn.a) (value_of l.fn.a x) (value_of (take l.k l.count) x));
}
