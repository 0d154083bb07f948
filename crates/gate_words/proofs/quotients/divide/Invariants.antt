use Rattle.std.proofs.Common.{◌≡◌, true, drop, length}
use Rattle.sat_form.specs.Satisfaction.{IsWithin}
use Rattle.gate_bits.specs.Growth.{GrowsFreely}
use Rattle.gate_bits.specs.Truth.{IsTruth}
use Rattle.gate_words.specs.Quotients.{IsDivided}
use Rattle.gate_words.proofs.quotients.divide.Given as goal

abbrev pub invariant-loop-i : goal.invariant-loop-i
invariant-loop-i l = record {
  grows : GrowsFreely l.fn.cnf l.cnf;
  one : IsTruth l.cnf l.one (λ x. true);
  count : length l.quotient.items ≡ length l.fn.a;
  within : IsWithin l.cnf.variables l.quotient.items;
  is : IsDivided l.cnf (drop l.i l.fn.a) l.fn.b (drop l.i l.quotient.items) l.rest.items;
}
