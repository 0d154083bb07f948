use Rattle.std.proofs.Common.{false, take, length}
use Rattle.sat_form.specs.Numbers.{value_of}
use Rattle.words.specs.Operators.{word_product}
use Rattle.gate_bits.specs.Growth.{GrowsFreely}
use Rattle.gate_bits.specs.Truth.{IsTruth, IsNumber}
use Rattle.gate_words.proofs.products.product.Given as goal

abbrev pub invariant-loop-i : goal.invariant-loop-i
invariant-loop-i l = record {
  grows : GrowsFreely l.fn.cnf l.cnf;
  zero : IsTruth l.cnf l.zero (λ x. false);
  is : IsNumber l.cnf (length l.fn.factor) l.total.items (λ x. word_product (length l.fn.factor) (value_of l.fn.factor x) (value_of (take l.i l.rows) x));
}
