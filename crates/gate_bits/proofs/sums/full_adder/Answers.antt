use Rattle.std.proofs.Common.{◌+◌, ◌*◌, ap, ◌∙◌, arith}
use Rattle.sat_form.specs.Satisfaction.{literal_value}
use Rattle.sat_form.specs.Numbers.{bit_value}
use Rattle.gate_bits.specs.Truth.{differs}
use Rattle.gate_bits.proofs.Growing.{front}
use Rattle.gate_bits.proofs.Adding.{full_adder_table}
use Rattle.gate_bits.proofs.sums.full_adder.Goals as goal

pub returns-clause-is : goal.returns-clause-is
returns-clause-is c = record {
  sum_within = omega (arith, c.in_ok-sum.ensures.is.within, c.in_ok-next.ensures.grows.variables);
  carry_within = c.in_ok-next.ensures.is.within;
  is = λ x all.
      let before = front c.in_ok-next.ensures.grows x all in
      let half = c.in_ok-half.ensures.is.is x (front c.in_ok-sum.ensures.grows x before) in
      let total = c.in_ok-sum.ensures.is.is x before in
      let next = c.in_ok-next.ensures.is.is x all in
      (λ k. bit_value ((total ∙ ap (λ h. differs h (literal_value x c.args.carry)) half) k) + 2 * bit_value (next k)) ∙ full_adder_table (literal_value x c.args.a) (literal_value x c.args.b) (literal_value x c.args.carry);
}
