use Rattle.std.proofs.Common.{List, sym, subst}
use Rattle.sat_form.specs.Satisfaction.{Literal}
use Rattle.sat_form.specs.Numbers.{bit_value, value_of}
use Rattle.std.proofs.Common.{◌+◌, length}
use Rattle.words.specs.Operators.{word_sum}
use Rattle.gate_bits.specs.Truth.{IsNumber}
use Rattle.gate_bits.proofs.Growing.{IsTruth-kept}
use Rattle.gate_bits.proofs.Adding.{Sum_word}
use Rattle.gate_bits.proofs.sums.adder.Goals as goal

pub returns-clause-is : goal.returns-clause-is
returns-clause-is c =
    let word = Sum_word _ _ _ _ _ _ c.args.carry c.in_ok-bits.ensures.is (IsTruth-kept c.in_ok-start.ensures.is c.in_ok-bits.ensures.grows) in
    subst (λ (s : List Literal). IsNumber c.sum.new.cnf (length c.args.a.now) s (λ x. word_sum (length c.args.a.now) (value_of c.args.a.now x) (value_of c.args.b.now x + bit_value c.args.carry))) (sym c.new.ensures) word
