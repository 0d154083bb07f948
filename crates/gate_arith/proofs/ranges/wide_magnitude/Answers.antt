use Rattle.std.proofs.Common.{◌≡◌, ◌-◌, ◌++◌, replicate, take, List, length, sym, subst}
use Rattle.std.proofs.lemmas.Result.{IfOk-weaker}
use Rattle.sat_form.specs.Satisfaction.{Literal, literal_value}
use Rattle.sat_form.specs.Numbers.{value_of}
use Rattle.gate_bits.specs.Truth.{IsNumber}
use Rattle.gate_words.specs.Quotients.{negated_if}
use Rattle.gate_bits.proofs.Growing.{IsTruth-kept}
use Rattle.gate_bits.proofs.Parts.{last_of}
use Rattle.gate_arith.proofs.Fitting.{Magnitude_is}
use Rattle.gate_arith.proofs.ranges.wide_magnitude.Goals as goal

pub returns-clause-is : goal.returns-clause-is
returns-clause-is c =
    let a : List Literal = c.args.a.now in
    let x : Literal = c.index-a-a.result in
    let size : List Literal = c.deref.result.now in
    let is_size = subst (λ (m : List Literal). IsNumber c.negated.new.cnf (length a) m (λ v. negated_if (literal_value v x) (length a) (value_of a v))) (sym c.deref.ensures.value) c.in_ok-size.ensures.is in
    IfOk-weaker c.widened.result (λ r. r.items ≡ size ++ replicate (length size) c.args.zero) _
    (λ r is. Magnitude_is c.negated.new.cnf a size r.items (take (length a - 1) a) x c.args.zero (last_of a x c.requires.positive c.index-a-a.is) is (IsTruth-kept c.requires.zero c.in_ok-size.ensures.grows) is_size)
    c.widened.ensures
