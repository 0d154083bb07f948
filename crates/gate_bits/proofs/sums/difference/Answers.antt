use Rattle.std.proofs.Common.{List, length, sym, ◌∙◌, subst}
use Rattle.sat_form.specs.Satisfaction.{Literal, IsWithin}
use Rattle.sat_form.specs.Numbers.{value_of}
use Rattle.words.specs.Operators.{word_difference}
use Rattle.gate_bits.specs.Truth.{IsNumber}
use Rattle.gate_bits.proofs.Growing.{IsTruth-kept, IsWithin-kept}
use Rattle.gate_bits.proofs.Inverting.{IsWithin-inverses}
use Rattle.gate_bits.proofs.Wording.{Difference_is}
use Rattle.gate_bits.proofs.sums.difference.Goals as goal

pub sum-requires-clause-b : goal.sum-requires-clause-b
sum-requires-clause-b c =
    subst (λ (m : List Literal). IsWithin c.constant.new.cnf.variables m) (sym (c.deref.ensures.value ∙ c.in_ok-inverse.ensures))
    (IsWithin-inverses c.constant.new.cnf.variables c.args.b.now (IsWithin-kept c.args.b.now c.requires.b c.in_ok-one.ensures.grows))

pub returns-clause-is : goal.returns-clause-is
returns-clause-is c =
    let a : List Literal = c.args.a.now in
    let b : List Literal = c.args.b.now in
    let word = Difference_is c.sum.new.cnf a b c.deref.result.now c.in_ok-bits.bits.items c.in_ok-one.one c.in_ok-bits.field-0-1 c.requires.same_width (c.deref.ensures.value ∙ c.in_ok-inverse.ensures) (IsTruth-kept c.in_ok-one.ensures.is c.in_ok-bits.ensures.grows) c.in_ok-bits.ensures.is in
    subst (λ (s : List Literal). IsNumber c.sum.new.cnf (length a) s (λ x. word_difference (length a) (value_of a x) (value_of b x))) (sym c.new.ensures) word
