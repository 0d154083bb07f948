use Rattle.std.proofs.Common.{◌+◌, ◌-◌, ◌^◌, List, take, length, nat_lt, sym, subst, arith}
use Rattle.std.proofs.lemmas.Result.{IfOk-weaker}
use Rattle.sat_form.specs.Satisfaction.{Literal, literal_value, IsWithin}
use Rattle.sat_form.specs.Numbers.{bit_value, value_of}
use Rattle.words.specs.Operators.{word_product}
use Rattle.gate_bits.specs.Truth.{IsTruth, IsNumber}
use Rattle.gate_arith.specs.Ranges.{magnitude}
use Rattle.gate_bits.proofs.Growing.{GrowsFreely-then, IsNumber-kept, IsWithin-kept}
use Rattle.gate_bits.proofs.Parts.{last_of}
use Rattle.gate_arith.proofs.Fitting.{Product_fits}
use Rattle.gate_arith.proofs.ranges.product_fits.Goals as goal

pub returns-in_err-size-clause-grows : goal.returns-in_err-size-clause-grows
returns-in_err-size-clause-grows c =
    GrowsFreely-then c.in_ok-zero.ensures.grows (GrowsFreely-then c.in_ok-size_of_a.ensures.grows (GrowsFreely-then c.in_ok-size_of_b.ensures.grows c.in_err-size.ensures.grows))

pub returns-in_err-apart-clause-grows : goal.returns-in_err-apart-clause-grows
returns-in_err-apart-clause-grows c =
    GrowsFreely-then c.in_ok-zero.ensures.grows (GrowsFreely-then c.in_ok-size_of_a.ensures.grows (GrowsFreely-then c.in_ok-size_of_b.ensures.grows (GrowsFreely-then c.in_ok-size.ensures.grows c.in_err-apart.ensures.grows)))

pub is_below-requires-clause-bits : goal.is_below-requires-clause-bits
is_below-requires-clause-bits c =
    subst (λ (m : List Literal). IsWithin c.xor.new.cnf.variables m) (sym c.as_slice.ensures)
    (IsWithin-kept c.in_ok-size.size c.in_ok-size.ensures.is.within c.in_ok-apart.ensures.grows)

pub returns-clause-grows : goal.returns-clause-grows
returns-clause-grows c =
    GrowsFreely-then c.in_ok-zero.ensures.grows (GrowsFreely-then c.in_ok-size_of_a.ensures.grows (GrowsFreely-then c.in_ok-size_of_b.ensures.grows (GrowsFreely-then c.in_ok-size.ensures.grows (GrowsFreely-then c.in_ok-apart.ensures.grows c.is_below.ensures.grows))))

pub returns-clause-is : goal.returns-clause-is
returns-clause-is c =
    let a : List Literal = c.args.a.now in
    let b : List Literal = c.args.b.now in
    let s : Literal = c.index-a-a.result in
    let t : Literal = c.index-b-b.result in
    let size_of_a : List Literal = c.deref.result.now in
    let size_of_b : List Literal = c.deref-2.result.now in
    let size : List Literal = c.as_slice.result.now in
    let apart : Literal = c.in_ok-apart.apart in
    let is_a = subst (λ (m : List Literal). IsNumber c.wide_magnitude-2.new.cnf (length a + length a) m (λ x. magnitude (length a) (value_of a x))) (sym c.deref.ensures.value) (IsNumber-kept c.in_ok-size_of_a.ensures.is c.in_ok-size_of_b.ensures.grows) in
    let is_b = subst (λ (m : List Literal). IsNumber c.wide_magnitude-2.new.cnf (length b + length b) m (λ x. magnitude (length b) (value_of b x))) (sym c.deref-2.ensures.value) c.in_ok-size_of_b.ensures.is in
    let is_size = subst (λ (m : List Literal). IsNumber c.multiplier.new.cnf (length size_of_a) m (λ x. word_product (length size_of_a) (value_of size_of_a x) (value_of size_of_b x))) (sym c.as_slice.ensures) c.in_ok-size.ensures.is in
    IfOk-weaker c.is_below.result (λ l. IsTruth c.is_below.new.cnf l (λ x. nat_lt (value_of size x) (2 ^ (length a - 1) + bit_value (literal_value x apart)))) _
    (λ l is. Product_fits c.wide_magnitude-2.new.cnf c.multiplier.new.cnf c.xor.new.cnf c.is_below.new.cnf a b (take (length a - 1) a) (take (length b - 1) b) size_of_a size_of_b size s t apart l
    c.requires.same_width (last_of a s c.requires.positive c.index-a-a.is) (last_of b t (omega arith) c.index-b-b.is) is_a is_b c.in_ok-size.ensures.grows is_size c.in_ok-apart.ensures.grows c.in_ok-apart.ensures.is c.is_below.ensures.grows is)
    c.is_below.ensures.is
