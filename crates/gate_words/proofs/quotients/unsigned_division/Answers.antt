use Rattle.std.proofs.Common.{List, length, nat_eq, subst}
use Rattle.std.specs.Prelude.{if◌then◌else◌}
use Rattle.sat_form.specs.Satisfaction.{Literal, literal_value}
use Rattle.sat_form.specs.Numbers.{value_of}
use Rattle.gate_bits.specs.Truth.{IsTruth, IsNumber}
use Rattle.gate_bits.proofs.Growing.{GrowsFreely-then, IsTruth-kept, IsNumber-kept}
use Rattle.gate_words.proofs.Dividing.{Quotient_is, Remainder_is}
use Rattle.gate_words.proofs.quotients.unsigned_division.Goals as goal

pub returns-in_err-rest-clause-grows : goal.returns-in_err-rest-clause-grows
returns-in_err-rest-clause-grows c =
    GrowsFreely-then c.in_ok-quotient.ensures.grows (GrowsFreely-then c.in_ok-by_zero.ensures.grows (GrowsFreely-then c.in_ok-quotient-2.ensures.grows c.in_err-rest.ensures.grows))

pub returns-clause-grows : goal.returns-clause-grows
returns-clause-grows c =
    GrowsFreely-then c.in_ok-quotient.ensures.grows (GrowsFreely-then c.in_ok-by_zero.ensures.grows (GrowsFreely-then c.in_ok-quotient-2.ensures.grows c.in_ok-rest.ensures.grows))

pub returns-clause-quotient : goal.returns-clause-quotient
returns-clause-quotient c =
    let q : List Literal = c.in_ok-quotient.quotient.items in
    let zeros : List Literal = c.in_ok-zeros.zeros.items in
    let is_test = subst (λ (m : List Literal). IsTruth c.equal.new.cnf c.in_ok-by_zero.by_zero (λ x. nat_eq (value_of c.args.b.now x) (value_of m x))) c.deref.ensures.value c.in_ok-by_zero.ensures.is in
    let is_masked = subst (λ (m : List Literal). IsNumber c.masked.new.cnf (length m) c.in_ok-quotient-2.quotient.items (λ x. if literal_value x c.inverse.result then value_of m x else 0)) c.deref-2.ensures.value c.in_ok-quotient-2.ensures.is in
    IsNumber-kept
    (Quotient_is c.divide.new.cnf c.equal.new.cnf c.masked.new.cnf c.args.a.now c.args.b.now q c.in_ok-quotient.rest.items zeros c.in_ok-quotient-2.quotient.items c.args.zero c.in_ok-by_zero.by_zero c.inverse.result _
    c.in_ok-quotient.ensures.count (IsTruth-kept c.requires.zero c.in_ok-quotient.ensures.grows) c.in_ok-quotient.ensures.is c.in_ok-by_zero.ensures.grows (c.in_ok-zeros.ensures.items_if_clones_equal (λ y h. h)) is_test c.inverse.ensures c.in_ok-quotient-2.ensures.grows is_masked)
    c.in_ok-rest.ensures.grows

pub returns-clause-remainder : goal.returns-clause-remainder
returns-clause-remainder c =
    let rest : List Literal = c.in_ok-quotient.rest.items in
    let zeros : List Literal = c.in_ok-zeros.zeros.items in
    let is_test = subst (λ (m : List Literal). IsTruth c.equal.new.cnf c.in_ok-by_zero.by_zero (λ x. nat_eq (value_of c.args.b.now x) (value_of m x))) c.deref.ensures.value c.in_ok-by_zero.ensures.is in
    let is_masked = subst (λ (m : List Literal). IsNumber c.masked-2.new.cnf (length m) c.in_ok-rest.rest.items (λ x. if literal_value x c.inverse-2.result then value_of m x else 0)) c.deref-3.ensures.value c.in_ok-rest.ensures.is in
    Remainder_is c.divide.new.cnf c.equal.new.cnf c.masked-2.new.cnf c.args.a.now c.args.b.now c.in_ok-quotient.quotient.items rest zeros c.in_ok-rest.rest.items c.args.zero c.in_ok-by_zero.by_zero c.inverse-2.result _
    c.requires.same_width (IsTruth-kept c.requires.zero c.in_ok-quotient.ensures.grows) c.in_ok-quotient.ensures.is c.in_ok-by_zero.ensures.grows (c.in_ok-zeros.ensures.items_if_clones_equal (λ y h. h)) is_test c.inverse-2.ensures
    (GrowsFreely-then c.in_ok-quotient-2.ensures.grows c.in_ok-rest.ensures.grows) is_masked
