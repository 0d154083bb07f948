use Rattle.std.proofs.Common.{◌-◌, List, take, length, sym, subst, arith}
use Rattle.sat_form.specs.Satisfaction.{Literal, IsWithin, literal_value}
use Rattle.sat_form.specs.Numbers.{value_of}
use Rattle.words.specs.Operators.{unsigned_quotient, unsigned_remainder}
use Rattle.gate_bits.specs.Truth.{IsNumber}
use Rattle.gate_words.specs.Quotients.{negated_if}
use Rattle.gate_bits.proofs.Growing.{GrowsFreely-then, IsNumber-kept, IsWithin-kept}
use Rattle.gate_bits.proofs.Parts.{last_of}
use Rattle.gate_words.proofs.Dividing.{Signed_quotient_is, Signed_remainder_is}
use Rattle.gate_words.proofs.quotients.signed_division.Goals as goal

pub returns-in_err-apart-clause-grows : goal.returns-in_err-apart-clause-grows
returns-in_err-apart-clause-grows c =
    GrowsFreely-then c.in_ok-dividend.ensures.grows (GrowsFreely-then c.in_ok-divisor.ensures.grows (GrowsFreely-then c.in_ok-quotient.ensures.grows c.in_err-apart.ensures.grows))

pub negated-requires-3-clause-bits : goal.negated-requires-3-clause-bits
negated-requires-3-clause-bits c =
    subst (λ (m : List Literal). IsWithin c.xor.new.cnf.variables m) (sym c.deref-3.ensures.value)
    (IsWithin-kept c.in_ok-quotient.quotient.items c.in_ok-quotient.ensures.quotient.within c.in_ok-apart.ensures.grows)

pub returns-in_err-quotient-2-clause-grows : goal.returns-in_err-quotient-2-clause-grows
returns-in_err-quotient-2-clause-grows c =
    GrowsFreely-then c.in_ok-dividend.ensures.grows (GrowsFreely-then c.in_ok-divisor.ensures.grows (GrowsFreely-then c.in_ok-quotient.ensures.grows (GrowsFreely-then c.in_ok-apart.ensures.grows c.in_err-quotient-2.ensures.grows)))

pub negated-requires-4-clause-bits : goal.negated-requires-4-clause-bits
negated-requires-4-clause-bits c =
    subst (λ (m : List Literal). IsWithin c.negated-3.new.cnf.variables m) (sym c.deref-4.ensures.value)
    (IsWithin-kept c.in_ok-quotient.rest.items c.in_ok-quotient.ensures.remainder.within (GrowsFreely-then c.in_ok-apart.ensures.grows c.in_ok-quotient-2.ensures.grows))

pub returns-in_err-rest-clause-grows : goal.returns-in_err-rest-clause-grows
returns-in_err-rest-clause-grows c =
    GrowsFreely-then c.in_ok-dividend.ensures.grows (GrowsFreely-then c.in_ok-divisor.ensures.grows (GrowsFreely-then c.in_ok-quotient.ensures.grows (GrowsFreely-then c.in_ok-apart.ensures.grows (GrowsFreely-then c.in_ok-quotient-2.ensures.grows c.in_err-rest.ensures.grows))))

pub returns-clause-grows : goal.returns-clause-grows
returns-clause-grows c =
    GrowsFreely-then c.in_ok-dividend.ensures.grows (GrowsFreely-then c.in_ok-divisor.ensures.grows (GrowsFreely-then c.in_ok-quotient.ensures.grows (GrowsFreely-then c.in_ok-apart.ensures.grows (GrowsFreely-then c.in_ok-quotient-2.ensures.grows c.in_ok-rest.ensures.grows))))

pub returns-clause-quotient : goal.returns-clause-quotient
returns-clause-quotient c =
    let a : List Literal = c.args.a.now in
    let b : List Literal = c.args.b.now in
    let s : Literal = c.index-a-a.result in
    let t : Literal = c.index-b-b.result in
    let dividend : List Literal = c.in_ok-dividend.dividend.items in
    let divisor : List Literal = c.in_ok-divisor.divisor.items in
    let quotient : List Literal = c.in_ok-quotient.quotient.items in
    let divided = subst (λ (m : List Literal). IsNumber c.trimmed_division.new.cnf (length m) quotient (λ x. unsigned_quotient (value_of m x) (value_of divisor x))) c.deref.ensures.value
    (subst (λ (m : List Literal). IsNumber c.trimmed_division.new.cnf (length c.deref.result.now) quotient (λ x. unsigned_quotient (value_of c.deref.result.now x) (value_of m x))) c.deref-2.ensures.value c.in_ok-quotient.ensures.quotient) in
    let signed = subst (λ (m : List Literal). IsNumber c.negated-3.new.cnf (length m) c.in_ok-quotient-2.quotient.items (λ x. negated_if (literal_value x c.in_ok-apart.apart) (length m) (value_of m x))) c.deref-3.ensures.value c.in_ok-quotient-2.ensures.is in
    IsNumber-kept
    (Signed_quotient_is c.negated.new.cnf c.negated-2.new.cnf c.trimmed_division.new.cnf c.xor.new.cnf c.negated-3.new.cnf a b dividend divisor quotient c.in_ok-quotient-2.quotient.items (take (length a - 1) a) (take (length b - 1) b) s t c.in_ok-apart.apart
    c.requires.positive c.requires.same_width (last_of a s c.requires.positive c.index-a-a.is) (last_of b t (omega arith) c.index-b-b.is)
    c.in_ok-dividend.ensures.is c.in_ok-divisor.ensures.grows c.in_ok-divisor.ensures.is c.in_ok-quotient.ensures.grows divided c.in_ok-apart.ensures.grows c.in_ok-apart.ensures.is c.in_ok-quotient-2.ensures.grows signed)
    c.in_ok-rest.ensures.grows

pub returns-clause-remainder : goal.returns-clause-remainder
returns-clause-remainder c =
    let a : List Literal = c.args.a.now in
    let b : List Literal = c.args.b.now in
    let s : Literal = c.index-a-a.result in
    let t : Literal = c.index-b-b.result in
    let dividend : List Literal = c.in_ok-dividend.dividend.items in
    let divisor : List Literal = c.in_ok-divisor.divisor.items in
    let rest : List Literal = c.in_ok-quotient.rest.items in
    let divided = subst (λ (m : List Literal). IsNumber c.trimmed_division.new.cnf (length m) rest (λ x. unsigned_remainder (value_of m x) (value_of divisor x))) c.deref.ensures.value
    (subst (λ (m : List Literal). IsNumber c.trimmed_division.new.cnf (length c.deref.result.now) rest (λ x. unsigned_remainder (value_of c.deref.result.now x) (value_of m x))) c.deref-2.ensures.value c.in_ok-quotient.ensures.remainder) in
    let signed = subst (λ (m : List Literal). IsNumber c.negated-4.new.cnf (length m) c.in_ok-rest.rest.items (λ x. negated_if (literal_value x s) (length m) (value_of m x))) c.deref-4.ensures.value c.in_ok-rest.ensures.is in
    Signed_remainder_is c.negated.new.cnf c.negated-2.new.cnf c.trimmed_division.new.cnf c.negated-4.new.cnf a b dividend divisor rest c.in_ok-rest.rest.items (take (length a - 1) a) (take (length b - 1) b) s t
    c.requires.positive c.requires.same_width (last_of a s c.requires.positive c.index-a-a.is) (last_of b t (omega arith) c.index-b-b.is)
    c.in_ok-dividend.ensures.is c.in_ok-divisor.ensures.grows c.in_ok-divisor.ensures.is c.in_ok-quotient.ensures.grows divided
    (GrowsFreely-then c.in_ok-apart.ensures.grows (GrowsFreely-then c.in_ok-quotient-2.ensures.grows c.in_ok-rest.ensures.grows)) signed
