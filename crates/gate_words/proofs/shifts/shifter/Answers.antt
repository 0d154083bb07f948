use Rattle.std.proofs.Common.{List, length, nat_lt, refl, sym, subst, arith}
use Rattle.sat_form.specs.Satisfaction.{Literal, literal_value}
use Rattle.sat_form.specs.Numbers.{value_of}
use Rattle.std.specs.Prelude.{if◌then◌else◌}
use Rattle.gate_bits.specs.Truth.{IsTruth, IsNumber}
use Rattle.gate_words.specs.Shifts.{shifted}
use Rattle.gate_bits.proofs.Growing.{GrowsFreely-then, IsTruth-kept}
use Rattle.gate_words.proofs.Shifting.{Shifted_any}
use Rattle.gate_words.proofs.shifts.shifter.Goals as goal

pub returns-in_err-bits-clause-grows : goal.returns-in_err-bits-clause-grows
returns-in_err-bits-clause-grows c =
    GrowsFreely-then c.in_ok-zero.ensures.grows (GrowsFreely-then c.in_ok-moved.ensures.grows (GrowsFreely-then c.in_ok-inside.ensures.grows c.in_err-bits.ensures.grows))

pub returns-clause-grows : goal.returns-clause-grows
returns-clause-grows c =
    GrowsFreely-then c.in_ok-zero.ensures.grows (GrowsFreely-then c.in_ok-moved.ensures.grows (GrowsFreely-then c.in_ok-inside.ensures.grows c.in_ok-bits.ensures.grows))

pub returns-clause-is : goal.returns-clause-is
returns-clause-is c =
    let a : List Literal = c.args.a.now in
    let count : List Literal = c.args.count.now in
    let width : List Literal = c.in_ok-width.width.items in
    let moved : List Literal = c.in_ok-moved.moved.items in
    let inside : Literal = c.in_ok-inside.inside in
    let bits : List Literal = c.in_ok-bits.bits.items in
    let is_inside = subst (λ (m : List Literal). IsTruth c.borrow.new.cnf inside (λ x. nat_lt (value_of count x) (value_of m x))) c.deref.ensures.value c.in_ok-inside.ensures.is in
    let is_bits = subst (λ (m : List Literal). IsNumber c.masked.new.cnf (length m) bits (λ x. if literal_value x inside then value_of m x else 0)) c.deref-2.ensures.value c.in_ok-bits.ensures.is in
    let all_bits = Shifted_any c.shifted_within.new.cnf c.borrow.new.cnf c.masked.new.cnf c.args.kind a count _ width moved bits c.in_ok-zero.zero inside c.stages.result
    c.requires.same_width (omega (arith, c.stages.ensures.within)) c.stages.ensures.enough refl
    (IsTruth-kept c.in_ok-zero.ensures.is c.in_ok-moved.ensures.grows) c.in_ok-moved.ensures.is c.in_ok-inside.ensures.grows c.in_ok-width.ensures is_inside c.in_ok-bits.ensures.grows is_bits in
    subst (λ (m : List Literal). IsNumber c.masked.new.cnf (length a) m (λ x. shifted c.args.kind (length a) (value_of a x) (value_of count x))) (sym c.new.ensures) all_bits
