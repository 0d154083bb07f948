use Rattle.std.proofs.Common.{◌||◌, List, nat_lt, nat_eq, refl, subst, arith}
use Rattle.std.proofs.lemmas.Result.{IfOk-weaker}
use Rattle.sat_form.specs.Satisfaction.{Literal, literal_value}
use Rattle.sat_form.specs.Numbers.{value_of}
use Rattle.gate_bits.specs.Truth.{IsTruth}
use Rattle.gate_bits.proofs.Growing.{GrowsFreely-then}
use Rattle.gate_arith.proofs.Fitting.{Left_shift_fits}
use Rattle.gate_arith.proofs.ranges.left_shift_fits.Goals as goal

pub returns-in_err-none-clause-grows : goal.returns-in_err-none-clause-grows
returns-in_err-none-clause-grows c =
    GrowsFreely-then c.in_ok-zero.ensures.grows (GrowsFreely-then c.in_ok-fits.ensures.grows (GrowsFreely-then c.in_ok-inside.ensures.grows c.in_err-none.ensures.grows))

pub returns-in_err-fits-2-clause-grows : goal.returns-in_err-fits-2-clause-grows
returns-in_err-fits-2-clause-grows c =
    GrowsFreely-then c.in_ok-zero.ensures.grows (GrowsFreely-then c.in_ok-fits.ensures.grows (GrowsFreely-then c.in_ok-inside.ensures.grows (GrowsFreely-then c.in_ok-none.ensures.grows c.in_err-fits-2.ensures.grows)))

pub returns-clause-grows : goal.returns-clause-grows
returns-clause-grows c =
    GrowsFreely-then c.in_ok-zero.ensures.grows (GrowsFreely-then c.in_ok-fits.ensures.grows (GrowsFreely-then c.in_ok-inside.ensures.grows (GrowsFreely-then c.in_ok-none.ensures.grows (GrowsFreely-then c.in_ok-fits-2.ensures.grows c.or.ensures.grows))))

pub returns-clause-is : goal.returns-clause-is
returns-clause-is c =
    let a : List Literal = c.args.a.now in
    let count : List Literal = c.args.count.now in
    let inside : Literal = c.in_ok-inside.inside in
    let none : Literal = c.in_ok-none.none in
    let width : List Literal = c.in_ok-width.width.items in
    let zeros : List Literal = c.in_ok-zeros.zeros.items in
    let is_inside = subst (λ (m : List Literal). IsTruth c.borrow.new.cnf inside (λ x. nat_lt (value_of count x) (value_of m x))) c.deref.ensures.value c.in_ok-inside.ensures.is in
    let is_none = subst (λ (m : List Literal). IsTruth c.equal.new.cnf none (λ x. nat_eq (value_of a x) (value_of m x))) c.deref-2.ensures.value c.in_ok-none.ensures.is in
    IfOk-weaker c.or.result (λ l. IsTruth c.or.new.cnf l (λ x. literal_value x c.in_ok-fits-2.fits || literal_value x none)) _
    (λ l is. Left_shift_fits c.constant.new.cnf c.shift_fits.new.cnf c.borrow.new.cnf c.equal.new.cnf c.and.new.cnf c.or.new.cnf a count _ width zeros c.in_ok-zero.zero c.in_ok-fits.fits inside none c.in_ok-fits-2.fits l c.stages.result
    c.requires.positive c.requires.same_width (omega (arith, c.stages.ensures.within)) c.stages.ensures.enough refl
    c.in_ok-zero.ensures.is c.in_ok-fits.ensures.grows c.in_ok-fits.ensures.is c.in_ok-width.ensures c.in_ok-inside.ensures.grows is_inside (c.in_ok-zeros.ensures.items_if_clones_equal (λ y h. h)) c.in_ok-none.ensures.grows is_none c.in_ok-fits-2.ensures.grows c.in_ok-fits-2.ensures.is c.or.ensures.grows is)
    c.or.ensures.is
