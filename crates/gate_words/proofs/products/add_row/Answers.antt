use Rattle.std.proofs.Common.{◌≡◌, ◌-◌, List, ◌++◌, take, replicate, length, sym, ◌∙◌, subst}
use Rattle.sat_form.specs.Satisfaction.{Literal, IsWithin}
use Rattle.gate_bits.specs.Sums.{IsSum}
use Rattle.gate_bits.proofs.Growing.{IsWithin-kept}
use Rattle.gate_words.proofs.Multiplying.{Row_is, Row_none}
use Rattle.gate_bits.proofs.Parts.{IsWithin-moved_up}
use Rattle.gate_words.proofs.products.add_row.Goals as goal

pub returns-in-Some-false-clause-is : goal.returns-in-Some-false-clause-is
returns-in-Some-false-clause-is c =
    Row_none _ _ _ _ _ _ c.requires.same_width c.requires.total c.in-Some-false.ensures c.in-Some-false.field-0-test

pub masked-requires-clause-bits : goal.masked-requires-clause-bits
masked-requires-clause-bits c =
    subst (IsWithin c.args.cnf.now.variables) (sym (c.deref.ensures.value ∙ c.in_ok-moved.ensures)) (IsWithin-moved_up c.args.cnf.now.variables c.args.place c.args.zero c.args.factor.now c.requires.zero.within c.requires.factor)

pub sum-requires-clause-a : goal.sum-requires-clause-a
sum-requires-clause-a c =
    subst (IsWithin c.masked.new.cnf.variables) (sym c.deref-2.ensures.value) (IsWithin-kept c.args.total.items c.requires.total c.in_ok-row.ensures.grows)

pub returns-clause-is : goal.returns-clause-is
returns-clause-is c =
    let moved : List Literal = c.deref.result.now in
    let is_moved : moved ≡ replicate c.args.place c.args.zero ++ take (length c.args.factor.now - c.args.place) c.args.factor.now = c.deref.ensures.value ∙ c.in_ok-moved.ensures in
    let added = subst (λ (t : List Literal). IsSum c.sum.new.cnf t c.in_ok-row.row.items c.args.zero c.in_ok-next.next.items c.in_ok-next.field-0-1) c.deref-2.ensures.value
    (subst (λ (r : List Literal). IsSum c.sum.new.cnf c.deref-2.result.now r c.args.zero c.in_ok-next.next.items c.in_ok-next.field-0-1) c.deref-3.ensures.value c.in_ok-next.ensures.is) in
    Row_is _ _ _ c.args.factor.now c.args.total.items moved c.in_ok-row.row.items c.in_ok-next.next.items c.args.bit c.args.zero c.in_ok-next.field-0-1 c.args.place c.requires.place c.requires.same_width is_moved c.requires.zero c.in_ok-row.ensures.grows c.in_ok-row.ensures.is c.in_ok-next.ensures.grows added
