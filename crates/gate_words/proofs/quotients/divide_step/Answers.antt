use Rattle.std.proofs.Common.{◌≡◌, List, ◌∷◌, ◌++◌, map, length, sym, ap, ◌∙◌, subst}
use Rattle.std.specs.Prelude.{if◌then◌else◌}
use Rattle.sat_form.specs.Satisfaction.{Literal, literal_value}
use Rattle.gate_bits.specs.Truth.{AreTruths}
use Rattle.gate_bits.specs.Sums.{IsSum}
use Rattle.gate_bits.proofs.Growing.{IsTruth-kept}
use Rattle.gate_words.proofs.Dividing.{Step_is}
use Rattle.gate_words.proofs.quotients.divide_step.Goals as goal

pub returns-clause-is : goal.returns-clause-is
returns-clause-is c =
    let bit : Literal = c.args.bit in
    let rest : List Literal = c.args.rest.now in
    let fits : Literal = c.in_ok-difference.fits in
    let dividend : List Literal = c.deref.result.now in
    let difference : List Literal = c.deref-2.result.now in
    let is_dividend : dividend ≡ bit ∷ rest = c.deref.ensures.value ∙ c.in_ok-extend_from_slice.ensures.items ∙ ap (λ (m : List Literal). m ++ rest) c.in_ok-dividend.ensures.items in
    let added = subst (λ (m : List Literal). IsSum c.sum.new.cnf dividend c.args.complement.now c.args.one m fits) (sym c.deref-2.ensures.value) c.in_ok-difference.ensures.is in
    let same_dividend : c.deref-3.result.now ≡ dividend = c.deref-3.ensures.value ∙ sym c.deref.ensures.value in
    let are = subst (λ (m : List Literal). AreTruths c.chosen.new.cnf (length difference) c.in_ok-next.next.items (λ x. if literal_value x fits then map (literal_value x) difference else map (literal_value x) m)) same_dividend c.in_ok-next.ensures.is in
    Step_is c.sum.new.cnf c.chosen.new.cnf bit c.args.one fits rest c.args.complement.now dividend difference c.in_ok-next.next.items c.truncate.new.self.items is_dividend c.requires.one_more
    (IsTruth-kept c.requires.one c.in_ok-difference.ensures.grows) added c.in_ok-next.ensures.grows are c.truncate.ensures.items
