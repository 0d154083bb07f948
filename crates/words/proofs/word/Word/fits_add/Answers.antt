use Rattle.std.proofs.Common.{◌≡◌, ◌+ℤ◌, ℤ, sym, ap, ◌∙◌}
use Rattle.words.specs.BitVector.{BitVector, signed_value}
use Rattle.words.specs.Operators.{sum_fits}
use Rattle.words.proofs.SignedBodies.{result_in_range, result_out_of_range}
use Rattle.words.proofs.word.Word.fits_add.Goals as goal

pub returns-in-Some : goal.returns-in-Some
unfolding sum_fits
returns-in-Some c =
    let width : c.self.inside.width ≡ c.args.self.width = ap (λ (v : BitVector). v.width) c.self.view_is in
    (rw width at c.is_in_range.ensures)
    ∙ result_in_range (λ (x y : ℤ). x +ℤ y) _ _ _ _ _ _ (record { sfits = c.signed.type_inv }) (record { sfits = c.signed-2.type_inv }) c.signed.ensures.value (c.signed-2.ensures.value ∙ ap (λ w. signed_value w c.args.other.bits) (sym c.requires)) (c.in-Some.ensures).0 (c.in-Some.ensures).1

pub returns-in-None : goal.returns-in-None
unfolding sum_fits
returns-in-None c =
    sym (result_out_of_range (λ (x y : ℤ). x +ℤ y) _ _ _ _ _ c.signed.ensures.is_word.at_most_64 (record { sfits = c.signed.type_inv }) (record { sfits = c.signed-2.type_inv }) c.signed.ensures.value (c.signed-2.ensures.value ∙ ap (λ w. signed_value w c.args.other.bits) (sym c.requires)) (c.in-None.ensures))
