use Rattle.std.proofs.Common.{◌≡◌, ℕ, ◌+◌, Bool, List, [], ◌∷◌, ◌++◌, map, take, sym, ap, ◌∙◌, subst}
use Rattle.std.proofs.lemmas.List.{map_more}
use Rattle.sat_form.specs.Satisfaction.{Literal, literal_value}
use Rattle.gate_bits.specs.Truth.{AreTruths, differs}
use Rattle.gate_bits.proofs.Growing.{GrowsFreely-then}
use Rattle.gate_bits.proofs.Listing.{Truths_more}
use Rattle.gate_bits.proofs.lists.turned.Goals as goal

pub loop-bit-preserved : goal.loop-bit-preserved
loop-bit-preserved c =
    let i = c.loop-bit.bit-index in
    let ls : List Literal = c.args.bits.now in
    let l : Literal = c.bit-item.result in
    let by : Literal = c.args.by in
    let is_goal : (x : ℕ → Bool) → map (λ m. differs (literal_value x by) (literal_value x m)) (take (i + 1) ls) ≡ map (λ m. differs (literal_value x by) (literal_value x m)) (take i ls) ++ differs (literal_value x by) (literal_value x l) ∷ [] =
    λ x. map_more (λ m. differs (literal_value x by) (literal_value x m)) ls i l c.loop-bit-test.true
    ∙ ap (λ (n : Literal). map (λ m. differs (literal_value x by) (literal_value x m)) (take i ls) ++ differs (literal_value x by) (literal_value x n) ∷ []) (sym {A = Literal} c.bit-item.is) in
    let step = Truths_more _ c.xor.new.cnf i _ c.in_ok-xor.field-0 _ (λ x. differs (literal_value x by) (literal_value x l)) (λ x. map (λ m. differs (literal_value x by) (literal_value x m)) (take (i + 1) ls)) c.loop-bit.invariant.is c.in_ok-xor.ensures.grows c.in_ok-xor.ensures.is is_goal in
    record {
      grows = GrowsFreely-then c.loop-bit.invariant.grows c.in_ok-xor.ensures.grows;
      is = subst (λ (r : List Literal). AreTruths c.xor.new.cnf (i + 1) r (λ x. map (λ m. differs (literal_value x by) (literal_value x m)) (take (i + 1) ls))) (sym {A = List Literal} c.in_ok-push.ensures.items) step;
    }
