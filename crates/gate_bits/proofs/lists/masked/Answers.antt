use Rattle.std.proofs.Common.{◌≡◌, ℕ, ◌+◌, Bool, ◌&&◌, List, [], ◌∷◌, ◌++◌, map, take, sym, ap, ◌∙◌, subst, arith}
use Rattle.std.proofs.lemmas.List.{map_more, take_all}
use Rattle.sat_form.specs.Satisfaction.{Literal, literal_value}
use Rattle.sat_form.specs.Numbers.{number_of}
use Rattle.gate_bits.specs.Truth.{AreTruths}
use Rattle.gate_bits.proofs.Growing.{GrowsFreely-then}
use Rattle.gate_bits.proofs.Listing.{Truths_more, masked_number}
use Rattle.gate_bits.proofs.lists.masked.Goals as goal

pub loop-bit-preserved : goal.loop-bit-preserved
loop-bit-preserved c =
    let i = c.loop-bit.bit-index in
    let ls : List Literal = c.args.bits.now in
    let l : Literal = c.bit-item.result in
    let mask : Literal = c.args.mask in
    let is_goal : (x : ℕ → Bool) → map (λ m. literal_value x m && literal_value x mask) (take (i + 1) ls) ≡ map (λ m. literal_value x m && literal_value x mask) (take i ls) ++ (literal_value x l && literal_value x mask) ∷ [] =
    λ x. map_more (λ m. literal_value x m && literal_value x mask) ls i l c.loop-bit-test.true
    ∙ ap (λ (m : Literal). map (λ m. literal_value x m && literal_value x mask) (take i ls) ++ (literal_value x m && literal_value x mask) ∷ []) (sym {A = Literal} c.bit-item.is) in
    let step = Truths_more _ c.and.new.cnf i _ c.in_ok-and.field-0 _ (λ x. literal_value x l && literal_value x mask) (λ x. map (λ m. literal_value x m && literal_value x mask) (take (i + 1) ls)) c.loop-bit.invariant.is c.in_ok-and.ensures.grows c.in_ok-and.ensures.is is_goal in
    record {
      grows = GrowsFreely-then c.loop-bit.invariant.grows c.in_ok-and.ensures.grows;
      is = subst (λ (r : List Literal). AreTruths c.and.new.cnf (i + 1) r (λ x. map (λ m. literal_value x m && literal_value x mask) (take (i + 1) ls))) (sym {A = List Literal} c.in_ok-push.ensures.items) step;
    }

pub returns-clause-is : goal.returns-clause-is
returns-clause-is c =
    let ls : List Literal = c.args.bits.now in
    let mask : Literal = c.args.mask in
    let all_of = c.loop-bit.invariant.is in
    let end : take c.loop-bit.bit-index ls ≡ ls = take_all c.loop-bit.bit-index ls (omega arith) in
    record {
      count = omega (arith, all_of.count);
      within = all_of.within;
      is = λ x all. ap number_of (all_of.is x all ∙ ap (λ (p : List Literal). map (λ m. literal_value x m && literal_value x mask) p) end) ∙ masked_number x (literal_value x mask) ls;
    }
