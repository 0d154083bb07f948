use Rattle.std.proofs.Common.{◌≡◌, ℕ, ◌+◌, ◌<◌, Bool, List, [], ◌∷◌, ◌++◌, map, take, length, sym, ap, ◌∙◌, subst, arith}
use Rattle.std.specs.Prelude.{if◌then◌else◌}
use Rattle.std.proofs.lemmas.List.{map_more}
use Rattle.sat_form.specs.Satisfaction.{Literal, literal_value}
use Rattle.gate_bits.specs.Truth.{AreTruths}
use Rattle.gate_bits.proofs.Growing.{GrowsFreely-then}
use Rattle.gate_bits.proofs.Listing.{Truths_more, choice_push}
use Rattle.gate_bits.proofs.lists.chosen.Goals as goal

pub loop-i-preserved : goal.loop-i-preserved
loop-i-preserved c =
    let i = c.loop-i.i in
    let p : List Literal = c.args.yes.now in
    let q : List Literal = c.args.no.now in
    let y : Literal = c.index-yes-i.result in
    let n : Literal = c.index-no-i.result in
    let t : Literal = c.args.test in
    let in_q : i < length q = omega arith in
    let more_p : (x : ℕ → Bool) → map (literal_value x) (take (i + 1) p) ≡ map (literal_value x) (take i p) ++ literal_value x y ∷ [] =
    λ x. map_more (literal_value x) p i y c.loop-i-test.true ∙ ap (λ (m : Literal). map (literal_value x) (take i p) ++ literal_value x m ∷ []) (sym {A = Literal} c.index-yes-i.is) in
    let more_q : (x : ℕ → Bool) → map (literal_value x) (take (i + 1) q) ≡ map (literal_value x) (take i q) ++ literal_value x n ∷ [] =
    λ x. map_more (literal_value x) q i n in_q ∙ ap (λ (m : Literal). map (literal_value x) (take i q) ++ literal_value x m ∷ []) (sym {A = Literal} c.index-no-i.is) in
    let is_goal : (x : ℕ → Bool) → (if literal_value x t then map (literal_value x) (take (i + 1) p) else map (literal_value x) (take (i + 1) q)) ≡ (if literal_value x t then map (literal_value x) (take i p) else map (literal_value x) (take i q)) ++ (if literal_value x t then literal_value x y else literal_value x n) ∷ [] =
    λ x. (λ k. if literal_value x t then more_p x k else more_q x k) ∙ choice_push (literal_value x t) (map (literal_value x) (take i p)) (map (literal_value x) (take i q)) (literal_value x y) (literal_value x n) in
    let step = Truths_more _ c.choose.new.cnf i _ c.in_ok-choose.field-0 _ (λ x. if literal_value x t then literal_value x y else literal_value x n) (λ x. if literal_value x t then map (literal_value x) (take (i + 1) p) else map (literal_value x) (take (i + 1) q)) c.loop-i.invariant.is c.in_ok-choose.ensures.grows c.in_ok-choose.ensures.is is_goal in
    record {
      grows = GrowsFreely-then c.loop-i.invariant.grows c.in_ok-choose.ensures.grows;
      is = subst (λ (r : List Literal). AreTruths c.choose.new.cnf (i + 1) r (λ x. if literal_value x t then map (literal_value x) (take (i + 1) p) else map (literal_value x) (take (i + 1) q))) (sym {A = List Literal} c.in_ok-push.ensures.items) step;
    }
