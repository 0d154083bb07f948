use Rattle.std.proofs.Common.{◌≡◌, ◌+◌, ◌<◌, List, [], ◌∷◌, ◌++◌, take, length, nat_eq, sym, ap, ◌∙◌, subst, arith}
use Rattle.std.proofs.lemmas.List.{take_more, length-take-le}
use Rattle.sat_form.specs.Satisfaction.{Literal}
use Rattle.sat_form.specs.Numbers.{value_of}
use Rattle.gate_bits.specs.Truth.{IsTruth}
use Rattle.gate_bits.proofs.Growing.{GrowsFreely-then}
use Rattle.gate_bits.proofs.Comparing.{Equal_more}
use Rattle.gate_bits.proofs.orders.equal.Goals as goal

pub loop-i-preserved : goal.loop-i-preserved
loop-i-preserved c =
    let i = c.loop-i.i in
    let a : List Literal = c.args.a.now in
    let b : List Literal = c.args.b.now in
    let x : Literal = c.index-a-i.result in
    let y : Literal = c.index-b-i.result in
    let next : Literal = c.in_ok-same-2.same in
    let in_a : i < length a = c.loop-i-test.true in
    let in_b : i < length b = omega arith in
    let lengths : length (take i a) ≡ length (take i b) = length-take-le i a (omega arith) ∙ sym (length-take-le i b (omega arith)) in
    let more_a : take (i + 1) a ≡ take i a ++ x ∷ [] = take_more a i x in_a ∙ ap (λ (l : Literal). take i a ++ l ∷ []) (sym c.index-a-i.is) in
    let more_b : take (i + 1) b ≡ take i b ++ y ∷ [] = take_more b i y in_b ∙ ap (λ (l : Literal). take i b ++ l ∷ []) (sym c.index-b-i.is) in
    let step = Equal_more _ _ _ (take i a) (take i b) x y c.loop-i.same c.in_ok-apart.apart c.inverse.result next lengths c.loop-i.invariant.is c.in_ok-apart.ensures.grows c.in_ok-apart.ensures.is c.inverse.ensures c.in_ok-same-2.ensures.grows c.in_ok-same-2.ensures.is in
    record {
      grows = GrowsFreely-then c.loop-i.invariant.grows (GrowsFreely-then c.in_ok-apart.ensures.grows c.in_ok-same-2.ensures.grows);
      is = subst (λ (p : List Literal). IsTruth c.and.new.cnf next (λ v. nat_eq (value_of p v) (value_of (take (i + 1) b) v))) (sym more_a)
          (subst (λ (q : List Literal). IsTruth c.and.new.cnf next (λ v. nat_eq (value_of (take i a ++ x ∷ []) v) (value_of q v))) (sym more_b) step);
    }
