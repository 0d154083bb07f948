use Rattle.std.proofs.Common.{◌≡◌, ◌+◌, ◌<◌, List, [], ◌∷◌, ◌++◌, take, length, sym, ap, ◌∙◌, subst, arith}
use Rattle.std.proofs.lemmas.List.{take_more, length-take-le}
use Rattle.sat_form.specs.Satisfaction.{Literal}
use Rattle.gate_bits.specs.Sums.{IsSum}
use Rattle.gate_bits.proofs.Growing.{GrowsFreely-refl, GrowsFreely-then}
use Rattle.gate_bits.proofs.Adding.{Sum_none, Sum_more}
use Rattle.gate_bits.proofs.sums.sum.Goals as goal

pub loop-i-init : goal.loop-i-init
loop-i-init c = record {
  grows = GrowsFreely-refl c.args.cnf.now;
  is = subst (λ (bits : List Literal). IsSum c.args.cnf.now [] [] c.args.start bits c.args.start) (sym c.new-bits.ensures.items) (Sum_none c.args.cnf.now c.args.start c.requires.start);
}

pub loop-i-preserved : goal.loop-i-preserved
loop-i-preserved c =
    let i = c.loop-i.i in
    let a : List Literal = c.args.a.now in
    let b : List Literal = c.args.b.now in
    let x : Literal = c.index-a-i.result in
    let y : Literal = c.index-b-i.result in
    let in_a : i < length a = c.loop-i-test.true in
    let in_b : i < length b = omega arith in
    let lengths : length (take i a) ≡ length (take i b) = length-take-le i a (omega arith) ∙ sym (length-take-le i b (omega arith)) in
    let more_a : take (i + 1) a ≡ take i a ++ x ∷ [] = take_more a i x in_a ∙ ap (λ (l : Literal). take i a ++ l ∷ []) (sym c.index-a-i.is) in
    let more_b : take (i + 1) b ≡ take i b ++ y ∷ [] = take_more b i y in_b ∙ ap (λ (l : Literal). take i b ++ l ∷ []) (sym c.index-b-i.is) in
    let pushed = c.in_ok-push.ensures.items in
    let step = Sum_more _ c.full_adder.new.cnf (take i a) (take i b) c.args.start _ c.loop-i.carry x y c.in_ok-bit.bit c.in_ok-bit.next c.loop-i.invariant.is c.in_ok-bit.ensures.grows lengths c.in_ok-bit.ensures.is in
    record {
      grows = GrowsFreely-then c.loop-i.invariant.grows c.in_ok-bit.ensures.grows;
      is = let goal_at : List Literal → List Literal → List Literal → Type 0 = λ p q s. IsSum c.full_adder.new.cnf p q c.args.start s c.in_ok-bit.next in
          subst (λ (p : List Literal). goal_at p (take (i + 1) b) c.push.new.self.items) (sym more_a)
          (subst (λ (q : List Literal). goal_at (take i a ++ x ∷ []) q c.push.new.self.items) (sym more_b)
          (subst (λ (s : List Literal). goal_at (take i a ++ x ∷ []) (take i b ++ y ∷ []) s) (sym pushed) step));
    }
