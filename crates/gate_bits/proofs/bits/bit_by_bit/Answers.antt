use Rattle.std.proofs.Common.{◌≡◌, ◌+◌, ◌<◌, List, [], ◌∷◌, ◌++◌, take, length, sym, ap, ◌∙◌, subst, arith}
use Rattle.std.proofs.lemmas.List.{take_more, length-take-le}
use Rattle.sat_form.specs.Satisfaction.{Literal}
use Rattle.sat_form.specs.Numbers.{value_of}
use Rattle.gate_bits.specs.Truth.{IsNumber}
use Rattle.gate_bits.specs.Bitwise.{word_by}
use Rattle.gate_bits.proofs.Growing.{GrowsFreely-then}
use Rattle.gate_bits.proofs.Wording.{Word_more}
use Rattle.gate_bits.proofs.bits.bit_by_bit.Goals as goal

pub loop-i-preserved : goal.loop-i-preserved
loop-i-preserved c =
    let i = c.loop-i.i in
    let a : List Literal = c.args.a.now in
    let b : List Literal = c.args.b.now in
    let x : Literal = c.index-a-i.result in
    let y : Literal = c.index-b-i.result in
    let out : Literal = c.in_ok-bit.field-0 in
    let more_a : take (i + 1) a ≡ take i a ++ x ∷ [] = take_more a i x c.loop-i-test.true ∙ ap (λ (l : Literal). take i a ++ l ∷ []) (sym {A = Literal} c.index-a-i.is) in
    let in_b : i < length b = omega arith in
    let more_b : take (i + 1) b ≡ take i b ++ y ∷ [] = take_more b i y in_b ∙ ap (λ (l : Literal). take i b ++ l ∷ []) (sym {A = Literal} c.index-b-i.is) in
    let step = Word_more _ c.bit.new.cnf c.args.kind i (take i a) (take i b) c.loop-i.bits.items x y out (length-take-le i a (omega arith)) (length-take-le i b (omega arith)) c.loop-i.invariant.is c.in_ok-bit.ensures.grows c.in_ok-bit.ensures.is in
    record {
      grows = GrowsFreely-then c.loop-i.invariant.grows c.in_ok-bit.ensures.grows;
      is = subst (λ (r : List Literal). IsNumber c.bit.new.cnf (i + 1) r (λ v. word_by c.args.kind (value_of (take (i + 1) a) v) (value_of (take (i + 1) b) v))) (sym {A = List Literal} c.in_ok-push.ensures.items)
          (subst (λ (p : List Literal). IsNumber c.bit.new.cnf (i + 1) (c.loop-i.bits.items ++ out ∷ []) (λ v. word_by c.args.kind (value_of p v) (value_of (take (i + 1) b) v))) (sym more_a)
          (subst (λ (q : List Literal). IsNumber c.bit.new.cnf (i + 1) (c.loop-i.bits.items ++ out ∷ []) (λ v. word_by c.args.kind (value_of (take i a ++ x ∷ []) v) (value_of q v))) (sym more_b) step));
    }
