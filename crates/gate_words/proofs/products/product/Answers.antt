use Rattle.std.proofs.Common.{◌≡◌, ◌+◌, List, [], ◌∷◌, ◌++◌, take, length, sym, ap, ◌∙◌, subst, arith}
use Rattle.std.proofs.lemmas.List.{take_more, length-take-le}
use Rattle.sat_form.specs.Satisfaction.{Literal}
use Rattle.sat_form.specs.Numbers.{value_of}
use Rattle.words.specs.Operators.{word_product}
use Rattle.gate_bits.specs.Truth.{IsNumber}
use Rattle.gate_bits.proofs.Growing.{GrowsFreely-then, IsTruth-kept, IsWithin-kept}
use Rattle.gate_words.proofs.Multiplying.{Product_none, Product_more}
use Rattle.gate_words.proofs.products.product.Goals as goal

pub loop-i-init : goal.loop-i-init
loop-i-init c = record {
  grows = c.in_ok-zero.ensures.grows;
  zero = c.in_ok-zero.ensures.is;
  is = Product_none c.constant.new.cnf c.args.factor.now c.in_ok-total.total.items c.in_ok-zero.zero c.in_ok-zero.ensures.is (c.in_ok-total.ensures.items_if_clones_equal (λ y h. h));
}

pub add_row-requires-clause-factor : goal.add_row-requires-clause-factor
add_row-requires-clause-factor c = IsWithin-kept c.args.factor.now c.requires.factor c.loop-i.invariant.grows

pub loop-i-preserved : goal.loop-i-preserved
loop-i-preserved c =
    let i = c.loop-i.i in
    let factor : List Literal = c.args.factor.now in
    let rows : List Literal = c.args.rows.now in
    let bit : Literal = c.index-rows-i.result in
    let next : List Literal = c.in_ok-total-2.total.items in
    let more : take (i + 1) rows ≡ take i rows ++ bit ∷ [] = take_more rows i bit c.loop-i-test.true ∙ ap (λ (l : Literal). take i rows ++ l ∷ []) (sym c.index-rows-i.is) in
    let step = Product_more _ c.add_row.new.cnf factor (take i rows) c.loop-i.total.items next bit i (length-take-le i rows (omega arith)) c.in_ok-total-2.ensures.grows c.loop-i.invariant.is c.in_ok-total-2.ensures.is in
    record {
      grows = GrowsFreely-then c.loop-i.invariant.grows c.in_ok-total-2.ensures.grows;
      zero = IsTruth-kept c.loop-i.invariant.zero c.in_ok-total-2.ensures.grows;
      is = subst (λ (p : List Literal). IsNumber c.add_row.new.cnf (length factor) next (λ x. word_product (length factor) (value_of factor x) (value_of p x))) (sym more) step;
    }
