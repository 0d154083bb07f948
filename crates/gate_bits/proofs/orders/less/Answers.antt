use Rattle.std.proofs.Common.{◌≡◌, ℕ, ◌+◌, ◌-◌, ◌<◌, List, [], ◌∷◌, ◌++◌, take, length, get_or, sym, ap, ◌∙◌, subst, arith}
use Rattle.std.proofs.lemmas.List.{take_more, take_all, length-take-le}
use Rattle.std.proofs.lemmas.Result.{IfOk-weaker}
use Rattle.sat_form.specs.Satisfaction.{Literal, literal_value}
use Rattle.sat_form.specs.Numbers.{value_of}
use Rattle.gate_bits.specs.Truth.{IsTruth, most}
use Rattle.gate_bits.proofs.Comparing.{Less_top, less_by}
use Rattle.gate_bits.proofs.orders.less.Goals as goal

split : (a : List Literal) (x : Literal) → 0 < length a → x ≡ get_or a (length a - 1) x → a ≡ take (length a - 1) a ++ x ∷ []
split a x some is =
    sym (take_all (length a - 1 + 1) a (omega arith)) ∙ take_more a (length a - 1) x (omega arith) ∙ ap (λ (l : Literal). take (length a - 1) a ++ l ∷ []) (sym is)

pub returns-clause-is : goal.returns-clause-is
returns-clause-is c =
    let a : List Literal = c.args.a.now in
    let b : List Literal = c.args.b.now in
    let n = length a - 1 in
    let same_top : length b - 1 ≡ n = omega arith in
    let x : Literal = c.index-a-top.result in
    let y : Literal = c.index-b-top.result in
    let below : Literal = c.in_ok-below.below in
    let whole_a : a ≡ take n a ++ x ∷ [] = split a x (omega arith) c.index-a-top.is in
    let at_b : y ≡ get_or b (length b - 1) y = c.index-b-top.is ∙ ap (λ (m : ℕ). get_or b m y) (sym same_top) in
    let whole_b : b ≡ take n b ++ y ∷ [] = split b y (omega arith) at_b ∙ ap (λ (m : ℕ). take m b ++ y ∷ []) same_top in
    let lengths : length (take n a) ≡ length (take n b) = length-take-le n a (omega arith) ∙ sym (length-take-le n b (omega arith)) in
    let width : length (take n a) + 1 ≡ length a = omega (arith, length-take-le n a (omega arith)) in
    IfOk-weaker c.majority.result
    (λ l. IsTruth c.majority.new.cnf l (λ v. most (literal_value v c.inverse.result) (literal_value v c.swapped-lower.result.1) (literal_value v below)))
    _
    (λ l is.
    let top = Less_top c.args.signed c.borrow.new.cnf c.majority.new.cnf (take n a) (take n b) x y c.swapped-lower.result.0 c.swapped-lower.result.1 c.inverse.result below l lengths
    c.swapped-lower.ensures.first c.swapped-lower.ensures.second c.in_ok-below.ensures.is c.inverse.ensures c.majority.ensures.grows is in
    let at_width = subst (λ (w : ℕ). IsTruth c.majority.new.cnf l (λ v. less_by c.args.signed w (value_of (take n a ++ x ∷ []) v) (value_of (take n b ++ y ∷ []) v))) width top in
    subst (λ (p : List Literal). IsTruth c.majority.new.cnf l (λ v. less_by c.args.signed (length a) (value_of p v) (value_of b v))) (sym whole_a)
    (subst (λ (q : List Literal). IsTruth c.majority.new.cnf l (λ v. less_by c.args.signed (length a) (value_of (take n a ++ x ∷ []) v) (value_of q v))) (sym whole_b) at_width))
    c.majority.ensures.is
