use Rattle.std.proofs.Common.{◌≡◌, ℕ, ◌-◌, not, List, [], ◌∷◌, ◌++◌, map, take, length, get_or, sym, ap, ◌∙◌, subst, arith}
use Rattle.std.proofs.lemmas.List.{length-take-le}
use Rattle.std.proofs.lemmas.Result.{IfOk-weaker}
use Rattle.sat_form.specs.Satisfaction.{Literal, literal_value, inverse_of, IsWithin}
use Rattle.gate_bits.specs.Truth.{IsTruth, differs, most}
use Rattle.gate_bits.proofs.Parts.{last_of, IsWithin-take}
use Rattle.gate_bits.proofs.Inverting.{IsWithin-inverses}
use Rattle.gate_arith.proofs.Fitting.{Sum_fits}
use Rattle.gate_arith.proofs.ranges.sum_fits.Goals as goal

pub borrow-requires-clause-a : goal.borrow-requires-clause-a
borrow-requires-clause-a c =
    let n = c.args.cnf.now.variables in
    let b : List Literal = c.args.b.now in
    subst (λ (m : List Literal). IsWithin n m) (sym (c.deref.ensures.value ∙ c.in_ok-rest.ensures))
    (IsWithin-inverses n (take (length c.args.a.now - 1) b) (IsWithin-take n (length c.args.a.now - 1) b c.requires.b))

pub returns-clause-is : goal.returns-clause-is
returns-clause-is c =
    let a : List Literal = c.args.a.now in
    let b : List Literal = c.args.b.now in
    let n = length a - 1 in
    let same_top : length b - 1 ≡ n = omega arith in
    let x : Literal = c.index-a-top.result in
    let y : Literal = c.index-b-top.result in
    let carry : Literal = c.in_ok-carry.carry in
    let rest : List Literal = c.deref.result.now in
    let at_b : y ≡ get_or b (length b - 1) y = c.index-b-top.is ∙ ap (λ (m : ℕ). get_or b m y) (sym same_top) in
    let whole_a : a ≡ take n a ++ x ∷ [] = sym (last_of a x (omega arith) c.index-a-top.is) in
    let whole_b : b ≡ take n b ++ y ∷ [] = sym (last_of b y (omega arith) at_b) ∙ ap (λ (m : ℕ). take m b ++ y ∷ []) same_top in
    let lengths : length (take n a) ≡ length (take n b) = length-take-le n a (omega arith) ∙ sym (length-take-le n b (omega arith)) in
    let is_rest : rest ≡ map inverse_of (take n b) = c.deref.ensures.value ∙ c.in_ok-rest.ensures in
    IfOk-weaker c.keeps_sign.result
    (λ l. IsTruth c.keeps_sign.new.cnf l (λ v. not (differs (literal_value v carry) (most (literal_value v x) (literal_value v y) (literal_value v carry)))))
    _
    (λ l is. Sum_fits c.borrow.new.cnf c.keeps_sign.new.cnf a b (take n a) (take n b) rest x y carry l whole_a whole_b lengths is_rest c.in_ok-carry.ensures.is c.keeps_sign.ensures.grows is)
    c.keeps_sign.ensures.is
