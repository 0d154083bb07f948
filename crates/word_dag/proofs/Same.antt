-- Nodes that are told equal are the same.
use Rattle.std.proofs.Common.{◌≡◌, ℕ, true, ◌==◌, ◌&&◌, refl, sym, ap, true≢false}
use Rattle.std.proofs.lemmas.Bool.Decides.{Decides-eqb}
use Rattle.word_dag.specs.contracts.nodes.IdPartialEq.TheImpl as ids
use Rattle.word_dag.specs.contracts.nodes.BinaryOperatorPartialEq.TheImpl as operators
use Rattle.word_dag.specs.contracts.nodes.ShiftKindPartialEq.TheImpl as shifts
use Rattle.word_dag.specs.contracts.nodes.ComparisonPartialEq.TheImpl as comparisons
use Rattle.word_dag.specs.contracts.nodes.FitsTestPartialEq.TheImpl as fits
use Rattle.word_dag.specs.contracts.nodes.QuantifierPartialEq.TheImpl as quantifiers
use Rattle.word_dag.specs.contracts.nodes.NodePartialEq.TheImpl as nodes
use Rattle.word_dag.specs.declared.nodes.Id.{Id}
use Rattle.word_dag.specs.declared.nodes.BinaryOperator.{BinaryOperator}
use Rattle.word_dag.specs.declared.nodes.BinaryOperator.TheVariants.{Add, Subtract, Multiply, UnsignedDivide, SignedDivide, UnsignedRemainder, SignedRemainder, And, Or, Xor}
use Rattle.word_dag.specs.declared.nodes.ShiftKind.{ShiftKind}
use Rattle.word_dag.specs.declared.nodes.ShiftKind.TheVariants.{Left, Logical, Arithmetic}
use Rattle.word_dag.specs.declared.nodes.Comparison.{Comparison}
use Rattle.word_dag.specs.declared.nodes.Comparison.TheVariants.{Equal, UnsignedLess, SignedLess}
use Rattle.word_dag.specs.declared.nodes.FitsTest.{FitsTest}
use Rattle.word_dag.specs.declared.nodes.FitsTest.TheVariants.{Sum, Difference, Product, LeftShift}
use Rattle.word_dag.specs.declared.nodes.Quantifier.{Quantifier}
use Rattle.word_dag.specs.declared.nodes.Quantifier.TheVariants.{All, Any}
use Rattle.word_dag.specs.declared.nodes.Node.{Node}
use Rattle.word_dag.specs.declared.nodes.Node.TheVariants.{Constant, Variable, Not, Negate, Binary, Shift, Compare, Fits, Choice, ZeroExtend, SignExtend, Cut, Join, Quantify}
use Rattle.word_dag.proofs.Operands.{both}

number_same : (m n : ℕ) → (m == n) ≡ true → m ≡ n
number_same m n h = (Decides-eqb m n).0 h

id_same : (i j : Id) → ids.eq-value.it i j ≡ true → i ≡ j
id_same i j h = let p : (i.index == j.index) ≡ true = h in λ k. record { index = number_same i.index j.index p k }

operator_same : (o p : BinaryOperator) → operators.eq-value.it o p ≡ true → o ≡ p
operator_same Add Add h = refl
operator_same Subtract Subtract h = refl
operator_same Multiply Multiply h = refl
operator_same UnsignedDivide UnsignedDivide h = refl
operator_same SignedDivide SignedDivide h = refl
operator_same UnsignedRemainder UnsignedRemainder h = refl
operator_same SignedRemainder SignedRemainder h = refl
operator_same And And h = refl
operator_same Or Or h = refl
operator_same Xor Xor h = refl
operator_same _ _ h = absurd (true≢false (sym h))

shift_same : (o p : ShiftKind) → shifts.eq-value.it o p ≡ true → o ≡ p
shift_same Left Left h = refl
shift_same Logical Logical h = refl
shift_same Arithmetic Arithmetic h = refl
shift_same _ _ h = absurd (true≢false (sym h))

comparison_same : (o p : Comparison) → comparisons.eq-value.it o p ≡ true → o ≡ p
comparison_same Equal Equal h = refl
comparison_same UnsignedLess UnsignedLess h = refl
comparison_same SignedLess SignedLess h = refl
comparison_same _ _ h = absurd (true≢false (sym h))

fits_same : (o p : FitsTest) → fits.eq-value.it o p ≡ true → o ≡ p
fits_same Sum Sum h = refl
fits_same Difference Difference h = refl
fits_same Product Product h = refl
fits_same LeftShift LeftShift h = refl
fits_same _ _ h = absurd (true≢false (sym h))

quantifier_same : (o p : Quantifier) → quantifiers.eq-value.it o p ≡ true → o ≡ p
quantifier_same All All h = refl
quantifier_same Any Any h = refl
quantifier_same _ _ h = absurd (true≢false (sym h))

pub node_same : (n m : Node) → nodes.eq-value.it n m ≡ true → n ≡ m
node_same (Constant a b) (Constant x y) h =
    let p = both ((a == x)) ((b == y)) h in
    let q = number_same a x p.0 in
    let r = number_same b y p.1 in
    λ k. Constant (q k) (r k)
node_same (Variable a b) (Variable x y) h =
    let p = both ((a == x)) ((b == y)) h in
    let q = number_same a x p.0 in
    let r = number_same b y p.1 in
    λ k. Variable (q k) (r k)
node_same (Not a) (Not x) h = ap Not (id_same a x h)
node_same (Negate a) (Negate x) h = ap Negate (id_same a x h)
node_same (Binary a b c) (Binary x y z) h =
    let p = both (operators.eq-value.it a x) (ids.eq-value.it b y && ids.eq-value.it c z) h in
    let s = both (ids.eq-value.it b y) (ids.eq-value.it c z) p.1 in
    let q = operator_same a x p.0 in
    let r = id_same b y s.0 in
    let t = id_same c z s.1 in
    λ k. Binary (q k) (r k) (t k)
node_same (Shift a b c) (Shift x y z) h =
    let p = both (shifts.eq-value.it a x) (ids.eq-value.it b y && ids.eq-value.it c z) h in
    let s = both (ids.eq-value.it b y) (ids.eq-value.it c z) p.1 in
    let q = shift_same a x p.0 in
    let r = id_same b y s.0 in
    let t = id_same c z s.1 in
    λ k. Shift (q k) (r k) (t k)
node_same (Compare a b c) (Compare x y z) h =
    let p = both (comparisons.eq-value.it a x) (ids.eq-value.it b y && ids.eq-value.it c z) h in
    let s = both (ids.eq-value.it b y) (ids.eq-value.it c z) p.1 in
    let q = comparison_same a x p.0 in
    let r = id_same b y s.0 in
    let t = id_same c z s.1 in
    λ k. Compare (q k) (r k) (t k)
node_same (Fits a b c) (Fits x y z) h =
    let p = both (fits.eq-value.it a x) (ids.eq-value.it b y && ids.eq-value.it c z) h in
    let s = both (ids.eq-value.it b y) (ids.eq-value.it c z) p.1 in
    let q = fits_same a x p.0 in
    let r = id_same b y s.0 in
    let t = id_same c z s.1 in
    λ k. Fits (q k) (r k) (t k)
node_same (Choice a b c) (Choice x y z) h =
    let p = both (ids.eq-value.it a x) (ids.eq-value.it b y && ids.eq-value.it c z) h in
    let s = both (ids.eq-value.it b y) (ids.eq-value.it c z) p.1 in
    let q = id_same a x p.0 in
    let r = id_same b y s.0 in
    let t = id_same c z s.1 in
    λ k. Choice (q k) (r k) (t k)
node_same (ZeroExtend a b) (ZeroExtend x y) h =
    let p = both (ids.eq-value.it a x) ((b == y)) h in
    let q = id_same a x p.0 in
    let r = number_same b y p.1 in
    λ k. ZeroExtend (q k) (r k)
node_same (SignExtend a b) (SignExtend x y) h =
    let p = both (ids.eq-value.it a x) ((b == y)) h in
    let q = id_same a x p.0 in
    let r = number_same b y p.1 in
    λ k. SignExtend (q k) (r k)
node_same (Cut a b c) (Cut x y z) h =
    let p = both (ids.eq-value.it a x) ((b == y) && (c == z)) h in
    let s = both ((b == y)) ((c == z)) p.1 in
    let q = id_same a x p.0 in
    let r = number_same b y s.0 in
    let t = number_same c z s.1 in
    λ k. Cut (q k) (r k) (t k)
node_same (Join a b) (Join x y) h =
    let p = both (ids.eq-value.it a x) (ids.eq-value.it b y) h in
    let q = id_same a x p.0 in
    let r = id_same b y p.1 in
    λ k. Join (q k) (r k)
node_same (Quantify a b c) (Quantify x y z) h =
    let p = both (quantifiers.eq-value.it a x) (ids.eq-value.it b y && (c == z)) h in
    let s = both (ids.eq-value.it b y) ((c == z)) p.1 in
    let q = quantifier_same a x p.0 in
    let r = id_same b y s.0 in
    let t = number_same c z s.1 in
    λ k. Quantify (q k) (r k) (t k)
node_same _ _ h = absurd (true≢false (sym h))
