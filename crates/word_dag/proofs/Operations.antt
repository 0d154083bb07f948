-- What the operations on words come to where the code takes a way of its own.
use Rattle.std.proofs.Common.{◌≡◌, ℕ, zero, suc, ◌+◌, ◌-◌, ◌*◌, ◌%◌, ◌^◌, ◌<◌, ◌≤◌, nat_lt, nat_eq, inl, inr, sym, ap, ◌∙◌, arith}
use Rattle.std.proofs.Math.Nat.{mod-eq_of_lt}
use Rattle.std.proofs.lemmas.Nat.{pow_pos}
use Rattle.std.proofs.lemmas.Bool.{cases_lt}
use Rattle.std.proofs.lemmas.Bool.Decides.{nat_tests}
use Rattle.words.specs.BitVector.{BitVector, word}
use Rattle.words.specs.Operators.{word_sum, left_shift, left_shift_fits, fits_width}
use Rattle.words.proofs.Powers.{pow_grows}
use Rattle.words.proofs.Signed.{signed_value_low, signed_value_high}
use Rattle.words.proofs.Shifts.{left_shift_out, logical_shift_out, arithmetic_shift_out}
use Rattle.words.proofs.Division.{unsigned_quotient_zero, unsigned_remainder_zero, signed_quotient_zero, signed_remainder_zero}
use Rattle.word_dag.specs.declared.nodes.BinaryOperator.{BinaryOperator}
use Rattle.word_dag.specs.declared.nodes.BinaryOperator.TheVariants.{UnsignedDivide, SignedDivide, UnsignedRemainder, SignedRemainder}
use Rattle.word_dag.specs.declared.nodes.ShiftKind.{ShiftKind}
use Rattle.word_dag.specs.declared.nodes.ShiftKind.TheVariants.{Left, Logical, Arithmetic}
use Rattle.word_dag.specs.Meaning.{joined, binary_value, shift_value}
use Rattle.word_dag.proofs.Bounds.{joined_below}

-- ---- a divisor of 0

pub divisor_zero : (r b : ℕ) → r ≤ 0 → r ≡ b → b ≡ 0
divisor_zero r b h e = omega arith

pub zero_word : (r : BitVector) (u w m : ℕ) → r ≡ word u 0 → u ≡ w → m ≡ 0 → r ≡ word w m
zero_word r u w m p q e = let s = sym e in p ∙ (λ k. word (q k) (s k))

pub unsigned_divide_zero : (o : BinaryOperator) (w a b : ℕ) → o ≡ UnsignedDivide → b ≡ 0 → binary_value o w a b ≡ 0
unsigned_divide_zero o w a b e z = (λ k. binary_value (e k) w a (z k)) ∙ unsigned_quotient_zero a

pub signed_divide_zero : (o : BinaryOperator) (w a b : ℕ) → o ≡ SignedDivide → 1 ≤ w → b ≡ 0 → binary_value o w a b ≡ 0
signed_divide_zero o w a b e h z = (λ k. binary_value (e k) w a (z k)) ∙ signed_quotient_zero w a h

pub unsigned_remainder_by_zero : (o : BinaryOperator) (w a b : ℕ) → o ≡ UnsignedRemainder → b ≡ 0 → binary_value o w a b ≡ 0
unsigned_remainder_by_zero o w a b e z = (λ k. binary_value (e k) w a (z k)) ∙ unsigned_remainder_zero a

pub signed_remainder_by_zero : (o : BinaryOperator) (w a b : ℕ) → o ≡ SignedRemainder → b ≡ 0 → binary_value o w a b ≡ 0
signed_remainder_by_zero o w a b e z = (λ k. binary_value (e k) w a (z k)) ∙ signed_remainder_zero w a

-- ---- a count of at least the width

pub shift_out : (s : ShiftKind) (w a k : ℕ) → a < 2 ^ w → w ≤ k → shift_value s w a k ≡ 0
shift_out Left w a k h l = left_shift_out w a k l
shift_out Logical w a k h l = logical_shift_out w a k h l
shift_out Arithmetic w a k h l = arithmetic_shift_out w a k l

far_test : (w a k : ℕ) → 1 ≤ w → w ≤ k → nat_eq a 0 ≡ nat_lt (a * 2 ^ k) (2 ^ (w - 1))
far_test w zero k h l = grind (arith, nat_tests, pow_pos (w - 1))
far_test w (suc a) k h l =
    let big : 2 ^ (w - 1) ≤ 2 ^ k = pow_grows (w - 1) k (omega arith) in
    let far : 2 ^ (w - 1) ≤ suc a * 2 ^ k = omega arith in
    grind (arith, nat_tests)

pub left_shift_fits_out : (w a k : ℕ) → 1 ≤ w → a < 2 ^ w → w ≤ k → nat_eq a 0 ≡ left_shift_fits w a k
unfolding left_shift_fits fits_width
left_shift_fits_out w a k h l b =
    elim (cases_lt a (2 ^ (w - 1))) [
      | inl p ↦ rw (signed_value_low w a p) (far_test w a k h b ∙ grind (arith, nat_tests))
      | inr q ↦ rw (signed_value_high w a q l) (grind (arith, nat_tests, pow_pos (w - 1)))
    ]

-- ---- one word above another

pub joined_sum : (w u a b : ℕ) → a < 2 ^ w → b < 2 ^ u → word_sum (w + u) (left_shift (w + u) a u) b ≡ joined u a b
unfolding word_sum left_shift
joined_sum w u a b h l =
    let below : joined u a b < 2 ^ (w + u) = joined_below w u a b h l in
    let whole : a * 2 ^ u < 2 ^ (w + u) = omega arith in
    ap (λ (n : ℕ). (n + b) % 2 ^ (w + u)) (mod-eq_of_lt whole) ∙ mod-eq_of_lt below

pub joined_word : (r s y z : BitVector) (w u m j a b : ℕ) → y ≡ word m a → z ≡ word m b → s ≡ word y.width (left_shift y.width y.bits j) → r ≡ word s.width (word_sum s.width s.bits z.bits) → m ≡ w + u → j ≡ u → a < 2 ^ w → b < 2 ^ u → r ≡ word (w + u) (joined u a b)
joined_word r s y z w u m j a b ye ze se re me je h l =
    let e : s ≡ word (w + u) (left_shift (w + u) a u) =
    se ∙ (λ k. word (ye k).width (left_shift (ye k).width (ye k).bits (je k))) ∙ (λ k. word (me k) (left_shift (me k) a u)) in
    re ∙ (λ k. word (e k).width (word_sum (e k).width (e k).bits (ze k).bits)) ∙ ap (word (w + u)) (joined_sum w u a b h l)
