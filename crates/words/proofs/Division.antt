-- Quotients and remainders: what determines them, by 0, and signed ones by unsigned ones.
use Rattle.std.proofs.Common.{◌≡◌, ℕ, suc, ◌+◌, ◌-◌, ◌*◌, ◌/◌, ◌%◌, ◌^◌, ◌<◌, ◌≤◌, ℤ, pos, negsuc, neg_ℤ, int_div, int_rem, arith, refl, sym, ◌∙◌, ap}
use Rattle.std.proofs.Math.Nat.{mod-eq_of_lt, div-le_self, mod-le, div-zero, zero-mod}
use Rattle.std.proofs.lemmas.Nat.{div-add-mod', div-mul-add, mod-mul-add, mod_below, pow_pos}
use Rattle.std.proofs.lemmas.Bool.Decides.{nat_tests}
use Rattle.words.specs.BitVector.{signed_value}
use Rattle.words.specs.Operators.{wrapped, word_negation, unsigned_quotient, unsigned_remainder, signed_quotient, signed_remainder}
use Rattle.words.proofs.Powers.{pow_doubled}
use Rattle.words.proofs.Signed.{signed_value_low, signed_value_high}
use Rattle.words.proofs.Views.{wrapped_opposite}

-- ---- unsigned

-- by 0 both are 0
pub unsigned_quotient_zero : (a : ℕ) → unsigned_quotient a 0 ≡ 0
unfolding unsigned_quotient
unsigned_quotient_zero a = div-zero a

pub unsigned_remainder_zero : (a : ℕ) → unsigned_remainder a 0 ≡ 0
unfolding unsigned_remainder
unsigned_remainder_zero a = refl

pub unsigned_remainder_is : (a b : ℕ) → 0 < b → unsigned_remainder a b ≡ a % b
unfolding unsigned_remainder
unsigned_remainder_is a b h = grind (arith, nat_tests)

-- the quotient and the remainder make up the dividend, and the remainder is below the divisor
pub quotient_and_remainder : (a b : ℕ) → 0 < b → (unsigned_quotient a b * b + unsigned_remainder a b ≡ a) × (unsigned_remainder a b < b)
unfolding unsigned_quotient
quotient_and_remainder a b h =
    let rest = unsigned_remainder_is a b h in
    (ap (λ (n : ℕ). a / b * b + n) rest ∙ div-add-mod' a b, rw rest (mod_below a b h))

-- and no other two numbers do
pub quotient_unique : (a b q r : ℕ) → q * b + r ≡ a → r < b → (q ≡ unsigned_quotient a b) × (r ≡ unsigned_remainder a b)
unfolding unsigned_quotient
quotient_unique a b q r e h =
    let positive : 0 < b = omega arith in (
      sym (div-mul-add q b r h) ∙ ap (λ (n : ℕ). n / b) e,
      sym (mod-mul-add q b r h) ∙ ap (λ (n : ℕ). n % b) e ∙ sym (unsigned_remainder_is a b positive),
    )

-- ---- signed, by 0

by_zero : (z : ℤ) → int_div z (pos 0) ≡ pos 0
by_zero (pos n) = ap pos (div-zero n)
by_zero (negsuc n) = ap (λ (q : ℕ). neg_ℤ (pos q)) (div-zero (suc n))

pub signed_quotient_zero : (w a : ℕ) → 1 ≤ w → signed_quotient w a 0 ≡ 0
unfolding signed_quotient wrapped
signed_quotient_zero w a h =
    let none : signed_value w 0 ≡ pos 0 = signed_value_low w 0 (pow_pos (w - 1)) in
    ap (λ (v : ℤ). wrapped w (int_div (signed_value w a) v)) none ∙ ap (wrapped w) (by_zero (signed_value w a)) ∙ zero-mod (2 ^ w)

pub signed_remainder_zero : (w a : ℕ) → signed_remainder w a 0 ≡ 0
unfolding signed_remainder
signed_remainder_zero w a = refl

-- ---- signed, by the unsigned operators: the operands without their signs, and the sign of the result

wrapped_small : (w n : ℕ) → n < 2 ^ w → wrapped w (pos n) ≡ n
unfolding wrapped
wrapped_small w n h = mod-eq_of_lt h

wrapped_minus : (w n : ℕ) → n ≤ 2 ^ w → wrapped w (neg_ℤ (pos n)) ≡ word_negation w n
unfolding word_negation
wrapped_minus w n h = wrapped_opposite w n 1 (2 ^ w - n) (omega arith)

-- a negative operand without its sign
missing : (w a : ℕ) → 1 ≤ w → 2 ^ (w - 1) ≤ a → a < 2 ^ w → suc (2 ^ w - 1 - a) ≡ word_negation w a
unfolding word_negation
missing w a h q l =
    let positive = pow_pos (w - 1) in
    omega arith ∙ sym (mod-eq_of_lt (omega (arith, positive)))

pub signed_quotient_low_low : (w a b : ℕ) → 1 ≤ w → a < 2 ^ (w - 1) → b < 2 ^ (w - 1) → signed_quotient w a b ≡ unsigned_quotient a b
unfolding signed_quotient unsigned_quotient
signed_quotient_low_low w a b h p q =
    rw (signed_value_low w a p, signed_value_low w b q) (wrapped_small w (a / b) (omega (arith, div-le_self a b, pow_doubled w h)))

pub signed_quotient_low_high : (w a b : ℕ) → 1 ≤ w → a < 2 ^ (w - 1) → 2 ^ (w - 1) ≤ b → b < 2 ^ w → signed_quotient w a b ≡ word_negation w (unsigned_quotient a (word_negation w b))
unfolding signed_quotient unsigned_quotient
signed_quotient_low_high w a b h p q l =
    rw (signed_value_low w a p, signed_value_high w b q l, ← missing w b h q l)
    (wrapped_minus w (a / suc (2 ^ w - 1 - b)) (omega (arith, div-le_self a (suc (2 ^ w - 1 - b)), pow_doubled w h)))

pub signed_quotient_high_low : (w a b : ℕ) → 1 ≤ w → 2 ^ (w - 1) ≤ a → a < 2 ^ w → b < 2 ^ (w - 1) → signed_quotient w a b ≡ word_negation w (unsigned_quotient (word_negation w a) b)
unfolding signed_quotient unsigned_quotient
signed_quotient_high_low w a b h p k q =
    rw (signed_value_high w a p k, signed_value_low w b q, ← missing w a h p k)
    (wrapped_minus w (suc (2 ^ w - 1 - a) / b) (omega (arith, div-le_self (suc (2 ^ w - 1 - a)) b)))

pub signed_quotient_high_high : (w a b : ℕ) → 1 ≤ w → 2 ^ (w - 1) ≤ a → a < 2 ^ w → 2 ^ (w - 1) ≤ b → b < 2 ^ w → signed_quotient w a b ≡ unsigned_quotient (word_negation w a) (word_negation w b)
unfolding signed_quotient unsigned_quotient
signed_quotient_high_high w a b h p k q l =
    rw (signed_value_high w a p k, signed_value_high w b q l, ← missing w a h p k, ← missing w b h q l)
    (wrapped_small w (suc (2 ^ w - 1 - a) / suc (2 ^ w - 1 - b)) (omega (arith, div-le_self (suc (2 ^ w - 1 - a)) (suc (2 ^ w - 1 - b)), pow_pos (w - 1))))

-- the sign of the remainder is that of the dividend
signed_remainder_is : (w a b : ℕ) → 0 < b → signed_remainder w a b ≡ wrapped w (int_rem (signed_value w a) (signed_value w b))
unfolding signed_remainder
signed_remainder_is w a b h = grind (arith, nat_tests)

pub signed_remainder_low_low : (w a b : ℕ) → 1 ≤ w → a < 2 ^ (w - 1) → 0 < b → b < 2 ^ (w - 1) → signed_remainder w a b ≡ unsigned_remainder a b
signed_remainder_low_low w a b h p z q =
    rw (signed_remainder_is w a b z, unsigned_remainder_is a b z, signed_value_low w a p, signed_value_low w b q)
    (wrapped_small w (a % b) (omega (arith, mod-le a b, pow_doubled w h)))

pub signed_remainder_low_high : (w a b : ℕ) → 1 ≤ w → a < 2 ^ (w - 1) → 2 ^ (w - 1) ≤ b → b < 2 ^ w → signed_remainder w a b ≡ unsigned_remainder a (word_negation w b)
signed_remainder_low_high w a b h p q l =
    rw (signed_remainder_is w a b (omega (arith, pow_pos (w - 1))), ← missing w b h q l, unsigned_remainder_is a (suc (2 ^ w - 1 - b)) (omega arith), signed_value_low w a p, signed_value_high w b q l)
    (wrapped_small w (a % suc (2 ^ w - 1 - b)) (omega (arith, mod-le a (suc (2 ^ w - 1 - b)), pow_doubled w h)))

pub signed_remainder_high_low : (w a b : ℕ) → 1 ≤ w → 2 ^ (w - 1) ≤ a → a < 2 ^ w → 0 < b → b < 2 ^ (w - 1) → signed_remainder w a b ≡ word_negation w (unsigned_remainder (word_negation w a) b)
signed_remainder_high_low w a b h p k z q =
    rw (signed_remainder_is w a b z, ← missing w a h p k, unsigned_remainder_is (suc (2 ^ w - 1 - a)) b z, signed_value_high w a p k, signed_value_low w b q)
    (wrapped_minus w (suc (2 ^ w - 1 - a) % b) (omega (arith, mod-le (suc (2 ^ w - 1 - a)) b)))

pub signed_remainder_high_high : (w a b : ℕ) → 1 ≤ w → 2 ^ (w - 1) ≤ a → a < 2 ^ w → 2 ^ (w - 1) ≤ b → b < 2 ^ w → signed_remainder w a b ≡ word_negation w (unsigned_remainder (word_negation w a) (word_negation w b))
signed_remainder_high_high w a b h p k q l =
    rw (signed_remainder_is w a b (omega (arith, pow_pos (w - 1))), ← missing w a h p k, ← missing w b h q l, unsigned_remainder_is (suc (2 ^ w - 1 - a)) (suc (2 ^ w - 1 - b)) (omega arith), signed_value_high w a p k, signed_value_high w b q l)
    (wrapped_minus w (suc (2 ^ w - 1 - a) % suc (2 ^ w - 1 - b)) (omega (arith, mod-le (suc (2 ^ w - 1 - a)) (suc (2 ^ w - 1 - b)))))
