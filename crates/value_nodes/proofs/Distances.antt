-- The offset of a pointer that is moved, modulo 2 ^ 32, from the low bits of the index and of the step.
use Rattle.std.proofs.Common.{◌≡◌, ℕ, suc, ◌+◌, ◌-◌, ◌*◌, ◌/◌, ◌%◌, ◌^◌, ◌<◌, ◌≤◌, ℤ, pos, negsuc, nat_lt, Bool, true, false, w64, to_z, of_z, FitsSigned, arith, refl, sym, ap, ◌∙◌}
use Rattle.std.specs.Prelude.{◌+ℤ◌, ◌-ℤ◌, ◌*ℤ◌, if◌then◌else◌}
use Rattle.std.proofs.Math.Nat.{add-mul-mod_self_right}
use Rattle.std.proofs.lemmas.Nat.{mul-mod, div-add-mod', mod_below, pow_pos}
use Rattle.std.proofs.lemmas.Int.{ints, to_z-of_z}
use Rattle.std.proofs.lemmas.Bool.Decides.{nat_tests}
use Rattle.words.specs.BitVector.{signed_value}
use Rattle.words.specs.Operators.{wrapped, low_bits, fits_width, word_product}
use Rattle.words.proofs.Powers.{pow_grows, mod_complement}
use Rattle.words.proofs.Ranges.{wrapped_below}
use Rattle.words.proofs.Views.{wrapped_lowered, wrapped_product, signed_value-wrapped, fits_width-signed_value}
use Rattle.words.proofs.Widths.{low_bits-wrapped}
use Rattle.c_types.specs.declared.integers.IntegerType.{IntegerType}
use Rattle.c_types.specs.declared.integers.IntegerType.TheVariants as types
use Rattle.c_types.specs.Integers.{width, is_signed}
use Rattle.core_tree.specs.Operations.{number}
use Rattle.actions.specs.Pointer.{object_of, offset_of}
use Rattle.c_values.specs.Pointers.{pointer_at, further, offset_by}
use Rattle.c_values.specs.Variables.{pointer_to}

test_below : (m n : ℕ) → nat_lt m n ≡ true → m < n
test_below m n h = grind (arith, nat_tests)

holds_below : (m n : ℕ) → m < n → nat_lt m n ≡ true
holds_below m n h = grind (arith, nat_tests)

-- ---- numbers of 65 bits

smaller : (n w : ℕ) → w ≤ 64 → n < 2 ^ (w - 1) → n < 2 ^ 64
smaller n w most below = let wide = pow_grows (w - 1) 64 (omega (arith, most)) in omega (arith, below, wide)

fits_wider : (w : ℕ) (z : ℤ) → w ≤ 64 → fits_width w z ≡ true → fits_width 65 z ≡ true
unfolding fits_width
fits_wider w (pos n) most h = holds_below n (2 ^ 64) (smaller n w most (test_below n (2 ^ (w - 1)) h))
fits_wider w (negsuc n) most h = holds_below n (2 ^ 64) (smaller n w most (test_below n (2 ^ (w - 1)) h))

number_fits_by : (s : Bool) (w b : ℕ) → 1 ≤ w → w ≤ 64 → b < 2 ^ w → fits_width 65 (if s then signed_value w b else pos b) ≡ true
unfolding fits_width
number_fits_by true w b positive most below = fits_wider w (signed_value w b) most (fits_width-signed_value w b positive below)
number_fits_by false w b positive most below = let wide = pow_grows w 64 most in holds_below b (2 ^ 64) (omega (arith, below, wide))

pub positive : (t : IntegerType) → 1 ≤ width t
positive types.Bool = omega arith
positive _ = omega arith

pub at_most_64 : (t : IntegerType) → width t ≤ 64
at_most_64 types.Bool = omega arith
at_most_64 types.Char = omega arith
at_most_64 types.SignedChar = omega arith
at_most_64 types.UnsignedChar = omega arith
at_most_64 types.Short = omega arith
at_most_64 types.UnsignedShort = omega arith
at_most_64 types.Int = omega arith
at_most_64 types.UnsignedInt = omega arith
at_most_64 types.Long = omega arith
at_most_64 types.UnsignedLong = omega arith
at_most_64 types.LongLong = omega arith
at_most_64 types.UnsignedLongLong = omega arith

pub number_fits : (t : IntegerType) (b : ℕ) → b < 2 ^ width t → fits_width 65 (number t b) ≡ true
number_fits t b below = number_fits_by (is_signed t) (width t) b (positive t) (at_most_64 t) below

pub step_fits : (z : ℤ) → FitsSigned w64 z → fits_width 65 z ≡ true
unfolding fits_width
step_fits (pos n) h = holds_below n (2 ^ 64) (omega (arith, h.sfits))
step_fits (negsuc n) h = holds_below n (2 ^ 64) (omega (arith, h.sfits))

-- the low bits of a step
low_bits_of : (z : ℤ) → FitsSigned w64 z → of_z w64 z % 2 ^ 32 ≡ wrapped 32 z
unfolding wrapped
low_bits_of (pos n) h = refl
low_bits_of (negsuc n) h = mod_complement n 32 64 (omega arith) (omega (arith, h.sfits))

pub step_low : (z : ℤ) (m : ℕ) → FitsSigned w64 z → m ≡ of_z w64 (to_z w64 (of_z w64 z)) → m % 2 ^ 32 ≡ wrapped 32 z
step_low z m f e = ap (λ n. n % 2 ^ 32) (e ∙ ap (of_z w64) (to_z-of_z w64 z f)) ∙ low_bits_of z f

-- ---- sums and products

wrapped_shifted : (w o : ℕ) (z : ℤ) → wrapped w (pos o +ℤ z) ≡ (o + wrapped w z) % 2 ^ w
unfolding wrapped
wrapped_shifted w o (pos n) =
    let split : n / 2 ^ w * 2 ^ w + n % 2 ^ w ≡ n = div-add-mod' n (2 ^ w) in
    let form : o + n ≡ (o + n % 2 ^ w) + n / 2 ^ w * 2 ^ w = omega (arith, split) in
    ap (λ x. x % 2 ^ w) form ∙ add-mul-mod_self_right (o + n % 2 ^ w) (n / 2 ^ w) (2 ^ w)
wrapped_shifted w o (negsuc n) =
    let split : n / 2 ^ w * 2 ^ w + n % 2 ^ w ≡ n = div-add-mod' n (2 ^ w) in
    let rest : n % 2 ^ w < 2 ^ w = mod_below n (2 ^ w) (pow_pos w) in
    let form : pos o +ℤ negsuc n ≡ pos (o + (2 ^ w - 1 - n % 2 ^ w)) -ℤ pos (suc (n / 2 ^ w) * 2 ^ w) = omega (arith, ints, split, rest) in
    ap (wrapped w) form ∙ wrapped_lowered w (o + (2 ^ w - 1 - n % 2 ^ w)) (suc (n / 2 ^ w))

-- 2 ^ 65 is a multiple of 2 ^ 32
narrower : (n : ℕ) → (n % 2 ^ 65) % 2 ^ 32 ≡ n % 2 ^ 32
narrower n =
    let split : n / 2 ^ 65 * 2 ^ 65 + n % 2 ^ 65 ≡ n = div-add-mod' n (2 ^ 65) in
    let form : n ≡ n % 2 ^ 65 + (n / 2 ^ 65 * 2 ^ 33) * 2 ^ 32 = omega (arith, split) in
    sym (ap (λ x. x % 2 ^ 32) form ∙ add-mul-mod_self_right (n % 2 ^ 65) (n / 2 ^ 65 * 2 ^ 33) (2 ^ 32))

low_product : (a b : ℕ) → low_bits 32 (word_product 65 a b) ≡ (low_bits 32 a * low_bits 32 b) % 2 ^ 32
unfolding low_bits word_product
low_product a b = narrower (a * b) ∙ mul-mod a b (2 ^ 32)

wrapped_scaled : (i s : ℤ) → fits_width 65 i ≡ true → fits_width 65 s ≡ true → wrapped 32 (i *ℤ s) ≡ (wrapped 32 i * wrapped 32 s) % 2 ^ 32
wrapped_scaled i s first second =
    let a = wrapped 65 i in
    let b = wrapped 65 s in
    let left : signed_value 65 a ≡ i = signed_value-wrapped 65 i (omega arith) first in
    let right : signed_value 65 b ≡ s = signed_value-wrapped 65 s (omega arith) second in
    let product : wrapped 65 (i *ℤ s) ≡ word_product 65 a b = sym (λ k. wrapped 65 (left k *ℤ right k)) ∙ wrapped_product 65 a b (omega arith) (wrapped_below 65 i) (wrapped_below 65 s) in
    sym (low_bits-wrapped 32 65 (i *ℤ s) (omega arith))
    ∙ ap (low_bits 32) product
    ∙ low_product a b
    ∙ (λ k. (low_bits-wrapped 32 65 i (omega arith) k * low_bits-wrapped 32 65 s (omega arith) k) % 2 ^ 32)

pub moved_low : (p : ℕ) (i s : ℤ) → fits_width 65 i ≡ true → fits_width 65 s ≡ true → further p ((wrapped 32 i * wrapped 32 s) % 2 ^ 32) ≡ pointer_at p (offset_by (offset_of p) i s)
moved_low p i s first second =
    let product = wrapped_scaled i s first second in
    ap (pointer_to (object_of p)) (sym (wrapped_shifted 32 (offset_of p) (i *ℤ s) ∙ ap (λ n. (offset_of p + n) % 2 ^ 32) product))
