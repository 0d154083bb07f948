-- What a conversion of integers does to the bits (C11 6.3.1.3).
use Rattle.std.proofs.Common.{◌≡◌, ◌<◌, ◌≤◌, ◌-◌, ◌*◌, ◌^◌, ℕ, Bool, true, false, pos, ◌-ℤ◌, if◌then◌else◌, sym, ap, ◌∙◌, arith, refl}
use Rattle.c_types.specs.declared.integers.IntegerType.{IntegerType}
use Rattle.c_types.specs.declared.integers.IntegerType.TheVariants as types
use Rattle.c_types.specs.Integers.{width, is_signed}
use Rattle.std.proofs.Math.Nat.{mod-eq_of_lt, mul_assoc}
use Rattle.words.proofs.Powers.{pow_split}
use Rattle.words.proofs.Ranges.{below_wider}
use Rattle.words.specs.BitVector.{signed_value}
use Rattle.words.specs.Operators.{wrapped, low_bits, sign_extension}
use Rattle.words.proofs.Views.{signed_value_is, wrapped_lowered}
use Rattle.core_tree.specs.Operations.{number}

narrower : (s : Bool) (v w b : ℕ) → 1 ≤ v → w ≤ v → b < 2 ^ v → wrapped w (if s then signed_value v b else pos b) ≡ low_bits w b
unfolding wrapped low_bits
narrower true v w b p q f =
    let (i, _, e) = signed_value_is v b p f in
    let k : i * 2 ^ v ≡ (i * 2 ^ (v - w)) * 2 ^ w = ap (λ n. i * n) (pow_split w v q) ∙ sym (mul_assoc i (2 ^ (v - w)) (2 ^ w)) in
    ap (wrapped w) (e ∙ ap (λ n. pos b -ℤ pos n) k) ∙ wrapped_lowered w b (i * 2 ^ (v - w))
narrower false v w b p q f = refl

positive : (t : IntegerType) → 1 ≤ width t
positive types.Bool = omega arith
positive _ = omega arith

pub wrapped_narrower : (t : IntegerType) (w b : ℕ) → w ≤ width t → b < 2 ^ width t → wrapped w (number t b) ≡ low_bits w b
wrapped_narrower t w b q f = narrower (is_signed t) (width t) w b (positive t) q f

pub wrapped_signed : (t : IntegerType) (w b : ℕ) → is_signed t ≡ true → wrapped w (number t b) ≡ sign_extension (width t) w b
unfolding sign_extension
wrapped_signed t w b s = ap (λ c. wrapped w (if c then signed_value (width t) b else pos b)) s

pub wrapped_wider : (t : IntegerType) (w b : ℕ) → is_signed t ≡ false → width t ≤ w → b < 2 ^ width t → wrapped w (number t b) ≡ b
unfolding wrapped
wrapped_wider t w b s q f = ap (λ c. wrapped w (if c then signed_value (width t) b else pos b)) s ∙ mod-eq_of_lt (below_wider (width t) w b q f)
