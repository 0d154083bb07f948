-- Signed results at a width where they are exact, and the tests of range as comparisons of words: a word is in the range of a lesser width exactly where it is the sign extension of its low bits.
use Rattle.std.proofs.Common.{◌≡◌, ℕ, zero, suc, ◌+◌, ◌-◌, ◌*◌, ◌^◌, ◌<◌, ◌≤◌, ℤ, pos, negsuc, ◌+ℤ◌, ◌-ℤ◌, ◌*ℤ◌, Bool, true, false, nat_lt, nat_eq, arith, refl, sym, ◌∙◌, ap, inl, inr}
use Rattle.std.proofs.lemmas.Nat.{pow-add, pow_below, mul-le}
use Rattle.std.proofs.lemmas.Bool.{cases_lt}
use Rattle.std.proofs.lemmas.Int.{ints}
use Rattle.std.proofs.lemmas.Bool.Decides.{nat_tests}
use Rattle.words.specs.BitVector.{signed_value}
use Rattle.words.specs.Operators.{wrapped, fits_width, low_bits, sign_extension, word_sum, word_difference, word_product, sum_fits, difference_fits, product_fits}
use Rattle.words.proofs.Powers.{pow_doubled}
use Rattle.words.proofs.Ranges.{low_bits_below, word_sum_below, word_difference_below, word_product_below, sign_extension_below}
use Rattle.words.proofs.Overflow.{in_range_positive, in_range_negative, in_range_minus}
use Rattle.words.proofs.Views.{wrapped-signed_value, signed_value-wrapped, fits_width-signed_value, signed_value-word_sum, signed_value-word_difference, signed_value-word_product}
use Rattle.words.proofs.Widths.{low_bits-wrapped, signed_value-sign_extension}

-- ---- the test of range as a comparison of words

clash : false ≡ true → ⊥
clash e = cc

extended_back : (w v c : ℕ) → 1 ≤ w → w ≤ v → c < 2 ^ v → fits_width w (signed_value v c) ≡ true → sign_extension w v (low_bits w c) ≡ c
unfolding sign_extension
extended_back w v c h k l f =
    let whole : wrapped v (signed_value v c) ≡ c = wrapped-signed_value v c (omega arith) l in
    let cut : low_bits w c ≡ wrapped w (signed_value v c) = ap (low_bits w) (sym whole) ∙ low_bits-wrapped w v (signed_value v c) k in
    ap (λ (n : ℕ). wrapped v (signed_value w n)) cut ∙ ap (wrapped v) (signed_value-wrapped w (signed_value v c) h f) ∙ whole

extended_fits : (w v c : ℕ) → 1 ≤ w → w ≤ v → sign_extension w v (low_bits w c) ≡ c → fits_width w (signed_value v c) ≡ true
extended_fits w v c h k e =
    ap (λ (n : ℕ). fits_width w (signed_value v n)) (sym e)
    ∙ ap (fits_width w) (signed_value-sign_extension w v (low_bits w c) h k (low_bits_below w c))
    ∙ fits_width-signed_value w (low_bits w c) h (low_bits_below w c)

same_test : (b : Bool) (m n : ℕ) → (b ≡ true → m ≡ n) → (m ≡ n → b ≡ true) → b ≡ nat_eq m n
same_test true m n down up = grind (arith, nat_tests, down refl)
same_test false m n down up =
    let other : m ≡ n → ⊥ = λ e. clash (up e) in
    grind (arith, nat_tests)

pub fits_width-extended : (w v c : ℕ) → 1 ≤ w → w ≤ v → c < 2 ^ v → fits_width w (signed_value v c) ≡ nat_eq (sign_extension w v (low_bits w c)) c
fits_width-extended w v c h k l =
    let down : fits_width w (signed_value v c) ≡ true → sign_extension w v (low_bits w c) ≡ c = extended_back w v c h k l in
    let up : sign_extension w v (low_bits w c) ≡ c → fits_width w (signed_value v c) ≡ true = extended_fits w v c h k in
    same_test (fits_width w (signed_value v c)) (sign_extension w v (low_bits w c)) c down up

-- ---- the sum and the difference at one bit more, the product at twice the width

bound : (w n : ℕ) → nat_lt n (2 ^ (w - 1)) ≡ true → n < 2 ^ (w - 1)
bound w n f = grind (arith, nat_tests)

doubled : (w : ℕ) → 1 ≤ w → 2 ^ (w + 1 - 1) ≡ 2 ^ (w - 1) + 2 ^ (w - 1)
doubled w h = ap (λ (n : ℕ). 2 ^ n) (omega arith) ∙ pow_doubled w h

mixed_sum : (w a b : ℕ) → a < 2 ^ (w - 1) → b < 2 ^ (w - 1) → fits_width w (pos a +ℤ negsuc b) ≡ true
mixed_sum w a b p q =
    elim (cases_lt b a) [
      | inl r ↦ (let e : pos a +ℤ negsuc b ≡ pos (a - suc b) = omega (arith, ints) in ap (fits_width w) e ∙ in_range_positive w (a - suc b) (omega arith))
      | inr r ↦ (let e : pos a +ℤ negsuc b ≡ negsuc (b - a) = omega (arith, ints) in ap (fits_width w) e ∙ in_range_negative w (b - a) (omega arith))
    ]

wider_sum : (w : ℕ) (x y : ℤ) → 1 ≤ w → fits_width w x ≡ true → fits_width w y ≡ true → fits_width (w + 1) (x +ℤ y) ≡ true
unfolding fits_width
wider_sum w (pos a) (pos b) h f g =
    in_range_positive (w + 1) (a + b) (omega (arith, doubled w h, bound w a f, bound w b g))
wider_sum w (pos a) (negsuc b) h f g = mixed_sum (w + 1) a b (omega (arith, doubled w h, bound w a f)) (omega (arith, doubled w h, bound w b g))
wider_sum w (negsuc a) (pos b) h f g =
    let e : negsuc a +ℤ pos b ≡ pos b +ℤ negsuc a = omega (arith, ints) in
    ap (fits_width (w + 1)) e ∙ mixed_sum (w + 1) b a (omega (arith, doubled w h, bound w b g)) (omega (arith, doubled w h, bound w a f))
wider_sum w (negsuc a) (negsuc b) h f g =
    in_range_negative (w + 1) (suc (a + b)) (omega (arith, doubled w h, bound w a f, bound w b g))

wider_difference : (w : ℕ) (x y : ℤ) → 1 ≤ w → fits_width w x ≡ true → fits_width w y ≡ true → fits_width (w + 1) (x -ℤ y) ≡ true
unfolding fits_width
wider_difference w (pos a) (pos zero) h f g =
    let e : pos a -ℤ pos zero ≡ pos a = omega (arith, ints) in
    ap (fits_width (w + 1)) e ∙ in_range_positive (w + 1) a (omega (arith, doubled w h, bound w a f))
wider_difference w (pos a) (pos (suc b)) h f g = mixed_sum (w + 1) a b (omega (arith, doubled w h, bound w a f)) (omega (arith, doubled w h, bound w (suc b) g))
wider_difference w (pos a) (negsuc b) h f g =
    in_range_positive (w + 1) (a + suc b) (omega (arith, doubled w h, bound w a f, bound w b g))
wider_difference w (negsuc a) (pos b) h f g =
    let e : negsuc a -ℤ pos b ≡ negsuc (a + b) = omega (arith, ints) in
    ap (fits_width (w + 1)) e ∙ in_range_negative (w + 1) (a + b) (omega (arith, doubled w h, bound w a f, bound w b g))
wider_difference w (negsuc a) (negsuc b) h f g =
    let e : negsuc a -ℤ negsuc b ≡ pos (suc b) +ℤ negsuc a = omega (arith, ints) in
    ap (fits_width (w + 1)) e ∙ mixed_sum (w + 1) (suc b) a (omega (arith, doubled w h, bound w b g)) (omega (arith, doubled w h, bound w a f))

squared : (w m n : ℕ) → 1 ≤ w → m ≤ 2 ^ (w - 1) → n ≤ 2 ^ (w - 1) → m * n < 2 ^ (w + w - 1)
squared w m n h p q =
    let product : m * n ≤ 2 ^ (w - 1) * 2 ^ (w - 1) = mul-le m n (2 ^ (w - 1)) (2 ^ (w - 1)) p q in
    let power : 2 ^ ((w - 1) + (w - 1)) ≡ 2 ^ (w - 1) * 2 ^ (w - 1) = pow-add 2 (w - 1) (w - 1) in
    let more : 2 ^ ((w - 1) + (w - 1)) < 2 ^ (w + w - 1) = pow_below ((w - 1) + (w - 1)) (w + w - 1) (omega arith) in
    omega arith

wider_product : (w : ℕ) (x y : ℤ) → 1 ≤ w → fits_width w x ≡ true → fits_width w y ≡ true → fits_width (w + w) (x *ℤ y) ≡ true
unfolding fits_width
wider_product w (pos a) (pos b) h f g =
    in_range_positive (w + w) (a * b) (squared w a b h (omega (arith, bound w a f)) (omega (arith, bound w b g)))
wider_product w (pos a) (negsuc b) h f g =
    in_range_minus (w + w) (a * suc b) (omega (arith, squared w a (suc b) h (omega (arith, bound w a f)) (omega (arith, bound w b g))))
wider_product w (negsuc a) (pos b) h f g =
    in_range_minus (w + w) (suc a * b) (omega (arith, squared w (suc a) b h (omega (arith, bound w a f)) (omega (arith, bound w b g))))
wider_product w (negsuc a) (negsuc b) h f g =
    in_range_positive (w + w) (suc a * suc b) (squared w (suc a) (suc b) h (omega (arith, bound w a f)) (omega (arith, bound w b g)))

pub exact_sum : (w a b : ℕ) → 1 ≤ w → a < 2 ^ w → b < 2 ^ w → signed_value (w + 1) (word_sum (w + 1) (sign_extension w (w + 1) a) (sign_extension w (w + 1) b)) ≡ signed_value w a +ℤ signed_value w b
unfolding sum_fits
exact_sum w a b h k l =
    let first : signed_value (w + 1) (sign_extension w (w + 1) a) ≡ signed_value w a = signed_value-sign_extension w (w + 1) a h (omega arith) k in
    let second : signed_value (w + 1) (sign_extension w (w + 1) b) ≡ signed_value w b = signed_value-sign_extension w (w + 1) b h (omega arith) l in
    let fits : sum_fits (w + 1) (sign_extension w (w + 1) a) (sign_extension w (w + 1) b) ≡ true =
    rw (first, second) (wider_sum w (signed_value w a) (signed_value w b) h (fits_width-signed_value w a h k) (fits_width-signed_value w b h l)) in
    signed_value-word_sum (w + 1) (sign_extension w (w + 1) a) (sign_extension w (w + 1) b) (omega arith) (sign_extension_below w (w + 1) a) (sign_extension_below w (w + 1) b) fits
    ∙ ap (λ (v : ℤ). v +ℤ signed_value (w + 1) (sign_extension w (w + 1) b)) first
    ∙ ap (λ (v : ℤ). signed_value w a +ℤ v) second

pub exact_difference : (w a b : ℕ) → 1 ≤ w → a < 2 ^ w → b < 2 ^ w → signed_value (w + 1) (word_difference (w + 1) (sign_extension w (w + 1) a) (sign_extension w (w + 1) b)) ≡ signed_value w a -ℤ signed_value w b
unfolding difference_fits
exact_difference w a b h k l =
    let first : signed_value (w + 1) (sign_extension w (w + 1) a) ≡ signed_value w a = signed_value-sign_extension w (w + 1) a h (omega arith) k in
    let second : signed_value (w + 1) (sign_extension w (w + 1) b) ≡ signed_value w b = signed_value-sign_extension w (w + 1) b h (omega arith) l in
    let fits : difference_fits (w + 1) (sign_extension w (w + 1) a) (sign_extension w (w + 1) b) ≡ true =
    rw (first, second) (wider_difference w (signed_value w a) (signed_value w b) h (fits_width-signed_value w a h k) (fits_width-signed_value w b h l)) in
    signed_value-word_difference (w + 1) (sign_extension w (w + 1) a) (sign_extension w (w + 1) b) (omega arith) (sign_extension_below w (w + 1) a) (sign_extension_below w (w + 1) b) fits
    ∙ ap (λ (v : ℤ). v -ℤ signed_value (w + 1) (sign_extension w (w + 1) b)) first
    ∙ ap (λ (v : ℤ). signed_value w a -ℤ v) second

pub exact_product : (w a b : ℕ) → 1 ≤ w → a < 2 ^ w → b < 2 ^ w → signed_value (w + w) (word_product (w + w) (sign_extension w (w + w) a) (sign_extension w (w + w) b)) ≡ signed_value w a *ℤ signed_value w b
unfolding product_fits
exact_product w a b h k l =
    let first : signed_value (w + w) (sign_extension w (w + w) a) ≡ signed_value w a = signed_value-sign_extension w (w + w) a h (omega arith) k in
    let second : signed_value (w + w) (sign_extension w (w + w) b) ≡ signed_value w b = signed_value-sign_extension w (w + w) b h (omega arith) l in
    let fits : product_fits (w + w) (sign_extension w (w + w) a) (sign_extension w (w + w) b) ≡ true =
    rw (first, second) (wider_product w (signed_value w a) (signed_value w b) h (fits_width-signed_value w a h k) (fits_width-signed_value w b h l)) in
    signed_value-word_product (w + w) (sign_extension w (w + w) a) (sign_extension w (w + w) b) (omega arith) (sign_extension_below w (w + w) a) (sign_extension_below w (w + w) b) fits
    ∙ ap (λ (v : ℤ). v *ℤ signed_value (w + w) (sign_extension w (w + w) b)) first
    ∙ ap (λ (v : ℤ). signed_value w a *ℤ v) second

-- ---- so a result is in range exactly where the exact one is the sign extension of its low bits

pub sum_fits-exact : (w a b : ℕ) → 1 ≤ w → a < 2 ^ w → b < 2 ^ w → (s : ℕ) → s ≡ word_sum (w + 1) (sign_extension w (w + 1) a) (sign_extension w (w + 1) b) → sum_fits w a b ≡ nat_eq (sign_extension w (w + 1) (low_bits w s)) s
unfolding sum_fits
sum_fits-exact w a b h k l s e =
    let below : s < 2 ^ (w + 1) = rw e (word_sum_below (w + 1) (sign_extension w (w + 1) a) (sign_extension w (w + 1) b)) in
    ap (fits_width w) (sym (exact_sum w a b h k l) ∙ ap (signed_value (w + 1)) (sym e)) ∙ fits_width-extended w (w + 1) s h (omega arith) below

pub difference_fits-exact : (w a b : ℕ) → 1 ≤ w → a < 2 ^ w → b < 2 ^ w → (d : ℕ) → d ≡ word_difference (w + 1) (sign_extension w (w + 1) a) (sign_extension w (w + 1) b) → difference_fits w a b ≡ nat_eq (sign_extension w (w + 1) (low_bits w d)) d
unfolding difference_fits
difference_fits-exact w a b h k l d e =
    let below : d < 2 ^ (w + 1) = rw e (word_difference_below (w + 1) (sign_extension w (w + 1) a) (sign_extension w (w + 1) b)) in
    ap (fits_width w) (sym (exact_difference w a b h k l) ∙ ap (signed_value (w + 1)) (sym e)) ∙ fits_width-extended w (w + 1) d h (omega arith) below

pub product_fits-exact : (w a b : ℕ) → 1 ≤ w → a < 2 ^ w → b < 2 ^ w → (p : ℕ) → p ≡ word_product (w + w) (sign_extension w (w + w) a) (sign_extension w (w + w) b) → product_fits w a b ≡ nat_eq (sign_extension w (w + w) (low_bits w p)) p
unfolding product_fits
product_fits-exact w a b h k l p e =
    let below : p < 2 ^ (w + w) = rw e (word_product_below (w + w) (sign_extension w (w + w) a) (sign_extension w (w + w) b)) in
    ap (fits_width w) (sym (exact_product w a b h k l) ∙ ap (signed_value (w + w)) (sym e)) ∙ fits_width-extended w (w + w) p h (omega arith) below
