-- Whole numbers that an int has.
use Rattle.std.proofs.Common.{◌≡◌, ◌+◌, ℕ, ℤ, pos, negsuc, Bool, true, false, nat_lt, refl, sym, ◌∙◌, arith}
use borrow.Author.Tests.{leb-true, le-leb, ltb-true, lt-ltb}
use Rattle.words.specs.Operators.{fits_width}
use Rattle.std.specs.Prelude.{nat_le, int_le}

test_same : (x y : Bool) → (x ≡ true → y ≡ true) → (y ≡ true → x ≡ true) → x ≡ y
test_same true y h g = sym (h refl)
test_same false true h g = g refl
test_same false false h g = refl

up_to : (n k : ℕ) → nat_le n k ≡ nat_lt n (k + 1)
up_to n k =
    let down : nat_le n k ≡ true → nat_lt n (k + 1) ≡ true = λ h. let le = leb-true n k h in lt-ltb n (k + 1) (omega arith) in
    let up : nat_lt n (k + 1) ≡ true → nat_le n k ≡ true = λ h. let lt = ltb-true n (k + 1) h in le-leb n k (omega arith) in
    test_same (nat_le n k) (nat_lt n (k + 1)) down up

pub is_small : (n : ℕ) → nat_le n 2147483647 ≡ fits_width 32 (pos n)
unfolding fits_width
is_small n = up_to n 2147483647

pub not_above : (z : ℤ) → int_le (negsuc 2147483647) z ≡ true → int_le z (pos 2147483647) ≡ fits_width 32 z
unfolding fits_width
not_above (pos n) h = up_to n 2147483647
not_above (negsuc n) h = sym (sym (up_to n 2147483647) ∙ h)

pub not_below : (z : ℤ) → int_le (negsuc 2147483647) z ≡ false → int_le (negsuc 2147483647) z ≡ fits_width 32 z
unfolding fits_width
not_below (pos n) h = let none : ⊥ = cc in absurd none
not_below (negsuc n) h = up_to n 2147483647
