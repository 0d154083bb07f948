-- Whether an offset so many bytes further on lies in an object.
use Rattle.std.proofs.Common.{◌≡◌, ℕ, ◌+◌, ◌-◌, ◌%◌, ◌^◌, ◌<◌, ◌≤◌, ℤ, pos, negsuc, int_lt, true, false, ap, arith, inl, inr}
use Rattle.std.specs.Prelude.{◌+ℤ◌, FitsSigned}
use Rattle.std.specs.Int.{w128}
use Rattle.std.proofs.lemmas.Int.{ints}
use Rattle.std.proofs.lemmas.Bool.{cases_lt, false≢true}
use Rattle.std.proofs.lemmas.Bool.Decides.{nat_tests}
use Rattle.words.specs.Operators.{wrapped}
use Rattle.c_values.specs.Variables.{pointer_to}
use Rattle.c_values.specs.Pointers.{in_range, pointer_at}
use Rattle.actions.specs.Pointer.{object_of}

above : (a size : ℕ) → size < a → in_range (pos a) size ≡ false
above a size h = grind (arith, nat_tests)

below : (offset n size : ℕ) → offset ≤ n → in_range (pos offset +ℤ negsuc n) size ≡ false
below offset n size h =
    let e : pos offset +ℤ negsuc n ≡ negsuc (n - offset) = omega (arith, ints) in
    ap (λ (z : ℤ). in_range z size) e

-- a distance that is no number of 128 bits
pub too_far : (offset size : ℕ) (z : ℤ) → offset < 2 ^ 32 → size < 2 ^ 64 → (FitsSigned w128 z → ⊥) → in_range (pos offset +ℤ z) size ≡ false
too_far offset size (pos n) f g h =
    elim (cases_lt n (2 ^ 127)) [
      | inl p ↦ absurd (h (record { sfits = p }))
      | inr q ↦ above (offset + n) size (omega arith)
    ]
too_far offset size (negsuc n) f g h =
    elim (cases_lt n (2 ^ 127)) [
      | inl p ↦ absurd (h (record { sfits = p }))
      | inr q ↦ below offset n size (omega arith)
    ]

-- one beyond the size
pub beyond : (offset size : ℕ) (z : ℤ) → int_lt (pos size) z ≡ true → in_range (pos offset +ℤ z) size ≡ false
beyond offset size (pos n) h = above (offset + n) size (grind (arith, nat_tests))
beyond offset size (negsuc n) h = absurd (false≢true h)

-- the pointer there
pub pointer_there : (p o : ℕ) (z : ℤ) → pos o ≡ z → pointer_to (object_of p) (o % 2 ^ 32) ≡ pointer_at p z
unfolding wrapped
pointer_there p o z e = ap (pointer_at p) e
