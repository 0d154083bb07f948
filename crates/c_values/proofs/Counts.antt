-- A shift count that is in range is below the width, as bits too.
use Rattle.std.proofs.Common.{◌≡◌, ◌<◌, ◌-◌, ◌^◌, ℕ, Bool, true, false, not, ◌&&◌, ◌||◌, pos, int_le, int_lt, None, if◌then◌else◌, ℤ, subst, arith, refl, inl, inr}
use Rattle.std.proofs.lemmas.Bool.{cases_lt, false≢true}
use Rattle.std.proofs.lemmas.Bool.Decides.{nat_tests}
use Rattle.c_types.specs.declared.integers.IntegerType.{IntegerType}
use Rattle.c_types.specs.Integers.{width, is_signed}
use Rattle.words.specs.BitVector.{signed_value}
use Rattle.words.specs.Operators.{left_shift_fits}
use Rattle.words.specs.declared.check.Class.{Class}
use Rattle.words.specs.declared.check.Class.TheVariants.{Shift}
use Rattle.words.proofs.Signed.{signed_value_low, signed_value_high}
use Rattle.core_tree.specs.Operations.{number, unless, left_shift_check, count_check}

abbrev in_range : ℤ → ℕ → Bool
in_range z w = int_le (pos 0) z && int_lt z (pos w)

plain_below : (b w : ℕ) → in_range (pos b) w ≡ true → b < w
plain_below b w h = grind (arith, nat_tests)

number_below : (s : Bool) (v b w : ℕ) → b < 2 ^ v → in_range (if s then signed_value v b else pos b) w ≡ true → b < w
number_below false v b w f h = plain_below b w h
number_below true v b w f h =
    elim (cases_lt b (2 ^ (v - 1))) [
      | inl p ↦ plain_below b w (subst (λ z. in_range z w ≡ true) (signed_value_low v b p) h)
      | inr q ↦ absurd (false≢true (subst (λ z. in_range z w ≡ true) (signed_value_high v b q f) h))
    ]

pub count_below : (u : IntegerType) (b w : ℕ) → b < 2 ^ width u → in_range (number u b) w ≡ true → b < w
count_below u b w f h = number_below (is_signed u) (width u) b w f h

from_and : (a b : Bool) → (a && b) ≡ true → a ≡ true
from_and true b h = refl
from_and false b h = h

from_unless : (b : Bool) (c : Class) → unless b c ≡ None → b ≡ true
from_unless true c h = refl
from_unless false c h = absurd (cc)

pub left_count_below : (t u : IntegerType) (a b : ℕ) → b < 2 ^ width u → left_shift_check t u a b ≡ None → b < width t
left_count_below t u a b f h =
    let all = from_unless (in_range (number u b) (width t) && (not (is_signed t) || left_shift_fits (width t) a b)) Shift h in
    count_below u b (width t) f (from_and (in_range (number u b) (width t)) (not (is_signed t) || left_shift_fits (width t) a b) all)

pub right_count_below : (t u : IntegerType) (b : ℕ) → b < 2 ^ width u → count_check t u b ≡ None → b < width t
right_count_below t u b f h = count_below u b (width t) f (from_unless (in_range (number u b) (width t)) Shift h)
