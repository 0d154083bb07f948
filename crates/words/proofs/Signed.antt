-- The two ways to read the bits of a word.
use Rattle.std.proofs.Common.{◌≡◌, ℕ, ◌-◌, ◌^◌, ◌<◌, ◌≤◌, pos, negsuc, arith}
use Rattle.std.proofs.lemmas.Int.{ints}
use Rattle.std.proofs.lemmas.Bool.Decides.{nat_tests}
use Rattle.words.specs.BitVector.{signed_value}

-- bits below 2 ^ (w - 1) mean themselves
pub signed_value_low : (w a : ℕ) → a < 2 ^ (w - 1) → signed_value w a ≡ pos a
unfolding signed_value
signed_value_low w a h = grind (arith, nat_tests)

-- the others mean 2 ^ w less
pub signed_value_high : (w a : ℕ) → 2 ^ (w - 1) ≤ a → a < 2 ^ w → signed_value w a ≡ negsuc (2 ^ w - 1 - a)
unfolding signed_value
signed_value_high w a h k = grind (arith, nat_tests, ints)
