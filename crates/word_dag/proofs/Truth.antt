-- Words of width 1 as truth values.
use Rattle.std.proofs.Common.{◌≡◌, ℕ, zero, suc, ◌^◌, ◌<◌, Bool, true, false, not, ◌&&◌, ◌||◌, bit_and, bit_or, refl, arith}
use Rattle.words.specs.Operators.{word_complement}
use Rattle.word_dag.specs.Meaning.{bit_value, holds}

pub holds_bit : (b : Bool) → holds (bit_value b) ≡ b
holds_bit true = refl
holds_bit false = refl

pub bit_holds : (a : ℕ) → a < 2 ^ 1 → bit_value (holds a) ≡ a
bit_holds zero h = refl
bit_holds (suc zero) h = refl
bit_holds (suc (suc a)) h = absurd (omega arith)

pub holds_not : (a : ℕ) → a < 2 ^ 1 → holds (word_complement 1 a) ≡ not (holds a)
unfolding word_complement
holds_not zero h = refl
holds_not (suc zero) h = refl
holds_not (suc (suc a)) h = absurd (omega arith)

pub holds_and : (a b : ℕ) → a < 2 ^ 1 → b < 2 ^ 1 → holds (bit_and a b) ≡ (holds a && holds b)
holds_and zero zero h l = refl
holds_and zero (suc zero) h l = refl
holds_and (suc zero) zero h l = refl
holds_and (suc zero) (suc zero) h l = refl
holds_and (suc (suc a)) b h l = absurd (omega arith)
holds_and a (suc (suc b)) h l = absurd (omega arith)

pub holds_or : (a b : ℕ) → a < 2 ^ 1 → b < 2 ^ 1 → holds (bit_or a b) ≡ (holds a || holds b)
holds_or zero zero h l = refl
holds_or zero (suc zero) h l = refl
holds_or (suc zero) zero h l = refl
holds_or (suc zero) (suc zero) h l = refl
holds_or (suc (suc a)) b h l = absurd (omega arith)
holds_or a (suc (suc b)) h l = absurd (omega arith)

-- for `grind`
pub ruleset truth_values = (holds_bit, holds_not, holds_and, holds_or)
