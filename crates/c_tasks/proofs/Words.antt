-- The words that a variable is drawn in begin in it, and an initializer's value fills it.
use Rattle.std.proofs.Common.{◌≡◌, ◌<◌, ◌≤◌, ℕ, suc, ◌+◌, ◌*◌, true, ◌&&◌, ◌==◌, nat_lt, nat_le, List, length, slice_index, arith}
use Rattle.std.proofs.lemmas.Bool.{false≢true}
use Rattle.c_types.specs.declared.types.ValueType.{ValueType}
use Rattle.c_types.specs.declared.types.ValueType.TheVariants.{Void, Integer}
use Rattle.c_types.specs.Integers.{bytes}
use Rattle.core_tree.specs.Typed.{is_within}
use Rattle.core_tree.specs.Typed as typing
use Rattle.c_values.specs.Variables.{word_count, drawn_count}
use Rattle.c_meaning.specs.Meaning.{integer_of}
use Rattle.c_tasks.specs.Fits.{has_words}
use Rattle.c_meaning.proofs.Holding.{left_of, right_of, both, to_le, from_le, from_same}

-- ---- an initializer's value

pub filled_there : (sizes : List ℕ) (v : ℕ) (t : ValueType) → typing.fills sizes v t ≡ true → nat_lt v (length sizes) ≡ true
filled_there sizes v Void h = absurd (false≢true h)
filled_there sizes v (Integer t) h = left_of (nat_lt v (length sizes)) (bytes t == slice_index sizes v) h

pub filled_within : (sizes : List ℕ) (v : ℕ) (t : ValueType) → typing.fills sizes v t ≡ true → is_within sizes v 0 (bytes (integer_of t)) ≡ true
filled_within sizes v Void h = absurd (false≢true h)
filled_within sizes v (Integer t) h =
    let e = from_same (bytes t) (slice_index sizes v) (right_of (nat_lt v (length sizes)) (bytes t == slice_index sizes v) h) in
    both (nat_lt v (length sizes)) (nat_le (0 + bytes t) (slice_index sizes v)) (left_of (nat_lt v (length sizes)) (bytes t == slice_index sizes v) h)
    (to_le (0 + bytes t) (slice_index sizes v) (omega (arith, e)))

-- a number in a list's bytes
pub placed_within : (size offset : ℕ) (t : ValueType) → typing.fits_at size offset t ≡ true → nat_le (offset + bytes (integer_of t)) size ≡ true
placed_within size offset Void h = absurd (false≢true h)
placed_within size offset (Integer t) h = h

-- a structure value that is as large as a variable
pub structure_fills : (sizes : List ℕ) (v size : ℕ) → (nat_lt v (length sizes) && size == slice_index sizes v) ≡ true → is_within sizes v 0 size ≡ true
structure_fills sizes v size h =
    let e = from_same size (slice_index sizes v) (right_of (nat_lt v (length sizes)) (size == slice_index sizes v) h) in
    both (nat_lt v (length sizes)) (nat_le (0 + size) (slice_index sizes v)) (left_of (nat_lt v (length sizes)) (size == slice_index sizes v) h)
    (to_le (0 + size) (slice_index sizes v) (omega (arith, e)))

-- ---- words

count_within : (size : ℕ) → 0 + 8 * word_count size ≤ size + 7
count_within size = omega arith

pub all_words : (sizes : List ℕ) (v : ℕ) → nat_lt v (length sizes) ≡ true → has_words sizes v 0 (word_count (slice_index sizes v)) ≡ true
all_words sizes v h =
    let size = slice_index sizes v in
    both (nat_lt v (length sizes)) (nat_le (0 + 8 * word_count size) (size + 7)) h (to_le (0 + 8 * word_count size) (size + 7) (count_within size))

begins : (sizes : List ℕ) (v offset words : ℕ) → has_words sizes v offset words ≡ true → offset + 8 * words ≤ slice_index sizes v + 7
begins sizes v offset words h =
    from_le (offset + 8 * words) (slice_index sizes v + 7) (right_of (nat_lt v (length sizes)) (nat_le (offset + 8 * words) (slice_index sizes v + 7)) h)

pub there : (sizes : List ℕ) (v offset words : ℕ) → has_words sizes v offset words ≡ true → nat_lt v (length sizes) ≡ true
there sizes v offset words h = left_of (nat_lt v (length sizes)) (nat_le (offset + 8 * words) (slice_index sizes v + 7)) h

pub next_words : (sizes : List ℕ) (v offset k : ℕ) → has_words sizes v offset (suc k) ≡ true → has_words sizes v (offset + 8) k ≡ true
next_words sizes v offset k h =
    let size = slice_index sizes v in
    let b : offset + 8 * suc k ≤ size + 7 = begins sizes v offset (suc k) h in
    both (nat_lt v (length sizes)) (nat_le ((offset + 8) + 8 * k) (size + 7)) (there sizes v offset (suc k) h) (to_le ((offset + 8) + 8 * k) (size + 7) (omega (arith, b)))

pub begins_within : (sizes : List ℕ) (v offset words : ℕ) → 0 < words → has_words sizes v offset words ≡ true → offset < slice_index sizes v
begins_within sizes v offset words positive h =
    let b : offset + 8 * words ≤ slice_index sizes v + 7 = begins sizes v offset words h in
    omega (arith, b)

count_fits : (size offset : ℕ) → offset < size → offset + drawn_count size offset ≤ size
count_fits size offset h = omega arith

pub word_within : (sizes : List ℕ) (v offset words : ℕ) → 0 < words → has_words sizes v offset words ≡ true → is_within sizes v offset (drawn_count (slice_index sizes v) offset) ≡ true
word_within sizes v offset words positive h =
    let size = slice_index sizes v in
    both (nat_lt v (length sizes)) (nat_le (offset + drawn_count size offset) size) (there sizes v offset words h)
    (to_le (offset + drawn_count size offset) size (count_fits size offset (begins_within sizes v offset words positive h)))
