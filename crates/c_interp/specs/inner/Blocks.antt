-- Blocks of bytes, and what stays one.
use Rattle.std.proofs.Common.{◌≡◌, ◌<◌, ℕ, ◌+◌, zero, suc, true, ◌&&◌, nat_lt, List, [], ◌∷◌, ◌++◌, length, take, drop, slice_set, refl, ◌∙◌, arith}
use Rattle.std.specs.Int.{byte_at, bytes_low_first, w64, to_le_bytes}
use Rattle.std.proofs.lemmas.Bool.{false≢true, lt-ltb}
use Rattle.std.proofs.lemmas.List.Folds.{list_all-append}
use Rattle.actions.specs.ByteList.{are_bytes}
use Rattle.actions.specs.declared.action.Answer.{Answer}
use Rattle.actions.specs.declared.action.Answer.TheVariants as answer
use Rattle.actions.specs.Behaviour.{has_shape, bytes as bytes_shape}
use Rattle.actions.proofs.ByteLists.{are_bytes-take, are_bytes-drop, are_bytes-part}
use Rattle.c_meaning.specs.Meaning.{bytes_in}
use Rattle.c_meaning.proofs.Holding.{left_of, right_of, both}
use Rattle.c_values.specs.Variables.{Variables, low_bytes, put_at, zeros, block_of, put_bytes, cleared, first_variables}
use Rattle.c_tasks.specs.Items.{top_bytes, rest_bytes, second_bytes, blocks_on, Item}
use Rattle.c_interp.specs.Keeps.{are_blocks, are_saved, holds_bytes}

-- ---- bytes

pub joined_bytes : (xs ys : List ℕ) → are_bytes xs ≡ true → are_bytes ys ≡ true → are_bytes (xs ++ ys) ≡ true
joined_bytes xs ys h k = list_all-append (λ b. nat_lt b 256) xs ys ∙ both (are_bytes xs) (are_bytes ys) h k

pub zero_bytes : (n : ℕ) → are_bytes (zeros n) ≡ true
zero_bytes zero = refl
zero_bytes (suc n) = zero_bytes n

byte_below : (i n : ℕ) → byte_at i n < 256
byte_below zero n = omega arith
byte_below (suc i) n = omega arith

first_bytes : (count i n : ℕ) → are_bytes (bytes_low_first i count n) ≡ true
first_bytes zero i n = refl
first_bytes (suc count) i n = both (nat_lt (byte_at i n) 256) (are_bytes (bytes_low_first (suc i) count n)) (lt-ltb (byte_at i n) 256 (byte_below i n)) (first_bytes count (suc i) n)

-- those of a number
pub number_bytes : (count n : ℕ) → are_bytes (low_bytes count n) ≡ true
number_bytes count n = are_bytes-take count (to_le_bytes w64 n) (first_bytes 8 0 n)

pub placed_bytes : (at : ℕ) (new old : List ℕ) → are_bytes new ≡ true → are_bytes old ≡ true → are_bytes (put_at at new old) ≡ true
placed_bytes at new old h k =
    let behind = drop (at + length new) old in
    joined_bytes (take at old) (new ++ behind) (are_bytes-take at old k) (joined_bytes new behind h (are_bytes-drop (at + length new) old k))

-- those that a read gives
pub read_bytes : (n : ℕ) (a : Answer) → has_shape (bytes_shape n) a ≡ true → are_bytes (bytes_in a) ≡ true
read_bytes n (answer.Bytes bs) h = right_of _ (are_bytes bs) h
read_bytes n answer.Done h = absurd (false≢true h)
read_bytes n (answer.Size m) h = absurd (false≢true h)
read_bytes n (answer.Word w) h = absurd (false≢true h)
read_bytes n (answer.Number m) h = absurd (false≢true h)
read_bytes n (answer.Value v) h = absurd (false≢true h)

-- ---- blocks

pub block_bytes : (vs : Variables) (v : ℕ) → are_blocks vs ≡ true → are_bytes (block_of vs v) ≡ true
block_bytes [] v h = refl
block_bytes (b ∷ vs) zero h = left_of (are_bytes b) (are_blocks vs) h
block_bytes (b ∷ vs) (suc v) h = block_bytes vs v (right_of (are_bytes b) (are_blocks vs) h)

pub part_bytes : (vs : Variables) (v at count : ℕ) → are_blocks vs ≡ true → are_bytes (take count (drop at (block_of vs v))) ≡ true
part_bytes vs v at count h = are_bytes-part at count (block_of vs v) (block_bytes vs v h)

set_blocks : (vs : Variables) (v : ℕ) (block : List ℕ) → are_blocks vs ≡ true → are_bytes block ≡ true → are_blocks (slice_set vs v block) ≡ true
set_blocks [] v block h k = refl
set_blocks (b ∷ vs) zero block h k = both (are_bytes block) (are_blocks vs) k (right_of (are_bytes b) (are_blocks vs) h)
set_blocks (b ∷ vs) (suc v) block h k = both (are_bytes b) (are_blocks (slice_set vs v block)) (left_of (are_bytes b) (are_blocks vs) h) (set_blocks vs v block (right_of (are_bytes b) (are_blocks vs) h) k)

pub written_blocks : (vs : Variables) (v at : ℕ) (new : List ℕ) → are_blocks vs ≡ true → are_bytes new ≡ true → are_blocks (put_bytes vs v at new) ≡ true
written_blocks vs v at new h k = set_blocks vs v (put_at at new (block_of vs v)) h (placed_bytes at new (block_of vs v) k (block_bytes vs v h))

pub cleared_blocks : (vs : Variables) (v size : ℕ) → are_blocks vs ≡ true → are_blocks (cleared vs v size) ≡ true
cleared_blocks vs v size h = set_blocks vs v (zeros size) h (zero_bytes size)

pub joined_blocks : (bs cs : List (List ℕ)) → are_blocks bs ≡ true → are_blocks cs ≡ true → are_blocks (bs ++ cs) ≡ true
joined_blocks bs cs h k = list_all-append (λ (block : List ℕ). are_bytes block) bs cs ∙ both (are_blocks bs) (are_blocks cs) h k

pub first_blocks : (sizes : List ℕ) → are_blocks (first_variables sizes) ≡ true
first_blocks [] = refl
first_blocks (n ∷ sizes) = both (are_bytes (zeros n)) (are_blocks (first_variables sizes)) (zero_bytes n) (first_blocks sizes)

pub left_blocks : (count : ℕ) (bs : List (List ℕ)) → are_blocks bs ≡ true → are_blocks (drop count bs) ≡ true
left_blocks zero bs h = h
left_blocks (suc n) [] h = refl
left_blocks (suc n) (b ∷ bs) h = left_blocks n bs (right_of (are_bytes b) (are_blocks bs) h)

pub argument_blocks : (count : ℕ) (bs : List (List ℕ)) → are_blocks bs ≡ true → are_blocks (blocks_on count bs) ≡ true
argument_blocks zero bs h = refl
argument_blocks (suc n) [] h = refl
argument_blocks (suc n) (b ∷ bs) h =
    joined_blocks (blocks_on n bs) (b ∷ []) (argument_blocks n bs (right_of (are_bytes b) (are_blocks bs) h)) (both (are_bytes b) true (left_of (are_bytes b) (are_blocks bs) h) refl)

pub top_block : (bs : List (List ℕ)) → are_blocks bs ≡ true → are_bytes (top_bytes bs) ≡ true
top_block [] h = refl
top_block (b ∷ bs) h = left_of (are_bytes b) (are_blocks bs) h

pub rest_blocks : (bs : List (List ℕ)) → are_blocks bs ≡ true → are_blocks (rest_bytes bs) ≡ true
rest_blocks [] h = refl
rest_blocks (b ∷ bs) h = right_of (are_bytes b) (are_blocks bs) h

pub second_block : (bs : List (List ℕ)) → are_blocks bs ≡ true → are_bytes (second_bytes bs) ≡ true
second_block bs h = top_block (rest_bytes bs) (rest_blocks bs h)

-- ---- what is held

module _ (is : List Item) (bs : List (List ℕ)) (vs : Variables) (h : holds_bytes is bs vs ≡ true) where
  pub held_structures : are_blocks bs ≡ true
  held_structures = left_of (are_blocks bs) (are_blocks vs) (left_of (are_blocks bs && are_blocks vs) (are_saved is) h)

  pub held_variables : are_blocks vs ≡ true
  held_variables = right_of (are_blocks bs) (are_blocks vs) (left_of (are_blocks bs && are_blocks vs) (are_saved is) h)

  pub held_saved : are_saved is ≡ true
  held_saved = right_of (are_blocks bs && are_blocks vs) (are_saved is) h

pub all_held : (is : List Item) (bs : List (List ℕ)) (vs : Variables) → are_blocks bs ≡ true → are_blocks vs ≡ true → are_saved is ≡ true → holds_bytes is bs vs ≡ true
all_held is bs vs h k l = both (are_blocks bs && are_blocks vs) (are_saved is) (both (are_blocks bs) (are_blocks vs) h k) l

pub with_structures : (is : List Item) (bs cs : List (List ℕ)) (vs : Variables) → holds_bytes is bs vs ≡ true → are_blocks cs ≡ true → holds_bytes is cs vs ≡ true
with_structures is bs cs vs h k = all_held is cs vs k (held_variables is bs vs h) (held_saved is bs vs h)

pub with_variables : (is : List Item) (bs : List (List ℕ)) (vs now : Variables) → holds_bytes is bs vs ≡ true → are_blocks now ≡ true → holds_bytes is bs now ≡ true
with_variables is bs vs now h k = all_held is bs now (held_structures is bs vs h) k (held_saved is bs vs h)

pub with_block : (is : List Item) (block : List ℕ) (bs : List (List ℕ)) (vs : Variables) → holds_bytes is bs vs ≡ true → are_bytes block ≡ true → holds_bytes is (block ∷ bs) vs ≡ true
with_block is block bs vs h k = with_structures is bs (block ∷ bs) vs h (both (are_bytes block) (are_blocks bs) k (held_structures is bs vs h))

-- a block in the place of the one on top
pub with_top : (is : List Item) (block : List ℕ) (bs : List (List ℕ)) (vs : Variables) → holds_bytes is bs vs ≡ true → are_bytes block ≡ true → holds_bytes is (block ∷ rest_bytes bs) vs ≡ true
with_top is block bs vs h k = with_structures is bs (block ∷ rest_bytes bs) vs h (both (are_bytes block) (are_blocks (rest_bytes bs)) k (rest_blocks bs (held_structures is bs vs h)))

pub without_top : (is : List Item) (bs : List (List ℕ)) (vs : Variables) → holds_bytes is bs vs ≡ true → holds_bytes is (rest_bytes bs) vs ≡ true
without_top is bs vs h = with_structures is bs (rest_bytes bs) vs h (rest_blocks bs (held_structures is bs vs h))
