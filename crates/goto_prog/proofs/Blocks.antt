-- The blocks keep their sizes.
use Rattle.std.proofs.Common.{◌≡◌, ℕ, zero, suc, ◌+◌, ◌*◌, ◌<◌, ◌≤◌, true, ◌&&◌, nat_lt, List, [], ◌∷◌, ◌++◌, map, length, take, drop, refl, sym, ap, subst, ◌∙◌, arith, get_or}
use Rattle.std.specs.Prelude.{◌==◌, min, nat_le, slice_set, slice_index, slice_index_or}
use Rattle.std.specs.Int.{w64, to_le_bytes}
use Rattle.std.proofs.Math.ListN.{get_or-map}
use Rattle.std.proofs.Math.Seq.{map-set_same}
use Rattle.std.proofs.lemmas.Bool.Decides.{nat_tests}
use Rattle.std.proofs.lemmas.List.{get_or_default, length-map, length-append, length-take-le, length-take, length-drop, length-replicate}
use Rattle.c_types.specs.declared.integers.IntegerType.{IntegerType}
use Rattle.c_types.specs.declared.integers.IntegerType.TheVariants as types
use Rattle.c_types.specs.Integers.{width}
use Rattle.core_tree.specs.Typed.{is_within}
use Rattle.c_values.specs.Variables.{low_bytes, put_at, put_bytes, zeros, block_of, first_variables, word_count, drawn_count}
use Rattle.goto_prog.specs.Meaning.{Memory, register, with_blocks, first_count, taken_at, put_within}
use Rattle.goto_prog.specs.Fitting.{has_bytes, is_block, is_there}
use Rattle.goto_prog.proofs.Registers.{both, test_below, at_most_64}

pub test_within : (m n : ℕ) → nat_le m n ≡ true → m ≤ n
test_within m n h = grind (arith, nat_tests)

within_test : (m n : ℕ) → m ≤ n → nat_le m n ≡ true
within_test m n h = grind (arith, nat_tests)

equal_sizes : (m n : ℕ) → (m == n) ≡ true → m ≡ n
equal_sizes m n h = grind (arith, nat_tests)

-- ---- a register with so many bytes

eight : (count w : ℕ) → 8 * count ≤ w → w ≤ 64 → count ≤ 8
eight count w few most = omega (arith, few, most)

pub bytes_there : (rs : List IntegerType) (r count : ℕ) → has_bytes rs r count ≡ true → is_there rs r ≡ true
bytes_there rs r count has =
    let w = width (slice_index_or rs r types.Int) in
    (both (nat_lt r (length rs)) (nat_le 1 count) (both (nat_lt r (length rs) && nat_le 1 count) (nat_le (8 * count) w) has).0).0

pub bytes_few : (rs : List IntegerType) (r count : ℕ) → has_bytes rs r count ≡ true → count ≤ 8
bytes_few rs r count has =
    let t = slice_index_or rs r types.Int in
    eight count (width t) (test_within (8 * count) (width t) (both (nat_lt r (length rs) && nat_le 1 count) (nat_le (8 * count) (width t)) has).1) (at_most_64 t)

-- ---- sizes

-- a block has its size
size_at : (sizes : List ℕ) (blocks : List (List ℕ)) (b : ℕ) → map length blocks ≡ sizes → slice_index sizes b ≡ length (block_of blocks b)
size_at sizes blocks b same = ap (λ xs. slice_index xs b) (sym same) ∙ get_or-map length blocks b []

there_among : (sizes : List ℕ) (blocks : List (List ℕ)) (b : ℕ) → map length blocks ≡ sizes → nat_lt b (length sizes) ≡ true → b < length blocks
there_among sizes blocks b same lt =
    let there = test_below b (length sizes) lt in
    let count : length blocks ≡ length sizes = sym (length-map blocks length) ∙ ap length same in
    omega (arith, there, count)

pub block_there : (sizes : List ℕ) (blocks : List (List ℕ)) (b offset count : ℕ) → map length blocks ≡ sizes → is_within sizes b offset count ≡ true → b < length blocks
block_there sizes blocks b offset count same within =
    there_among sizes blocks b same (both (nat_lt b (length sizes)) (nat_le (offset + count) (slice_index sizes b)) within).0

room : (sizes : List ℕ) (blocks : List (List ℕ)) (b offset count : ℕ) → map length blocks ≡ sizes → is_within sizes b offset count ≡ true → offset + count ≤ length (block_of blocks b)
room sizes blocks b offset count same within =
    let fits = test_within (offset + count) (slice_index sizes b) (both (nat_lt b (length sizes)) (nat_le (offset + count) (slice_index sizes b)) within).1 in
    subst (λ n. offset + count ≤ n) (size_at sizes blocks b same) fits

-- a block that is there is the same whatever stands for one that isn't
pub block_room : (sizes : List ℕ) (blocks : List (List ℕ)) (b offset count : ℕ) (d : List ℕ) → map length blocks ≡ sizes → is_within sizes b offset count ≡ true → offset + count ≤ length (get_or blocks b d)
block_room sizes blocks b offset count d same within =
    subst (λ (block : List ℕ). offset + count ≤ length block) (get_or_default blocks b [] d (block_there sizes blocks b offset count same within)) (room sizes blocks b offset count same within)

low_count : (count bits : ℕ) → count ≤ 8 → length (low_bytes count bits) ≡ count
low_count count bits few = length-take-le count (to_le_bytes w64 bits) few

put_size : (at : ℕ) (new old : List ℕ) → at + length new ≤ length old → length (put_at at new old) ≡ length old
put_size at new old fits =
    let front = length-take-le at old (omega (arith, fits)) in
    let rest = length-append new (drop (at + length new) old) in
    let all = length-append (take at old) (new ++ drop (at + length new) old) in
    omega (arith, fits, front, rest, all, length-drop (at + length new) old)

-- a write leaves the sizes
pub sizes_put : (sizes : List ℕ) (blocks : List (List ℕ)) (b offset count bits : ℕ) (d : List ℕ) → map length blocks ≡ sizes → is_within sizes b offset count ≡ true → count ≤ 8
    → map length (slice_set blocks b (put_at offset (low_bytes count bits) (get_or blocks b d))) ≡ sizes
sizes_put sizes blocks b offset count bits d same within few =
    let block = get_or blocks b d in
    let fits = subst (λ n. offset + n ≤ length block) (sym (low_count count bits few)) (block_room sizes blocks b offset count d same within) in
    map-set_same length blocks b (put_at offset (low_bytes count bits) block) d (put_size offset (low_bytes count bits) block fits) ∙ same

pub sizes_put_bytes : (sizes : List ℕ) (blocks : List (List ℕ)) (b offset : ℕ) (new d : List ℕ) → map length blocks ≡ sizes → is_within sizes b offset (length new) ≡ true
    → map length (slice_set blocks b (put_at offset new (get_or blocks b d))) ≡ sizes
sizes_put_bytes sizes blocks b offset new d same within =
    map-set_same length blocks b (put_at offset new (get_or blocks b d)) d (put_size offset new (get_or blocks b d) (block_room sizes blocks b offset (length new) d same within)) ∙ same

-- a copy of bytes leaves the sizes
part_size : (block : List ℕ) (offset count : ℕ) → offset + count ≤ length block → length (take count (drop offset block)) ≡ count
part_size block offset count fits = let long = length-drop offset block in length-take-le count (drop offset block) (omega (arith, long, fits))

pub part_within : (sizes : List ℕ) (blocks : List (List ℕ)) (into to from offset count : ℕ) (d e : List ℕ) → map length blocks ≡ sizes → is_within sizes into to count ≡ true → is_within sizes from offset count ≡ true
    → to + length (take count (drop offset (get_or blocks from d))) ≤ length (get_or blocks into e)
part_within sizes blocks into to from offset count d e same there within =
    let long = part_size (get_or blocks from d) offset count (block_room sizes blocks from offset count d same within) in
    omega (arith, long, block_room sizes blocks into to count e same there)

pub sizes_copied : (sizes : List ℕ) (blocks : List (List ℕ)) (into to from offset count : ℕ) (d e : List ℕ) → map length blocks ≡ sizes → is_within sizes into to count ≡ true → is_within sizes from offset count ≡ true
    → map length (slice_set blocks into (put_at to (take count (drop offset (get_or blocks from d))) (get_or blocks into e))) ≡ sizes
sizes_copied sizes blocks into to from offset count d e same there within =
    let new = take count (drop offset (get_or blocks from d)) in
    map-set_same length blocks into (put_at to new (get_or blocks into e)) e (put_size to new (get_or blocks into e) (part_within sizes blocks into to from offset count d e same there within)) ∙ same

pub clear_there : (sizes : List ℕ) (blocks : List (List ℕ)) (b size : ℕ) → map length blocks ≡ sizes → is_block sizes b size ≡ true → b < length blocks
clear_there sizes blocks b size same is = there_among sizes blocks b same (both (nat_lt b (length sizes)) (size == slice_index sizes b) is).0

clear_size : (sizes : List ℕ) (blocks : List (List ℕ)) (b size : ℕ) → map length blocks ≡ sizes → is_block sizes b size ≡ true → length (block_of blocks b) ≡ size
clear_size sizes blocks b size same is =
    sym (equal_sizes size (slice_index sizes b) (both (nat_lt b (length sizes)) (size == slice_index sizes b) is).1 ∙ size_at sizes blocks b same)

-- the bytes of a block that is cleared
pub zeros_of : (sizes : List ℕ) (blocks : List (List ℕ)) (b size : ℕ) (d : List ℕ) → map length blocks ≡ sizes → is_block sizes b size ≡ true → zeros (length (get_or blocks b d)) ≡ zeros size
zeros_of sizes blocks b size d same is =
    ap (λ (block : List ℕ). zeros (length block)) (get_or_default blocks b d [] (clear_there sizes blocks b size same is)) ∙ ap zeros (clear_size sizes blocks b size same is)

pub sizes_cleared : (sizes : List ℕ) (blocks : List (List ℕ)) (b : ℕ) (d : List ℕ) → map length blocks ≡ sizes → map length (slice_set blocks b (zeros (length (get_or blocks b d)))) ≡ sizes
sizes_cleared sizes blocks b d same =
    map-set_same length blocks b (zeros (length (get_or blocks b d))) d (length-replicate (length (get_or blocks b d)) 0) ∙ same

pub first_sizes : (sizes : List ℕ) → map length (first_variables sizes) ≡ sizes
first_sizes [] = refl
first_sizes (size ∷ sizes) = λ k. length-replicate {A = ℕ} size 0 k ∷ first_sizes sizes k

-- ---- bytes that are handed over

pub block_among : (sizes : List ℕ) (blocks : List (List ℕ)) (b : ℕ) → map length blocks ≡ sizes → nat_lt b (length sizes) ≡ true → b < length blocks
block_among sizes blocks b same lt = there_among sizes blocks b same lt

least : (n m : ℕ) → min (suc n) (suc m) ≡ suc (min n m)
least n m = omega arith

none_least : (n : ℕ) → min n 0 ≡ 0
none_least n = omega arith

least_none : (n : ℕ) → min 0 n ≡ 0
least_none n = omega arith

-- as many bytes as there is room for
pub take_min : (n : ℕ) (xs : List ℕ) → take (min n (length xs)) xs ≡ take n xs
take_min zero xs = ap (λ k. take k xs) (least_none (length xs))
take_min (suc n) [] = ap (λ k. take k (let none : List ℕ = [] in none)) (none_least (suc n))
take_min (suc n) (x ∷ xs) = ap (λ k. take k (x ∷ xs)) (least n (length xs)) ∙ ap (λ ys. x ∷ ys) (take_min n xs)

pub sizes_filled : (sizes : List ℕ) (blocks : List (List ℕ)) (b : ℕ) (bytes d : List ℕ) → map length blocks ≡ sizes
    → map length (slice_set blocks b (put_at 0 (take (length (get_or blocks b d)) bytes) (get_or blocks b d))) ≡ sizes
sizes_filled sizes blocks b bytes d same =
    let block = get_or blocks b d in
    map-set_same length blocks b (put_at 0 (take (length block) bytes) block) d (put_size 0 (take (length block) bytes) block (omega (arith, length-take (length block) bytes))) ∙ same

-- ---- words that fill a block

-- so many bytes from the place of a word on are among the first bytes
word_room : (size words : ℕ) → words < word_count size → 8 * words + drawn_count size (8 * words) ≤ size
word_room size words more = omega (arith, more)

few_bytes : (size offset : ℕ) → drawn_count size offset ≤ 8
few_bytes size offset = omega arith

first_within : (m : Memory) (b r : ℕ) → first_count m b r ≤ length (block_of m.blocks b)
first_within m b r = omega arith

pub word_within : (sizes : List ℕ) (m : Memory) (b r words : ℕ) → map length m.blocks ≡ sizes → nat_lt b (length sizes) ≡ true → words < word_count (first_count m b r)
    → is_within sizes b (8 * words) (drawn_count (first_count m b r) (8 * words)) ≡ true
word_within sizes m b r words same there more =
    let size = first_count m b r in
    let fits : 8 * words + drawn_count size (8 * words) ≤ slice_index sizes b = omega (arith, word_room size words more, first_within m b r, size_at sizes m.blocks b same) in
    λ k. there k && within_test (8 * words + drawn_count size (8 * words)) (slice_index sizes b) fits k

pub first_count_kept : (sizes : List ℕ) (m : Memory) (b r words bits : ℕ) → map length m.blocks ≡ sizes → nat_lt b (length sizes) ≡ true → words < word_count (first_count m b r)
    → first_count (with_blocks m (put_bytes m.blocks b (8 * words) (low_bytes (drawn_count (first_count m b r) (8 * words)) bits))) b r ≡ first_count m b r
first_count_kept sizes m b r words bits same there more =
    let size = first_count m b r in
    let count = drawn_count size (8 * words) in
    let kept : map length (put_bytes m.blocks b (8 * words) (low_bytes count bits)) ≡ sizes = sizes_put sizes m.blocks b (8 * words) count bits [] same (word_within sizes m b r words same there more) (few_bytes size (8 * words)) in
    ap (λ n. min (register m r) n) (sym (size_at sizes (put_bytes m.blocks b (8 * words) (low_bytes count bits)) b kept) ∙ size_at sizes m.blocks b same)

-- ---- bytes at an offset that may be past the end

taken_size : (count offset : ℕ) (block : List ℕ) → length (taken_at count offset block) ≡ count
taken_size count offset block =
    let long = length-append (drop offset block) (zeros count) in
    length-take-le count (drop offset block ++ zeros count) (omega (arith, long, length-replicate {A = ℕ} count 0))

pub taken_room : (sizes : List ℕ) (blocks : List (List ℕ)) (into to offset count : ℕ) (block d : List ℕ) → map length blocks ≡ sizes → is_within sizes into to count ≡ true → to + length (taken_at count offset block) ≤ length (get_or blocks into d)
taken_room sizes blocks into to offset count block d same there = omega (arith, taken_size count offset block, block_room sizes blocks into to count d same there)

pub sizes_taken : (sizes : List ℕ) (blocks : List (List ℕ)) (into to offset count : ℕ) (block d : List ℕ) → map length blocks ≡ sizes → is_within sizes into to count ≡ true
    → map length (slice_set blocks into (put_at to (taken_at count offset block) (get_or blocks into d))) ≡ sizes
sizes_taken sizes blocks into to offset count block d same there =
    let new = taken_at count offset block in
    map-set_same length blocks into (put_at to new (get_or blocks into d)) d (put_size to new (get_or blocks into d) (taken_room sizes blocks into to offset count block d same there)) ∙ same

pub within_size : (offset : ℕ) (new old : List ℕ) → length (put_within offset new old) ≡ length old
within_size offset new old =
    let front = length-take offset old in
    let rest = length-append new (drop (offset + length new) old) in
    let all = length-append (take offset old) (new ++ drop (offset + length new) old) in
    length-take-le (length old) (put_at offset new old) (omega (arith, front, rest, all, length-drop (offset + length new) old))

pub sizes_within : (sizes : List ℕ) (blocks : List (List ℕ)) (b offset : ℕ) (new d : List ℕ) → map length blocks ≡ sizes
    → map length (slice_set blocks b (put_within offset new (get_or blocks b d))) ≡ sizes
sizes_within sizes blocks b offset new d same = map-set_same length blocks b (put_within offset new (get_or blocks b d)) d (within_size offset new (get_or blocks b d)) ∙ same
