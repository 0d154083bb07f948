-- The sizes of variables and structure values, which a write within them keeps.
use Rattle.std.proofs.Common.{◌≡◌, ◌≤◌, ◌+◌, ℕ, Bool, true, ◌&&◌, nat_le, nat_lt, List, [], ◌∷◌, ◌++◌, length, take, drop, get_or, slice_set, slice_index, refl, sym, ap, ◌∙◌, arith, length-append, length-drop}
use Rattle.std.proofs.Math.Seq.{map-set_same}
use Rattle.std.proofs.Math.ListN.{get_or-map}
use Rattle.std.proofs.lemmas.Bool.{false≢true}
use Rattle.std.proofs.lemmas.List.{length-replicate, length-take-le}
use Rattle.c_types.specs.declared.integers.IntegerType.{IntegerType}
use Rattle.c_types.specs.declared.integers.IntegerType.TheVariants as types
use Rattle.c_types.specs.Integers.{bytes}
use Rattle.core_tree.specs.Typed.{is_within}
use Rattle.c_values.specs.Variables.{Variables, low_bytes, put_at, zeros, block_of, first_variables}
use Rattle.c_tasks.specs.Items.{top_bytes, rest_bytes, second_bytes}
use Rattle.c_tasks.specs.Fits.{top_size, rest_sizes, second_size, has_top, sizes_of}
use Rattle.c_meaning.proofs.Holding.{left_of, right_of}
use Rattle.c_meaning.proofs.Holding.{from_le}

-- ---- variables

pub same_sizes : (vs : Variables) (v : ℕ) (block old : List ℕ) → get_or vs v old ≡ old → length block ≡ length old → sizes_of (slice_set vs v block) ≡ sizes_of vs
same_sizes vs v block old e h =
    let f : List ℕ → ℕ = λ block. length block in
    map-set_same f vs v block old (h ∙ ap f (sym e))

pub first_sizes : (sizes : List ℕ) → sizes_of (first_variables sizes) ≡ sizes
first_sizes [] = refl
first_sizes (n ∷ sizes) = λ i. length-replicate {A = ℕ} n 0 i ∷ first_sizes sizes i

pub block_size : (vs : Variables) (sizes : List ℕ) (v : ℕ) → sizes_of vs ≡ sizes → length (block_of vs v) ≡ slice_index sizes v
block_size vs sizes v sized =
    let f : List ℕ → ℕ = λ block. length block in
    sym (get_or-map f vs v []) ∙ ap (λ (zs : List ℕ). slice_index zs v) sized

-- ---- bytes

pub zeros_size : (n : ℕ) → length (zeros n) ≡ n
zeros_size n = length-replicate {A = ℕ} n 0

pub number_bytes : (t : IntegerType) (x : ℕ) → length (low_bytes (bytes t) x) ≡ bytes t
number_bytes types.Bool x = refl
number_bytes _ x = refl

pub few_bytes : (t : IntegerType) → bytes t ≤ 8
few_bytes types.Bool = omega arith
few_bytes _ = omega arith

pub section_size : (offset size : ℕ) (block : List ℕ) → offset + size ≤ length block → length (take size (drop offset block)) ≡ size
section_size offset size block h = length-take-le size (drop offset block) (omega (arith, length-drop offset block))

pub put_size : (at : ℕ) (new old : List ℕ) → at + length new ≤ length old → length (put_at at new old) ≡ length old
put_size at new old h =
    let behind = drop (at + length new) old in
    let front : length (take at old) ≡ at = length-take-le at old (omega arith) in
    omega (arith, front, length-append (take at old) (new ++ behind), length-append new behind, length-drop (at + length new) old)

-- ---- structure values

pub resized : (P : ℕ → Bool) (z y : ℕ) → y ≡ z → P z ≡ true → P y ≡ true
resized P z y e h = ap P e ∙ h

pub top_of_sizes : (bs : List (List ℕ)) → top_size (sizes_of bs) ≡ length (top_bytes bs)
top_of_sizes [] = refl
top_of_sizes (b ∷ bs) = refl

pub rest_of_sizes : (bs : List (List ℕ)) → rest_sizes (sizes_of bs) ≡ sizes_of (rest_bytes bs)
rest_of_sizes [] = refl
rest_of_sizes (b ∷ bs) = refl

pub second_of_sizes : (bs : List (List ℕ)) → second_size (sizes_of bs) ≡ length (second_bytes bs)
second_of_sizes bs = ap top_size (rest_of_sizes bs) ∙ top_of_sizes (rest_bytes bs)

-- the one on top
pub whole : (bs : List (List ℕ)) → has_top (sizes_of bs) ≡ true → top_bytes bs ∷ rest_bytes bs ≡ bs
whole [] h = absurd (false≢true h)
whole (b ∷ bs) h = refl

pub same_top : (bs : List (List ℕ)) (block : List ℕ) → has_top (sizes_of bs) ≡ true → length block ≡ length (top_bytes bs) → sizes_of (block ∷ rest_bytes bs) ≡ sizes_of bs
same_top [] block h e = absurd (false≢true h)
same_top (b ∷ bs) block h e = λ i. e i ∷ sizes_of bs

pub copied_size : (vs : Variables) (sizes : List ℕ) (v offset size : ℕ) → sizes_of vs ≡ sizes → is_within sizes v offset size ≡ true → length (take size (drop offset (block_of vs v))) ≡ size
copied_size vs sizes v offset size sized h =
    let within : offset + size ≤ slice_index sizes v = from_le (offset + size) (slice_index sizes v) (right_of (nat_lt v (length sizes)) (nat_le (offset + size) (slice_index sizes v)) h) in
    section_size offset size (block_of vs v) (omega (arith, within, block_size vs sizes v sized))

pub string_size : (size : ℕ) (text : List ℕ) → nat_le (length text) size ≡ true → length (put_at 0 text (zeros size)) ≡ size
string_size size text h =
    let within : length text ≤ size = from_le (length text) size h in
    put_size 0 text (zeros size) (omega (arith, within, zeros_size size)) ∙ zeros_size size

pub cut_size : (offset size : ℕ) (bs : List (List ℕ)) → nat_le (offset + size) (top_size (sizes_of bs)) ≡ true → sizes_of (take size (drop offset (top_bytes bs)) ∷ rest_bytes bs) ≡ size ∷ rest_sizes (sizes_of bs)
cut_size offset size bs h =
    let within : offset + size ≤ top_size (sizes_of bs) = from_le (offset + size) (top_size (sizes_of bs)) h in
    let e = section_size offset size (top_bytes bs) (omega (arith, within, top_of_sizes bs)) in
    λ i. e i ∷ sym (rest_of_sizes bs) i

pub number_within : (offset : ℕ) (t : IntegerType) (bs : List (List ℕ)) → (has_top (sizes_of bs) && nat_le (offset + bytes t) (top_size (sizes_of bs))) ≡ true → offset + bytes t ≤ length (top_bytes bs)
number_within offset t bs h =
    let within : offset + bytes t ≤ top_size (sizes_of bs) = from_le (offset + bytes t) (top_size (sizes_of bs)) (right_of (has_top (sizes_of bs)) (nat_le (offset + bytes t) (top_size (sizes_of bs))) h) in
    omega (arith, within, top_of_sizes bs)

pub number_size : (offset : ℕ) (t : IntegerType) (x : ℕ) (bs : List (List ℕ)) → (has_top (sizes_of bs) && nat_le (offset + bytes t) (top_size (sizes_of bs))) ≡ true →
    sizes_of (put_at offset (low_bytes (bytes t) x) (top_bytes bs) ∷ rest_bytes bs) ≡ sizes_of bs
number_size offset t x bs h =
    same_top bs (put_at offset (low_bytes (bytes t) x) (top_bytes bs)) (left_of (has_top (sizes_of bs)) (nat_le (offset + bytes t) (top_size (sizes_of bs))) h)
    (put_size offset (low_bytes (bytes t) x) (top_bytes bs) (omega (arith, number_bytes t x, number_within offset t bs h)))

pub joined_within : (offset : ℕ) (bs : List (List ℕ)) → (has_top (rest_sizes (sizes_of bs)) && nat_le (offset + top_size (sizes_of bs)) (second_size (sizes_of bs))) ≡ true →
    offset + length (top_bytes bs) ≤ length (second_bytes bs)
joined_within offset bs h =
    let size = top_size (sizes_of bs) in
    let within : offset + size ≤ second_size (sizes_of bs) = from_le (offset + size) (second_size (sizes_of bs)) (right_of (has_top (rest_sizes (sizes_of bs))) (nat_le (offset + size) (second_size (sizes_of bs))) h) in
    omega (arith, within, top_of_sizes bs, second_of_sizes bs)

pub joined_size : (offset : ℕ) (bs : List (List ℕ)) → (has_top (rest_sizes (sizes_of bs)) && nat_le (offset + top_size (sizes_of bs)) (second_size (sizes_of bs))) ≡ true →
    sizes_of (put_at offset (top_bytes bs) (second_bytes bs) ∷ rest_bytes (rest_bytes bs)) ≡ rest_sizes (sizes_of bs)
joined_size offset bs h =
    let there : has_top (rest_sizes (sizes_of bs)) ≡ true = left_of (has_top (rest_sizes (sizes_of bs))) (nat_le (offset + top_size (sizes_of bs)) (second_size (sizes_of bs))) h in
    same_top (rest_bytes bs) (put_at offset (top_bytes bs) (second_bytes bs)) (ap has_top (sym (rest_of_sizes bs)) ∙ there)
    (put_size offset (top_bytes bs) (second_bytes bs) (joined_within offset bs h)) ∙ sym (rest_of_sizes bs)
