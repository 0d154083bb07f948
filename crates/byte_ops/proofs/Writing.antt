-- Bytes written at a place, and at the offset.
use Rattle.std.proofs.Common.{◌≡◌, ℕ, zero, suc, ◌+◌, ◌-◌, ◌*◌, ◌<◌, ◌≤◌, Bool, true, false, List, [], ◌∷◌, ◌++◌, length, take, drop, get_or, map, inl, inr, refl, sym, ap, subst, ◌∙◌, arith, nat_lt}
use Rattle.std.specs.Prelude.{◌==◌, ◌&&◌, ◌||◌, ◌⊎◌, nat_le, slice_index, min, if◌then◌else◌}
use Rattle.std.specs.Int.{w64, byte_worth, sum_through, from_le_bytes, to_le_bytes}
use Rattle.std.proofs.lemmas.Nat.{le_bytes_8}
use Rattle.std.proofs.lemmas.Bool.{cases_lt}
use Rattle.std.proofs.lemmas.Bool.Decides.{nat_tests}
use Rattle.std.proofs.lemmas.List.{length-map, length-append, length-replicate, length-take-le, length-drop, take-map, drop-map, drop-drop, drop_all, drop_more, take_more, take_all, take-append-drop, map-append}
use Rattle.std.proofs.lemmas.List.Elements.{All-append, All-take, All-drop}
use Rattle.std.proofs.Math.Nat.{min-eq_left, min-eq_right}
use Rattle.std.proofs.Math.Seq.{take-append_seam}
use Rattle.c_values.specs.Variables.{low_bytes, zeros}
use Rattle.word_dag.specs.declared.nodes.Id.{Id}
use Rattle.word_dag.specs.declared.nodes.Node.{Node}
use Rattle.word_dag.specs.Meaning.{width, value, holds}
use Rattle.word_dag.specs.Fitting.{is_ordered}
use Rattle.word_dag.specs.Growth.{Extends}
use Rattle.word_dag.proofs.Truth.{holds_bit}
use Rattle.word_dag.proofs.Grown.{extends_itself, extends_more, map_stays}
use Rattle.value_nodes.specs.Values.{IsWord, IsValue, AreBytes}
use Rattle.value_nodes.specs.Bytes.{AreBytesOf, sum_of_bytes}
use Rattle.value_nodes.proofs.Made.{word_below}
use Rattle.byte_ops.specs.declared.places.PlaceTest.{PlaceTest}
use Rattle.byte_ops.specs.Bytes.{written_at, updated_from, updated}
use Rattle.byte_ops.specs.declared.places.TestedOffset.{TestedOffset}
use Rattle.byte_ops.specs.Tests.{IsPlaceTest, is_tested, IsTestedOffset}
use Rattle.byte_ops.proofs.Tested.{same_numbers, second_true, not_below, below_is, tested_push, tested_below}
use Rattle.byte_ops.proofs.Numbers.{sum_past, bytes_within, bytes_stay}

-- ---- a word's bytes

AreSmall : List ℕ → Type 0
AreSmall xs = (i : ℕ) → slice_index xs i < 256

through : (xs : List ℕ) (k : ℕ) → sum_of_bytes xs (suc k) ≡ sum_through (λ i. byte_worth i (slice_index xs i)) k
through xs zero = let plain : 0 + slice_index xs 0 ≡ slice_index xs 0 = omega arith in plain
through xs (suc k) = ap (λ n. n + byte_worth (suc k) (slice_index xs (suc k))) (through xs k)

padded_index : (xs : List ℕ) (k i : ℕ) → slice_index (xs ++ zeros k) i ≡ slice_index xs i
padded_index [] zero i = refl
padded_index [] (suc k) zero = refl
padded_index [] (suc k) (suc i) = padded_index [] k i
padded_index (x ∷ xs) k zero = refl
padded_index (x ∷ xs) k (suc i) = padded_index xs k i

padded_sum : (xs : List ℕ) (k n : ℕ) → sum_of_bytes (xs ++ zeros k) n ≡ sum_of_bytes xs n
padded_sum xs k zero = refl
padded_sum xs k (suc n) = let rest = padded_sum xs k n in let here = padded_index xs k n in λ i. rest i + byte_worth n (here i)

-- the lowest bytes of the number that bytes are
pub bytes_back : (xs : List ℕ) (n : ℕ) → length xs ≡ n → n ≤ 8 → ((i : ℕ) → slice_index xs i < 256) → low_bytes n (sum_of_bytes xs n) ≡ xs
bytes_back xs n size few small =
    let rest = zeros (8 - n) in
    let whole = xs ++ rest in
    let long : length whole ≡ 8 = omega (arith, length-append xs rest, length-replicate {A = ℕ} (8 - n) 0, size, few) in
    let number : sum_of_bytes xs n ≡ from_le_bytes w64 whole =
    ap (sum_of_bytes xs) (sym size) ∙ sym (sum_past xs 8 (omega (arith, size, few))) ∙ sym (padded_sum xs (8 - n) 8) ∙ through whole 7 in
    ap (take n) (le_bytes_8 whole (sum_of_bytes xs n) long (λ i. subst (λ m. m < 256) (sym (padded_index xs (8 - n) i)) (small i)) number)
    ∙ ap (λ m. take m whole) (sym size) ∙ take-append_seam xs rest

pub bytes_small : (v : ℕ → ℕ) (d : List Node) (ids : List Id) → is_ordered d ≡ true → AreBytes d ids → (i : ℕ) → slice_index (map (value v d) ids) i < 256
bytes_small v d [] ordered all i = let none : 0 < 256 = omega arith in none
bytes_small v d (x ∷ ids) ordered all zero = word_below v d x 8 ordered (all 0 x (omega arith))
bytes_small v d (x ∷ ids) ordered all (suc i) = bytes_small v d ids ordered (λ k j l. all (suc k) j (omega (arith, l))) i

module _ (d e f g : List Node) (test word other both : Id) (bytes others ids : List Id) (n : ℕ) (ordered : is_ordered d ≡ true) (x : Extends d e) (y : Extends e f) (truth : IsWord d test 1) (first : AreBytes d bytes) (second : AreBytes d others)
    (size : length bytes ≡ n) (same : length others ≡ n) (few : n ≤ 8)
    (made : IsValue e word (8 * length bytes) (λ v. sum_of_bytes (map (value v d) bytes) (length bytes)))
    (made_other : IsValue f other (8 * length others) (λ v. sum_of_bytes (map (value v e) others) (length others))) where
  either_value : (b : Bool) (p q : ℕ) (xs ys : List ℕ) → low_bytes n p ≡ xs → low_bytes n q ≡ ys → low_bytes n (if b then p else q) ≡ (if b then xs else ys)
  either_value true p q xs ys h l = h
  either_value false p q xs ys h l = l

  pub chosen_values : (h : List Node) → Extends f g → IsValue g both (width f word) (λ v. if holds (value v f test) then value v f word else value v f other) → AreBytesOf h ids (λ v. low_bytes n (value v g both))
      → (v : ℕ → ℕ) → map (value v h) ids ≡ (if holds (value v d test) then map (value v d) bytes else map (value v d) others)
  chosen_values h z chosen stored v =
      let xs = map (value v d) bytes in
      let ys = map (value v d) others in
      let one : value v f word ≡ sum_of_bytes xs n = y.value_stays v word made.there ∙ made.value_is v ∙ ap (sum_of_bytes xs) size in
      let two : value v f other ≡ sum_of_bytes ys n = made_other.value_is v ∙ (λ j. sum_of_bytes (map_stays v d e others x (bytes_within d others second) j) (same j)) in
      let test_is : value v f test ≡ value v d test = (extends_more d e f x y).value_stays v test truth.there in
      stored.values_are v ∙ ap (low_bytes n) (chosen.value_is v) ∙ (λ j. low_bytes n (if holds (test_is j) then one j else two j))
      ∙ either_value (holds (value v d test)) (sum_of_bytes xs n) (sum_of_bytes ys n) xs ys
      (bytes_back xs n (length-map bytes (value v d) ∙ size) few (bytes_small v d bytes ordered first))
      (bytes_back ys n (length-map others (value v d) ∙ same) few (bytes_small v d others ordered second))

pub chosen_long : (d e : List Node) (ids bytes : List Id) (word : (ℕ → ℕ) → ℕ) → length bytes ≤ 8 → AreBytesOf e ids (λ v. low_bytes (length bytes) (word v)) → length ids ≡ length bytes
chosen_long d e ids bytes word few stored =
    let v : ℕ → ℕ = λ x. 0 in
    sym (length-map ids (value v e)) ∙ ap length (stored.values_are v) ∙ length-take-le (length bytes) (to_le_bytes w64 (word v)) few

-- ---- bytes in the place of others

-- a byte in front of the offset, one of the new ones, and one behind them
byte_before : (offset : ℕ) (bytes : List ℕ) (place b : ℕ) → place < offset → written_at offset bytes place b ≡ b
byte_before offset bytes place b h = (λ i. if (here i && nat_lt place (offset + length bytes)) then slice_index bytes (place - offset) else b)
  where
    here : nat_le offset place ≡ false
    here = grind (arith, nat_tests)

byte_there : (offset : ℕ) (bytes : List ℕ) (place b k : ℕ) → place ≡ offset + k → k < length bytes → written_at offset bytes place b ≡ slice_index bytes k
byte_there offset bytes place b k is less = (λ i. if (from_there i && below i) then slice_index bytes (place - offset) else b) ∙ ap (slice_index bytes) (let m : place - offset ≡ k = omega (arith, is) in m)
  where
    from_there : nat_le offset place ≡ true
    from_there = grind (arith, nat_tests)

    below : nat_lt place (offset + length bytes) ≡ true
    below = below_is place (offset + length bytes) (omega (arith, is, less))

byte_behind : (offset : ℕ) (bytes : List ℕ) (place b : ℕ) → offset + length bytes ≤ place → written_at offset bytes place b ≡ b
byte_behind offset bytes place b h = (λ i. if (nat_le offset place && not_below place (offset + length bytes) h i) then slice_index bytes (place - offset) else b) ∙ neither (nat_le offset place) (slice_index bytes (place - offset)) b
  where
    neither : (a : Bool) (x y : ℕ) → (if a && false then x else y) ≡ y
    neither true x y = refl
    neither false x y = refl

-- a block that begins behind all of them
behind_all : (place offset : ℕ) (bytes block : List ℕ) → offset + length bytes ≤ place → updated_from place offset bytes block ≡ block
behind_all place offset bytes [] h = refl
behind_all place offset bytes (b ∷ block) h =
    let one = byte_behind offset bytes place b h in
    let rest = behind_all (suc place) offset bytes block (omega (arith, h)) in
    λ i. one i ∷ rest i

-- a block that ends in front of the offset
before_all : (place offset : ℕ) (bytes block : List ℕ) → place + length block ≤ offset → updated_from place offset bytes block ≡ block
before_all place offset bytes [] h = refl
before_all place offset bytes (b ∷ block) h =
    let one = byte_before offset bytes place b (omega (arith, h)) in
    let rest = before_all (suc place) offset bytes block (omega (arith, h)) in
    λ i. one i ∷ rest i

-- the part in front of the offset stays
front_stays : (place offset at : ℕ) (bytes block : List ℕ) → offset ≡ place + at → at ≤ length block → updated_from place offset bytes block ≡ take at block ++ updated_from offset offset bytes (drop at block)
front_stays place offset zero bytes block is h = (let same : place ≡ offset = omega (arith, is) in ap (λ n. updated_from n offset bytes block) same)
front_stays place offset (suc at) bytes [] is h = absurd (omega (arith, h))
front_stays place offset (suc at) bytes (b ∷ block) is h =
    let one = byte_before offset bytes place b (omega (arith, is)) in
    let rest = front_stays (suc place) offset at bytes block (omega (arith, is)) (omega (arith, h)) in
    λ i. one i ∷ rest i

drop_none : (n : ℕ) (none : List ℕ) → none ≡ [] → drop n none ≡ []
drop_none n none is = drop_all n none (omega (arith, ap length is))

-- from the k-th new byte on
from_byte : (offset k : ℕ) (bytes block : List ℕ) → k ≤ length bytes → updated_from (offset + k) offset bytes block ≡ take (length block) (drop k bytes) ++ drop (length bytes - k) block
from_byte offset k bytes [] h = sym (drop_none (length bytes - k) [] refl)
from_byte offset k bytes (b ∷ block) h =
    elim (cases_lt k (length bytes)) [
      | inl less ↦ (let one = byte_there offset bytes (offset + k) b k refl less in
          let next : suc (offset + k) ≡ offset + (k + 1) = omega arith in
          let left : length bytes - k ≡ suc (length bytes - (k + 1)) = omega (arith, less) in
          let rest = ap (λ n. updated_from n offset bytes block) next ∙ from_byte offset (k + 1) bytes block (omega (arith, less)) in
          (λ i. one i ∷ rest i)
          ∙ sym (λ i. take (suc (length block)) (drop_more bytes k 0 less i) ++ drop (left i) (b ∷ block)))
      | inr all ↦ (behind_all (offset + k) offset bytes (b ∷ block) (omega (arith, all))
          ∙ sym (λ i. take (suc (length block)) (drop_all k bytes all i) ++ drop ((let none : length bytes - k ≡ 0 = omega (arith, all) in none) i) (b ∷ block)))
    ]

-- as many of the bytes as fit
as_fit : (bytes rest : List ℕ) (count : ℕ) → count ≤ length bytes → count ≤ length rest → (length bytes ≤ count) ⊎ (length rest ≤ count) → take (length rest) bytes ++ drop (length bytes) rest ≡ take count bytes ++ drop count rest
as_fit bytes rest count few less (inl all) =
    let same : length bytes ≡ count = omega (arith, few, all) in
    λ i. (take_all (length rest) bytes (omega (arith, all, less)) ∙ sym (take_all count bytes all)) i ++ drop (same i) rest
as_fit bytes rest count few less (inr all) =
    let same : length rest ≡ count = omega (arith, less, all) in
    λ i. take (same i) bytes ++ (drop_all (length bytes) rest (omega (arith, few, same)) ∙ sym (drop_all count rest all)) i

whole_drop : (xs : List ℕ) → drop 0 xs ≡ xs
whole_drop [] = refl
whole_drop (x ∷ xs) = refl

pub updated_parts : (at count : ℕ) (bytes block : List ℕ) → at ≤ length block → count ≤ length bytes → at + count ≤ length block → (length bytes ≤ count) ⊎ (length block ≤ at + count)
    → updated at bytes block ≡ take at block ++ (take count bytes ++ drop (at + count) block)
updated_parts at count bytes block there few within ends =
    let rest = drop at block in
    let long : length rest ≡ length block - at = length-drop at block in
    let plain : at + 0 ≡ at = omega arith in
    front_stays 0 at at bytes block (omega arith) there
    ∙ ap (λ ys. take at block ++ ys)
    (sym (ap (λ n. updated_from n at bytes rest) plain) ∙ from_byte at 0 bytes rest (omega arith)
    ∙ (λ i. take (length rest) (whole_drop bytes i) ++ drop ((let all : length bytes - 0 ≡ length bytes = omega arith in all) i) rest)
    ∙ as_fit bytes rest count few (omega (arith, long, within)) (by_ends ends (omega (arith, long)))
    ∙ ap (λ ys. take count bytes ++ ys) (drop-drop count at block))
  where
    by_ends : (length bytes ≤ count) ⊎ (length block ≤ at + count) → length (drop at block) ≡ length block - at → (length bytes ≤ count) ⊎ (length (drop at block) ≤ count)
    by_ends (inl all) long = inl all
    by_ends (inr all) long = inr (omega (arith, all, long))

-- ---- one place

parts_whole : (at count : ℕ) (xs : List ℕ) → take at xs ++ (take count (drop at xs) ++ drop (at + count) xs) ≡ xs
parts_whole at count xs =
    ap (λ ys. take at xs ++ (take count (drop at xs) ++ ys)) (sym (drop-drop count at xs)) ∙ ap (λ ys. take at xs ++ ys) (take-append-drop count (drop at xs)) ∙ take-append-drop at xs

-- the bytes of a block where some were put at a place, if the offset is that place
put_values : (b : Bool) (at count : ℕ) (bytes block new : List ℕ) → at ≤ length block → count ≤ length bytes → at + count ≤ length block → (length bytes ≤ count) ⊎ (length block ≤ at + count) → new ≡ (if b then take count bytes else take count (drop at block))
    → take at block ++ (new ++ drop (at + count) block) ≡ (if b then updated at bytes block else block)
put_values true at count bytes block new there few within ends is = ap (λ ys. take at block ++ (ys ++ drop (at + count) block)) is ∙ sym (updated_parts at count bytes block there few within ends)
put_values false at count bytes block new there few within ends is = ap (λ ys. take at block ++ (ys ++ drop (at + count) block)) is ∙ parts_whole at count block

pub min_ends : (a b count : ℕ) → count ≡ min a b → (a ≤ count) ⊎ (b ≤ count)
min_ends a b count is = elim (cases_lt a b) [ inl less ↦ inl (omega (arith, is, min-eq_left (fits less))) | inr more ↦ inr (omega (arith, is, min-eq_right more)) ]
  where
    fits : a < b → a ≤ b
    fits less = omega (arith, less)

pub ends_at : (a b size at count : ℕ) → size ≡ b → count ≡ min a (size - at) → (a ≤ count) ⊎ (b ≤ at + count)
ends_at a b size at count same is = behind (min_ends a (size - at) count is)
  where
    behind : (a ≤ count) ⊎ (size - at ≤ count) → (a ≤ count) ⊎ (b ≤ at + count)
    behind (inl h) = inl h
    behind (inr h) = inr (omega (arith, h, same))

map_parts : (f : Id → ℕ) (at count : ℕ) (block new stored : List Id) → length new ≡ count → stored ≡ take at block ++ (new ++ drop (at + length new) block) → map f stored ≡ take at (map f block) ++ (map f new ++ drop (at + count) (map f block))
map_parts f at count block new stored size is =
    ap (map f) is ∙ map-append f (take at block) (new ++ drop (at + length new) block)
    ∙ (λ i. sym (take-map f at block) i ++ map-append f new (drop (at + length new) block) i)
    ∙ ap (λ ys. take at (map f block) ++ (map f new ++ ys)) (ap (λ n. map f (drop (at + n) block)) size ∙ sym (drop-map f (at + count) block))

pub placed_values : (d e : List Node) (block bytes first second new stored : List Id) (offset : Id) (t : PlaceTest) (limit k count : ℕ) → Extends d e → AreBytes d block → IsPlaceTest d offset t → t.at < limit → limit ≤ length block
    → count ≤ length bytes → t.at + count ≤ length block → (length bytes ≤ count) ⊎ (length block ≤ t.at + count) → first ≡ take count bytes → second ≡ take k (drop t.at block) → k ≡ count
    → length new ≡ count → stored ≡ take t.at block ++ (new ++ drop (t.at + length new) block)
    → ((v : ℕ → ℕ) → map (value v e) new ≡ (if holds (value v d t.test) then map (value v d) first else map (value v d) second))
    → (v : ℕ → ℕ) → map (value v e) stored ≡ (if nat_lt t.at limit && (value v d offset == t.at) then updated t.at (map (value v d) bytes) (map (value v d) block) else map (value v d) block)
placed_values d e block bytes first second new stored offset t limit k count x all test less within few fits ends first_is second_is k_is size stored_is made v =
    let xs = map (value v d) block in
    let bs = map (value v d) bytes in
    let b = value v d offset == t.at in
    let truth : holds (value v d t.test) ≡ b = ap holds (test.value_is v) ∙ holds_bit b in
    let one : map (value v d) first ≡ take count bs = ap (map (value v d)) first_is ∙ sym (take-map (value v d) count bytes) in
    let two : map (value v d) second ≡ take count (drop t.at xs) =
    ap (map (value v d)) (second_is ∙ ap (λ n. take n (drop t.at block)) k_is) ∙ sym (take-map (value v d) count (drop t.at block)) ∙ ap (take count) (sym (drop-map (value v d) t.at block)) in
    let news : map (value v e) new ≡ (if b then take count bs else take count (drop t.at xs)) = made v ∙ (λ i. if truth i then one i else two i) in
    let wide = length-map block (value v d) in
    let narrow = length-map bytes (value v d) in
    map_parts (value v e) t.at count block new stored size stored_is
    ∙ ap (λ ys. take t.at ys ++ (map (value v e) new ++ drop (t.at + count) ys)) (map_stays v d e block x (bytes_within d block all))
    ∙ put_values b t.at count bs xs (map (value v e) new) (omega (arith, wide, less, within)) (omega (arith, narrow, few)) (omega (arith, wide, fits)) (ends_of ends narrow wide) news
    ∙ sym (λ i. if below_is t.at limit less i && b then updated t.at bs xs else xs)
  where
    ends_of : (length bytes ≤ count) ⊎ (length block ≤ t.at + count) → length (map (value v d) bytes) ≡ length bytes → length (map (value v d) block) ≡ length block → (length (map (value v d) bytes) ≤ count) ⊎ (length (map (value v d) block) ≤ t.at + count)
    ends_of (inl h) narrow wide = inl (omega (arith, h, narrow))
    ends_of (inr h) narrow wide = inr (omega (arith, h, wide))

pub placed_bytes : (d e : List Node) (block new stored : List Id) (at : ℕ) → Extends d e → AreBytes d block → AreBytes e new → stored ≡ take at block ++ (new ++ drop (at + length new) block) → AreBytes e stored
placed_bytes d e block new stored at x all made is =
    let before = bytes_stay d e block x all in
    subst (AreBytes e) (sym is)
    (All-append (λ i. IsWord e i 8) (take at block) (new ++ drop (at + length new) block) (All-take (λ i. IsWord e i 8) at block before)
    (All-append (λ i. IsWord e i 8) new (drop (at + length new) block) made (All-drop (λ i. IsWord e i 8) (at + length new) block before)))

pub placed_length : (block new stored : List Id) (at : ℕ) → at + length new ≤ length block → stored ≡ take at block ++ (new ++ drop (at + length new) block) → length stored ≡ length block
placed_length block new stored at fits is =
    ap length is
    ∙ (let sum : length (take at block ++ (new ++ drop (at + length new) block)) ≡ length block = omega (arith, fits, length-append (take at block) (new ++ drop (at + length new) block), length-append new (drop (at + length new) block), length-take-le at block (omega (arith, fits)), length-drop (at + length new) block) in sum)

-- no place at or behind the limit
pub unplaced_values : (d : List Node) (block bytes : List Id) (offset : Id) (t : PlaceTest) (limit : ℕ) → limit ≤ t.at
    → (v : ℕ → ℕ) → map (value v d) block ≡ (if nat_lt t.at limit && (value v d offset == t.at) then updated t.at (map (value v d) bytes) (map (value v d) block) else map (value v d) block)
unplaced_values d block bytes offset t limit past v = sym (λ i. if not_below t.at limit past i && (value v d offset == t.at) then updated t.at (map (value v d) bytes) (map (value v d) block) else map (value v d) block)

-- ---- among places

twice : (offset : ℕ) (bytes : List ℕ) (place b : ℕ) → written_at offset bytes place (written_at offset bytes place b) ≡ written_at offset bytes place b
twice offset bytes place b = by_test (nat_le offset place && nat_lt place (offset + length bytes)) (slice_index bytes (place - offset)) b
  where
    by_test : (t : Bool) (x y : ℕ) → (if t then x else (if t then x else y)) ≡ (if t then x else y)
    by_test true x y = refl
    by_test false x y = refl

updated_twice : (place offset : ℕ) (bytes block : List ℕ) → updated_from place offset bytes (updated_from place offset bytes block) ≡ updated_from place offset bytes block
updated_twice place offset bytes [] = refl
updated_twice place offset bytes (b ∷ block) = let one = twice offset bytes place b in let rest = updated_twice (suc place) offset bytes block in λ i. one i ∷ rest i

pick : (t a : Bool) (at p : ℕ) (bytes block : List ℕ) → (a ≡ true → p ≡ at)
    → (if a then updated at bytes (if t then updated p bytes block else block) else (if t then updated p bytes block else block)) ≡ (if t || a then updated p bytes block else block)
pick true true at p bytes block same = ap (λ n. updated n bytes (updated p bytes block)) (sym (same refl)) ∙ updated_twice 0 p bytes block
pick true false at p bytes block same = refl
pick false true at p bytes block same = ap (λ n. updated n bytes block) (sym (same refl))
pick false false at p bytes block same = refl

pub record Putting (d e : List Node) (block bytes current : List Id) (offset : Id) (tests : List PlaceTest) (k limit : ℕ) : Type 0 where
  pub extends : Extends d e
  pub words : AreBytes e current
  pub long : length current ≡ length block
  pub values_are : (v : ℕ → ℕ) → map (value v e) current ≡ (if is_tested limit (take k tests) (value v d offset) then updated (value v d offset) (map (value v d) bytes) (map (value v d) block) else map (value v d) block)

pub putting_none : (d : List Node) (block bytes current : List Id) (offset : Id) (tests : List PlaceTest) (limit : ℕ) → current ≡ block → AreBytes d block → Putting d d block bytes current offset tests 0 limit
putting_none d block bytes current offset tests limit same all = record {
  extends = extends_itself d;
  words = subst (AreBytes d) (sym same) all;
  long = ap length same;
  values_are = λ v. ap (map (value v d)) same;
}

pub putting_more : (d e f : List Node) (block bytes current next : List Id) (offset : Id) (tests : List PlaceTest) (k limit : ℕ) (t : PlaceTest) → IsWord d offset 32 → AreBytes d bytes → k < length tests → t ≡ get_or tests k t → Putting d e block bytes current offset tests k limit
    → Extends e f → AreBytes f next → length next ≡ length current
    → ((v : ℕ → ℕ) → map (value v f) next ≡ (if nat_lt t.at limit && (value v e offset == t.at) then updated t.at (map (value v e) bytes) (map (value v e) current) else map (value v e) current))
    → Putting d f block bytes next offset tests (k + 1) limit
putting_more d e f block bytes current next offset tests k limit t place all l at old x words long made = record {
  extends = extends_more d e f old.extends x;
  words = words;
  long = long ∙ old.long;
  values_are = λ v.
      let p = value v d offset in
      let bs = map (value v d) bytes in
      let xs = map (value v d) block in
      let a = nat_lt t.at limit && (p == t.at) in
      let moved = old.extends.value_stays v offset place.there in
      let news = map_stays v d e bytes old.extends (bytes_within d bytes all) in
      let taken : take (k + 1) tests ≡ take k tests ++ t ∷ [] = take_more tests k t l ∙ ap (λ s. take k tests ++ s ∷ []) (sym at) in
      let together : is_tested limit (take (k + 1) tests) p ≡ (is_tested limit (take k tests) p || a) = ap (λ ts. is_tested limit ts p) taken ∙ tested_push limit (take k tests) t p in
      made v
      ∙ (λ j. if nat_lt t.at limit && (moved j == t.at) then updated t.at (news j) (old.values_are v j) else old.values_are v j)
      ∙ pick (is_tested limit (take k tests) p) a t.at p bs xs (λ h. same_numbers p t.at (second_true (nat_lt t.at limit) (p == t.at) h))
      ∙ sym (λ j. if together j then updated p bs xs else xs);
}

pub putting_whole : (d e : List Node) (block bytes current : List Id) (offset : Id) (tests : List PlaceTest) (k limit : ℕ) → length tests ≤ k → Putting d e block bytes current offset tests k limit
    → (v : ℕ → ℕ) → map (value v e) current ≡ (if is_tested limit tests (value v d offset) then updated (value v d offset) (map (value v d) bytes) (map (value v d) block) else map (value v d) block)
putting_whole d e block bytes current offset tests k limit end c v =
    c.values_are v ∙ (λ j. if is_tested limit (take_all k tests end j) (value v d offset) then updated (value v d offset) (map (value v d) bytes) (map (value v d) block) else map (value v d) block)

-- ---- the whole

-- an offset that is no tested place lies past the block
pub updated_whole : (b : Bool) (offset : ℕ) (bytes block : List ℕ) → (offset < length block → b ≡ true) → (if b then updated offset bytes block else block) ≡ updated offset bytes block
updated_whole true offset bytes block all = refl
updated_whole false offset bytes block all = elim (cases_lt offset (length block)) [ inl before ↦ absurd (clash (all before)) | inr after ↦ sym (before_all 0 offset bytes block (omega (arith, after))) ]
  where
    clash : false ≡ true → ⊥
    clash h = cc

pub updated_tested : (b : Bool) (offset : ℕ) (bytes block : List ℕ) → b ≡ true → (if b then updated offset bytes block else block) ≡ updated offset bytes block
updated_tested b offset bytes block h = λ i. if h i then updated offset bytes block else block

pub update_made : (d e f : List Node) (block bytes current new : List Id) (offset : Id) (o : TestedOffset) (tests : List PlaceTest) (limit : ℕ) → Extends d e → AreBytes d block → AreBytes d bytes → IsWord d offset 32 → IsTestedOffset e o → o.offset ≡ offset → o.size ≡ length block
    → tests ≡ o.tests.items → limit ≡ length block → current ≡ block
    → ((v : ℕ → ℕ) → map (value v f) new ≡ (if is_tested limit tests (value v e offset) then updated (value v e offset) (map (value v e) bytes) (map (value v e) current) else map (value v e) current))
    → (v : ℕ → ℕ) → map (value v f) new ≡ updated (value v d offset) (map (value v d) bytes) (map (value v d) block)
update_made d e f block bytes current new offset o tests limit x words bytes_there word all offset_is size_is tests_is limit_is current_is made v =
    let p = value v d offset in
    let xs = map (value v d) block in
    let bs = map (value v d) bytes in
    let moved = x.value_stays v offset word.there in
    let news = map_stays v d e bytes x (bytes_within d bytes bytes_there) in
    let olds : map (value v e) current ≡ xs = ap (map (value v e)) current_is ∙ map_stays v d e block x (bytes_within d block words) in
    let at_e : value v e o.offset ≡ p = ap (value v e) offset_is ∙ moved in
    let tested : p < length xs → is_tested limit tests p ≡ true =
    λ less. (λ i. is_tested ((limit_is ∙ sym size_is) i) (tests_is i) (sym at_e i)) ∙ all.whole v (omega (arith, at_e, less, size_is, length-map block (value v d))) in
    made v
    ∙ (λ i. if is_tested limit tests (moved i) then updated (moved i) (news i) (olds i) else olds i)
    ∙ updated_whole (is_tested limit tests p) p bs xs tested

pub update_within_made : (d f : List Node) (block bytes current new : List Id) (o : TestedOffset) (tests : List PlaceTest) (limit : ℕ) → IsTestedOffset d o → tests ≡ o.tests.items → limit ≡ length block + 1 - length bytes → length block < o.size + length bytes → current ≡ block
    → ((v : ℕ → ℕ) → map (value v f) new ≡ (if is_tested limit tests (value v d o.offset) then updated (value v d o.offset) (map (value v d) bytes) (map (value v d) current) else map (value v d) current))
    → (v : ℕ → ℕ) → value v d o.offset + length bytes ≤ length block → map (value v f) new ≡ updated (value v d o.offset) (map (value v d) bytes) (map (value v d) block)
update_within_made d f block bytes current new o tests limit all tests_is limit_is large current_is made v within =
    let p = value v d o.offset in
    let xs = map (value v d) block in
    let bs = map (value v d) bytes in
    let olds : map (value v d) current ≡ xs = ap (map (value v d)) current_is in
    let tested : is_tested o.size tests p ≡ true = ap (λ ts. is_tested o.size ts p) tests_is ∙ all.whole v (omega (arith, large, within)) in
    let here : is_tested limit tests p ≡ true = tested_below o.size limit tests p tested (omega (arith, limit_is, within)) in
    made v
    ∙ (λ i. if is_tested limit tests p then updated p bs (olds i) else olds i)
    ∙ updated_tested (is_tested limit tests p) p bs xs here
