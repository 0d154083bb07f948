-- Draws of several words: what an event tells of them, and the block with them.
use Rattle.std.proofs.Common.{◌≡◌, ℕ, zero, suc, ◌+◌, ◌-◌, ◌*◌, ◌/◌, ◌<◌, ◌≤◌, List, [], ◌∷◌, ◌++◌, length, take, drop, inl, inr, refl, sym, ap, ◌∙◌, arith, append_assoc}
use Rattle.std.specs.Prelude.{min, slice_index, slice_set, replicate}
use Rattle.std.specs.Int.{w64, to_le_bytes}
use Rattle.std.proofs.Math.Seq.{take-append-add, drop-append-add}
use Rattle.std.proofs.lemmas.Bool.{cases_lt}
use Rattle.std.proofs.lemmas.List.{take-append-le, take-take, take-append-drop, drop-drop, length-take-le, length-drop, length-append, length-replicate}
use Rattle.words.specs.BitVector.{word}
use Rattle.words.specs.Operators.{low_bits}
use Rattle.words.proofs.Widths.{low_bits-low_bits}
use Rattle.actions.specs.declared.action.Action.TheVariants as actions
use Rattle.actions.specs.declared.action.Answer.TheVariants as answers
use Rattle.c_types.specs.declared.integers.IntegerType.TheVariants as types
use Rattle.c_values.specs.Variables.{Variables, low_bytes, put_at, put_bytes, block_of, word_count, drawn_count}
use Rattle.word_dag.specs.declared.nodes.Node.{Node}
use Rattle.word_dag.specs.Meaning.{value}
use Rattle.cell_trees.specs.Trees.{Arena, looked}
use Rattle.goto_prog.specs.CodeThread.{Listing}
use Rattle.goto_prog.specs.Meaning.{Memory, with_blocks, word_of}
use Rattle.guarded_ssa.specs.declared.slots.Slot.{Slot}
use Rattle.event_forms.specs.Runs.{bytes_of_words}
use Rattle.event_forms.specs.Arrivals.{asked}
use Rattle.event_forms.specs.Forms.{draws_seen}
use Rattle.guarded_ssa.specs.inner.Answers.{words_by, answer_at}
use Rattle.guarded_ssa.specs.inner.Places.{drawn, drawn_into}
use Rattle.guarded_ssa.specs.inner.Registers.{bytes_from}
use Rattle.guarded_ssa.specs.inner.Held.{total, held}
use Rattle.guarded_ssa.specs.inner.Results.{first_bytes_drawn, filled_first}
use Rattle.guarded_ssa.proofs.CellWords.{all_words}
use Rattle.guarded_ssa.proofs.Blocks.{block_length}
use Rattle.event_forms.proofs.WordBytes.{low_bytes_of_low, low_count, words_enough}
use Rattle.guarded_ssa.proofs.VariableWords.{words_size}

-- ---- what is told

draws_from : (v : ℕ → ℕ) (line f k n size most offset x left : ℕ) → k ≤ n → size ≤ most → left ≡ most - offset → draws_seen line f k size offset (words_by v n x left) ≡ drawn v line f k size offset x
draws_from v line f zero n size most offset x left few small is = refl
draws_from v line f (suc k) zero size most offset x left few small is = absurd (omega (arith, few))
draws_from v line f (suc k) (suc n) size most offset x left few small is =
    let bits = 8 * drawn_count size offset in
    let narrow : bits ≤ 8 * min 8 left = omega (arith, small, is) in
    let a = low_bits-low_bits bits (8 * min 8 left) (v x) narrow in
    let b = draws_from v line f k n size most (offset + 8) (suc x) (left - 8) (omega (arith, few)) small (omega (arith, is)) in
    λ i. asked (actions.Draw bits) line f (answers.Word (word bits (a i))) ∷ b i

fewer_words : (size most : ℕ) → size ≤ most → word_count size ≤ word_count most
fewer_words size most small = omega (arith, small)

pub draws_are : (v : ℕ → ℕ) (line f most size x : ℕ) → size ≤ most → draws_seen line f (word_count size) size 0 (words_by v (word_count most) x most) ≡ drawn v line f (word_count size) size 0 x
draws_are v line f most size x small = draws_from v line f (word_count size) (word_count most) size most 0 x most (fewer_words size most small) small (omega arith)

-- ---- lists

least : (n m : ℕ) → min (suc n) (suc m) ≡ suc (min n m)
least n m = omega arith

least_first : (m : ℕ) → min 0 m ≡ 0
least_first m = omega arith

least_second : (n : ℕ) → min n 0 ≡ 0
least_second n = omega arith

pub take_least : (k n : ℕ) (xs : List ℕ) → take k (take n xs) ≡ take (min k n) xs
take_least zero n xs = ap (λ i. take i xs) (sym (least_first n))
take_least (suc k) zero xs = ap (λ i. take i xs) (sym (least_second (suc k)))
take_least (suc k) (suc n) [] = ap (λ i. take i (let none : List ℕ = [] in none)) (sym (least k n))
take_least (suc k) (suc n) (x ∷ xs) = ap (λ ys. x ∷ ys) (take_least k n xs) ∙ ap (λ i. take i (x ∷ xs)) (sym (least k n))

pub take_whole : (n : ℕ) (xs : List ℕ) → length xs ≤ n → take n xs ≡ xs
take_whole zero [] h = refl
take_whole zero (x ∷ xs) h = absurd (omega (arith, h))
take_whole (suc n) [] h = refl
take_whole (suc n) (x ∷ xs) h = ap (λ ys. x ∷ ys) (take_whole n xs (omega (arith, h)))

-- some of the first bytes, and all behind them
rest_of : (k n : ℕ) (xs : List ℕ) → drop k (take n xs) ++ drop n xs ≡ drop (min k n) xs
rest_of zero n xs = take-append-drop n xs ∙ ap (λ i. drop i xs) (sym (least_first n))
rest_of (suc k) zero xs = ap (λ i. drop i xs) (sym (least_second (suc k)))
rest_of (suc k) (suc n) [] = ap (λ i. drop i (let none : List ℕ = [] in none)) (sym (least k n))
rest_of (suc k) (suc n) (x ∷ xs) = rest_of k n xs ∙ ap (λ i. drop i (x ∷ xs)) (sym (least k n))

no_more : (xs : List ℕ) → xs ++ [] ≡ xs
no_more [] = refl
no_more (x ∷ xs) = ap (λ ys. x ∷ ys) (no_more xs)

put_none : (at : ℕ) (old : List ℕ) → put_at at [] old ≡ old
put_none at old = (let same : at + 0 ≡ at = omega arith in ap (λ i. take at old ++ drop i old) same) ∙ take-append-drop at old

put_front : (new old : List ℕ) → put_at 0 new old ≡ new ++ drop (length new) old
put_front new old = let same : 0 + length new ≡ length new = omega arith in ap (λ i. new ++ drop i old) same

-- bytes put one behind the other
put_twice : (at n : ℕ) (a b old : List ℕ) → length a ≡ n → at + n ≤ length old → put_at (at + n) b (put_at at a old) ≡ put_at at (a ++ b) old
put_twice at n a b old size within =
    let front = take at old in
    let rest = drop (at + length a) old in
    let wide : length front ≡ at = length-take-le at old (omega (arith, within)) in
    let middle : length (front ++ a) ≡ at + n = omega (arith, length-append front a, wide, size) in
    let whole : put_at at a old ≡ (front ++ a) ++ rest = sym (append_assoc front a rest) in
    let none : length (front ++ a) + 0 ≡ at + n = omega (arith, middle) in
    let first : take (at + n) ((front ++ a) ++ rest) ≡ (front ++ a) ++ [] = ap (λ i. take i ((front ++ a) ++ rest)) (sym none) ∙ take-append-add (front ++ a) rest 0 in
    let more : at + n + length b ≡ length (front ++ a) + length b = omega (arith, middle) in
    let last : drop (at + n + length b) ((front ++ a) ++ rest) ≡ drop (at + length (a ++ b)) old =
    ap (λ i. drop i ((front ++ a) ++ rest)) more ∙ drop-append-add (front ++ a) rest (length b) ∙ drop-drop (length b) (at + length a) old ∙ (let same : at + length a + length b ≡ at + length (a ++ b) = omega (arith, length-append a b) in ap (λ i. drop i old) same) in
    ap (put_at (at + n) b) whole ∙ (λ i. first i ++ (b ++ last i)) ∙ ap (λ ys. ys ++ (b ++ drop (at + length (a ++ b)) old)) (nothing_more (front ++ a))
    ∙ append_assoc front a (b ++ drop (at + length (a ++ b)) old) ∙ ap (λ ys. front ++ ys) (sym (append_assoc a b (drop (at + length (a ++ b)) old)))
  where
    nothing_more : (xs : List ℕ) → xs ++ [] ≡ xs
    nothing_more [] = refl
    nothing_more (x ∷ xs) = ap (λ ys. x ∷ ys) (nothing_more xs)

-- ---- blocks

set_itself : (vs : Variables) (b : ℕ) → slice_set vs b (block_of vs b) ≡ vs
set_itself [] b = refl
set_itself (x ∷ vs) zero = refl
set_itself (x ∷ vs) (suc b) = ap (λ ys. x ∷ ys) (set_itself vs b)

set_twice : (vs : Variables) (b : ℕ) (x y : List ℕ) → slice_set (slice_set vs b x) b y ≡ slice_set vs b y
set_twice [] b x y = refl
set_twice (z ∷ vs) zero x y = refl
set_twice (z ∷ vs) (suc b) x y = ap (λ ys. z ∷ ys) (set_twice vs b x y)

set_there : (vs : Variables) (b : ℕ) (x : List ℕ) → b < length vs → block_of (slice_set vs b x) b ≡ x
set_there [] b x lt = absurd (omega (arith, lt))
set_there (z ∷ vs) zero x lt = refl
set_there (z ∷ vs) (suc b) x lt = set_there vs b x (omega (arith, lt))

pub held_block : (v : ℕ → ℕ) (d : List Node) (trees : Arena) (code : Listing) (s : Slot) (b : ℕ) → b < length code.blocks → length (block_of (held v d trees code s).blocks b) ≡ slice_index code.blocks b
held_block v d trees code s b lt =
    let n = total code.blocks in
    let bytes = bytes_from (value v d) (looked trees s.root) (length code.registers) n in
    let wide : length bytes ≡ n = all_words (value v d) (looked trees s.root) (length code.registers) (replicate n types.Char) ∙ length-replicate n types.Char in
    block_length code.blocks bytes b lt (omega (arith, wide))

-- ---- the bytes that are drawn

drawn_bytes : (ℕ → ℕ) → (words size offset x : ℕ) → List ℕ
drawn_bytes v zero size offset x = []
drawn_bytes v (suc k) size offset x = low_bytes (drawn_count size offset) (word_of (answer_at v x (actions.Draw (8 * drawn_count size offset)))) ++ drawn_bytes v k size (offset + 8) (suc x)

-- so many words have all the bytes from an offset on, and each but the last has 8
record Words (k size offset : ℕ) : Type 0 where
  all : size ≤ offset + 8 * k
  needed : 1 ≤ k → offset + 8 * k < size + 8

words_first : (size : ℕ) → Words (word_count size) size 0
words_first size = record { all = (let h : size ≤ 0 + 8 * ((size + 7) / 8) = omega arith in h); needed = λ h. (let l : 0 + 8 * ((size + 7) / 8) < size + 8 = omega arith in l) }

words_next : (k size offset : ℕ) → Words (suc k) size offset → Words k size (offset + 8)
words_next k size offset h = record { all = omega (arith, h.all); needed = λ l. omega (arith, h.needed (omega arith)) }

-- they are put at once
module _ (v : ℕ → ℕ) (b : ℕ) where
  drawn_at_once : (k size offset x : ℕ) (m : Memory) → Words k size offset → b < length m.blocks → size ≤ length (block_of m.blocks b) → drawn_into v b k size offset x m ≡ with_blocks m (put_bytes m.blocks b offset (drawn_bytes v k size offset x))
  unfolding drawn_bytes
  drawn_at_once zero size offset x m words there within = (λ i. with_blocks m (sym (ap (slice_set m.blocks b) (put_none offset (block_of m.blocks b)) ∙ set_itself m.blocks b) i))
  drawn_at_once (suc k) size offset x m words there within =
      let count = drawn_count size offset in
      let first = low_bytes count (word_of (answer_at v x (actions.Draw (8 * count)))) in
      let size_is : length first ≡ count = low_count count (word_of (answer_at v x (actions.Draw (8 * count)))) (omega arith) in
      let block = block_of m.blocks b in
      let next = with_blocks m (put_bytes m.blocks b offset first) in
      let begins : offset < size = omega (arith, words.needed (omega arith)) in
      let wide : length (put_at offset first block) ≡ length block = put_size offset first block (omega (arith, size_is, within, begins)) in
      let same : block_of next.blocks b ≡ put_at offset first block = set_there m.blocks b (put_at offset first block) there in
      let again : size ≤ length (block_of next.blocks b) = omega (arith, ap length same, wide, within) in
      drawn_at_once k size (offset + 8) (suc x) next (words_next k size offset words) (omega (arith, there, set_count m.blocks b (put_at offset first block))) again
      ∙ (λ i. with_blocks m (put_again k size offset x m words there within i))
    where
      put_size : (at : ℕ) (new old : List ℕ) → at + length new ≤ length old → length (put_at at new old) ≡ length old
      put_size at new old fits =
          omega (arith, fits, length-take-le at old (omega (arith, fits)), length-append new (drop (at + length new) old), length-append (take at old) (new ++ drop (at + length new) old), length-drop (at + length new) old)

      set_count : (vs : Variables) (c : ℕ) (y : List ℕ) → length (slice_set vs c y) ≡ length vs
      set_count [] c y = refl
      set_count (z ∷ vs) zero y = refl
      set_count (z ∷ vs) (suc c) y = ap suc (set_count vs c y)

      put_again : (k size offset x : ℕ) (m : Memory) → Words (suc k) size offset → b < length m.blocks → size ≤ length (block_of m.blocks b)
          → put_bytes (put_bytes m.blocks b offset (low_bytes (drawn_count size offset) (word_of (answer_at v x (actions.Draw (8 * drawn_count size offset)))))) b (offset + 8) (drawn_bytes v k size (offset + 8) (suc x)) ≡ put_bytes m.blocks b offset (drawn_bytes v (suc k) size offset x)
      put_again zero size offset x m words there within =
          let first = low_bytes (drawn_count size offset) (word_of (answer_at v x (actions.Draw (8 * drawn_count size offset)))) in
          let vs = put_bytes m.blocks b offset first in
          ap (slice_set vs b) (put_none (offset + 8) (block_of vs b)) ∙ set_itself vs b ∙ ap (put_bytes m.blocks b offset) (sym (no_more first))
      put_again (suc k) size offset x m words there within =
          let count = drawn_count size offset in
          let first = low_bytes count (word_of (answer_at v x (actions.Draw (8 * count)))) in
          let rest = drawn_bytes v (suc k) size (offset + 8) (suc x) in
          let block = block_of m.blocks b in
          let full : count ≡ 8 = omega (arith, words.needed (omega arith)) in
          let wide : length first ≡ 8 = low_count count (word_of (answer_at v x (actions.Draw (8 * count)))) (omega arith) ∙ full in
          let fits : offset + 8 ≤ length block = omega (arith, words.needed (omega arith), within) in
          ap (λ (old : List ℕ). slice_set (put_bytes m.blocks b offset first) b (put_at (offset + 8) rest old)) (set_there m.blocks b (put_at offset first block) there)
          ∙ set_twice m.blocks b (put_at offset first block) (put_at (offset + 8) rest (put_at offset first block))
          ∙ ap (slice_set m.blocks b) (put_twice offset 8 first rest block wide fits)

-- they are the first of those that the words have
drawn_first : (v : ℕ → ℕ) (k n size most offset x left : ℕ) → Words k size offset → k ≤ n → size ≤ most → left ≡ most - offset → drawn_bytes v k size offset x ≡ take (size - offset) (bytes_of_words left (words_by v n x left))
unfolding drawn_bytes
drawn_first v zero n size most offset x left words few small is = ap (λ i. take i (bytes_of_words left (words_by v n x left))) (let none : 0 ≡ size - offset = omega (arith, words.all) in none)
drawn_first v (suc k) zero size most offset x left words few small is = absurd (omega (arith, few))
drawn_first v (suc k) (suc n) size most offset x left words few small is =
    let count = drawn_count size offset in
    let word = low_bits (8 * min 8 left) (v x) in
    let rest = bytes_of_words (left - 8) (words_by v n (suc x) (left - 8)) in
    let begins : offset < size = omega (arith, words.needed (omega arith)) in
    let narrow : count ≤ min 8 left = omega (arith, small, is) in
    let here : low_bytes count (low_bits (8 * count) (v x)) ≡ take count (low_bytes (min 8 left) word) =
    low_bytes_of_low count (v x) (omega arith) ∙ sym (take-take count (min 8 left) (to_le_bytes w64 (v x)) narrow) ∙ ap (take count) (sym (low_bytes_of_low (min 8 left) (v x) (omega arith))) in
    let behind = drawn_first v k n size most (offset + 8) (suc x) (left - 8) (words_next k size offset words) (omega (arith, few)) small (omega (arith, is)) in
    let wide : length (low_bytes (min 8 left) word) ≡ min 8 left = low_count (min 8 left) word (omega arith) in
    (λ i. here i ++ behind i) ∙ elim (cases_lt (size - offset) 8) [
      | inl few ↦ short (size - offset) count (size - (offset + 8)) (low_bytes (min 8 left) word) rest (omega (arith, few)) (omega (arith, few)) (omega (arith, few, wide, narrow))
      | inr many ↦ long (size - offset) count (size - (offset + 8)) (low_bytes (min 8 left) word) rest (omega (arith, many)) (omega (arith, many)) (omega (arith, many, wide, narrow))
    ]
  where
    short : (n count more : ℕ) (xs ys : List ℕ) → count ≡ n → more ≡ 0 → n ≤ length xs → take count xs ++ take more ys ≡ take n (xs ++ ys)
    short n count more xs ys e z h = (λ i. take (e i) xs ++ take (z i) ys) ∙ nothing_more (take n xs) ∙ sym (take-append-le n xs ys h)
      where
        nothing_more : (zs : List ℕ) → zs ++ [] ≡ zs
        nothing_more [] = refl
        nothing_more (z ∷ zs) = ap (λ us. z ∷ us) (nothing_more zs)

    long : (n count more : ℕ) (xs ys : List ℕ) → count ≡ 8 → n ≡ 8 + more → length xs ≡ 8 → take count xs ++ take more ys ≡ take n (xs ++ ys)
    long n count more xs ys e z h =
        let all : take 8 xs ≡ xs = take_whole 8 xs (omega (arith, h)) in
        let sum : length xs + more ≡ n = omega (arith, z, h) in
        (λ i. take (e i) xs ++ take more ys) ∙ ap (λ us. us ++ take more ys) all ∙ sym (take-append-add xs ys more) ∙ ap (λ i. take i (xs ++ ys)) sum

-- a block whose first bytes are these words
pub words_fill : (v : ℕ → ℕ) (b most count x : ℕ) (m : Memory) → b < length m.blocks → most ≤ length (block_of m.blocks b)
    → filled_first b count (bytes_of_words most (words_by v (word_count most) x most)) m ≡ drawn_into v b (word_count (min count most)) (min count most) 0 x m
words_fill v b most count x m there within =
    let size = min count most in
    let small : size ≤ most = omega arith in
    let new = bytes_of_words most (words_by v (word_count most) x most) in
    let old = block_of m.blocks b in
    let wide : length new ≡ most = words_size v (word_count most) x most (words_enough most) in
    let bytes : drawn_bytes v (word_count size) size 0 x ≡ take size new = drawn_first v (word_count size) (word_count most) size most 0 x most (words_first size) (fewer_words size most small) small (omega arith) ∙ ap (λ i. take i new) (let all : size - 0 ≡ size = omega arith in all) in
    let front : take count new ≡ take size new = ap (take count) (sym (take_whole most new (omega (arith, wide)))) ∙ take_least count most new in
    let count_is : length (take size new) ≡ size = length-take-le size new (omega (arith, small, wide)) in
    let all_is : length (first_bytes_drawn count new old) ≡ most =
    omega (arith, length-append (take count new) (drop count (take (length new) old)), ap length front, count_is, length-drop count (take (length new) old), length-take-le (length new) old (omega (arith, wide, within)), wide) in
    let same : put_at 0 (first_bytes_drawn count new old) old ≡ put_at 0 (take size new) old =
    put_front (first_bytes_drawn count new old) old
    ∙ (λ i. first_bytes_drawn count new old ++ drop (all_is i) old)
    ∙ append_assoc (take count new) (drop count (take (length new) old)) (drop most old)
    ∙ (λ i. front i ++ (drop count (take (wide i) old) ++ drop most old))
    ∙ ap (λ ys. take size new ++ ys) (rest_of count most old ∙ ap (λ i. drop i old) (sym count_is))
    ∙ sym (put_front (take size new) old) in
    (λ i. with_blocks m (slice_set m.blocks b (same i))) ∙ (λ i. with_blocks m (put_bytes m.blocks b 0 (sym bytes i))) ∙ sym (drawn_at_once v b (word_count size) size 0 x m (words_first size) there (omega (arith, small, within)))
