-- Bytes that are put at offsets of blocks, and taken from there.
use Rattle.std.proofs.Common.{◌≡◌, ℕ, zero, suc, ◌+◌, ◌-◌, ◌%◌, ◌^◌, ◌<◌, ◌≤◌, List, [], ◌∷◌, ◌++◌, length, take, drop, refl, sym, ap, ◌∙◌, arith, append_assoc, length-append}
use Rattle.std.specs.Prelude.{slice_index}
use Rattle.std.specs.Int.{byte_len, byte_worth, sum_through, from_le_bytes, to_le_bytes, w64}
use Rattle.std.proofs.lemmas.List.{take-append-drop, drop-append-le, take-append-le, length-take-le, length-drop, length-replicate, get_or_append_left, take-replicate}
use Rattle.std.proofs.Math.Seq.{take-append_seam}
use Rattle.c_types.specs.declared.integers.IntegerType.{IntegerType}
use Rattle.c_types.specs.declared.integers.IntegerType.TheVariants as types
use Rattle.c_types.specs.Integers.{bytes}
use Rattle.core_tree.specs.Operations.{read_bits}
use Rattle.actions.specs.Pointer.{offset_of}
use Rattle.c_values.specs.Variables.{storage, low_bytes, put_at, zeros, number_of, number_at}

pub put_size : (to : ℕ) (new old : List ℕ) → to + length new ≤ length old → length (put_at to new old) ≡ length old
put_size to new old fits =
    let front = length-take-le to old (omega (arith, fits)) in
    let rest = length-append new (drop (to + length new) old) in
    let all = length-append (take to old) (new ++ drop (to + length new) old) in
    omega (arith, fits, front, rest, all, length-drop (to + length new) old)

pub low_count : (count bits : ℕ) → count ≤ 8 → length (low_bytes count bits) ≡ count
low_count count bits few = length-take-le count (to_le_bytes w64 bits) few

pub few_bytes : (t : IntegerType) → bytes t ≤ 8
few_bytes types.Bool = omega arith
few_bytes types.Char = omega arith
few_bytes types.SignedChar = omega arith
few_bytes types.UnsignedChar = omega arith
few_bytes types.Short = omega arith
few_bytes types.UnsignedShort = omega arith
few_bytes types.Int = omega arith
few_bytes types.UnsignedInt = omega arith
few_bytes types.Long = omega arith
few_bytes types.UnsignedLong = omega arith
few_bytes types.LongLong = omega arith
few_bytes types.UnsignedLongLong = omega arith

-- ---- one put behind the other

put_in_front : (o : ℕ) (new block rest : List ℕ) → o + length new ≤ length block → put_at o new (block ++ rest) ≡ put_at o new block ++ rest
put_in_front o new block rest fits =
    (λ i. take-append-le o block rest (omega (arith, fits)) i ++ (new ++ drop-append-le (o + length new) block rest fits i))
    ∙ (λ i. take o block ++ sym (append_assoc new (drop (o + length new) block) rest) i)
    ∙ sym (append_assoc (take o block) (new ++ drop (o + length new) block) rest)

put_behind : (to : ℕ) (new : List ℕ) (x : ℕ) (old : List ℕ) → put_at (suc to) new (x ∷ old) ≡ x ∷ put_at to new old
put_behind to new x old = let more : suc to + length new ≡ suc (to + length new) = omega arith in λ i. x ∷ (take to old ++ (new ++ drop (more i) (x ∷ old)))

-- within what was put there
pub put_within : (to o : ℕ) (new block old : List ℕ) → o + length new ≤ length block → to + length block ≤ length old → put_at (to + o) new (put_at to block old) ≡ put_at to (put_at o new block) old
put_within zero o new block old fits room =
    let none : 0 + o ≡ o = omega arith in
    let same : length (put_at o new block) ≡ length block = put_size o new block fits in
    (λ i. put_at (none i) new (block ++ drop (0 + length block) old))
    ∙ put_in_front o new block (drop (0 + length block) old) fits
    ∙ (λ i. put_at o new block ++ drop (0 + sym same i) old)
put_within (suc to) o new block [] fits room = absurd (omega (arith, room))
put_within (suc to) o new block (x ∷ old) fits room =
    let one : suc to + o ≡ suc (to + o) = omega arith in
    let more : suc to + length block ≡ suc (to + length block) = omega arith in
    let inner : put_at (suc to) block (x ∷ old) ≡ x ∷ put_at to block old = put_behind to block x old in
    (λ i. put_at (one i) new (inner i))
    ∙ put_behind (to + o) new x (put_at to block old)
    ∙ ap (λ xs. x ∷ xs) (put_within to o new block old fits (omega (arith, room)))
    ∙ sym (put_behind to (put_at o new block) x old)

-- a byte, and those behind it
pub put_more : (o c : ℕ) (cs block : List ℕ) → o + length (c ∷ cs) ≤ length block → put_at (o + 1) cs (put_at o (c ∷ []) block) ≡ put_at o (c ∷ cs) block
put_more zero c cs [] room = absurd (omega (arith, room))
put_more zero c cs (x ∷ block) room =
    let from : 0 + length (c ∷ []) ≡ 1 = omega arith in
    let more : 0 + 1 + length cs ≡ suc (length cs) = omega arith in
    let all : 0 + length (c ∷ cs) ≡ suc (length cs) = omega arith in
    let one : 0 + 1 ≡ 1 = omega arith in
    (λ i. put_at (one i) cs ((c ∷ []) ++ drop (from i) (x ∷ block)))
    ∙ (let sum : 1 + length cs ≡ suc (length cs) = omega arith in λ i. c ∷ (cs ++ drop (sum i) (c ∷ block)))
    ∙ sym (λ i. (c ∷ cs) ++ drop (all i) (x ∷ block))
put_more (suc o) c cs [] room = absurd (omega (arith, room))
put_more (suc o) c cs (x ∷ block) room =
    let one : suc o + 1 ≡ suc (o + 1) = omega arith in
    (λ i. put_at (one i) cs (put_behind o (c ∷ []) x block i))
    ∙ put_behind (o + 1) cs x (put_at o (c ∷ []) block)
    ∙ ap (λ xs. x ∷ xs) (put_more o c cs block (omega (arith, room)))
    ∙ sym (put_behind o (c ∷ cs) x block)

pub put_none : (o : ℕ) (block : List ℕ) → put_at o [] block ≡ block
put_none zero block = refl
put_none (suc o) [] = let same : suc o + 0 ≡ suc o = omega arith in λ i. drop {A = ℕ} (same i) []
put_none (suc o) (x ∷ block) = put_behind o [] x block ∙ ap (λ xs. x ∷ xs) (put_none o block)

-- ---- what was put is taken

pub taken_back : (to size : ℕ) (value old : List ℕ) → length value ≡ size → to ≤ length old → take size (drop to (put_at to value old)) ≡ value
taken_back zero size value old long room =
    sym (λ i. take (long i) (value ++ drop (0 + length value) old)) ∙ take-append_seam value (drop (0 + length value) old)
taken_back (suc to) size value [] long room = absurd (omega (arith, room))
taken_back (suc to) size value (x ∷ old) long room =
    (λ i. take size (drop (suc to) (put_behind to value x old i))) ∙ taken_back to size value old long (omega (arith, room))

-- bytes at an offset of what was put in front
pub part_of_front : (offset size : ℕ) (value old : List ℕ) → offset + size ≤ length value → take size (drop offset (put_at 0 value old)) ≡ take size (drop offset value)
part_of_front offset size value old fits =
    let rest = drop (0 + length value) old in
    (λ i. take size (drop-append-le offset value rest (omega (arith, fits)) i))
    ∙ take-append-le size (drop offset value) rest (omega (arith, fits, length-drop offset value))

sum_same : (f g : ℕ → ℕ) (k : ℕ) → ((i : ℕ) → i ≤ k → f i ≡ g i) → sum_through f k ≡ sum_through g k
sum_same f g zero same = same 0 (omega arith)
sum_same f g (suc k) same = λ i. sum_same f g k (λ j lt. same j (omega (arith, lt))) i + same (suc k) (omega arith) i

byte_count : (t : IntegerType) → byte_len (storage t) ≡ bytes t
byte_count types.Bool = refl
byte_count _ = refl

some_byte : (t : IntegerType) → 1 ≤ bytes t
some_byte types.Bool = omega arith
some_byte types.Char = omega arith
some_byte types.SignedChar = omega arith
some_byte types.UnsignedChar = omega arith
some_byte types.Short = omega arith
some_byte types.UnsignedShort = omega arith
some_byte types.Int = omega arith
some_byte types.UnsignedInt = omega arith
some_byte types.Long = omega arith
some_byte types.UnsignedLong = omega arith
some_byte types.LongLong = omega arith
some_byte types.UnsignedLongLong = omega arith

number_front : (t : IntegerType) (xs ys : List ℕ) → bytes t ≤ length xs → from_le_bytes (storage t) (xs ++ ys) ≡ from_le_bytes (storage t) xs
number_front t xs ys fits =
    sum_same (λ i. byte_worth i (slice_index (xs ++ ys) i)) (λ i. byte_worth i (slice_index xs i)) (byte_len (storage t) - 1) (λ i lt.
    ap (byte_worth i) (get_or_append_left xs ys 0 i (omega (arith, lt, fits, byte_count t, some_byte t))))

-- a number at an offset of what was put in front
pub number_of_front : (t : IntegerType) (offset : ℕ) (value old : List ℕ) → offset + bytes t ≤ length value → number_at t offset (put_at 0 value old) ≡ number_at t offset value
number_of_front t offset value old fits =
    let rest = drop (0 + length value) old in
    (λ i. read_bits t (from_le_bytes (storage t) (drop-append-le offset value rest (omega (arith, fits)) i)))
    ∙ ap (read_bits t) (number_front t (drop offset value) rest (omega (arith, fits, length-drop offset value)))

-- as many bytes as the number has are enough
pub number_taken : (t : IntegerType) (offset : ℕ) (block : List ℕ) → offset + bytes t ≤ length block → number_of t (take (bytes t) (drop offset block)) ≡ number_at t offset block
number_taken t offset block fits =
    let front = take (bytes t) (drop offset block) in
    let rest = drop (bytes t) (drop offset block) in
    let whole : front ++ rest ≡ drop offset block = take-append-drop (bytes t) (drop offset block) in
    let long : length front ≡ bytes t = length-take-le (bytes t) (drop offset block) (omega (arith, fits, length-drop offset block)) in
    ap (read_bits t) (sym (number_front t front rest (omega (arith, long))) ∙ ap (from_le_bytes (storage t)) whole)

-- a small offset is a pointer's
pub small_offset : (offset : ℕ) → offset < 2 ^ 32 → offset_of offset ≡ offset
small_offset offset small = omega (arith, small)

-- ---- bytes that are 0

pub some_zeros : (size all : ℕ) → size ≤ all → take size (zeros all) ≡ zeros size
some_zeros size all fits = take-replicate size all 0 fits

pub zeros_length : (size : ℕ) → length (zeros size) ≡ size
zeros_length size = length-replicate size 0

pub one_byte : (c : ℕ) → c < 256 → low_bytes 1 c ≡ c ∷ []
one_byte c small = let same : c % 256 ≡ c = omega (arith, small) in λ i. same i ∷ []
