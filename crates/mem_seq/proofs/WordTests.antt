-- Whether words are given bytes, told by the numbers that the bytes are.
use Rattle.std.proofs.Common.{◌≡◌, ℕ, zero, suc, ◌+◌, ◌-◌, ◌*◌, ◌/◌, ◌%◌, ◌^◌, ◌<◌, ◌≤◌, Bool, true, false, List, [], ◌∷◌, ◌++◌, length, take, drop, refl, sym, ap, ◌∙◌, arith}
use Rattle.std.specs.Prelude.{◌==◌, ◌&&◌, min, slice_index}
use Rattle.std.specs.Int.{w64, byte_at, byte_worth, bytes_low_first, from_le_bytes, to_le_bytes}
use Rattle.std.proofs.Math.Nat.{pow-suc, mod-eq_of_lt}
use Rattle.std.proofs.lemmas.Nat.{mod-pow-add}
use Rattle.std.proofs.lemmas.Bool.Decides.{nat_tests}
use Rattle.std.proofs.lemmas.List.{length-take-le, take-append-drop}
use Rattle.words.proofs.Powers.{pow_split}
use Rattle.actions.specs.ByteList.{are_bytes}
use Rattle.c_values.specs.Variables.{low_bytes, zeros}
use Rattle.value_nodes.specs.Bytes.{sum_of_bytes}
use Rattle.event_forms.specs.Runs.{bytes_of_words}
use Rattle.event_forms.proofs.WordBytes.{number_is, number_padded, number_bytes, low_count}
use Rattle.event_forms.specs.Accesses.{same_bytes}
use Rattle.event_forms.proofs.Stores.{same_itself, bytes_same}

-- ---- the number that bytes are

power_of_256 : (p : ℕ) → 256 ^ p ≡ 2 ^ (8 * p)
power_of_256 zero = refl
power_of_256 (suc p) =
    let less : 8 * suc p - 8 ≡ 8 * p = omega arith in
    pow-suc 256 p ∙ ap (λ n. n * 256) (power_of_256 p) ∙ ap (λ n. 2 ^ n * 256) (sym less) ∙ sym (pow_split 8 (8 * suc p) (omega arith))

byte_is : (p x : ℕ) → byte_at p x ≡ x / 2 ^ (8 * p) % 2 ^ 8
byte_is zero x = let whole : x ≡ x / 1 = omega arith in ap (λ n. n % 2 ^ 8) whole
byte_is (suc p) x = ap (λ n. x / n % 2 ^ 8) (power_of_256 (suc p))

worth : (p b : ℕ) → byte_worth p b ≡ b * 2 ^ (8 * p)
worth zero b = let plain : b ≡ b * 1 = omega arith in plain
worth (suc p) b = ap (λ n. b * n) (power_of_256 (suc p))

index_of : (i n k x : ℕ) → k < n → slice_index (bytes_low_first i n x) k ≡ byte_at (i + k) x
index_of i zero k x h = absurd (omega (arith, h))
index_of i (suc n) zero x h = let same : i ≡ i + 0 = omega arith in ap (λ j. byte_at j x) same
index_of i (suc n) (suc k) x h = let same : suc i + k ≡ i + suc k = omega arith in index_of (suc i) n k x (omega (arith, h)) ∙ ap (λ j. byte_at j x) same

-- the number that the first bytes of a word are
sum_of_word : (n k x : ℕ) → k ≤ n → sum_of_bytes (bytes_low_first 0 n x) k ≡ x % 2 ^ (8 * k)
sum_of_word n zero x h = let none : 0 ≡ x % 1 = omega arith in none
sum_of_word n (suc k) x h =
    let rest = sum_of_word n k x (omega (arith, h)) in
    let plain : 0 + k ≡ k = omega arith in
    let here : byte_worth k (slice_index (bytes_low_first 0 n x) k) ≡ x / 2 ^ (8 * k) % 2 ^ 8 * 2 ^ (8 * k) =
    ap (byte_worth k) (index_of 0 n k x (omega (arith, h)) ∙ ap (λ j. byte_at j x) plain) ∙ worth k (byte_at k x) ∙ ap (λ n. n * 2 ^ (8 * k)) (byte_is k x) in
    let all : 8 + 8 * k ≡ 8 * suc k = omega arith in
    let high = x / 2 ^ (8 * k) % 2 ^ 8 * 2 ^ (8 * k) in
    let low = x % 2 ^ (8 * k) in
    let turned : low + high ≡ high + low = omega arith in
    (λ i. rest i + here i) ∙ turned ∙ sym (mod-pow-add x 8 (8 * k)) ∙ ap (λ n. x % 2 ^ n) all

first_sum : (xs ys : List ℕ) (k : ℕ) → ((i : ℕ) → i < k → slice_index xs i ≡ slice_index ys i) → sum_of_bytes xs k ≡ sum_of_bytes ys k
first_sum xs ys zero same = refl
first_sum xs ys (suc k) same =
    let a = first_sum xs ys k (λ i l. same i (omega (arith, l))) in let b = ap (byte_worth k) (same k (omega arith)) in λ i. a i + b i

take_index : (n k : ℕ) (xs : List ℕ) → k < n → slice_index (take n xs) k ≡ slice_index xs k
take_index zero k xs h = absurd (omega (arith, h))
take_index (suc n) k [] h = refl
take_index (suc n) zero (x ∷ xs) h = refl
take_index (suc n) (suc k) (x ∷ xs) h = take_index n k xs (omega (arith, h))

-- the low bytes of a word of as many are it
sum_of_low : (n x : ℕ) → n ≤ 8 → x < 2 ^ (8 * n) → sum_of_bytes (low_bytes n x) n ≡ x
sum_of_low n x few small =
    first_sum (low_bytes n x) (to_le_bytes w64 x) n (λ i l. take_index n i (to_le_bytes w64 x) l) ∙ sum_of_word 8 n x few ∙ mod-eq_of_lt small

-- bytes and zeros behind them
front_index : (xs ys : List ℕ) (k : ℕ) → k < length xs → slice_index (xs ++ ys) k ≡ slice_index xs k
front_index [] ys k h = absurd (omega (arith, h))
front_index (x ∷ xs) ys zero h = refl
front_index (x ∷ xs) ys (suc k) h = front_index xs ys k (omega (arith, h))

zero_worth : (k : ℕ) → byte_worth k 0 ≡ 0
zero_worth zero = refl
zero_worth (suc k) = omega arith

zeros_index : (n k : ℕ) → slice_index (zeros n) k ≡ 0
zeros_index zero k = refl
zeros_index (suc n) zero = refl
zeros_index (suc n) (suc k) = zeros_index n k

behind_index : (xs : List ℕ) (n k : ℕ) → length xs ≤ k → slice_index (xs ++ zeros n) k ≡ 0
behind_index [] n k h = zeros_index n k
behind_index (x ∷ xs) n zero h = absurd (omega (arith, h))
behind_index (x ∷ xs) n (suc k) h = behind_index xs n k (omega (arith, h))

sum_padded : (xs : List ℕ) (n more : ℕ) → sum_of_bytes (xs ++ zeros n) (length xs + more) ≡ sum_of_bytes xs (length xs)
sum_padded xs n zero =
    let plain : length xs + 0 ≡ length xs = omega arith in
    ap (sum_of_bytes (xs ++ zeros n)) plain ∙ first_sum (xs ++ zeros n) xs (length xs) (λ i l. front_index xs (zeros n) i l)
sum_padded xs n (suc more) =
    let next : length xs + suc more ≡ suc (length xs + more) = omega arith in
    let k = length xs + more in
    let none : byte_worth k (slice_index (xs ++ zeros n) k) ≡ 0 = ap (byte_worth k) (behind_index xs n k (omega arith)) ∙ zero_worth k in
    let plain : sum_of_bytes xs (length xs) + 0 ≡ sum_of_bytes xs (length xs) = omega arith in
    ap (sum_of_bytes (xs ++ zeros n)) next ∙ (λ i. sum_padded xs n more i + none i) ∙ plain

from_sum : (xs : List ℕ) → from_le_bytes w64 xs ≡ sum_of_bytes xs 8
from_sum xs = let plain : slice_index xs 0 ≡ 0 + slice_index xs 0 = omega arith in ap (λ n. n + byte_worth 1 (slice_index xs 1) + byte_worth 2 (slice_index xs 2) + byte_worth 3 (slice_index xs 3) + byte_worth 4 (slice_index xs 4) + byte_worth 5 (slice_index xs 5) + byte_worth 6 (slice_index xs 6) + byte_worth 7 (slice_index xs 7)) plain

number_sum : (xs : List ℕ) → length xs ≤ 8 → number_is xs ≡ sum_of_bytes xs (length xs)
number_sum xs few =
    let all : 8 ≡ length xs + (8 - length xs) = omega (arith, few) in
    number_padded xs ∙ from_sum (xs ++ zeros (8 - length xs)) ∙ ap (sum_of_bytes (xs ++ zeros (8 - length xs))) all ∙ sum_padded xs (8 - length xs) (8 - length xs)

low_of_sum : (xs : List ℕ) → length xs ≤ 8 → are_bytes xs ≡ true → low_bytes (length xs) (sum_of_bytes xs (length xs)) ≡ xs
low_of_sum xs few all = ap (low_bytes (length xs)) (sym (number_sum xs few)) ∙ number_bytes xs few all

-- ---- tests

same_truth : (a b : Bool) → (a ≡ true → b ≡ true) → (b ≡ true → a ≡ true) → a ≡ b
same_truth true b to from = sym (to refl)
same_truth false true to from = from refl
same_truth false false to from = refl

pub equal_is : (m n : ℕ) → (m == n) ≡ true → m ≡ n
equal_is m n h = grind (arith, nat_tests)

is_equal : (m n : ℕ) → m ≡ n → (m == n) ≡ true
is_equal m n h = grind (arith, nat_tests)

-- a word is these bytes where it is the number that they are
pub word_test : (n x : ℕ) (xs : List ℕ) → n ≤ 8 → length xs ≡ n → x < 2 ^ (8 * n) → are_bytes xs ≡ true → (x == sum_of_bytes xs (length xs)) ≡ same_bytes (low_bytes n x) xs
word_test n x xs few size small all =
    let s = sum_of_bytes xs (length xs) in
    same_truth (x == s) (same_bytes (low_bytes n x) xs)
    (λ h. let same : low_bytes n x ≡ xs = (λ i. low_bytes (sym size i) (equal_is x s h i)) ∙ low_of_sum xs (omega (arith, size, few)) all in
    ap (λ ys. same_bytes ys xs) same ∙ same_itself xs)
    (λ h. let bytes : low_bytes n x ≡ xs = bytes_same (low_bytes n x) xs h in
    is_equal x s (sym (sum_of_low n x few small) ∙ (λ i. sum_of_bytes (bytes i) (sym size i))))

and_assoc : (a b c : Bool) → ((a && b) && c) ≡ (a && (b && c))
and_assoc true b c = refl
and_assoc false b c = refl

-- of more bytes
same_append : (xs ys us vs : List ℕ) → length xs ≡ length us → same_bytes (xs ++ ys) (us ++ vs) ≡ (same_bytes xs us && same_bytes ys vs)
same_append [] ys [] vs size = refl
same_append [] ys (u ∷ us) vs size = absurd (omega (arith, size))
same_append (x ∷ xs) ys [] vs size = absurd (omega (arith, size))
same_append (x ∷ xs) ys (u ∷ us) vs size = ap (λ b. (x == u) && b) (same_append xs ys us vs (omega (arith, size))) ∙ sym (and_assoc (x == u) (same_bytes xs us) (same_bytes ys vs))

-- one word more
pub more_words : (a : Bool) (n left x : ℕ) (ws bs : List ℕ) → n ≡ min 8 left → length bs ≡ left → x < 2 ^ (8 * n) → are_bytes (take n bs) ≡ true
    → ((a && (x == sum_of_bytes (take n bs) (length (take n bs)))) && same_bytes (bytes_of_words (left - n) ws) (drop n bs)) ≡ (a && same_bytes (bytes_of_words left (x ∷ ws)) bs)
more_words a n left x ws bs is size small all =
    let few : n ≤ 8 = omega (arith, is) in
    let within : n ≤ length bs = omega (arith, is, size) in
    let long : length (take n bs) ≡ n = length-take-le n bs within in
    let test = word_test n x (take n bs) few long small all in
    let rest : left - n ≡ left - 8 = omega (arith, is) in
    let low : length (low_bytes n x) ≡ length (take n bs) = low_count n x few ∙ sym long in
    and_assoc a (x == sum_of_bytes (take n bs) (length (take n bs))) (same_bytes (bytes_of_words (left - n) ws) (drop n bs))
    ∙ (λ i. a && (test i && same_bytes (bytes_of_words (rest i) ws) (drop n bs)))
    ∙ ap (λ b. a && b) (sym (same_append (low_bytes n x) (bytes_of_words (left - 8) ws) (take n bs) (drop n bs) low)
    ∙ (λ i. same_bytes (low_bytes (is i) x ++ bytes_of_words (left - 8) ws) (take-append-drop n bs i)))
