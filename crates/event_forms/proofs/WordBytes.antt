-- Bytes as words of 8 each: what such words give, and words that give bytes.
use Rattle.std.proofs.Common.{◌≡◌, ℕ, zero, suc, ◌+◌, ◌-◌, ◌*◌, ◌/◌, ◌%◌, ◌^◌, ◌<◌, ◌≤◌, Bool, true, false, List, [], ◌∷◌, ◌++◌, length, take, get_or, refl, sym, ap, ◌∙◌, arith, nat_lt, true≢false}
use Rattle.std.specs.Prelude.{min, ◌&&◌}
use Rattle.std.specs.Int.{w64, byte_at, bytes_low_first, from_le_bytes, to_le_bytes}
use Rattle.std.proofs.Math.Nat.{pow-suc, min-le_left}
use Rattle.std.proofs.Math.Pow.{mod-mod-pow}
use Rattle.std.proofs.Math.Seq.{take-append_seam}
use Rattle.std.proofs.lemmas.Nat.{mod-pow-add, div-mul-add, mod_below, pow_pos, le_bytes_8}
use Rattle.std.proofs.lemmas.Bool.Decides.{nat_tests}
use Rattle.std.proofs.lemmas.List.{length-append, length-take-le, length-replicate}
use Rattle.std.proofs.lemmas.List.Folds.{list_all-append}
use Rattle.words.proofs.Powers.{pow_split}
use Rattle.words.specs.Operators.{low_bits}
use Rattle.actions.specs.ByteList.{are_bytes}
use Rattle.c_values.specs.Variables.{low_bytes, zeros, word_count}
use Rattle.event_forms.specs.Runs.{bytes_of_words}

-- ---- the bytes of low bits

power_of_256 : (p : ℕ) → 256 ^ p ≡ 2 ^ (8 * p)
power_of_256 zero = refl
power_of_256 (suc p) =
    let less : 8 * suc p - 8 ≡ 8 * p = omega arith in
    pow-suc 256 p ∙ ap (λ n. n * 256) (power_of_256 p) ∙ ap (λ n. 2 ^ n * 256) (sym less) ∙ sym (pow_split 8 (8 * suc p) (omega arith))

-- a byte in front of the cut
byte_of_low : (i m x : ℕ) → i < m → byte_at i (low_bits (8 * m) x) ≡ byte_at i x
unfolding low_bits
byte_of_low zero m x h =
    let all : 8 * m ≡ 8 * (m - 1) + 8 = omega (arith, h) in
    ap (λ n. x % 2 ^ n % 2 ^ 8) all ∙ mod-mod-pow x (8 * (m - 1)) 8
byte_of_low (suc p) m x h =
    let k = 8 * suc p in
    let more = 8 * (m - suc (suc p)) in
    let all : 8 * m ≡ more + 8 + k = omega (arith, h) in
    let rest : x % 2 ^ k < 2 ^ k = mod_below x (2 ^ k) (pow_pos k) in
    let cut : x % 2 ^ (8 * m) / 2 ^ k ≡ x / 2 ^ k % 2 ^ (more + 8) = ap (λ n. x % 2 ^ n / 2 ^ k) all ∙ ap (λ n. n / 2 ^ k) (mod-pow-add x (more + 8) k) ∙ div-mul-add (x / 2 ^ k % 2 ^ (more + 8)) (2 ^ k) (x % 2 ^ k) rest in
    ap (λ n. x % 2 ^ (8 * m) / n % 256) (power_of_256 (suc p)) ∙ ap (λ n. n % 2 ^ 8) cut ∙ mod-mod-pow (x / 2 ^ k) more 8 ∙ ap (λ n. x / n % 256) (sym (power_of_256 (suc p)))

bytes_of_low : (i k m x : ℕ) → i + k ≤ m → bytes_low_first i k (low_bits (8 * m) x) ≡ bytes_low_first i k x
bytes_of_low i zero m x h = refl
bytes_of_low i (suc k) m x h =
    let a = byte_of_low i m x (omega (arith, h)) in let b = bytes_of_low (suc i) k m x (omega (arith, h)) in λ j. a j ∷ b j

take_bytes : (i k n x : ℕ) → k ≤ n → take k (bytes_low_first i n x) ≡ bytes_low_first i k x
take_bytes i zero n x h = refl
take_bytes i (suc k) zero x h = absurd (omega (arith, h))
take_bytes i (suc k) (suc n) x h = ap (λ bs. byte_at i x ∷ bs) (take_bytes (suc i) k n x (omega (arith, h)))

pub low_bytes_of_low : (m x : ℕ) → m ≤ 8 → low_bytes m (low_bits (8 * m) x) ≡ low_bytes m x
low_bytes_of_low m x h = take_bytes 0 m 8 (low_bits (8 * m) x) h ∙ bytes_of_low 0 m m x (omega arith) ∙ sym (take_bytes 0 m 8 x h)

-- ---- the number that at most 8 bytes are

pub number_is : List ℕ → ℕ
number_is bs = from_le_bytes w64 (bs ++ zeros (8 - length bs))

pub number_padded : (bs : List ℕ) → number_is bs ≡ from_le_bytes w64 (bs ++ zeros (8 - length bs))
unfolding number_is
number_padded bs = refl

test_of : (m n : ℕ) → m < n → nat_lt m n ≡ true
test_of m n h = grind (arith, nat_tests)

below_is : (m n : ℕ) → nat_lt m n ≡ true → m < n
below_is m n h = grind (arith, nat_tests)

pub both : (a b : Bool) → (a && b) ≡ true → (a ≡ true) × (b ≡ true)
both true b h = (refl, h)
both false b h = absurd (true≢false (sym h))

both_true : (a b : Bool) → a ≡ true → b ≡ true → (a && b) ≡ true
both_true a b first second = λ i. first i && second i

zeros_are_bytes : (n : ℕ) → are_bytes (zeros n) ≡ true
zeros_are_bytes zero = refl
zeros_are_bytes (suc n) = zeros_are_bytes n

byte_below : (bs : List ℕ) → are_bytes bs ≡ true → (i : ℕ) → get_or bs i 0 < 256
byte_below [] h i = let none : 0 < 256 = omega arith in none
byte_below (b ∷ bs) h zero = below_is b 256 (both (nat_lt b 256) (are_bytes bs) h).0
byte_below (b ∷ bs) h (suc i) = byte_below bs (both (nat_lt b 256) (are_bytes bs) h).1 i

pub number_bytes : (bs : List ℕ) → length bs ≤ 8 → are_bytes bs ≡ true → low_bytes (length bs) (number_is bs) ≡ bs
unfolding number_is
number_bytes bs h all =
    let rest = zeros (8 - length bs) in
    let size : length (bs ++ rest) ≡ 8 = omega (arith, length-append bs rest, length-replicate {A = ℕ} (8 - length bs) 0, h) in
    let padded : are_bytes (bs ++ rest) ≡ true = list_all-append (λ b. nat_lt b 256) bs rest ∙ both_true (are_bytes bs) (are_bytes rest) all (zeros_are_bytes (8 - length bs)) in
    ap (take (length bs)) (le_bytes_8 (bs ++ rest) (number_is bs) size (byte_below (bs ++ rest) padded) refl) ∙ take-append_seam bs rest

-- ---- the bytes of words

pub low_count : (count x : ℕ) → count ≤ 8 → length (low_bytes count x) ≡ count
low_count count x few = length-take-le count (to_le_bytes w64 x) few

pub min_rest : (left : ℕ) → min 8 left + (left - 8) ≡ left
min_rest left = grind arith

bytes_below : (i k x : ℕ) → are_bytes (bytes_low_first i k x) ≡ true
bytes_below i zero x = refl
bytes_below i (suc k) x = both_true (nat_lt (byte_at i x) 256) (are_bytes (bytes_low_first (suc i) k x)) (test_of (byte_at i x) 256 (below i)) (bytes_below (suc i) k x)
  where
    below : (i : ℕ) → byte_at i x < 256
    below zero = mod_below x 256 (omega arith)
    below (suc i) = mod_below (x / 256 ^ suc i) 256 (omega arith)

low_are_bytes : (m x : ℕ) → m ≤ 8 → are_bytes (low_bytes m x) ≡ true
low_are_bytes m x h = ap are_bytes (take_bytes 0 m 8 x h) ∙ bytes_below 0 m x

pub words_are_bytes : (left : ℕ) (ws : List ℕ) → are_bytes (bytes_of_words left ws) ≡ true
words_are_bytes left [] = refl
words_are_bytes left (w ∷ ws) =
    let first = low_bytes (min 8 left) w in
    let rest = bytes_of_words (left - 8) ws in
    list_all-append (λ b. nat_lt b 256) first rest ∙ both_true (are_bytes first) (are_bytes rest) (low_are_bytes (min 8 left) w (min-le_left 8 left)) (words_are_bytes (left - 8) ws)

pub words_enough : (n : ℕ) → n ≤ 8 * word_count n
words_enough n = let all : n ≤ 8 * ((n + 7) / 8) = omega arith in all
