-- The words that variables are under a valuation, 8 bytes each: how many bytes they give, and which variables give bytes.
use Rattle.std.proofs.Common.{◌≡◌, ℕ, zero, suc, ◌+◌, ◌-◌, ◌*◌, ◌<◌, ◌≤◌, true, List, ◌∷◌, ◌++◌, length, take, drop, refl, sym, ap, subst, ◌∙◌, arith, nat_lt}
use Rattle.std.specs.Prelude.{min}
use Rattle.std.proofs.Math.Nat.{min-le_left}
use Rattle.std.proofs.lemmas.List.{length-append, length-take, length-drop, drop-drop, take-append-drop, nil_from_length}
use Rattle.std.proofs.lemmas.List.Folds.{list_all-append}
use Rattle.words.specs.Operators.{low_bits}
use Rattle.actions.specs.ByteList.{are_bytes}
use Rattle.c_values.specs.Variables.{low_bytes}
use Rattle.event_forms.specs.Runs.{bytes_of_words}
use Rattle.event_forms.proofs.WordBytes.{both, low_bytes_of_low, number_is, number_bytes, low_count, min_rest}
use Rattle.guarded_ssa.specs.inner.Answers.{words_by}

pub words_size : (v : ℕ → ℕ) (k x left : ℕ) → left ≤ 8 * k → length (bytes_of_words left (words_by v k x left)) ≡ left
words_size v zero x left h = let none : 0 ≡ left = omega (arith, h) in none
words_size v (suc k) x left h =
    let first = low_bytes (min 8 left) (low_bits (8 * min 8 left) (v x)) in
    let rest = bytes_of_words (left - 8) (words_by v k (suc x) (left - 8)) in
    let a = low_count (min 8 left) (low_bits (8 * min 8 left) (v x)) (min-le_left 8 left) in
    let b = words_size v k (suc x) (left - 8) (omega (arith, h)) in
    length-append first rest ∙ (λ i. a i + b i) ∙ min_rest left

first_variable : (x : ℕ) → x + 0 ≡ x
first_variable x = omega arith

next_variable : (x i : ℕ) → x + suc i ≡ suc x + i
next_variable x i = omega arith

pub words_by_same : (v w : ℕ → ℕ) (k x left : ℕ) → ((i : ℕ) → v (x + i) ≡ w (x + i)) → words_by v k x left ≡ words_by w k x left
words_by_same v w zero x left same = refl
words_by_same v w (suc k) x left same =
    let a : v x ≡ w x = subst (λ n. v n ≡ w n) (first_variable x) (same 0) in
    let b = words_by_same v w k (suc x) (left - 8) (λ i. subst (λ n. v n ≡ w n) (next_variable x i) (same (suc i))) in
    λ j. low_bits (8 * min 8 left) (a j) ∷ b j

all_bytes_of : (a b : List ℕ) → are_bytes (a ++ b) ≡ true → (are_bytes a ≡ true) × (are_bytes b ≡ true)
all_bytes_of a b h = both (are_bytes a) (are_bytes b) (sym (list_all-append (λ n. nat_lt n 256) a b) ∙ h)

-- words that are the bytes, 8 in each
pub words_give : (v : ℕ → ℕ) (k x left : ℕ) (bs : List ℕ) → length bs ≡ left → left ≤ 8 * k → are_bytes bs ≡ true → ((i : ℕ) → i < k → v (x + i) ≡ number_is (take 8 (drop (8 * i) bs))) → bytes_of_words left (words_by v k x left) ≡ bs
words_give v zero x left bs size few all given = sym (nil_from_length bs (omega (arith, size, few)))
words_give v (suc k) x left bs size few all given =
    let first = take 8 bs in
    let rest = drop 8 bs in
    let count : length first ≡ min 8 left = length-take 8 bs ∙ ap (min 8) size in
    let small : length first ≤ 8 = omega (arith, count, min-le_left 8 left) in
    let parts = all_bytes_of first rest (ap are_bytes (take-append-drop 8 bs) ∙ all) in
    let here : v x ≡ number_is first = subst (λ m. v m ≡ number_is first) (first_variable x) (given 0 (omega arith)) in
    let a : low_bytes (min 8 left) (low_bits (8 * min 8 left) (v x)) ≡ first =
    low_bytes_of_low (min 8 left) (v x) (min-le_left 8 left) ∙ (λ j. low_bytes (sym count j) (here j)) ∙ number_bytes first small parts.0 in
    let behind : (i : ℕ) → i < k → v (suc x + i) ≡ number_is (take 8 (drop (8 * i) rest)) =
    λ i lt. let place : 8 * suc i ≡ 8 + 8 * i = omega arith in
    let same : drop (8 * suc i) bs ≡ drop (8 * i) rest = ap (λ m. drop m bs) place ∙ sym (drop-drop (8 * i) 8 bs) in
    subst (λ m. v m ≡ number_is (take 8 (drop (8 * i) rest))) (next_variable x i) (given (suc i) (omega (arith, lt)) ∙ ap (λ ys. number_is (take 8 ys)) same) in
    let b = words_give v k (suc x) (left - 8) rest (omega (arith, length-drop 8 bs, size)) (omega (arith, few)) parts.1 behind in
    (λ j. a j ++ b j) ∙ take-append-drop 8 bs
