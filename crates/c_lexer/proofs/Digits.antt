-- The digits at the front of a text, and the number that they stand for.
use Rattle.std.proofs.Common.{◌≡◌, ◌<◌, ◌≤◌, ◌+◌, ◌*◌, ℕ, List, [], ◌∷◌, length, take, drop, get_or, true, false, refl, sym, ap, ◌∙◌, arith, zero, suc}
use Rattle.std.specs.Prelude.{fold}
use Rattle.std.proofs.lemmas.List.{length-take-le, take-append-drop}
use Rattle.std.proofs.lemmas.List.Sums.{prefix_len_is, fold_more, fold-append}
use Rattle.c_lexer.specs.Constants.{digit_value, is_digit_of, digits, number}

pub digits_are : (base : ℕ) (text : List ℕ) (n : ℕ) → n ≤ length text → ((k : ℕ) → k < n → is_digit_of base (get_or text k 0) ≡ true) →
    (n < length text → is_digit_of base (get_or text n 0) ≡ false) → (take n text ≡ digits base text) × (n ≡ length (digits base text))
unfolding digits
digits_are base text n l each stop =
    let e = prefix_len_is (is_digit_of base) text n 0 l each stop in
    (rw e refl, rw e (sym (length-take-le n text l)))

pub number_none : (base : ℕ) → number base [] ≡ 0
unfolding number
number_none base = refl

pub number_more : (base : ℕ) (ds : List ℕ) (i : ℕ) → i < length ds → number base (take (i + 1) ds) ≡ number base (take i ds) * base + digit_value (get_or ds i 0)
unfolding number
number_more base ds i l = fold_more (λ n d. n * base + digit_value d) 0 ds i 0 l

grows : (n base d : ℕ) → 0 < base → n ≤ n * base + d
grows n zero d p = absurd (omega arith)
grows n (suc b) d p = grind arith

at_least : (base : ℕ) (n : ℕ) (ds : List ℕ) → 0 < base → n ≤ fold (λ n d. n * base + digit_value d) n ds
at_least base n [] p = omega arith
at_least base n (d ∷ ds) p =
    let more : n ≤ n * base + digit_value d = grows n base (digit_value d) p in
    let rest = at_least base (n * base + digit_value d) ds p in
    omega arith

pub number_least : (base : ℕ) (ds : List ℕ) (i : ℕ) → 0 < base → number base (take i ds) ≤ number base ds
unfolding number
number_least base ds i p =
    let f = λ (n : ℕ) (d : ℕ). n * base + digit_value d in
    let parts : fold f 0 ds ≡ fold f (fold f 0 (take i ds)) (drop i ds) =
    ap (fold f 0) (sym (take-append-drop i ds)) ∙ fold-append f 0 (take i ds) (drop i ds) in
    rw parts (at_least base (fold f 0 (take i ds)) (drop i ds) p)

pub number_step : (base : ℕ) (ds : List ℕ) (i n : ℕ) → 0 < base → i < length ds → n ≡ number base (take i ds) → n * base + digit_value (get_or ds i 0) ≤ number base ds
number_step base ds i n p l e =
    let more : number base (take (i + 1) ds) ≡ n * base + digit_value (get_or ds i 0) = rw e (number_more base ds i l) in
    rw (sym more) (number_least base ds (i + 1) p)
