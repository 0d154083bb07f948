-- Bytes of a list one by one, a part of it, and bytes put into it.
use Rattle.std.proofs.Common.{◌≡◌, ◌<◌, ◌≤◌, ◌+◌, ◌-◌, ℕ, zero, suc, ◌&&◌, cond, List, [], ◌∷◌, ◌++◌, take, drop, length, Some, None, slice_get, refl, sym, ap, ◌∙◌, arith, nat_le, nat_lt, inl, inr, ◌⊎◌}
use Rattle.std.proofs.lemmas.Bool.{cases_lt, le-leb, lt-leb, lt-ltb, le-ltb}
use Rattle.std.proofs.lemmas.List.{length-take-le}
use Rattle.actions.specs.ByteList.{put_at}

same_take : (n : ℕ) (xs ys : List ℕ) → ((i : ℕ) → i < n → slice_get xs i ≡ slice_get ys i) → take n xs ≡ take n ys
same_take zero xs ys h = refl
same_take (suc n) [] [] h = refl
same_take (suc n) [] (y ∷ ys) h = let e : None ≡ Some y = h zero (omega arith) in absurd (cc e)
same_take (suc n) (x ∷ xs) [] h = let e : Some x ≡ None = h zero (omega arith) in absurd (cc e)
same_take (suc n) (x ∷ xs) (y ∷ ys) h =
    let e : Some x ≡ Some y = h zero (omega arith) in
    let f : x ≡ y = cc e in
    let rest : take n xs ≡ take n ys = same_take n xs ys (λ i l. h (suc i) (omega arith)) in
    λ i. f i ∷ rest i

pub drop_none : (n : ℕ) → drop {A = ℕ} n [] ≡ []
drop_none zero = refl
drop_none (suc n) = refl

pub take_none : (n : ℕ) → take {A = ℕ} n [] ≡ []
take_none zero = refl
take_none (suc n) = refl

-- two lists with the same items from `at` on, n of them
pub same_part : (at n : ℕ) (xs ys : List ℕ) → ((i : ℕ) → at ≤ i → i < at + n → slice_get xs i ≡ slice_get ys i) → take n (drop at xs) ≡ take n (drop at ys)
same_part zero n xs ys h = same_take n xs ys (λ i l. h i (omega arith) (omega arith))
same_part (suc at) n [] [] h = refl
same_part (suc at) n [] (y ∷ ys) h = ap (take n) (sym (drop_none at)) ∙ same_part at n [] ys (λ i a b. h (suc i) (omega arith) (omega arith))
same_part (suc at) n (x ∷ xs) [] h = same_part at n xs [] (λ i a b. h (suc i) (omega arith) (omega arith)) ∙ ap (take n) (drop_none at)
same_part (suc at) n (x ∷ xs) (y ∷ ys) h = same_part at n xs ys (λ i a b. h (suc i) (omega arith) (omega arith))

get_left : (xs ys : List ℕ) (i : ℕ) → i < length xs → slice_get (xs ++ ys) i ≡ slice_get xs i
get_left [] ys i h = absurd (omega arith)
get_left (x ∷ xs) ys zero h = refl
get_left (x ∷ xs) ys (suc i) h = get_left xs ys i (omega arith)

get_right : (xs ys : List ℕ) (i k : ℕ) → k ≡ length xs + i → slice_get (xs ++ ys) k ≡ slice_get ys i
get_right [] ys i k e = ap (slice_get ys) (omega arith)
get_right (x ∷ xs) ys i zero e = absurd (omega arith)
get_right (x ∷ xs) ys i (suc k) e = get_right xs ys i k (omega arith)

get_take : (n : ℕ) (xs : List ℕ) (i : ℕ) → i < n → slice_get (take n xs) i ≡ slice_get xs i
get_take zero xs i h = absurd (omega arith)
get_take (suc n) [] i h = refl
get_take (suc n) (x ∷ xs) zero h = refl
get_take (suc n) (x ∷ xs) (suc i) h = get_take n xs i (omega arith)

get_drop : (n : ℕ) (xs : List ℕ) (i k : ℕ) → k ≡ n + i → slice_get (drop n xs) i ≡ slice_get xs k
get_drop zero xs i k e = ap (slice_get xs) (omega arith)
get_drop (suc n) [] i k e = refl
get_drop (suc n) (x ∷ xs) i zero e = absurd (omega arith)
get_drop (suc n) (x ∷ xs) i (suc k) e = get_drop n xs i k (omega arith)

-- the item i of a list after bytes were put into it
pub get_put : (at : ℕ) (new old : List ℕ) (i : ℕ) → at + length new ≤ length old
    → slice_get (put_at at new old) i ≡ cond (nat_le at i && nat_lt i (at + length new)) (slice_get new (i - at)) (slice_get old i)
get_put at new old i room = by (cases_lt i at) (cases_lt i (at + length new))
  where
    front : length (take at old) ≡ at
    front = length-take-le at old (omega arith)

    by : (i < at) ⊎ (at ≤ i) → (i < at + length new) ⊎ (at + length new ≤ i)
        → slice_get (put_at at new old) i ≡ cond (nat_le at i && nat_lt i (at + length new)) (slice_get new (i - at)) (slice_get old i)
    by (inl h) k =
        get_left (take at old) (new ++ drop (at + length new) old) i (omega (arith, front)) ∙ get_take at old i h
        ∙ sym (ap (λ b. cond (b && nat_lt i (at + length new)) (slice_get new (i - at)) (slice_get old i)) (lt-leb at i h))
    by (inr h) (inl k) =
        get_right (take at old) (new ++ drop (at + length new) old) (i - at) i (omega (arith, front)) ∙ get_left new (drop (at + length new) old) (i - at) (omega arith)
        ∙ sym (ap (λ b. cond (b && nat_lt i (at + length new)) (slice_get new (i - at)) (slice_get old i)) (le-leb at i h)
        ∙ ap (λ b. cond b (slice_get new (i - at)) (slice_get old i)) (lt-ltb i (at + length new) k))
    by (inr h) (inr k) =
        get_right (take at old) (new ++ drop (at + length new) old) (i - at) i (omega (arith, front))
        ∙ get_right new (drop (at + length new) old) (i - (at + length new)) (i - at) (omega arith)
        ∙ get_drop (at + length new) old (i - (at + length new)) i (omega arith)
        ∙ sym (ap (λ b. cond (b && nat_lt i (at + length new)) (slice_get new (i - at)) (slice_get old i)) (le-leb at i h)
        ∙ ap (λ b. cond b (slice_get new (i - at)) (slice_get old i)) (le-ltb i (at + length new) k))

-- what is left of a list is an item and the rest
pub at_drop : (ws : List ℕ) (u x : ℕ) (rest : List ℕ) → drop u ws ≡ x ∷ rest → (u < length ws) × (slice_get ws u ≡ Some x) × (drop (u + 1) ws ≡ rest)
at_drop [] zero x rest e = absurd (cc e)
at_drop [] (suc u) x rest e = absurd (cc e)
at_drop (w ∷ ws) zero x rest e = (omega arith, ap Some (cc e), cc e)
at_drop (w ∷ ws) (suc u) x rest e =
    let h = at_drop ws u x rest e in
    let more : suc u + 1 ≡ suc (u + 1) = omega arith in
    (omega (arith, h.0), h.1, ap (λ n. drop n (w ∷ ws)) more ∙ h.2)
