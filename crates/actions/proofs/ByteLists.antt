-- Lists of bytes, and what stays one.
use Rattle.std.proofs.Common.{◌≡◌, ℕ, ◌<◌, Bool, true, suc, zero, ◌&&◌, List, [], ◌∷◌, take, drop, get_or, Fits, w8, arith, refl}
use Rattle.std.proofs.lemmas.Bool.{lt-ltb}
use Rattle.std.proofs.lemmas.Grind.{common_steps}
use Rattle.actions.specs.ByteList.{are_bytes}

both : (a b : Bool) → a ≡ true → b ≡ true → (a && b) ≡ true
both a b p q = grind (arith, common_steps)

pub are_bytes-fits : (xs : List ℕ) → ((i : ℕ) → Fits w8 (get_or xs i 0)) → are_bytes xs ≡ true
are_bytes-fits [] fit = refl
are_bytes-fits (x ∷ xs) fit =
    let below : x < 256 = omega (arith, fit 0) in both _ _ (lt-ltb x 256 below) (are_bytes-fits xs (λ i. fit (suc i)))

front : (a b : Bool) → (a && b) ≡ true → a ≡ true
front a b p = grind (arith, common_steps)

back : (a b : Bool) → (a && b) ≡ true → b ≡ true
back a b p = grind (arith, common_steps)

pub are_bytes-take : (n : ℕ) (xs : List ℕ) → are_bytes xs ≡ true → are_bytes (take n xs) ≡ true
are_bytes-take zero xs p = refl
are_bytes-take (suc n) [] p = refl
are_bytes-take (suc n) (x ∷ xs) p = both _ _ (front _ _ p) (are_bytes-take n xs (back _ _ p))

pub are_bytes-drop : (n : ℕ) (xs : List ℕ) → are_bytes xs ≡ true → are_bytes (drop n xs) ≡ true
are_bytes-drop zero xs p = p
are_bytes-drop (suc n) [] p = refl
are_bytes-drop (suc n) (x ∷ xs) p = are_bytes-drop n xs (back _ _ p)

pub are_bytes-part : (at n : ℕ) (xs : List ℕ) → are_bytes xs ≡ true → are_bytes (take n (drop at xs)) ≡ true
are_bytes-part at n xs p = are_bytes-take n (drop at xs) (are_bytes-drop at xs p)
