-- Words and numbers are runs of bytes.
use Rattle.std.proofs.Common.{◌≡◌, ◌<◌, ℕ, List, [], ◌∷◌, length, take, get_or, Bool, true, false, refl, arith, zero, suc}
use Rattle.std.proofs.lemmas.Bool.{and_parts, and_from, and_left, and_right}
use Rattle.c_lexer.specs.Forms.{runs_on}

-- get_or (a ∷ xs) n 0 is the byte before the position n
pub run_more : (f : ℕ → ℕ → Bool) (a : ℕ) (xs : List ℕ) (n : ℕ) → n < length xs → runs_on f a (take n xs) ≡ true → f (get_or (a ∷ xs) n 0) (get_or xs n 0) ≡ true → runs_on f a (take (suc n) xs) ≡ true
run_more f a [] n l r e = absurd (omega arith)
run_more f a (x ∷ xs) zero l r e = and_from _ _ e refl
run_more f a (x ∷ xs) (suc n) l r e =
    let p = and_parts (f a x) (runs_on f x (take n xs)) r in
    and_from _ _ p.0 (run_more f x xs n (omega arith) p.1 e)

pub run_ends : (f : ℕ → ℕ → Bool) (a : ℕ) (xs : List ℕ) (n m : ℕ) → n < length xs → n < m → f (get_or (a ∷ xs) n 0) (get_or xs n 0) ≡ false → runs_on f a (take m xs) ≡ false
run_ends f a [] n m l k e = absurd (omega arith)
run_ends f a (x ∷ xs) n zero l k e = absurd (omega arith)
run_ends f a (x ∷ xs) zero (suc m) l k e = and_left (f a x) (runs_on f x (take m xs)) e
run_ends f a (x ∷ xs) (suc n) (suc m) l k e =
    and_right (f a x) (runs_on f x (take m xs)) (run_ends f x xs n m (omega arith) (omega arith) e)
