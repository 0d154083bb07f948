-- The greater sizes at each place.
use Rattle.std.proofs.Common.{◌≡◌, ℕ, zero, suc, ◌+◌, ◌<◌, ◌≤◌, List, [], ◌∷◌, take, set, length, refl, sym, ap, ◌∙◌, arith}
use Rattle.std.specs.Prelude.{max, slice_index, Result, Ok, Err, IfOk}
use Rattle.std.proofs.lemmas.List.{take_all}
use Rattle.c_temporaries.specs.Temporaries.{Temporaries, greater, no_temporaries, both}

pub greater_none : (xs : List ℕ) → greater xs [] ≡ xs
greater_none [] = refl
greater_none (x ∷ xs) = refl

-- one size more
pub raised : (xs ys : List ℕ) (n : ℕ) → n < length ys → length ys ≤ length xs
    → set (greater xs (take n ys)) n (max (slice_index (greater xs (take n ys)) n) (slice_index ys n)) ≡ greater xs (take (n + 1) ys)
raised xs [] n lt few = absurd (omega (arith, lt))
raised [] (y ∷ ys) n lt few = absurd (omega (arith, few))
raised (x ∷ xs) (y ∷ ys) zero lt few = ap (λ zs. max x y ∷ zs) (sym (greater_none xs))
raised (x ∷ xs) (y ∷ ys) (suc n) lt few =
    ap (λ zs. max x y ∷ zs) (raised xs ys n (omega (arith, lt)) (omega (arith, few))) ∙ (λ i. greater (x ∷ xs) (take (more i) (y ∷ ys)))
  where
    more : suc (n + 1) ≡ suc n + 1
    more = omega arith

pub raised_all : (xs ys : List ℕ) (n : ℕ) → length ys ≤ n → greater xs (take n ys) ≡ greater xs ys
raised_all xs ys n past = ap (greater xs) (take_all n ys past)

pub greater_swapped : (xs ys : List ℕ) → greater xs ys ≡ greater ys xs
greater_swapped [] [] = refl
greater_swapped [] (y ∷ ys) = refl
greater_swapped (x ∷ xs) [] = refl
greater_swapped (x ∷ xs) (y ∷ ys) = let same : max x y ≡ max y x = omega arith in λ i. same i ∷ greater_swapped xs ys i

-- nothing before others
pub none_first : (a : Temporaries) → both no_temporaries a ≡ a
none_first a =
    let zeros : max 0 a.zeros ≡ a.zeros = omega arith in
    let heap : max 0 a.heap ≡ a.heap = omega arith in
    λ i. record { zeros = zeros i; sizes = a.sizes; heap = heap i }

pub same_temporaries : {E : Type 0} (r : Result Temporaries E) (x y : Temporaries) → x ≡ y → IfOk r (λ a. a ≡ x) → IfOk r (λ a. a ≡ y)
same_temporaries (Ok a) x y same h = h ∙ same
same_temporaries (Err e) x y same h = h
