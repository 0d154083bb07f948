-- Elements at places of lists that were written or made longer.
use Rattle.std.proofs.Common.{◌≡◌, ◌≢◌, ℕ, zero, suc, ◌+◌, ◌-◌, ◌<◌, ◌≤◌, ◌⊎◌, inl, inr, List, [], ◌∷◌, ◌++◌, length, get_or, set, take, refl, sym, ap, ◌∙◌, arith}
use Rattle.std.specs.Prelude.{Some, slice_get}
use Rattle.std.specs.List.{swap_remove}
use Rattle.std.proofs.lemmas.Bool.{cases_lt, cases_eq}
use Rattle.std.proofs.lemmas.Option.{slice_get_within, slice_get-get_or, get_or_from_slice_get}
use Rattle.std.proofs.lemmas.List.{get_or-set_same, get_or-set_other, get_or-take, length-take-le, length-set, take_more}
use Rattle.std.proofs.Math.Seq.{take-length}
use Rattle.sat_form.proofs.Databases.{slice_get-front, slice_get-back}

pub some_same : {X : Type 0} → (x y : X) → Some x ≡ Some y → x ≡ y
some_same x y e = cc

pub slice_get-one : {X : Type 0} → (xs : List X) (k : ℕ) (x y : X) → slice_get xs k ≡ Some x → slice_get xs k ≡ Some y → x ≡ y
slice_get-one xs k x y first second = some_same x y (sym first ∙ second)

pub slice_get-at : {X : Type 0} → (xs : List X) (i : ℕ) (x : X) → i < length xs → get_or xs i x ≡ x → slice_get xs i ≡ Some x
slice_get-at xs i x within is = slice_get-get_or xs i x within ∙ ap Some is

pub slice_get-more : {X : Type 0} → (xs ys : List X) (k : ℕ) (x : X) → slice_get xs k ≡ Some x → slice_get (xs ++ ys) k ≡ Some x
slice_get-more xs ys k x found = slice_get-front xs ys k (slice_get_within xs k x found) ∙ found

pub slice_get-new : {X : Type 0} → (xs : List X) (x : X) → slice_get (xs ++ x ∷ []) (length xs) ≡ Some x
slice_get-new xs x =
    let none : length xs - length xs ≡ 0 = omega arith in
    slice_get-back xs (x ∷ []) (length xs) (omega arith) ∙ ap (slice_get (x ∷ [])) none

-- an element of a list with one more is an old one or the last
pub slice_get-cases : {X : Type 0} → (xs : List X) (x y : X) (k : ℕ) → slice_get (xs ++ x ∷ []) k ≡ Some y → (slice_get xs k ≡ Some y) ⊎ ((k ≡ length xs) × (y ≡ x))
slice_get-cases [] x y zero found = inr (refl, cc)
slice_get-cases [] x y (suc k) found = cc
slice_get-cases (z ∷ zs) x y zero found = inl found
slice_get-cases (z ∷ zs) x y (suc k) found =
    elim (slice_get-cases zs x y k found) [ inl old ↦ inl old | inr new ↦ inr (ap suc new.0, new.1) ]

-- elements at one place of two lists
pub slice_get-both_cases :
    {X Y : Type 0} → (xs : List X) (ys : List Y) (x z : X) (y w : Y) (k : ℕ) → length ys ≡ length xs →
    slice_get (xs ++ x ∷ []) k ≡ Some z → slice_get (ys ++ y ∷ []) k ≡ Some w →
    ((slice_get xs k ≡ Some z) × (slice_get ys k ≡ Some w)) ⊎ ((k ≡ length ys) × (z ≡ x) × (w ≡ y))
slice_get-both_cases xs ys x z y w k same first second =
    elim (slice_get-cases xs x z k first) [
      | inl old ↦ elim (slice_get-cases ys y w k second) [
        | inl old' ↦ inl (old, old')
        | inr new' ↦ absurd (omega (arith, slice_get_within xs k z old, new'.0))
      ]
      | inr new ↦ elim (slice_get-cases ys y w k second) [
        | inl old' ↦ absurd (omega (arith, slice_get_within ys k w old', new.0))
        | inr new' ↦ inr (new'.0, new.1, new'.1)
      ]
    ]

pub slice_get-set_same : {X : Type 0} → (xs : List X) (i : ℕ) (x : X) → i < length xs → slice_get (set xs i x) i ≡ Some x
slice_get-set_same xs i x within = slice_get-at (set xs i x) i x (rw length-set within) (get_or-set_same xs i x x within)

pub slice_get-set_other : {X : Type 0} → (xs : List X) (i j : ℕ) (x : X) → j ≢ i → slice_get (set xs i x) j ≡ slice_get xs j
slice_get-set_other [] i j x other = refl
slice_get-set_other (y ∷ ys) zero zero x other = absurd (other refl)
slice_get-set_other (y ∷ ys) zero (suc j) x other = refl
slice_get-set_other (y ∷ ys) (suc i) zero x other = refl
slice_get-set_other (y ∷ ys) (suc i) (suc j) x other = slice_get-set_other ys i j x (λ e. other (ap suc e))

pub read_at : {X : Type 0} → (xs : List X) (k : ℕ) (x : X) → slice_get xs k ≡ Some x → x ≡ get_or xs k x
read_at xs k x found = sym (get_or_from_slice_get xs k x x found)

-- a list without the element at a place
pub length-swap_remove : {X : Type 0} → (xs : List X) (at : ℕ) (d : X) → at < length xs → length (swap_remove xs at d) + 1 ≡ length xs
length-swap_remove xs at d within =
    let fits : length xs - 1 ≤ length (set xs at (get_or xs (length xs - 1) d)) = rw length-set (omega arith) in
    omega (arith, length-take-le (length xs - 1) (set xs at (get_or xs (length xs - 1) d)) fits)

swap_remove-other : {X : Type 0} → (xs : List X) (at i : ℕ) (d e : X) → at < length xs → i ≢ at → i + 1 < length xs → get_or (swap_remove xs at d) i e ≡ get_or xs i e
swap_remove-other xs at i d e within other before =
    get_or-take (length xs - 1) (set xs at (get_or xs (length xs - 1) d)) i e (omega arith)
    ∙ get_or-set_other xs at i (get_or xs (length xs - 1) d) e other

swap_remove-here : {X : Type 0} → (xs : List X) (at : ℕ) (d e : X) → at + 1 < length xs → get_or (swap_remove xs at d) at e ≡ get_or xs (length xs - 1) d
swap_remove-here xs at d e before =
    get_or-take (length xs - 1) (set xs at (get_or xs (length xs - 1) d)) at e (omega arith)
    ∙ get_or-set_same xs at (get_or xs (length xs - 1) d) e (omega arith)

-- where an element stands
pub record StandsFrom {X : Type 0} (from : ℕ) (xs : List X) (x : X) : Type 0 where
  pub place : ℕ
  pub after : from ≤ place
  pub is : slice_get xs place ≡ Some x

-- another element stays, and none comes before the place
pub stands-swap_remove :
    {X : Type 0} → (xs : List X) (at from i : ℕ) (d x : X) → at < length xs → from ≤ at → from ≤ i → i ≢ at → slice_get xs i ≡ Some x → StandsFrom from (swap_remove xs at d) x
stands-swap_remove xs at from i d x within low after other found =
    let inside : i < length xs = slice_get_within xs i x found in
    let shorter : length (swap_remove xs at d) + 1 ≡ length xs = length-swap_remove xs at d within in
    elim (cases_lt (i + 1) (length xs)) [
      | inl before ↦
          record {
            place = i;
            after = after;
            is = slice_get-at (swap_remove xs at d) i x (omega arith) (swap_remove-other xs at i d x within other before ∙ get_or_from_slice_get xs i x x found);
          }
      | inr last ↦
          let end : length xs - 1 ≡ i = omega arith in
          let before : at + 1 < length xs = omega (arith, other) in
          record {
            place = at;
            after = low;
            is = slice_get-at (swap_remove xs at d) at x (omega arith)
                (swap_remove-here xs at d x before ∙ ap (λ k. get_or xs k d) end ∙ get_or_from_slice_get xs i x d found);
          }
    ]

-- each element is an old one
pub from-swap_remove : {X : Type 0} → (xs : List X) (at i : ℕ) (d x : X) → at < length xs → slice_get (swap_remove xs at d) i ≡ Some x → StandsFrom 0 xs x
from-swap_remove xs at i d x within found =
    let shorter : length (swap_remove xs at d) + 1 ≡ length xs = length-swap_remove xs at d within in
    let inside : i < length (swap_remove xs at d) = slice_get_within (swap_remove xs at d) i x found in
    let read : get_or (swap_remove xs at d) i x ≡ x = get_or_from_slice_get (swap_remove xs at d) i x x found in
    elim (cases_eq i at) [
      | inl here ↦
          let before : at + 1 < length xs = omega (arith, inside, shorter, here) in
          let last : get_or (swap_remove xs at d) at x ≡ x = ap (λ k. get_or (swap_remove xs at d) k x) (sym here) ∙ read in
          record {
            place = length xs - 1;
            after = omega arith;
            is = slice_get-get_or xs (length xs - 1) d (omega arith) ∙ ap Some (sym (swap_remove-here xs at d x before) ∙ last);
          }
      | inr other ↦
          record {
            place = i;
            after = omega arith;
            is = slice_get-at xs i x (omega (arith, inside, shorter)) (sym (swap_remove-other xs at i d x within other (omega (arith, inside, shorter))) ∙ read);
          }
    ]

pub take-all : {X : Type 0} → (xs : List X) (n : ℕ) → length xs ≡ n → take n xs ≡ xs
take-all xs n all = ap (λ k. take k xs) (sym all) ∙ take-length xs

-- one more element of a list
pub take-read : {X : Type 0} → (xs : List X) (i : ℕ) (x : X) → i < length xs → x ≡ get_or xs i x → take (i + 1) xs ≡ take i xs ++ x ∷ []
take-read xs i x within read = take_more xs i x within ∙ (λ k. take i xs ++ (sym read k) ∷ [])
