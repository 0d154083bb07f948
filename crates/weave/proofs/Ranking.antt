-- Ranks in a strict order rise.
use Rattle.std.proofs.Common.{◌≡◌, ◌<◌, ◌≤◌, ◌+◌, ℕ, Bool, true, false, cond, List, [], ◌∷◌, length, inl, inr, refl, sym, ap, ◌∙◌, arith, true≢false}
use Rattle.weave.specs.Candidate.{In}
use Rattle.weave.specs.Ranks.{rank, IsStrict, RanksRise}

-- one more step of two counts
up : (a b : Bool) (m n : ℕ) → (a ≡ true → b ≡ true) → m ≤ n → cond a (m + 1) m ≤ cond b (n + 1) n
up true true m n h l = omega arith
up true false m n h l = absurd (true≢false (sym (h refl)))
up false true m n h l = omega arith
up false false m n h l = l

up_strict : (a b : Bool) (m n : ℕ) → (a ≡ true → b ≡ true) → m < n → cond a (m + 1) m < cond b (n + 1) n
up_strict true true m n h l = omega arith
up_strict true false m n h l = absurd (true≢false (sym (h refl)))
up_strict false true m n h l = omega arith
up_strict false false m n h l = l

up_first : (a b : Bool) (m n : ℕ) → a ≡ false → b ≡ true → m ≤ n → cond a (m + 1) m < cond b (n + 1) n
up_first true b m n e f l = absurd (true≢false e)
up_first false true m n e f l = omega arith
up_first false false m n e f l = absurd (true≢false (sym f))

at_most : (a : Bool) (m n : ℕ) → m ≤ n → cond a (m + 1) m ≤ n + 1
at_most true m n l = omega arith
at_most false m n l = omega arith

below_first : (a : Bool) (m n : ℕ) → a ≡ false → m ≤ n → cond a (m + 1) m < n + 1
below_first true m n e l = absurd (true≢false e)
below_first false m n e l = omega arith

below_next : (a : Bool) (m n : ℕ) → m < n → cond a (m + 1) m < n + 1
below_next true m n l = omega arith
below_next false m n l = omega arith

module _ {Id : Type 0} (first : Id → Id → Bool) (es : List Id) (strict : IsStrict first es) (x y : Id) (i : In x es) (j : In y es) (before : first x y ≡ true) where
  le : (zs : List Id) → ((z : Id) → In z zs → In z es) → rank first zs x ≤ rank first zs y
  le [] sub = omega arith
  le (z ∷ zs) sub = up (first z x) (first z y) (rank first zs x) (rank first zs y) (λ e. strict.transitive z x y (sub z (inl refl)) i j e before) (le zs (λ u k. sub u (inr k)))

  lt : (zs : List Id) → ((z : Id) → In z zs → In z es) → In x zs → rank first zs x < rank first zs y
  lt [] sub k = absurd k
  lt (z ∷ zs) sub (inl e) =
      up_first (first z x) (first z y) (rank first zs x) (rank first zs y) (ap (λ (u : Id). first u x) (sym e) ∙ strict.irreflexive x i) (ap (λ (u : Id). first u y) (sym e) ∙ before) (le zs (λ u l. sub u (inr l)))
  lt (z ∷ zs) sub (inr k) =
      up_strict (first z x) (first z y) (rank first zs x) (rank first zs y) (λ e. strict.transitive z x y (sub z (inl refl)) i j e before) (lt zs (λ u l. sub u (inr l)) k)

module _ {Id : Type 0} (first : Id → Id → Bool) (x : Id) (irreflexive : first x x ≡ false) where
  within : (zs : List Id) → rank first zs x ≤ length zs
  within [] = omega arith
  within (z ∷ zs) = omega (arith, at_most (first z x) (rank first zs x) (length zs) (within zs))

  below : (zs : List Id) → In x zs → rank first zs x < length zs
  below [] k = absurd k
  below (z ∷ zs) (inl e) = omega (arith, below_first (first z x) (rank first zs x) (length zs) (ap (λ (u : Id). first u x) (sym e) ∙ irreflexive) (within zs))
  below (z ∷ zs) (inr k) = omega (arith, below_next (first z x) (rank first zs x) (length zs) (below zs k))

pub ranks_rise : (Id : Type 0) → RanksRise Id
ranks_rise Id = λ first es strict. (
  (λ x y i j e. lt first es strict x y i j e es (λ z k. k) i),
  (λ x i. below first x (strict.irreflexive x i) es i),
)
