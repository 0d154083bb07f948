-- What the rounds of literals say of a set.
use Rattle.std.proofs.Common.{◌≡◌, ◌≢◌, ℕ, zero, suc, ◌+◌, ◌*◌, ◌<◌, Bool, true, false, List, [], ◌∷◌, length, map, get_or, set, take, drop, ◌++◌, refl, sym, ap, ◌∙◌, subst, arith, eq-eqb, ne_eqb}
use Rattle.std.specs.Prelude.{nat_eq, All, if◌then◌else◌}
use Rattle.std.proofs.Math.Seq.{take-append_seam}
use Rattle.std.proofs.lemmas.List.Elements.{All-head, All-tail}
use Rattle.sat_form.specs.Satisfaction.{Literal, index_of}

-- different literals have different indexes
pub index_of-injective : (l m : Literal) → index_of l ≡ index_of m → l ≡ m
index_of-injective l m equal =
    let same : (a b : Bool) (x y : ℕ) → 2 * x + (if a then 1 else 0) ≡ 2 * y + (if b then 1 else 0) → (x ≡ y) × (a ≡ b) = λ a b x y e. both a b x y e in
    let parts : (l.variable ≡ m.variable) × (l.negated ≡ m.negated) = same l.negated m.negated l.variable m.variable equal in
    λ k. record { variable = parts.0 k; negated = parts.1 k }
  where
    both : (a b : Bool) (x y : ℕ) → 2 * x + (if a then 1 else 0) ≡ 2 * y + (if b then 1 else 0) → (x ≡ y) × (a ≡ b)
    both true true x y e = (omega arith, refl)
    both true false x y e = absurd (omega arith)
    both false true x y e = absurd (omega arith)
    both false false x y e = (omega arith, refl)

-- the mark at a place, with the rounds as they are, and with the round of now put in
pub marked-here : (rs : List ℕ) (round i : ℕ) → i < length rs → get_or (map (λ r. nat_eq r round) (set rs i round)) i false ≡ true
marked-here [] round i within = absurd (omega arith)
marked-here (r ∷ rs) round zero within = eq-eqb round round refl
marked-here (r ∷ rs) round (suc i) within = marked-here rs round i (omega arith)

pub marked-other : (rs : List ℕ) (round i j : ℕ) → i ≢ j → get_or (map (λ r. nat_eq r round) (set rs i round)) j false ≡ get_or (map (λ r. nat_eq r round) rs) j false
marked-other [] round i j apart = refl
marked-other (r ∷ rs) round zero zero apart = absurd (apart refl)
marked-other (r ∷ rs) round zero (suc j) apart = refl
marked-other (r ∷ rs) round (suc i) zero apart = refl
marked-other (r ∷ rs) round (suc i) (suc j) apart = marked-other rs round i j (λ e. apart (ap suc e))

pub marked-none : (rs : List ℕ) (round i : ℕ) → All (λ r. r < round) rs → get_or (map (λ r. nat_eq r round) rs) i false ≡ false
marked-none [] round i past = refl
marked-none (r ∷ rs) round zero past = let less : r < round = All-head (λ r. r < round) r rs past in ne_eqb r round (λ e. absurd (omega arith))
marked-none (r ∷ rs) round (suc i) past = marked-none rs round i (All-tail (λ r. r < round) r rs past)

pub index_of-below : (l : Literal) (n places : ℕ) → l.variable < n → places ≡ 2 * n → index_of l < places
index_of-below l n places within is =
    elim l.negated as (λ b. 2 * l.variable + (if b then 1 else 0) < places) [ true ↦ omega arith | false ↦ omega arith ]

-- the rounds that were written over all of the old ones
pub All-refilled : (rs ss : List ℕ) (n m : ℕ) → length rs ≡ n → length ss ≡ length rs → All (λ r. r < m) ss → All (λ r. r < m) (take n (ss ++ drop (length ss) rs))
All-refilled rs ss n m len same later =
    subst (λ k. All (λ r. r < m) (take k (ss ++ drop (length ss) rs))) (same ∙ len) (subst (All (λ r. r < m)) (sym (take-append_seam ss (drop (length ss) rs))) later)
