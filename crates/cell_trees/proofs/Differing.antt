-- Cells in which two trees differ.
use Rattle.std.proofs.Common.{◌≡◌, ℕ, zero, suc, ◌+◌, ◌-◌, ◌<◌, true, false, true≢false, List, [], ◌∷◌, ◌++◌, None, inl, inr, refl, sym, ap, ◌∙◌, arith}
use Rattle.std.specs.Prelude.{◌==◌}
use Rattle.std.proofs.lemmas.Bool.{cases_lt, cases_Bool}
use Rattle.cell_trees.specs.declared.arena.Halves.{Halves}
use Rattle.cell_trees.specs.declared.arena.Root.{Root}
use Rattle.cell_trees.specs.Trees.{span, halves, leaf, looked_at, among}
use Rattle.cell_trees.proofs.Levels.{if_true, if_false, is_same, differs, look_lower, look_upper}

among_front : (x c : ℕ) (xs : List ℕ) → among (x ∷ xs) c ≡ false → ((x == c) ≡ false) × (among xs c ≡ false)
among_front x c xs h =
    elim (cases_Bool (x == c)) [
      | inl on ↦ absurd (true≢false (sym (if_true (x == c) true (among xs c) on) ∙ h))
      | inr off ↦ (off, sym (if_false (x == c) true (among xs c) off) ∙ h)
    ]

pub among_more : (x c : ℕ) (xs : List ℕ) → among (xs ++ x ∷ []) c ≡ false → (among xs c ≡ false) × ((x == c) ≡ false)
among_more x c [] h = (refl, (among_front x c [] h).0)
among_more x c (y ∷ xs) h =
    let parts = among_front y c (xs ++ x ∷ []) h in
    let rest = among_more x c xs parts.1 in
    (if_false (y == c) true (among xs c) parts.0 ∙ rest.0, rest.1)

pub grown : (x c : ℕ) (xs ys : List ℕ) → ys ≡ xs ++ x ∷ [] → among ys c ≡ false → among xs c ≡ false
grown x c xs ys is h = (among_more x c xs (sym (ap (λ zs. among zs c) is) ∙ h)).0

-- two trees of one cell, which is among the cells
pub one_cell : (fs : List Halves) (n base : ℕ) (first second : Root) (xs ys : List ℕ) → n ≡ 0 → ys ≡ xs ++ base ∷ [] → (c : ℕ) → among ys (base + c) ≡ false → looked_at fs n first c ≡ looked_at fs n second c
one_cell fs zero base first second xs ys n_is is c h =
    elim (cases_lt 0 c) [
      | inl behind ↦ (let other = differs c 0 (λ e. omega (arith, behind, e)) in if_false (c == 0) (leaf first) None other ∙ sym (if_false (c == 0) (leaf second) None other))
      | inr here ↦ absurd (true≢false (sym (is_same base (base + c) (omega (arith, here))) ∙ (among_more base (base + c) xs (sym (ap (λ zs. among zs (base + c)) is) ∙ h)).1))
    ]
one_cell fs (suc k) base first second xs ys n_is is c h = absurd (omega (arith, n_is))

-- two trees whose halves were compared
pub both_halves : (fs : List Halves) (n m half base : ℕ) (first second : Root) (one other : Halves) (ys zs : List ℕ) → 0 < n → m ≡ n - 1 → half ≡ span m → one ≡ halves fs first → other ≡ halves fs second
    → ((c : ℕ) → among ys (base + c) ≡ false → looked_at fs m one.lower c ≡ looked_at fs m other.lower c)
    → ((c : ℕ) → among zs c ≡ false → among ys c ≡ false)
    → ((c : ℕ) → among zs (base + half + c) ≡ false → looked_at fs m one.upper c ≡ looked_at fs m other.upper c)
    → (c : ℕ) → among zs (base + c) ≡ false → looked_at fs n first c ≡ looked_at fs n second c
both_halves fs n m half base first second one other ys zs some m_is half_is one_is other_is lower grows upper c h =
    elim (cases_lt c half) [
      | inl low ↦ sym (look_lower fs n m half first c some m_is half_is low) ∙ sym (ap (λ (p : Halves). looked_at fs m p.lower c) one_is) ∙ lower c (grows (base + c) h) ∙ ap (λ (p : Halves). looked_at fs m p.lower c) other_is ∙ look_lower fs n m half second c some m_is half_is low
      | inr high ↦ (let at : base + half + (c - half) ≡ base + c = omega (arith, high) in
          sym (look_upper fs n m half first c some m_is half_is high) ∙ sym (ap (λ (p : Halves). looked_at fs m p.upper (c - half)) one_is) ∙ upper (c - half) (ap (among zs) at ∙ h)
          ∙ ap (λ (p : Halves). looked_at fs m p.upper (c - half)) other_is ∙ look_upper fs n m half second c some m_is half_is high)
    ]
