-- The cells, and the numbers of the registers and blocks that they belong to.
use Rattle.std.proofs.Common.{◌≡◌, ℕ, zero, suc, ◌+◌, ◌-◌, ◌<◌, ◌≤◌, List, [], ◌∷◌, ◌++◌, length, take, inl, inr, refl, sym, ap, ◌∙◌, arith}
use Rattle.std.specs.Prelude.{slice_index, slice_index_or, replicate}
use Rattle.std.proofs.lemmas.Bool.{cases_lt}
use Rattle.std.proofs.lemmas.List.{length-append, length-replicate, get_or-replicate, get_or-append-add, get_or-append_right}
use Rattle.std.proofs.Math.ListN.{get_or-append}
use Rattle.c_types.specs.declared.integers.IntegerType.TheVariants as types
use Rattle.goto_prog.specs.CodeThread.{Listing}
use Rattle.guarded_ssa.specs.inner.Held.{total, cells, counted, owners_from, owners}

-- ---- numbers one behind the other

one_more : (k n m : ℕ) → n ≡ suc m → counted k n ≡ k ∷ counted (suc k) m
one_more k n m e = ap (counted k) e

append_one : (xs : List ℕ) (x : ℕ) (ys : List ℕ) → (xs ++ x ∷ []) ++ ys ≡ xs ++ x ∷ ys
append_one [] x ys = refl
append_one (z ∷ xs) x ys = ap (λ zs. z ∷ zs) (append_one xs x ys)

pub counted_more : (xs new all : List ℕ) (k count : ℕ) → k < count → new ≡ xs ++ k ∷ [] → xs ++ counted k (count - k) ≡ all → new ++ counted (k + 1) (count - (k + 1)) ≡ all
counted_more xs new all k count lt is so =
    let m = count - (k + 1) in
    let next : k + 1 ≡ suc k = omega arith in
    (λ i. is i ++ counted (next i) m) ∙ append_one xs k (counted (suc k) m) ∙ ap (λ ys. xs ++ ys) (sym (one_more k (count - k) m (omega (arith, lt)))) ∙ so

counted_length : (k n : ℕ) → length (counted k n) ≡ n
counted_length k zero = refl
counted_length k (suc n) = ap suc (counted_length (suc k) n)

counted_at : (k n c : ℕ) → c < n → slice_index (counted k n) c ≡ k + c
counted_at k zero c lt = absurd (omega (arith, lt))
counted_at k (suc n) zero lt = let here : k ≡ k + 0 = omega arith in here
counted_at k (suc n) (suc c) lt = let here : slice_index (counted (suc k) n) c ≡ k + suc c = omega (arith, counted_at (suc k) n c (omega (arith, lt))) in here

-- ---- owners

owners_length : (k : ℕ) (sizes : List ℕ) → length (owners_from k sizes) ≡ total sizes
owners_length k [] = refl
owners_length k (n ∷ sizes) =
    let here : length (replicate n k ++ owners_from (suc k) sizes) ≡ n + total sizes = omega (arith, length-append (replicate n k) (owners_from (suc k) sizes), length-replicate n k, owners_length (suc k) sizes) in here

owner_at : (k : ℕ) (sizes : List ℕ) (b j : ℕ) → b < length sizes → j < slice_index sizes b → slice_index (owners_from k sizes) (total (take b sizes) + j) ≡ k + b
owner_at k [] b j lt in_ = absurd (omega (arith, lt))
owner_at k (n ∷ sizes) zero j lt in_ =
    let rest = owners_from (suc k) sizes in
    let at : 0 + j ≡ j = omega arith in
    let here : k ≡ k + 0 = omega arith in
    ap (slice_index (replicate n k ++ rest)) at ∙ get_or-append (replicate n k) rest 0 j (omega (arith, in_, length-replicate n k)) ∙ get_or-replicate n j k 0 in_ ∙ here
owner_at k (n ∷ sizes) (suc b) j lt in_ =
    let rest = owners_from (suc k) sizes in
    let m = total (take b sizes) + j in
    let at : n + total (take b sizes) + j ≡ length (replicate n k) + m = omega (arith, length-replicate n k) in
    let next : suc k + b ≡ k + suc b = omega arith in
    ap (slice_index (replicate n k ++ rest)) at ∙ get_or-append-add (replicate n k) rest m 0 ∙ owner_at (suc k) sizes b j (omega (arith, lt)) in_ ∙ next

owner_below : (k : ℕ) (sizes : List ℕ) (c : ℕ) → c < length (owners_from k sizes) → slice_index (owners_from k sizes) c < k + length sizes
owner_below k [] c lt = absurd (omega (arith, lt))
owner_below k (n ∷ sizes) c lt =
    let rest = owners_from (suc k) sizes in
    let size = length-replicate n k in
    elim (cases_lt c n) [
      | inl here ↦ omega (arith, get_or-append (replicate n k) rest 0 c (omega (arith, here, size)) ∙ get_or-replicate n c k 0 here)
      | inr behind ↦ omega (arith, get_or-append_right (replicate n k) rest n c 0 size behind, owner_below (suc k) sizes (c - n) (omega (arith, lt, behind, size, length-append (replicate n k) rest)))
    ]

-- ---- of code

module _ (code : Listing) where
  abbrev pub R : ℕ
  R = length code.registers

  pub cells_length : length (cells code) ≡ R + total code.blocks
  cells_length = length-append code.registers (replicate (total code.blocks) types.Char) ∙ ap (λ n. R + n) (length-replicate (total code.blocks) types.Char)

  pub register_type : (r : ℕ) → r < R → slice_index_or (cells code) r types.Int ≡ slice_index_or code.registers r types.Int
  register_type r lt = get_or-append code.registers (replicate (total code.blocks) types.Char) types.Int r lt

  pub byte_type : (c : ℕ) → R ≤ c → c < R + total code.blocks → slice_index_or (cells code) c types.Int ≡ types.Char
  byte_type c le lt =
      get_or-append_right code.registers (replicate (total code.blocks) types.Char) R c types.Int refl le ∙ get_or-replicate (total code.blocks) (c - R) types.Char types.Int (omega (arith, le, lt))

  pub all_owners : length (owners code) ≡ length (cells code)
  all_owners = omega (arith, length-append (counted 0 R) (owners_from R code.blocks), counted_length 0 R, owners_length R code.blocks, cells_length)

  pub register_owner : (r : ℕ) → r < R → slice_index (owners code) r ≡ r
  register_owner r lt = get_or-append (counted 0 R) (owners_from R code.blocks) 0 r (omega (arith, lt, counted_length 0 R)) ∙ counted_at 0 R r lt ∙ (let same : 0 + r ≡ r = omega arith in same)

  pub byte_owner : (b c : ℕ) → b < length code.blocks → R + total (take b code.blocks) ≤ c → c < R + total (take b code.blocks) + slice_index code.blocks b → slice_index (owners code) c ≡ R + b
  byte_owner b c there le lt =
      let start = total (take b code.blocks) in
      let j = c - (R + start) in
      let at : c - R ≡ start + j = omega (arith, le) in
      get_or-append_right (counted 0 R) (owners_from R code.blocks) R c 0 (counted_length 0 R) (omega (arith, le)) ∙ ap (slice_index (owners_from R code.blocks)) at ∙ owner_at R code.blocks b j there (omega (arith, le, lt))

  pub owner_there : (c : ℕ) → c < length (owners code) → slice_index (owners code) c < R + length code.blocks
  owner_there c lt =
      elim (cases_lt c R) [
        | inl front ↦ omega (arith, register_owner c front, front)
        | inr behind ↦ omega (arith, get_or-append_right (counted 0 R) (owners_from R code.blocks) R c 0 (counted_length 0 R) behind, owner_below R code.blocks (c - R) (omega (arith, lt, behind, length-append (counted 0 R) (owners_from R code.blocks), counted_length 0 R)))
      ]
