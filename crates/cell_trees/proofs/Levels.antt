-- Trees and their halves.
use Rattle.std.proofs.Common.{◌≡◌, ℕ, zero, suc, ◌+◌, ◌-◌, ◌/◌, ◌<◌, ◌≤◌, Bool, true, false, List, nat_lt, Option, None, refl, sym, ap, subst, ◌∙◌, arith}
use Rattle.std.specs.Prelude.{◌==◌, if◌then◌else◌}
use Rattle.std.proofs.lemmas.Bool.Decides.{nat_tests}
use Rattle.word_dag.specs.declared.nodes.Id.{Id}
use Rattle.cell_trees.specs.declared.arena.Halves.{Halves}
use Rattle.cell_trees.specs.declared.arena.Root.{Root}
use Rattle.cell_trees.specs.declared.arena.Root.TheVariants.{Empty}
use Rattle.cell_trees.specs.Trees.{span, halves, leaf, IsTree, looked_at}

-- ---- tests

pub if_true : {X : Type 0} (b : Bool) (x y : X) → b ≡ true → (if b then x else y) ≡ x
if_true b x y h = λ i. if h i then x else y

pub if_false : {X : Type 0} (b : Bool) (x y : X) → b ≡ false → (if b then x else y) ≡ y
if_false b x y h = λ i. if h i then x else y

pub is_same : (m n : ℕ) → m ≡ n → (m == n) ≡ true
is_same m n h = grind (arith, nat_tests)

pub differs : (m n : ℕ) → (m ≡ n → ⊥) → (m == n) ≡ false
differs m n h = grind (arith, nat_tests)

is_less : (m n : ℕ) → m < n → nat_lt m n ≡ true
is_less m n h = grind (arith, nat_tests)

is_more : (m n : ℕ) → n ≤ m → nat_lt m n ≡ false
is_more m n h = grind (arith, nat_tests)

same_none : (b : Bool) → (if b then None else None) ≡ (let none : Option Id = None in none)
same_none true = refl
same_none false = refl

-- ---- one level

pub span_some : (k : ℕ) → 1 ≤ span k
span_some zero = omega arith
span_some (suc k) = let here : 1 ≤ span k + span k = omega (arith, span_some k) in here

-- a cell among the lower ones, and one among the upper ones
pub lower_cell : (fs : List Halves) (k : ℕ) (r : Root) (c : ℕ) → c < span k → looked_at fs (suc k) r c ≡ looked_at fs k (halves fs r).lower c
lower_cell fs k r c lt = if_true (nat_lt c (span k)) (looked_at fs k (halves fs r).lower c) (looked_at fs k (halves fs r).upper (c - span k)) (is_less c (span k) lt)

pub upper_cell : (fs : List Halves) (k : ℕ) (r : Root) (c : ℕ) → span k ≤ c → looked_at fs (suc k) r c ≡ looked_at fs k (halves fs r).upper (c - span k)
upper_cell fs k r c le = if_false (nat_lt c (span k)) (looked_at fs k (halves fs r).lower c) (looked_at fs k (halves fs r).upper (c - span k)) (is_more c (span k) le)

-- no cell behind the last, and none of the empty tree, is set
pub none_behind : (fs : List Halves) (k : ℕ) (r : Root) (c : ℕ) → span k ≤ c → looked_at fs k r c ≡ None
none_behind fs zero r c le = let some : 1 ≤ c = le in if_false (c == 0) (leaf r) None (differs c 0 (λ e. omega (arith, some, e)))
none_behind fs (suc k) r c le =
    let high : span k + span k ≤ c = le in
    upper_cell fs k r c (omega (arith, high)) ∙ none_behind fs k (halves fs r).upper (c - span k) (omega (arith, high))

pub none_set : (fs : List Halves) (k c : ℕ) → looked_at fs k Empty c ≡ None
none_set fs zero c = same_none (c == 0)
none_set fs (suc k) c =
    let a = none_set fs k c in
    let b = none_set fs k (c - span k) in
    (λ i. if nat_lt c (span k) then a i else b i) ∙ same_none (nat_lt c (span k))

pub empty_there : (fs : List Halves) (k : ℕ) → IsTree fs k Empty
empty_there fs zero = tt
empty_there fs (suc k) = (tt, empty_there fs k, empty_there fs k)

-- ---- as the code counts levels

pub half_size : (n size : ℕ) → 0 < n → size ≡ span n → size / 2 ≡ span (n - 1)
half_size zero size lt is = absurd (omega (arith, lt))
half_size (suc k) size lt is = let here : size ≡ span k + span k = is in let same : suc k - 1 ≡ k = omega arith in subst (λ m. size / 2 ≡ span m) (sym same) (let half : size / 2 ≡ span k = omega (arith, here) in half)

pub whole_size : (n half : ℕ) → 0 < n → half ≡ span (n - 1) → half + half ≡ span n
whole_size zero half lt is = absurd (omega (arith, lt))
whole_size (suc k) half lt is =
    let same : suc k - 1 ≡ k = omega arith in
    let here : half ≡ span k = is ∙ ap span same in
    let whole : half + half ≡ span k + span k = omega (arith, here) in whole

pub look_lower : (fs : List Halves) (n m half : ℕ) (r : Root) (c : ℕ) → 0 < n → m ≡ n - 1 → half ≡ span m → c < half → looked_at fs m (halves fs r).lower c ≡ looked_at fs n r c
look_lower fs zero m half r c lt m_is half_is below = absurd (omega (arith, lt))
look_lower fs (suc k) m half r c lt m_is half_is below =
    let same : m ≡ k = omega (arith, m_is) in
    ap (λ j. looked_at fs j (halves fs r).lower c) same ∙ sym (lower_cell fs k r c (omega (arith, below, half_is, ap span same)))

pub look_upper : (fs : List Halves) (n m half : ℕ) (r : Root) (c : ℕ) → 0 < n → m ≡ n - 1 → half ≡ span m → half ≤ c → looked_at fs m (halves fs r).upper (c - half) ≡ looked_at fs n r c
look_upper fs zero m half r c lt m_is half_is above = absurd (omega (arith, lt))
look_upper fs (suc k) m half r c lt m_is half_is above =
    let same : m ≡ k = omega (arith, m_is) in
    let half_same : half ≡ span k = half_is ∙ ap span same in
    (λ i. looked_at fs (same i) (halves fs r).upper (c - half_same i)) ∙ sym (upper_cell fs k r c (omega (arith, above, half_same)))

-- the halves of a tree are trees
pub halves_there : (fs : List Halves) (n : ℕ) (r : Root) → 0 < n → IsTree fs n r → IsTree fs (n - 1) (halves fs r).lower × IsTree fs (n - 1) (halves fs r).upper
halves_there fs zero r lt tree = absurd (omega (arith, lt))
halves_there fs (suc k) r lt tree =
    let same : suc k - 1 ≡ k = omega arith in
    (subst (λ m. IsTree fs m (halves fs r).lower) (sym same) tree.1, subst (λ m. IsTree fs m (halves fs r).upper) (sym same) tree.2)
