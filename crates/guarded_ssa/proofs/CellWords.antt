-- The words of cells, each of which has a node or is 0.
use Rattle.std.proofs.Common.{◌≡◌, ℕ, zero, suc, ◌+◌, ◌<◌, ◌≤◌, Bool, true, false, List, [], ◌∷◌, ◌++◌, ◌-◌, length, Option, refl, sym, ap, ◌∙◌, arith}
use Rattle.std.specs.Prelude.{◌==◌, if◌then◌else◌, slice_set, slice_index}
use Rattle.std.proofs.lemmas.Bool.Decides.{nat_tests}
use Rattle.std.proofs.lemmas.List.{append-nil}
use Rattle.c_types.specs.declared.integers.IntegerType.{IntegerType}
use Rattle.word_dag.specs.declared.nodes.Id.{Id}
use Rattle.guarded_ssa.specs.inner.Registers.{word_or_0, words_from, id_or, ids_from}

-- ---- tests

pub if_true : {X : Type 0} (b : Bool) (x y : X) → b ≡ true → (if b then x else y) ≡ x
if_true b x y h = λ i. if h i then x else y

pub if_false : {X : Type 0} (b : Bool) (x y : X) → b ≡ false → (if b then x else y) ≡ y
if_false b x y h = λ i. if h i then x else y

pub is_same : (m n : ℕ) → m ≡ n → (m == n) ≡ true
is_same m n h = grind (arith, nat_tests)

pub are_same : (m n : ℕ) → (m == n) ≡ true → m ≡ n
are_same m n h = grind (arith, nat_tests)

pub is_below : (m n : ℕ) → m < n → (m == n) ≡ false
is_below m n h = grind (arith, nat_tests)

pub is_above : (m n : ℕ) → n < m → (m == n) ≡ false
is_above m n h = grind (arith, nat_tests)

-- ---- the words of all cells

module _ (f : Id → ℕ) where
  pub all_words : (g : ℕ → Option Id) (k : ℕ) (ts : List IntegerType) → length (words_from f g k ts) ≡ length ts
  all_words g k [] = refl
  all_words g k (t ∷ ts) = ap suc (all_words g (suc k) ts)

  words_at : (g : ℕ → Option Id) (k r : ℕ) (ts : List IntegerType) → r < length ts → slice_index (words_from f g k ts) r ≡ word_or_0 f (g (k + r))
  words_at g k r [] lt = absurd (omega (arith, lt))
  words_at g k zero (t ∷ ts) lt = (let e : k ≡ k + 0 = omega arith in ap (λ n. word_or_0 f (g n)) e)
  words_at g k (suc r) (t ∷ ts) lt = words_at g (suc k) r ts (omega (arith, lt)) ∙ (let e : suc k + r ≡ k + suc r = omega arith in ap (λ n. word_or_0 f (g n)) e)

  pub words_first : (g : ℕ → Option Id) (r : ℕ) (ts : List IntegerType) → r < length ts → slice_index (words_from f g 0 ts) r ≡ word_or_0 f (g r)
  words_first g r ts lt = words_at g 0 r ts lt ∙ (let e : 0 + r ≡ r = omega arith in ap (λ n. word_or_0 f (g n)) e)

  pub words_behind : (g : ℕ → Option Id) (k r : ℕ) (ts : List IntegerType) → length ts ≤ r → slice_index (words_from f g k ts) r ≡ 0
  words_behind g k r [] le = refl
  words_behind g k zero (t ∷ ts) le = absurd (omega (arith, le))
  words_behind g k (suc r) (t ∷ ts) le = words_behind g (suc k) r ts (omega (arith, le))

  -- one of them is set
  words_past : (g h : ℕ → Option Id) (k r x : ℕ) (ts : List IntegerType) → r < k → ((n : ℕ) → word_or_0 f (h n) ≡ (if r == n then x else word_or_0 f (g n))) → words_from f h k ts ≡ words_from f g k ts
  words_past g h k r x [] lt same = refl
  words_past g h k r x (t ∷ ts) lt same =
      let a = same k ∙ if_false (r == k) x (word_or_0 f (g k)) (is_below r k lt) in let b = words_past g h (suc k) r x ts (omega (arith, lt)) same in λ i. a i ∷ b i

  pub registers_set : (g h : ℕ → Option Id) (k r x : ℕ) (ts : List IntegerType) → ((n : ℕ) → word_or_0 f (h n) ≡ (if k + r == n then x else word_or_0 f (g n))) → words_from f h k ts ≡ slice_set (words_from f g k ts) r x
  registers_set g h k r x [] same = refl
  registers_set g h k zero x (t ∷ ts) same =
      let a = same k ∙ if_true (k + 0 == k) x (word_or_0 f (g k)) (is_same (k + 0) k (omega arith)) in
      let b = words_past g h (suc k) (k + 0) x ts (omega arith) same in
      λ i. a i ∷ b i
  registers_set g h k (suc r) x (t ∷ ts) same =
      let a = same k ∙ if_false (k + suc r == k) x (word_or_0 f (g k)) (is_above (k + suc r) k (omega arith)) in
      let e : k + suc r ≡ suc k + r = omega arith in
      let b = registers_set g h (suc k) r x ts (λ n. same n ∙ ap (λ (m : ℕ). if m == n then x else word_or_0 f (g n)) e) in
      λ i. a i ∷ b i

-- ---- the nodes of cells that follow one another

one_more : (g : ℕ → Option Id) (other : Id) (r n m : ℕ) → n ≡ suc m → ids_from g other r n ≡ id_or other (g r) ∷ ids_from g other (suc r) m
one_more g other r n m e = ap (ids_from g other r) e

append_one : (xs : List Id) (x : Id) (ys : List Id) → (xs ++ x ∷ []) ++ ys ≡ xs ++ x ∷ ys
append_one [] x ys = refl
append_one (z ∷ xs) x ys = ap (λ zs. z ∷ zs) (append_one xs x ys)

pub ids_none : (g : ℕ → Option Id) (other : Id) (at count k : ℕ) (ids : List Id) → k ≡ 0 → ids ≡ [] → ids ++ ids_from g other (at + k) (count - k) ≡ ids_from g other at count
ids_none g other at count k ids k_is none =
    let here : at + k ≡ at = omega (arith, k_is) in
    let all : count - k ≡ count = omega (arith, k_is) in
    λ i. none i ++ ids_from g other (here i) (all i)

pub ids_more : (g : ℕ → Option Id) (other id : Id) (at count k : ℕ) (ids new all : List Id) → k < count → id ≡ id_or other (g (at + k)) → new ≡ ids ++ id ∷ [] → ids ++ ids_from g other (at + k) (count - k) ≡ all
    → new ++ ids_from g other (at + (k + 1)) (count - (k + 1)) ≡ all
ids_more g other id at count k ids new all lt id_is is so =
    let m = count - (k + 1) in
    let next : at + (k + 1) ≡ suc (at + k) = omega arith in
    (λ i. is i ++ ids_from g other (next i) m) ∙ append_one ids id (ids_from g other (suc (at + k)) m) ∙ ap (λ (x : Id). ids ++ x ∷ ids_from g other (suc (at + k)) m) id_is
    ∙ ap (λ ys. ids ++ ys) (sym (one_more g other (at + k) (count - k) m (omega (arith, lt)))) ∙ so

pub ids_all : (g : ℕ → Option Id) (other : Id) (at count k : ℕ) (ids all : List Id) → count ≤ k → ids ++ ids_from g other (at + k) (count - k) ≡ all → ids ≡ all
ids_all g other at count k ids all le so =
    let none : count - k ≡ 0 = omega (arith, le) in
    sym (ap (λ n. ids ++ ids_from g other (at + k) n) none ∙ append-nil ids) ∙ so

-- the same in two graphs
pub words_same : (f f' : Id → ℕ) (g h : ℕ → Option Id) (k : ℕ) (ts : List IntegerType) → ((c : ℕ) → k ≤ c → c < k + length ts → word_or_0 f' (h c) ≡ word_or_0 f (g c)) → words_from f' h k ts ≡ words_from f g k ts
words_same f f' g h k [] same = refl
words_same f f' g h k (t ∷ ts) same =
    let a = same k (omega arith) (omega arith) in
    let b = words_same f f' g h (suc k) ts (λ c le lt. same c (omega (arith, le)) (omega (arith, lt))) in
    λ i. a i ∷ b i
