-- The threads that drew, among the lists of all inputs.
use Rattle.std.proofs.Common.{◌≡◌, ℕ, suc, ◌<◌, ◌^◌, true, false, cond, eqb, List, [], ◌∷◌, ◌++◌, length, map, Some, All, Fits, get_or, w64, sym, refl, ap, ◌∙◌, subst, arith}
use Rattle.std.proofs.lemmas.List.{append-nil}
use Rattle.std.proofs.lemmas.List.Elements.{All-nil, All-cons, All-head}
use Rattle.std.specs.List.{flat_map}
use Rattle.std.proofs.lemmas.Bool.Decides.{nat_tests}
use Rattle.std.proofs.lemmas.Bool.{false≢true}
use Rattle.std.specs.Prelude.{unwrap_or, nat_lt, ◌==◌}
use Rattle.std.specs.List.{AllByRecursion}
use Rattle.std.specs.List.Sorted.{IsStrictlySortedBy}
use Rattle.std.specs.declared.cmp.Ordering.{Ordering}
use Rattle.std.specs.declared.cmp.Ordering.TheVariants.{Less, Equal, Greater}
use Rattle.std.specs.Ordering.{nat_cmp}
use Rattle.std.specs.Map.{lookup}
use Rattle.std.specs.BTreeMap.{is_at}
use Rattle.interleave.specs.Inputs.{InputLists, words_of}
use Rattle.report.specs.Report.{AreRising, IsDrawn, inputs_line}
use Rattle.report.specs.Failing.{drew}

-- all threads of the entries are above k
abbrev AreAbove : ℕ → InputLists → Type 0
AreAbove k [] = Unit {0}
AreAbove k (e ∷ es) = (k < e.0) × AreAbove k es

abbrev pub AreSorted : InputLists → Type 0
AreSorted [] = Unit {0}
AreSorted (e ∷ es) = AreAbove e.0 es × AreSorted es

less_is : (x y : ℕ) → nat_cmp x y ≡ Less → x < y
less_is x y e = elim (nat_lt x y) as (λ b. nat_lt x y ≡ b → cond b Less (cond (eqb x y) Equal Greater) ≡ Less → x < y) [
  | true ↦ λ t h. grind (arith, nat_tests)
  | false ↦ λ t h. elim (eqb x y) as (λ b. cond {A = Ordering} b Equal Greater ≡ Less → x < y) [ true ↦ λ g. cc | false ↦ λ g. cc ] h
] refl e

all_above : (k : ℕ) (es : InputLists) → AllByRecursion (λ y. nat_cmp k y ≡ Less) (map (λ (e : ℕ × List ℕ). e.0) es) → AreAbove k es
all_above k [] a = tt
all_above k (e ∷ es) a = (less_is k e.0 a.0, all_above k es a.1)

pub are_sorted : (es : InputLists) → IsStrictlySortedBy nat_cmp (map (λ (e : ℕ × List ℕ). e.0) es) → AreSorted es
unfolding IsStrictlySortedBy
are_sorted [] a = tt
are_sorted (e ∷ es) a = (all_above e.0 es a.0, are_sorted es a.1)

drew_above : (k : ℕ) (es : InputLists) → AreAbove k es → AreAbove k (drew es)
drew_above k [] a = tt
drew_above k (e ∷ es) a = elim (nat_lt 0 (length e.1)) as (λ b. AreAbove k (cond b (e ∷ drew es) (drew es))) [ true ↦ (a.0, drew_above k es a.1) | false ↦ drew_above k es a.1 ]

drew_sorted : (es : InputLists) → AreSorted es → AreSorted (drew es)
drew_sorted [] a = tt
drew_sorted (e ∷ es) a = elim (nat_lt 0 (length e.1)) as (λ b. AreSorted (cond b (e ∷ drew es) (drew es))) [ true ↦ (drew_above e.0 es a.0, drew_sorted es a.1) | false ↦ drew_sorted es a.1 ]

sorted_rising : (es : InputLists) → AreSorted es → AreRising es
sorted_rising [] a = tt
sorted_rising (e ∷ []) a = tt
sorted_rising (e ∷ f ∷ es) a = (a.0.0, sorted_rising (f ∷ es) a.1)

pub drew_rising : (es : InputLists) → AreSorted es → AreRising (drew es)
drew_rising es a = sorted_rising (drew es) (drew_sorted es a)

-- ---- the words of each thread

not_at : (t k : ℕ) → t < k → is_at (nat_cmp t) k ≡ false
not_at t k lt = let yes : nat_lt t k ≡ true = grind (arith, nat_tests) in rw yes refl

at_is : (t k : ℕ) → is_at (nat_cmp t) k ≡ true → t ≡ k
at_is t k h = elim (nat_lt t k) as (λ b. is_at (λ _. cond b Less (cond (eqb t k) Equal Greater)) k ≡ true → t ≡ k) [
  | true ↦ λ g. absurd (false≢true g)
  | false ↦ λ g. elim (eqb t k) as (λ b. eqb t k ≡ b → is_at (λ _. cond b Equal Greater) k ≡ true → t ≡ k) [ true ↦ λ e x. grind (arith, nat_tests) | false ↦ λ e x. absurd (false≢true x) ] refl g
] h

none_above : (t : ℕ) (es : InputLists) → AreAbove t es → words_of es t ≡ []
none_above t [] a = refl
none_above t (e ∷ es) a = rw (not_at t e.0 a.0) (none_above t es a.1)

empty_is : (xs : List ℕ) → nat_lt 0 (length xs) ≡ false → xs ≡ []
empty_is [] h = refl
empty_is (x ∷ xs) h = let yes : nat_lt 0 (length (x ∷ xs)) ≡ true = grind (arith, nat_tests) in absurd (false≢true (sym h ∙ yes))

-- where the first entry is dropped
dropped : (t : ℕ) (e : ℕ × List ℕ) (es : InputLists) → e.1 ≡ [] → AreAbove e.0 es → words_of (drew es) t ≡ words_of es t → words_of (drew es) t ≡ words_of (e ∷ es) t
dropped t e es empty above same = elim (is_at (nat_cmp t) e.0) as (λ b. is_at (nat_cmp t) e.0 ≡ b → words_of (drew es) t ≡ unwrap_or (cond b (Some e.1) (lookup (is_at (nat_cmp t)) es)) []) [
  | true ↦ λ h. let k = at_is t e.0 h in none_above t (drew es) (drew_above t es (subst (λ n. AreAbove n es) (sym k) above)) ∙ sym empty
  | false ↦ λ h. same
] refl

kept : (t : ℕ) (e : ℕ × List ℕ) (es fs : InputLists) → words_of fs t ≡ words_of es t → words_of (e ∷ fs) t ≡ words_of (e ∷ es) t
kept t e es fs same = elim (is_at (nat_cmp t) e.0) as (λ b. unwrap_or (cond b (Some e.1) (lookup (is_at (nat_cmp t)) fs)) [] ≡ unwrap_or (cond b (Some e.1) (lookup (is_at (nat_cmp t)) es)) []) [ true ↦ refl | false ↦ same ]

pub drew_same : (es : InputLists) → AreSorted es → (t : ℕ) → words_of (drew es) t ≡ words_of es t
drew_same [] a t = refl
drew_same (e ∷ es) a t = elim (nat_lt 0 (length e.1)) as (λ b. nat_lt 0 (length e.1) ≡ b → words_of (cond b (e ∷ drew es) (drew es)) t ≡ words_of (e ∷ es) t) [
  | true ↦ λ h. kept t e es (drew es) (drew_same es a.1 t)
  | false ↦ λ h. dropped t e es (empty_is e.1 h) a.0 (drew_same es a.1 t)
] refl

-- ---- one thread after the other

words_fit : (words : List ℕ) → ((i : ℕ) → Fits w64 (get_or words i 0)) → All (λ w. w < 2 ^ 64) words
words_fit [] fit = All-nil (λ w. w < 2 ^ 64)
words_fit (w ∷ words) fit = All-cons (λ w. w < 2 ^ 64) w words (omega (arith, fit 0)) (words_fit words (λ i. fit (suc i)))

some_drawn : (t w : ℕ) (words : List ℕ) → drew ((t, w ∷ words) ∷ []) ≡ (t, w ∷ words) ∷ []
some_drawn t w words = let yes : nat_lt 0 (length (w ∷ words)) ≡ true = grind (arith, nat_tests) in rw yes refl

pub drawn_fit : (t : ℕ) (words : List ℕ) → t < 2 ^ 32 → ((i : ℕ) → Fits w64 (get_or words i 0)) → All IsDrawn (drew ((t, words) ∷ []))
drawn_fit t [] lt fit = All-nil IsDrawn
drawn_fit t (w ∷ words) lt fit =
    subst (All IsDrawn) (sym (some_drawn t w words)) (All-cons IsDrawn (t, w ∷ words) [] (record { thread = lt; some = omega arith; words = words_fit (w ∷ words) fit }) (All-nil IsDrawn))

-- the drawn words of all threads fit, where those of the first one and those of the others do
pub drawn_both : (e : ℕ × List ℕ) (es : InputLists) → All IsDrawn (drew (e ∷ [])) → All IsDrawn (drew es) → All IsDrawn (drew (e ∷ es))
drawn_both e es first rest = elim (nat_lt 0 (length e.1)) as (λ b. All IsDrawn (cond b (e ∷ []) []) → All IsDrawn (cond b (e ∷ drew es) (drew es))) [
  | true ↦ λ a. All-cons IsDrawn e (drew es) (All-head IsDrawn e [] a) rest
  | false ↦ λ a. rest
] first

-- ---- the lines of the words

pub emptied : (n : ℕ) → (n == 0) ≡ true → n ≡ 0
emptied n h = grind (arith, nat_tests)

pub filled : (n : ℕ) → (n == 0) ≡ false → 0 < n
filled n h = grind (arith, nat_tests)

pub no_line : (t : ℕ) (words : List ℕ) → length words ≡ 0 → flat_map inputs_line (drew ((t, words) ∷ [])) ≡ []
no_line t [] e = refl
no_line t (w ∷ words) e = absurd (omega (arith, e))

pub one_line : (t : ℕ) (words : List ℕ) → 0 < length words → flat_map inputs_line (drew ((t, words) ∷ [])) ≡ inputs_line (t, words)
one_line t [] some = absurd (omega (arith, some))
one_line t (w ∷ words) some = ap (flat_map inputs_line) (some_drawn t w words) ∙ append-nil (inputs_line (t, w ∷ words))

pub lines_both : (e : ℕ × List ℕ) (es : InputLists) → flat_map inputs_line (drew (e ∷ es)) ≡ flat_map inputs_line (drew (e ∷ [])) ++ flat_map inputs_line (drew es)
lines_both e es = elim (nat_lt 0 (length e.1)) as (λ b. flat_map inputs_line (cond b (e ∷ drew es) (drew es)) ≡ flat_map inputs_line (cond b (e ∷ []) []) ++ flat_map inputs_line (drew es)) [
  | true ↦ ap (λ (x : List ℕ). x ++ flat_map inputs_line (drew es)) (sym (append-nil (inputs_line e)))
  | false ↦ refl
]
