-- Literals of consecutive variables, list after list.
use Rattle.std.proofs.Common.{◌≡◌, ℕ, zero, suc, ◌+◌, ◌<◌, ◌≤◌, List, [], ◌∷◌, ◌++◌, length, get_or, refl, sym, ap, ◌∙◌, subst, arith, below_more}
use Rattle.std.proofs.Common.{inl, inr}
use Rattle.std.proofs.lemmas.Bool.{cases_lt}
use Rattle.std.proofs.lemmas.List.{get_or_append_left, get_or_push, get_or_past, length_push}
use Rattle.sat_form.specs.Satisfaction.{Literal, Form, IsWithin, AreWithin}
use Rattle.bit_blast.specs.Numbers.{literals_at}
use Rattle.bit_blast.specs.Variables.{plain, plain_literals, AreConsecutive}

pub length-plain_literals : (a n : ℕ) → length (plain_literals a n) ≡ n
length-plain_literals a zero = refl
length-plain_literals a (suc n) = ap (λ (m : ℕ). suc m) (length-plain_literals (a + 1) n)

pub plain_literals-more : (a n : ℕ) → plain_literals a (n + 1) ≡ plain_literals a n ++ plain (a + n) ∷ []
plain_literals-more a zero = let q : a ≡ a + 0 = omega arith in λ k. plain (q k) ∷ []
plain_literals-more a (suc n) =
    let q : a + 1 + n ≡ a + suc n = omega arith in
    let r : suc n + 1 ≡ suc (n + 1) = omega arith in
    (λ k. plain_literals a (r k)) ∙ (λ k. plain a ∷ plain_literals-more (a + 1) n k) ∙ (λ k. plain a ∷ (plain_literals (a + 1) n ++ plain (q k) ∷ []))

pub fresh_more : (f g h : Form) (n : ℕ) (ls new : List Literal) (l : Literal) → ls ≡ plain_literals f.variables n → g ≡ record f { variables = f.variables + n } → l ≡ plain g.variables → new ≡ ls ++ l ∷ [] → h ≡ record g { variables = g.variables + 1 } → (new ≡ plain_literals f.variables (n + 1)) × (h ≡ record f { variables = f.variables + (n + 1) })
fresh_more f g h n ls new l p e q r s =
    let m : f.variables + n + 1 ≡ f.variables + (n + 1) = omega arith in (
      r ∙ (λ k. p k ++ (q ∙ ap (λ (e : Form). plain e.variables) e) k ∷ []) ∙ sym (plain_literals-more f.variables n),
      s ∙ ap (λ (e : Form). record e { variables = e.variables + 1 }) e ∙ (λ k. record f { variables = m k }),
    )

pub IsWithin-plain_literals : (a n m : ℕ) → a + n ≤ m → IsWithin m (plain_literals a n)
IsWithin-plain_literals a zero m l = tt
IsWithin-plain_literals a (suc n) m l = (omega arith, IsWithin-plain_literals (a + 1) n m (omega arith))

pub AreConsecutive-more : (a : ℕ) (lists : List (List Literal)) (b n : ℕ) → AreConsecutive a lists b → AreConsecutive a (lists ++ plain_literals b n ∷ []) (b + n)
AreConsecutive-more a [] b n h =
    let e : length (plain_literals b n) ≡ n = length-plain_literals b n in
    ((λ k. plain_literals (sym h k) (sym e k)), omega arith)
AreConsecutive-more a (ls ∷ lists) b n h = (h.0, AreConsecutive-more (a + length ls) lists b n h.1)

-- the lists are within
pub AreConsecutive-ends : (a : ℕ) (lists : List (List Literal)) (b : ℕ) → AreConsecutive a lists b → a ≤ b
AreConsecutive-ends a [] b h = omega arith
AreConsecutive-ends a (ls ∷ lists) b h = let l = AreConsecutive-ends (a + length ls) lists b h.1 in omega arith

pub AreConsecutive-within : (a : ℕ) (lists : List (List Literal)) (b : ℕ) → AreConsecutive a lists b → AreWithin b lists
AreConsecutive-within a [] b h = tt
AreConsecutive-within a (ls ∷ lists) b h = (
  subst (IsWithin b) (sym h.0) (IsWithin-plain_literals a (length ls) b (AreConsecutive-ends (a + length ls) lists b h.1)),
  AreConsecutive-within (a + length ls) lists b h.1,
)

-- ---- list by list

pub record ListsTo (old new : Form) (widths : List ℕ) (i : ℕ) (lists : List (List Literal)) : Type 0 where
  pub count : length lists ≡ i
  pub consecutive : AreConsecutive old.variables lists new.variables
  pub clauses : new.clauses ≡ old.clauses
  pub wide : (k : ℕ) → k < i → length (literals_at lists k) ≡ get_or widths k 0

pub ListsTo-none : (f : Form) (widths : List ℕ) → ListsTo f f widths 0 []
ListsTo-none f widths = record { count = refl; consecutive = refl; clauses = refl; wide = λ k l. absurd (omega arith) }

pub ListsTo-more : (f g h : Form) (widths : List ℕ) (i : ℕ) (lists new : List (List Literal)) (ls : List Literal) → ListsTo f g widths i lists → i < length widths → ls ≡ plain_literals g.variables (get_or widths i 0) → h ≡ record g { variables = g.variables + get_or widths i 0 } → new ≡ lists ++ ls ∷ [] → ListsTo f h widths (i + 1) new
ListsTo-more f g h widths i lists new ls so l p q r =
    let w : ℕ = get_or widths i 0 in
    let P : ℕ → Type 0 = λ k. length (literals_at new k) ≡ get_or widths k 0 in
    let here : P i =
    ap (λ (ts : List (List Literal)). length (literals_at ts i)) r
    ∙ ap (λ (ts : List Literal). length ts) (get_or_push lists ls [] i so.count)
    ∙ ap (λ (ts : List Literal). length ts) p
    ∙ length-plain_literals g.variables w in
    record {
      count = ap (λ (ts : List (List Literal)). length ts) r ∙ length_push lists ls ∙ omega (arith, so.count);
      consecutive = subst (λ (ts : List (List Literal)). AreConsecutive f.variables ts h.variables) (sym r)
          (subst (λ (t : List Literal). AreConsecutive f.variables (lists ++ t ∷ []) h.variables) (sym p)
          (subst (AreConsecutive f.variables (lists ++ plain_literals g.variables w ∷ [])) (sym (ap (λ (e : Form). e.variables) q)) (AreConsecutive-more f.variables lists g.variables w so.consecutive)));
      clauses = ap (λ (e : Form). e.clauses) q ∙ so.clauses;
      wide = below_more P i (λ k m. ap (λ (ts : List (List Literal)). length (literals_at ts k)) r ∙ ap (λ (ts : List Literal). length ts) (get_or_append_left lists (ls ∷ []) [] k (omega (arith, so.count))) ∙ so.wide k m) here;
    }

pub ListsTo-all : (f g : Form) (widths : List ℕ) (i : ℕ) (lists : List (List Literal)) → ListsTo f g widths i lists → length widths ≤ i → (k : ℕ) → length (literals_at lists k) ≡ get_or widths k 0
ListsTo-all f g widths i lists so l k = elim (cases_lt k i) [
  | inl m ↦ so.wide k m
  | inr m ↦ ap (λ (t : List Literal). length t) (get_or_past lists k [] (omega (arith, so.count))) ∙ sym (get_or_past widths k 0 (omega arith))
]
