-- Clauses with each variable once.
use Rattle.std.proofs.Common.{◌≡◌, ◌≢◌, ℕ, ◌<◌, ◌≤◌, inl, inr, true, false, ◌||◌, List, [], ◌∷◌, ◌++◌, length, map, eqb, get_or, sym, ap, ◌∙◌, subst, arith}
use Rattle.std.specs.Prelude.{Contains}
use Rattle.std.specs.List.{list_any, IsDistinct, AllByRecursion}
use Rattle.std.proofs.lemmas.Bool.{eqb-true, eqb-false, false_from_ne_true, cases_Bool}
use Rattle.std.proofs.lemmas.Cmp.{nat_eq_equiv}
use Rattle.std.proofs.lemmas.List.{length-map, map_push}
use Rattle.std.proofs.lemmas.List.Elements.{recursion_from_All, Contains-get_or}
use Rattle.std.proofs.lemmas.Map.Keys.{IsDistinct-head, IsDistinct-tail, IsDistinct-push}
use Rattle.std.proofs.lemmas.Map.Steps.{length-le_from_distinct_below}
use Rattle.sat_form.specs.Satisfaction.{Literal, IsWithin}
use Rattle.sat_form.specs.Budget.{HasDistinctVariables}
use Rattle.sat_form.proofs.Databases.{Contains-head, Contains-tail, Contains-cons_cases}

abbrev pub variables_of : List Literal → List ℕ
variables_of clause = map (λ l. l.variable) clause

-- a literal of each variable that is found among a clause's
pub variable_found : (clause : List Literal) (v : ℕ) → list_any (eqb v) (variables_of clause) ≡ true → (l : Literal) × Contains clause l × (l.variable ≡ v)
variable_found [] v found = absurd (cc)
variable_found (l ∷ ls) v found =
    elim (cases_Bool (eqb v l.variable)) [
      | inl here ↦ (l, Contains-head l ls, sym (eqb-true v l.variable here))
      | inr other ↦
          let there : (m : Literal) × Contains ls m × (m.variable ≡ v) = variable_found ls v (sym (ap (λ t. t || list_any (eqb v) (variables_of ls)) other) ∙ found) in
          (there.0, Contains-tail l there.0 ls there.1, there.2)
    ]

pub IsDistinct-pushed :
    (clause : List Literal) (l : Literal) → IsDistinct eqb (variables_of clause) → ((m : Literal) → Contains clause m → m.variable ≢ l.variable) → IsDistinct eqb (variables_of (clause ++ l ∷ []))
IsDistinct-pushed clause l distinct others =
    subst (IsDistinct eqb) (sym (map_push (λ (x : Literal). x.variable) clause l))
    (IsDistinct-push nat_eq_equiv (variables_of clause) l.variable distinct (false_from_ne_true (list_any (eqb l.variable) (variables_of clause)) (λ found.
    let m : (x : Literal) × Contains clause x × (x.variable ≡ l.variable) = variable_found clause l.variable found in
    others m.0 m.1 m.2)))

-- there are at most as many literals as variables
pub length-distinct : (n : ℕ) (clause : List Literal) → IsDistinct eqb (variables_of clause) → ((l : Literal) → Contains clause l → l.variable < n) → length clause ≤ n
length-distinct n clause distinct within =
    subst (λ k. k ≤ n) (length-map clause (λ (l : Literal). l.variable))
    (length-le_from_distinct_below (variables_of clause) n distinct (λ q found.
    let m : (x : Literal) × Contains clause x × (x.variable ≡ q) = variable_found clause q found in
    subst (λ v. v < n) m.2 (within m.0 m.1)))

pub IsWithin-each : (n : ℕ) (clause : List Literal) → ((l : Literal) → Contains clause l → l.variable < n) → IsWithin n clause
IsWithin-each n clause within = recursion_from_All (λ (l : Literal). l.variable < n) clause (λ k d below. within (get_or clause k d) (Contains-get_or clause k d below))

apart_from_middle : (v : ℕ) (middle : List Literal) (m : Literal) (back : List Literal) → AllByRecursion (λ y. eqb v y ≡ false) (variables_of (middle ++ m ∷ back)) → v ≢ m.variable
apart_from_middle v [] m back all = eqb-false v m.variable all.0
apart_from_middle v (x ∷ middle) m back all = apart_from_middle v middle m back all.1

distinct_split : (front : List Literal) (l : Literal) (middle : List Literal) (m : Literal) (back : List Literal) → IsDistinct eqb (variables_of (front ++ l ∷ (middle ++ m ∷ back))) → l.variable ≢ m.variable
distinct_split [] l middle m back distinct = apart_from_middle l.variable middle m back (IsDistinct-head eqb l.variable (variables_of (middle ++ m ∷ back)) distinct)
distinct_split (x ∷ front) l middle m back distinct =
    distinct_split front l middle m back (IsDistinct-tail eqb x.variable (variables_of (front ++ l ∷ (middle ++ m ∷ back))) distinct)

pub HasDistinctVariables-from : (clause : List Literal) → IsDistinct eqb (variables_of clause) → HasDistinctVariables clause
HasDistinctVariables-from clause distinct = λ front l middle m back is.
    distinct_split front l middle m back (subst (λ (x : List Literal). IsDistinct eqb (variables_of x)) is distinct)

apart_from_each : (v : ℕ) (ls : List Literal) (m : Literal) → AllByRecursion (λ y. eqb v y ≡ false) (variables_of ls) → Contains ls m → v ≢ m.variable
apart_from_each v [] m all at = absurd (omega (arith, at.1))
apart_from_each v (l ∷ ls) m all at =
    elim (Contains-cons_cases l m ls at) [
      | inl here ↦ subst (λ (x : Literal). v ≢ x.variable) here (eqb-false v l.variable all.0)
      | inr there ↦ apart_from_each v ls m all.1 there
    ]

-- the first literal isn't among the others
pub not_among_others : (l : Literal) (ls : List Literal) (m : Literal) → IsDistinct eqb (variables_of (l ∷ ls)) → Contains ls m → m ≢ l
not_among_others l ls m distinct at = λ same.
    apart_from_each l.variable ls m (IsDistinct-head eqb l.variable (variables_of ls) distinct) at (ap (λ (x : Literal). x.variable) (sym same))
