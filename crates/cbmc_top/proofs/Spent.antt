-- A log that has spent a budget is no refutation.
use Rattle.std.proofs.Common.{◌≡◌, ℕ, List, [], ◌∷◌, ◌++◌, sym, ◌∙◌, subst}
use Rattle.sat_form.specs.Satisfaction.{Literal}
use Rattle.sat_form.specs.Refutation.{AddsEmpty, IsRefutation}
use Rattle.sat_form.specs.Budget.{IsSpent}
use Rattle.sat_form.specs.declared.logs.Entry.{Entry}
use Rattle.sat_form.specs.declared.logs.Entry.TheVariants.{Added}
use Rattle.core_tree.specs.Trees.{TypedFile}
use Rattle.core_tree.specs.Ranges.{Limits}
use Rattle.run_search.specs.Clauses.{IsRefuted, IsUsedUp}
use Rattle.run_search.specs.declared.used.Used.{Used}

last_is : {A : Type 0} (xs ys : List A) (x y : A) → xs ++ x ∷ [] ≡ ys ++ y ∷ [] → x ≡ y
last_is [] [] x y e = cc
last_is [] (b ∷ []) x y e = cc
last_is [] (b ∷ (c ∷ ys)) x y e = cc
last_is (a ∷ []) [] x y e = cc
last_is (a ∷ (c ∷ xs)) [] x y e = cc
last_is (a ∷ xs) (b ∷ ys) x y e = last_is xs ys x y (cc)

-- the last entry of a log that has spent a budget adds a clause with literals, that of a refutation the one without
spent_refutes : (form : List (List Literal)) (log : List Entry) (n : ℕ) → IsSpent form log n → IsRefutation form log → ⊥
spent_refutes form log n s r =
    let before = s.ends.0 in
    let clause = s.ends.1 in
    let hints = s.ends.2 in
    let is : log ≡ before ++ Added clause hints ∷ [] = s.ends.3 in
    let last : Added clause hints ≡ r.ends.1 = last_is before r.ends.0 (Added clause hints) r.ends.1 (sym is ∙ r.ends.2) in
    let empty : clause ≡ [] = subst AddsEmpty (sym last) r.ends.3 in
    let unit = s.allowed before (Added clause hints) [] is in
    unit.some empty

pub both_spent : (limits : Limits) (m n : ℕ) (core others : TypedFile) (used other : Used) → used ≡ other → IsUsedUp limits m core used → IsRefuted limits n others other → ⊥
both_spent limits m n core others used other e u r =
    let here : IsRefuted limits n others used = subst (IsRefuted limits n others) (sym e) r in spent_refutes used.form.clauses used.log m u.spent here.refutes
