-- What literals, clauses and forms are worth under an assignment.
use Rattle.std.proofs.Common.{◌≡◌, ◌≢◌, ℕ, ◌<◌, ◌≤◌, Bool, true, false, not, ◌&&◌, ◌||◌, List, [], ◌∷◌, ◌++◌, refl, sym, ap, ◌∙◌, map, arith, eq-eqb, ne_eqb}
use Rattle.std.specs.Prelude.{if◌then◌else◌}
use Rattle.std.specs.List.{list_all}
use Rattle.std.proofs.lemmas.Bool.{and_parts, and_from}
use Rattle.std.proofs.lemmas.List.Folds.{list_all-append}
use Rattle.sat_form.specs.Satisfaction.{Literal, inverse_of, literal_value, clause_value, Satisfies, IsWithin, AreWithin, AgreeBelow, with_value}

inverted : (x n : Bool) → (if not n then not x else x) ≡ not (if n then not x else x)
inverted true true = refl
inverted true false = refl
inverted false true = refl
inverted false false = refl

-- the inverse of a literal is true exactly where the literal is false
pub literal_value-inverse_of : (a : ℕ → Bool) (l : Literal) → literal_value a (inverse_of l) ≡ not (literal_value a l)
literal_value-inverse_of a l = inverted (a l.variable) l.negated

not-not : (b : Bool) → not (not b) ≡ b
not-not true = refl
not-not false = refl

pub inverse_of-inverse_of : (l : Literal) → inverse_of (inverse_of l) ≡ l
inverse_of-inverse_of l = λ k. record { variable = l.variable; negated = not-not l.negated k }

-- a form with more clauses at its end
pub Satisfies-append : (a : ℕ → Bool) (xs ys : List (List Literal)) → Satisfies a xs → Satisfies a ys → Satisfies a (xs ++ ys)
Satisfies-append a xs ys first second = list_all-append (clause_value a) xs ys ∙ and_from _ _ first second

-- an assignment that satisfies a form satisfies what stands at its front
pub Satisfies-front : (a : ℕ → Bool) (xs ys : List (List Literal)) → Satisfies a (xs ++ ys) → Satisfies a xs
Satisfies-front a xs ys all = (and_parts _ _ (sym (list_all-append (clause_value a) xs ys) ∙ all)).0

-- .. and what stands at its back
pub Satisfies-back : (a : ℕ → Bool) (xs ys : List (List Literal)) → Satisfies a (xs ++ ys) → Satisfies a ys
Satisfies-back a xs ys all = (and_parts _ _ (sym (list_all-append (clause_value a) xs ys) ∙ all)).1

-- one more clause at the end
pub Satisfies-push : (a : ℕ → Bool) (xs : List (List Literal)) (c : List Literal) → Satisfies a xs → clause_value a c ≡ true → Satisfies a (xs ++ c ∷ [])
Satisfies-push a xs c first last = Satisfies-append a xs (c ∷ []) first (and_from _ _ last refl)

-- the last clause of a satisfied form is true
pub clause_value-last : (a : ℕ → Bool) (xs : List (List Literal)) (c : List Literal) → Satisfies a (xs ++ c ∷ []) → clause_value a c ≡ true
clause_value-last a xs c all = (and_parts _ _ (Satisfies-back a xs (c ∷ []) all)).0

-- assignments that agree below n give the same truth to literals, clauses and forms within n
pub literal_value-agree : (n : ℕ) (a b : ℕ → Bool) (l : Literal) → AgreeBelow n a b → l.variable < n → literal_value a l ≡ literal_value b l
literal_value-agree n a b l agree within = ap (λ x. if l.negated then not x else x) (agree l.variable within)

pub clause_value-agree : (n : ℕ) (a b : ℕ → Bool) (c : List Literal) → AgreeBelow n a b → IsWithin n c → clause_value a c ≡ clause_value b c
clause_value-agree n a b [] agree within = refl
clause_value-agree n a b (l ∷ ls) agree within =
    λ k. literal_value-agree n a b l agree within.0 k || clause_value-agree n a b ls agree within.1 k

pub list_all-agree : (n : ℕ) (a b : ℕ → Bool) (cs : List (List Literal)) → AgreeBelow n a b → AreWithin n cs → list_all (clause_value a) cs ≡ list_all (clause_value b) cs
list_all-agree n a b [] agree within = refl
list_all-agree n a b (c ∷ cs) agree within =
    λ k. clause_value-agree n a b c agree within.0 k && list_all-agree n a b cs agree within.1 k

pub Satisfies-agree : (n : ℕ) (a b : ℕ → Bool) (cs : List (List Literal)) → AgreeBelow n a b → AreWithin n cs → Satisfies a cs → Satisfies b cs
Satisfies-agree n a b cs agree within all = sym (list_all-agree n a b cs agree within) ∙ all

-- the truth of a list of literals
pub map-literal_value-agree : (n : ℕ) (a b : ℕ → Bool) (ls : List Literal) → AgreeBelow n a b → IsWithin n ls → map (literal_value a) ls ≡ map (literal_value b) ls
map-literal_value-agree n a b [] agree within = refl
map-literal_value-agree n a b (l ∷ ls) agree within =
    λ k. literal_value-agree n a b l agree within.0 k ∷ map-literal_value-agree n a b ls agree within.1 k

-- agreement
pub AgreeBelow-refl : (n : ℕ) (a : ℕ → Bool) → AgreeBelow n a a
AgreeBelow-refl n a = λ v below. refl

pub AgreeBelow-sym : (n : ℕ) (a b : ℕ → Bool) → AgreeBelow n a b → AgreeBelow n b a
AgreeBelow-sym n a b agree = λ v below. sym (agree v below)

pub AgreeBelow-trans : (n m : ℕ) (a b c : ℕ → Bool) → n ≤ m → AgreeBelow n a b → AgreeBelow m b c → AgreeBelow n a c
AgreeBelow-trans n m a b c le first second =
    λ v below. first v below ∙ second v (omega arith)

pub AgreeBelow-weaker : (n m : ℕ) (a b : ℕ → Bool) → n ≤ m → AgreeBelow m a b → AgreeBelow n a b
AgreeBelow-weaker n m a b le agree = λ v below. agree v (omega arith)

-- the value given to a variable, and those that stay
pub with_value-same : (a : ℕ → Bool) (n : ℕ) (b : Bool) → with_value a n b n ≡ b
with_value-same a n b = ap (λ t. if t then b else a n) (eq-eqb n n refl)

pub with_value-other : (a : ℕ → Bool) (n : ℕ) (b : Bool) (v : ℕ) → v ≢ n → with_value a n b v ≡ a v
with_value-other a n b v other = ap (λ t. if t then b else a v) (ne_eqb v n other)

pub AgreeBelow-with_value : (a : ℕ → Bool) (n : ℕ) (b : Bool) → AgreeBelow n a (with_value a n b)
AgreeBelow-with_value a n b = λ v below. sym (with_value-other a n b v (omega arith))
