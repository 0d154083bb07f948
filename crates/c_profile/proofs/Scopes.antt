-- The labels that come into scope within a block stand behind those of its start.
use Rattle.std.proofs.Common.{◌≡◌, ℕ, List, [], ◌∷◌, ◌++◌, take, length, refl, ap, subst, ◌∙◌}
use Rattle.std.specs.Prelude.{Result, IfOk}
use Rattle.core_tree.specs.Trees.{Items, done, declares, initializes, initializes_structure, does, label, case_at, default_at}
use Rattle.c_profile.specs.Rules.{labels_from}

abbrev own : Items → List ℕ
own items = labels_from items []

take_front : (outer more : List ℕ) → take (length outer) (outer ++ more) ≡ outer
take_front [] more = refl
take_front (x ∷ outer) more = ap (λ xs. x ∷ xs) (take_front outer more)

append_one : (xs ys : List ℕ) (n : ℕ) → (xs ++ ys) ++ n ∷ [] ≡ xs ++ (ys ++ n ∷ [])
append_one [] ys n = refl
append_one (x ∷ xs) ys n = ap (λ zs. x ∷ zs) (append_one xs ys n)

append_nil : (xs : List ℕ) → xs ≡ xs ++ []
append_nil [] = refl
append_nil (x ∷ xs) = ap (λ zs. x ∷ zs) (append_nil xs)

behind : (items : Items) (outer : List ℕ) → labels_from items outer ≡ outer ++ own items
behind done outer = append_nil outer
behind (declares line v rest) outer = behind rest outer
behind (initializes line v drawn e rest) outer = behind rest outer
behind (initializes_structure line v drawn a rest) outer = behind rest outer
behind (does s rest) outer = behind rest outer
behind (label n rest) outer = ap (λ xs. xs ++ n ∷ []) (behind rest outer) ∙ append_one outer (own rest) n
behind (case_at line t bits rest) outer = behind rest outer
behind (default_at line rest) outer = behind rest outer

pub outer_labels : (items : Items) (outer : List ℕ) → take (length outer) (labels_from items outer) ≡ outer
outer_labels items outer = ap (take (length outer)) (behind items outer) ∙ take_front outer (own items)

pub same_ok : {X E : Type 0} (r : Result X E) (a b : X) → a ≡ b → IfOk r (λ x. x ≡ a) → IfOk r (λ x. x ≡ b)
same_ok r a b e h = subst (λ y. IfOk r (λ x. x ≡ y)) e h
