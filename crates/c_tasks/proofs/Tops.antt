-- The last of the code's lists is the first of the definitions'.
use Rattle.std.proofs.Common.{◌≡◌, ℕ, List, [], ◌∷◌, ◌++◌, length, refl, ap, arith}
use Rattle.c_tasks.specs.declared.task.Task.{Task}
use Rattle.c_values.specs.Numbers.{TypedNumber}
use Rattle.c_tasks.specs.Items.{Item}
use Rattle.c_tasks.specs.Tasks.{item_of, items_in, values_in, structures_in}

pub values_push : (xs : List TypedNumber) (x : TypedNumber) → values_in (xs ++ x ∷ []) ≡ x ∷ values_in xs
values_push [] x = refl
values_push (y ∷ xs) x = ap (λ (vs : List TypedNumber). vs ++ y ∷ []) (values_push xs x)

pub items_push : (ts : List Task) (t : Task) → items_in (ts ++ t ∷ []) ≡ item_of t ∷ items_in ts
items_push [] t = refl
items_push (u ∷ ts) t = ap (λ (is : List Item). is ++ item_of u ∷ []) (items_push ts t)

pub no_tasks : (ts : List Task) → length ts ≡ 0 → ts ≡ []
no_tasks [] h = refl
no_tasks (t ∷ ts) h = absurd (omega arith)

pub no_values : (xs : List TypedNumber) → length xs ≡ 0 → xs ≡ []
no_values [] h = refl
no_values (x ∷ xs) h = absurd (omega arith)

pub structures_push : (bs : List (List ℕ)) (b : List ℕ) → structures_in (bs ++ b ∷ []) ≡ b ∷ structures_in bs
structures_push [] b = refl
structures_push (c ∷ bs) b = ap (λ (cs : List (List ℕ)). cs ++ c ∷ []) (structures_push bs b)

pub no_structures : (bs : List (List ℕ)) → length bs ≡ 0 → bs ≡ []
no_structures [] h = refl
no_structures (b ∷ bs) h = absurd (omega arith)
