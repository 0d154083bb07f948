-- A row comes to the same in two memories that have the same at the locations that it reads.
use Rattle.std.proofs.Common.{◌≡◌, refl, ap, ◌∙◌, inl, inr}
use Rattle.actions.specs.Memory.{Memory, Location, SameAt}
use Rattle.actions.specs.Row.{Row, comes, sees_object, sees_bytes, sees_thread, outcome_in, Reads, LooksAlone}

pub looks_alone : LooksAlone
looks_alone = λ row m n. go row m n
  where
    go : (row : Row) (m n : Memory) → ((l : Location) → Reads m row l → SameAt m n l) → outcome_in m row ≡ outcome_in n row
    go (comes o) m n same = refl
    go (sees_object number next) m n same = go (next _) m n (λ l r. same l (inr r)) ∙ ap (λ s. outcome_in n (next s)) (same _ (inl refl))
    go (sees_bytes p k next) m n same = go (next _) m n (λ l r. same l (inr r)) ∙ ap (λ s. outcome_in n (next s)) (same _ (inl refl))
    go (sees_thread number next) m n same = go (next _) m n (λ l r. same l (inr r)) ∙ ap (λ s. outcome_in n (next s)) (same _ (inl refl))
