-- Lists without the elements that are marked.
use Rattle.std.specs.Prelude.{Bool, true, false, List, [], ◌∷◌}

-- the elements that aren't marked, in their order
abbrev pub unmarked : {A : Type 0} → List Bool → List A → List A
unmarked [] xs = xs
unmarked (mark ∷ marks) [] = []
unmarked (true ∷ marks) (x ∷ xs) = unmarked marks xs
unmarked (false ∷ marks) (x ∷ xs) = x ∷ unmarked marks xs
