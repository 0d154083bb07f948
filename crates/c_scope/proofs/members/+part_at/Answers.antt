use Rattle.std.proofs.Common.{◌≡◌, ◌<◌, ℕ, false, List, [], ◌∷◌, length, arith}
use Rattle.std.specs.Prelude.{◌==◌}
use Rattle.std.proofs.lemmas.List.{length-drop, length-take}
use Rattle.c_scope.proofs.members.+part_at.Goals as goal

some : (xs : List ℕ) → false ≡ (length xs == 0) → 0 < length xs
some [] h = let none : ⊥ = cc in absurd none
some (x ∷ xs) h = omega arith

pub part_at-requires : goal.part_at-requires
part_at-requires t c = let left = some c.args.path.now c.if-is_empty.ensures in (omega (arith, left, length-drop {A = ℕ}, length-take {A = ℕ}), tt)
