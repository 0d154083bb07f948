use Rattle.std.proofs.Common.{◌≡◌, ℕ, ◌<◌, Bool, false, Some, None, length, get_or}
use Rattle.std.specs.Prelude.{option_map}
use Rattle.cdcl_core.specs.declared.trail.Mark.{Mark}
use Rattle.cdcl_core.proofs.trail.Trail.assignment.Given as goal

abbrev pub invariant-loop-mark : goal.invariant-loop-mark
invariant-loop-mark l =
    (length l.values.items ≡ l.mark-index)
    × ((v : ℕ) (b : Bool) → v < l.mark-index → option_map (λ (m : Mark). m.value) (get_or l.mark-items v None) ≡ Some b → get_or l.values.items v false ≡ b)
    × ((v : ℕ) → v < l.mark-index → option_map (λ (m : Mark). m.value) (get_or l.mark-items v None) ≡ None → get_or l.values.items v false ≡ false)
