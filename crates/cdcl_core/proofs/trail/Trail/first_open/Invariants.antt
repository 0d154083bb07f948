use Rattle.std.proofs.Common.{ℕ, ◌<◌, IsSome, get_or, None}
use Rattle.cdcl_core.proofs.trail.Trail.first_open.Given as goal

abbrev pub invariant-loop-variable : goal.invariant-loop-variable
invariant-loop-variable l = (v : ℕ) → v < l.variable → IsSome (get_or l.self-inside.marks.items v None)
