-- Runs within larger bounds on loops and activations.
use Rattle.std.specs.Prelude.{◌≡◌, ◌≤◌, ℕ, Bool, true, List}
use Rattle.core_tree.specs.Ranges.{Limits, LoopLimit}
use Rattle.core_tree.specs.Trees.{TypedFile}
use Rattle.interleave.specs.Replay.{IsSafe}
use Rattle.c_meaning.specs.Source.{tests_in, source_world}

-- the same command with other bounds, of which passing one may break a check
abbrev pub with_bounds : Limits → (unwind : ℕ) → List LoopLimit → (assertions : Bool) → Limits
with_bounds limits unwind set assertions = record limits { unwind = unwind; set = set; assertions = assertions }

-- no function may have fewer activations open, and no test of a loop may be evaluated less often
pub record IsLarger (limits : Limits) (unwind : ℕ) (set : List LoopLimit) : Type 0 where
  pub activations : limits.unwind ≤ unwind
  pub loops : (function : List ℕ) (loop : ℕ) → tests_in limits.set limits.unwind function loop ≤ tests_in set unwind function loop

-- where passing a bound breaks a check and no run within the bounds breaks one, no run within larger bounds does, by the meaning of the file
abbrev pub SafeWithinMore : Type 0
SafeWithinMore =
    (file : TypedFile) (limits : Limits) (unwind : ℕ) (set : List LoopLimit) (assertions : Bool) → limits.assertions ≡ true → IsLarger limits unwind set
    → IsSafe (source_world file limits) → IsSafe (source_world file (with_bounds limits unwind set assertions))
