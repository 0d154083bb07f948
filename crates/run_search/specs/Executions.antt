-- The executions of a program.
use Rattle.std.specs.Prelude.{◌≡◌, ℕ, true}
use Rattle.core_tree.specs.Trees.{TypedFile}
use Rattle.core_tree.specs.Ranges.{Limits}
use Rattle.interleave.specs.World.{World}
use Rattle.interleave.specs.Replay.{IsSafe}
use Rattle.c_meaning.specs.Source.{source_world}
use Rattle.c_interp.specs.Unlimited as unlimited

-- where the runs under these bounds begin
abbrev pub bounded_world : Limits → TypedFile → World
bounded_world limits core = source_world core limits

-- where the runs without bounds on loops and activations begin, in which a turn that needs more than so many silent steps changes nothing
abbrev pub unlimited_world : Limits → TypedFile → (silent_steps : ℕ) → World
unlimited_world limits core q = unlimited.unlimited_world core limits q

-- No inputs and no schedule break a check: not within the bounds, and with unwinding assertions not at all, however many silent steps a turn may make.
pub record IsVerified (limits : Limits) (core : TypedFile) : Type 0 where
  pub within : IsSafe (bounded_world limits core)
  pub at_all : limits.assertions ≡ true → (silent_steps : ℕ) → IsSafe (unlimited_world limits core silent_steps)
