-- Runs without bounds on loops and activations.
use Rattle.std.specs.Prelude.{◌≡◌, ℕ, Bool, true, false, nat_lt, Option, Some, None, slice_get}
use Rattle.core_tree.specs.Ranges.{Limits}
use Rattle.core_tree.specs.Trees.{Procedure, TypedFile}
use Rattle.words.specs.declared.check.Class.TheVariants.{Assertion}
use Rattle.actions.specs.declared.action.Next.TheVariants.{Broken}
use Rattle.actions.specs.Behaviour.{Behaviour, Program, Thread}
use Rattle.interleave.specs.World.{World, first_world}
use Rattle.interleave.specs.Replay.{IsSafe}
use Rattle.c_meaning.specs.Meaning.{final}
use Rattle.c_meaning.specs.Source.{code_of, main_number, source_world, first_objects}
use Rattle.c_interp.specs.Small.{unbounded}
use Rattle.c_interp.specs.SourceThread.{start_state}

-- a thread that calls a function without arguments, where a turn may make so many silent steps: one that needs more changes nothing
abbrev pub unlimited_at : TypedFile → Limits → (silent_steps : ℕ) → (first : Bool) → (number : ℕ) → Option Procedure → Behaviour
unlimited_at file limits q first number None = final (Broken Assertion 1 number)
unlimited_at file limits q first number (Some f) = unbounded q (code_of file limits) first (start_state file limits number f.line)

-- the threads that it starts have no bounds either; a thread can be started in the functions with numbers below `startable`
abbrev pub unlimited_program : TypedFile → Limits → (silent_steps startable : ℕ) → Program
unlimited_program file limits q startable = record { can_start = λ f. nat_lt f startable; behaves = λ f v. unlimited_at file limits q false f (slice_get file.functions f) }

-- thread 0 without bounds; nothing starts a thread yet
abbrev pub unlimited_thread : TypedFile → Limits → ℕ → Thread
unlimited_thread file limits q = record {
  behaves = unlimited_at file limits q true (main_number file.functions) (slice_get file.functions (main_number file.functions));
  program = unlimited_program file limits q 0;
}

abbrev pub unlimited_world : TypedFile → Limits → ℕ → World
unlimited_world file limits q = first_world (unlimited_thread file limits q) (first_objects file)

-- where passing a bound breaks a check and no run within the bounds breaks one, no run without them does, however many silent steps its turns may make
abbrev pub SafeAtAll : Type 0
SafeAtAll = (file : TypedFile) (limits : Limits) → limits.assertions ≡ true → IsSafe (source_world file limits) → (q : ℕ) → IsSafe (unlimited_world file limits q)
