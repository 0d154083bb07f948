-- A thread that follows a script: a list of steps, of which each is an action, and one register for the byte or word that the last action gave.
use Rattle.std.specs.Prelude.{◌≡◌, ◌+◌, ◌%◌, ℕ, Bool, true, false, ◌==◌, nat_lt, List, [], ◌∷◌, length, Option, Some, None, slice_get, if◌then◌else◌}
use Rattle.std.proofs.Common.{refl, lit<}
use Rattle.words.specs.declared.check.Class.TheVariants.{Assertion}
use Rattle.actions.specs.declared.action.Action.{Action}
use Rattle.actions.specs.declared.action.Action.TheVariants as action
use Rattle.actions.specs.declared.action.Answer.{Answer}
use Rattle.actions.specs.declared.action.Answer.TheVariants as answer
use Rattle.actions.specs.declared.action.Next.{Next}
use Rattle.actions.specs.declared.action.Next.TheVariants.{Act, Ended, Blocked, Broken}
use Rattle.actions.specs.StoredObject.{stored, made_without_cells}
use Rattle.actions.specs.Behaviour.{Program, Thread, word_64, CanStart, MakesProper, EndsAfter, IsBehaviour, IsThread}
use Rattle.actions.specs.ByStates.{behaviour_of, behaves_by_states}
use Rattle.interleave.specs.declared.script.Step.{Step}
use Rattle.interleave.specs.declared.script.Step.TheVariants.{Read, Write, Assert, Look, Draw, Alloc, Die, Free, SectionBegin, SectionEnd, Lock, Unlock, MutexInit, MutexDestroy, Create, Join, End, Exit}

pub record State : Type 0 where
  pub at : ℕ
  pub register : ℕ
  pub ended : Option ℕ

abbrev pub start_at : ℕ → State
start_at f = record { at = f; register = 0; ended = None }

-- a Write stores one more than the register; an Assert that holds is an action that does nothing
abbrev pub action_of : ℕ → Step → Action
action_of register (Read p) = action.Read p 1
action_of register (Write p) = action.Write p ((register + 1) % 256 ∷ []) false
action_of register (Assert n) = action.Free 0
action_of register (Look p subscript) = action.Look p subscript
action_of register (Draw n) = action.Draw n
action_of register Alloc = action.Alloc (stored 0 [] true false true [])
action_of register (Die number) = action.Die number
action_of register (Free p) = action.Free p
action_of register SectionBegin = action.SectionBegin
action_of register SectionEnd = action.SectionEnd
action_of register (Lock p) = action.Lock p
action_of register (Unlock p) = action.Unlock p
action_of register (MutexInit p) = action.MutexInit p
action_of register (MutexDestroy p) = action.MutexDestroy p
action_of register (Create f) = action.Create f 0
action_of register (Join k) = action.Join k
action_of register (End v) = action.End v
action_of register Exit = action.Exit

-- a thread is started at a step of the script
abbrev pub can_go : ℕ → ℕ → Step → Bool
can_go many register (Assert n) = register == n
can_go many register (Create f) = nat_lt f many
can_go many register _ = true

-- what stands in the way of a step: an Assert breaks, and a Create of no step blocks
abbrev pub stop_at : Step → Next
stop_at (Assert n) = Broken Assertion 1 0
stop_at _ = Blocked

abbrev pub next_at_step : ℕ → ℕ → Step → Next
next_at_step many register step = if can_go many register step then Act (action_of register step) 1 0 else stop_at step

abbrev pub next_by : ℕ → ℕ → Option ℕ → Option Step → Next
next_by many register (Some v) step = Ended (word_64 v)
next_by many register None None = Blocked
next_by many register None (Some step) = next_at_step many register step

abbrev pub next_in : List Step → State → Next
next_in steps s = next_by (length steps) s.register s.ended (slice_get steps s.at)

abbrev pub received : Answer → ℕ → ℕ
received (answer.Bytes (b ∷ bs)) register = b
received (answer.Word w) register = w.bits % 256
received _ register = register

abbrev pub ended_by : Option Step → Option ℕ
ended_by (Some (End v)) = Some v
ended_by (Some Exit) = Some 0
ended_by _ = None

abbrev pub stepped : List Step → State → Answer → State
stepped steps s a = record { at = s.at + 1; register = received a s.register; ended = ended_by (slice_get steps s.at) }

abbrev pub program_of : List Step → Program
program_of steps = record { can_start = λ f. nat_lt f (length steps); behaves = λ f v. behaviour_of (next_in steps) (stepped steps) (start_at f) }

abbrev pub thread_of : List Step → State → Thread
thread_of steps s = record { behaves = behaviour_of (next_in steps) (stepped steps) s; program = program_of steps }

-- ---- it is a thread

create_choice : (program : Program) (b : Bool) (f : ℕ) → program.can_start f ≡ b → CanStart program (if b then Act (action.Create f 0) 1 0 else Blocked)
create_choice program true f h = (h, lit< tt)
create_choice program false f h = tt

-- an Assert that holds, or breaks
assert_creates : (program : Program) (b : Bool) → CanStart program (if b then Act (action.Free 0) 1 0 else Broken Assertion 1 0)
assert_creates program true = tt
assert_creates program false = tt

creates_at : (steps : List Step) (register : ℕ) (step : Step) → CanStart (program_of steps) (next_at_step (length steps) register step)
creates_at steps register (Create f) = create_choice (program_of steps) (nat_lt f (length steps)) f refl
creates_at steps register (Assert n) = assert_creates (program_of steps) (register == n)
creates_at steps register _ = tt

creates_by : (steps : List Step) (register : ℕ) (ended : Option ℕ) (step : Option Step) → CanStart (program_of steps) (next_by (length steps) register ended step)
creates_by steps register (Some v) step = tt
creates_by steps register None None = tt
creates_by steps register None (Some step) = creates_at steps register step

creates : (steps : List Step) (s : State) → CanStart (program_of steps) (next_in steps s)
creates steps s = creates_by steps s.register s.ended (slice_get steps s.at)

create_makes : (b : Bool) (f : ℕ) → MakesProper (if b then Act (action.Create f 0) 1 0 else Blocked)
create_makes true f = tt
create_makes false f = tt

assert_makes : (b : Bool) → MakesProper (if b then Act (action.Free 0) 1 0 else Broken Assertion 1 0)
assert_makes true = tt
assert_makes false = tt

-- an empty object can be made
makes_at : (many register : ℕ) (step : Step) → MakesProper (next_at_step many register step)
makes_at many register Alloc = made_without_cells 0 true false true [] refl (lit< tt) refl
makes_at many register (Create f) = create_makes (nat_lt f many) f
makes_at many register (Assert n) = assert_makes (register == n)
makes_at many register _ = tt

makes_by : (many register : ℕ) (ended : Option ℕ) (step : Option Step) → MakesProper (next_by many register ended step)
makes_by many register (Some v) step = tt
makes_by many register None None = tt
makes_by many register None (Some step) = makes_at many register step

makes : (steps : List Step) (s : State) → MakesProper (next_in steps s)
makes steps s = makes_by (length steps) s.register s.ended (slice_get steps s.at)

assert_ends : (b : Bool) (a : Answer) (n : Next) → EndsAfter (if b then Act (action.Free 0) 1 0 else Broken Assertion 1 0) a n
assert_ends true a n = tt
assert_ends false a n = tt

create_ends : (b : Bool) (f : ℕ) (a : Answer) (n : Next) → EndsAfter (if b then Act (action.Create f 0) 1 0 else Blocked) a n
create_ends true f a n = tt
create_ends false f a n = tt

-- once it has ended it has ended, wherever it stands
ends_at : (many register : ℕ) (step : Step) (a : Answer) (r : ℕ) (later : Option Step) → EndsAfter (next_at_step many register step) a (next_by many r (ended_by (Some step)) later)
ends_at many register (Assert n) a r later = assert_ends (register == n) a (next_by many r None later)
ends_at many register (Create f) a r later = create_ends (nat_lt f many) f a (next_by many r None later)
ends_at many register (End v) a r later = λ ok. refl
ends_at many register Exit a r later = λ ok. refl
ends_at many register _ a r later = tt

ends_by : (many register : ℕ) (ended : Option ℕ) (step : Option Step) (a : Answer) (r : ℕ) (later : Option Step) → EndsAfter (next_by many register ended step) a (next_by many r (ended_by step) later)
ends_by many register (Some v) step a r later = tt
ends_by many register None None a r later = tt
ends_by many register None (Some step) a r later = ends_at many register step a r later

ends : (steps : List Step) (s : State) (a : Answer) → EndsAfter (next_in steps s) a (next_in steps (stepped steps s a))
ends steps s a = ends_by (length steps) s.register s.ended (slice_get steps s.at) a (received a s.register) (slice_get steps (s.at + 1))

state_behaves : (steps : List Step) (s : State) → IsBehaviour (program_of steps) (behaviour_of (next_in steps) (stepped steps) s)
state_behaves steps s =
    behaves_by_states (next_in steps) (stepped steps) (program_of steps) (λ s. Unit {0}) (λ s a h e. tt)
    (λ s h. creates steps s) (λ s h. makes steps s) (λ s a h. ends steps s a) s tt

pub is_thread : (steps : List Step) (s : State) → IsThread (thread_of steps s)
is_thread steps s = record { itself = state_behaves steps s; others = λ f v h k. state_behaves steps (start_at f) }
