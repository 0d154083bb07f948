-- A runner of code: where it stands, and what is true of it.
use Rattle.std.specs.Prelude.{◌≡◌, ◌<◌, ◌≤◌, ℕ, zero, suc, Bool, true, false, nat_lt, List, [], drop, ◌+◌, Option, Some, None, slice_get, length}
use Rattle.actions.specs.declared.action.Next.{Next}
use Rattle.actions.specs.declared.action.Next.TheVariants.{Act, Ended, Blocked, Broken}
use Rattle.actions.specs.Behaviour.{Behaviour, Thread}
use Rattle.c_values.specs.Variables.{word_count}
use Rattle.goto_prog.specs.declared.code.Instruction.{Instruction}
use Rattle.goto_prog.specs.declared.code.Operation.{Operation}
use Rattle.goto_prog.specs.declared.code.Operation.TheVariants as operations
use Rattle.goto_prog.specs.Meaning.{Memory, first_count, operates_on, places}
use Rattle.goto_prog.specs.Threads.{behaving}
use Rattle.goto_prog.specs.CodeThread.{Listing, first_memory, code_thread, code_program}

pub record Running : Type 0 where
  pub functions : List Listing
  pub code : Listing
  pub strict : Bool
  pub place : ℕ
  pub memory : Memory

-- at the start of code
abbrev pub begun : List Listing → Listing → Bool → Running
begun functions code strict = record { functions = functions; code = code; strict = strict; place = 0; memory = first_memory code }

-- what it does
abbrev pub thread_of : Running → Thread
thread_of r = code_thread r.strict r.functions r.code r.place r.memory

-- an instruction that sets a register or a block
abbrev pub is_calculation : Operation → Bool
is_calculation (operations.Constant r bits) = true
is_calculation (operations.Copy r a) = true
is_calculation (operations.Load r t b offset) = true
is_calculation (operations.Store b offset count a) = true
is_calculation (operations.Clear b size) = true
is_calculation (operations.CopyBytes into to from offset count) = true
is_calculation (operations.Convert r from to a) = true
is_calculation (operations.Sign r op t a) = true
is_calculation (operations.Arithmetic r op t u a b) = true
is_calculation (operations.Compare r op t a b) = true
is_calculation (operations.IsZero r a) = true
is_calculation (operations.Use a) = true
is_calculation (operations.Move r p i t n size class) = true
is_calculation (operations.Offset r p count) = true
is_calculation (operations.Same p q) = true
is_calculation (operations.Distance r p q n) = true
is_calculation (operations.Relate r op p q) = true
is_calculation (operations.Take b to from p count whole) = true
is_calculation (operations.Put b p from to count whole) = true
is_calculation _ = false

-- an instruction that makes one action and goes on behind it
abbrev pub is_exchange : Operation → Bool
is_exchange (operations.Draw r bits) = true
is_exchange (operations.ReadObject b to k offset count) = true
is_exchange (operations.WriteObject k offset b from count) = true
is_exchange (operations.Read b to p count) = true
is_exchange (operations.Write p b from count first) = true
is_exchange (operations.Look r p subscript) = true
is_exchange (operations.Alloc r b size readonly heap) = true
is_exchange (operations.Die p) = true
is_exchange (operations.Free p) = true
is_exchange _ = false

-- an instruction that draws several words
abbrev pub is_fill : Operation → Bool
is_fill (operations.Fill b r) = true
is_fill _ = false

-- an instruction that only code with bounds has
abbrev pub asks_bounds : Operation → Bool
asks_bounds (operations.MayFail r) = true
asks_bounds (operations.Limit a b) = true
asks_bounds _ = false

-- an instruction that acts; of one that draws several words so many have been drawn, and another one is left
abbrev pub acts_on : (words : ℕ) → Operation → Memory → Bool
acts_on words (operations.Fill b r) m = nat_lt words (word_count (first_count m b r))
acts_on words operations.Exit m = true
acts_on words o m = is_exchange o

abbrev pub acts : (words : ℕ) → Option Instruction → Memory → Bool
acts words None m = false
acts words (Some i) m = acts_on words i.operation m

abbrev pub is_act : Next → Bool
is_act (Act action line f) = true
is_act (Ended v) = false
is_act Blocked = false
is_act (Broken class line f) = false

-- what a step does: it goes on as the same thread, or this is next and nothing has changed
pub record GoesOn (old new : Running) : Type 0 where
  pub same : thread_of new ≡ thread_of old
  pub code : new.code ≡ old.code
  pub later : old.place < new.place
  pub within : new.place ≤ length old.code.instructions

pub record Stops (old new : Running) (next : Next) : Type 0 where
  pub unchanged : new ≡ old
  pub next_is : next ≡ (thread_of old).behaves []
  pub acting : is_act next ≡ true → acts 0 (slice_get old.code.instructions old.place) old.memory ≡ true

abbrev pub Steps : Running → Running → Option Next → Type 0
Steps old new None = GoesOn old new
Steps old new (Some next) = Stops old new next

-- ---- where some words of the instruction at the place have been drawn

-- what is done by this instruction and behind it, if there is one
abbrev pub goes_on_from : (words : ℕ) → Running → Option Instruction → Behaviour
goes_on_from words r None = (thread_of r).behaves
goes_on_from words r (Some i) = operates_on behaving words r.strict 0 i.line i.function i.operation (places behaving r.strict 1 (drop (r.place + 1) r.code.instructions)) r.memory

abbrev pub goes_on_with : (words : ℕ) → Running → Behaviour
goes_on_with zero r = (thread_of r).behaves
goes_on_with (suc k) r = goes_on_from (suc k) r (slice_get r.code.instructions r.place)

-- a runner, and how many words of the instruction at its place have been drawn
pub record Flowing : Type 0 where
  pub runner : Running
  pub words : ℕ

abbrev pub flow_thread : Flowing → Thread
flow_thread f = record { behaves = goes_on_with f.words f.runner; program = code_program f.runner.strict f.runner.functions }

-- what comes where some words have been drawn: it goes on behind the instruction, or this is next
abbrev pub GoesOnWith : (words : ℕ) → (old new : Running) → Option Next → Type 0
GoesOnWith words old new None = ((thread_of new).behaves ≡ goes_on_with words old) × (new.code ≡ old.code) × (new.strict ≡ old.strict) × (new.functions ≡ old.functions)
GoesOnWith words old new (Some next) = (new ≡ old) × (next ≡ goes_on_with words old []) × (is_act next ≡ true → acts words (slice_get old.code.instructions old.place) old.memory ≡ true)
