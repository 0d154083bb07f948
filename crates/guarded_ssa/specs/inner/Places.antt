-- One pass over code under a valuation: at most one place is reached with a memory, its instruction tells what it does and leaves for other places.
use Rattle.std.specs.Prelude.{ℕ, zero, suc, ◌+◌, ◌*◌, ◌==◌, Bool, not, List, [], ◌∷◌, ◌++◌, Option, Some, None, if◌then◌else◌}
use Rattle.words.specs.declared.check.Class.{Class}
use Rattle.words.specs.declared.check.Class.TheVariants as classes
use Rattle.actions.specs.Behaviour.{word_64}
use Rattle.actions.specs.declared.action.Action.TheVariants as actions
use Rattle.actions.specs.declared.action.Next.TheVariants.{Ended, Blocked, Broken}
use Rattle.goto_prog.specs.declared.code.Operation.{Operation}
use Rattle.goto_prog.specs.declared.code.Operation.TheVariants as operations
use Rattle.goto_prog.specs.declared.code.Instruction.{Instruction}
use Rattle.c_values.specs.Variables.{put_bytes, low_bytes, word_count, drawn_count}
use Rattle.goto_prog.specs.Meaning.{Memory, register, with_blocks, word_of, first_count, check_class, calculated, action_of, answered_with}
use Rattle.event_forms.specs.Arrivals.{Seen, asked, stopped}
use Rattle.guarded_ssa.specs.inner.Answers.{answer_at, variables_of}

-- ---- the places from here on: the memory with which each is reached, if it is

abbrev pub Arrivals : Type 0
Arrivals = List (Option Memory)

abbrev pub either : Option Memory → Option Memory → Option Memory
either None y = y
either (Some x) y = Some x

-- what arrives n places further on
abbrev pub arrived : ℕ → Option Memory → Arrivals → Arrivals
arrived n x [] = []
arrived zero x (w ∷ ws) = either x w ∷ ws
arrived (suc n) x (w ∷ ws) = w ∷ arrived n x ws

abbrev pub updated : (Memory → Memory) → Option Memory → Option Memory
updated f None = None
updated f (Some m) = Some (f m)

abbrev pub kept : (Memory → Bool) → Option Memory → Option Memory
kept test None = None
kept test (Some m) = if test m then Some m else None

abbrev pub on : Option Memory → (Memory → List Seen) → List Seen
on None tells = []
on (Some m) tells = tells m

abbrev pub breaks : Option Class → ℕ → ℕ → List Seen
breaks None line f = []
breaks (Some c) line f = stopped (Broken c line f) ∷ []

-- ---- a draw of several words

module _ (v : ℕ → ℕ) where
  -- so many words are drawn for bytes of which there are `size`, from an offset on, 8 bytes a word
  abbrev pub drawn : (line function words size offset variable : ℕ) → List Seen
  drawn line f zero size offset x = []
  drawn line f (suc k) size offset x =
      let action = actions.Draw (8 * drawn_count size offset) in asked action line f (answer_at v x action) ∷ drawn line f k size (offset + 8) (suc x)

  -- the memory with them in a block
  abbrev pub drawn_into : (b words size offset variable : ℕ) → Memory → Memory
  drawn_into b zero size offset x m = m
  drawn_into b (suc k) size offset x m =
      let count = drawn_count size offset in
      drawn_into b k size (offset + 8) (suc x) (with_blocks m (put_bytes m.blocks b offset (low_bytes count (word_of (answer_at v x (actions.Draw (8 * count)))))))

-- ---- one instruction, reached with w

module _ (v : ℕ → ℕ) where
  -- the one action that an operation makes; its answer is by the variables from this one on
  abbrev pub exchanged : (variable line function : ℕ) → Operation → Memory → List Seen
  exchanged x line f o m = let action = action_of o m in asked action line f (answer_at v x action) ∷ []

  abbrev pub answered_by : (variable : ℕ) → Operation → Memory → Memory
  answered_by x o m = answered_with o m (answer_at v x (action_of o m))

  -- what an operation tells; one that unrolled code doesn't have blocks: a call, a return, and what asks for bounds
  abbrev pub tells : (variable line function : ℕ) → Operation → Memory → List Seen
  tells x line f (operations.Constant r bits) m = []
  tells x line f (operations.Copy r a) m = []
  tells x line f (operations.Load r t b offset) m = []
  tells x line f (operations.Store b offset count a) m = []
  tells x line f (operations.Clear b size) m = []
  tells x line f (operations.CopyBytes into to from offset count) m = []
  tells x line f (operations.Convert r from to a) m = []
  tells x line f (operations.Sign r op t a) m = []
  tells x line f (operations.Arithmetic r op t u a b) m = []
  tells x line f (operations.Compare r op t a b) m = []
  tells x line f (operations.IsZero r a) m = []
  tells x line f (operations.Skip n) m = []
  tells x line f (operations.SkipIfZero a n) m = []
  tells x line f (operations.Check c) m = breaks (check_class c m) line f
  tells x line f (operations.Assert a) m = if register m a == 0 then stopped (Broken classes.Assertion line f) ∷ [] else []
  tells x line f (operations.Assume a) m = if register m a == 0 then stopped Blocked ∷ [] else []
  tells x line f (operations.Draw r bits) m = exchanged x line f (operations.Draw r bits) m
  tells x line f (operations.ReadObject b to k offset count) m = exchanged x line f (operations.ReadObject b to k offset count) m
  tells x line f (operations.WriteObject k offset b from count) m = exchanged x line f (operations.WriteObject k offset b from count) m
  tells x line f operations.Exit m = asked actions.Exit line f (answer_at v x actions.Exit) ∷ stopped (Ended (word_64 0)) ∷ []
  tells x line f (operations.Fail class) m = stopped (Broken class line f) ∷ []
  tells x line f (operations.Use a) m = []
  tells x line f (operations.Call g first count into r) m = stopped Blocked ∷ []
  tells x line f (operations.Return w) m = stopped Blocked ∷ []
  tells x line f (operations.Move r p i t n size class) m = []
  tells x line f (operations.Offset r p count) m = []
  tells x line f (operations.Same p q) m = []
  tells x line f (operations.Distance r p q n) m = []
  tells x line f (operations.Relate r op p q) m = []
  tells x line f (operations.Take b to from p count whole) m = []
  tells x line f (operations.Put b p from to count whole) m = []
  tells x line f (operations.Read b to p count) m = exchanged x line f (operations.Read b to p count) m
  tells x line f (operations.Write p b from count first) m = exchanged x line f (operations.Write p b from count first) m
  tells x line f (operations.Look r p subscript) m = exchanged x line f (operations.Look r p subscript) m
  tells x line f (operations.Fill b r) m = let size = first_count m b r in drawn v line f (word_count size) size 0 x
  tells x line f (operations.Alloc r b size readonly heap) m = exchanged x line f (operations.Alloc r b size readonly heap) m
  tells x line f (operations.Die p) m = exchanged x line f (operations.Die p) m
  tells x line f (operations.Free p) m = exchanged x line f (operations.Free p) m
  tells x line f (operations.MayFail r) m = stopped Blocked ∷ []
  tells x line f (operations.Limit a b) m = stopped Blocked ∷ []

  -- the memory behind it where it goes on to the next place
  abbrev pub behind : (variable : ℕ) → Operation → Memory → Memory
  behind x (operations.Draw r bits) m = answered_by x (operations.Draw r bits) m
  behind x (operations.ReadObject b to k offset count) m = answered_by x (operations.ReadObject b to k offset count) m
  behind x (operations.Read b to p count) m = answered_by x (operations.Read b to p count) m
  behind x (operations.Look r p subscript) m = answered_by x (operations.Look r p subscript) m
  behind x (operations.Alloc r b size readonly heap) m = answered_by x (operations.Alloc r b size readonly heap) m
  behind x (operations.Fill b r) m = let size = first_count m b r in drawn_into v b (word_count size) size 0 x m
  behind x o m = calculated o m

  -- where it leads: checks and assumptions change no arrival, since what is told behind an end doesn't count
  abbrev pub leaves : (variable : ℕ) → Operation → Option Memory → Arrivals → Arrivals
  leaves x (operations.Skip n) w ws = arrived n w ws
  leaves x (operations.SkipIfZero a n) w ws = arrived n (kept (λ m. register m a == 0) w) (arrived 0 (kept (λ m. not (register m a == 0)) w) ws)
  leaves x operations.Exit w ws = ws
  leaves x o w ws = arrived 0 (updated (behind x o) w) ws

  -- ---- code

  abbrev pub first_arrival : Arrivals → Option Memory
  first_arrival [] = None
  first_arrival (w ∷ ws) = w

  abbrev pub later_arrivals : Arrivals → Arrivals
  later_arrivals [] = []
  later_arrivals (w ∷ ws) = ws

  -- all that code tells, whose blocks have these sizes; the first variable of its first operation has this number
  abbrev pub told : (blocks : List ℕ) → (variable : ℕ) → List Instruction → Arrivals → List Seen
  told blocks x [] ws = []
  told blocks x (i ∷ code) ws =
      on (first_arrival ws) (tells x i.line i.function i.operation) ++ told blocks (x + variables_of blocks i.operation) code (leaves x i.operation (first_arrival ws) (later_arrivals ws))
