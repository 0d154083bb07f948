-- A row of the table of actions: what it looks at, one location after another, and what comes then. What it looks at next depends on what it saw.
use Rattle.std.specs.Prelude.{◌≡◌, ℕ, List, Option, Some, None, ◌⊎◌}
use Rattle.words.specs.declared.check.Class.{Class}
use Rattle.actions.specs.declared.action.Answer.{Answer}
use Rattle.actions.specs.declared.thread_state.ThreadState.{ThreadState}
use Rattle.actions.specs.Pointer.{object_of, offset_of}
use Rattle.actions.specs.States.{ObjectState}
use Rattle.actions.specs.Objects.{state_at, bytes_at}
use Rattle.actions.specs.Memory.{Memory, SameAt, thread_at, Location, object, cell, thread, Change}

-- the action breaks a check, waits, or is made, with its answer and its change
pub data Outcome : Type 0 where
  breaks : (class : Class) → Outcome
  waits : Outcome
  moves : (answer : Answer) (change : Change) → Outcome

pub data Row : Type 0 where
  comes : (o : Outcome) → Row
  sees_object : (number : ℕ) (next : ObjectState → Row) → Row
  sees_bytes : (p n : ℕ) (next : List ℕ → Row) → Row
  sees_thread : (number : ℕ) (next : Option ThreadState → Row) → Row

abbrev pub outcome_in : Memory → Row → Outcome
outcome_in m (comes o) = o
outcome_in m (sees_object number next) = outcome_in m (next (state_at m.objects number))
outcome_in m (sees_bytes p n next) = outcome_in m (next (bytes_at m.objects p n))
outcome_in m (sees_thread number next) = outcome_in m (next (thread_at m.threads number))

-- the locations that a row reads in this memory
abbrev pub Reads : Memory → Row → Location → Type 0
Reads m (comes o) l = ⊥
Reads m (sees_object number next) l = (l ≡ object number) ⊎ Reads m (next (state_at m.objects number)) l
Reads m (sees_bytes p n next) l = (l ≡ cell (object_of p) (offset_of p) n) ⊎ Reads m (next (bytes_at m.objects p n)) l
Reads m (sees_thread number next) l = (l ≡ thread number) ⊎ Reads m (next (thread_at m.threads number)) l

-- a row that goes on where there is no break
abbrev pub unless : Option Class → Row → Row
unless None row = row
unless (Some class) row = comes (breaks class)

-- what a row comes to depends only on the locations that it reads
abbrev pub LooksAlone : Type 0
LooksAlone = (row : Row) (m n : Memory) → ((l : Location) → Reads m row l → SameAt m n l) → outcome_in m row ≡ outcome_in n row
