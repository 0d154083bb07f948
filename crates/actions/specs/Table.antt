-- The 17 actions of a thread t, each with what it looks at, when it waits or breaks, its answer and its change. `own` is what comes from the thread's own record: the word that a Draw gives, the number of the object that an Alloc makes or of the thread that a Create starts; for the others 0.
use Rattle.std.specs.Prelude.{ℕ}
use Rattle.words.specs.BitVector.{word}
use Rattle.actions.specs.declared.action.Action.{Action}
use Rattle.actions.specs.declared.action.Action.TheVariants.{Read, Write, Look, Draw, Alloc, Die, Free, SectionBegin, SectionEnd, Lock, Unlock, MutexInit, MutexDestroy, Create, Join, End, Exit}
use Rattle.actions.specs.declared.action.Answer.TheVariants as answer
use Rattle.actions.specs.Memory.{keeps}
use Rattle.actions.specs.Row.{Row, comes, moves}
use Rattle.actions.specs.AccessRows.{read_row, write_row, look_row}
use Rattle.actions.specs.ObjectRows.{alloc_row, die_row, free_row}
use Rattle.actions.specs.MutexRows.{lock_row, unlock_row, init_row, destroy_row}
use Rattle.actions.specs.ThreadRows.{create_row, join_row, end_row}

abbrev pub row : ℕ → ℕ → Action → Row
row t own (Read p n) = read_row p n
row t own (Write p bytes first) = write_row p bytes first
row t own (Look p subscript) = look_row p subscript
row t own (Draw n) = comes (moves (answer.Word (word n own)) keeps)
row t own (Alloc o) = alloc_row own o
row t own (Die number) = die_row number
row t own (Free p) = free_row p
row t own SectionBegin = comes (moves answer.Done keeps)
row t own SectionEnd = comes (moves answer.Done keeps)
row t own (Lock p) = lock_row t p
row t own (Unlock p) = unlock_row t p
row t own (MutexInit p) = init_row p
row t own (MutexDestroy p) = destroy_row p
row t own (Create f v) = create_row own f v
row t own (Join k) = join_row t k
row t own (End v) = end_row t v
row t own Exit = comes (moves answer.Done keeps)

-- what an action does beside: it begins or ends the thread's section, or ends the process
pub data Mode : Type 0 where
  plain : Mode
  opens : Mode
  closes : Mode
  exits : Mode

abbrev pub mode_of : Action → Mode
mode_of SectionBegin = opens
mode_of SectionEnd = closes
mode_of Exit = exits
mode_of _ = plain
