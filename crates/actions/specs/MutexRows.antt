-- Normal mutexes (POSIX pthread_mutex_lock, pthread_mutex_destroy). A mutex is a cell of 4 bytes: 0 where it is free, t + 1 where thread t holds it, 4,294,967,295 where it is destroyed.
use Rattle.std.specs.Prelude.{ℕ, ◌+◌, ◌==◌, true, if◌then◌else◌}
use Rattle.std.specs.Int.{w32, to_le_bytes}
use Rattle.words.specs.declared.check.Class.TheVariants.{Mutex}
use Rattle.actions.specs.declared.action.Answer.TheVariants as answer
use Rattle.actions.specs.ByteList.{mutex_number}
use Rattle.actions.specs.Memory.{puts}
use Rattle.actions.specs.Row.{Row, comes, sees_bytes, Outcome, breaks, waits, moves}
use Rattle.actions.specs.AccessRows.{accessed}

abbrev pub destroyed : ℕ
destroyed = 4294967295

abbrev pub held_by : ℕ → ℕ
held_by t = t + 1

-- the cell has this number now
abbrev pub set_mutex : ℕ → ℕ → Outcome
set_mutex p cell = moves answer.Done (puts p (to_le_bytes w32 cell))

-- each of them may change the cell, so it is accessed as by a write
abbrev pub with_mutex : ℕ → (ℕ → Outcome) → Row
with_mutex p decide = accessed true p 4 (sees_bytes p 4 (λ bytes. comes (decide (mutex_number bytes))))

-- a lock of a mutex that is held waits, also where its holder asks again
abbrev pub lock_row : ℕ → ℕ → Row
lock_row t p = with_mutex p (λ cell.
    if cell == 0 then set_mutex p (held_by t) else (if cell == destroyed then breaks Mutex else waits))

abbrev pub unlock_row : ℕ → ℕ → Row
unlock_row t p = with_mutex p (λ cell. if cell == held_by t then set_mutex p 0 else breaks Mutex)

abbrev pub init_row : ℕ → Row
init_row p = accessed true p 4 (comes (set_mutex p 0))

abbrev pub destroy_row : ℕ → Row
destroy_row p = with_mutex p (λ cell. if cell == 0 then set_mutex p destroyed else breaks Mutex)
