-- Threads come and go (POSIX pthread_create, pthread_join).
use Rattle.std.specs.Prelude.{ℕ, ◌==◌, Option, Some, None, if◌then◌else◌}
use Rattle.words.specs.declared.check.Class.TheVariants as class
use Rattle.actions.specs.declared.action.Answer.TheVariants as answer
use Rattle.actions.specs.declared.thread_state.ThreadState.{ThreadState}
use Rattle.actions.specs.declared.thread_state.ThreadState.TheVariants.{Running, Ended}
use Rattle.actions.specs.Memory.{keeps, starts, ends}
use Rattle.actions.specs.Row.{Row, comes, sees_thread, Outcome, breaks, waits, moves}

-- a thread that calls f with v, under the creating thread's next number; the number
abbrev pub create_row : ℕ → ℕ → ℕ → Row
create_row number f v = comes (moves (answer.Number number) (starts number f v))

abbrev pub joined : Option ThreadState → Outcome
joined None = breaks class.Join
joined (Some Running) = waits
joined (Some (Ended v)) = moves (answer.Value v) keeps

-- the value of thread k's end; a thread can't join itself
abbrev pub join_row : ℕ → ℕ → Row
join_row t k = if k == t then comes (breaks class.Join) else sees_thread k (λ state. comes (joined state))

-- thread t has ended
abbrev pub end_row : ℕ → ℕ → Row
end_row t v = comes (moves answer.Done (ends t v))
