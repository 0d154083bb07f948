-- A thread's own record: how many threads it created, how many objects it made and how many of its input words it used. It gives the parts of an action that don't come from what is shared.
use Rattle.std.specs.Prelude.{ℕ, ◌+◌, ◌*◌, ◌<◌, ◌^◌, nat_lt, List, length, slice_index, if◌then◌else◌}
use Rattle.words.specs.Operators.{low_bits}
use Rattle.actions.specs.declared.action.Action.{Action}
use Rattle.actions.specs.declared.action.Action.TheVariants.{Draw, Alloc, Create}
use Rattle.interleave.specs.declared.counts.Counts.{Counts}

-- the number of an object: its thread's number times 65,536 plus the thread's own count of objects, from 1
abbrev pub object_number : ℕ → ℕ → ℕ
object_number t count = t * 65536 + count

-- the number of a thread: the k-th creation of main, thread 0, gives k, and that of another thread t gives 256 t + k
abbrev pub thread_number : ℕ → ℕ → ℕ
thread_number t count = t * 256 + count

-- the thread's next input word, 0 when they are used up
abbrev pub next_word : List ℕ → ℕ → ℕ
next_word words used = slice_index words used

-- what thread t's own record gives to an action: the low bits of its next word, the number of its next object or thread; else 0
abbrev pub own_part : ℕ → List ℕ → Counts → Action → ℕ
own_part t words counts (Draw n) = low_bits n (next_word words counts.used)
own_part t words counts (Alloc o) = object_number t (counts.objects + 1)
own_part t words counts (Create f v) = thread_number t (counts.creations + 1)
own_part t words counts _ = 0

-- the record once the action is made; a word that isn't there isn't used
abbrev pub counted : List ℕ → Counts → Action → Counts
counted words counts (Draw n) = record counts { used = if nat_lt counts.used (length words) then counts.used + 1 else counts.used }
counted words counts (Alloc o) = record counts { objects = counts.objects + 1 }
counted words counts (Create f v) = record counts { creations = counts.creations + 1 }
counted words counts _ = counts

-- the number that an action takes from the record is small: that of an object below 2 ^ 32, that of a thread below 65,536
abbrev pub NumberFits : ℕ → Counts → Action → Type 0
NumberFits t counts (Alloc o) = object_number t (counts.objects + 1) < 2 ^ 32
NumberFits t counts (Create f v) = thread_number t (counts.creations + 1) < 65536
NumberFits t counts _ = Unit {0}
