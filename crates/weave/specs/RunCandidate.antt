-- The candidate of a run in which each turn moves, but for the last, which may break: its events are the numbers of its turns.
use Rattle.std.specs.Prelude.{ℕ, zero, suc, List, [], ◌∷◌, length, slice_index, Option, Some, None}
use Rattle.actions.specs.declared.action.Next.{Next}
use Rattle.actions.specs.declared.action.Next.TheVariants.{Blocked}
use Rattle.actions.specs.Behaviour.{Thread}
use Rattle.actions.specs.Objects.{Objects}
use Rattle.interleave.specs.Inputs.{InputLists, words_of}
use Rattle.interleave.specs.World.{World, Member, member_at, first_world}
use Rattle.interleave.specs.Turn.{turn}
use Rattle.weave.specs.Step.{own_by}
use Rattle.weave.specs.Candidate.{Candidate, chosen}

-- numbers from n on
abbrev pub from : ℕ → ℕ → List ℕ
from n zero = []
from n (suc k) = n ∷ from (suc n) k

abbrev pub next_of : Option Member → Next
next_of None = Blocked
next_of (Some m) = m.thread.behaves []

abbrev pub own_of : ℕ → List ℕ → Option Member → ℕ
own_of t words None = 0
own_of t words (Some m) = own_by t words m.counts (m.thread.behaves [])

-- a section keeps the clock of its beginning
abbrev pub clock_by : Option ℕ → ℕ → ℕ → ℕ
clock_by None n old = n
clock_by (Some k) n old = old

module _ (t : Thread) (objects : Objects) (inputs : InputLists) (l : List ℕ) where
  abbrev pub many : ℕ
  many = length l

  -- the thread of the turn n
  abbrev pub ts : ℕ → ℕ
  ts n = slice_index l n

  -- the world before the turn n, from a first one
  abbrev pub worlds_from : World → ℕ → World
  worlds_from w zero = w
  worlds_from w (suc n) = (turn (worlds_from w n) (ts n) inputs).1

  abbrev pub worlds : ℕ → World
  worlds n = worlds_from (first_world t objects) n

  abbrev pub clock_at : ℕ → ℕ
  clock_at zero = zero
  clock_at (suc n) = clock_by (worlds (suc n)).common.section (suc n) (clock_at n)

  abbrev pub words_at : ℕ → List ℕ
  words_at n = words_of inputs (ts n)

  abbrev pub candidate_of_run : Candidate ℕ
  candidate_of_run = record {
    thread = ts;
    place = λ n. n;
    clock = clock_at;
    next = λ n. next_of (member_at (worlds n).members (ts n));
    own = λ n. own_of (ts n) (words_at n) (member_at (worlds n).members (ts n));
    view = λ n. (worlds n).common.memory;
    runs = λ k. chosen ts k (from 0 many);
  }
