-- How many threads a local run of a thread creates, and how many objects it makes.
use Rattle.std.specs.Prelude.{◌≡◌, ◌≤◌, ◌+◌, ℕ, Bool, true, false, List, [], ◌∷◌, if◌then◌else◌}
use Rattle.actions.specs.declared.action.Action.TheVariants.{Alloc, Create}
use Rattle.actions.specs.declared.action.Answer.{Answer}
use Rattle.actions.specs.declared.action.Next.{Next}
use Rattle.actions.specs.declared.action.Next.TheVariants.{Act}
use Rattle.actions.specs.Behaviour.{Behaviour, Thread, after}

abbrev pub creates : Next → Bool
creates (Act (Create f v) line function) = true
creates _ = false

abbrev pub allocates : Next → Bool
allocates (Act (Alloc o) line function) = true
allocates _ = false

-- how many actions of a kind a thread makes on the local run on which it gets these answers, the first of them first
abbrev pub count_on : (Next → Bool) → Behaviour → List Answer → ℕ
count_on kind behaves [] = if kind (behaves []) then 1 else 0
count_on kind behaves (a ∷ answers) = (if kind (behaves []) then 1 else 0) + count_on kind (after behaves a) answers

-- No local run of thread 0 creates more than 64 threads, or makes more than 8,192 objects with so many that are there from the
-- start. One of a thread that it creates makes no more than 8,192 objects, and creates none.
pub record MakesFew (objects : ℕ) (t : Thread) : Type 0 where
  pub creations : (answers : List Answer) → count_on creates t.behaves answers ≤ 64
  pub allocations : (answers : List Answer) → objects + count_on allocates t.behaves answers ≤ 8192
  pub created : (f v : ℕ) (answers : List Answer) → t.program.can_start f ≡ true
      → (count_on creates (t.program.behaves f v) answers ≤ 0) × (count_on allocates (t.program.behaves f v) answers ≤ 8192)
