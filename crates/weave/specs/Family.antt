-- What is asked of the threads of a program, and of the first store.
use Rattle.std.specs.Prelude.{◌≡◌, ◌<◌, ◌+◌, ℕ, ◌^◌, true, List, [], ◌∷◌, length, IfSome}
use Rattle.actions.specs.declared.action.Action.TheVariants.{Alloc, Create}
use Rattle.actions.specs.declared.action.Answer.{Answer}
use Rattle.actions.specs.declared.action.Next.{Next}
use Rattle.actions.specs.declared.action.Next.TheVariants.{Act}
use Rattle.actions.specs.StoredObject.{StoredObject}
use Rattle.actions.specs.Objects.{Objects, object_at}
use Rattle.actions.specs.Behaviour.{Behaviour, after, Thread, IsThread}

-- how many threads are created on the way along these answers
abbrev pub creations_of : Next → ℕ
creations_of (Act (Create f v) line function) = 1
creations_of _ = 0

abbrev pub creations_along : Behaviour → List Answer → ℕ
creations_along b [] = creations_of (b [])
creations_along b (a ∷ answers) = creations_of (b []) + creations_along (after b a) answers

-- an object has as many bytes as its size says
abbrev pub IsWhole : StoredObject → Type 0
IsWhole o = length o.bytes ≡ o.size

abbrev pub MakesWhole : Next → Type 0
MakesWhole (Act (Alloc o) line function) = IsWhole o
MakesWhole _ = Unit {0}

-- a thread makes at most 255 threads, so that thread numbers differ, and whole objects
pub record IsModest (b : Behaviour) : Type 0 where
  pub few : (answers : List Answer) → creations_along b answers < 256
  pub whole : (answers : List Answer) → MakesWhole (b answers)

-- main, and each thread that its program can start
pub record IsFamily (t : Thread) : Type 0 where
  pub is_thread : IsThread t
  pub itself : IsModest t.behaves
  pub others : (f v : ℕ) → t.program.can_start f ≡ true → v < 2 ^ 64 → IsModest (t.program.behaves f v)

abbrev pub AreWhole : Objects → Type 0
AreWhole objects = (k : ℕ) → IfSome (object_at objects k) IsWhole
