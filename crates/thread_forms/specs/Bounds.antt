-- What is asked of a program's threads, and of the first store, so that each answer has the shape that its action asks for.
use Rattle.std.specs.Prelude.{◌≡◌, ◌<◌, ◌+◌, ℕ, zero, suc, ◌^◌, true, List, [], ◌∷◌, length, IfSome}
use Rattle.actions.specs.declared.action.Action.TheVariants.{Write, Alloc, Create, End}
use Rattle.actions.specs.declared.action.Answer.{Answer}
use Rattle.actions.specs.declared.action.Next.{Next}
use Rattle.actions.specs.declared.action.Next.TheVariants.{Act}
use Rattle.actions.specs.ByteList.{are_bytes}
use Rattle.actions.specs.StoredObject.{StoredObject}
use Rattle.actions.specs.Objects.{Objects, object_at}
use Rattle.actions.specs.Behaviour.{Behaviour, after, Program, Thread}
use Rattle.weave.specs.Family.{creations_of}

-- ---- what a step hands over: bytes are numbers below 256, an object has fewer than 2 ^ 32 bytes, a thread ends with a number of 64 bits

abbrev pub IsTyped : StoredObject → Type 0
IsTyped o = (o.size < 2 ^ 32) × (are_bytes o.bytes ≡ true)

abbrev pub HandsOver : Next → Type 0
HandsOver (Act (Write p bytes first) line function) = are_bytes bytes ≡ true
HandsOver (Act (Alloc o) line function) = IsTyped o
HandsOver (Act (End v) line function) = v < 2 ^ 64
HandsOver _ = Unit {0}

-- ---- how many numbers are given

-- how many objects are made on the way along these answers
abbrev pub objects_of : Next → ℕ
objects_of (Act (Alloc o) line function) = 1
objects_of _ = 0

abbrev pub objects_along : Behaviour → List Answer → ℕ
objects_along b [] = objects_of (b [])
objects_along b (a ∷ answers) = objects_of (b []) + objects_along (after b a) answers

-- of depth 0 it creates no threads, and of depth n + 1 only threads of depth n
abbrev pub HasDepth : Program → ℕ → Behaviour → Type 0
HasDepth p zero b = (answers : List Answer) → creations_of (b answers) ≡ 0
HasDepth p (suc n) b = (answers : List Answer) (f v line function : ℕ) → b answers ≡ Act (Create f v) line function → HasDepth p n (p.behaves f v)

-- main has depth 2, so that with at most 255 creations of a thread its number is below 65,536; and a thread makes fewer than 65,536 objects, those of the first store counted as main's, so that an object's number is below 2 ^ 32
pub record IsBounded (t : Thread) (objects : Objects) : Type 0 where
  pub store : (k : ℕ) → IfSome (object_at objects k) IsTyped
  pub hands : (answers : List Answer) → HandsOver (t.behaves answers)
  pub hand : (f v : ℕ) → t.program.can_start f ≡ true → v < 2 ^ 64 → (answers : List Answer) → HandsOver (t.program.behaves f v answers)
  pub depth : HasDepth t.program 2 t.behaves
  pub few : (answers : List Answer) → length objects + objects_along t.behaves answers < 65536
  pub fewer : (f v : ℕ) → t.program.can_start f ≡ true → v < 2 ^ 64 → (answers : List Answer) → objects_along (t.program.behaves f v) answers < 65536
