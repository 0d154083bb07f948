-- Which objects the pointers of unrolled code may point to: in each state that a run reaches, the object of the next access is among them.
use Rattle.std.specs.Prelude.{◌≡◌, ◌==◌, ◌-◌, ◌+◌, ℕ, suc, Bool, true, false, nat_le, List, [], ◌∷◌, ◌++◌, length, take, slice_get, slice_index_or, Option, Some, None, if◌then◌else◌}
use Rattle.std.specs.List.{list_any}
use Rattle.actions.specs.declared.action.Action.{Action}
use Rattle.actions.specs.declared.action.Action.TheVariants as actions
use Rattle.actions.specs.declared.action.Answer.{Answer}
use Rattle.actions.specs.declared.action.Answer.TheVariants as answers
use Rattle.actions.specs.declared.action.Next.{Next}
use Rattle.actions.specs.declared.action.Next.TheVariants as nexts
use Rattle.actions.specs.Pointer.{object_of}
use Rattle.actions.specs.StoredObject.{StoredObject}
use Rattle.actions.specs.Objects.{object_at}
use Rattle.interleave.specs.Inputs.{InputLists}
use Rattle.interleave.specs.World.{Member, member_at, first_world}
use Rattle.interleave.specs.Run.{run}
use Rattle.goto_prog.specs.declared.code.Instruction.{Instruction}
use Rattle.goto_prog.specs.declared.code.Operation.{Operation}
use Rattle.goto_prog.specs.declared.code.Operation.TheVariants as operations
use Rattle.goto_prog.specs.Meaning.{Reading, does}
use Rattle.goto_prog.specs.CodeThread.{first_memory}
use Rattle.goto_prog.specs.Flat.{Flat, main_code, plain_thread}
use Rattle.goto_prog.specs.Allocations.{code_allocations}
use Rattle.event_forms.specs.Happenings.{Happening, does as made, fails, happened}

-- ---- where a thread stands

-- the place of the action that is next after these answers
abbrev pub next_place : ℕ → (Answer → List Answer → Option ℕ) → List Answer → Option ℕ
next_place place follows [] = Some place
next_place place follows (a ∷ given) = follows a given

-- a reading of code: the place whose action is next after these answers, if one is; code without calls
abbrev pub placing : Reading (List Answer → Option ℕ)
placing = record {
  ask = λ action line function place follows. next_place place follows;
  stop = λ end given. None;
  call = λ caller function line arguments follows given. None;
  hand = λ handed given. None;
}

abbrev pub instructions_of : Flat → List Instruction
instructions_of u = (main_code u).instructions

abbrev pub place_next : Flat → List Answer → Option ℕ
place_next u given = does placing false 0 (instructions_of u) (first_memory (main_code u)) given

-- ---- pointer places: those of an access by a pointer, of a look and of a free, in the order of the code

abbrev pub has_pointer : Operation → Bool
has_pointer (operations.Read b to p count) = true
has_pointer (operations.Write p b from count first) = true
has_pointer (operations.Look r p subscript) = true
has_pointer (operations.Free p) = true
has_pointer _ = false

abbrev pub pointers_in : List Instruction → ℕ
pointers_in [] = 0
pointers_in (i ∷ code) = if has_pointer i.operation then suc (pointers_in code) else pointers_in code

-- the pointer place of a place of the code, if it is one
abbrev pub pointer_by : ℕ → Option Instruction → Option ℕ
pointer_by rank None = None
pointer_by rank (Some i) = if has_pointer i.operation then Some rank else None

abbrev pub pointer_place : Flat → ℕ → Option ℕ
pointer_place u c = pointer_by (pointers_in (take c (instructions_of u))) (slice_get (instructions_of u) c)

-- ---- object places: the static objects, the literals, and then the Allocs of the code in its order

abbrev pub object_places : Flat → ℕ
object_places u = length u.store + code_allocations (instructions_of u)

-- the number that an answer gives to what the place makes, which is an Alloc where it is an object
abbrev pub with_number : Option ℕ → Answer → List (ℕ × ℕ) → List (ℕ × ℕ)
with_number (Some c) (answers.Number k) later = (k, c) ∷ later
with_number place a later = later

-- the numbers that were given along these answers, behind those before, each with the place that it was given at
abbrev pub numbers_along : Flat → (before after : List Answer) → List (ℕ × ℕ)
numbers_along u before [] = []
numbers_along u before (a ∷ given) = with_number (place_next u before) a (numbers_along u (before ++ a ∷ []) given)

abbrev pub place_of_number : ℕ → List (ℕ × ℕ) → Option ℕ
place_of_number k [] = None
place_of_number k (x ∷ xs) = if k == x.0 then Some x.1 else place_of_number k xs

-- the object place of a number after these answers
abbrev pub made_place : Flat → Option ℕ → Option ℕ
made_place u None = None
made_place u (Some c) = Some (length u.store + code_allocations (take c (instructions_of u)))

abbrev pub object_place : Flat → List Answer → ℕ → Option ℕ
object_place u given k = if nat_le k (length u.store) then Some (k - 1) else made_place u (place_of_number k (numbers_along u [] given))

-- ---- sets

-- the pointer of an action
abbrev pub pointer_in : Action → Option ℕ
pointer_in (actions.Read p count) = Some p
pointer_in (actions.Write p bytes first) = Some p
pointer_in (actions.Look p subscript) = Some p
pointer_in (actions.Free p) = Some p
pointer_in _ = None

abbrev pub pointer_next : Next → Option ℕ
pointer_next (nexts.Act action line function) = pointer_in action
pointer_next _ = None

abbrev pub pointer_of : Option Member → Option ℕ
pointer_of None = None
pointer_of (Some m) = pointer_next (m.thread.behaves [])

-- the answers that thread 0 was given
abbrev pub answer_to : Happening → List Answer → List Answer
answer_to (made t action line function a) later = if t == 0 then a ∷ later else later
answer_to (fails check) later = later

abbrev pub answers_in : List Happening → List Answer
answers_in [] = []
answers_in (h ∷ told) = answer_to h (answers_in told)

abbrev pub has_member : List ℕ → ℕ → Bool
has_member members k = list_any (λ m. m == k) members

-- of lists by the numbers of pointer places, the one of a place
abbrev pub members_of : List (List ℕ) → ℕ → List ℕ
members_of sets place = slice_index_or sets place []

-- In each state that a run of the code reaches: where the pointer of the next action, at a pointer place, has the number of an object of the store, live or dead, that object's place is among the members of the pointer's place.
abbrev pub AreSets : Flat → (members : ℕ → List ℕ) → Type 0
AreSets u members =
    (inputs : InputLists) (schedule : List ℕ) (c place p : ℕ) (o : StoredObject)
    → place_next u (answers_in (happened (first_world (plain_thread u) u.store) inputs schedule)) ≡ Some c
    → pointer_place u c ≡ Some place
    → pointer_of (member_at (run (first_world (plain_thread u) u.store) inputs schedule).1.members 0) ≡ Some p
    → object_at (run (first_world (plain_thread u) u.store) inputs schedule).1.common.memory.objects (object_of p) ≡ Some o
    → (k : ℕ) × (object_place u (answers_in (happened (first_world (plain_thread u) u.store) inputs schedule)) (object_of p) ≡ Some k) × (has_member (members place) k ≡ true)
