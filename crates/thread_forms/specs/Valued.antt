-- The candidate that a valuation and marks give: marks say which events are executed, their clocks and what they read.
use Rattle.std.specs.Prelude.{◌≡◌, ◌<◌, ℕ, zero, suc, Bool, true, false, ◌&&◌, ◌==◌, List, [], ◌∷◌, Option, Some, None, if◌then◌else◌}
use Rattle.actions.specs.declared.action.Action.{Action}
use Rattle.actions.specs.declared.action.Action.TheVariants.{Draw, Alloc, Create}
use Rattle.actions.specs.declared.action.Answer.{Answer}
use Rattle.actions.specs.declared.action.Answer.TheVariants as answer
use Rattle.actions.specs.declared.action.Next.{Next}
use Rattle.actions.specs.declared.action.Next.TheVariants.{Act, Blocked, Broken}
use Rattle.actions.specs.Memory.{Memory}
use Rattle.weave.specs.Candidate.{Candidate, In}
use Rattle.thread_forms.specs.Forms.{Valuation, Told, passes, asks, stops, Name, Forms, names, number}

pub record Marks : Type 0 where
  pub executed : ℕ → ℕ → Bool
  pub clock : ℕ → ℕ → ℕ
  pub view : ℕ → ℕ → Memory

-- what a turn would make: an action, or a check that fails
abbrev pub breaks_by : Next → Bool
breaks_by (Broken class line function) = true
breaks_by _ = false

abbrev pub is_turn : Told → Bool
is_turn passes = false
is_turn (asks next a) = true
is_turn (stops next) = breaks_by next

abbrev pub next_told : Told → Next
next_told passes = Blocked
next_told (asks next a) = next
next_told (stops next) = next

abbrev pub own_answer : Answer → ℕ
own_answer (answer.Word w) = w.bits
own_answer (answer.Number n) = n
own_answer _ = 0

-- what an action with this answer took from its thread's record
abbrev pub own_for : Action → Answer → ℕ
own_for (Draw n) a = own_answer a
own_for (Alloc o) a = own_answer a
own_for (Create f v) a = own_answer a
own_for _ a = 0

abbrev pub own_next : Next → Answer → ℕ
own_next (Act action line function) a = own_for action a
own_next _ a = 0

abbrev pub own_told : Told → ℕ
own_told (asks next a) = own_next next a
own_told _ = 0

abbrev pub keep : (Name → Bool) → List Name → List Name
keep f [] = []
keep f (x ∷ xs) = if f x then x ∷ keep f xs else keep f xs

module _ (F : Forms) (v : Valuation) (m : Marks) where
  abbrev pub told : Name → Told
  told x = x.event.told v

  abbrev pub executed : Name → Bool
  executed x = m.executed x.form x.place

  abbrev pub taken : Name → Bool
  taken x = executed x && is_turn (told x)

  abbrev pub turns : ℕ → List Name
  turns i = keep taken (names F i)

  -- the form's thread is created
  abbrev pub there : ℕ → Bool
  there zero = true
  there (suc i) = taken (F.creator i)

  -- the form whose thread has this number
  abbrev pub form_of : ℕ → ℕ → Option ℕ
  form_of zero k = None
  form_of (suc n) k = if there n && (number F v n == k) then Some n else form_of n k

  abbrev pub turns_of : Option ℕ → List Name
  turns_of None = []
  turns_of (Some i) = turns i

  abbrev pub candidate : Candidate Name
  candidate = record {
    thread = λ x. number F v x.form;
    place = λ x. x.place;
    clock = λ x. m.clock x.form x.place;
    next = λ x. next_told (told x);
    own = λ x. own_told (told x);
    view = λ x. m.view x.form x.place;
    runs = λ k. turns_of (form_of F.many k);
  }

  -- an event that is executed and that a turn makes
  pub record IsTaken (x : Name) : Type 0 where
    pub form : x.form < F.many
    pub listed : In x (names F x.form)
    pub taken_there : taken x ≡ true
