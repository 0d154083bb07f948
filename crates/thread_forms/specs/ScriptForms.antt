-- The forms of a script whose main creates threads that create none: of each thread one event for each of its steps, and one variable for each answer.
use Rattle.std.specs.Prelude.{◌≡◌, ◌+◌, ℕ, zero, suc, Bool, true, false, not, ◌&&◌, nat_lt, List, [], ◌∷◌, length, drop, get_or, Option, Some, None, if◌then◌else◌}
use Rattle.std.specs.List.{list_all}
use Rattle.words.specs.BitVector.{word}
use Rattle.actions.specs.declared.action.Answer.{Answer}
use Rattle.actions.specs.declared.action.Answer.TheVariants as answer
use Rattle.actions.specs.declared.action.Next.{Next}
use Rattle.actions.specs.declared.action.Next.TheVariants.{Act}
use Rattle.actions.specs.Behaviour.{Shape, nothing, bytes, size, word as bits, number, value, shape_of, accepts}
use Rattle.interleave.specs.declared.script.Step.{Step}
use Rattle.interleave.specs.declared.script.Step.TheVariants.{Create, End, Exit}
use Rattle.interleave.specs.Script.{next_at_step, received, thread_of, start_at}
use Rattle.thread_forms.specs.Forms.{Valuation, Told, passes, asks, stops, Event, Name, Forms, AreForms}
use Rattle.thread_forms.specs.ScriptBounds.{forks_once}

-- the answer of this shape that a number stands for; a script reads single bytes
abbrev pub answer_in : Shape → ℕ → Answer
answer_in nothing n = answer.Done
answer_in (bytes k) n = answer.Bytes (n ∷ [])
answer_in size n = answer.Size n
answer_in (bits width) n = answer.Word (word width n)
answer_in number n = answer.Number n
answer_in value n = answer.Value n

abbrev pub answer_by : Next → ℕ → Answer
answer_by (Act action line function) n = answer_in (shape_of action) n
answer_by _ n = answer.Done

abbrev pub told_by : Next → ℕ → Told
told_by (Act action line function) n = asks (Act action line function) (answer_in (shape_of action) n)
told_by next n = stops next

-- the steps up to the first that ends the thread
abbrev pub is_last : Step → Bool
is_last (End v) = true
is_last Exit = true
is_last _ = false

abbrev pub until_last : List Step → List Step
until_last [] = []
until_last (s ∷ ss) = s ∷ (if is_last s then [] else until_last ss)

-- the Creates among these steps: the place of each, and the step at which its thread starts
abbrev pub creates_at : Step → Option ℕ
creates_at (Create f) = Some f
creates_at _ = None

abbrev pub add_created : Option ℕ → ℕ → List (ℕ × ℕ) → List (ℕ × ℕ)
add_created None n rest = rest
add_created (Some f) n rest = (n, f) ∷ rest

abbrev pub created_in : ℕ → List Step → List (ℕ × ℕ)
created_in n [] = []
created_in n (s ∷ ss) = add_created (creates_at s) n (created_in (suc n) ss)

abbrev pub silent : Event
silent = record { guard = λ v. false; told = λ v. passes }

module _ (steps : List Step) where
  -- the events of these steps, with variables from x on, in a thread with this register, that has gone on so far where `goes` says so
  abbrev pub events_from : List Step → ℕ → (Valuation → ℕ) → (Valuation → Bool) → List Event
  events_from [] x register goes = []
  events_from (s ∷ ss) x register goes =
      record { guard = goes; told = λ v. told_by (next_at_step (length steps) (register v) s) (v x) }
      ∷ events_from ss (suc x) (λ v. received (answer_by (next_at_step (length steps) (register v) s) (v x)) (register v))
      (λ v. goes v && (accepts (next_at_step (length steps) (register v) s) (answer_by (next_at_step (length steps) (register v) s) (v x)) && not (is_last s)))

  -- the steps of a thread that starts at f
  abbrev pub body : ℕ → List Step
  body f = until_last (drop f steps)

  abbrev pub created : List (ℕ × ℕ)
  created = created_in 0 (body 0)

  abbrev pub start_of : ℕ → ℕ
  start_of zero = 0
  start_of (suc i) = (get_or created i (0, 0)).1

  abbrev pub low_of : ℕ → ℕ
  low_of zero = 0
  low_of (suc i) = low_of i + length (body (start_of i))

  abbrev pub events_of : ℕ → List Event
  events_of i = events_from (body (start_of i)) (low_of i) (λ v. 0) (λ v. true)

  abbrev pub creator_of : ℕ → Name
  creator_of i = record { form = 0; place = (get_or created i (0, 0)).0; event = get_or (events_of 0) (get_or created i (0, 0)).0 silent }

  abbrev pub script_forms : Forms
  script_forms = record { many = suc (length created); events = events_of; creator = creator_of; low = low_of }

-- a Create starts its thread at a step
abbrev pub starts_within : List Step → Step → Bool
starts_within steps (Create f) = nat_lt f (length steps)
starts_within steps _ = true

abbrev pub is_forking : List Step → Bool
is_forking steps = list_all (λ (s : Step). forks_once steps s && starts_within steps s) steps

abbrev pub ScriptsHaveForms : Type 0
ScriptsHaveForms = (steps : List Step) → is_forking steps ≡ true → AreForms (thread_of steps (start_at 0)) (script_forms steps)
