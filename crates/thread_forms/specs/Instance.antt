-- Forms that meet what is asked of forms: a main that ends the process, with marks by which it does, and a main that creates a thread and ends.
use Rattle.std.specs.Prelude.{ℕ, zero, suc, ◌^◌, nat_lt, true, List, [], ◌∷◌}
use Rattle.words.specs.declared.check.Class.TheVariants.{Assertion}
use Rattle.actions.specs.declared.action.Action.TheVariants as action
use Rattle.actions.specs.declared.action.Answer.TheVariants as answer
use Rattle.actions.specs.declared.action.Next.TheVariants.{Act, Broken}
use Rattle.actions.specs.Behaviour.{Thread}
use Rattle.actions.specs.Objects.{Objects}
use Rattle.interleave.specs.declared.script.Step.{Step}
use Rattle.interleave.specs.declared.script.Step.TheVariants as step
use Rattle.interleave.specs.Script.{thread_of, start_at}
use Rattle.interleave.specs.World.{first_common}
use Rattle.weave.specs.Family.{IsFamily, AreWhole}
use Rattle.weave.specs.Tables.{shared}
use Rattle.thread_forms.specs.Forms.{Valuation, asks, stops, Event, Forms, AreForms}
use Rattle.thread_forms.specs.Valued.{Marks, candidate}
use Rattle.thread_forms.specs.Meets.{Meets}
use Rattle.thread_forms.specs.Runs.{AreFit}
use Rattle.thread_forms.specs.Order.{IsOrder}
use Rattle.thread_forms.specs.Bounds.{IsBounded}

abbrev pub exiting : Thread
exiting = thread_of (step.Exit ∷ []) (start_at 0)

abbrev pub exit_event : Event
exit_event = record { guard = λ v. true; told = λ v. asks (Act action.Exit 1 0) answer.Done }

abbrev pub exit_forms : Forms
exit_forms = record { many = 1; events = λ i. exit_event ∷ []; creator = λ i. record { form = 0; place = 0; event = exit_event }; low = λ i. 0 }

abbrev pub exit_marks : Marks
exit_marks = record { executed = λ i n. true; clock = λ i n. 0; view = λ i n. (first_common []).memory }

-- thread 1 starts at step 1, and ends there as main does
abbrev pub creating_steps : List Step
creating_steps = step.Create 1 ∷ step.End 0 ∷ []

abbrev pub creating : Thread
creating = thread_of creating_steps (start_at 0)

-- the thread's number is variable 0; where it is no number of 32 bits main goes on no more
abbrev pub create_event : Event
create_event = record { guard = λ v. true; told = λ v. asks (Act (action.Create 1 0) 1 0) (answer.Number (v 0)) }

abbrev pub after_event : Event
after_event = record { guard = λ v. nat_lt (v 0) (2 ^ 32); told = λ v. asks (Act (action.End 0) 1 0) answer.Done }

abbrev pub end_event : Event
end_event = record { guard = λ v. true; told = λ v. asks (Act (action.End 0) 1 0) answer.Done }

abbrev pub creating_events : ℕ → List Event
creating_events zero = create_event ∷ after_event ∷ []
creating_events (suc i) = end_event ∷ []

abbrev pub creating_low : ℕ → ℕ
creating_low zero = 0
creating_low (suc i) = 1

abbrev pub creating_forms : Forms
creating_forms = record { many = 2; events = creating_events; creator = λ i. record { form = 0; place = 0; event = create_event }; low = creating_low }

abbrev pub IsInstance : Type 0
IsInstance = AreForms exiting exit_forms × ((v : Valuation) (objects : Objects) → Meets exit_forms v exit_marks objects × AreFit (candidate exit_forms v exit_marks))

abbrev pub HasCreate : Type 0
HasCreate = AreForms creating creating_forms

-- both threads end: thread 1 between main's two events
abbrev pub ended_clock : ℕ → ℕ → ℕ
ended_clock zero zero = 0
ended_clock zero (suc n) = 2
ended_clock (suc i) n = 1

abbrev pub ended_marks : Marks
ended_marks = record { executed = λ i n. true; clock = ended_clock; view = λ i n. (first_common shared).memory }

-- all that is asked is met at once by these two threads: of the program, of the first store, of the forms, and of a valuation with marks
pub record AreTwoThreads : Type 0 where
  pub family : IsFamily creating
  pub whole : AreWhole shared
  pub bounded : IsBounded creating shared
  pub forms : AreForms creating creating_forms
  pub meets : Meets creating_forms (λ x. 1) ended_marks shared
  pub fit : AreFit (candidate creating_forms (λ x. 1) ended_marks)

-- ---- a main that breaks a check, and a formula that is always true

abbrev pub breaking : Thread
breaking = thread_of (step.Assert 1 ∷ []) (start_at 0)

abbrev pub break_event : Event
break_event = record { guard = λ v. true; told = λ v. stops (Broken Assertion 1 0) }

abbrev pub break_forms : Forms
break_forms = record { many = 1; events = λ i. break_event ∷ []; creator = λ i. record { form = 0; place = 0; event = break_event }; low = λ i. 0 }

abbrev pub all_marks : Marks
all_marks = exit_marks

abbrev pub HasOrder : Type 0
HasOrder = AreForms breaking break_forms × ((objects : Objects) → IsOrder break_forms objects (λ v. true) (λ v. all_marks))
