-- Schedules of small scripts as valuations of their forms: the numbers of the answers, with which the events of each thread are those of the run.
use Rattle.std.specs.Prelude.{◌≡◌, ℕ, nat_lt, List, [], ◌∷◌, length, map, get_or, Option, Some, None}
use Rattle.actions.specs.declared.action.Answer.{Answer}
use Rattle.actions.specs.declared.action.Next.{Next}
use Rattle.actions.specs.Row.{Outcome, moves}
use Rattle.weave.specs.Candidate.{Candidate, Each, outcome_at}
use Rattle.weave.specs.RunCandidate.{from, candidate_of_run}
use Rattle.weave.specs.Tables.{Row, main_of, shared, open_section, exit, join, nobody}
use Rattle.thread_forms.specs.Forms.{Valuation, Told, asks, Name, Forms, number}
use Rattle.thread_forms.specs.Valued.{Marks, told, turns, candidate}
use Rattle.thread_forms.specs.ScriptForms.{script_forms}

pub record ValuedRow : Type 0 where
  pub row : Row
  pub answers : List ℕ

-- what is seen of an event: its thread, clock, step and outcome, and the answer that it got
pub record Seen : Type 0 where
  pub thread : ℕ
  pub clock : ℕ
  pub next : Next
  pub outcome : Outcome
  pub answer : Option Answer

abbrev pub answer_given : Outcome → Option Answer
answer_given (moves a change) = Some a
answer_given _ = None

-- the answer that the valuation has for an event that moves
abbrev pub answer_told : Told → Outcome → Option Answer
answer_told (asks next a) (moves b change) = Some a
answer_told _ o = None

module _ (r : ValuedRow) where
  abbrev pub forms_of : Forms
  forms_of = script_forms r.row.steps

  abbrev pub valuation_of : Valuation
  valuation_of x = get_or r.answers x 0

  abbrev pub run_of : Candidate ℕ
  run_of = candidate_of_run (main_of r.row.steps) shared [] r.row.turns

  -- the turns of the run that are the events of form i
  abbrev pub turns_at : ℕ → List ℕ
  turns_at i = run_of.runs (number forms_of valuation_of i)

  -- the marks that the run's turns leave
  abbrev pub marks_of : Marks
  marks_of = record {
    executed = λ i n. nat_lt n (length (turns_at i));
    clock = λ i n. run_of.clock (get_or (turns_at i) n 0);
    view = λ i n. run_of.view (get_or (turns_at i) n 0);
  }

  abbrev pub seen_told : Name → Seen
  seen_told x = record {
    thread = (candidate forms_of valuation_of marks_of).thread x;
    clock = (candidate forms_of valuation_of marks_of).clock x;
    next = (candidate forms_of valuation_of marks_of).next x;
    outcome = outcome_at (candidate forms_of valuation_of marks_of) x;
    answer = answer_told (told forms_of valuation_of marks_of x) (outcome_at (candidate forms_of valuation_of marks_of) x);
  }

  abbrev pub seen_in_run : ℕ → Seen
  seen_in_run n = record { thread = run_of.thread n; clock = run_of.clock n; next = run_of.next n; outcome = outcome_at run_of n; answer = answer_given (outcome_at run_of n) }

  -- the taken events of each form are the run's turns of its thread
  abbrev pub SameEvents : Type 0
  SameEvents = Each (λ (i : ℕ). map seen_told (turns forms_of valuation_of marks_of i) ≡ map seen_in_run (turns_at i)) (from 0 forms_of.many)

abbrev pub AreValued : List ValuedRow → Type 0
AreValued [] = Unit {0}
AreValued (r ∷ rs) = SameEvents r × AreValued rs

-- the answers of main's events, in order, then those of the threads: first the numbers of the threads
abbrev pub open_section_valued : ValuedRow
open_section_valued = record { row = open_section; answers = 1 ∷ 2 ∷ [] }

abbrev pub exit_valued : ValuedRow
exit_valued = record { row = exit; answers = 1 ∷ [] }

abbrev pub join_valued : ValuedRow
join_valued = record { row = join; answers = 1 ∷ 5 ∷ 5 ∷ [] }

abbrev pub nobody_valued : ValuedRow
nobody_valued = record { row = nobody; answers = 1 ∷ 2 ∷ [] }

abbrev pub valued_table : List ValuedRow
valued_table = open_section_valued ∷ exit_valued ∷ join_valued ∷ nobody_valued ∷ []
