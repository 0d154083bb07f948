-- Runs in which there is thread 0 alone.
use Rattle.std.proofs.Common.{◌≡◌, ℕ, suc, true, false, List, [], ◌∷◌, Option, None, refl, ◌∙◌, ap, arith}
use Rattle.std.specs.Prelude.{nat_lt, ◌==◌}
use Rattle.std.proofs.lemmas.Bool.Decides.{nat_tests}
use Rattle.actions.specs.Objects.{Objects}
use Rattle.actions.specs.Memory.{Change, keeps, adds, kills, puts, starts, ends, changed}
use Rattle.actions.specs.Row.{Outcome, moves}
use Rattle.actions.specs.Table.{mode_of, plain}
use Rattle.actions.specs.declared.action.Action.{Action}
use Rattle.actions.specs.declared.action.Action.TheVariants as actions
use Rattle.actions.specs.declared.action.Answer.{Answer}
use Rattle.actions.specs.declared.action.Answer.TheVariants as answers
use Rattle.actions.specs.declared.action.Next.{Next}
use Rattle.actions.specs.declared.action.Next.TheVariants.{Act}
use Rattle.actions.specs.Behaviour.{Behaviour, Program, after}
use Rattle.interleave.specs.declared.counts.Counts.{Counts}
use Rattle.interleave.specs.declared.turn.Turn.{Turn}
use Rattle.interleave.specs.declared.turn.Turn.TheVariants as turned
use Rattle.interleave.specs.declared.turn.Outcome.TheVariants as ending
use Rattle.interleave.specs.Inputs.{InputLists, words_of}
use Rattle.interleave.specs.Own.{own_part, counted}
use Rattle.interleave.specs.World.{World, Member, first_common, section_after, ended_after}
use Rattle.interleave.specs.Turn.{turn, settled, with_next}
use Rattle.interleave.specs.Run.{run}
use Rattle.event_forms.specs.Happenings.{Happening, action_happens, next_happens, happens, before, happened}
use Rattle.event_forms.specs.Accesses.{memory_of}
use Rattle.event_forms.proofs.Quiet.{outcome_with, IsOfObjects}

pub not_below : (t : ℕ) → nat_lt (suc t) 0 ≡ false
not_below t = grind (arith, nat_tests)

pub not_zero : (t : ℕ) → (suc t == 0) ≡ false
not_zero t = grind (arith, nat_tests)

-- ---- the states

module _ (objects : Objects) (program : Program) where
  abbrev pub member : Behaviour → Counts → Member
  member b counts = record { thread = record { behaves = b; program = program }; counts = counts }

  abbrev pub alone : Behaviour → Counts → World
  alone b counts = record { common = first_common objects; members = (0, member b counts) ∷ [] }

  -- the process has ended
  abbrev pub over : Behaviour → Counts → World
  over b counts = record { common = record (first_common objects) { ended = true }; members = (0, member b counts) ∷ [] }

  -- ---- turns, and what happens in them

  pub other_turn : (b : Behaviour) (counts : Counts) (t : ℕ) (inputs : InputLists) → turn (alone b counts) (suc t) inputs ≡ (turned.Nothing, alone b counts)
  other_turn b counts t inputs = simp (not_below t, not_zero t)

  pub other_happens : (b : Behaviour) (counts : Counts) (t : ℕ) (inputs : InputLists) → happens (alone b counts) (suc t) inputs ≡ None
  other_happens b counts t inputs = simp (not_below t, not_zero t)

  pub own_turn : (b : Behaviour) (counts : Counts) (inputs : InputLists) (next : Next) → b [] ≡ next
      → turn (alone b counts) 0 inputs ≡ with_next (alone b counts) 0 (words_of inputs 0) (member b counts) next
  own_turn b counts inputs next is = ap (with_next (alone b counts) 0 (words_of inputs 0) (member b counts)) is

  pub own_happens : (b : Behaviour) (counts : Counts) (inputs : InputLists) (next : Next) → b [] ≡ next
      → happens (alone b counts) 0 inputs ≡ next_happens (first_common objects) 0 (words_of inputs 0) counts next
  own_happens b counts inputs next is = ap (next_happens (first_common objects) 0 (words_of inputs 0) counts) is

  pub exit_turn : (b : Behaviour) (counts : Counts) (inputs : InputLists) (line f : ℕ) → b [] ≡ Act actions.Exit line f
      → turn (alone b counts) 0 inputs ≡ (turned.Moved, over (after b answers.Done) counts)
  exit_turn b counts inputs line f is = own_turn b counts inputs (Act actions.Exit line f) is

  -- once the process has ended nothing breaks
  pub over_fine : (b : Behaviour) (counts : Counts) (inputs : InputLists) (schedule : List ℕ) → (run (over b counts) inputs schedule).0 ≡ ending.Fine
  over_fine b counts inputs [] = refl
  over_fine b counts inputs (t ∷ schedule) = over_fine b counts inputs schedule

-- ---- an action, by what comes of it

module _ (objects : Objects) (program : Program) (b : Behaviour) (counts : Counts) (inputs : InputLists) (action : Action) (line f : ℕ) where
  -- what the thread's own record gives to it
  abbrev pub own : ℕ
  own = own_part 0 (words_of inputs 0) counts action

  abbrev pub comes_to : Outcome → Turn × World
  comes_to o = settled (alone objects program b counts) 0 (words_of inputs 0) (member objects program b counts) action line f o

  pub act_turn : b [] ≡ Act action line f → (o : Outcome) → outcome_with objects own action ≡ o → turn (alone objects program b counts) 0 inputs ≡ comes_to o
  act_turn is o comes = own_turn objects program b counts inputs (Act action line f) is ∙ ap comes_to comes

  pub act_happens : b [] ≡ Act action line f → (o : Outcome) → outcome_with objects own action ≡ o → happens (alone objects program b counts) 0 inputs ≡ action_happens 0 action line f o
  act_happens is o comes = own_happens objects program b counts inputs (Act action line f) is ∙ ap (action_happens 0 action line f) comes

  -- the state behind it
  abbrev pub behind_it : Answer → Change → World
  behind_it a change = alone (changed (memory_of objects) change).objects program (after b a) (counted (words_of inputs 0) counts action)

  pub moves_on : mode_of action ≡ plain → (a : Answer) (change : Change) → IsOfObjects change → comes_to (moves a change) ≡ (turned.Moved, behind_it a change)
  moves_on mode a keeps of = λ i. (turned.Moved, record { common = record { memory = memory_of objects; section = section_after (mode i) 0 None; ended = ended_after (mode i) false }; members = (behind_it a keeps).members })
  moves_on mode a (adds number o) of =
      λ i. (turned.Moved, record { common = record { memory = changed (memory_of objects) (adds number o); section = section_after (mode i) 0 None; ended = ended_after (mode i) false }; members = (behind_it a keeps).members })
  moves_on mode a (kills number) of =
      λ i. (turned.Moved, record { common = record { memory = changed (memory_of objects) (kills number); section = section_after (mode i) 0 None; ended = ended_after (mode i) false }; members = (behind_it a keeps).members })
  moves_on mode a (puts p bytes) of =
      λ i. (turned.Moved, record { common = record { memory = changed (memory_of objects) (puts p bytes); section = section_after (mode i) 0 None; ended = ended_after (mode i) false }; members = (behind_it a keeps).members })
  moves_on mode a (starts number function value) of = absurd of
  moves_on mode a (ends number value) of = absurd of

-- ---- a run, by what its first turn comes to

pub first_happens : (w next : World) (inputs : InputLists) (t : ℕ) (schedule : List ℕ) (said : Turn) (h : Option Happening) → turn w t inputs ≡ (said, next) → happens w t inputs ≡ h
    → happened w inputs (t ∷ schedule) ≡ before h (happened next inputs schedule)
first_happens w next inputs t schedule said h turn_is is = λ i. before (is i) (happened (turn_is i).1 inputs schedule)
