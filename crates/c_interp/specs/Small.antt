-- A thread by small steps: silent steps up to an action or an end.
use Rattle.std.specs.Prelude.{ℕ, zero, suc, Bool, true, false}
use Rattle.actions.specs.declared.action.Answer.{Answer}
use Rattle.actions.specs.declared.action.Next.{Next}
use Rattle.actions.specs.declared.action.Next.TheVariants.{Act, Ended, Blocked, Broken}
use Rattle.actions.specs.Behaviour.{Behaviour, word_64}
use Rattle.actions.specs.ByStates.{behaviour_of}
use Rattle.c_meaning.specs.Meaning.{Code}
use Rattle.c_tasks.specs.Items.{Active, State}
use Rattle.c_interp.specs.Work.{weight}
use Rattle.c_tasks.specs.Steps.{Move, silent, asks, breaks, blocks, ends, move}

-- a state after a silent step, or this one
abbrev pub stepped_on : Move → State → (State → State) → State
stepped_on (silent next) s go = go next
stepped_on _ s go = s

-- what is next by a move of the function that runs
abbrev pub next_of : Active → Move → Next
next_of r (silent next) = Blocked
next_of r (asks action line follows) = Act action line r.function
next_of r (breaks class line) = Broken class line r.function
next_of r blocks = Blocked
next_of r (ends v) = Ended (word_64 v)

abbrev pub answered_by : Move → Answer → State → State
answered_by (asks action line follows) a s = follows a
answered_by _ a s = s

module _ (code : Code) (first limited : Bool) where
  -- after at most so many silent steps
  abbrev pub settled : ℕ → State → State
  settled zero s = s
  settled (suc n) s = stepped_on (move code first limited s) s (settled n)

  -- what comes next after at most as many silent steps as are said of the state, and the state after an answer
  module _ (steps : State → ℕ) where
    abbrev pub next_small : State → Next
    next_small s = let t = settled (steps s) s in next_of t.active (move code first limited t)

    abbrev pub answered_small : State → Answer → State
    answered_small s a = let t = settled (steps s) s in answered_by (move code first limited t) a t

    abbrev pub small : State → Behaviour
    small = behaviour_of next_small answered_small

-- under the bounds there are enough silent steps for each state
abbrev pub settle : Code → Bool → State → State
settle code first s = settled code first true (weight code s) s

abbrev pub bounded : Code → Bool → State → Behaviour
bounded code first = small code first true (weight code)

-- without bounds, where a turn may make so many silent steps: one that needs more changes nothing
abbrev pub unbounded : (silent_steps : ℕ) → Code → Bool → State → Behaviour
unbounded q code first = small code first false (λ s. q)
