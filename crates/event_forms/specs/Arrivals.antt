-- What code tells in the order of its places, and the run that it is.
use Rattle.std.specs.Prelude.{ℕ, List, [], ◌∷◌}
use Rattle.actions.specs.declared.action.Action.{Action}
use Rattle.actions.specs.declared.action.Answer.{Answer}
use Rattle.actions.specs.declared.action.Next.{Next}
use Rattle.event_forms.specs.Runs.{Run, stops, asks}

pub data Seen : Type 0 where
  asked : (action : Action) (line function : ℕ) (answer : Answer) → Seen
  stopped : (end : Next) → Seen

-- the run that these tell; nothing that stands behind an end counts
abbrev pub read : List Seen → Run → Run
read [] rest = rest
read (asked action line f a ∷ told) rest = asks action line f a (read told rest)
read (stopped end ∷ told) rest = stops end
