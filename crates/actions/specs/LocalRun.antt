-- What one thread does by itself: its actions and their answers in turn, and what is next in the end.
use Rattle.std.specs.Prelude.{◌≡◌, ◌<◌, ◌^◌, ◌↔◌, ℕ, true, List, [], ◌∷◌}
use Rattle.actions.specs.declared.action.Action.{Action}
use Rattle.actions.specs.declared.action.Answer.{Answer}
use Rattle.actions.specs.declared.action.Next.{Next}
use Rattle.actions.specs.declared.action.Next.TheVariants.{Act}
use Rattle.actions.specs.Behaviour.{Behaviour, after, accepts, IsProper, Thread}

pub record Exchange : Type 0 where
  pub action : Action
  pub line : ℕ
  pub function : ℕ
  pub answer : Answer

abbrev pub IsLocalRun : Behaviour → List Exchange → Next → Type 0
IsLocalRun behaves [] next = behaves [] ≡ next
IsLocalRun behaves (x ∷ run) next =
    (behaves [] ≡ Act x.action x.line x.function) × (accepts (behaves []) x.answer ≡ true) × IsLocalRun (after behaves x.answer) run next

-- exactly the same local runs
abbrev pub SameRuns : Behaviour → Behaviour → Type 0
SameRuns b c = (run : List Exchange) (next : Next) → IsLocalRun b run next ↔ IsLocalRun c run next

-- the same local runs, and so for the threads that both programs start, function by function and argument by argument
pub record SameThreads (t u : Thread) : Type 0 where
  pub runs : SameRuns t.behaves u.behaves
  pub others : (f v : ℕ) → t.program.can_start f ≡ true → u.program.can_start f ≡ true → v < 2 ^ 64 → SameRuns (t.program.behaves f v) (u.program.behaves f v)

-- a proper behaviour is determined by its local runs
abbrev pub SameBehaviours : Type 0
SameBehaviours = (b c : Behaviour) → IsProper b → IsProper c → SameRuns b c → b ≡ c
