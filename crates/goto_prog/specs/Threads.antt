-- What code does as what a thread does.
use Rattle.std.specs.Prelude.{ℕ, List, [], ◌∷◌, if◌then◌else◌}
use Rattle.actions.specs.declared.action.Action.{Action}
use Rattle.actions.specs.declared.action.Answer.{Answer}
use Rattle.actions.specs.declared.action.Next.{Next}
use Rattle.actions.specs.declared.action.Next.TheVariants.{Act, Blocked}
use Rattle.actions.specs.Behaviour.{Behaviour, shape_of, has_shape}
use Rattle.goto_prog.specs.Meaning.{Given, Reading}

-- nothing comes behind
abbrev pub final : Next → Behaviour
final n [] = n
final n (a ∷ answers) = Blocked

-- an action, and what follows its answer
abbrev pub ask : Action → ℕ → ℕ → (Answer → Behaviour) → Behaviour
ask action line function follows [] = Act action line function
ask action line function follows (a ∷ answers) = if has_shape (shape_of action) a then follows a answers else Blocked

-- what a call in a function does, of a function at a line with these arguments' bytes: what that hands over then goes to what follows
abbrev pub Calls : Type 0
Calls = (caller function line : ℕ) → List (List ℕ) → (Given → Behaviour) → Behaviour

-- code of a function whose calls do this, and whose end this is
abbrev pub acting : Calls → (Given → Behaviour) → Reading Behaviour
acting calls hands = record { ask = λ action line function place follows. ask action line function follows; stop = final; call = calls; hand = hands }

-- code without calls; what it hands over is lost
abbrev pub behaving : Reading Behaviour
behaving = acting (λ caller function line arguments follows. final Blocked) (λ given. final Blocked)
