-- What the code tells of the outcome of an action: the answer, or the thread to start, and not what it changed.
use Rattle.std.specs.Prelude.{◌≡◌, ◌<◌, ◌^◌, ℕ, true, None}
use Rattle.actions.specs.declared.action.Action.{Action}
use Rattle.actions.specs.declared.action.Action.TheVariants.{Draw, Alloc, Create}
use Rattle.actions.specs.declared.action.Answer.{Answer}
use Rattle.actions.specs.Behaviour.{shape_of, has_shape}
use Rattle.actions.specs.Objects.{object_at}
use Rattle.actions.specs.Memory.{Memory, Change, starts, changed}
use Rattle.actions.specs.Row.{Row, Outcome, breaks, waits, moves, outcome_in}
use Rattle.interleave.specs.declared.effect.Effect.{Effect}
use Rattle.interleave.specs.declared.effect.Effect.TheVariants as effect
use Rattle.interleave.specs.World.{Common}

abbrev pub effect_of_move : Answer → Change → Effect
effect_of_move answer (starts number f v) = effect.Starts number f v
effect_of_move answer _ = effect.Moves answer

abbrev pub effect_of : Outcome → Effect
effect_of (breaks class) = effect.Breaks class
effect_of waits = effect.Waits
effect_of (moves answer change) = effect_of_move answer change

abbrev pub effect_in : Common → Row → Effect
effect_in c row = effect_of (outcome_in c.memory row)

abbrev pub memory_after : Memory → Outcome → Memory
memory_after m (breaks class) = m
memory_after m waits = m
memory_after m (moves answer change) = changed m change

-- the memory changed by a row, and nothing else
abbrev pub after_row : Common → Row → Common
after_row c row = record c { memory = memory_after c.memory (outcome_in c.memory row) }

-- an answer has its action's shape, and only a Create starts a thread
abbrev pub EffectFits : Action → Effect → Type 0
EffectFits action (effect.Breaks class) = Unit {0}
EffectFits action effect.Waits = Unit {0}
EffectFits action (effect.Moves answer) = has_shape (shape_of action) answer ≡ true
EffectFits action (effect.Starts number f v) = action ≡ Create f v

-- what an action's own part has to be
abbrev pub OwnFits : Memory → Action → ℕ → Type 0
OwnFits m (Draw n) own = own < 2 ^ n
OwnFits m (Alloc o) own = (own < 2 ^ 32) × (object_at m.objects own ≡ None)
OwnFits m (Create f v) own = own < 65536
OwnFits m _ own = Unit {0}
