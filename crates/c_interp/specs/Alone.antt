-- A run in which there is thread 0 alone, which starts no thread. Each of its turns makes at most one object, so there are numbers for all of them where the turns are few.
use Rattle.std.specs.Prelude.{◌≡◌, ◌<◌, ◌+◌, ◌^◌, ℕ, List, [], ◌∷◌, length, Option, Some, None}
use Rattle.words.specs.declared.check.Check.{Check}
use Rattle.actions.specs.declared.action.Answer.{Answer}
use Rattle.actions.specs.Behaviour.{Behaviour}
use Rattle.actions.specs.Objects.{Objects, object_at}
use Rattle.interleave.specs.declared.turn.Turn.{Turn}
use Rattle.interleave.specs.declared.turn.Turn.TheVariants as turned
use Rattle.interleave.specs.declared.turn.Outcome.{Outcome}
use Rattle.interleave.specs.World.{World, Member, member_at}
use Rattle.interleave.specs.Run.{unless_broken}
use Rattle.c_interp.specs.SourceThread.{StartsNone}

-- there are numbers below 2 ^ 32 for the objects that are there at the start, which are no more than 8,192, and for one of each turn
abbrev pub AreFewTurns : (schedule : List ℕ) → Type 0
AreFewTurns schedule = 8192 + length schedule < 2 ^ 32

abbrev pub Quietly : Behaviour → Type 0
Quietly b = (answers : List Answer) → StartsNone (b answers)

-- no object has a number above this one
abbrev pub AreBelow : Objects → ℕ → Type 0
AreBelow objects n = (k : ℕ) → n < k → object_at objects k ≡ None

abbrev pub IsAlone : World → Type 0
IsAlone w = (m : Member) × (w.members ≡ (0, m) ∷ []) × Quietly m.thread.behaves × AreBelow w.common.memory.objects m.counts.objects

-- how many objects thread 0 has made
abbrev pub made_by : Option Member → ℕ
made_by None = 0
made_by (Some m) = m.counts.objects

abbrev pub made_in : World → ℕ
made_in w = made_by (member_at w.members 0)

-- the turn breaks this check, or a run goes on in the next state
abbrev pub IsTurn : Turn × World → World → Option Check → Type 0
IsTurn x next (Some c) = x.0 ≡ turned.Broken c
IsTurn x next None = (go : World → Outcome × World) → unless_broken x.0 x.1 go ≡ go next
