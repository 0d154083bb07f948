-- The order of a candidate's events, and what it is that a run's turns are its events.
use Rattle.std.specs.Prelude.{◌≡◌, ◌==◌, ℕ, List, [], ◌∷◌, Some, if◌then◌else◌, IfSome}
use Rattle.words.specs.declared.check.Class.{Class}
use Rattle.words.specs.declared.check.Check.{Check}
use Rattle.actions.specs.declared.action.Action.TheVariants.{Draw}
use Rattle.actions.specs.declared.action.Next.{Next}
use Rattle.actions.specs.declared.action.Next.TheVariants.{Act}
use Rattle.actions.specs.Row.{Outcome, breaks, waits, moves, outcome_in}
use Rattle.interleave.specs.declared.turn.Turn.{Turn}
use Rattle.interleave.specs.declared.turn.Turn.TheVariants as turned
use Rattle.interleave.specs.Inputs.{InputLists, words_of}
use Rattle.interleave.specs.World.{World, member_at}
use Rattle.interleave.specs.Turn.{turn}
use Rattle.interleave.specs.View.{next_at}
use Rattle.weave.specs.Step.{own_by, row_by, turn_by, check_by}
use Rattle.weave.specs.Candidate.{Candidate, In, Each, Executed, outcome_at, Before}

abbrev pub unless_breaks : {X : Type 0} → Outcome → List X → List X
unless_breaks (breaks class) xs = []
unless_breaks waits xs = xs
unless_breaks (moves answer change) xs = xs

-- the word that a step draws, in front of those drawn later
abbrev pub drawn_by : Next → ℕ → List ℕ → List ℕ
drawn_by (Act (Draw n) line function) own words = own ∷ words
drawn_by _ own words = words

module _ {Id : Type 0} (c : Candidate Id) where
  abbrev pub Sorted : List Id → Type 0
  Sorted [] = Unit {0}
  Sorted (x ∷ xs) = Each (Before c x) xs × Sorted xs

  -- the executed events, in their order
  pub record IsOrder (es : List Id) : Type 0 where
    pub sorted : Sorted es
    pub only : (x : Id) → In x es → Executed c x
    pub all : (x : Id) → Executed c x → In x es

  -- up to the first that breaks
  abbrev pub cut : List Id → List Id
  cut [] = []
  cut (x ∷ xs) = x ∷ unless_breaks (outcome_at c x) (cut xs)

  -- the words that thread t draws
  abbrev pub drawn : ℕ → List Id → List ℕ
  drawn t [] = []
  drawn t (x ∷ xs) = if c.thread x == t then drawn_by (c.next x) (c.own x) (drawn t xs) else drawn t xs

  abbrev pub AreDrawn : InputLists → List Id → Type 0
  AreDrawn inputs es = (t : ℕ) → words_of inputs t ≡ drawn t es

  -- a turn of x's thread makes x: this step is next, in the memory and with the record that are there the same comes of it, with the same answer, and the turn says so
  pub record IsTurn (inputs : InputLists) (w : World) (x : Id) : Type 0 where
    pub asks : next_at w.members (c.thread x) ≡ Some (c.next x)
    pub comes : IfSome (member_at w.members (c.thread x)) (λ m. outcome_in w.common.memory (row_by (c.thread x) (own_by (c.thread x) (words_of inputs (c.thread x)) m.counts (c.next x)) (c.next x)) ≡ outcome_at c x)
    pub tells : (turn w (c.thread x) inputs).0 ≡ turn_by (c.thread x) (c.next x) (outcome_at c x)

  -- one turn for each event, in this order
  abbrev pub Plays : InputLists → World → List Id → Type 0
  Plays inputs w [] = Unit {0}
  Plays inputs w (x ∷ xs) = IsTurn inputs w x × Plays inputs (turn w (c.thread x) inputs).1 xs

  -- the event breaks this check
  abbrev pub Breaks : Id → Check → Type 0
  Breaks x check = (class : Class) × (outcome_at c x ≡ breaks class) × (check_by (c.thread x) class (c.next x) ≡ check)

-- ---- the turns of a run that do something: they move or break, up to the first that breaks

abbrev pub kept_by : Turn → ℕ → List ℕ → List ℕ
kept_by turned.Moved t ts = t ∷ ts
kept_by turned.Nothing t ts = ts
kept_by (turned.Broken check) t ts = t ∷ []

abbrev pub acting : World → InputLists → List ℕ → List ℕ
acting w inputs [] = []
acting w inputs (t ∷ ts) = let r = turn w t inputs in kept_by r.0 t (acting r.1 inputs ts)
