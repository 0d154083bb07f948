-- Consistent candidates (CAV 2013, the sequentially consistent case): conditions on the executed events, one, two or three at a time.
use Rattle.std.specs.Prelude.{◌≡◌, ◌<◌, ℕ, suc, Bool, true, false, List, [], ◌∷◌, length, Option, Some, None, ◌⊎◌}
use Rattle.actions.specs.declared.action.Answer.{Answer}
use Rattle.actions.specs.Behaviour.{Thread}
use Rattle.actions.specs.Memory.{starts}
use Rattle.actions.specs.Objects.{Objects}
use Rattle.actions.specs.Row.{Outcome, breaks, waits, moves}
use Rattle.actions.specs.Table.{Mode, plain, opens, closes, exits}
use Rattle.interleave.specs.World.{Member, no_counts, child, first_common}
use Rattle.weave.specs.Place.{Place, value_at}
use Rattle.weave.specs.Step.{IsOwn, told_by}
use Rattle.weave.specs.Candidate.{Candidate, In, Each, Executed, outcome_at, change_at, mode_at, ReadsAt, written_at, WritesAt, Later}

-- main on a first store, whose objects count as its own
abbrev pub main_member : Thread → Objects → Member
main_member t objects = record { thread = t; counts = record no_counts { objects = length objects } }

-- whether a thread is in a section after an event of this mode
abbrev pub inside_after : Mode → Bool → Bool
inside_after plain inside = inside
inside_after opens inside = true
inside_after closes inside = false
inside_after exits inside = inside

module _ {Id : Type 0} (c : Candidate Id) where
  -- an event that breaks is its thread's last, and none waits
  abbrev pub GoesOn : Outcome → List Id → (Answer → Type 0) → Type 0
  GoesOn (breaks class) xs rest = xs ≡ []
  GoesOn waits xs rest = ⊥
  GoesOn (moves answer change) xs rest = rest answer

  -- these events are the first steps of the thread, each with the answer that comes for what it reads
  abbrev pub IsRun : Member → List Id → Type 0
  IsRun m [] = Unit {0}
  IsRun m (x ∷ xs) =
      (m.thread.behaves [] ≡ c.next x) × IsOwn (c.thread x) m.counts (c.own x) (c.next x) × GoesOn (outcome_at c x) xs (λ a. IsRun (told_by [] m (c.next x) a) xs)

  -- thread k was created by an executed event, before each of its own, and they are its run
  pub record IsChild (main : Member) (k : ℕ) : Type 0 where
    pub creator : Id
    pub function : ℕ
    pub value : ℕ
    pub executed : Executed c creator
    pub creates : change_at c creator ≡ starts k function value
    pub after : Each (λ y. c.clock creator < c.clock y) (c.runs k)
    pub run : IsRun (child main function value) (c.runs k)

  abbrev pub IsLast : Id → Type 0
  IsLast x = (y : Id) → Executed c y → (c.thread y ≡ c.thread x → ⊥) → c.clock y < c.clock x

  -- from event to event the clock rises, and stays within a section; beside a section that is left open all other threads' events are earlier
  abbrev pub Follows : Bool → Id → List Id → Type 0
  Follows true x [] = IsLast x
  Follows true x (y ∷ ys) = (c.clock y ≡ c.clock x) × (c.place x < c.place y)
  Follows false x [] = Unit {0}
  Follows false x (y ∷ ys) = (c.clock x < c.clock y) × (c.place x < c.place y)

  abbrev pub Groups : Bool → List Id → Type 0
  Groups inside [] = Unit {0}
  Groups inside (x ∷ xs) = Follows (inside_after (mode_at c x) inside) x xs × Groups (inside_after (mode_at c x) inside) xs

  -- x reads at p the first value, or what s wrote; every other write there is later than that comes later than x too (from-read). An action reads before it writes.
  abbrev pub IsSource : Objects → Id → Place → Option Id → Type 0
  IsSource objects x p None =
      (value_at (first_common objects).memory p ≡ value_at (c.view x) p) × ((y : Id) → Executed c y → WritesAt c y p → (y ≡ x) ⊎ Later c y x)
  IsSource objects x p (Some s) =
      Executed c s × Later c x s × (written_at c s p ≡ Some (value_at (c.view x) p)) × ((y : Id) → Executed c y → WritesAt c y p → Later c y s → (y ≡ x) ⊎ Later c y x)

  pub record IsConsistent (t : Thread) (objects : Objects) : Type 0 where
    pub owned : (k : ℕ) (x : Id) → In x (c.runs k) → c.thread x ≡ k
    pub main : IsRun (main_member t objects) (c.runs 0)
    pub children : (k : ℕ) → (c.runs (suc k) ≡ []) ⊎ IsChild (main_member t objects) (suc k)
    pub groups : (k : ℕ) → Groups false (c.runs k)
    pub sources : (x : Id) (p : Place) → Executed c x → ReadsAt c x p → (o : Option Id) × IsSource objects x p o
    pub coherent : (x y : Id) (p : Place) → Executed c x → Executed c y → WritesAt c x p → WritesAt c y p → (c.thread x ≡ c.thread y → ⊥) → c.clock x ≡ c.clock y → ⊥
    pub exits : (x : Id) → Executed c x → mode_at c x ≡ exits → IsLast x
