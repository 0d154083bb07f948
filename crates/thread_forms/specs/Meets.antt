-- Conditions on one, two or three events, as a formula has them, under which the candidate of a valuation is consistent.
use Rattle.std.specs.Prelude.{◌≡◌, ◌<◌, ℕ, zero, suc, Bool, true, false, List, [], ◌∷◌, length, Option, Some, None, ◌⊎◌}
use Rattle.actions.specs.Behaviour.{Thread}
use Rattle.actions.specs.Objects.{Objects}
use Rattle.actions.specs.Row.{Outcome, waits, moves}
use Rattle.actions.specs.Table.{exits}
use Rattle.interleave.specs.declared.counts.Counts.{Counts}
use Rattle.interleave.specs.World.{no_counts, first_common}
use Rattle.weave.specs.Place.{Place, value_at}
use Rattle.weave.specs.Step.{IsOwn, counted_by}
use Rattle.weave.specs.Candidate.{In, outcome_at, mode_at, ReadsAt, written_at, WritesAt, Later}
use Rattle.weave.specs.Consistent.{inside_after, IsConsistent}
use Rattle.weave.specs.Family.{IsFamily}
use Rattle.thread_forms.specs.Forms.{Valuation, Told, passes, asks, stops, Name, Forms, names, number, AreForms}
use Rattle.thread_forms.specs.Valued.{Marks, told, executed, taken, turns, candidate, IsTaken, next_told, own_told}

-- the thread goes on behind the event
abbrev pub GoesPast : Told → Outcome → Type 0
GoesPast passes o = Unit {0}
GoesPast (asks next a) (moves b change) = Unit {0}
GoesPast (asks next a) _ = ⊥
GoesPast (stops next) o = ⊥

-- the answer that comes is the one that the valuation has, and no event waits
abbrev pub Answers : Told → Outcome → Type 0
Answers (asks next a) (moves b change) = b ≡ a
Answers told waits = ⊥
Answers told _ = Unit {0}

abbrev pub first_counts : Objects → ℕ → Counts
first_counts objects zero = record no_counts { objects = length objects }
first_counts objects (suc i) = no_counts

module _ (F : Forms) (v : Valuation) (m : Marks) where
  abbrev pub if_taken : Bool → Type 0 → Type 0 → Type 0
  if_taken true x y = x
  if_taken false x y = y

  -- the own parts of the taken events are those of their thread's record
  abbrev pub Numbered : ℕ → Counts → List Name → Type 0
  Numbered k counts [] = Unit {0}
  Numbered k counts (x ∷ xs) =
      if_taken (taken F v m x) (IsOwn k counts (own_told (told F v m x)) (next_told (told F v m x)) × Numbered k (counted_by [] counts (next_told (told F v m x))) xs) (Numbered k counts xs)

  pub record Orders (objects : Objects) : Type 0 where
    pub guarded : (x : Name) → x.form < F.many → In x (names F x.form) → executed F v m x ≡ true → x.event.guard v ≡ true
    pub before : (x y : Name) → x.form < F.many → In x (names F x.form) → In y (names F x.form) → x.place < y.place → executed F v m y ≡ true → x.event.guard v ≡ true
        → (executed F v m x ≡ true) × GoesPast (told F v m x) (outcome_at (candidate F v m) x)
    pub answers : (x : Name) → IsTaken F v m x → Answers (told F v m x) (outcome_at (candidate F v m) x)
    pub numbers : (i : ℕ) → i < F.many → Numbered (number F v i) (first_counts objects i) (names F i)
    pub created : (i : ℕ) (y : Name) → y.form ≡ suc i → IsTaken F v m y → (taken F v m (F.creator i) ≡ true) × (m.clock (F.creator i).form (F.creator i).place < m.clock y.form y.place)

  abbrev pub IsLastName : Name → Type 0
  IsLastName x = (y : Name) → IsTaken F v m y → (number F v y.form ≡ number F v x.form → ⊥) → m.clock y.form y.place < m.clock x.form x.place

  abbrev pub FollowsName : Bool → Name → List Name → Type 0
  FollowsName true x [] = IsLastName x
  FollowsName true x (y ∷ ys) = (m.clock y.form y.place ≡ m.clock x.form x.place) × (x.place < y.place)
  FollowsName false x [] = Unit {0}
  FollowsName false x (y ∷ ys) = (m.clock x.form x.place < m.clock y.form y.place) × (x.place < y.place)

  abbrev pub NameGroups : Bool → List Name → Type 0
  NameGroups inside [] = Unit {0}
  NameGroups inside (x ∷ xs) = FollowsName (inside_after (mode_at (candidate F v m) x) inside) x xs × NameGroups (inside_after (mode_at (candidate F v m) x) inside) xs

  abbrev pub SourceAt : Objects → Name → Place → Option Name → Type 0
  SourceAt objects x p None =
      (value_at (first_common objects).memory p ≡ value_at (m.view x.form x.place) p) × ((y : Name) → IsTaken F v m y → WritesAt (candidate F v m) y p → (y ≡ x) ⊎ Later (candidate F v m) y x)
  SourceAt objects x p (Some s) =
      IsTaken F v m s × Later (candidate F v m) x s × (written_at (candidate F v m) s p ≡ Some (value_at (m.view x.form x.place) p))
      × ((y : Name) → IsTaken F v m y → WritesAt (candidate F v m) y p → Later (candidate F v m) y s → (y ≡ x) ⊎ Later (candidate F v m) y x)

  pub record Meets (objects : Objects) : Type 0 where
    pub orders : Orders objects
    pub groups : (i : ℕ) → i < F.many → NameGroups false (turns F v m i)
    pub sources : (x : Name) (p : Place) → IsTaken F v m x → ReadsAt (candidate F v m) x p → (o : Option Name) × SourceAt objects x p o
    pub coherent : (x y : Name) (p : Place) → IsTaken F v m x → IsTaken F v m y → WritesAt (candidate F v m) x p → WritesAt (candidate F v m) y p
        → (number F v x.form ≡ number F v y.form → ⊥) → m.clock x.form x.place ≡ m.clock y.form y.place → ⊥
    pub exits : (x : Name) → IsTaken F v m x → mode_at (candidate F v m) x ≡ exits → IsLastName x

-- a valuation whose marks meet the conditions gives a consistent candidate
abbrev pub MeetsIsConsistent : Type 0
MeetsIsConsistent = (t : Thread) (objects : Objects) (F : Forms) (v : Valuation) (m : Marks) → IsFamily t → AreForms t F → Meets F v m objects → IsConsistent (candidate F v m) t objects
