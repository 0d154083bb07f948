-- Clocks from an order that is told pair by pair: how many of the events come before this one.
use Rattle.std.specs.Prelude.{◌≡◌, ◌<◌, ◌+◌, ℕ, Bool, true, false, List, [], ◌∷◌, length, if◌then◌else◌}
use Rattle.weave.specs.Candidate.{In}

abbrev pub rank : {Id : Type 0} → (Id → Id → Bool) → List Id → Id → ℕ
rank first [] x = 0
rank first (y ∷ ys) x = if first y x then rank first ys x + 1 else rank first ys x

pub record IsStrict {Id : Type 0} (first : Id → Id → Bool) (es : List Id) : Type 0 where
  pub irreflexive : (x : Id) → In x es → first x x ≡ false
  pub transitive : (x y z : Id) → In x es → In y es → In z es → first x y ≡ true → first y z ≡ true → first x z ≡ true

-- in a strict order of events ranks rise, and are below the number of the events
abbrev pub RanksRise : Type 0 → Type 0
RanksRise Id =
    (first : Id → Id → Bool) (es : List Id) → IsStrict first es
    → ((x y : Id) → In x es → In y es → first x y ≡ true → rank first es x < rank first es y) × ((x : Id) → In x es → rank first es x < length es)
