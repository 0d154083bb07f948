-- Tests of the places at which an offset can be.
use Rattle.std.specs.Prelude.{◌≡◌, ◌==◌, ◌&&◌, ◌||◌, ◌<◌, ℕ, Bool, true, false, nat_lt, List, [], ◌∷◌, All}
use Rattle.word_dag.specs.declared.nodes.Id.{Id}
use Rattle.word_dag.specs.declared.nodes.Node.{Node}
use Rattle.word_dag.specs.Meaning.{value}
use Rattle.value_nodes.specs.Values.{IsWord, IsTest}
use Rattle.byte_ops.specs.declared.places.PlaceTest.{PlaceTest}
use Rattle.byte_ops.specs.declared.places.TestedOffset.{TestedOffset}

-- it tells whether the offset is the place
abbrev pub IsPlaceTest : List Node → Id → PlaceTest → Type 0
IsPlaceTest d offset t = IsTest d t.test (λ v. value v d offset == t.at)

-- a number is a tested place below a limit
abbrev pub is_tested : ℕ → List PlaceTest → ℕ → Bool
is_tested limit [] x = false
is_tested limit (t ∷ ts) x = (nat_lt t.at limit && (x == t.at)) || is_tested limit ts x

-- Whatever the offset is under a valuation, if that is below the size it is a tested place.
pub record IsTestedOffset (d : List Node) (o : TestedOffset) : Type 0 where
  pub offset : IsWord d o.offset 32
  pub each : All (IsPlaceTest d o.offset) o.tests.items
  pub whole : (v : ℕ → ℕ) → value v d o.offset < o.size → is_tested o.size o.tests.items (value v d o.offset) ≡ true
