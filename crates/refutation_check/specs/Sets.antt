-- Sets of literals, and how unit propagation grows them.
use Rattle.std.specs.Prelude.{◌≡◌, ℕ, zero, suc, ◌+◌, ◌*◌, ◌≤◌, Bool, false, true, List, All, length, IsTrue, map, nat_eq, if◌then◌else◌, slice_index_or}
use Rattle.sat_form.specs.Satisfaction.{Literal, inverse_of, index_of}
use Rattle.sat_form.specs.Propagation.{IsClosed}
use Rattle.refutation_check.specs.declared.literals.LiteralSet.TheInside.{Inside}

-- a set of literals over the variables below `variables`: for each literal, by its index, whether it is in the set
pub record Literals : Type 0 where
  pub variables : ℕ
  pub marks : List Bool

-- whether the literal is in the set
abbrev pub holds : Literals → Literal → Bool
holds s l = slice_index_or s.marks (index_of l) false

-- the literals of the round of now
abbrev pub literals_of : Inside → Literals
literals_of s = record { variables = s.variables; marks = map (λ round. nat_eq round s.round) s.rounds.items }

-- each literal of the variables has a round, none is later than that of now, and 0 is the round of no literal
pub record HasRounds (s : Inside) : Type 0 where
  pub places : length s.rounds.items ≡ 2 * s.variables
  pub past : All (λ round. round ≤ s.round) s.rounds.items
  pub begun : 1 ≤ s.round

-- no literal stands in the set with its inverse
abbrev pub IsConsistent : (Literal → Bool) → Type 0
IsConsistent set = (l : Literal) → IsTrue (set l) → IsTrue (set (inverse_of l)) → ⊥

-- how many of the literals over the variables below n the set lacks
abbrev pub missing : (Literal → Bool) → ℕ → ℕ
missing set zero = 0
missing set (suc v) =
    (if set (record { variable = v; negated = false }) then 0 else 1) + (if set (record { variable = v; negated = true }) then 0 else 1) + missing set v

-- the set has grown by literals that unit propagation from the clauses gives
pub record Grows (clauses : List (List Literal)) (old new : Literals) : Type 0 where
  pub variables : new.variables ≡ old.variables
  pub kept : (l : Literal) → IsTrue (holds old l) → IsTrue (holds new l)
  pub given :
      (set : Literal → Bool) → IsClosed clauses set → ((l : Literal) → IsTrue (holds old l) → IsTrue (set l)) →
      (l : Literal) → IsTrue (holds new l) → IsTrue (set l)
  pub consistent : IsConsistent (holds old) → IsConsistent (holds new)
  pub missing : missing (holds new) new.variables ≤ missing (holds old) old.variables
