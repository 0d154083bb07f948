-- What a clause says where the literals of a set are true, and what a pass over clauses has come to.
use Rattle.std.specs.Prelude.{◌≡◌, ◌≢◌, ◌<◌, Bool, false, List, Option, Some, None, Contains, IsTrue}
use Rattle.sat_form.specs.Satisfaction.{Literal, inverse_of}
use Rattle.sat_form.specs.Propagation.{IsFalsified, Gives, HasFalsified}
use Rattle.refutation_check.specs.Sets.{Literals, holds, IsConsistent, missing}
use Rattle.refutation_check.specs.declared.propagation.Status.{Status}
use Rattle.refutation_check.specs.declared.propagation.Status.TheVariants.{Open, Last, Falsified}
use Rattle.refutation_check.specs.declared.propagation.Outcome.{Outcome}
use Rattle.refutation_check.specs.declared.propagation.Outcome.TheVariants.{Still, Grown, Conflict}

-- the literal stands in the clause, and its inverse isn't in the set
pub record IsLeft (set : Literal → Bool) (clause : List Literal) (l : Literal) : Type 0 where
  pub stands : Contains clause l
  pub not_false : set (inverse_of l) ≡ false

-- of the clause two literals, one or none are left
abbrev pub IsStatus : (Literal → Bool) → List Literal → Status → Type 0
IsStatus set clause Open = (l : Literal) × (m : Literal) × IsLeft set clause l × IsLeft set clause m × (l ≢ m)
IsStatus set clause (Last l) = Gives set clause l × (set (inverse_of l) ≡ false)
IsStatus set clause Falsified = IsFalsified set clause

-- of these literals this one is left alone, or none
abbrev pub HasLast : (Literal → Bool) → List Literal → Option Literal → Type 0
HasLast set ls None = IsFalsified set ls
HasLast set ls (Some l) = Gives set ls l × (set (inverse_of l) ≡ false)

-- the clause has a literal that isn't false, and gives none that isn't in the set
pub record IsAtRest (set : Literal → Bool) (clause : List Literal) : Type 0 where
  pub closed : (l : Literal) → Gives set clause l → IsTrue (set l)
  pub not_falsified : IsFalsified set clause → ⊥

-- what a pass over the clauses has come to
abbrev pub IsOutcome : List (List Literal) → Literals → Literals → Outcome → Type 0
IsOutcome clauses old new Still = (new ≡ old) × ((c : List Literal) → Contains clauses c → IsAtRest (holds new) c)
IsOutcome clauses old new Grown = missing (holds new) new.variables < missing (holds old) old.variables
IsOutcome clauses old new Conflict = HasFalsified clauses (holds new)

-- the set has the inverses of these literals and no other literal, and none with its inverse
pub record IsNegation (clause : List Literal) (set : Literal → Bool) : Type 0 where
  pub all : (l : Literal) → Contains clause l → IsTrue (set (inverse_of l))
  pub only : (l : Literal) → IsTrue (set l) → Contains clause (inverse_of l)
  pub consistent : IsConsistent set
