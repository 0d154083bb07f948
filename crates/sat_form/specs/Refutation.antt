-- Refutations of a form: logs of which each step follows by unit propagation, and the last adds the empty clause.
use Rattle.std.specs.Prelude.{◌≡◌, List, [], ◌∷◌, ◌++◌, IsSome}
use Rattle.sat_form.specs.Satisfaction.{Literal}
use Rattle.sat_form.specs.Propagation.{Follows}
use Rattle.sat_form.specs.Databases.{database, live_clause}
use Rattle.sat_form.specs.declared.logs.Entry.{Entry}
use Rattle.sat_form.specs.declared.logs.Entry.TheVariants.{Added, Deleted}

-- an entry may stand behind these: an added clause follows from the database of that moment, a deleted one is in it
abbrev pub IsJustified : List (List Literal) → List Entry → Entry → Type 0
IsJustified form before (Added clause hints) = Follows (database form before) clause
IsJustified form before (Deleted number) = IsSome (live_clause form before number)

-- each entry of the log may stand behind those before it
abbrev pub IsDerivation : List (List Literal) → List Entry → Type 0
IsDerivation form log = (before : List Entry) (e : Entry) (after : List Entry) → log ≡ before ++ e ∷ after → IsJustified form before e

-- the entry adds the clause without literals
abbrev pub AddsEmpty : Entry → Type 0
AddsEmpty (Added clause hints) = clause ≡ []
AddsEmpty (Deleted number) = ⊥

-- the last entry adds the clause without literals
abbrev pub EndsEmpty : List Entry → Type 0
EndsEmpty log = (before : List Entry) × (e : Entry) × (log ≡ before ++ e ∷ []) × AddsEmpty e

-- the log refutes the form of these clauses
pub record IsRefutation (form : List (List Literal)) (log : List Entry) : Type 0 where
  pub derives : IsDerivation form log
  pub ends : EndsEmpty log
