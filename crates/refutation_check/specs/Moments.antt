-- The moment before an entry of a log.
use Rattle.std.specs.Prelude.{◌≡◌, ℕ, ◌^◌, ◌<◌, ◌≤◌, List, Some, length, take}
use Rattle.sat_form.specs.Satisfaction.{Literal, AreWithin}
use Rattle.sat_form.specs.Propagation.{HasFalsified}
use Rattle.sat_form.specs.Databases.{added_clauses, database, live_clause, AreEntriesWithin}
use Rattle.sat_form.specs.declared.logs.Entry.{Entry}
use Rattle.refutation_check.specs.Sets.{Literals, holds, missing}
use Rattle.refutation_check.specs.Outcomes.{IsAtRest}
use Rattle.refutation_check.specs.declared.moments.Moment.{Moment}
use Rattle.refutation_check.specs.declared.propagation.Outcome.{Outcome}
use Rattle.refutation_check.specs.declared.propagation.Outcome.TheVariants.{Still, Grown, Conflict}

-- the entries before it
abbrev pub entries_before : Moment → List Entry
entries_before m = take m.place m.log.now

-- the database of that moment
abbrev pub database_at : Moment → List (List Literal)
database_at m = database m.clauses.now (entries_before m)

-- there are so many entries, and so many of them before it add a clause
pub record IsMoment (m : Moment) : Type 0 where
  pub place : m.place ≤ length m.log.now
  pub limit : m.place < 2 ^ 63
  pub added : m.added ≡ length (added_clauses (entries_before m))

-- the clauses of the form and of the log have variables below n
pub record IsMomentWithin (n : ℕ) (m : Moment) : Type 0 where
  pub form : AreWithin n m.clauses.now
  pub log : AreEntriesWithin n m.log.now

-- what a visit of the clause of a number has come to
abbrev pub IsVisit : List (List Literal) → List Entry → Literals → Literals → ℕ → Outcome → Type 0
IsVisit form before old new n Still = (new ≡ old) × ((c : List Literal) → live_clause form before n ≡ Some c → IsAtRest (holds new) c)
IsVisit form before old new n Grown = missing (holds new) new.variables < missing (holds old) old.variables
IsVisit form before old new n Conflict = HasFalsified (database form before) (holds new)

-- what a pass over the clauses of the numbers below n has come to
abbrev pub IsPassing : List (List Literal) → List Entry → Literals → Literals → ℕ → Outcome → Type 0
IsPassing form before old new n Still =
    (new ≡ old) × ((k : ℕ) (c : List Literal) → k < n → live_clause form before k ≡ Some c → IsAtRest (holds new) c)
IsPassing form before old new n Grown = missing (holds new) new.variables < missing (holds old) old.variables
IsPassing form before old new n Conflict = ⊥
