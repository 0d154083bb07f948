-- How a segment of a search ends, and what stays between two of them.
use Rattle.std.specs.Prelude.{◌≡◌, ℕ, ◌<◌, Bool, List, [], ◌++◌, length}
use Rattle.sat_form.specs.Satisfaction.{Form, Literal, AreWithin}
use Rattle.sat_form.specs.Databases.{added_clauses, deleted_numbers, numbered_clauses, AreEntriesWithin}
use Rattle.sat_form.specs.Budget.{AreAllowed}
use Rattle.sat_form.specs.declared.logs.Entry.{Entry}
use Rattle.cdcl_core.specs.Answers.{IsAnswer, AddsOnly}
use Rattle.cdcl_core.specs.Histories.{AreLive}
use Rattle.cdcl_core.specs.Spare.{AreSpare, AreOffBelow}
use Rattle.cdcl_core.specs.declared.segments.Segment.{Segment}
use Rattle.cdcl_core.specs.declared.segments.Segment.TheVariants.{Answered, Paused}
use Rattle.cdcl_core.specs.declared.segments.History.{History}

-- what a segment over the form's clauses leaves where it has added fewer than n units: clauses, which of them are spare, but for
-- the first, and its log
pub record IsRest (form : Form) (first n : ℕ) (clauses : List (List Literal)) (spare : List Bool) (log : List Entry) : Type 0 where
  pub clauses_are : clauses ≡ form.clauses ++ added_clauses log
  pub none : deleted_numbers log ≡ []
  pub allowed : AreAllowed form.clauses log
  pub within : AreEntriesWithin form.variables log
  pub clauses_within : AreWithin form.variables clauses
  pub some : 0 < length (added_clauses log)
  pub room : length (added_clauses log) < n
  pub count : length spare ≡ length clauses
  pub spare_are : AreSpare clauses spare
  pub stay : AreOffBelow first spare

-- a segment that may add n units has come to an answer, or leaves clauses
abbrev pub IsSegment : Form → ℕ → ℕ → Segment → Type 0
IsSegment form first n (Answered answer) = IsAnswer form n answer × AddsOnly answer
IsSegment form first n (Paused clauses spare log) = IsRest form first n clauses spare.items log

-- these clauses are left behind the log, by these numbers
pub record AreKept (form : Form) (clauses : List (List Literal)) (numbers : List ℕ) (log : List Entry) : Type 0 where
  pub live : AreLive form.clauses log clauses numbers
  pub allowed : AreAllowed form.clauses log
  pub within : AreEntriesWithin form.variables log
  pub clauses_within : AreWithin form.variables clauses

-- the history of the segments so far, which leave these clauses
pub record IsHistory (form : Form) (clauses : List (List Literal)) (h : History) : Type 0 where
  pub kept : AreKept form clauses h.numbers.items h.log
  pub first : h.first ≡ length form.clauses
  pub next : h.next ≡ length (numbered_clauses form.clauses h.log)
