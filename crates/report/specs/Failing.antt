-- What a run that breaks a check tells.
use Rattle.std.specs.Prelude.{ℕ, ◌+◌, ◌==◌, List, [], ◌∷◌, nat_lt, length, if◌then◌else◌, replicate}
use Rattle.std.specs.List.{filter, flat_map}
use Rattle.interleave.specs.Inputs.{InputLists}
use Rattle.interleave.specs.declared.inputs.Trace.{Trace}
use Rattle.report.specs.Report.{Failure}
use Rattle.report.specs.declared.failing.Row.{Row}

-- the turns of the rows, one after another
abbrev pub turns_of : List (ℕ × ℕ) → List ℕ
turns_of rows = flat_map (λ (row : ℕ × ℕ). replicate row.1 row.0) rows

-- rows with one more turn in front, which joins the first row where that is of the same thread
abbrev pub turn_before : ℕ → List (ℕ × ℕ) → List (ℕ × ℕ)
turn_before t [] = (t, 1) ∷ []
turn_before t (row ∷ rows) = if row.0 == t then (t, row.1 + 1) ∷ rows else (t, 1) ∷ row ∷ rows

-- turns as rows that are as long as can be
abbrev pub rows_in : List ℕ → List (ℕ × ℕ)
rows_in [] = []
rows_in (t ∷ turns) = turn_before t (rows_in turns)

-- the threads that drew, with their words
abbrev pub drew : InputLists → InputLists
drew inputs = filter (λ (e : ℕ × List ℕ). nat_lt 0 (length e.1)) inputs

abbrev pub row_of : Row → ℕ × ℕ
row_of r = (r.thread, r.turns)

-- what is told of a run that breaks a check, which stands in the function of this name
abbrev pub failure_of : Trace → List ℕ → Failure
failure_of trace function = record {
  class = trace.check.class;
  line = trace.check.line;
  function = function;
  thread = trace.check.thread;
  inputs = drew trace.inputs;
  rows = rows_in trace.schedule;
}
