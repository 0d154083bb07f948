use Rattle.std.proofs.Common.{◌≡◌, ◌++◌, ◌∷◌, [], ◌≤◌, map, take, All}
use Rattle.report.specs.Report.{IsRow, AreMaximal}
use Rattle.report.specs.Failing.{turns_of}
use Rattle.report.specs.Failing.{row_of}
use Rattle.report.proofs.failing.rows_of.Given as goal

abbrev pub invariant-turns : goal.invariant-turns
invariant-turns l = record {
  few : l.last.turns ≤ l.place;
  same : turns_of (map row_of l.rows.items ++ row_of l.last ∷ []) ≡ take l.place l.schedule;
  rows : All IsRow (map row_of l.rows.items ++ row_of l.last ∷ []);
  maximal : AreMaximal (map row_of l.rows.items ++ row_of l.last ∷ []);
}
