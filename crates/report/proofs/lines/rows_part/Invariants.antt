use Rattle.std.proofs.Common.{◌≡◌, ◌<◌, ◌++◌, true, length, map, All}
use Rattle.std.specs.Char.{is_ascii_digit}
use Rattle.report.specs.Report.{spaced_rows, IsRow}
use Rattle.report.specs.Runs.{fails}
use Rattle.report.specs.Failing.{row_of}
use Rattle.report.proofs.lines.rows_part.Given as goal

abbrev pub invariant-rows : goal.invariant-rows
invariant-rows l = record {
  whole : l.text ≡ spaced_rows (map row_of l.rows.items) ++ l.rest;
  are : All IsRow (map row_of l.rows.items);
  past : 0 < length (map row_of l.rows.items) → fails is_ascii_digit l.rest ≡ true;
}

abbrev pub decreases-rows : goal.decreases-rows
decreases-rows l = length l.rest
