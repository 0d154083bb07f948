use Rattle.std.proofs.Common.{map}
use Rattle.report.specs.Failing.{row_of}
use Rattle.report.proofs.Fronts.{rows_none}
use Rattle.report.proofs.lines.rows_part.Goals as goal

pub returns-in_default : goal.returns-in_default
returns-in_default c =
    let i = c.rows.invariant in
    rows_none c.args.text.now (map row_of c.rows.rows.items) c.rows.rest.now i.are i.past i.whole (c.is_line_end.ensures.no c.rows-test.true) c.in_default.ensures
