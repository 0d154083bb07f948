use Rattle.report.proofs.Ends.{line_split}
use Rattle.report.proofs.reading.split_line.Goals as goal

pub returns : goal.returns
returns c =
    let p = c.in_ok-line.ensures in
    line_split c.args.text.now c.in_ok-line.line.now c.in_ok-line.field-0-1.now c.split_at.result.0.now c.split_at.result.1.now p.0 p.1 p.2 c.split_at.ensures.front c.split_at.ensures.by_index.0
