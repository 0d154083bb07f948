use Rattle.report.proofs.Fronts.{words_none}
use Rattle.report.proofs.lines.words_part.Goals as goal

pub returns-in_default : goal.returns-in_default
returns-in_default c =
    let i = c.words.invariant in
    words_none c.args.text.now c.words.words.items c.words.rest.now i.small i.past i.whole (c.is_line_end.ensures.no c.words-test.true) c.in_default.ensures
