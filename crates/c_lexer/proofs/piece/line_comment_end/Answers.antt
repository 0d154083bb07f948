use Rattle.std.proofs.Common.{arith}
use Rattle.std.proofs.lemmas.Bool.{eq-eqb, ne_eqb}
use Rattle.c_lexer.proofs.Comments.{line_start, line_more, line_ends}
use Rattle.c_lexer.proofs.piece.line_comment_end.Goals as goal

pub loop-end-init : goal.loop-end-init
loop-end-init c = let p = line_start c.args.text.now c.requires in (omega arith, p.0, p.1)

pub loop-end-preserved : goal.loop-end-preserved
loop-end-preserved c =
    let i = c.loop-end.invariant in
    (omega arith, omega arith, line_more c.args.text.now c.loop-end.end i.0 c.loop-end-test.true i.2 (ne_eqb _ _ c.if-text-end-ne10.true))

pub returns-else-text-end-ne10 : goal.returns-else-text-end-ne10
returns-else-text-end-ne10 c =
    let i = c.loop-end.invariant in
    line_ends c.args.text.now c.loop-end.end i.0 c.loop-end-test.true i.2 (eq-eqb _ _ c.if-text-end-ne10.false)
