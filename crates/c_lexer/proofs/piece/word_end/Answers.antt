use Rattle.std.proofs.Common.{arith, sym, ◌∙◌}
use Rattle.c_lexer.proofs.Ends.{word_more, word_ends}
use Rattle.c_lexer.proofs.piece.word_end.Goals as goal

pub loop-end-preserved : goal.loop-end-preserved
loop-end-preserved c =
    let i = c.loop-end.invariant in
    (omega arith, omega arith, word_more c.args.text.now c.loop-end.end i.0 (omega arith) i.2 (sym c.is_word_byte.ensures ∙ c.if-is_word_byte.true))

pub returns-else-is_word_byte : goal.returns-else-is_word_byte
returns-else-is_word_byte c =
    let i = c.loop-end.invariant in
    word_ends c.args.text.now c.loop-end.end c.requires i.0 c.loop-end-test.true i.2 (sym c.is_word_byte.ensures ∙ c.if-is_word_byte.false)
