use Rattle.std.proofs.Common.{arith}
use Rattle.guarded_ssa.proofs.AnswerWords.{answering_more}
use Rattle.guarded_ssa.proofs.answers.answer_words.Goals as goal

pub words-preserved : goal.words-preserved
words-preserved c =
    answering_more c.args.dag.now c.words.dag c.make.new.self c.args.variable c.args.count c.words.counter c.words.next _ c.words.left _ _ c.words.words.items _ _ c.words.invariant (omega (arith, c.words-test.true, c.word_count-end.ensures)) c.make.ensures.extends c.in_ok-make.ensures.made
    (omega (arith, c.min.ensures)) c.in_ok-push.ensures.items (omega arith) (omega (arith, c.saturating_sub-left.ensures))
