use Rattle.std.proofs.Common.{◌∙◌, ◌++◌, ap, arith}
use Rattle.guarded_ssa.proofs.AnswerWords.{word_there, unpacking_more, unpacking_size}
use Rattle.guarded_ssa.proofs.answers.bytes_of_words.Goals as goal

pub bytes_of_word-requires-clause-word : goal.bytes_of_word-requires-clause-word
bytes_of_word-requires-clause-word c =
    word_there c.args.dag.now c.loop-word.dag c.args.count c.loop-word.word-index c.loop-word.left _ c.args.words.now c.loop-word.bytes.items _ c.requires c.loop-word.invariant c.loop-word-test.true (omega (arith, c.min-size.ensures))

pub loop-word-preserved : goal.loop-word-preserved
loop-word-preserved c =
    unpacking_more c.args.dag.now c.loop-word.dag c.bytes_of_word.new.dag c.args.count c.loop-word.word-index c.loop-word.left _ c.min-size.result c.args.words.now c.loop-word.bytes.items c.in_ok-more.more.items _ _ c.requires c.loop-word.invariant c.loop-word-test.true c.bytes_of_word.ensures.extends
    (omega (arith, c.min-size.ensures)) c.in_ok-more.ensures.made (c.in_ok-extend_from_slice.ensures.items ∙ ap (λ ids. c.loop-word.bytes.items ++ ids) c.deref.ensures.value) (omega (arith, c.saturating_sub-left.ensures))

pub returns-clause-size : goal.returns-clause-size
returns-clause-size c = unpacking_size c.args.dag.now c.loop-word.dag c.args.count c.loop-word.word-index c.loop-word.left c.args.words.now c.loop-word.bytes.items c.requires c.loop-word.invariant (omega (arith, c.loop-word-test.false))
