use Rattle.std.proofs.Common.{◌≡◌, ◌+◌, ◌-◌, take, drop, refl, ap, arith}
use Rattle.mem_seq.proofs.Learning.{slice_some, held_word, learning_more}
use Rattle.mem_seq.proofs.replacing.learn_words.Goals as goal

pub word_of_bytes-requires-clause-positive : goal.word_of_bytes-requires-clause-positive
word_of_bytes-requires-clause-positive c =
    slice_some c.args.dag.now c.loop-word.dag c.args.known.now c.loop-word.known c.args.guard c.args.words.now c.args.bytes.now c.loop-word.word-index c.loop-word.at c.requires.words c.loop-word.invariant c.loop-word-test.true (c.loop-word.at + c.min-size.result - c.loop-word.at) c.min-size.result
    (omega arith) (omega (arith, c.min-size.ensures))

pub learn_word-requires-clause-held : goal.learn_word-requires-clause-held
learn_word-requires-clause-held c =
    let size : c.loop-word.at + c.min-size.result - c.loop-word.at ≡ c.min-size.result = omega arith in
    held_word c.args.dag.now c.loop-word.dag c.args.known.now c.loop-word.known c.args.guard c.args.words.now c.args.bytes.now c.loop-word.word-index c.loop-word.at c.requires.words c.loop-word.invariant c.loop-word-test.true c.word_of_bytes.new.dag _ c.in_ok-held.held c.min-size.result _
    c.requires.bytes (ap (λ n. take n (drop c.loop-word.at c.args.bytes.now)) size) (omega (arith, c.min-size.ensures)) c.word_of_bytes.ensures.extends c.in_ok-held.ensures.made

pub loop-word-preserved : goal.loop-word-preserved
loop-word-preserved c =
    let size : c.loop-word.at + c.min-size.result - c.loop-word.at ≡ c.min-size.result = omega arith in
    learning_more c.args.dag.now c.loop-word.dag c.args.known.now c.loop-word.known c.args.guard c.args.words.now c.args.bytes.now c.loop-word.word-index c.loop-word.at c.requires.words c.loop-word.invariant c.loop-word-test.true c.word_of_bytes.new.dag _ c.in_ok-held.held c.min-size.result _
    c.requires.bytes (ap (λ n. take n (drop c.loop-word.at c.args.bytes.now)) size) (omega (arith, c.min-size.ensures)) c.word_of_bytes.ensures.extends c.in_ok-held.ensures.made c.learn_word.new.dag c.learn_word.new.known _ c.nodes.ensures.ordered c.requires.guard c.learn_word.ensures.extends
    c.in_ok-learn_word.ensures.known c.in_ok-learn_word.ensures.agrees refl
