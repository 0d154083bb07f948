use Rattle.std.proofs.Common.{◌≡◌, ◌+◌, ◌-◌, take, drop, ap, refl, arith}
use Rattle.word_dag.proofs.Grown.{extends_more}
use Rattle.mem_seq.proofs.Held.{slice_some, looked_word, testing_more, testing_done}
use Rattle.mem_seq.proofs.memory.are_words_of.Goals as goal

pub word_of_bytes-requires-clause-positive : goal.word_of_bytes-requires-clause-positive
word_of_bytes-requires-clause-positive c =
    slice_some c.args.dag.now c.loop-word.dag c.args.words.now c.args.bytes.now c.loop-word.all c.loop-word.word-index c.loop-word.at c.requires.words c.loop-word.invariant c.loop-word-test.true (c.loop-word.at + c.min-size.result - c.loop-word.at) c.min-size.result (omega arith)
    (omega (arith, c.min-size.ensures))

pub equal-requires-clause-a : goal.equal-requires-clause-a
equal-requires-clause-a c =
    looked_word c.args.dag.now c.loop-word.dag c.args.words.now c.args.bytes.now c.loop-word.all c.loop-word.word-index c.loop-word.at c.requires.words c.loop-word.invariant c.loop-word-test.true c.word_of_bytes.new.dag c.min-size.result _ c.word_of_bytes.ensures.extends
    (omega (arith, c.min-size.ensures))

pub returns-in_err-all-2-clause-extends : goal.returns-in_err-all-2-clause-extends
returns-in_err-all-2-clause-extends c =
    extends_more c.args.dag.now c.loop-word.dag c.both.new.dag c.loop-word.invariant.extends (extends_more c.loop-word.dag c.word_of_bytes.new.dag c.both.new.dag c.word_of_bytes.ensures.extends (extends_more c.word_of_bytes.new.dag c.equal.new.dag c.both.new.dag c.equal.ensures.extends c.both.ensures.extends))

pub loop-word-preserved : goal.loop-word-preserved
loop-word-preserved c =
    let size : c.loop-word.at + c.min-size.result - c.loop-word.at ≡ c.min-size.result = omega arith in
    testing_more c.args.dag.now c.loop-word.dag c.args.words.now c.args.bytes.now c.loop-word.all c.loop-word.word-index c.loop-word.at c.requires.words c.loop-word.invariant c.loop-word-test.true c.word_of_bytes.new.dag c.equal.new.dag c.both.new.dag _ c.in_ok-held.held c.in_ok-same.same
    c.in_ok-all-2.all c.min-size.result _ _ c.nodes.ensures.ordered c.requires.bytes (ap (λ n. take n (drop c.loop-word.at c.args.bytes.now)) size) (omega (arith, c.min-size.ensures)) c.word_of_bytes.ensures.extends c.equal.ensures.extends c.both.ensures.extends c.in_ok-held.ensures.made
    c.in_ok-same.ensures.made c.in_ok-all-2.ensures.made refl

pub returns-clause-made : goal.returns-clause-made
returns-clause-made c = testing_done c.args.dag.now c.loop-word.dag c.args.words.now c.args.bytes.now c.loop-word.all c.loop-word.word-index c.loop-word.at c.requires.words c.loop-word.invariant (omega (arith, c.loop-word-test.false))
