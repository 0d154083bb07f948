use Rattle.mem_seq.proofs.Learning.{Learning}
use Rattle.mem_seq.proofs.replacing.learn_words.Given as goal

abbrev pub invariant-loop-word : goal.invariant-loop-word
invariant-loop-word l = Learning l.fn.dag l.dag l.fn.known l.known l.guard l.words l.bytes l.word-index l.at
