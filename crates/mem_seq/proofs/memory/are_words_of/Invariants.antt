use Rattle.mem_seq.proofs.Held.{Testing}
use Rattle.mem_seq.proofs.memory.are_words_of.Given as goal

abbrev pub invariant-loop-word : goal.invariant-loop-word
invariant-loop-word l = Testing l.fn.dag l.dag l.words l.bytes l.all l.word-index l.at
