use Rattle.guarded_ssa.proofs.AnswerWords.{Unpacking}
use Rattle.guarded_ssa.proofs.answers.bytes_of_words.Given as goal

abbrev pub invariant-loop-word : goal.invariant-loop-word
invariant-loop-word l = Unpacking l.fn.dag l.dag l.count l.word-index l.left l.words l.bytes.items
