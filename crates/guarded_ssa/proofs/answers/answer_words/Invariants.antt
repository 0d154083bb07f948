use Rattle.guarded_ssa.proofs.AnswerWords.{Answering}
use Rattle.guarded_ssa.proofs.answers.answer_words.Given as goal

abbrev pub invariant-words : goal.invariant-words
invariant-words l = Answering l.fn.dag l.dag l.variable l.count l.counter l.next l.left l.words.items
