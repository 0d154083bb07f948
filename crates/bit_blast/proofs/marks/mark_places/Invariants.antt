use Rattle.std.proofs.Common.{◌≡◌}
use Rattle.word_dag.specs.Meaning.{places}
use Rattle.bit_blast.specs.Marking.{with_marks}
use Rattle.bit_blast.proofs.marks.mark_places.Given as goal

abbrev pub invariant-loop-at : goal.invariant-loop-at
invariant-loop-at l = l.marks.items ≡ with_marks l.fn.marks.items (places l.first l.at)
