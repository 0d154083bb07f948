use Rattle.std.proofs.Common.{◌≡◌, map}
use Rattle.word_dag.specs.Meaning.{places}
use Rattle.rewritten_nodes.specs.Images.{image}
use Rattle.rewritten_nodes.proofs.known.Known.images.Given as goal

abbrev pub invariant-loop-at : goal.invariant-loop-at
invariant-loop-at l = l.images.items ≡ map (λ j. image l.self.ids.items (record { index = j })) (places l.first l.at)
