use Rattle.std.proofs.Common.{List, sym, subst}
use Rattle.word_dag.specs.declared.nodes.Node.{Node}
use Rattle.word_dag.specs.Growth.{Stands}
use Rattle.word_dag.specs.contracts.nodes.NodePartialEq.TheImpl.{eq-value}
use Rattle.word_dag.proofs.Shared.{place_there}
use Rattle.word_dag.proofs.graph.Dag.place.Goals as goal

pub returns-clause-there : goal.returns-clause-there
returns-clause-there c =
    let stands = place_there eq-value.it c.self.inside.nodes.items c.self.inside.places c.self.invariant.2 c.args.node c.in_ok-index.index.now (sym c.in_ok-index.ensures.value) in
    subst (λ (d : List Node). Stands d c.args.node (record { index = c.in_ok-index.index.now })) c.self.view_is stands
