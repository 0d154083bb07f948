use Rattle.std.proofs.Common.{◌≡◌, arith, IsTrue, List, length, sym, subst, ◌∙◌, ap}
use Rattle.word_dag.specs.declared.nodes.Node.{Node}
use Rattle.word_dag.specs.Meaning.{widths}
use Rattle.word_dag.specs.Fitting.{is_ordered}
use Rattle.word_dag.specs.Index.{IsIndex, IsNoted}
use Rattle.word_dag.specs.contracts.nodes.NodePartialEq.TheImpl.{eq-value}
use Rattle.word_dag.proofs.Steps.{graph_put}
use Rattle.word_dag.proofs.Shared.{index_put, index_same}
use Rattle.word_dag.proofs.Same.{node_same}
use Rattle.word_dag.proofs.graph.Dag.put.Goals as goal

pub invariant_of-self-in_err-note : goal.invariant_of-self-in_err-note
invariant_of-self-in_err-note c =
    let n : List Node = c.reserve.new.self.items in
    let same : n ≡ c.self.inside.nodes.items = c.reserve.ensures.items in (
      subst (λ (xs : List Node). IsTrue (is_ordered xs)) (sym same) c.self.invariant.0,
      c.reserve-2.ensures.items ∙ c.self.invariant.1 ∙ ap widths (sym same),
      index_same eq-value.it n c.self.inside.places c.note.new.places c.in_err-note.ensures.err (subst (λ (xs : List Node). IsIndex eq-value.it xs c.self.inside.places) (sym same) c.self.invariant.2),
    )

pub invariant_of-self-2 : goal.invariant_of-self-2
invariant_of-self-2 c =
    let n : List Node = c.reserve.new.self.items in
    let same : n ≡ c.self.inside.nodes.items = c.reserve.ensures.items in
    let ordered : IsTrue (is_ordered n) = subst (λ (xs : List Node). IsTrue (is_ordered xs)) (sym same) c.self.invariant.0 in
    let wide : c.reserve-2.new.self.items ≡ widths n = c.reserve-2.ensures.items ∙ c.self.invariant.1 ∙ ap widths (sym same) in
    let grown = graph_put n c.args.self.now c.add-2.new.items.items c.args.node c.reserve-2.new.self.items c.add.new.items.items c.width_of-width.result ordered wide (same ∙ c.self.view_is) c.requires c.width_of-width.ensures c.add.ensures c.add-2.ensures in
    let index : IsIndex eq-value.it n c.self.inside.places = subst (λ (xs : List Node). IsIndex eq-value.it xs c.self.inside.places) (sym same) c.self.invariant.2 in
    let long : c.len.result ≡ length n = omega (arith, c.len.ensures, ap length same) in
    let noted : IsNoted eq-value.it c.self.inside.places c.note.new.places c.args.node (length n) = subst (λ place. IsNoted eq-value.it c.self.inside.places c.note.new.places c.args.node place) long c.in_ok-note.ensures.ok in (
      grown.0,
      grown.1,
      subst (λ (xs : List Node). IsIndex eq-value.it xs c.note.new.places) (sym c.add-2.ensures) (index_put eq-value.it node_same n c.self.inside.places c.note.new.places c.args.node index noted),
    )

pub returns-clause-ordered : goal.returns-clause-ordered
returns-clause-ordered c = (invariant_of-self-2 c).0
