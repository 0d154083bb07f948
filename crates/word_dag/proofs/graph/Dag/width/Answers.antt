use Rattle.std.proofs.Common.{ap, length, arith}
use Rattle.word_dag.proofs.Folds.{length_widths}
use Rattle.word_dag.proofs.Steps.{width_read, range_read}
use Rattle.word_dag.proofs.graph.Dag.width.Goals as goal

pub index-requires : goal.index-requires
index-requires c = omega (arith, ap length c.self.invariant.1, length_widths c.self.inside.nodes.items, ap length c.self.view_is, c.requires)

pub returns-clause-is : goal.returns-clause-is
returns-clause-is c = width_read _ _ _ _ _ c.self.invariant.1 c.self.view_is c.requires c.index.ensures

pub returns-clause-positive : goal.returns-clause-positive
returns-clause-positive c = (range_read _ _ _ _ c.self.invariant.0 c.self.view_is c.requires (width_read _ _ _ _ _ c.self.invariant.1 c.self.view_is c.requires c.index.ensures)).positive

pub returns-clause-at_most_64 : goal.returns-clause-at_most_64
returns-clause-at_most_64 c = (range_read _ _ _ _ c.self.invariant.0 c.self.view_is c.requires (width_read _ _ _ _ _ c.self.invariant.1 c.self.view_is c.requires c.index.ensures)).at_most_64
