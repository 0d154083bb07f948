use Rattle.std.proofs.Common.{refl}
use Rattle.rewritten_nodes.proofs.Sides.{truth_at}
use Rattle.rewritten_nodes.proofs.folding.truth.Goals as goal

pub returns-then-width-eq1 : goal.returns-then-width-eq1
returns-then-width-eq1 c = truth_at c.args.dag.now c.args.id c.node.result c.in-Constant.bits _ _ c.nodes.ensures.ordered c.requires c.node.ensures c.in-Constant.is c.if-width-eq1.true refl
