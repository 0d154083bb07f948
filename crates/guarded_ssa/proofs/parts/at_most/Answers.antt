use Rattle.std.proofs.Common.{refl}
use Rattle.word_dag.proofs.Grown.{constant_at}
use Rattle.guarded_ssa.proofs.PartNodes.{constant_most}
use Rattle.guarded_ssa.proofs.parts.at_most.Goals as goal

pub returns-then-bits-most-clause-same : goal.returns-then-bits-most-clause-same
returns-then-bits-most-clause-same c =
    constant_most c.args.dag.now c.args.count c.in-Constant.bits c.args.most _ (λ v. (constant_at c.args.dag.now c.args.count.index c.in-Constant.bits _ _ c.nodes.ensures.ordered c.requires.there c.node.ensures c.in-Constant.is).value_is v) refl c.if-bits-most.true
