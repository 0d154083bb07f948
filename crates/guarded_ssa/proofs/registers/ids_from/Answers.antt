use Rattle.std.proofs.Common.{ap, ◌∙◌}
use Rattle.cell_trees.specs.Trees.{looked}
use Rattle.guarded_ssa.specs.inner.Registers.{id_or, ids_from}
use Rattle.guarded_ssa.proofs.CellWords.{ids_more}
use Rattle.guarded_ssa.proofs.registers.ids_from.Goals as goal

pub loop-k-preserved : goal.loop-k-preserved
loop-k-preserved c =
    let cells = looked c.args.trees.now c.args.root in
    ids_more cells c.args.other c.node_or-id.result c.args.at c.args.count c.loop-k.k c.loop-k.ids.items c.push.new.self.items (ids_from cells c.args.other c.args.at c.args.count) c.loop-k-test.true (c.node_or-id.ensures ∙ ap (id_or c.args.other) c.look.ensures) c.in_ok-push.ensures.items
    c.loop-k.invariant
