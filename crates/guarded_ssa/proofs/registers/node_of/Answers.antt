use Rattle.std.proofs.Common.{sym, ◌∙◌}
use Rattle.guarded_ssa.proofs.Meeting.{set_node, unset_node}
use Rattle.guarded_ssa.proofs.registers.node_of.Goals as goal

pub returns-in-Some : goal.returns-in-Some
returns-in-Some c = set_node c.args.dag.now c.args.trees.now c.args.types.now c.args.root c.args.cell c.in-Some.id c.requires.tree (sym c.look.ensures ∙ c.in-Some.is)

pub returns-in-None : goal.returns-in-None
returns-in-None c = unset_node c.args.dag.now c.args.trees.now c.args.types.now c.args.root c.args.cell c.args.zeros c.of.result c.requires.zeros c.requires.there c.of.ensures (sym c.look.ensures ∙ c.in-None.is)
