use Rattle.rewritten_nodes.proofs.Sides.{first_side, second_side, other_there, other_bit}
use Rattle.rewritten_nodes.proofs.folding.side.Goals as goal

pub implies-requires-in-Choice-clause-there : goal.implies-requires-in-Choice-clause-there
implies-requires-in-Choice-clause-there c = other_there c.args.dag.now c.args.condition c.args.id c.in-Choice.other c.in-Choice.a c.in-Choice.b c.node.result c.args.is c.nodes.ensures.ordered c.requires.there c.node.ensures c.in-Choice.is

pub implies-requires-in-Choice-clause-bit : goal.implies-requires-in-Choice-clause-bit
implies-requires-in-Choice-clause-bit c = other_bit c.args.dag.now c.args.condition c.args.id c.in-Choice.other c.in-Choice.a c.in-Choice.b c.node.result c.args.is c.nodes.ensures.ordered c.requires.there c.node.ensures c.in-Choice.is

pub returns-then-implies : goal.returns-then-implies
returns-then-implies c =
    first_side c.args.dag.now c.args.condition c.args.id c.in-Choice.other c.in-Choice.a c.in-Choice.b c.node.result c.args.is c.nodes.ensures.ordered c.requires.there c.node.ensures c.in-Choice.is c.if-is.true (c.implies.ensures c.if-implies.true)

pub returns-then-implies-2 : goal.returns-then-implies-2
returns-then-implies-2 c =
    second_side c.args.dag.now c.args.condition c.args.id c.in-Choice.other c.in-Choice.a c.in-Choice.b c.node.result c.args.is c.nodes.ensures.ordered c.requires.there c.node.ensures c.in-Choice.is c.if-is.false (c.implies-in-Choice.ensures c.if-implies-2.true)
