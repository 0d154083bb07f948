use Rattle.bit_blast.proofs.Widths.{WidthsTo}
use Rattle.bit_blast.proofs.variables.variable_widths.Given as goal

abbrev pub invariant-loop-node : goal.invariant-loop-node
invariant-loop-node l = WidthsTo l.nodes l.node-index l.widths.items
