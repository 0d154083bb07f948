use Rattle.bit_blast.proofs.Consecutive.{ListsTo}
use Rattle.bit_blast.proofs.variables.fresh_lists.Given as goal

abbrev pub invariant-loop-width : goal.invariant-loop-width
invariant-loop-width l = ListsTo l.fn.cnf l.cnf l.widths l.width-index l.lists
