use Rattle.std.proofs.Common.{◌-◌, suc, length}
use Rattle.rewritten_nodes.proofs.Standing.{Growing}
use Rattle.rewritten_nodes.proofs.known.Known.grow.Given as goal

abbrev pub invariant-growing : goal.invariant-growing
invariant-growing l = Growing l.fn.dag l.dag l.fn.self l.self

abbrev pub decreases-growing : goal.decreases-growing
decreases-growing l = suc l.id.index - length l.self.ids.items
