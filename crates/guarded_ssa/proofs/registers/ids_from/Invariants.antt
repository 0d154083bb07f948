use Rattle.std.proofs.Common.{◌≡◌, ◌+◌, ◌-◌, ◌++◌}
use Rattle.cell_trees.specs.Trees.{looked}
use Rattle.guarded_ssa.specs.inner.Registers.{ids_from}
use Rattle.guarded_ssa.proofs.registers.ids_from.Given as goal

abbrev pub invariant-loop-k : goal.invariant-loop-k
invariant-loop-k l = l.ids.items ++ ids_from (looked l.trees l.root) l.other (l.at + l.k) (l.count - l.k) ≡ ids_from (looked l.trees l.root) l.other l.at l.count
