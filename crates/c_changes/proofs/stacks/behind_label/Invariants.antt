use Rattle.std.proofs.Common.{◌≡◌, drop}
use Rattle.core_tree.specs.Trees.{items_of}
use Rattle.c_tasks.specs.Steps.{behind_label}
use Rattle.c_changes.proofs.stacks.behind_label.Given as goal

-- the items that are left decide
abbrev pub invariant-loop-place : goal.invariant-loop-place
invariant-loop-place l = behind_label l.label (items_of (drop l.from l.items)) ≡ behind_label l.label (items_of (drop l.place l.items))
