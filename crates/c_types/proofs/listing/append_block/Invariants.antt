use Rattle.std.proofs.Common.{◌≡◌, ◌++◌, ◌-◌, drop}
use Rattle.c_types.specs.Layouts.{shifted, most_bytes}
use Rattle.c_types.specs.Fields.{Within}
use Rattle.c_types.proofs.listing.append_block.Given as goal

abbrev pub invariant-loop-cell : goal.invariant-loop-cell
invariant-loop-cell l = (l.list.items ++ shifted l.by (drop l.cell-index l.block) ≡ l.initial.list.items ++ shifted l.by l.block) × Within (most_bytes - l.by) (drop l.cell-index l.block)
