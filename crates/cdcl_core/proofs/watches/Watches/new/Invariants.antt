use Rattle.std.proofs.Common.{take}
use Rattle.cdcl_core.specs.Watched.{AreListed, AreSingle}
use Rattle.cdcl_core.proofs.watches.Watches.new.Given as goal

abbrev pub invariant-loop-number : goal.invariant-loop-number
invariant-loop-number l =
    AreListed l.variables (take l.number l.clauses) l.watches.pairs.items l.watches.lists
    × AreSingle (take l.number l.clauses) l.watches.pairs.items
