use Rattle.std.proofs.Common.{◌≡◌, ◌++◌, take}
use Rattle.cdcl_core.specs.Histories.{number_by, renumbered}
use Rattle.cdcl_core.proofs.segments.History.append.Given as goal

abbrev pub invariant-loop-entry : goal.invariant-loop-entry
invariant-loop-entry l = l.self ≡ record l.fn.self { log = l.fn.self.log ++ renumbered (number_by l.fn.self.numbers.items l.fn.self.next) (take l.entry-index l.entry-items) }
