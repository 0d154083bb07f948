use Rattle.std.proofs.Common.{◌≡◌, map, take}
use Rattle.cdcl_core.specs.Histories.{number_by}
use Rattle.cdcl_core.proofs.segments.History.renumbered.Given as goal

abbrev pub invariant-loop-place : goal.invariant-loop-place
invariant-loop-place l = l.numbers.items ≡ map (number_by l.self.numbers.items l.self.next) (take l.place-index l.places)
