use Rattle.std.proofs.Common.{◌-◌, length}
use Rattle.cdcl_core.specs.Going.{GoesOn}
use Rattle.cdcl_core.specs.Lists.{watches_of}
use Rattle.cdcl_core.specs.Watched.{IsHeld, AreVisited}
use Rattle.cdcl_core.proofs.watches.Watches.visit.Given as goal

abbrev pub invariant-loop-at : goal.invariant-loop-at
invariant-loop-at l =
    IsHeld l.clauses l.trail l.self
    × GoesOn l.fn.trail l.trail
    × AreVisited l.place l.at l.clauses l.trail.steps l.self.pairs.items (watches_of l.self.lists l.literal)

abbrev pub decreases-loop-at : goal.decreases-loop-at
decreases-loop-at l = length (watches_of l.self.lists l.literal) - l.at
