use Rattle.std.proofs.Common.{◌≡◌, ◌-◌}
use Rattle.cdcl_core.specs.Going.{GoesOn}
use Rattle.cdcl_core.specs.Watched.{IsHeld}
use Rattle.cdcl_core.specs.Answers.{IsWatching}
use Rattle.cdcl_core.proofs.search.Search.propagate.Given as goal

abbrev pub invariant-loop-step : goal.invariant-loop-step
invariant-loop-step l = record {
  same : l.self ≡ record l.fn.self { trail = l.self.trail; watches = l.self.watches; propagated = l.self.propagated };
  held : IsHeld l.fn.self.clauses l.self.trail l.self.watches;
  on : GoesOn l.fn.self.trail l.self.trail;
  watching : IsWatching l.self;
}

abbrev pub decreases-loop-step : goal.decreases-loop-step
decreases-loop-step l = l.self.trail.variables - l.self.propagated
