use Rattle.std.proofs.Common.{◌≡◌, ◌-◌}
use Rattle.goto_lower.specs.Statements.{living_parameters}
use Rattle.goto_lower.proofs.objects.live_first.Given as goal

abbrev pub invariant-loop-variable : goal.invariant-loop-variable
invariant-loop-variable l = living_parameters l.draft l.line (l.count - l.variable) l.variable ≡ living_parameters l.initial.draft l.line l.count 0
