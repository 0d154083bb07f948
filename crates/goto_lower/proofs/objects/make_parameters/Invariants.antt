use Rattle.std.proofs.Common.{◌≡◌, ◌-◌}
use Rattle.goto_lower.specs.Statements.{after_parameters}
use Rattle.goto_lower.proofs.objects.make_parameters.Given as goal

abbrev pub invariant-loop-variable : goal.invariant-loop-variable
invariant-loop-variable l = after_parameters l.draft l.line (l.count - l.variable) l.variable ≡ after_parameters l.initial.draft l.line l.count 0
