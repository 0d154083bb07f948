use Rattle.std.proofs.Common.{◌≡◌, drop}
use Rattle.goto_unwind.specs.Linear.{parameters_made}
use Rattle.goto_unwind.proofs.trees.parameters.Given as goal

abbrev pub invariant-loop-place : goal.invariant-loop-place
invariant-loop-place l = parameters_made 1 (drop l.place l.parameters) (drop l.place l.variables) l.linear_count ≡ parameters_made 1 l.parameters l.variables l.initial.linear_count
