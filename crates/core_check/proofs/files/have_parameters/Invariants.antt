use Rattle.std.proofs.Common.{◌≡◌, drop}
use Rattle.core_tree.specs.Typed.{have_parameters, sizes_of_variables}
use Rattle.core_check.proofs.files.have_parameters.Given as goal

abbrev pub invariant-loop-place : goal.invariant-loop-place
invariant-loop-place l = l.all ≡ have_parameters (sizes_of_variables (drop l.place l.variables)) (drop l.place l.parameters)
