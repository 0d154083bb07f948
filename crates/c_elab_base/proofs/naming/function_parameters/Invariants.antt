use Rattle.std.proofs.Common.{◌≤◌, ◌+◌, drop}
use Rattle.c_elab_base.specs.Declarators.{function_parameters}
use Rattle.c_elab_base.proofs.naming.function_parameters.Given as goal

abbrev pub invariant-loop-number : goal.invariant-loop-number
invariant-loop-number l = l.count + function_parameters (drop l.number l.functions.all) ≤ function_parameters l.functions.all
