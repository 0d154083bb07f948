use Rattle.std.proofs.Common.{◌≤◌, ◌+◌, drop}
use Rattle.c_elab_base.specs.Declarators.{type_parameters}
use Rattle.c_elab_base.proofs.naming.type_parameters.Given as goal

abbrev pub invariant-loop-number : goal.invariant-loop-number
invariant-loop-number l = l.count + type_parameters (drop l.number l.functions.types) ≤ type_parameters l.functions.types
