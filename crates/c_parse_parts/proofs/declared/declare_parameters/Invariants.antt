use Rattle.std.proofs.Common.{◌≡◌, take}
use Rattle.c_tree.specs.Declarations.{parameters_of, with_parameters}
use Rattle.c_parse_parts.proofs.declared.declare_parameters.Given as goal

abbrev pub invariant-loop-parameter : goal.invariant-loop-parameter
invariant-loop-parameter l = l.names ≡ with_parameters l.fn.names (parameters_of (take l.parameter-index l.parameters))
