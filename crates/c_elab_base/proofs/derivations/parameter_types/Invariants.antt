use Rattle.std.proofs.Common.{◌≡◌, map, take}
use Rattle.c_types.specs.Types.{view}
use Rattle.c_elab_base.specs.Derivations.{parameter_types, view_parameters}
use Rattle.c_elab_base.proofs.derivations.parameter_types.Given as goal

abbrev pub invariant-loop-parameter : goal.invariant-loop-parameter
invariant-loop-parameter l = map view l.types.items ≡ parameter_types (view_parameters (take l.parameter-index l.parameters))
