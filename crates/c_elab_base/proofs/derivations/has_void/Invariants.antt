use Rattle.std.proofs.Common.{◌≡◌, drop}
use Rattle.c_elab_base.specs.Derivations.{has_void, view_parameters}
use Rattle.c_elab_base.proofs.derivations.has_void.Given as goal

abbrev pub invariant-loop-parameter : goal.invariant-loop-parameter
invariant-loop-parameter l = has_void (view_parameters (drop l.parameter-index l.parameters)) ≡ has_void (view_parameters l.parameters)
