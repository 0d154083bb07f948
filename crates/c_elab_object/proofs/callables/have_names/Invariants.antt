use Rattle.std.proofs.Common.{◌≡◌, drop}
use Rattle.c_elab_base.specs.Derivations.{view_parameters, have_names}
use Rattle.c_elab_object.proofs.callables.have_names.Given as goal

abbrev pub invariant-loop-parameter : goal.invariant-loop-parameter
invariant-loop-parameter l = have_names (view_parameters (drop l.parameter-index l.parameters)) ≡ have_names (view_parameters l.parameters)
