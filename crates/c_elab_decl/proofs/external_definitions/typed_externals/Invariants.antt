use Rattle.std.proofs.Common.{◌≡◌, [], drop}
use Rattle.c_tree.specs.Statements.{externals_of}
use Rattle.c_elab_decl.specs.Files.{typed_externals}
use Rattle.c_elab_flow.specs.Held.{view_definitions}
use Rattle.c_elab_decl.specs.DefinitionSteps.{definitions_first}
use Rattle.c_elab_decl.proofs.external_definitions.typed_externals.Given as goal

abbrev pub invariant-loop-external : goal.invariant-loop-external
invariant-loop-external l = record {
  step : definitions_first (view_definitions l.definitions.items) (typed_externals l.scope (externals_of (drop l.external-index l.externals))) ≡ typed_externals l.initial.scope (externals_of l.externals);
  outside : l.scope.variables ≡ [];
}
