use Rattle.std.proofs.Common.{◌≡◌, drop}
use Rattle.c_tree.specs.Statements.{externals_of}
use Rattle.c_elab_decl.specs.Files.{with_definitions}
use Rattle.c_elab_decl.proofs.external_definitions.note_definitions.Given as goal

abbrev pub invariant-loop-external : goal.invariant-loop-external
invariant-loop-external l = with_definitions l.scope (externals_of (drop l.external-index l.externals)) ≡ with_definitions l.initial.scope (externals_of l.externals)
