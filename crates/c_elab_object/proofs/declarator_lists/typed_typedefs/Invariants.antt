use Rattle.std.proofs.Common.{◌≡◌, ◌≤◌, length, drop}
use Rattle.c_tree.specs.Declarations.{declarators_of}
use Rattle.c_scope.specs.Scopes.{view_named}
use Rattle.c_elab_object.specs.DeclaratorLists.{typed_typedefs}
use Rattle.c_elab_object.proofs.declarator_lists.typed_typedefs.Given as goal

abbrev pub invariant-loop-declared : goal.invariant-loop-declared
invariant-loop-declared l = record {
  gives : typed_typedefs l.region l.scope (view_named l.base) (declarators_of (drop l.declared-index l.declarators))
      ≡ typed_typedefs l.region l.initial.scope (view_named l.base) (declarators_of l.declarators);
  within : l.region.outer ≤ length l.scope.bindings;
}
