use Rattle.std.proofs.Common.{◌≡◌, ◌≤◌, length, drop}
use Rattle.c_tree.specs.Declarations.{declarators_of}
use Rattle.c_scope.specs.Scopes.{Scoped, view_named}
use Rattle.c_elab_type.specs.Declarators.{Typed}
use Rattle.c_elab_type.specs.Steps.{items_first}
use Rattle.c_elab_object.specs.DeclaratorLists.{typed_variables}
use Rattle.c_elab_object.proofs.declarator_lists.typed_variables.Given as goal

abbrev pub invariant-loop-declared : goal.invariant-loop-declared
invariant-loop-declared l = record {
  step : (behind : Scoped → Typed) →
      items_first l.initial.items.items (typed_variables l.region l.initial.scope (view_named l.base) l.passed (declarators_of l.declarators) behind)
      ≡ items_first l.items.items (typed_variables l.region l.scope (view_named l.base) l.passed (declarators_of (drop l.declared-index l.declarators)) behind);
  within : l.region.outer ≤ length l.scope.bindings;
}
