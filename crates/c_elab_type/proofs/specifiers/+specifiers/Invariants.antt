use Rattle.std.proofs.Common.{◌≡◌, ◌≤◌, [], length, drop}
use Rattle.c_tree.specs.Declarations.{parts_of, members_of, fulls_of, full_suffixes_of, parameters_of}
use Rattle.c_scope.specs.Scopes.{view_named}
use Rattle.c_elab_base.specs.Derivations.{view_parameters, view_deriveds}
use Rattle.c_elab_base.specs.Specifiers.{view_parted, view_typed}
use Rattle.c_elab_type.specs.Specifiers.{typed_parts, typed_members, typed_fields, typed_suffixes, typed_parameters}
use Rattle.c_elab_type.specs.Steps.{suffixes_first}
use Rattle.c_elab_type.proofs.specifiers.+specifiers.Given as goal

abbrev pub invariant-typed_members-loop-member : goal.invariant-typed_members-loop-member
invariant-typed_members-loop-member l = record {
  gives : typed_members l.region (view_typed l.fields.items l.names l.scope) (members_of (drop l.member-index l.members))
      ≡ typed_members l.region (view_typed l.initial.fields.items l.initial.names l.initial.scope) (members_of l.members);
  within : l.region.outer ≤ length l.scope.bindings;
  grows : length l.initial.scope.records.declared ≤ length l.scope.records.declared;
}

abbrev pub invariant-typed_parts-loop-specifier : goal.invariant-typed_parts-loop-specifier
invariant-typed_parts-loop-specifier l = record {
  gives : typed_parts l.region l.alone (view_parted l.specified l.names l.scope) (parts_of (drop l.specifier-index l.specifiers))
      ≡ typed_parts l.region l.alone (view_parted l.initial.specified l.initial.names l.initial.scope) (parts_of l.specifiers);
  within : l.region.outer ≤ length l.scope.bindings;
  grows : length l.initial.scope.records.declared ≤ length l.scope.records.declared;
}

abbrev pub invariant-typed_fields-loop-declarator : goal.invariant-typed_fields-loop-declarator
invariant-typed_fields-loop-declarator l = record {
  gives : typed_fields l.fn.region (view_named l.base) (view_typed l.fields.items l.names l.scope) (fulls_of (drop l.declarator-index l.declarators))
      ≡ typed_fields l.fn.region (view_named l.base) (view_typed l.initial.fields.items l.initial.names l.initial.scope) (fulls_of l.declarators);
  within : l.fn.region.outer ≤ length l.scope.bindings;
  grows : length l.initial.scope.records.declared ≤ length l.scope.records.declared;
}

abbrev pub invariant-add_suffixes-loop-suffix : goal.invariant-add_suffixes-loop-suffix
invariant-add_suffixes-loop-suffix l = record {
  gives : suffixes_first (view_deriveds l.found.items) (typed_suffixes l.scope (full_suffixes_of (drop l.suffix-index l.suffixes)))
      ≡ suffixes_first (view_deriveds l.initial.found.items) (typed_suffixes l.initial.scope (full_suffixes_of l.suffixes));
  names : l.scope.bindings ≡ l.initial.scope.bindings;
  variables : l.scope.variables ≡ l.initial.scope.variables;
  grows : length l.initial.scope.records.declared ≤ length l.scope.records.declared;
}

abbrev pub invariant-typed_parameters-loop-parameter : goal.invariant-typed_parameters-loop-parameter
invariant-typed_parameters-loop-parameter l = record {
  gives : typed_parameters l.region l.several (record { parameters = view_parameters l.typed.items; scope = l.scope }) (parameters_of (drop l.parameter-index l.parameters))
      ≡ typed_parameters l.region l.several (record { parameters = []; scope = l.initial.scope }) (parameters_of l.parameters);
  within : l.region.outer ≤ length l.scope.bindings;
  grows : length l.initial.scope.records.declared ≤ length l.scope.records.declared;
}
