use Rattle.std.proofs.Common.{◌≤◌, List, length, map, sym, ap, subst, ◌∙◌, arith}
use Rattle.std.proofs.lemmas.List.{length-map}
use Rattle.c_types.specs.Types.{Records}
use Rattle.c_scope.specs.declared.scope.Bound.{Bound}
use Rattle.c_scope.specs.declared.scope.QualifiedType.{QualifiedType}
use Rattle.c_scope.specs.Members.{Members, view_members}
use Rattle.c_scope.specs.Scopes.{Named, view_named, view_object_entry, are_there, are_complete, variables_of}
use Rattle.c_scope.specs.Places.{environment, place_in, hidden_in, hidden_of}
use Rattle.c_scope.proofs.scope.Scope.new.Goals as goal

pub invariant_of-result : goal.invariant_of-result
invariant_of-result c =
    let bounds = c.new.ensures.items in
    let variables = c.new-3.ensures.items in
    let done = c.in_ok-built_in_layouts.field-0.done in
    let tables = c.in_ok-built_in_tables.field-0.items in
    let records = ap (λ (r : Records). length r.declared) c.in_ok-built_in_layouts.ensures in
    let long = length-map tables view_members in
    let one = ap (λ (ms : List Members). length ms) c.in_ok-built_in_tables.ensures in (
      ap (λ (bs : List Bound). are_there (length (map view_named c.new-3.result.items)) (length (map view_object_entry c.new-5.result.items)) (length (map view_named c.in_ok-built_in_types.field-0.items))
          (length c.in_ok-built_in_layouts.field-0.declared) (environment bs)) bounds,
      (λ tags name. c.new-2.ensures tags name ∙ sym (ap (λ (bs : List Bound). place_in tags (environment bs) name) bounds)),
      ap hidden_of bounds ∙ sym (ap (λ (bs : List Bound). hidden_in (environment bs)) bounds),
      c.new-4.ensures.items ∙ sym (ap (λ (vs : List QualifiedType). variables_of done (map view_named vs)) variables),
      subst (λ (ts : List Named). 9 ≤ length ts) (sym c.in_ok-built_in_types.ensures) (omega arith),
      ap (λ (vs : List QualifiedType). are_complete done (map view_named vs)) variables,
      omega (arith, long, one, records),
    )
