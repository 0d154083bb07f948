use Rattle.std.proofs.Common.{◌∷◌, [], List, length, map, sym, ap, ◌∙◌, arith}
use Rattle.std.proofs.lemmas.List.{length-append}
use Rattle.c_types.specs.Types.{Records}
use Rattle.c_types.specs.declared.types.RecordKind.{RecordKind}
use Rattle.c_scope.specs.declared.members.MemberTable.{MemberTable}
use Rattle.c_scope.specs.Scopes.{view_named, view_object_entry, are_complete, variables_of}
use Rattle.c_scope.specs.Places.{environment}
use Rattle.c_scope.proofs.Variables.{one_record_more}
use Rattle.c_scope.proofs.scope.Scope.declare_record.Goals as goal

pub invariant_of-self-2 : goal.invariant_of-self-2
invariant_of-self-2 c =
    let old = c.self.inside.layouts in
    let now = c.declare.new.self in
    let e = ap (λ (r : Records). r.declared) c.in_ok-place.ensures.declared in
    let done = ap (λ (r : Records). r.done) c.in_ok-place.ensures.declared in
    let variables = map view_named c.self.inside.variables.items in
    let records = ap (λ (ks : List RecordKind). length ks) e ∙ length-append old.declared (c.args.kind ∷ []) in
    let tables = ap (λ (ts : List MemberTable). length ts) c.put_table.ensures ∙ length-append c.reserve.new.self.items (_ ∷ []) in
    let kept = ap (λ (ts : List MemberTable). length ts) c.in_ok-reserve.ensures.items in
    let same = c.self.invariant.6 in (
      one_record_more (length variables) (length (map view_object_entry c.self.inside.objects.items)) (length (map view_named c.self.inside.types.items)) old.declared now.declared c.args.kind (environment c.self.inside.bounds.items) e c.self.invariant.0,
      c.self.invariant.1,
      c.self.invariant.2,
      c.self.invariant.3 ∙ ap (λ ds. variables_of ds variables) (sym done),
      c.self.invariant.4,
      ap (λ ds. are_complete ds variables) done ∙ c.self.invariant.5,
      omega (arith, records, tables, kept, same),
    )
