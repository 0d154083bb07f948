use Rattle.std.proofs.Common.{◌≡◌, List, false, length, map, set, sym, ap, ap₂, ◌∙◌, arith}
use Rattle.std.specs.Prelude.{slice_set}
use Rattle.std.proofs.lemmas.List.{map-set}
use Rattle.std.proofs.Math.ListN.{length-set}
use Rattle.c_types.specs.Types.{CType, Completed, Records}
use Rattle.c_types.specs.declared.types.RecordKind.{RecordKind}
use Rattle.c_types.specs.Layouts.{is_completed, with_completed, kind_at}
use Rattle.c_scope.specs.declared.members.MemberTable.{MemberTable}
use Rattle.c_scope.specs.Members.{Members, view_fields, field_types, view_members, view_tables, members_by}
use Rattle.c_scope.specs.Scopes.{Scoped, view_named, view_object_entry, view_linked, view_flow, are_there, are_complete, variables_of}
use Rattle.c_scope.specs.Places.{environment}
use Rattle.c_scope.proofs.Variables.{variables_later}
use Rattle.c_scope.proofs.scope.Scope.complete_record.Goals as goal

pub invariant_of-self-2 : goal.invariant_of-self-2
invariant_of-self-2 c =
    let old = c.self.inside.layouts in
    let place = c.args.place in
    let variables = map view_named c.self.inside.variables.items in
    let completed = c.in_ok-complete.ensures.completed in
    let declared = ap (λ (r : Records). r.declared) completed in
    let done = ap (λ (r : Records). r.done) completed in
    let before : is_completed old.done place ≡ false = ap (λ (s : Scoped). is_completed s.records.done place) c.self.view_is ∙ c.requires.incomplete in
    let later = variables_later old.done (record { place = place; kind = kind_at old place; members = _ }) variables before c.self.invariant.5 in
    let long = length-set c.self.inside.tables.items place c.in_ok-table.table in
    let records = ap (λ (ks : List RecordKind). length ks) declared in
    let same = c.self.invariant.6 in (
      ap (λ (ks : List RecordKind). are_there (length variables) (length (map view_object_entry c.self.inside.objects.items)) (length (map view_named c.self.inside.types.items)) (length ks) (environment c.self.inside.bounds.items)) declared ∙ c.self.invariant.0,
      c.self.invariant.1,
      c.self.invariant.2,
      c.self.invariant.3 ∙ sym later.1 ∙ ap (λ (ds : List Completed). variables_of ds variables) (sym done),
      c.self.invariant.4,
      ap (λ (ds : List Completed). are_complete ds variables) done ∙ later.0,
      omega (arith, long, records, same),
    )

pub returns-clause-completed : goal.returns-clause-completed
returns-clause-completed c =
    let inside = c.self.inside in
    let place = c.args.place in
    let fs = view_fields c.args.fields.now in
    let rs : Records = inside.layouts in
    let tables = inside.tables.items in
    let table : view_members c.in_ok-table.table ≡ members_by (view_tables tables) fs =
    c.in_ok-table.ensures ∙ ap (λ (ts : List MemberTable). members_by (view_tables ts) fs) c.deref.ensures.value in
    let members : view_tables (set tables place c.in_ok-table.table) ≡ slice_set (view_tables tables) place (members_by (view_tables tables) fs) =
    map-set view_members tables place c.in_ok-table.table ∙ ap (λ (m : Members). slice_set (view_tables tables) place m) table in
    let records : c.complete.new.self ≡ with_completed rs place (kind_at rs place) (field_types fs) =
    c.in_ok-complete.ensures.completed ∙ ap (λ (ts : List CType). with_completed rs place (kind_at rs place) ts) c.in_ok-types.ensures in
    let whole : Scoped = record { bindings = environment inside.bounds.items; types = map view_named inside.types.items; records = rs; members = view_tables tables; variables = map view_named inside.variables.items; objects = map view_object_entry inside.objects.items; linked = map view_linked inside.linked.entries; functions = inside.functions; flow = view_flow inside.flow } in
    ap₂ (λ (r : Records) (ms : List Members). record whole { records = r; members = ms }) records members
    ∙ ap (λ (s : Scoped). record s { records = with_completed s.records place (kind_at s.records place) (field_types fs); members = slice_set s.members place (members_by s.members fs) }) c.self.view_is
