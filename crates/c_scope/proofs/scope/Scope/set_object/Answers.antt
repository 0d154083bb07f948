use Rattle.std.proofs.Common.{◌-◌, List, map, ap, ◌∙◌}
use Rattle.std.specs.Prelude.{slice_set}
use Rattle.std.proofs.lemmas.List.{map-set}
use Rattle.c_scope.specs.Members.{view_tables}
use Rattle.c_scope.specs.Scopes.{ObjectEntry, Scoped, view_named, view_object_entry, view_linked, view_flow}
use Rattle.c_scope.specs.Places.{environment}
use Rattle.c_scope.proofs.scope.Scope.set_object.Goals as goal

pub returns : goal.returns
returns c =
    let inside = c.self.inside in
    let i = c.args.number - 1 in
    let o = view_object_entry c.args.object in
    let whole : Scoped = record { bindings = environment inside.bounds.items; types = map view_named inside.types.items; records = inside.layouts; members = view_tables inside.tables.items; variables = map view_named inside.variables.items; objects = map view_object_entry inside.objects.items; linked = map view_linked inside.linked.entries; functions = inside.functions; flow = view_flow inside.flow } in
    ap (λ (os : List ObjectEntry). record whole { objects = os }) (map-set view_object_entry inside.objects.items i c.args.object)
    ∙ ap (λ (s : Scoped). record s { objects = slice_set s.objects i o }) c.self.view_is
