use Rattle.std.proofs.Common.{◌≡◌, ◌∷◌, [], ◌++◌, List, ℕ, None, map, ap, ◌∙◌, rules}
use Rattle.c_scope.specs.Members.{view_tables}
use Rattle.c_scope.specs.Scopes.{Linked, Scoped, view_named, view_object_entry, view_linked, view_flow, linked_to}
use Rattle.c_scope.specs.Places.{environment}
use Rattle.c_scope.proofs.Links.{new_link}
use Rattle.c_scope.proofs.scope.Scope.link.Goals as goal

pub returns : goal.returns
returns c =
    let inside = c.self.inside in
    let es = inside.linked.entries in
    let name = c.args.name.now in
    let key = c.in_ok-to_vec.field-0 in
    let whole : Scoped = record { bindings = environment inside.bounds.items; types = map view_named inside.types.items; records = inside.layouts; members = view_tables inside.tables.items; variables = map view_named inside.variables.items; objects = map view_object_entry inside.objects.items; linked = map view_linked es; functions = inside.functions; flow = view_flow inside.flow } in
    let own : key.items ≡ name = search rules in
    let absent : linked_to (map view_linked es) key.items ≡ None =
    ap (λ (n : List ℕ). linked_to (map view_linked es) n) own ∙ ap (λ (s : Scoped). linked_to s.linked name) c.self.view_is ∙ c.requires in
    let more : map view_linked c.insert.new.self.entries ≡ map view_linked es ++ record { name = name; object = c.args.object } ∷ [] =
    ap (λ xs. map view_linked xs) c.in_ok-insert.ensures.entries ∙ new_link es key c.args.object absent
    ∙ ap (λ (n : List ℕ). map view_linked es ++ record { name = n; object = c.args.object } ∷ []) own in
    ap (λ (ls : List Linked). record whole { linked = ls }) more
    ∙ ap (λ (s : Scoped). record s { linked = s.linked ++ record { name = name; object = c.args.object } ∷ [] }) c.self.view_is
