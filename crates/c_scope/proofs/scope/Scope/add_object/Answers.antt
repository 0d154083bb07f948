use Rattle.std.proofs.Common.{◌≡◌, ◌∷◌, [], ◌++◌, List, length, map, ap, ◌∙◌}
use Rattle.std.proofs.lemmas.List.{map-append}
use Rattle.c_scope.specs.declared.scope.ObjectEntry.{ObjectEntry}
use Rattle.c_scope.specs.Scopes.{view_named, view_object_entry}
use Rattle.c_scope.specs.Places.{environment}
use Rattle.c_scope.proofs.Variables.{one_object_more}
use Rattle.c_scope.proofs.scope.Scope.add_object.Goals as goal

pub invariant_of-self-2 : goal.invariant_of-self-2
invariant_of-self-2 c =
    let old = c.self.inside.objects.items in
    let more : map view_object_entry c.push.new.self.items ≡ map view_object_entry old ++ view_object_entry c.args.object ∷ [] =
    ap (λ (os : List ObjectEntry). map view_object_entry os) c.in_ok-push.ensures.items ∙ map-append view_object_entry old (c.args.object ∷ []) in (
      one_object_more (length (map view_named c.self.inside.variables.items)) (map view_object_entry old) (map view_object_entry c.push.new.self.items) (view_object_entry c.args.object)
          (length (map view_named c.self.inside.types.items)) (length c.self.inside.layouts.declared) (environment c.self.inside.bounds.items) more c.self.invariant.0,
      c.self.invariant.1,
      c.self.invariant.2,
      c.self.invariant.3,
      c.self.invariant.4,
      c.self.invariant.5,
      c.self.invariant.6,
    )
