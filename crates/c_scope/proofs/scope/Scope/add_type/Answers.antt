use Rattle.std.proofs.Common.{◌≡◌, ◌∷◌, [], ◌++◌, List, length, map, ap, ◌∙◌}
use Rattle.std.proofs.lemmas.List.{map-append}
use Rattle.c_scope.specs.declared.scope.QualifiedType.{QualifiedType}
use Rattle.c_scope.specs.Scopes.{view_named, view_object_entry}
use Rattle.c_scope.specs.Places.{environment}
use Rattle.c_scope.proofs.Variables.{one_type_more}
use Rattle.c_scope.proofs.scope.Scope.add_type.Goals as goal

pub invariant_of-self-2 : goal.invariant_of-self-2
invariant_of-self-2 c =
    let old = c.self.inside.types.items in
    let more : map view_named c.push.new.self.items ≡ map view_named old ++ view_named c.args.type_ ∷ [] =
    ap (λ (ts : List QualifiedType). map view_named ts) c.in_ok-push.ensures.items ∙ map-append view_named old (c.args.type_ ∷ []) in
    let both = one_type_more (length (map view_named c.self.inside.variables.items)) (length (map view_object_entry c.self.inside.objects.items)) (map view_named old) (map view_named c.push.new.self.items) (view_named c.args.type_) (length c.self.inside.layouts.declared)
    (environment c.self.inside.bounds.items) more c.self.invariant.0 c.self.invariant.4 in
    (both.0, c.self.invariant.1, c.self.invariant.2, c.self.invariant.3, both.1, c.self.invariant.5, c.self.invariant.6)
