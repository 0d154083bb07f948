use Rattle.std.proofs.Common.{◌≡◌, ◌∷◌, length, map, sym, ap, ◌∙◌}
use Rattle.c_scope.specs.Scopes.{Environment, binding, is_tag, view_named, view_object_entry, is_there, are_there}
use Rattle.c_scope.specs.Places.{environment, place_in, hidden_in, hidden_of}
use Rattle.c_scope.proofs.Bindings.{environment_push, hidden_push, forgotten, has_place}
use Rattle.c_scope.proofs.Variables.{both}
use Rattle.c_scope.proofs.scope.Scope.forget.Goals as goal

pub invariant_of-self : goal.invariant_of-self
invariant_of-self c =
    let bounds = c.self.inside.bounds.items in
    let rest = c.pop.new.self.items in
    let bound = c.in-Some.bound in
    let b = binding bound.name.items bound.meaning in
    let variables = length (map view_named c.self.inside.variables.items) in
    let objects = length (map view_object_entry c.self.inside.objects.items) in
    let types = length (map view_named c.self.inside.types.items) in
    let records = length c.self.inside.layouts.declared in
    let split : environment bounds ≡ b ∷ environment rest = ap environment c.in-Some.ensures.items ∙ environment_push rest bound in
    let hides : bound.hidden ∷ hidden_of rest ≡ place_in (is_tag b.meaning) (environment rest) bound.name.items ∷ hidden_in (environment rest) =
    sym (ap hidden_of c.in-Some.ensures.items ∙ hidden_push rest bound) ∙ c.self.invariant.2 ∙ ap hidden_in split in
    let first : bound.hidden ≡ place_in (is_tag b.meaning) (environment rest) bound.name.items = cc in
    let others : hidden_of rest ≡ hidden_in (environment rest) = cc in
    let there = sym (ap (λ (env : Environment). are_there variables objects types records env) split) ∙ c.self.invariant.0 in (
      (both (is_there variables objects types records bound.meaning) (are_there variables objects types records (environment rest)) there).1,
      (λ tags name. forgotten tags (environment rest) b bound.hidden name _ _ first
          (c.self.invariant.1 tags name ∙ ap (λ (env : Environment). place_in tags env name) split) (rw (c.is_tag-tag.ensures) at (c.in-Ok.ensures.new tags name))),
      others,
      c.self.invariant.3,
      c.self.invariant.4,
      c.self.invariant.5,
      c.self.invariant.6,
    )

pub unreachable-requires : goal.unreachable-requires
unreachable-requires c =
    let bounds = c.self.inside.bounds.items in
    let rest = c.pop.new.self.items in
    let bound = c.in-Some.bound in
    let b = binding bound.name.items bound.meaning in
    let split : environment bounds ≡ b ∷ environment rest = ap environment c.in-Some.ensures.items ∙ environment_push rest bound in
    has_place (environment rest) b
    (sym (c.self.invariant.1 (is_tag b.meaning) bound.name.items ∙ ap (λ (env : Environment). place_in (is_tag b.meaning) env bound.name.items) split)
    ∙ rw (c.is_tag-tag.ensures) at c.in-Err.ensures.absent)
