use Rattle.std.proofs.Common.{◌≡◌, false, Some, sym, ap, ◌∙◌}
use Rattle.c_scope.specs.declared.scope.Bound.{Bound}
use Rattle.c_scope.specs.Scopes.{Scoped, built_in, meaning_in}
use Rattle.c_scope.specs.Places.{environment, place_in}
use Rattle.c_scope.proofs.Bindings.{meaning_at, meaning_unbound}
use Rattle.c_scope.proofs.scope.Scope.meaning.Goals as goal

pub returns-in-Some : goal.returns-in-Some
returns-in-Some c =
    let bounds = c.self.inside.bounds.items in
    let name = c.args.name.now in
    let found : place_in false (environment bounds) name ≡ Some c.in-Some.place = ap (λ (s : Scoped). place_in false s.bindings name) c.self.view_is ∙ sym c.in-Some.ensures.is in
    ap (λ (b : Bound). Some b.meaning) c.index.ensures
    ∙ sym (meaning_at false bounds name (built_in name) c.in-Some.place c.index.result.now found)
    ∙ ap (λ (s : Scoped). meaning_in false (built_in name) s.bindings name) c.self.view_is

pub returns-in-None : goal.returns-in-None
returns-in-None c =
    c.built_in.ensures ∙ sym (meaning_unbound false c.args.self.now.bindings c.args.name.now (built_in c.args.name.now) (sym c.in-None.ensures.is))
