use Rattle.std.proofs.Common.{◌≡◌, true, List, ℕ, Option, Some, None, length, sym, subst, ap, ◌∙◌}
use Rattle.std.specs.Prelude.{IfSome}
use Rattle.c_scope.specs.declared.meaning.Meaning.{Meaning}
use Rattle.c_scope.specs.declared.scope.Bound.{Bound}
use Rattle.c_scope.specs.Scopes.{Scoped, meaning_in, tag_of, is_known, are_known}
use Rattle.c_scope.specs.Places.{environment, place_in}
use Rattle.c_scope.proofs.Bindings.{meaning_at, meaning_unbound}
use Rattle.c_scope.proofs.Variables.{meant_there}
use Rattle.c_scope.proofs.scope.Scope.tag.Goals as goal

pub returns-in-Some-clause-is : goal.returns-in-Some-clause-is
returns-in-Some-clause-is c =
    let bounds = c.self.inside.bounds.items in
    let name = c.args.name.now in
    let found : place_in true (environment bounds) name ≡ Some c.in-Some.place = ap (λ (s : Scoped). place_in true s.bindings name) c.self.view_is ∙ sym c.in-Some.ensures.is in
    ap (λ (b : Bound). Some b.meaning) c.index.ensures
    ∙ sym (meaning_at true bounds name None c.in-Some.place c.index.result.now found)
    ∙ ap (λ (s : Scoped). meaning_in true None s.bindings name) c.self.view_is

pub returns-in-None-clause-is : goal.returns-in-None-clause-is
returns-in-None-clause-is c =
    sym (meaning_unbound true c.args.self.now.bindings c.args.name.now None (sym c.in-None.ensures.is))

there : (s : Scoped) (name : List ℕ) (o : Option Meaning) → o ≡ tag_of s.bindings name → are_known s ≡ true → IfSome o (λ m. is_known s m ≡ true)
there s name o e h = subst (λ (x : Option Meaning). IfSome x (λ m. is_known s m ≡ true)) (sym e) (meant_there (length s.variables) (length s.objects) (length s.types) (length s.records.declared) true s.bindings name h)

pub returns-in-Some-clause-there : goal.returns-in-Some-clause-there
returns-in-Some-clause-there c =
    there c.args.self.now c.args.name.now (Some c.index.result.now.meaning) (returns-in-Some-clause-is c) (ap are_known (sym c.self.view_is) ∙ c.self.invariant.0)
