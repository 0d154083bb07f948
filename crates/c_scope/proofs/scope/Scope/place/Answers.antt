use Rattle.std.proofs.Common.{◌≡◌, ◌<◌, ℕ, Bool, length, Option, Some, None, sym, ap, ◌∙◌, List}
use Rattle.std.specs.Prelude.{IfSome}
use Rattle.c_scope.specs.Scopes.{Environment, Scoped}
use Rattle.c_scope.specs.Places.{place_in}
use Rattle.c_scope.proofs.Bindings.{place_below}
use Rattle.c_scope.proofs.scope.Scope.place.Goals as goal

within : (tags : Bool) (env : Environment) (name : List ℕ) (o : Option ℕ) → o ≡ place_in tags env name → IfSome o (λ p. p < length env)
within tags env name None e = tt
within tags env name (Some p) e = place_below tags env name p (sym e)

pub returns-clause-within : goal.returns-clause-within
returns-clause-within c =
    let same = ap (λ (s : Scoped). place_in c.args.tags s.bindings c.args.name.now) c.self.view_is in
    within c.args.tags c.args.self.now.bindings c.args.name.now c.place_of.result (c.place_of.ensures ∙ c.self.invariant.1 c.args.tags c.args.name.now ∙ same)
