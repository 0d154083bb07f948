use Rattle.std.proofs.Common.{◌≡◌, ℕ, Bool, List, map, ap, ◌∙◌}
use Rattle.std.specs.Prelude.{◌++◌, ◌∷◌, [], if◌then◌else◌}
use Rattle.c_scope.specs.Scopes.{FunctionTable, view_callable, view_function_type, view_linked, with_defined}
use Rattle.c_scope.proofs.Links.{Keys, among_keys, added_key}
use Rattle.c_scope.proofs.functions.Functions.define.Goals as goal

pub returns : goal.returns
returns c =
    let inside = c.self.inside in
    let keys = inside.defined.keys in
    let own = c.in_ok-own.own in
    let whole : FunctionTable = record { all = map view_callable inside.all.items; named = map view_linked inside.named.entries; types = map view_function_type inside.types.items; defined = map (λ n. n.items) keys } in
    let same : own.items ≡ c.args.name.now = c.in_ok-own.ensures.items_if_clones_equal (λ y h e. e) in
    ap (λ (ks : Keys). record whole { defined = map (λ n. n.items) ks }) c.in_ok-insert.ensures.keys
    ∙ ap (λ (ns : List (List ℕ)). record whole { defined = ns }) (added_key keys own _)
    ∙ ap (λ (b : Bool). record whole { defined = if b then whole.defined else whole.defined ++ own.items ∷ [] }) (among_keys keys own.items)
    ∙ ap (λ (n : List ℕ). with_defined whole n) same
    ∙ ap (λ (t : FunctionTable). with_defined t c.args.name.now) c.self.view_is
