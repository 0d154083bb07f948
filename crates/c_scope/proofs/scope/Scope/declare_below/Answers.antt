use Rattle.std.proofs.Common.{◌≡◌, ◌-◌, ◌++◌, ℕ, true, length, map, take, drop, sym, ap, ◌∙◌}
use Rattle.std.proofs.lemmas.List.{take-append-drop}
use Rattle.std.proofs.lemmas.List.Folds.{list_all-append}
use Rattle.c_scope.specs.Scopes.{Binding, Environment, Scoped, binding, is_there, are_there, are_known}
use Rattle.c_scope.proofs.Variables.{both}
use Rattle.c_scope.proofs.scope.Scope.declare_below.Goals as goal

-- what the innermost names mean is there
taken_there : (s : Scoped) (k : ℕ) → are_known s ≡ true → are_there (length s.variables) (length s.objects) (length s.types) (length s.records.declared) (take k s.bindings) ≡ true
taken_there s k h =
    let there = λ (env : Environment). are_there (length s.variables) (length s.objects) (length s.types) (length s.records.declared) env in
    let one = λ (x : Binding). is_there (length s.variables) (length s.objects) (length s.types) (length s.records.declared) x.meaning in
    (both (there (take k s.bindings)) (there (drop k s.bindings)) (sym (list_all-append one (take k s.bindings) (drop k s.bindings)) ∙ ap there (take-append-drop k s.bindings) ∙ h)).0

pub put_names-requires : goal.put_names-requires
put_names-requires c =
    let start = c.args.self.now in
    let names = map (λ b. binding b.0.items b.1) c.in_ok-names.names.items in
    let k = length start.bindings - c.args.outer in
    let there = λ (s : Scoped). are_there (length s.variables) (length s.objects) (length s.types) (length s.records.declared) names in
    ap there c.in_ok-declare.ensures.declared ∙ ap there c.in_ok-names.ensures.taken
    ∙ ap (λ (env : Environment). are_there (length start.variables) (length start.objects) (length start.types) (length start.records.declared) env) c.in_ok-names.ensures.names
    ∙ taken_there start k c.prove_there.ensures.there
