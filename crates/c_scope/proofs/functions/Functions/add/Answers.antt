use Rattle.std.proofs.Common.{◌≡◌, ◌∷◌, [], ◌++◌, List, ℕ, None, length, map, ap, ap₂, ◌∙◌, rules, arith}
use Rattle.std.proofs.lemmas.List.{map-append, length-map}
use Rattle.c_scope.specs.Scopes.{Callable, Linked, FunctionTable, view_callable, view_function_type, view_linked, linked_to, with_callable}
use Rattle.c_scope.proofs.Links.{new_link}
use Rattle.c_scope.proofs.functions.Functions.add.Goals as goal

pub returns-clause-added : goal.returns-clause-added
returns-clause-added c =
    let inside = c.self.inside in
    let es = inside.named.entries in
    let fs = inside.all.items in
    let name = c.args.name.now in
    let key = c.in_ok-to_vec.field-0 in
    let n = c.len-number.result in
    let whole : FunctionTable = record { all = map view_callable fs; named = map view_linked es; types = map view_function_type inside.types.items; defined = map (λ n. n.items) inside.defined.keys } in
    let own : key.items ≡ name = search rules in
    let absent : linked_to (map view_linked es) key.items ≡ None =
    ap (λ (n : List ℕ). linked_to (map view_linked es) n) own ∙ ap (λ (t : FunctionTable). linked_to t.named name) c.self.view_is ∙ c.requires.new in
    let one : map view_callable c.push.new.self.items ≡ map view_callable fs ++ view_callable c.args.function ∷ [] =
    ap (λ (gs : List _). map view_callable gs) c.in_ok-push.ensures.items ∙ map-append view_callable fs (c.args.function ∷ []) in
    let long = length-map fs view_callable in
    let number : c.len-number.result ≡ length whole.all = omega (arith, long) in
    let two : map view_linked c.insert.new.self.entries ≡ map view_linked es ++ record { name = name; object = length whole.all } ∷ [] =
    ap (λ xs. map view_linked xs) c.in_ok-insert.ensures.entries ∙ new_link es key n absent
    ∙ ap₂ (λ (k : List ℕ) (m : ℕ). map view_linked es ++ record { name = k; object = m } ∷ []) own number in
    ap₂ (λ (gs : List Callable) (ls : List Linked). record whole { all = gs; named = ls }) one two
    ∙ ap (λ (t : FunctionTable). with_callable t name (view_callable c.args.function)) c.self.view_is
