use Rattle.std.proofs.Common.{List, map, ap, ◌∙◌}
use Rattle.std.specs.Prelude.{slice_set}
use Rattle.std.proofs.lemmas.List.{map-set}
use Rattle.c_scope.specs.Scopes.{Callable, FunctionTable, view_callable, view_function_type, view_linked}
use Rattle.c_scope.proofs.functions.Functions.set.Goals as goal

pub returns : goal.returns
returns c =
    let inside = c.self.inside in
    let i = c.args.number in
    let f = view_callable c.args.function in
    let whole : FunctionTable = record { all = map view_callable inside.all.items; named = map view_linked inside.named.entries; types = map view_function_type inside.types.items; defined = map (λ n. n.items) inside.defined.keys } in
    ap (λ (fs : List Callable). record whole { all = fs }) (map-set view_callable inside.all.items i c.args.function)
    ∙ ap (λ (t : FunctionTable). record t { all = slice_set t.all i f }) c.self.view_is
