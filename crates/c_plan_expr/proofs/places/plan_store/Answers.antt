use Rattle.std.proofs.Common.{ℕ, true, ◌∷◌, subst}
use Rattle.core_tree.specs.Trees.{view_place}
use Rattle.c_values.specs.Numbers.{typed}
use Rattle.c_tasks.specs.Fits.{sizes_of}
use Rattle.c_tasks.specs.Items.{top, rest, state, stores}
use Rattle.c_tasks.specs.Steps.{move_write}
use Rattle.c_tasks.specs.Plans.{Plans, file_in, code_in, active_in, items_behind, values_on, structures_on}
use Rattle.c_tasks.proofs.FitParts.{stores_place, stores_width}
use Rattle.c_plan_expr.proofs.places.plan_store.Goals as goal

pub plan_write-requires-clause-wide : goal.plan_write-requires-clause-wide
plan_write-requires-clause-wide c =
    let l = c.args.look.now in
    stores_width (file_in l) l.function (items_behind l) (values_on l) (sizes_of (structures_on l)) c.args.line c.args.type_ (view_place c.args.place.now) c.requires

pub plan_write-requires-clause-within : goal.plan_write-requires-clause-within
plan_write-requires-clause-within c =
    let l = c.args.look.now in
    stores_place (file_in l) l.function (items_behind l) (values_on l) (sizes_of (structures_on l)) c.args.line c.args.type_ (view_place c.args.place.now) c.requires

pub returns : goal.returns
returns c =
    let l = c.args.look.now in
    let xs = values_on l in
    let t = c.args.type_ in
    let p = view_place c.args.place.now in
    let i = stores c.args.line t p in
    let P : ℕ → Type 0 =
    λ at. Plans l i (move_write (code_in l) l.first true t p at c.args.line (top xs).bits (active_in l) l.variables.now (λ now. state (items_behind l) (active_in l) (typed t (top xs).bits ∷ rest (rest xs)) (structures_on l) now)) c.plan_write.result in
    subst P c.second_bits-at.ensures (c.plan_write.ensures i)
