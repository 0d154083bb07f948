use Rattle.std.proofs.Common.{ℕ, true, ◌∷◌, subst}
use Rattle.core_tree.specs.Trees.{view_place}
use Rattle.c_values.specs.Numbers.{typed}
use Rattle.c_tasks.specs.Items.{rest, state, steps, increments}
use Rattle.c_tasks.specs.Steps.{move_read}
use Rattle.c_tasks.specs.Plans.{Plans, code_in, active_in, items_behind, values_on, structures_on}
use Rattle.c_plan_expr.proofs.places.plan_step.Goals as goal

pub returns : goal.returns
returns c =
    let l = c.args.look.now in
    let xs = values_on l in
    let t = c.args.type_ in
    let p = view_place c.args.place.now in
    let i = steps c.args.line t p c.args.operator c.args.before in
    let P : ℕ → Type 0 =
    λ at. Plans l i (move_read (code_in l) l.first true t p at (active_in l) l.variables.now (λ x. state (increments c.args.line t p c.args.operator c.args.before at ∷ items_behind l) (active_in l) (typed t x ∷ rest xs) (structures_on l) l.variables.now)) c.plan_read.result in
    subst P c.top_bits-at.ensures (c.plan_read.ensures i)
