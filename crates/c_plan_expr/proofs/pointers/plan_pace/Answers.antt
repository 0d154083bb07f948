use Rattle.std.proofs.Common.{◌≡◌, ℕ, ℤ, true, ◌∷◌, w64, to_z, of_z, subst}
use Rattle.std.proofs.lemmas.Int.{to_z-of_z}
use Rattle.core_tree.specs.Trees.{view_place}
use Rattle.c_types.specs.declared.integers.IntegerType.TheVariants.{UnsignedLong}
use Rattle.c_values.specs.Numbers.{typed}
use Rattle.c_tasks.specs.Items.{rest, state, paces, advances}
use Rattle.c_tasks.specs.Steps.{move_read}
use Rattle.c_tasks.specs.Plans.{Plans, code_in, active_in, items_behind, values_on, structures_on}
use Rattle.c_plan_expr.proofs.pointers.plan_pace.Goals as goal

pub returns : goal.returns
returns c =
    let l = c.args.look.now in
    let xs = values_on l in
    let t = UnsignedLong in
    let p = view_place c.args.place.now in
    let i = paces c.args.line p c.args.step c.args.before in
    let P : ℤ → ℕ → Type 0 =
    λ step at. Plans l i (move_read (code_in l) l.first true t p at (active_in l) l.variables.now (λ x. state (advances c.args.line p step c.args.before at ∷ items_behind l) (active_in l) (typed t x ∷ rest xs) (structures_on l) l.variables.now)) c.plan_read.result in
    let passed : to_z w64 (of_z w64 c.args.step) ≡ c.args.step = to_z-of_z w64 c.args.step c.ranges.step in
    subst (P c.args.step) c.top_bits-at.ensures (subst (λ z. P z c.top_bits-at.result) passed (c.plan_read.ensures i))
