use Rattle.std.proofs.Common.{◌≡◌, ℕ, ℤ, pos, true, ◌∷◌, subst, arith}
use Rattle.std.specs.Int.{w64, cast_signed}
use Rattle.std.proofs.lemmas.Int.{ints}
use Rattle.c_types.specs.declared.integers.IntegerType.TheVariants.{UnsignedLong}
use Rattle.core_tree.specs.Operations.{number}
use Rattle.c_values.specs.Numbers.{TypedNumber, typed}
use Rattle.c_tasks.specs.Items.{rest, index, state, elements}
use Rattle.c_tasks.specs.Steps.{move_pointer}
use Rattle.c_tasks.specs.Plans.{Plans, code_in, active_in, items_behind, values_on, structures_on}
use Rattle.c_plan_expr.proofs.pointers.plan_element.Goals as goal

pub returns : goal.returns
returns c =
    let l = c.args.look.now in
    let xs = values_on l in
    let s = c.args.swapped in
    let i = elements c.args.line c.args.size c.args.whole s in
    let P : ℕ → TypedNumber → ℤ → Type 0 =
    λ at n step. Plans l i (move_pointer (code_in l) l.first true true at c.args.whole (number n.type n.bits) step c.args.line (λ q. state (items_behind l) (active_in l) (typed UnsignedLong q ∷ rest (rest xs)) (structures_on l) l.variables.now)) c.plan_moved.result in
    let step : cast_signed w64 c.args.size ≡ pos c.args.size = omega (arith, ints) in
    let first : P c.base_bits-at.result c.index_of-index.result (pos c.args.size) = subst (λ z. P c.base_bits-at.result c.index_of-index.result z) step (c.plan_moved.ensures i) in
    let second : P c.base_bits-at.result (index s xs) (pos c.args.size) = subst (λ n. P c.base_bits-at.result n (pos c.args.size)) c.index_of-index.ensures first in
    subst (λ at. P at (index s xs) (pos c.args.size)) c.base_bits-at.ensures second
