use Rattle.std.proofs.Common.{◌≡◌, ℕ, ℤ, true, List, ◌∷◌, w64, to_z, of_z, ap, subst, ◌∙◌}
use Rattle.std.proofs.lemmas.Int.{to_z-of_z}
use Rattle.c_types.specs.declared.integers.IntegerType.TheVariants.{UnsignedLong}
use Rattle.core_tree.specs.Operations.{number}
use Rattle.c_values.specs.Numbers.{TypedNumber, typed}
use Rattle.c_tasks.specs.Items.{top, rest, base, index, state, lands}
use Rattle.c_tasks.specs.Steps.{move_pointer}
use Rattle.c_tasks.specs.Plans.{Plans, code_in, active_in, items_behind, values_on, structures_on}
use Rattle.c_plan_expr.proofs.pointers.plan_land.Goals as goal

pub returns : goal.returns
returns c =
    let l = c.args.look.now in
    let xs = values_on l in
    let s = c.args.swapped in
    let i = lands c.args.line c.args.step c.args.element s in
    let P : ℤ → ℕ → ℕ → TypedNumber → Type 0 =
    λ step at size n. Plans l i (move_pointer (code_in l) l.first true c.args.element at size (number n.type n.bits) step c.args.line (λ q. state (items_behind l) (active_in l) (typed UnsignedLong q ∷ rest (rest (rest xs))) (structures_on l) l.variables.now)) c.plan_moved.result in
    let at : c.base_bits-at.result ≡ (base s (rest xs)).bits = c.base_bits-at.ensures ∙ ap (λ (ys : List TypedNumber). (base s ys).bits) c.below_top-numbers.ensures in
    let n : c.index_of-index.result ≡ index s (rest xs) = c.index_of-index.ensures ∙ ap (λ (ys : List TypedNumber). index s ys) c.below_top-numbers.ensures in
    let step = c.args.step in
    let passed : to_z w64 (of_z w64 step) ≡ step = to_z-of_z w64 step c.ranges.step in
    let start : P step c.base_bits-at.result c.top_bits.result c.index_of-index.result = subst (λ z. P z c.base_bits-at.result c.top_bits.result c.index_of-index.result) passed (c.plan_moved.ensures i) in
    let first : P step c.base_bits-at.result c.top_bits.result (index s (rest xs)) = subst (λ n. P step c.base_bits-at.result c.top_bits.result n) n start in
    let second : P step c.base_bits-at.result (top xs).bits (index s (rest xs)) = subst (λ size. P step c.base_bits-at.result size (index s (rest xs))) c.top_bits.ensures first in
    subst (λ at. P step at (top xs).bits (index s (rest xs))) at second
