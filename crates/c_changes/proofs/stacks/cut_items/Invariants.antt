use Rattle.std.proofs.Common.{◌≡◌, ◌≤◌, ◌-◌, ℕ, List, length}
use Rattle.std.specs.Prelude.{vec_len, vec_capacity}
use Rattle.c_values.specs.Numbers.{TypedNumber}
use Rattle.c_values.specs.Variables.{Variables}
use Rattle.c_tasks.specs.Items.{Active}
use Rattle.c_tasks.specs.Steps.{out_of}
use Rattle.c_tasks.specs.Tasks.{items_in, way_of}
use Rattle.c_changes.proofs.stacks.cut_items.Given as goal

-- the way leads from the tasks that are left to where it leads from all, and there is room for two in the place of two
abbrev pub invariant-loop-task : goal.invariant-loop-task
invariant-loop-task l =
    ((r : Active) (xs : List TypedNumber) (bs : List (List ℕ)) (vs : Variables) → out_of (way_of l.cut) (items_in l.initial.tasks.items) r xs bs vs ≡ out_of (way_of l.cut) (items_in l.tasks.items) r xs bs vs)
    × (vec_len l.tasks ≤ vec_capacity l.tasks - 1)

abbrev pub decreases-loop-task : goal.decreases-loop-task
decreases-loop-task l = length l.tasks.items
