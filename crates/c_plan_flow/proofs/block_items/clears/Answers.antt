use Rattle.std.proofs.Common.{◌≡◌, List, ◌∷◌, ap, sym, ◌∙◌}
use Rattle.std.specs.Prelude.{drop, slice_get}
use Rattle.core_tree.specs.Trees.{items_of}
use Rattle.c_values.specs.Variables.{cleared}
use Rattle.c_meaning.specs.Meaning.{size_in_list}
use Rattle.c_tasks.specs.Items.{Item, settles, enters, state}
use Rattle.c_tasks.specs.Steps.{silent}
use Rattle.c_tasks.specs.Fits.{declared_at}
use Rattle.c_tasks.specs.Plans.{file_in, active_in, items_behind, values_on, structures_on}
use Rattle.c_tasks.proofs.Places.{size_listed}
use Rattle.c_plan_flow.proofs.block_items.clears.Goals as goal

pub returns : goal.returns
returns c = λ i.
    let l = c.args.look.now in
    let vs = declared_at (file_in l) l.function in
    let v = c.args.variable in
    let is : List Item = settles c.args.line v ∷ enters (items_of (drop c.args.from c.args.items.now.items)) ∷ items_behind l in
    let size : c.size_of_variable-size.result ≡ size_in_list (slice_get vs v) = c.size_of_variable-size.ensures in
    (ap (λ n. silent (state is (active_in l) (values_on l) (structures_on l) (cleared l.variables.now v n))) (sym size), (tt, size ∙ size_listed vs v))
