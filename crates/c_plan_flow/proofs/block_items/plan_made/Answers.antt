use Rattle.std.proofs.Common.{Bool, true, sym, subst}
use Rattle.core_tree.specs.Trees.{items_of}
use Rattle.std.specs.Prelude.{drop}
use Rattle.c_tasks.specs.Steps.{makes_variable}
use Rattle.c_tasks.specs.Plans.{Plans, code_in, active_in, items_behind, values_on, structures_on}
use Rattle.c_plan_flow.proofs.block_items.plan_made.Goals as goal

pub returns-then-drawn : goal.returns-then-drawn
returns-then-drawn c = λ i.
    let l = c.args.look.now in
    let more = items_of (drop c.args.from c.args.items.now.items) in
    let P : Bool → Type 0 = λ b. Plans l i (makes_variable (code_in l) l.first true b c.args.line c.args.variable more (items_behind l) (active_in l) (values_on l) (structures_on l) l.variables.now) c.draws.result in
    subst P (sym c.if-drawn.true) (c.draws.ensures i)

pub returns-else-drawn : goal.returns-else-drawn
returns-else-drawn c = λ i.
    let l = c.args.look.now in
    let more = items_of (drop c.args.from c.args.items.now.items) in
    let P : Bool → Type 0 = λ b. Plans l i (makes_variable (code_in l) l.first true b c.args.line c.args.variable more (items_behind l) (active_in l) (values_on l) (structures_on l) l.variables.now) c.clears.result in
    subst P (sym c.if-drawn.false) (c.clears.ensures i)
