use Rattle.std.proofs.Common.{◌≡◌, ◌+◌, drop, sym, subst, rules}
use Rattle.std.proofs.lemmas.List.{drop_more}
use Rattle.core_tree.specs.Trees.{Items, declares, initializes, initializes_structure, items_of, view, view_structure}
use Rattle.c_tasks.specs.Items.{enters}
use Rattle.c_tasks.specs.Plans.{PlansItem}
use Rattle.c_plan_flow.proofs.block_items.plan_entry.Goals as goal

pub returns-in-Declare : goal.returns-in-Declare
returns-in-Declare c =
    let is = c.args.items.now.items in
    let n = c.in-Declare in
    let more = items_of (drop (c.args.from + 1) is) in
    let split : items_of (drop c.args.from is) ≡ declares n.line n.variable more = search (rules, drop_more) in
    let P : Items → Type 0 = λ js. PlansItem c.args.look.now (enters js) c.draws.result in
    subst P (sym split) (c.draws.ensures (enters (declares n.line n.variable more)))

pub returns-in-Initialize : goal.returns-in-Initialize
returns-in-Initialize c =
    let is = c.args.items.now.items in
    let n = c.in-Initialize in
    let more = items_of (drop (c.args.from + 1) is) in
    let split : items_of (drop c.args.from is) ≡ initializes n.line n.variable n.drawn (view n.value.value) more = search (rules, drop_more) in
    let P : Items → Type 0 = λ js. PlansItem c.args.look.now (enters js) c.plan_made.result in
    subst P (sym split) (c.plan_made.ensures (enters (initializes n.line n.variable n.drawn (view n.value.value) more)))

pub returns-in-InitializeStructure : goal.returns-in-InitializeStructure
returns-in-InitializeStructure c =
    let is = c.args.items.now.items in
    let n = c.in-InitializeStructure in
    let more = items_of (drop (c.args.from + 1) is) in
    let split : items_of (drop c.args.from is) ≡ initializes_structure n.line n.variable n.drawn (view_structure n.value.value) more = search (rules, drop_more) in
    let P : Items → Type 0 = λ js. PlansItem c.args.look.now (enters js) c.plan_made-in-InitializeStructure.result in
    subst P (sym split) (c.plan_made-in-InitializeStructure.ensures (enters (initializes_structure n.line n.variable n.drawn (view_structure n.value.value) more)))
