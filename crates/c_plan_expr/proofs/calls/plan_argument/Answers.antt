use Rattle.std.proofs.Common.{◌≡◌, [], drop, sym, ap, subst, rules, ◌∙◌}
use Rattle.std.proofs.lemmas.List.{drop_all}
use Rattle.core_tree.specs.Trees.{Arguments, no_argument, arguments_of}
use Rattle.c_tasks.specs.Items.{gathers}
use Rattle.c_tasks.specs.Tasks.{want_of}
use Rattle.c_tasks.specs.Plans.{PlansItem}
use Rattle.c_plan_expr.proofs.calls.plan_argument.Goals as goal

pub returns-in_default : goal.returns-in_default
returns-in_default c =
    let l = c.args.look.now in
    let w = want_of c.args.want in
    let P : Arguments → Type 0 = λ args. PlansItem l (gathers w c.args.function c.args.from args) c.plan_call.result in
    let past : drop c.args.from c.deref.result.now ≡ [] = search (rules, drop_all) in
    let none : drop c.args.from c.args.arguments.now.items ≡ [] = ap (drop c.args.from) (sym c.deref.ensures.value) ∙ past in
    subst P (sym (ap arguments_of none)) (c.plan_call.ensures (gathers w c.args.function c.args.from no_argument))
