use Rattle.std.proofs.Common.{◌≡◌, ℕ, true, sym, subst}
use Rattle.words.specs.declared.check.Class.TheVariants.{Unwind}
use Rattle.core_tree.specs.Trees.{view_statement}
use Rattle.c_tasks.specs.Items.{turns}
use Rattle.c_tasks.specs.Steps.{stops, move_turn}
use Rattle.c_tasks.specs.Tasks.{loop_in}
use Rattle.c_tasks.specs.Plans.{Plans, code_in, active_in, items_behind, values_on, structures_on}
use Rattle.c_plan_flow.proofs.plan_statements.plan_turn.Goals as goal

pub returns-then-rounds-eq0 : goal.returns-then-rounds-eq0
returns-then-rounds-eq0 c =
    let l = c.args.look.now in
    let loop = loop_in (view_statement c.args.statement.now) in
    let P : ℕ → Type 0 = λ n. Plans l (turns n loop) (move_turn (code_in l) l.first true n loop (items_behind l) (active_in l) (values_on l) (structures_on l) l.variables.now) c.plan_passed_bound.result in
    let Q : ℕ → Type 0 = λ line. Plans l (turns 0 loop) (stops (code_in l) l.first true Unwind line) c.plan_passed_bound.result in
    let zero_left : c.args.rounds ≡ 0 = c.if-rounds-eq0.true in
    subst P (sym zero_left) (subst Q c.line_of_loop.ensures (c.plan_passed_bound.ensures (turns 0 loop)))
