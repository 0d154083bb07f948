use Rattle.std.proofs.Common.{◌≡◌, ◌==◌, ℕ, Bool, true, slice_get, slice_index, if◌then◌else◌, sym, ap, subst, ◌∙◌}
use Rattle.std.specs.Prelude.{drop}
use Rattle.words.specs.declared.check.Class.TheVariants.{Recursion}
use Rattle.c_meaning.specs.Meaning.{sizes_of, body_of, variables_of}
use Rattle.c_tasks.specs.Items.{blocks_on, line_of}
use Rattle.c_tasks.specs.Steps.{stops, move_body}
use Rattle.c_tasks.specs.Tasks.{want_of}
use Rattle.c_tasks.specs.Plans.{Plans, file_in, code_in, active_in, items_behind, values_on, structures_on}
use Rattle.c_plan_expr.proofs.calls.plan_call.Goals as goal

pub returns-then-left_of-eq0 : goal.returns-then-left_of-eq0
returns-then-left_of-eq0 c = λ i.
    let l = c.args.look.now in
    let w = want_of c.args.want in
    let f = slice_get (file_in l).functions c.args.function in
    let P : Bool → Type 0 = λ b. Plans l i (if b then stops (code_in l) l.first true Recursion (line_of w)
    else move_body (code_in l) l.first true w c.args.function (blocks_on c.args.count (structures_on l)) (sizes_of (variables_of f)) (body_of f) (items_behind l) (active_in l) (values_on l) (drop c.args.count (structures_on l)) l.variables.now) c.plan_passed_bound.result in
    let Q : ℕ → Type 0 = λ line. Plans l i (stops (code_in l) l.first true Recursion line) c.plan_passed_bound.result in
    let none : (slice_index l.left.now c.args.function == 0) ≡ true = ap (λ n. n == 0) (sym c.left_of.ensures ∙ c.if-left_of-eq0.true) in
    subst P (sym none) (subst Q c.line_of.ensures (c.plan_passed_bound.ensures i))
