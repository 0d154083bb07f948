use Rattle.std.proofs.Common.{ap, subst, ◌∙◌}
use Rattle.core_tree.specs.declared.expression.CoreExpr.{CoreExpr}
use Rattle.core_tree.specs.Trees.{view}
use Rattle.c_values.specs.Numbers.{TypedNumber}
use Rattle.c_tasks.specs.Items.{second}
use Rattle.c_values.specs.Numbers.{are_operands_of}
use Rattle.c_tasks.specs.Tasks.{finish_of}
use Rattle.c_tasks.specs.Fits.{sizes_of}
use Rattle.c_tasks.specs.Plans.{FitsIn, file_in, items_behind, values_on, structures_on}
use Rattle.c_tasks.proofs.FitParts.{operates_fit}
use Rattle.c_plan_expr.proofs.plan_expressions.plan_finish.Goals as goal

pub operate-requires : goal.operate-requires
operate-requires c =
    let l = c.args.look.now in
    let n = c.in-Arithmetic in
    let P : CoreExpr → Type 0 = λ e. FitsIn l (finish_of (view e)) in
    let fit = operates_fit (file_in l) l.function (items_behind l) (values_on l) (sizes_of (structures_on l)) n.line n.operator (subst P n.is c.requires) in
    ap (λ (x : TypedNumber). are_operands_of n.operator x.type c.top_of-x.result.type) c.second_of.ensures
    ∙ ap (λ (y : TypedNumber). are_operands_of n.operator (second (values_on l)).type y.type) c.top_of-x.ensures ∙ fit
