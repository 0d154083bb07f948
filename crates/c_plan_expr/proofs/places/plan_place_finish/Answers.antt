use Rattle.std.proofs.Common.{pos, sym, subst}
use Rattle.core_tree.specs.declared.expression.Place.{Place}
use Rattle.core_tree.specs.Trees.{view_place}
use Rattle.c_tasks.specs.Tasks.{place_finish}
use Rattle.c_tasks.specs.Plans.{PlansItem}
use Rattle.c_plan_expr.proofs.places.plan_place_finish.Goals as goal

pub returns-in-Subscript : goal.returns-in-Subscript
returns-in-Subscript c =
    subst (λ (p : Place). PlansItem c.args.look.now (place_finish (view_place p)) c.plan_look.result) (sym c.in-Subscript.is) (c.plan_look.ensures (pos c.in-Subscript.size))
