use Rattle.std.proofs.Common.{ap, ◌∙◌}
use Rattle.c_types.specs.declared.integers.IntegerType.{IntegerType}
use Rattle.c_types.specs.Integers.{width}
use Rattle.core_tree.specs.Trees.{view_place}
use Rattle.c_values.specs.Numbers.{TypedNumber, are_operands_of}
use Rattle.c_tasks.specs.Fits.{sizes_of}
use Rattle.c_tasks.specs.Plans.{file_in, items_behind, values_on, structures_on}
use Rattle.c_tasks.proofs.FitParts.{increments_fit, increments_width}
use Rattle.c_plan_expr.proofs.places.plan_increment.Goals as goal

pub retyped-requires : goal.retyped-requires
retyped-requires c =
    let l = c.args.look.now in
    let fit = increments_width (file_in l) l.function (items_behind l) (values_on l) (sizes_of (structures_on l)) c.args.line c.args.type_ (view_place c.args.place.now) c.args.operator c.args.before c.args.at c.requires in
    ap (λ (x : TypedNumber). width x.type) c.top_of.ensures ∙ fit

pub operate-requires : goal.operate-requires
operate-requires c =
    let l = c.args.look.now in
    let op = c.args.operator in
    let fit = increments_fit (file_in l) l.function (items_behind l) (values_on l) (sizes_of (structures_on l)) c.args.line c.args.type_ (view_place c.args.place.now) op c.args.before c.args.at c.requires in
    ap (λ (x : TypedNumber). are_operands_of op x.type c.new.result.type) c.converted-old.ensures
    ∙ ap (λ (y : TypedNumber). are_operands_of op c.promote-promoted.result y.type) c.new.ensures.value
    ∙ ap (λ (t : IntegerType). are_operands_of op t t) c.promote-promoted.ensures ∙ fit
