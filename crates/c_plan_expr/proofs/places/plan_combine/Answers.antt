use Rattle.std.proofs.Common.{ap, ◌∙◌}
use Rattle.c_types.specs.Integers.{width}
use Rattle.core_tree.specs.Trees.{view_place}
use Rattle.c_values.specs.Numbers.{TypedNumber, are_operands_of}
use Rattle.c_tasks.specs.Fits.{sizes_of}
use Rattle.c_tasks.specs.Plans.{file_in, items_behind, values_on, structures_on}
use Rattle.c_tasks.proofs.FitParts.{combines_fit, combines_width}
use Rattle.c_plan_expr.proofs.places.plan_combine.Goals as goal

pub retyped-requires : goal.retyped-requires
retyped-requires c =
    let l = c.args.look.now in
    let fit = combines_width (file_in l) l.function (items_behind l) (values_on l) (sizes_of (structures_on l)) c.args.line c.args.type_ (view_place c.args.place.now) c.args.operator c.args.operand c.requires in
    ap (λ (x : TypedNumber). width x.type) c.top_of.ensures ∙ fit

pub operate-requires : goal.operate-requires
operate-requires c =
    let l = c.args.look.now in
    let fit = combines_fit (file_in l) l.function (items_behind l) (values_on l) (sizes_of (structures_on l)) c.args.line c.args.type_ (view_place c.args.place.now) c.args.operator c.args.operand c.requires in
    ap (λ (x : TypedNumber). are_operands_of c.args.operator x.type c.second_of.result.type) c.converted-old.ensures
    ∙ ap (λ (y : TypedNumber). are_operands_of c.args.operator c.args.operand y.type) c.second_of.ensures ∙ fit
