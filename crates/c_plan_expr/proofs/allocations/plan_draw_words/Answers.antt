use Rattle.std.proofs.Common.{◌<◌, arith}
use Rattle.c_tasks.specs.Plans.{file_in, items_behind, values_on, structures_on}
use Rattle.c_tasks.proofs.FitParts.{draws_begin}
use Rattle.c_plan_expr.proofs.allocations.plan_draw_words.Goals as goal

pub count_more-requires : goal.count_more-requires
count_more-requires c =
    let l = c.args.look.now in
    let positive : 0 < c.args.words = omega arith in
    draws_begin (file_in l) l.function (items_behind l) (values_on l) (structures_on l) c.args.words c.args.size c.args.line positive c.requires
