use Rattle.std.proofs.Common.{◌<◌, arith}
use Rattle.c_tasks.specs.Fits.{sizes_of}
use Rattle.c_tasks.specs.Plans.{file_in, items_behind, values_on, structures_on}
use Rattle.c_tasks.proofs.FitParts.{fills_begin}
use Rattle.c_plan_flow.proofs.block_items.plan_fill.Goals as goal

pub count_drawn-requires : goal.count_drawn-requires
count_drawn-requires c =
    let l = c.args.look.now in
    let positive : 0 < c.args.words = omega arith in
    fills_begin (file_in l) l.function (items_behind l) (values_on l) (sizes_of (structures_on l)) c.args.words c.args.line c.args.variable c.args.offset positive c.requires
