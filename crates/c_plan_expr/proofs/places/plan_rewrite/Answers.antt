use Rattle.core_tree.specs.Trees.{view_place}
use Rattle.c_tasks.specs.Fits.{sizes_of}
use Rattle.c_tasks.specs.Items.{rewrites}
use Rattle.c_tasks.specs.Plans.{file_in, items_behind, values_on, structures_on}
use Rattle.c_tasks.proofs.FitParts.{rewrites_place, rewrites_width}
use Rattle.c_plan_expr.proofs.places.plan_rewrite.Goals as goal

pub plan_write-requires-clause-wide : goal.plan_write-requires-clause-wide
plan_write-requires-clause-wide c =
    let l = c.args.look.now in
    rewrites_width (file_in l) l.function (items_behind l) (values_on l) (sizes_of (structures_on l)) c.args.line c.args.type_ (view_place c.args.place.now) c.args.at c.requires

pub plan_write-requires-clause-within : goal.plan_write-requires-clause-within
plan_write-requires-clause-within c =
    let l = c.args.look.now in
    rewrites_place (file_in l) l.function (items_behind l) (values_on l) (sizes_of (structures_on l)) c.args.line c.args.type_ (view_place c.args.place.now) c.args.at c.requires

pub returns : goal.returns
returns c = c.plan_write.ensures (rewrites c.args.line c.args.type_ (view_place c.args.place.now) c.args.at)
