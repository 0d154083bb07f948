use Rattle.std.proofs.Common.{ap, arith}
use Rattle.c_tree.specs.declared.statement.External.{External}
use Rattle.c_tree.specs.Statements.{file_depth, view_external, no_more}
use Rattle.c_tree.proofs.StatementViews.{external_within, external_more}
use Rattle.c_tree.proofs.file_levels.externals_depth.Goals as goal

pub external_depth-requires : goal.external_depth-requires
external_depth-requires c =
    let below = external_within c.args.externals.now c.loop-external.external-index c.external-item.result (omega arith) in
    let e = ap (λ (d : External). file_depth (view_external d no_more)) c.external-item.is in
    omega (arith, below, e)

pub loop-external-preserved : goal.loop-external-preserved
loop-external-preserved c =
    let one = external_more c.args.externals.now c.loop-external.external-index c.external-item.result (omega arith) in
    let e = ap (λ (d : External). file_depth (view_external d no_more)) c.external-item.is in
    omega (arith, one, e)
