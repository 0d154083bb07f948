use Rattle.c_pre.specs.Views.{macros_in}
use Rattle.c_pre.specs.Known.{fates_in}
use Rattle.c_pre.proofs.Told.{all_below, below_kept, tokens_kept}
use Rattle.c_pre.proofs.planning.plan_all.Goals as goal

pub finish-requires-clause-told : goal.finish-requires-clause-told
finish-requires-clause-told c =
    let macros = macros_in c.args.macros.now.entries in
    let before = c.args.known.now in
    let after = c.plan_text.new.known in
    let learns = c.in_ok-plan_text.ensures.learns in
    below_kept macros (fates_in before.fates.entries) (fates_in after.fates.entries) before.used.keys after.used.keys c.len-met.result learns.kept learns.met
    (all_below macros (fates_in before.fates.entries) before.used.keys c.len-met.result c.len-met.ensures.len c.requires.suffices.told)

pub returns-clause-told : goal.returns-clause-told
returns-clause-told c =
    tokens_kept c.args.bytes.now (macros_in c.args.macros.now.entries) (fates_in c.plan_text.new.known.fates.entries) (fates_in c.finish.new.known.fates.entries) c.in_ok-finish.ensures.learns.kept c.args.text.now c.in_ok-plan_text.ensures.told
