use Rattle.std.proofs.Common.{refl}
use Rattle.cdcl_core.proofs.Ongoing.{rest_from}
use Rattle.cdcl_core.proofs.segments.spare_here.Goals as goal

pub returns-then-is_worth : goal.returns-then-is_worth
returns-then-is_worth c = λ form ready.
    let may = c.if-not-may_pause.ensures refl in
    rest_from form c.args.first c.args.budget c.args.search.now c.in_ok-spare.spare.items may.1 may.2 c.in_ok-spare.ensures.count c.in_ok-spare.ensures.spare c.in_ok-spare.ensures.stay ready
