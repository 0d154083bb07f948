use Rattle.cdcl_core.proofs.Sparing.{spare_from, satisfied_fewer}
use Rattle.cdcl_core.proofs.search.Search.spare.Goals as goal

pub returns-clause-spare : goal.returns-clause-spare
returns-clause-spare c =
    spare_from c.args.self.now.trail.steps c.args.self.now.clauses c.keep_reasons.new.marks.items c.requires.held.justified c.requires.start c.keep_reasons.ensures.reasons
    (satisfied_fewer c.args.self.now.trail.steps c.args.self.now.clauses c.in_ok-marks.marks.items c.keep_reasons.new.marks.items c.keep_reasons.ensures.off c.in_ok-marks.ensures.true_)
