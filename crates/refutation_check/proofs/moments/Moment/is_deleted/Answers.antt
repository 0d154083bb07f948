use Rattle.std.proofs.Common.{sym, ap, ◌∙◌}
use Rattle.sat_form.proofs.Databases.{is_below}
use Rattle.refutation_check.proofs.Lookups.{is_among-at}
use Rattle.refutation_check.proofs.moments.Moment.is_deleted.Goals as goal

pub returns-in-Some : goal.returns-in-Some
returns-in-Some c =
    ap (is_below c.args.self.now.place) (sym c.in-Some.is) ∙ is_among-at c.args.self.now.log.now c.args.self.now.place c.args.number c.deletion_of.result c.deletion_of.ensures

pub returns-in-None : goal.returns-in-None
returns-in-None c =
    ap (is_below c.args.self.now.place) (sym c.in-None.is) ∙ is_among-at c.args.self.now.log.now c.args.self.now.place c.args.number c.deletion_of.result c.deletion_of.ensures
