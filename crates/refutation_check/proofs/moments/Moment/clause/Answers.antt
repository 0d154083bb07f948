use Rattle.std.proofs.Common.{sym, ◌∙◌, arith}
use Rattle.std.proofs.lemmas.Option.{slice_get-get_or}
use Rattle.refutation_check.specs.Moments.{entries_before}
use Rattle.refutation_check.proofs.Lookups.{live_clause-gone, live_clause-form, live_clause-added, live_clause-past}
use Rattle.refutation_check.proofs.moments.Moment.clause.Goals as goal

pub returns-then-is_deleted : goal.returns-then-is_deleted
returns-then-is_deleted c =
    sym (live_clause-gone c.args.self.now.clauses.now (entries_before c.args.self.now) c.args.number (sym c.is_deleted.ensures ∙ c.if-is_deleted.true))

pub returns-then-number-self : goal.returns-then-number-self
returns-then-number-self c =
    sym (live_clause-form c.args.self.now.clauses.now (entries_before c.args.self.now) c.args.number (sym c.is_deleted.ensures ∙ c.if-is_deleted.false) c.if-number-self.true
    ∙ slice_get-get_or c.args.self.now.clauses.now c.args.number c.index-self-number.result c.if-number-self.true)

pub returns-then-index-self : goal.returns-then-index-self
returns-then-index-self c =
    c.added.ensures
    ∙ sym (live_clause-added c.args.self.now.clauses.now c.args.self.now.log.now c.args.self.now.place c.args.number (sym c.is_deleted.ensures ∙ c.if-is_deleted.false) c.if-number-self.false
    (omega arith))

pub returns-else-index-self : goal.returns-else-index-self
returns-else-index-self c =
    sym (live_clause-past c.args.self.now.clauses.now (entries_before c.args.self.now) c.args.number (sym c.is_deleted.ensures ∙ c.if-is_deleted.false) c.if-number-self.false (omega arith))
