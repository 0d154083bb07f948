use Rattle.std.proofs.Common.{ap, ◌∙◌, subst}
use Rattle.outside.specs.Sink.{appended}
use Rattle.cbmc_top.specs.Answers.{TookPart}
use Rattle.cbmc_top.proofs.Causes.{success_is, list_is, budget_is, spent_is, given_is, failure_is, complete_of, listed_of, limited_is, limited_of, refused_is, refused_of, usage_is, usage_of, fault_is}
use Rattle.cbmc_top.proofs.call.top.Goals as goal

pub returns-in-Ok-write_all-clause-success : goal.returns-in-Ok-write_all-clause-success
returns-in-Ok-write_all-clause-success g c = success_is c.one_command.ensures _ _ _ _ _ _ c.in-Ok.ensures.answered _ _ (c.in-Ok-write_all.ensures.whole ∙ ap (appended (g.K.Sink.taken c.args.out.now)) c.as_bytes.ensures.value)

pub returns-in-Ok-write_all-clause-properties : goal.returns-in-Ok-write_all-clause-properties
returns-in-Ok-write_all-clause-properties g c = list_is c.one_command.ensures _ _ _ _ _ _ c.in-Ok.ensures.answered _ _ (c.in-Ok-write_all.ensures.whole ∙ ap (appended (g.K.Sink.taken c.args.out.now)) c.as_bytes.ensures.value)

pub returns-in-Ok-write_all-clause-listed : goal.returns-in-Ok-write_all-clause-listed
returns-in-Ok-write_all-clause-listed g c = λ asked bytes core is list held x read_fault write_fault.
    listed_of c.listing_answers.ensures c.one_command.ensures _ _ _ _ _ _ c.in-Ok.ensures.answered asked bytes core is list held x read_fault

pub returns-in-Ok-write_all-clause-budget_used : goal.returns-in-Ok-write_all-clause-budget_used
returns-in-Ok-write_all-clause-budget_used g c = budget_is c.one_command.ensures _ _ _ _ _ _ c.in-Ok.ensures.answered _ _ (c.in-Ok-write_all.ensures.whole ∙ ap (appended (g.K.Sink.taken c.args.out.now)) c.as_bytes.ensures.value)

pub returns-in-Ok-write_all-clause-budget_only : goal.returns-in-Ok-write_all-clause-budget_only
returns-in-Ok-write_all-clause-budget_only g c = spent_is c.one_command.ensures _ _ _ _ _ _ c.in-Ok.ensures.answered

pub returns-in-Ok-write_all-clause-spent : goal.returns-in-Ok-write_all-clause-spent
returns-in-Ok-write_all-clause-spent g c = given_is c.one_command.ensures _ _ _ _ _ _ c.in-Ok.ensures.answered

pub returns-in-Ok-write_all-clause-failure : goal.returns-in-Ok-write_all-clause-failure
returns-in-Ok-write_all-clause-failure g c = failure_is c.one_command.ensures _ _ _ _ _ _ c.in-Ok.ensures.answered _ _ (c.in-Ok-write_all.ensures.whole ∙ ap (appended (g.K.Sink.taken c.args.out.now)) c.as_bytes.ensures.value)

pub returns-in-Ok-write_all-clause-complete : goal.returns-in-Ok-write_all-clause-complete
returns-in-Ok-write_all-clause-complete g c = λ asked bytes core is check held x read_fault write_fault.
    complete_of c.runs_answer.ensures c.one_command.ensures _ _ _ _ _ _ c.in-Ok.ensures.answered asked bytes core is check held x read_fault

pub returns-in-Ok-write_all-clause-limited : goal.returns-in-Ok-write_all-clause-limited
returns-in-Ok-write_all-clause-limited g c = limited_is c.one_command.ensures _ _ _ _ _ _ c.in-Ok.ensures.answered _ _ (c.in-Ok-write_all.ensures.whole ∙ ap (appended (g.K.Sink.taken c.args.out.now)) c.as_bytes.ensures.value)

pub returns-in-Ok-write_all-clause-limited_only : goal.returns-in-Ok-write_all-clause-limited_only
returns-in-Ok-write_all-clause-limited_only g c = limited_of c.one_answer.ensures c.one_command.ensures _ _ _ _ _ _ c.in-Ok.ensures.answered

pub returns-in-Ok-write_all-clause-refused : goal.returns-in-Ok-write_all-clause-refused
returns-in-Ok-write_all-clause-refused g c = refused_is c.one_command.ensures _ _ _ _ _ _ c.in-Ok.ensures.answered _ _ (c.in-Ok-write_all.ensures.whole ∙ ap (appended (g.K.Sink.taken c.args.out.now)) c.as_bytes.ensures.value)

pub returns-in-Ok-write_all-clause-refused_only : goal.returns-in-Ok-write_all-clause-refused_only
returns-in-Ok-write_all-clause-refused_only g c = refused_of c.one_answer.ensures c.one_command.ensures _ _ _ _ _ _ c.in-Ok.ensures.answered

pub returns-in-Ok-write_all-clause-usage : goal.returns-in-Ok-write_all-clause-usage
returns-in-Ok-write_all-clause-usage g c = usage_is _ _ _ _ _ _ c.in-Ok.ensures.answered

pub returns-in-Ok-write_all-clause-usage_only : goal.returns-in-Ok-write_all-clause-usage_only
returns-in-Ok-write_all-clause-usage_only g c = usage_of _ _ _ _ _ _ c.in-Ok.ensures.answered

pub returns-in-Ok-write_all-clause-read_fault : goal.returns-in-Ok-write_all-clause-read_fault
returns-in-Ok-write_all-clause-read_fault g c = fault_is _ _ _ _ _ _ c.in-Ok.ensures.answered

pub returns-in-Err-write_all-clause-write_fault : goal.returns-in-Err-write_all-clause-write_fault
returns-in-Err-write_all-clause-write_fault g c = λ e.
    let r = c.in-Ok.ensures.answered in (
      c.in-Err-write_all.ensures.fault,
      (
        r.answer,
        c.in-Ok.report.text,
        r.answered,
        subst (TookPart (g.K.Sink.taken c.args.out.now) (g.K.Sink.taken c.write_all.new.out)) c.as_bytes.ensures.value c.in-Err-write_all.ensures.part,
      ),
    )
