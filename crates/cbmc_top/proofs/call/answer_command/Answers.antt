use Rattle.std.proofs.Common.{◌≡◌, ◌≢◌, ℕ, List, Option, Some, None, Err, ◌≤◌, length, subst, sym, ap, refl, ◌∙◌}
use Rattle.outside.specs.Count.{Rose}
use Rattle.options.specs.Command.{asked_of}
use Rattle.run_search.specs.Answers.{read_fault}
use Rattle.cbmc_top.specs.Command.{file_read}
use Rattle.cbmc_top.specs.declared.reporting.Report.{Report}
use Rattle.cbmc_top.specs.Reports.{IsReported}
use Rattle.cbmc_top.proofs.Results.{ok_map}
use Rattle.cbmc_top.proofs.Answering.{report_on, fault_answered, file_there, given_few}
use Rattle.cbmc_top.proofs.call.answer_command.Goals as goal

pub returns-in-Ok-clause-answered : goal.returns-in-Ok-clause-answered
returns-in-Ok-clause-answered g c =
    let asked = asked_of c.args.options.now in
    let bytes = c.in-Ok.bytes.items in
    ok_map c.report_bytes.result _ _ c.report_bytes.ensures (λ (r : Report) x.
    report_on asked (g.S.Source.holds c.args.files.now) _ bytes r.status r.text r.spent c.in-Ok.ensures.bytes
    (subst (λ b. IsReported asked b r.status r.text r.spent) c.deref.ensures.value x))

pub returns-in_ok-text-in-Err-Failed-clause-answered : goal.returns-in_ok-text-in-Err-Failed-clause-answered
returns-in_ok-text-in-Err-Failed-clause-answered g c =
    let asked = asked_of c.args.options.now in
    let failed = ap Err c.in-Err-Failed.field-0-is in
    let file = file_there asked (file_read asked) refl (c.in-Err-Failed.ensures.failed failed) in
    record {
      answer = read_fault;
      answered = fault_answered asked (g.S.Source.holds c.args.files.now) _ file.0 file.1 ((c.in-Err-Failed.ensures.cause file.0 file.1).rose failed);
      status_is = ap (λ (r : Report). r.status) c.plain.ensures;
      text_is = ap (λ (r : Report). r.text) c.plain.ensures ∙ c.from_string.ensures ∙ c.in_ok-text-in-Err-Failed.ensures.ok;
      spent_is = ap (λ (r : Report). r.spent) c.plain.ensures;
    }

pub report_bytes-requires-clause-few : goal.report_bytes-requires-clause-few
report_bytes-requires-clause-few g c =
    subst (λ b. length b ≤ 1048577) (sym c.deref.ensures.value)
    (given_few (asked_of c.args.options.now) (g.S.Source.holds c.args.files.now) c.in-Ok.bytes.items c.args.options.now.generated c.in-Ok.ensures.bytes)
