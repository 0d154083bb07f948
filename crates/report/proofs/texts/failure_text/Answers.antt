use Rattle.std.proofs.Common.{[], ◌∷◌, ◌++◌, ap, ◌∙◌}
use Rattle.std.specs.List.{flat_map}
use Rattle.std.specs.Prelude.{codes}
use Rattle.report.specs.Heads.{head_of}
use Rattle.report.specs.Report.{head_text, violated_line, inputs_line, schedule_line}
use Rattle.report.specs.Failing.{drew, rows_in, failure_of}
use Rattle.report.proofs.Joining.{four_pieces, run_pieces}
use Rattle.report.proofs.texts.failure_text.Goals as goal

pub returns : goal.returns
returns c =
    let head = head_text (head_of c.args.head.now) in
    let violated = violated_line (failure_of c.args.trace.now c.args.function.now.bytes.items) in
    let inputs = flat_map inputs_line (drew c.args.trace.now.inputs) in
    let schedule = schedule_line (rows_in c.args.trace.now.schedule) in
    let failed = codes "VERIFICATION FAILED" ++ 10 ∷ [] in
    four_pieces head violated (inputs ++ schedule) failed _ _ _ _ c.in_ok-text.ensures c.in_ok-push_violated.ensures
    (c.in_ok-push.ensures.ok ∙ ap (λ z. c.push_violated.new.text ++ z) (c.as_str.ensures.value ∙ c.in_ok-run.ensures)) c.in_ok-push-2.ensures.ok
    ∙ run_pieces head violated inputs schedule failed
