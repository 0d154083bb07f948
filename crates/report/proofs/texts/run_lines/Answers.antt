use Rattle.std.proofs.Common.{List, ◌++◌, map, string_bytes, ap, ◌∙◌}
use Rattle.std.specs.List.{flat_map}
use Rattle.report.specs.Report.{inputs_line, schedule_line}
use Rattle.report.specs.Failing.{drew, row_of, rows_in}
use Rattle.report.specs.declared.failing.Row.{Row}
use Rattle.report.proofs.texts.run_lines.Goals as goal

pub returns : goal.returns
returns c =
    let inputs = flat_map inputs_line (drew c.args.trace.now.inputs) in
    c.in_ok-push_schedule.ensures
    ∙ ap (λ (rs : List Row). string_bytes c.push_inputs.new.text ++ schedule_line (map row_of rs)) c.deref.ensures.value
    ∙ ap (λ rs. string_bytes c.push_inputs.new.text ++ schedule_line rs) (c.in_ok-rows.ensures ∙ ap rows_in c.as_slice.ensures)
    ∙ ap (λ z. z ++ schedule_line (rows_in c.args.trace.now.schedule)) (c.in_ok-push_inputs.ensures ∙ ap (λ z. z ++ inputs) c.new-text.ensures.bytes)
