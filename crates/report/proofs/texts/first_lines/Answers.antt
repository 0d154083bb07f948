use Rattle.std.proofs.Common.{[], ◌∷◌, ◌++◌, ap, ◌∙◌}
use Rattle.std.specs.Prelude.{codes}
use Rattle.std.specs.Fmt.{decimal}
use Rattle.report.specs.Report.{generated_lines, assertions_lines}
use Rattle.report.proofs.Joining.{four_pieces, head_pieces}
use Rattle.report.proofs.texts.first_lines.Goals as goal

pub returns : goal.returns
returns c =
    let h = c.args.head.now in
    let g = generated_lines h.generated in
    let name = h.name.bytes.items in
    let unwind = decimal h.unwind in
    let off = assertions_lines h.assertions in
    four_pieces g (codes "file ") name ((codes " unwind " ++ (unwind ++ 10 ∷ [])) ++ off) _ _ _ _
    (c.from_string-text.ensures ∙ c.in_ok-generated.ensures) c.in_ok-push.ensures.ok c.in_ok-push_name.ensures.ok
    (c.in_ok-push-2.ensures.ok ∙ ap (λ z. c.push_name.new.self ++ z) (c.as_str.ensures.value ∙ c.in_ok-settings.ensures))
    ∙ head_pieces g (codes "file ") name (codes " unwind ") unwind off
