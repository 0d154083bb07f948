use Rattle.std.proofs.Common.{[], ◌∷◌, ◌++◌, ap, ◌∙◌}
use Rattle.std.specs.Prelude.{codes}
use Rattle.std.specs.Fmt.{decimal}
use Rattle.report.specs.Report.{class_name}
use Rattle.report.proofs.Joining.{three_pieces, check_pieces}
use Rattle.report.proofs.texts.push_violated.Goals as goal

pub returns : goal.returns
returns c =
    let check = c.args.check.now in
    let name = c.args.function.now.bytes.items in
    let class = class_name check.class in
    let line = decimal check.line in
    let thread = decimal check.thread in
    three_pieces c.args.text.now (codes "violated " ++ (class ++ (codes " line " ++ (line ++ codes " function ")))) name (codes " thread " ++ (thread ++ 10 ∷ [])) _ _ _
    (c.in_ok-push.ensures.ok ∙ ap (λ z. c.args.text.now ++ z) (c.as_str.ensures.value ∙ c.in_ok-front.ensures.ok ∙ ap (λ z. codes "violated " ++ (z ++ (codes " line " ++ (line ++ codes " function ")))) c.name_of_class-class.ensures))
    c.in_ok-push_name.ensures.ok
    (c.in_ok-push-2.ensures.ok ∙ ap (λ z. c.push_name.new.self ++ z) (c.as_str-2.ensures.value ∙ c.in_ok-back.ensures.ok))
    ∙ ap (λ z. c.args.text.now ++ z) (check_pieces (codes "violated ") class (codes " line ") line (codes " function ") name (codes " thread ") thread)
