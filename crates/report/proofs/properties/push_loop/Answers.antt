use Rattle.std.proofs.Common.{[], ◌∷◌, ◌++◌, ap, ◌∙◌}
use Rattle.std.specs.Prelude.{codes}
use Rattle.std.specs.Fmt.{decimal}
use Rattle.report.proofs.Joining.{three_pieces}
use Rattle.report.proofs.properties.push_loop.Goals as goal

pub returns : goal.returns
returns c =
    three_pieces c.args.text.now (codes "loop ") c.args.function.now.bytes.items (46 ∷ (decimal c.args.number ++ (codes " line " ++ (decimal c.args.line ++ 10 ∷ [])))) _ _ _
    c.in_ok-push.ensures.ok
    c.in_ok-push_name.ensures.ok
    (c.in_ok-push-2.ensures.ok ∙ ap (λ z. c.push_name.new.self ++ z) (c.as_str.ensures.value ∙ c.in_ok-back.ensures.ok))
