use Rattle.std.proofs.Common.{◌≡◌, ℕ, List, [], ◌∷◌, ◌++◌, ap, ◌∙◌}
use mathlib.Core.List.{append_assoc}
use Rattle.std.specs.Prelude.{codes}
use Rattle.std.specs.Fmt.{decimal}
use Rattle.report.proofs.Joining.{three_pieces}
use Rattle.report.proofs.properties.push_assertion.Goals as goal

regroup : (d name : List ℕ) → (codes "assertion line " ++ (d ++ codes " function ")) ++ (name ++ 10 ∷ []) ≡ codes "assertion line " ++ (d ++ (codes " function " ++ (name ++ 10 ∷ [])))
regroup d name = simp append_assoc

pub returns : goal.returns
returns c =
    let name = c.args.function.now.bytes.items in
    let d = decimal c.args.line in
    three_pieces c.args.text.now (codes "assertion line " ++ (d ++ codes " function ")) name (10 ∷ []) _ _ _
    (c.in_ok-push.ensures.ok ∙ ap (λ z. c.args.text.now ++ z) (c.as_str.ensures.value ∙ c.in_ok-front.ensures.ok))
    c.in_ok-push_name.ensures.ok c.in_ok-push-2.ensures.ok
    ∙ ap (λ (z : List ℕ). c.args.text.now ++ z) (regroup d name)
