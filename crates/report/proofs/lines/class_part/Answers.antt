use Rattle.std.proofs.Common.{◌++◌, ◌∷◌, ℕ, List, refl, ap, ◌∙◌}
use Rattle.std.specs.Prelude.{codes}
use Rattle.report.specs.Report.{class_name}
use Rattle.report.proofs.OneLine.{other_than, class_passes}
use Rattle.report.proofs.Fronts.{behind_one, run_one, not_passes}
use Rattle.report.proofs.lines.class_part.Goals as goal

pub returns-in_err-rest : goal.returns-in_err-rest
returns-in_err-rest c = rw c.from_residual.ensures (λ class rest e. c.in_err-rest.ensures (class_name class ++ 32 ∷ rest) e)

pub returns-in_err-name : goal.returns-in_err-name
returns-in_err-name c = rw c.from_residual-in_err-name.ensures (λ class rest e.
    not_passes (other_than 32) (class_name class) 32 rest c.in_ok-rest.rest.now (behind_one (codes "violated ") _ _ c.args.text.now c.in_ok-rest.ensures e) c.in_err-name.ensures refl)

pub returns-in_err-class : goal.returns-in_err-class
returns-in_err-class c = rw c.from_residual-in_err-class.ensures (λ class rest e.
    let p = c.in_ok-name.ensures in
    let after = behind_one (codes "violated ") _ _ c.args.text.now c.in_ok-rest.ensures e in
    c.in_err-class.ensures class (run_one (other_than 32) c.in_ok-name.name.now (class_name class) c.in_ok-name.rest.now (32 ∷ rest) c.in_ok-rest.rest.now p.1 (class_passes class) p.2 refl p.0 after).0)

pub returns : goal.returns
returns c =
    let p = c.in_ok-name.ensures in
    (c.in_ok-rest.ensures ∙ ap (λ (z : List ℕ). codes "violated " ++ z) (p.0 ∙ ap (λ (z : List ℕ). z ++ c.in_ok-name.rest.now) c.in_ok-class.ensures), p.2)
