use Rattle.std.proofs.Common.{◌++◌, ℕ, List, refl, ap, ◌∙◌, arith}
use Rattle.std.specs.Prelude.{codes}
use Rattle.std.specs.Fmt.{decimal}
use Rattle.report.specs.Report.{line_of}
use Rattle.report.proofs.Fronts.{behind_one, number_one}
use Rattle.report.proofs.lines.generated_line.Goals as goal

pub returns-in_err-rest : goal.returns-in_err-rest
returns-in_err-rest c = rw c.from_residual.ensures (λ n b is e. c.in_err-rest.ensures (decimal n ++ (codes " bytes " ++ line_of (decimal b))) e)

pub returns-in_err-threads : goal.returns-in_err-threads
returns-in_err-threads c = rw c.from_residual-in_err-threads.ensures (λ n b is e.
    c.in_err-threads.ensures n (codes " bytes " ++ line_of (decimal b)) is.0 refl (behind_one (codes "generated ") _ _ c.args.text.now c.in_ok-rest.ensures e))

pub returns-in_err-rest-2 : goal.returns-in_err-rest-2
returns-in_err-rest-2 c = rw c.from_residual-in_err-rest-2.ensures (λ n b is e.
    let p = c.in_ok-threads.ensures in
    let few = p.2 in
    let lt = is.0 in
    let after = behind_one (codes "generated ") _ _ c.args.text.now c.in_ok-rest.ensures e in
    let one = number_one c.in_ok-threads.threads n c.in_ok-threads.rest.now (codes " bytes " ++ line_of (decimal b)) c.in_ok-rest.rest.now (omega arith) (omega arith) p.0 refl p.1 after in
    c.in_err-rest-2.ensures (line_of (decimal b)) one.1)

pub returns-in_err-bytes : goal.returns-in_err-bytes
returns-in_err-bytes c = rw c.from_residual-in_err-bytes.ensures (λ n b is e.
    let p = c.in_ok-threads.ensures in
    let few = p.2 in
    let lt = is.0 in
    let after = behind_one (codes "generated ") _ _ c.args.text.now c.in_ok-rest.ensures e in
    let one = number_one c.in_ok-threads.threads n c.in_ok-threads.rest.now (codes " bytes " ++ line_of (decimal b)) c.in_ok-rest.rest.now (omega arith) (omega arith) p.0 refl p.1 after in
    c.in_err-bytes.ensures b is.1 (behind_one (codes " bytes ") _ _ c.in_ok-threads.rest.now c.in_ok-rest-2.ensures one.1))

pub returns : goal.returns
returns c =
    let p = c.in_ok-threads.ensures in
    let q = c.in_ok-bytes.ensures in (
      (p.2, q.1),
      c.in_ok-rest.ensures ∙ ap (λ (z : List ℕ). codes "generated " ++ z) (p.1 ∙ ap (λ (z : List ℕ). decimal c.in_ok-threads.threads ++ z) (c.in_ok-rest-2.ensures ∙ ap (λ (z : List ℕ). codes " bytes " ++ z) q.0)),
    )
