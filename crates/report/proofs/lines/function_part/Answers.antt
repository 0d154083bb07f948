use Rattle.std.proofs.Common.{◌++◌, refl, ap, sym, ◌∙◌}
use Rattle.std.proofs.lemmas.Bool.{false≢true}
use Rattle.std.specs.Prelude.{codes}
use Rattle.report.specs.Identifiers.{is_identifier}
use Rattle.std.specs.Fmt.{decimal}
use Rattle.report.specs.Report.{line_of}
use Rattle.report.proofs.OneLine.{other_than, identifier_passes}
use Rattle.report.proofs.Fronts.{behind_one, run_one}
use Rattle.report.proofs.lines.function_part.Goals as goal

pub returns-then-not-is_identifier : goal.returns-then-not-is_identifier
returns-then-not-is_identifier c = λ function thread word small e.
    let p = c.in_ok-function.ensures in
    let after = behind_one (codes " function ") _ _ c.args.text.now c.in_ok-rest.ensures e in
    let one = run_one (other_than 32) c.in_ok-function.function.now function c.in_ok-function.rest.now (codes " thread " ++ line_of (decimal thread)) c.in_ok-rest.rest.now p.1 (identifier_passes function word) p.2 refl p.0 after in
    false≢true (sym c.if-not-is_identifier.true ∙ c.is_identifier.ensures ∙ ap is_identifier one.0 ∙ word)

pub returns-in_err-rest-2 : goal.returns-in_err-rest-2
returns-in_err-rest-2 c = rw c.from_residual-in_err-rest-2.ensures (λ function thread word small e.
    let p = c.in_ok-function.ensures in
    let after = behind_one (codes " function ") _ _ c.args.text.now c.in_ok-rest.ensures e in
    let one = run_one (other_than 32) c.in_ok-function.function.now function c.in_ok-function.rest.now (codes " thread " ++ line_of (decimal thread)) c.in_ok-rest.rest.now p.1 (identifier_passes function word) p.2 refl p.0 after in
    c.in_err-rest-2.ensures (line_of (decimal thread)) one.1)

pub returns-in_err-thread : goal.returns-in_err-thread
returns-in_err-thread c = rw c.from_residual-in_err-thread.ensures (λ function thread word small e.
    let p = c.in_ok-function.ensures in
    let after = behind_one (codes " function ") _ _ c.args.text.now c.in_ok-rest.ensures e in
    let one = run_one (other_than 32) c.in_ok-function.function.now function c.in_ok-function.rest.now (codes " thread " ++ line_of (decimal thread)) c.in_ok-rest.rest.now p.1 (identifier_passes function word) p.2 refl p.0 after in
    c.in_err-thread.ensures thread small (behind_one (codes " thread ") _ _ c.in_ok-function.rest.now c.in_ok-rest-2.ensures one.1))
