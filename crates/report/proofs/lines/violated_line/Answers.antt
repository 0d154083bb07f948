use Rattle.std.proofs.Common.{◌++◌, refl, arith}
use Rattle.std.specs.Prelude.{codes}
use Rattle.std.specs.Fmt.{decimal}
use Rattle.report.specs.Report.{class_name, line_of}
use Rattle.report.proofs.OneLine.{other_than, class_passes}
use Rattle.report.proofs.Fronts.{behind_one, run_one, number_one}
use Rattle.report.proofs.lines.violated_line.Goals as goal

pub returns-in_err-function : goal.returns-in_err-function
returns-in_err-function c = rw c.from_residual-in_err-function.ensures (λ class line function thread is e.
    let p = c.in_ok-class.ensures in
    let q = c.in_ok-line.ensures in
    let few = q.2 in
    let small = is.1 in
    let more = codes " function " ++ (function ++ (codes " thread " ++ line_of (decimal thread))) in
    let after = behind_one (codes "violated ") _ _ c.args.text.now p.0 e in
    let one = run_one (other_than 32) (class_name c.in_ok-class.class) (class_name class) c.in_ok-class.rest.now (codes " line " ++ (decimal line ++ more)) _ (class_passes c.in_ok-class.class) (class_passes class) p.1 refl refl after in
    let two = number_one c.in_ok-line.line line c.in_ok-line.rest.now more _ (omega arith) (omega arith) q.1 refl refl (behind_one (codes " line ") _ _ c.in_ok-class.rest.now q.0 one.1) in
    c.in_err-function.ensures function thread is.2 is.3 two.1)

pub returns-then-line-eq0 : goal.returns-then-line-eq0
returns-then-line-eq0 c = λ class line function thread is e.
    let p = c.in_ok-class.ensures in
    let q = c.in_ok-line.ensures in
    let few = q.2 in
    let small = is.1 in
    let least = is.0 in
    let more = codes " function " ++ (function ++ (codes " thread " ++ line_of (decimal thread))) in
    let after = behind_one (codes "violated ") _ _ c.args.text.now p.0 e in
    let one = run_one (other_than 32) (class_name c.in_ok-class.class) (class_name class) c.in_ok-class.rest.now (codes " line " ++ (decimal line ++ more)) _ (class_passes c.in_ok-class.class) (class_passes class) p.1 refl refl after in
    let two = number_one c.in_ok-line.line line c.in_ok-line.rest.now more _ (omega arith) (omega arith) q.1 refl refl (behind_one (codes " line ") _ _ c.in_ok-class.rest.now q.0 one.1) in
    let same = two.0 in
    let none = c.if-line-eq0.true in
    omega (arith, same, least, none)
