use Rattle.std.proofs.Common.{arith}
use Rattle.report.proofs.Fronts.{number_one}
use Rattle.report.proofs.runs.small_number.Goals as goal

pub returns-then-value-gt-MOST : goal.returns-then-value-gt-MOST
returns-then-value-gt-MOST c = λ n rest small f e.
    let p = c.in_ok-value.ensures in
    let one = number_one c.in_ok-value.value n c.in_ok-value.rest.now rest c.args.text.now p.2 (omega arith) p.0 f p.1 e in
    let same = one.0 in
    let most = c.if-value-gt-MOST.true in
    omega (arith, same, most)
