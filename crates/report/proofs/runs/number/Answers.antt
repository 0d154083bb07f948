use Rattle.std.specs.Char.{is_ascii_digit}
use Rattle.std.specs.Fmt.{decimal}
use Rattle.report.proofs.Bytes.{decimal_passes}
use Rattle.report.proofs.Fronts.{run_one}
use Rattle.report.proofs.runs.number.Goals as goal

pub returns-in_err-value : goal.returns-in_err-value
returns-in_err-value c = rw c.from_residual-in_err-value.ensures (λ n rest small f e.
    let p = c.in_ok-digits.ensures in
    c.in_err-value.ensures n small (run_one is_ascii_digit c.in_ok-digits.digits.now (decimal n) c.in_ok-digits.rest.now rest c.args.text.now p.1 (decimal_passes n small) p.2 f p.0 e).0)
