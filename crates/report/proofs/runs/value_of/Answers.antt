use Rattle.std.proofs.Common.{arith}
use Rattle.report.proofs.Numerals.{not_digits, not_zero_first, digits_utf8, value_read, value_refused}
use Rattle.report.proofs.runs.value_of.Goals as goal

pub returns-in-Some : goal.returns-in-Some
returns-in-Some c = λ n small e. not_digits c.args.digits.now c.in-Some._front.now c.in-Some._rest.now n small e c.in-Some.ensures.0 c.in-Some.ensures.2

pub returns-then-has_leading_zero : goal.returns-then-has_leading_zero
returns-then-has_leading_zero c = λ n small e.
    let z = c.has_leading_zero.ensures.yes c.if-has_leading_zero.true in
    not_zero_first c.args.digits.now n small e z.0 z.1

pub returns-in_default-from_utf8 : goal.returns-in_default-from_utf8
returns-in_default-from_utf8 c = λ n small e. c.in_default-from_utf8.ensures.cases.0 (digits_utf8 c.args.digits.now c.in_default.ensures)

pub returns-in-Ok-parse : goal.returns-in-Ok-parse
returns-in-Ok-parse c =
    (value_read c.in-Ok.shown.now c.args.digits.now c.in-Ok-parse.value c.in-Ok.ensures.cases.0 c.in_default.ensures (c.has_leading_zero.ensures.no c.if-has_leading_zero.false) (omega arith) c.in-Ok-parse.ensures.value.0, omega arith)

pub returns-in-Err : goal.returns-in-Err
returns-in-Err c = λ n small e. value_refused c.in-Ok.shown.now c.args.digits.now n c.in-Ok.ensures.cases.0 small e c.in-Err.ensures.value.0
