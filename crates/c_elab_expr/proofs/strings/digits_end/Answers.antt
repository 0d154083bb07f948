use Rattle.std.proofs.Common.{arith, length, sym, ◌∙◌}
use Rattle.c_lexer.proofs.Digits.{digits_are}
use Rattle.c_elab_expr.proofs.strings.digits_end.Goals as goal

pub returns-then-not-is_digit_of-clause-length : goal.returns-then-not-is_digit_of-clause-length
returns-then-not-is_digit_of-clause-length c = (digits_are c.args.base c.args.text.now c.loop-i.i (omega arith) c.loop-i.invariant (λ l. sym c.is_digit_of.ensures ∙ c.if-not-is_digit_of.true)).1

pub returns-clause-length : goal.returns-clause-length
returns-clause-length c = (digits_are c.args.base c.args.text.now (length c.args.text.now) (omega arith) (λ k l. c.loop-i.invariant k (omega arith)) (λ l. absurd (omega arith))).1
