use Rattle.std.proofs.Common.{arith, length}
use Rattle.std.proofs.lemmas.Bool.{le-ltb}
use Rattle.c_lexer.proofs.Digits.{digits_are}
use Rattle.c_lexer.proofs.constant.digits_end.Goals as goal

pub returns-then-digit_value-base-clause-digits : goal.returns-then-digit_value-base-clause-digits
returns-then-digit_value-base-clause-digits c = (digits_are c.args.base c.args.text.now c.loop-i.i (omega arith) c.loop-i.invariant (λ l. le-ltb _ _ (rw (c.digit_value.ensures.value) at c.if-digit_value-base.true))).0

pub returns-then-digit_value-base-clause-length : goal.returns-then-digit_value-base-clause-length
returns-then-digit_value-base-clause-length c = (digits_are c.args.base c.args.text.now c.loop-i.i (omega arith) c.loop-i.invariant (λ l. le-ltb _ _ (rw (c.digit_value.ensures.value) at c.if-digit_value-base.true))).1

pub returns-clause-digits : goal.returns-clause-digits
returns-clause-digits c = (digits_are c.args.base c.args.text.now (length c.args.text.now) (omega arith) (λ k l. c.loop-i.invariant k (omega arith)) (λ l. absurd (omega arith))).0

pub returns-clause-length : goal.returns-clause-length
returns-clause-length c = (digits_are c.args.base c.args.text.now (length c.args.text.now) (omega arith) (λ k l. c.loop-i.invariant k (omega arith)) (λ l. absurd (omega arith))).1
