use Rattle.std.proofs.Common.{◌≡◌, ◌+◌, ◌*◌, take, arith, sym, ◌∙◌, ap}
use Rattle.std.proofs.lemmas.List.{take_all}
use Rattle.c_lexer.specs.Constants.{number}
use Rattle.c_lexer.proofs.Digits.{number_none, number_more, number_step}
use Rattle.c_lexer.proofs.constant.number.Goals as goal

pub loop-digit-init : goal.loop-digit-init
loop-digit-init c = (omega arith, sym (number_none c.args.base))

pub returns-in_err-shifted : goal.returns-in_err-shifted
returns-in_err-shifted c =
    let step = number_step c.args.base c.args.digits.now c.loop-digit.digit-index c.loop-digit.number c.requires.0 c.loop-digit-test.true c.loop-digit.invariant.1 in
    rw c.from_residual.ensures (λ l. c.in_err-shifted.ensures (omega (arith, step)))

pub returns-in_err-number : goal.returns-in_err-number
returns-in_err-number c =
    let step = number_step c.args.base c.args.digits.now c.loop-digit.digit-index c.loop-digit.number c.requires.0 c.loop-digit-test.true c.loop-digit.invariant.1 in
    let shifted = c.in_ok-shifted.ensures.1 in
    let digit = c.digit_value.ensures.value in
    rw c.from_residual-in_err-number.ensures (λ l. c.in_err-number.ensures (omega (arith, step, shifted, digit)))

pub loop-digit-preserved : goal.loop-digit-preserved
loop-digit-preserved c =
    let before = c.loop-digit.invariant.1 in
    let more = number_more c.args.base c.args.digits.now c.loop-digit.digit-index c.loop-digit-test.true in
    let added = c.in_ok-number.ensures in
    let shifted = c.in_ok-shifted.ensures.1 in
    let digit = c.digit_value.ensures.value in
    (omega arith, added.1 ∙ ap (λ n. n + c.digit_value.result) shifted ∙ ap (λ d. c.loop-digit.number * c.args.base + d) digit ∙ rw before (sym more))

pub returns : goal.returns
returns c =
    let i = c.loop-digit.invariant in
    let all : take c.loop-digit.digit-index c.args.digits.now ≡ c.args.digits.now = take_all c.loop-digit.digit-index c.args.digits.now (omega arith) in
    let e : c.loop-digit.number ≡ number c.args.base c.args.digits.now = i.1 ∙ ap (number c.args.base) all in
    (omega (arith, e), e)
