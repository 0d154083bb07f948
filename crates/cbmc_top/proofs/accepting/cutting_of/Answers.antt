use Rattle.std.proofs.Common.{◌≡◌, ◌≢◌, Option, Some, None, Err, ap, subst}
use Rattle.c_lexer.specs.declared.fault.LexError.TheVariants as errors
use Rattle.cbmc_top.specs.Answers.{lexing_answer}
use Rattle.cbmc_top.specs.Stops.{IsUncut}
use Rattle.cbmc_top.proofs.Stages.{stop_map}
use Rattle.cbmc_top.proofs.accepting.cutting_of.Goals as goal

pub returns-in-Err-clause-stop : goal.returns-in-Err-clause-stop
returns-in-Err-clause-stop c =
    let e = c.in-Err.error in
    stop_map c.lexing_stop.result (λ a. lexing_answer e ≡ Some a) (IsUncut c.args.file.now) (λ a is.
    let known : e ≢ errors.Memory = λ same. let none = ap lexing_answer same in cc in
    (e, c.in-Err.ensures.fault known, is)) c.lexing_stop.ensures.stop
