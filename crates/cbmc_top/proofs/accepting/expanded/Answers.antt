use Rattle.std.proofs.Common.{◌≡◌, ◌≢◌, Option, Some, None, Err, ap, subst}
use Rattle.c_pre.specs.declared.error.PreError.TheVariants as directives
use Rattle.cbmc_top.specs.Answers.{expansion_answer}
use Rattle.cbmc_top.specs.Stops.{IsUnexpanded}
use Rattle.cbmc_top.proofs.Stages.{stop_map}
use Rattle.cbmc_top.proofs.accepting.expanded.Goals as goal

pub returns-in-Err-clause-stop : goal.returns-in-Err-clause-stop
returns-in-Err-clause-stop c =
    let e = c.in-Err.error in
    stop_map c.expansion_stop.result (λ a. expansion_answer e ≡ Some a) (IsUnexpanded c.args.cutting.bytes.items c.args.cutting.tokens.items) (λ a is.
    let known : e ≢ directives.Memory = λ same. let none = ap expansion_answer same in cc in
    (e, c.in-Err.ensures.fault known, is)) c.expansion_stop.ensures.stop
