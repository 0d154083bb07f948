use Rattle.std.proofs.Common.{◌≡◌, sym, ◌∙◌, arith}
use Rattle.std.proofs.lemmas.Bool.Decides.{nat_tests}
use Rattle.std.proofs.lemmas.Fmt.{decimal_injective}
use Rattle.std.specs.Prelude.{codes}
use Rattle.report.proofs.Fronts.{behind_one}
use Rattle.report.proofs.lines.is_generated_as.Goals as goal

pub returns-in-Some-value_of-clause-no : goal.returns-in-Some-value_of-clause-no
returns-in-Some-value_of-clause-no c = λ r e.
    let v = c.in-Some-value_of.ensures in
    let few = v.1 in
    let same : c.in-Some-value_of.value ≡ c.args.threads = decimal_injective c.in-Some-value_of.value c.args.threads (omega arith) (omega arith) (sym v.0 ∙ behind_one (codes "generated-") _ _ c.as_bytes.result.now c.in-Some.ensures (c.as_bytes.ensures.value ∙ e)) in
    grind (arith, nat_tests)
