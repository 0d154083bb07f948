use Rattle.std.proofs.Common.{◌∷◌, refl, arith}
use Rattle.std.specs.Prelude.{codes}
use Rattle.report.proofs.Fronts.{behind_one, number_one}
use Rattle.report.proofs.lines.thread_part.Goals as goal

pub returns-in_err-rest-2 : goal.returns-in_err-rest-2
returns-in_err-rest-2 c = rw c.from_residual-in_err-rest-2.ensures (λ thread rest small e.
    let p = c.in_ok-thread.ensures in
    let few = p.2 in
    let one = number_one c.in_ok-thread.thread thread c.in_ok-thread.rest.now (58 ∷ rest) c.in_ok-rest.rest.now (omega arith) (omega arith) p.0 refl p.1 (behind_one (codes "inputs ") _ _ c.args.text.now c.in_ok-rest.ensures e) in
    c.in_err-rest-2.ensures rest one.1)
