use Rattle.std.proofs.Common.{[], ◌∷◌, refl, arith}
use Rattle.report.proofs.Fronts.{number_one}
use Rattle.report.proofs.runs.last_number.Goals as goal

pub returns-else-is_line_end : goal.returns-else-is_line_end
returns-else-is_line_end c = λ n small e.
    let p = c.in_ok-value.ensures in
    let few = p.2 in
    c.is_line_end.ensures.no c.if-is_line_end.false (number_one c.in_ok-value.value n c.in_ok-value.rest.now (10 ∷ []) c.args.text.now (omega arith) (omega arith) p.0 refl p.1 e).1
