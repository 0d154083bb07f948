use Rattle.std.proofs.Common.{◌≡◌, ◌<◌, [], ℕ, List, length, map, ap, sym, subst, ◌∙◌}
use Rattle.std.proofs.lemmas.Option.{MatchOption-at_some}
use Rattle.std.specs.Prelude.{codes}
use Rattle.report.specs.Failing.{row_of}
use Rattle.report.specs.Report.{AreMaximal}
use Rattle.report.specs.declared.failing.Row.{Row}
use Rattle.report.proofs.OneLine.{rows_one}
use Rattle.report.proofs.Fronts.{behind_one}
use Rattle.report.proofs.lines.schedule_line.Goals as goal

pub returns-then-not-is_schedule : goal.returns-then-not-is_schedule
returns-then-not-is_schedule c = λ rows is e.
    let got = MatchOption-at_some _ _ c.in-Some-2.rows c.in-Some-2.is c.in_ok-rows.ensures in
    let after = behind_one (codes "schedule") _ _ c.args.text.now c.in-Some.ensures e in
    let one = rows_one rows (map row_of c.in-Some-2.rows.items) [] [] is.0 got.0 (sym after ∙ got.1) in
    let same : rows ≡ map row_of c.deref.result.now = one.0 ∙ ap (λ (z : List Row). map row_of z) (sym c.deref.ensures.value) in
    c.is_schedule.ensures.no c.if-not-is_schedule.true (subst (λ (z : List (ℕ × ℕ)). 0 < length z) same is.1) (subst (λ (z : List (ℕ × ℕ)). AreMaximal z) same is.2)
