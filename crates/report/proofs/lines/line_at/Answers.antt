use Rattle.std.proofs.Common.{◌++◌, [], ℕ, List, ap, subst, ◌∙◌}
use Rattle.std.proofs.lemmas.Option.{MatchOption-at_some}
use Rattle.report.specs.Lines.{Line, MayStand, told_line}
use Rattle.report.proofs.OneLine.{one_line}
use Rattle.report.proofs.lines.line_at.Goals as goal

pub returns : goal.returns
returns c = λ l is may e.
    let got = MatchOption-at_some _ _ c.in-Some.line c.in-Some.is c.in_ok-any_line.ensures in
    c.may_stand.ensures.no c.if-may_stand.false (subst (λ (m : Line). MayStand c.args.place m) (one_line l (told_line c.in-Some.line) [] [] is got.0 (ap (λ (z : List ℕ). z ++ []) (e ∙ got.1))).0 may)
