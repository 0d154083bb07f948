use Rattle.std.proofs.Common.{◌≡◌, [], ◌∷◌, ◌++◌, map, take, take_all, sym, ap, ◌∙◌}
use Rattle.std.proofs.lemmas.List.{map-append}
use Rattle.report.specs.Failing.{row_of, rows_in}
use Rattle.report.proofs.MaximalRows.{rows_once}
use Rattle.report.proofs.failing.rows_of.Goals as goal

pub returns : goal.returns
returns c =
    let schedule = c.args.schedule.now in
    let front = map row_of c.turns.rows.items ++ row_of c.turns.last ∷ [] in
    let all : map row_of c.push.new.self.items ≡ front = ap (map row_of) c.in_ok-push.ensures.items ∙ map-append row_of c.turns.rows.items (c.turns.last ∷ []) in
    let whole : take c.turns.place schedule ≡ schedule = take_all c.turns.place schedule c.turns-test.false in
    all ∙ sym (rows_once front c.turns.invariant.rows c.turns.invariant.maximal) ∙ ap rows_in (c.turns.invariant.same ∙ whole)
