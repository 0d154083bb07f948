use Rattle.std.proofs.Common.{◌≡◌, ◌≢◌, ℕ, suc, ◌-◌, ◌<◌, get_or, length, subst, arith}
use Rattle.report.specs.declared.failing.Row.{Row}
use Rattle.report.proofs.Fronts.{maximal_by, maximal_at}
use Rattle.report.proofs.lines.are_maximal.Goals as goal

none : Row
none = record { thread = 0; turns = 0 }

pub returns-then-rows-at-clause-no : goal.returns-then-rows-at-clause-no
unfolding none
returns-then-rows-at-clause-no c = λ r a.
    let rows = c.args.rows.now in
    let at = c.loop-at.at in
    let same : suc (at - 1) ≡ at = omega arith in
    let lt : suc (at - 1) < length rows = omega arith in
    subst (λ (n : ℕ). (get_or rows (at - 1) none).thread ≢ (get_or rows n none).thread) same (maximal_at rows none (at - 1) a lt) c.if-rows-at.true

pub returns-clause-yes : goal.returns-clause-yes
returns-clause-yes c = λ r. maximal_by c.args.rows.now none (λ k lt. c.loop-at.invariant none k (omega arith))
