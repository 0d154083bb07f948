use Rattle.std.proofs.Common.{◌+◌, [], ◌∷◌, ◌++◌, map, subst, sym, arith}
use Rattle.report.specs.Report.{AreMaximal}
use Rattle.report.specs.Failing.{row_of}
use Rattle.report.proofs.Turns.{maximal_longer, rows_more, maximal_rows}
use Rattle.report.proofs.failing.next_row.Goals as goal

pub returns-then-thread-last-clause-maximal : goal.returns-then-thread-last-clause-maximal
returns-then-thread-last-clause-maximal c = λ a.
    let rows = map row_of c.args.rows.now.items in
    let n = c.args.last.turns in
    subst (λ t. AreMaximal (rows ++ (t, n + 1) ∷ [])) (sym c.if-thread-last.true) (maximal_longer rows c.args.last.thread n (n + 1) a)

pub returns-clause-rows : goal.returns-clause-rows
returns-clause-rows c = λ a.
    rows_more c.args.rows.now.items c.args.last c.push.new.self.items c.args.thread c.in_ok-push.ensures.items (record { thread = omega arith; some = omega arith; turns = omega arith }) a

pub returns-clause-maximal : goal.returns-clause-maximal
returns-clause-maximal c = λ a. maximal_rows c.args.rows.now.items c.args.last c.push.new.self.items c.args.thread c.in_ok-push.ensures.items (λ e. c.if-thread-last.false (sym e)) a
