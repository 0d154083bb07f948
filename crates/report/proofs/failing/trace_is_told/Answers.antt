use Rattle.std.proofs.Common.{ℕ, List, [], ◌∷◌, All, map, subst, sym}
use Rattle.std.specs.Ordering.{nat_cmp}
use Rattle.std.specs.List.Sorted.{IsStrictlySortedBy}
use Rattle.interleave.specs.Inputs.{InputLists}
use Rattle.report.specs.Report.{IsDrawn}
use Rattle.report.specs.Failing.{drew}
use Rattle.report.proofs.Drawing.{are_sorted, drew_rising, drew_same, drawn_both}
use Rattle.report.proofs.MaximalRows.{turns_again, rows_maximal}
use Rattle.report.proofs.failing.trace_is_told.Goals as goal

pub returns-clause-words : goal.returns-clause-words
returns-clause-words c = λ t.
    let inputs = c.args.trace.now.inputs in
    let sorted = are_sorted inputs (subst (λ (es : InputLists). IsStrictlySortedBy nat_cmp (map (λ (e : ℕ × List ℕ). e.0) es)) c.lists.ensures c.iter-thread-items.ensures.ordered) in
    drew_same inputs sorted t

pub returns-clause-rising : goal.returns-clause-rising
returns-clause-rising c =
    let inputs = c.args.trace.now.inputs in
    let sorted = are_sorted inputs (subst (λ (es : InputLists). IsStrictlySortedBy nat_cmp (map (λ (e : ℕ × List ℕ). e.0) es)) c.lists.ensures c.iter-thread-items.ensures.ordered) in
    drew_rising inputs sorted

pub returns-clause-turns : goal.returns-clause-turns
returns-clause-turns c = turns_again c.args.trace.now.schedule

pub returns-clause-maximal : goal.returns-clause-maximal
returns-clause-maximal c = rows_maximal c.args.trace.now.schedule

pub loop-thread-preserved : goal.loop-thread-preserved
loop-thread-preserved c = λ rest.
    let e : ℕ × List ℕ = (c.in-Some.thread.now, c.in-Some.words.now) in
    let one = subst (λ (ws : List ℕ). All IsDrawn (drew ((c.in-Some.thread.now, ws) ∷ []))) c.as_slice.ensures c.prove_drawn.ensures in
    c.loop-thread.invariant (subst (λ (es : InputLists). All IsDrawn (drew es)) (sym c.in-Some.ensures.steps) (drawn_both e c.next.new.self one rest))
