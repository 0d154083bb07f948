use Rattle.std.proofs.Common.{◌∙◌, sym, ap, List}
use Rattle.std.proofs.lemmas.Result.{err_from_is_err_and}
use Rattle.core_tree.specs.declared.bounds.LoopBound.{LoopBound}
use Rattle.core_tree.specs.Ranges.{loop_limits}
use Rattle.options.specs.Values.{are_once}
use Rattle.options.proofs.Items.{twice_is_none}
use Rattle.options.proofs.loops.loop_bounds.Goals as goal

pub returns-in_err-once-clause-usage : goal.returns-in_err-once-clause-usage
returns-in_err-once-clause-usage c =
    let p = err_from_is_err_and c.from_residual-in_err-once.result c.from_residual-in_err-once.ensures.1 in
    rw p.1 (λ u ls asked.
    let twice = ap (λ (bs : List LoopBound). are_once (loop_limits bs)) (sym c.deref.ensures.value) ∙ c.in_err-once.ensures.usage (sym p.2 ∙ u) in
    twice_is_none c.in-Some.text.now (loop_limits c.in_ok-bounds.bounds.items) c.in_ok-bounds.ensures.items twice ls (rw c.in-Some.is at asked))
