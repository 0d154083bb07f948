use Rattle.std.proofs.Common.{arith}
use Rattle.options.specs.Cut.{item_of}
use Rattle.options.proofs.Items.{text_is_item, bound_more}
use Rattle.options.proofs.Kept.{any_error}
use Rattle.options.proofs.loops.bounds_of.Goals as goal

pub returns-in_err-item-clause-usage : goal.returns-in_err-item-clause-usage
returns-in_err-item-clause-usage c =
    let none = rw c.in_err-item.ensures.ok_part at c.read_item.ensures in
    any_error c.from_residual.result _ (λ e u ls each. text_is_item c.args.texts.now ls c.loop-text.text-index _ (omega arith) each none)

pub loop-text-preserved : goal.loop-text-preserved
loop-text-preserved c =
    let some = rw c.in_ok-item.ensures.ok_part at c.read_item.ensures in
    bound_more c.args.texts.now c.loop-text.text-index _ c.loop-text.bounds.items c.push.new.self.items c.in_ok-owned.field-0 (item_of c.in_ok-item.item) (omega arith)
    c.loop-text.invariant some c.in_ok-owned.ensures c.in_ok-push.ensures.items
