use Rattle.std.proofs.Common.{lit≤}
use Rattle.options.proofs.Kept.{chosen_in, target_named, target_generated}
use Rattle.options.proofs.reading.options_of.Goals as goal

pub invariant_of-result : goal.invariant_of-result
invariant_of-result c =
    let budget = rw c.in_ok-budget.ensures.ok_part at c.chosen.ensures in
    record {
      budgeted = chosen_in 1000000 1 1000000000 _ c.in_ok-budget.budget (lit≤ tt) (lit≤ tt) budget;
      named = target_named _ _ _ _ c.in_ok-target.ensures.target;
      once = c.in_ok-bounds.ensures.once;
      generated = target_generated _ _ _ _ c.in_ok-target.ensures.target;
    }
