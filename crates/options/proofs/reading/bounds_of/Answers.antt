use Rattle.core_tree.specs.Ranges.{loop_limits}
use Rattle.options.proofs.Items.{limits_kept}
use Rattle.options.proofs.reading.bounds_of.Goals as goal

pub new-requires-clause-set : goal.new-requires-clause-set
new-requires-clause-set c = limits_kept _ (loop_limits c.in_ok-set.set.items) c.in_ok-set.ensures.limits
