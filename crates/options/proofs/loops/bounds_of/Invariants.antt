use Rattle.std.proofs.Common.{map, take}
use Rattle.core_tree.specs.Ranges.{loop_limits}
use Rattle.options.specs.Cut.{AreEach}
use Rattle.options.proofs.loops.bounds_of.Given as goal

abbrev pub invariant-loop-text : goal.invariant-loop-text
invariant-loop-text l = AreEach (map (λ x. x.now) (take l.text-index l.texts)) (loop_limits l.bounds.items)
