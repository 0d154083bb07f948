use Rattle.std.proofs.Common.{◌-◌}
use Rattle.object_memory.proofs.ReadWords.{Making}
use Rattle.object_memory.proofs.reading.zero_words.Given as goal

abbrev pub invariant-making : goal.invariant-making
invariant-making l = Making l.fn.dag l.dag l.count l.words.items l.at

abbrev pub decreases-making : goal.decreases-making
decreases-making l = l.count - l.at
