use Rattle.std.proofs.Common.{◌-◌}
use Rattle.object_memory.proofs.ReadWords.{Wording}
use Rattle.object_memory.proofs.reading.words_at.Given as goal

abbrev pub invariant-reading : goal.invariant-reading
invariant-reading l = Wording l.fn.dag l.dag l.block l.offset.offset l.count l.words.items l.at

abbrev pub decreases-reading : goal.decreases-reading
decreases-reading l = l.count - l.at
