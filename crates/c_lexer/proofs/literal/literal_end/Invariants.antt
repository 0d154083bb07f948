use Rattle.std.proofs.Common.{◌-◌, length}
use Rattle.c_lexer.proofs.Quotes.{ScannedTo}
use Rattle.c_lexer.proofs.literal.literal_end.Given as goal

abbrev pub invariant-loop-end : goal.invariant-loop-end
invariant-loop-end l = ScannedTo l.text l.end l.escaped

abbrev pub decreases-loop-end : goal.decreases-loop-end
decreases-loop-end l = length l.text - l.end
