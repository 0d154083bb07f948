use Rattle.std.proofs.Common.{◌≤◌, ◌-◌, length}
use Rattle.c_lexer.proofs.Comments.{Open}
use Rattle.c_lexer.proofs.piece.block_comment_end.Given as goal

abbrev pub invariant-loop-at : goal.invariant-loop-at
invariant-loop-at l = (2 ≤ l.at) × (l.at ≤ length l.text) × Open l.text l.at

abbrev pub decreases-loop-at : goal.decreases-loop-at
decreases-loop-at l = length l.text - l.at
