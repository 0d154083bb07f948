use Rattle.std.proofs.Common.{◌≡◌, ◌<◌, ◌≤◌, ◌-◌, length, take, true}
use Rattle.c_lexer.specs.Forms.{is_line_comment}
use Rattle.c_lexer.proofs.piece.line_comment_end.Given as goal

abbrev pub invariant-loop-end : goal.invariant-loop-end
invariant-loop-end l = (0 < l.end) × (l.end ≤ length l.text) × (is_line_comment (take l.end l.text) ≡ true)

abbrev pub decreases-loop-end : goal.decreases-loop-end
decreases-loop-end l = length l.text - l.end
