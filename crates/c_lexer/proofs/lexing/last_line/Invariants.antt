use Rattle.std.proofs.Common.{◌≡◌, ◌≤◌, ◌+◌, ◌==◌, take}
use Rattle.std.specs.Prelude.{count_by}
use Rattle.c_lexer.proofs.lexing.last_line.Given as goal

abbrev pub invariant-loop-byte : goal.invariant-loop-byte
invariant-loop-byte l = (l.line ≤ 1 + l.byte-index) × (l.line ≡ 1 + count_by (λ b. b == 10) (take l.byte-index l.file))
