use Rattle.std.proofs.Common.{◌≡◌, ◌≤◌, ◌+◌, drop}
use Rattle.c_lexer.specs.Cutting.{bytes_of, lines_of}
use Rattle.c_lexer.proofs.Splices.{gives}
use Rattle.c_lexer.proofs.lexing.unsplice.Given as goal

abbrev pub invariant-loop-i : goal.invariant-loop-i
invariant-loop-i l = record {
  line : l.line ≤ 1 + l.i;
  bytes : gives (λ c. c.0) l.bytes.items l.skip l.line (drop l.i l.file) ≡ bytes_of l.file;
  lines : gives (λ c. c.1) l.lines.items l.skip l.line (drop l.i l.file) ≡ lines_of l.file;
}
