use Rattle.std.proofs.Common.{arith, refl}
use Rattle.c_lexer.specs.Cutting.{bytes_of, lines_of}
use Rattle.c_lexer.proofs.lexing.unsplice.Goals as goal

pub loop-i-init : goal.loop-i-init
unfolding bytes_of lines_of
loop-i-init c = record {
  line = omega arith;
  bytes = rw c.new-bytes.ensures.items refl;
  lines = rw c.new-lines.ensures.items refl;
}
