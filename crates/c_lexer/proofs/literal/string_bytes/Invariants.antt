use Rattle.std.proofs.Common.{◌≡◌, length}
use Rattle.c_lexer.specs.Literals.{bytes_behind, string_bytes}
use Rattle.c_lexer.proofs.Elements.{with_front}
use Rattle.c_lexer.proofs.literal.string_bytes.Given as goal

abbrev pub invariant-loop-element : goal.invariant-loop-element
invariant-loop-element l = with_front l.bytes.items (bytes_behind 0 l.rest) ≡ string_bytes l.text

abbrev pub decreases-loop-element : goal.decreases-loop-element
decreases-loop-element l = length l.rest
