use Rattle.std.proofs.Common.{◌≡◌, ◌%◌, ℕ, List, length, map}
use Rattle.c_lexer.specs.Literals.{bytes_behind}
use Rattle.c_lexer.proofs.Elements.{with_front}
use Rattle.c_elab_expr.proofs.texts.bytes_within.Given as goal

abbrev pub invariant-elements : goal.invariant-elements
invariant-elements l = (front : List ℕ) × (l.bytes.items ≡ map (λ b. b % 256) front) × (with_front front (bytes_behind 0 l.rest) ≡ bytes_behind 0 l.text)

abbrev pub decreases-elements : goal.decreases-elements
decreases-elements l = length l.rest
