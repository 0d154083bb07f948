-- The bits that a draw gives are those of its type.
use Rattle.std.proofs.Common.{◌≡◌, ℕ, ◌<◌, ◌≤◌, ◌^◌, true, nat_lt, ◌==◌, arith}
use Rattle.std.proofs.lemmas.Bool.{false≢true}
use Rattle.std.proofs.lemmas.Bool.Decides.{nat_tests}
use Rattle.c_types.specs.declared.integers.IntegerType.{IntegerType}
use Rattle.c_types.specs.declared.integers.IntegerType.TheVariants as types
use Rattle.c_types.specs.Integers.{width}
use Rattle.core_tree.specs.Operations.{drawn_width}
use Rattle.words.proofs.Ranges.{below_wider}
use Rattle.actions.specs.declared.action.Answer.{Answer}
use Rattle.actions.specs.declared.action.Answer.TheVariants as answer
use Rattle.actions.specs.Behaviour.{has_shape, word}
use Rattle.c_meaning.specs.Meaning.{drawn}
use Rattle.c_meaning.proofs.Holding.{right_of}

narrow : (t : IntegerType) → drawn_width t ≤ width t
narrow types.Bool = omega arith
narrow _ = omega arith

from_test : (a b : ℕ) → nat_lt a b ≡ true → a < b
from_test a b h = grind (arith, nat_tests)

below : (n : ℕ) (a : Answer) → has_shape (word n) a ≡ true → drawn a < 2 ^ n
below n (answer.Word w) h = from_test w.bits (2 ^ n) (right_of (w.width == n) (nat_lt w.bits (2 ^ n)) h)
below n answer.Done h = absurd (false≢true h)
below n (answer.Bytes bs) h = absurd (false≢true h)
below n (answer.Size m) h = absurd (false≢true h)
below n (answer.Number m) h = absurd (false≢true h)
below n (answer.Value v) h = absurd (false≢true h)

pub drawn_fits : (t : IntegerType) (a : Answer) → has_shape (word (drawn_width t)) a ≡ true → drawn a < 2 ^ width t
drawn_fits t a h = below_wider (drawn_width t) (width t) (drawn a) (narrow t) (below (drawn_width t) a h)
