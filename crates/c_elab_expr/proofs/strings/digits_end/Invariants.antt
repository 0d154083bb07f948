use Rattle.std.proofs.Common.{◌≡◌, ◌<◌, ℕ, get_or, true}
use Rattle.c_lexer.specs.Constants.{is_digit_of}
use Rattle.c_elab_expr.proofs.strings.digits_end.Given as goal

abbrev pub invariant-loop-i : goal.invariant-loop-i
invariant-loop-i l = (k : ℕ) → k < l.i → is_digit_of l.base (get_or l.text k 0) ≡ true
