use Rattle.std.proofs.Common.{◌≡◌, ◌<◌, ◌^◌, take}
use Rattle.c_lexer.specs.Constants.{number}
use Rattle.c_lexer.proofs.constant.number.Given as goal

abbrev pub invariant-loop-digit : goal.invariant-loop-digit
invariant-loop-digit l = (l.number < 2 ^ 64) × (l.number ≡ number l.base (take l.digit-index l.digits))
