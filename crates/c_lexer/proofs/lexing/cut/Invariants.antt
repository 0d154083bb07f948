use Rattle.std.proofs.Common.{◌≤◌, ◌-◌, length}
use Rattle.c_lexer.specs.Kinds.{AllSpelled}
use Rattle.c_lexer.proofs.Steps.{Completes}
use Rattle.c_lexer.proofs.lexing.cut.Given as goal

abbrev pub invariant-loop-position : goal.invariant-loop-position
invariant-loop-position l = record {
  within : l.position.at ≤ length l.bytes;
  completes : Completes l.bytes l.lines l.tokens.items l.position;
  spelled : AllSpelled l.bytes l.tokens.items;
}

abbrev pub decreases-loop-position : goal.decreases-loop-position
decreases-loop-position l = length l.bytes - l.position.at
