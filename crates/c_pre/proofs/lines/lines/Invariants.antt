use Rattle.std.proofs.Common.{◌≡◌, ◌++◌, length, map}
use Rattle.c_pre.specs.Lines.{lines}
use Rattle.c_pre.specs.Views.{tokens_of}
use Rattle.c_pre.proofs.lines.lines.Given as goal

abbrev pub invariant-loop-rest : goal.invariant-loop-rest
invariant-loop-rest l = map tokens_of l.lines.items ++ lines l.rest ≡ lines l.tokens

abbrev pub decreases-loop-rest : goal.decreases-loop-rest
decreases-loop-rest l = length l.rest
