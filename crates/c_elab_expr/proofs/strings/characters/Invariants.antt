use Rattle.std.proofs.Common.{◌≡◌, ◌≤◌, ◌+◌, length}
use Rattle.c_elab_expr.specs.Strings.{characters_behind}
use Rattle.c_elab_expr.proofs.strings.characters.Given as goal

abbrev pub invariant-loop-rest : goal.invariant-loop-rest
invariant-loop-rest l = (l.found + characters_behind 0 l.rest ≡ characters_behind 0 l.text) × (l.found + length l.rest ≤ length l.text)

abbrev pub decreases-loop-rest : goal.decreases-loop-rest
decreases-loop-rest l = length l.rest
