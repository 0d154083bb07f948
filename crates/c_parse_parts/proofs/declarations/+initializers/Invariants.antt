use Rattle.std.proofs.Common.{◌<◌, ◌≤◌, ◌+◌, ◌*◌, ℕ, length}
use Rattle.c_tree.specs.Declarations.{view_initializer}
use Rattle.c_parse_parts.specs.inner.Reading.{initials_list, initials_at, initials_in}
use Rattle.c_parse_parts.proofs.Lists.{Left}
use Rattle.c_parse_parts.proofs.declarations.+initializers.Given as goal

abbrev pub decreases-initial : goal.decreases-initial
decreases-initial l = 4 * l.frame.levels

abbrev pub decreases-next_initial : goal.decreases-next_initial
decreases-next_initial l = 4 * l.frame.levels + 1

abbrev pub decreases-initials : goal.decreases-initials
decreases-initials l = 4 * l.frame.levels + 2

abbrev pub invariant-initials-initials : goal.invariant-initials-initials
invariant-initials-initials l = record {
  shorter : length l.rest ≤ length l.tokens;
  exact : (m : ℕ) × (length l.rest < m) × Left (initials_list (initials_in l.frame l.names)) view_initializer m l.first l.initials.items l.rest (initials_at (initials_in l.frame l.names) l.tokens);
}

abbrev pub decreases-initials-initials : goal.decreases-initials-initials
decreases-initials-initials l = length l.rest
