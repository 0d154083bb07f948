use Rattle.std.proofs.Common.{◌≡◌, ◌<◌, ◌≤◌, ℕ, length, map}
use Rattle.c_tree.specs.Declarations.{view_enumerator, with_enumerators}
use Rattle.c_parse_parts.specs.inner.Reading.{enumerators_list, enumerators_at}
use Rattle.c_parse_parts.proofs.Lists.{Left}
use Rattle.c_parse_parts.proofs.enumerators.enumerators.Given as goal

abbrev pub invariant-enumerators : goal.invariant-enumerators
invariant-enumerators l = record {
  shorter : length l.rest ≤ length l.tokens;
  exact : (m : ℕ) × (length l.rest < m) × Left (enumerators_list l.frame.bytes.now l.frame.levels) view_enumerator m (l.names, l.first) l.enumerators.items l.rest (enumerators_at l.frame.bytes.now l.fn.names l.frame.levels l.tokens);
  names : l.names ≡ with_enumerators l.fn.names (map view_enumerator l.enumerators.items);
}

abbrev pub decreases-enumerators : goal.decreases-enumerators
decreases-enumerators l = length l.rest
