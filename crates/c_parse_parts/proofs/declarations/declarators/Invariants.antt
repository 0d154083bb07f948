use Rattle.std.proofs.Common.{◌≡◌, ◌<◌, ◌≤◌, ℕ, length}
use Rattle.c_tree.specs.Declarations.{declarators_of, with_declarators}
use Rattle.c_parse_parts.specs.inner.Reading.{declarators_list, declarators_at}
use Rattle.c_parse_parts.proofs.Lists.{Left}
use Rattle.c_parse_parts.proofs.Loops.{init_of}
use Rattle.c_parse_parts.proofs.declarations.declarators.Given as goal

abbrev pub invariant-declarators : goal.invariant-declarators
invariant-declarators l = record {
  shorter : length l.rest ≤ length l.tokens;
  exact : (m : ℕ) × (length l.rest < m) × Left (declarators_list l.frame.bytes.now l.types l.frame.levels) init_of m (l.names, l.first) l.declarators.items l.rest (declarators_at l.frame.bytes.now l.fn.names l.types l.frame.levels l.begins l.tokens);
  names : l.names ≡ with_declarators l.fn.names l.types (declarators_of l.declarators.items);
}

abbrev pub decreases-declarators : goal.decreases-declarators
decreases-declarators l = length l.rest
