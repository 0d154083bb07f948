use Rattle.std.proofs.Common.{◌≤◌, ◌<◌, ℕ, length, map}
use Rattle.c_tree.specs.Tree.{view_type_part}
use Rattle.c_parse_expr.specs.inner.Reading.{type_part_at, type_parts_at}
use Rattle.c_parse_expr.proofs.Rows.{Remains}
use Rattle.c_parse_expr.proofs.words.type_specifiers.Given as goal

abbrev pub invariant-specifiers : goal.invariant-specifiers
invariant-specifiers l = record {
  shorter : length l.rest ≤ length l.tokens;
  exact : (m : ℕ) × (length l.rest < m) × Remains (type_part_at l.bytes l.names) m l.before (map view_type_part l.specifiers.items) l.rest (type_parts_at l.bytes l.names l.tokens);
}

abbrev pub decreases-specifiers : goal.decreases-specifiers
decreases-specifiers l = length l.rest
