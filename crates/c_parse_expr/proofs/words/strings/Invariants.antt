use Rattle.std.proofs.Common.{◌≤◌, ◌<◌, ℕ, length, map}
use Rattle.c_tree.specs.Tree.{view_name}
use Rattle.c_parse_expr.specs.inner.Reading.{string_at, strings_at}
use Rattle.c_parse_expr.proofs.Rows.{fronted, Remains}
use Rattle.c_parse_expr.proofs.words.strings.Given as goal

abbrev pub invariant-parts : goal.invariant-parts
invariant-parts l = record {
  shorter : length l.rest ≤ length l.tokens;
  exact : (m : ℕ) × (length l.rest < m) × Remains (string_at l.bytes) m tt (map view_name l.parts.items) l.rest (fronted (map view_name l.initial.parts.items) (strings_at l.bytes l.tokens));
}

abbrev pub decreases-parts : goal.decreases-parts
decreases-parts l = length l.rest
