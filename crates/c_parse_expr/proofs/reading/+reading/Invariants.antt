use Rattle.std.proofs.Common.{◌≡◌, ◌≤◌, ◌<◌, ◌+◌, ◌-◌, ◌*◌, ℕ, length, map}
use Rattle.c_tree.specs.Tree.{view, views_of, suffixes_of, depth, depth_of, suffixes_depth}
use Rattle.c_parse_expr.specs.inner.Many.{many_at}
use Rattle.c_parse_expr.specs.inner.Findings.{trees_in}
use Rattle.c_parse_expr.specs.inner.Reading.{reader, climb, rest_at, arguments_at, bracket_at, pair_of}
use Rattle.c_parse_expr.proofs.Lists.{with_front}
use Rattle.c_parse_expr.proofs.Rows.{Remains}
use Rattle.c_parse_expr.proofs.reading.+reading.Given as goal

abbrev pub decreases-read : goal.decreases-read
decreases-read l = 8 * l.frame.levels

abbrev pub decreases-operand : goal.decreases-operand
decreases-operand l = 8 * l.frame.levels + 7

abbrev pub decreases-prefix_behind : goal.decreases-prefix_behind
decreases-prefix_behind l = 8 * l.frame.levels + 6

abbrev pub decreases-suffix_behind : goal.decreases-suffix_behind
decreases-suffix_behind l = 8 * l.frame.levels + 6

abbrev pub decreases-choice_behind : goal.decreases-choice_behind
decreases-choice_behind l = 8 * l.frame.levels + 5

abbrev pub decreases-group_behind : goal.decreases-group_behind
decreases-group_behind l = 8 * l.frame.levels + 5

abbrev pub decreases-sizeof_behind : goal.decreases-sizeof_behind
decreases-sizeof_behind l = 8 * l.frame.levels + 5

abbrev pub decreases-type_name : goal.decreases-type_name
decreases-type_name l = 8 * l.frame.levels + 4

abbrev pub decreases-declarator : goal.decreases-declarator
decreases-declarator l = 8 * l.frame.levels

abbrev pub decreases-declarator_behind : goal.decreases-declarator_behind
decreases-declarator_behind l = 8 * l.frame.levels + 7

abbrev pub decreases-inside : goal.decreases-inside
decreases-inside l = 8 * l.frame.levels + 6

abbrev pub decreases-unnamed : goal.decreases-unnamed
decreases-unnamed l = 8 * l.frame.levels + 6

abbrev pub decreases-array_suffixes : goal.decreases-array_suffixes
decreases-array_suffixes l = 8 * l.frame.levels + 5

abbrev pub decreases-array_suffix : goal.decreases-array_suffix
decreases-array_suffix l = 8 * l.frame.levels + 4

abbrev pub decreases-arguments : goal.decreases-arguments
decreases-arguments l = 8 * l.frame.levels + 1

abbrev pub invariant-read-suffixes : goal.invariant-read-suffixes
invariant-read-suffixes l = record {
  height : l.found.height ≡ depth (view l.found.tree.value);
  low : l.found.height ≤ l.frame.levels;
  some : 0 < l.frame.levels;
  shorter : length l.found.rest.now ≤ length l.tokens;
  exact : (m : ℕ) × (l.frame.levels < m + l.found.height) × (climb l.frame.bytes.now m (reader l.frame.bytes.now l.names (l.frame.levels - 1)) l.frame.levels l.level (view l.found.tree.value) l.found.rest.now ≡ trees_in l.frame l.names l.level l.tokens);
}

abbrev pub decreases-read-suffixes : goal.decreases-read-suffixes
decreases-read-suffixes l = length l.found.rest.now

abbrev pub invariant-arguments-items : goal.invariant-arguments-items
invariant-arguments-items l = record {
  height : l.height ≡ depth_of (views_of l.items.items);
  low : l.height ≤ l.frame.levels;
  shorter : length l.rest ≤ length l.tokens;
  exact : (m : ℕ) × (length l.rest < m) × (with_front (views_of l.items.items) (rest_at m (trees_in l.frame l.names) l.rest) ≡ arguments_at (trees_in l.frame l.names) l.tokens);
}

abbrev pub decreases-arguments-items : goal.decreases-arguments-items
decreases-arguments-items l = length l.rest

abbrev pub invariant-array_suffixes-suffixes : goal.invariant-array_suffixes-suffixes
invariant-array_suffixes-suffixes l = record {
  height : l.height ≡ suffixes_depth (suffixes_of l.suffixes.items);
  low : l.height ≤ l.frame.levels;
  shorter : length l.rest ≤ length l.tokens;
  exact : (m : ℕ) × (length l.rest < m) × Remains (bracket_at (trees_in l.frame l.names)) m tt (map pair_of l.suffixes.items) l.rest (many_at (bracket_at (trees_in l.frame l.names)) (length l.tokens + 1) tt l.tokens);
}

abbrev pub decreases-array_suffixes-suffixes : goal.decreases-array_suffixes-suffixes
decreases-array_suffixes-suffixes l = length l.rest
