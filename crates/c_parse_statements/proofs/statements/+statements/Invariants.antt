use Rattle.std.proofs.Common.{◌<◌, ◌≤◌, ◌+◌, ◌*◌, ℕ, length}
use Rattle.c_parse_statements.specs.inner.Reading.{items_list, items_at, statements_in}
use Rattle.c_parse_statements.specs.inner.Pieces.{piece_of}
use Rattle.c_parse_parts.proofs.Lists.{Left}
use Rattle.c_parse_parts.proofs.Loops.{Extends}
use Rattle.c_parse_statements.proofs.statements.+statements.Given as goal

abbrev pub decreases-statement : goal.decreases-statement
decreases-statement l = 16 * l.frame.levels

abbrev pub decreases-started : goal.decreases-started
decreases-started l = 16 * l.frame.levels + 9

abbrev pub decreases-begun : goal.decreases-begun
decreases-begun l = 16 * l.frame.levels + 8

abbrev pub decreases-block : goal.decreases-block
decreases-block l = 16 * l.frame.levels + 7

abbrev pub decreases-if_statement : goal.decreases-if_statement
decreases-if_statement l = 16 * l.frame.levels + 7

abbrev pub decreases-branches : goal.decreases-branches
decreases-branches l = 16 * l.frame.levels + 6

abbrev pub decreases-items : goal.decreases-items
decreases-items l = 16 * l.frame.levels + 6

abbrev pub decreases-item : goal.decreases-item
decreases-item l = 16 * l.frame.levels + 5

abbrev pub decreases-while_statement : goal.decreases-while_statement
decreases-while_statement l = 16 * l.frame.levels + 7

abbrev pub decreases-switch_statement : goal.decreases-switch_statement
decreases-switch_statement l = 16 * l.frame.levels + 7

abbrev pub decreases-do_statement : goal.decreases-do_statement
decreases-do_statement l = 16 * l.frame.levels + 7

abbrev pub decreases-header : goal.decreases-header
decreases-header l = 16 * l.frame.levels + 5

abbrev pub decreases-declared_for : goal.decreases-declared_for
decreases-declared_for l = 16 * l.frame.levels + 6

abbrev pub decreases-plain_for : goal.decreases-plain_for
decreases-plain_for l = 16 * l.frame.levels + 6

abbrev pub decreases-for_statement : goal.decreases-for_statement
decreases-for_statement l = 16 * l.frame.levels + 7

abbrev pub decreases-case_statement : goal.decreases-case_statement
decreases-case_statement l = 16 * l.frame.levels + 7

abbrev pub decreases-default_statement : goal.decreases-default_statement
decreases-default_statement l = 16 * l.frame.levels + 7

abbrev pub decreases-labelled_statement : goal.decreases-labelled_statement
decreases-labelled_statement l = 16 * l.frame.levels + 7

abbrev pub invariant-items-items : goal.invariant-items-items
invariant-items-items l = record {
  shorter : length l.rest ≤ length l.tokens;
  exact : (m : ℕ) × (length l.rest < m) × Left (items_list l.frame.bytes.now l.frame.levels (statements_in l.frame)) piece_of m l.names l.items.items l.rest (items_at l.frame.bytes.now l.frame.levels (statements_in l.frame) l.fn.names l.tokens);
  names : Extends l.fn.names l.names;
}

abbrev pub decreases-items-items : goal.decreases-items-items
decreases-items-items l = length l.rest
