use Rattle.std.proofs.Common.{◌≡◌, ◌<◌, ◌≤◌, ◌+◌, ◌*◌, ℕ, length, false}
use Rattle.c_tree.specs.Declarations.{view_part, parts_of, members_of, view_full, with_parts, with_members, have_typedef}
use Rattle.c_parse_parts.specs.inner.Reading.{parts_list, parts_at, members_list, members_at, fulls_list, fulls_at, suffixes_list, suffixes_at, parameters_list, parameters_at, bodies_in, fulls_in}
use Rattle.c_parse_parts.specs.inner.Pieces.{suffix_of, parameter_of}
use Rattle.c_parse_parts.proofs.Lists.{Left}
use Rattle.c_parse_parts.proofs.Loops.{member_of, Extends}
use Rattle.c_parse_parts.proofs.parts.+specifiers.Given as goal

abbrev pub decreases-body : goal.decreases-body
decreases-body l = 16 * l.frame.levels

abbrev pub decreases-full : goal.decreases-full
decreases-full l = 16 * l.frame.levels

abbrev pub decreases-record : goal.decreases-record
decreases-record l = 16 * l.frame.levels + 1

abbrev pub decreases-specifier : goal.decreases-specifier
decreases-specifier l = 16 * l.frame.levels + 2

abbrev pub decreases-specifiers : goal.decreases-specifiers
decreases-specifiers l = 16 * l.frame.levels + 3

abbrev pub decreases-parameter : goal.decreases-parameter
decreases-parameter l = 16 * l.frame.levels + 4

abbrev pub decreases-next_parameter : goal.decreases-next_parameter
decreases-next_parameter l = 16 * l.frame.levels + 5

abbrev pub decreases-parameters : goal.decreases-parameters
decreases-parameters l = 16 * l.frame.levels + 6

abbrev pub decreases-given : goal.decreases-given
decreases-given l = 16 * l.frame.levels + 7

abbrev pub decreases-taken : goal.decreases-taken
decreases-taken l = 16 * l.frame.levels + 8

abbrev pub decreases-suffix : goal.decreases-suffix
decreases-suffix l = 16 * l.frame.levels + 9

abbrev pub decreases-suffixes : goal.decreases-suffixes
decreases-suffixes l = 16 * l.frame.levels + 10

abbrev pub decreases-inside : goal.decreases-inside
decreases-inside l = 16 * l.frame.levels + 11

abbrev pub decreases-full_behind : goal.decreases-full_behind
decreases-full_behind l = 16 * l.frame.levels + 12

abbrev pub decreases-next_declarator : goal.decreases-next_declarator
decreases-next_declarator l = 16 * l.frame.levels + 4

abbrev pub decreases-declarators : goal.decreases-declarators
decreases-declarators l = 16 * l.frame.levels + 5

abbrev pub decreases-member : goal.decreases-member
decreases-member l = 16 * l.frame.levels + 6

abbrev pub decreases-members : goal.decreases-members
decreases-members l = 16 * l.frame.levels + 7

abbrev pub invariant-members-members : goal.invariant-members-members
invariant-members-members l = record {
  shorter : length l.rest ≤ length l.tokens;
  exact : (m : ℕ) × (length l.rest < m) × Left (members_list l.frame.bytes.now l.frame.levels (bodies_in l.frame) (fulls_in l.frame)) member_of m l.names l.members.items l.rest (members_at l.frame.bytes.now l.frame.levels (bodies_in l.frame) (fulls_in l.frame) l.fn.names l.tokens);
  names : l.names ≡ with_members l.fn.names (members_of l.members.items);
}

abbrev pub decreases-members-members : goal.decreases-members-members
decreases-members-members l = length l.rest

abbrev pub invariant-declarators-declarators : goal.invariant-declarators-declarators
invariant-declarators-declarators l = record {
  shorter : length l.rest ≤ length l.tokens;
  exact : (m : ℕ) × (length l.rest < m) × Left (fulls_list (fulls_in l.frame false)) view_full m (l.names, l.first) l.declarators.items l.rest (fulls_at (fulls_in l.frame false) l.fn.names l.tokens);
  names : l.names ≡ l.fn.names;
}

abbrev pub decreases-declarators-declarators : goal.decreases-declarators-declarators
decreases-declarators-declarators l = length l.rest

abbrev pub invariant-suffixes-suffixes : goal.invariant-suffixes-suffixes
invariant-suffixes-suffixes l = record {
  shorter : length l.rest ≤ length l.tokens;
  exact : (m : ℕ) × (length l.rest < m) × Left (suffixes_list l.frame.bytes.now l.frame.levels (bodies_in l.frame) (fulls_in l.frame)) suffix_of m l.names l.items.items l.rest (suffixes_at l.frame.bytes.now l.frame.levels (bodies_in l.frame) (fulls_in l.frame) l.fn.names l.tokens);
  names : l.names ≡ l.fn.names;
}

abbrev pub decreases-suffixes-suffixes : goal.decreases-suffixes-suffixes
decreases-suffixes-suffixes l = length l.rest

abbrev pub invariant-parameters-parameters : goal.invariant-parameters-parameters
invariant-parameters-parameters l = record {
  shorter : length l.rest ≤ length l.tokens;
  exact : (m : ℕ) × (length l.rest < m) × Left (parameters_list l.frame.bytes.now l.frame.levels (bodies_in l.frame) (fulls_in l.frame)) parameter_of m (l.names, l.first) l.items.items l.rest (parameters_at l.frame.bytes.now l.frame.levels (bodies_in l.frame) (fulls_in l.frame) l.fn.names l.tokens);
  names : Extends l.fn.names l.names;
}

abbrev pub decreases-parameters-parameters : goal.decreases-parameters-parameters
decreases-parameters-parameters l = length l.rest

abbrev pub invariant-specifiers-specifiers : goal.invariant-specifiers-specifiers
invariant-specifiers-specifiers l = record {
  shorter : length l.rest ≤ length l.tokens;
  exact : (m : ℕ) × (length l.rest < m) × Left (parts_list l.inner l.frame.bytes.now l.frame.levels (bodies_in l.frame)) view_part m (l.names, l.before) l.items.items l.rest (parts_at l.inner l.frame.bytes.now l.frame.levels (bodies_in l.frame) l.fn.names l.tokens);
  names : l.names ≡ with_parts l.fn.names (parts_of l.items.items);
  types : l.types ≡ have_typedef (parts_of l.items.items);
}

abbrev pub decreases-specifiers-specifiers : goal.decreases-specifiers-specifiers
decreases-specifiers-specifiers l = length l.rest
