use Rattle.std.proofs.Common.{◌≡◌, ◌+◌, ◌*◌, take}
use Rattle.c_tree.specs.Declarations.{view_part, parts_of, members_of, part_depth, parts_depth, members_depth, with_parts, with_members}
use Rattle.c_parse_parts.proofs.declared.+declared.Given as goal

abbrev pub invariant-declare_parts-loop-specifier : goal.invariant-declare_parts-loop-specifier
invariant-declare_parts-loop-specifier l = l.names ≡ with_parts l.fn.names (parts_of (take l.specifier-index l.specifiers))

abbrev pub invariant-declare_members-loop-member : goal.invariant-declare_members-loop-member
invariant-declare_members-loop-member l = l.names ≡ with_members l.fn.names (members_of (take l.member-index l.members))

abbrev pub decreases-declare_part : goal.decreases-declare_part
decreases-declare_part l = 3 * part_depth (view_part l.specifier.now)

abbrev pub decreases-declare_parts : goal.decreases-declare_parts
decreases-declare_parts l = 3 * parts_depth (parts_of l.specifiers.now) + 1

abbrev pub decreases-declare_members : goal.decreases-declare_members
decreases-declare_members l = 3 * members_depth (members_of l.members.now) + 2
