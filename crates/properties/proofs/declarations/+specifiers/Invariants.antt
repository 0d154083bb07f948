use Rattle.std.proofs.Common.{◌≡◌, ◌+◌, ◌*◌, min, length, take, fold}
use Rattle.c_tree.specs.Declarations.{view_part, parts_of, members_of, view_full, fulls_of, view_full_suffix, full_suffixes_of, full_end, parameters_of, part_depth, parts_depth, members_depth, full_depth, fulls_depth, full_suffixes_depth, parameters_depth}
use Rattle.properties.proofs.Behind.{by_specifier, by_member, by_full, by_full_suffix, by_parameter}
use Rattle.properties.proofs.declarations.+specifiers.Given as goal

abbrev pub invariant-push_parts-loop-specifier : goal.invariant-push_parts-loop-specifier
invariant-push_parts-loop-specifier l = l.spots.items ≡ fold by_specifier l.fn.spots.items (take l.specifier-index l.specifiers)

abbrev pub invariant-push_members-loop-member : goal.invariant-push_members-loop-member
invariant-push_members-loop-member l = l.spots.items ≡ fold by_member l.fn.spots.items (take l.member-index l.members)

abbrev pub invariant-push_fulls-loop-declarator : goal.invariant-push_fulls-loop-declarator
invariant-push_fulls-loop-declarator l = l.spots.items ≡ fold by_full l.fn.spots.items (take l.declarator-index l.declarators)

abbrev pub invariant-push_full_suffixes-loop-suffix : goal.invariant-push_full_suffixes-loop-suffix
invariant-push_full_suffixes-loop-suffix l = l.spots.items ≡ fold by_full_suffix l.fn.spots.items (take l.suffix-index l.suffixes)

abbrev pub invariant-push_parameters-loop-parameter : goal.invariant-push_parameters-loop-parameter
invariant-push_parameters-loop-parameter l = l.spots.items ≡ fold by_parameter l.fn.spots.items (take l.parameter-index l.parameters)

abbrev pub decreases-push_part : goal.decreases-push_part
decreases-push_part l = 5 * part_depth (view_part l.specifier.now)

abbrev pub decreases-push_full : goal.decreases-push_full
decreases-push_full l = 5 * full_depth (view_full l.declarator.now) + 1

abbrev pub decreases-push_parts : goal.decreases-push_parts
decreases-push_parts l = 5 * parts_depth (parts_of l.specifiers.now) + 1

abbrev pub decreases-push_fulls : goal.decreases-push_fulls
decreases-push_fulls l = 5 * fulls_depth (fulls_of l.declarators.now) + 2

abbrev pub decreases-push_members : goal.decreases-push_members
decreases-push_members l = 5 * members_depth (members_of l.members.now) + 3

abbrev pub decreases-push_parameters : goal.decreases-push_parameters
decreases-push_parameters l = 5 * parameters_depth (parameters_of l.parameters.now) + 2

abbrev pub decreases-push_full_suffix : goal.decreases-push_full_suffix
decreases-push_full_suffix l = 5 * full_suffixes_depth (view_full_suffix l.suffix.now full_end) + 3

abbrev pub decreases-push_full_suffixes : goal.decreases-push_full_suffixes
decreases-push_full_suffixes l = 5 * full_suffixes_depth (full_suffixes_of l.suffixes.now) + 4 * min 1 (length l.suffixes.now)
