use Rattle.std.proofs.Common.{◌≡◌, ◌+◌, ◌*◌, take}
use Rattle.c_tree.specs.Declarations.{view_part, parts_of, members_of, view_full, fulls_of, view_full_suffix, full_suffixes_of, full_end, parameters_of, part_depth, parts_depth, members_depth, full_depth, fulls_depth, full_suffixes_depth, parameters_depth}
use Rattle.c_tree.proofs.file_levels.+specifiers.Given as goal

abbrev pub invariant-parts_depth-loop-specifier : goal.invariant-parts_depth-loop-specifier
invariant-parts_depth-loop-specifier l = l.levels ≡ parts_depth (parts_of (take l.specifier-index l.specifiers))

abbrev pub invariant-members_depth-loop-member : goal.invariant-members_depth-loop-member
invariant-members_depth-loop-member l = l.levels ≡ members_depth (members_of (take l.member-index l.members))

abbrev pub invariant-fulls_depth-loop-declarator : goal.invariant-fulls_depth-loop-declarator
invariant-fulls_depth-loop-declarator l = l.levels ≡ fulls_depth (fulls_of (take l.declarator-index l.declarators))

abbrev pub invariant-full_suffixes_depth-loop-suffix : goal.invariant-full_suffixes_depth-loop-suffix
invariant-full_suffixes_depth-loop-suffix l = l.levels ≡ full_suffixes_depth (full_suffixes_of (take l.suffix-index l.suffixes))

abbrev pub invariant-parameters_depth-loop-parameter : goal.invariant-parameters_depth-loop-parameter
invariant-parameters_depth-loop-parameter l = l.levels ≡ parameters_depth (parameters_of (take l.parameter-index l.parameters))

abbrev pub decreases-part_depth : goal.decreases-part_depth
decreases-part_depth l = 5 * part_depth (view_part l.specifier.now)

abbrev pub decreases-full_depth : goal.decreases-full_depth
decreases-full_depth l = 5 * full_depth (view_full l.declarator.now)

abbrev pub decreases-parts_depth : goal.decreases-parts_depth
decreases-parts_depth l = 5 * parts_depth (parts_of l.specifiers.now) + 1

abbrev pub decreases-fulls_depth : goal.decreases-fulls_depth
decreases-fulls_depth l = 5 * fulls_depth (fulls_of l.declarators.now) + 1

abbrev pub decreases-members_depth : goal.decreases-members_depth
decreases-members_depth l = 5 * members_depth (members_of l.members.now) + 2

abbrev pub decreases-parameters_depth : goal.decreases-parameters_depth
decreases-parameters_depth l = 5 * parameters_depth (parameters_of l.parameters.now) + 2

abbrev pub decreases-full_suffix_depth : goal.decreases-full_suffix_depth
decreases-full_suffix_depth l = 5 * full_suffixes_depth (view_full_suffix l.suffix.now full_end) + 3

abbrev pub decreases-full_suffixes_depth : goal.decreases-full_suffixes_depth
decreases-full_suffixes_depth l = 5 * full_suffixes_depth (full_suffixes_of l.suffixes.now) + 4
