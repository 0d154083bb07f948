use Rattle.std.proofs.Common.{◌+◌, ◌*◌}
use Rattle.parse_tests.proofs.parse_tests.+specifiers.Given as goal

abbrev pub decreases-show_members : goal.decreases-show_members
decreases-show_members l = 8 * l.levels

abbrev pub decreases-show_declarator : goal.decreases-show_declarator
decreases-show_declarator l = 8 * l.levels

abbrev pub decreases-show_specifier : goal.decreases-show_specifier
decreases-show_specifier l = 8 * l.levels + 1

abbrev pub decreases-show_specifiers : goal.decreases-show_specifiers
decreases-show_specifiers l = 8 * l.levels + 2

abbrev pub decreases-show_parameters : goal.decreases-show_parameters
decreases-show_parameters l = 8 * l.levels + 3

abbrev pub decreases-show_suffix : goal.decreases-show_suffix
decreases-show_suffix l = 8 * l.levels + 4

abbrev pub decreases-show_suffixes : goal.decreases-show_suffixes
decreases-show_suffixes l = 8 * l.levels + 5
