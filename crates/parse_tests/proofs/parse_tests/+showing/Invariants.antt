use Rattle.std.proofs.Common.{◌+◌, ◌*◌}
use Rattle.parse_tests.proofs.parse_tests.+showing.Given as goal

abbrev pub decreases-show : goal.decreases-show
decreases-show l = 2 * l.levels

abbrev pub decreases-show_item : goal.decreases-show_item
decreases-show_item l = 2 * l.levels + 1

abbrev pub decreases-show_body : goal.decreases-show_body
decreases-show_body l = 2 * l.levels + 1
