use Rattle.parse_tests.proofs.parse_tests.+initializers.Given as goal

abbrev pub decreases-show_initializer : goal.decreases-show_initializer
decreases-show_initializer l = l.levels
