use Rattle.std.proofs.Common.{◌≡◌, ◌-◌, ◌*◌}
use Rattle.goto_lower.specs.Statements.{after_words}
use Rattle.goto_lower.proofs.first_values.draw_words.Given as goal

abbrev pub invariant-loop-word : goal.invariant-loop-word
invariant-loop-word l = after_words l.draft (l.word-end - l.word) l.line l.variable (8 * l.word) ≡ after_words l.initial.draft l.word-end l.line l.variable 0
