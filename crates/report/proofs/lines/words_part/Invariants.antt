use Rattle.std.proofs.Common.{◌≡◌, ◌<◌, ◌^◌, ◌++◌, true, length, All}
use Rattle.std.specs.Char.{is_ascii_digit}
use Rattle.report.specs.Report.{spaced_words}
use Rattle.report.specs.Runs.{fails}
use Rattle.report.proofs.lines.words_part.Given as goal

abbrev pub invariant-words : goal.invariant-words
invariant-words l = record {
  whole : l.text ≡ spaced_words l.words.items ++ l.rest;
  small : All (λ w. w < 2 ^ 64) l.words.items;
  past : 0 < length l.words.items → fails is_ascii_digit l.rest ≡ true;
}

abbrev pub decreases-words : goal.decreases-words
decreases-words l = length l.rest
