use Rattle.std.proofs.Common.{◌≡◌, ◌≤◌, true, length, drop}
use Rattle.report.specs.Runs.{passes}
use Rattle.report.proofs.OneLine.{other_than}
use Rattle.report.proofs.lines.split_last.Given as goal

abbrev pub invariant-places : goal.invariant-places
invariant-places l = record {
  within : l.at ≤ length l.text;
  none : passes (other_than 32) (drop l.at l.text) ≡ true;
}

abbrev pub decreases-places : goal.decreases-places
decreases-places l = l.at
