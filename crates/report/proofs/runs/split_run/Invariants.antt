use Rattle.std.proofs.Common.{◌≡◌, true, take}
use Rattle.report.specs.Runs.{passes, is_of}
use Rattle.report.proofs.runs.split_run.Given as goal

abbrev pub invariant-loop-at : goal.invariant-loop-at
invariant-loop-at l = passes (is_of l.run) (take l.at l.text) ≡ true
