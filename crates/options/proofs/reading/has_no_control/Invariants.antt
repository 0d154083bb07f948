use Rattle.std.proofs.Common.{◌≡◌, drop}
use Rattle.report.specs.FileNames.{all_name_bytes}
use Rattle.options.proofs.reading.has_no_control.Given as goal

abbrev pub invariant-loop-byte : goal.invariant-loop-byte
invariant-loop-byte l = all_name_bytes (drop l.byte-index l.text) ≡ all_name_bytes l.text
