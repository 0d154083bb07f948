use Rattle.std.proofs.Common.{◌≡◌, drop}
use Rattle.report.specs.FileNames.{all_name_bytes}
use Rattle.report.proofs.lines.are_name_bytes.Given as goal

abbrev pub invariant-loop-byte : goal.invariant-loop-byte
invariant-loop-byte l = all_name_bytes (drop l.byte-index l.text) ≡ all_name_bytes l.text
