use Rattle.std.proofs.Common.{◌≡◌, drop}
use Rattle.report.specs.Identifiers.{all_word_bytes}
use Rattle.report.proofs.lines.are_word_bytes.Given as goal

abbrev pub invariant-loop-byte : goal.invariant-loop-byte
invariant-loop-byte l = all_word_bytes (drop l.byte-index l.text) ≡ all_word_bytes l.text
