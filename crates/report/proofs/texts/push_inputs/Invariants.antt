use Rattle.std.proofs.Common.{◌≡◌, ◌++◌}
use Rattle.std.specs.String.{string_bytes}
use Rattle.std.specs.List.{flat_map}
use Rattle.report.specs.Report.{inputs_line}
use Rattle.report.specs.Failing.{drew}
use Rattle.report.proofs.texts.push_inputs.Given as goal

abbrev pub invariant-loop-thread : goal.invariant-loop-thread
invariant-loop-thread l = string_bytes l.text ++ flat_map inputs_line (drew l.thread-iterator) ≡ string_bytes l.fn.text ++ flat_map inputs_line (drew l.inputs)
