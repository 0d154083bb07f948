-- What was told so far.
use Rattle.std.specs.Prelude.{true, []}
use Rattle.words.specs.declared.check.Class.TheVariants.{Assertion}
use Rattle.report.specs.Lines.{Parts}
use Rattle.report.specs.declared.reading.TraceText.{TraceText}

abbrev pub parts_of : TraceText → Parts
parts_of t = record {
  name = t.name.bytes.items;
  unwind = t.unwind;
  assertions = t.assertions;
  class = t.class;
  line = t.line;
  function = t.function.bytes.items;
  thread = t.thread;
  inputs = t.inputs;
  rows = t.schedule;
}

-- before the first line
abbrev pub nothing_told : Parts
nothing_told = record { name = []; unwind = 0; assertions = true; class = Assertion; line = 0; function = []; thread = 0; inputs = []; rows = [] }
