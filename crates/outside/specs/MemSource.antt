use Rattle.std.specs.Prelude.{ℕ, List, Option}
use Rattle.outside.specs.declared.mem_source.MemSource.{MemSource}
use Rattle.outside.specs.declared.calls.Calls.{Calls}
use Rattle.outside.specs.HeldFile.{held_in}
use Rattle.outside.specs.FaultCounts as faults

-- What the source holds under a name, how often reading a name failed, and its calls.
abbrev pub held_by : MemSource → List ℕ → Option (List ℕ)
held_by source name = held_in source.files.items name

abbrev pub faults_of : MemSource → List ℕ → ℕ
faults_of source name = faults.count_of source.faults name

abbrev pub calls_of : MemSource → Calls
calls_of source = source.calls
