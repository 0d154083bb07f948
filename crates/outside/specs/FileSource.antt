use Rattle.std.specs.Prelude.{ℕ, List}
use Rattle.outside.specs.declared.system.FileSource.{FileSource}
use Rattle.outside.specs.FaultCounts.{count_of}

-- How often reading a name failed.
abbrev pub faults_of : {R : Type 0} → FileSource R → List ℕ → ℕ
faults_of source name = count_of source.faults name
