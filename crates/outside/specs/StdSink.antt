use Rattle.std.specs.Prelude.{ℕ}
use Rattle.outside.specs.declared.system.StdSink.{StdSink}

-- How many writes failed or took nothing of a piece.
abbrev pub faults_of : {R : Type 0} → StdSink R → ℕ
faults_of sink = sink.faults
