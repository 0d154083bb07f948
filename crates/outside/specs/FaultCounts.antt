use Rattle.std.specs.Prelude.{ℕ, List, unwrap_or}
use Rattle.std.specs.BTreeMap.{get_by_text}
use Rattle.outside.specs.declared.fault_counts.FaultCounts.{FaultCounts}

-- How often reading a name failed.
abbrev pub count_of : FaultCounts → List ℕ → ℕ
count_of faults name = unwrap_or (get_by_text faults.counts name) 0
