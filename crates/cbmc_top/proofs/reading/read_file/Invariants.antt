use Rattle.std.proofs.Common.{◌≡◌, ◌≢◌, ◌≤◌, ◌-◌, ℕ, List, length}
use Rattle.cbmc_top.specs.Calls.{AreFirst}
use Rattle.cbmc_top.proofs.reading.read_file.Given as goal

abbrev pub invariant-reading : goal.invariant-reading
invariant-reading g l = record {
  buffer : length l.buffer.items ≡ 16384;
  held : (other : List ℕ) → g.S.Source.holds l.files other ≡ g.S.Source.holds l.initial.files other;
  others : (other : List ℕ) → other ≢ l.name → g.S.Source.faults l.files other ≡ g.S.Source.faults l.initial.files other;
  same : g.S.Source.faults l.files l.name ≡ g.S.Source.faults l.initial.files l.name;
  later : g.S.Source.faults l.initial.files l.name ≤ g.S.Source.faults l.files l.name;
  first : AreFirst (g.S.Source.holds l.initial.files l.name) l.bytes.items;
}

abbrev pub decreases-reading : goal.decreases-reading
decreases-reading g l = 1048577 - length l.bytes.items
