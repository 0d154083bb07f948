use Rattle.std.proofs.Common.{◌≡◌, ℕ, false, length, get_or}
use Rattle.cdcl_core.specs.Steps.{oldest}
use Rattle.cdcl_core.specs.Spare.{AreReasonsOff}
use Rattle.cdcl_core.proofs.search.Search.keep_reasons.Given as goal

abbrev pub invariant-loop-place : goal.invariant-loop-place
invariant-loop-place l = record {
  count : length l.marks.items ≡ length l.fn.marks.items;
  reasons : AreReasonsOff l.marks.items (oldest l.place l.self.trail.steps);
  off : (k : ℕ) → get_or l.fn.marks.items k false ≡ false → get_or l.marks.items k false ≡ false;
}
