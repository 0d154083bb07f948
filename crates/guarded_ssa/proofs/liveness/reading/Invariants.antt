use Rattle.std.proofs.Common.{◌≡◌, ◌+◌, length, take}
use Rattle.guarded_ssa.specs.inner.Reads.{Covers}
use Rattle.guarded_ssa.proofs.liveness.reading.Given as goal

abbrev pub invariant-loop-place : goal.invariant-loop-place
invariant-loop-place l = record {
  size : length l.until.items ≡ length l.code.registers + length l.code.blocks;
  covers : Covers (length l.code.registers) l.until.items 0 (take l.place l.instruction-items);
}
