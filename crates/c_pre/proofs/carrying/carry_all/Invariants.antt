use Rattle.std.proofs.Common.{◌≤◌, length, map}
use Rattle.c_pre.specs.Views.{tokens_of, setting_in, state_at}
use Rattle.c_pre.specs.Known.{Recalls}
use Rattle.c_pre.proofs.Carried.{Completes}
use Rattle.c_pre.proofs.Flags.{behind}
use Rattle.c_pre.proofs.carrying.carry_all.Given as goal

abbrev pub invariant-loop-i : goal.invariant-loop-i
invariant-loop-i l = record {
  few : length l.out.items ≤ 200000;
  recalls : Recalls l.frame.bytes.now l.place;
  completes : Completes (setting_in l.frame) (map tokens_of l.lines) (behind l.i l.lines) (state_at l.place) l.out.items;
}
