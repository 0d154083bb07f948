use Rattle.std.proofs.Common.{◌≤◌}
use Rattle.c_pre.specs.Known.{depth_of, IsBehind}
use Rattle.c_pre.proofs.rising.risen.Given as goal

abbrev pub invariant-loop : goal.invariant-loop
invariant-loop l = record {
  behind : IsBehind l.nodes l.node l.at;
  high : l.depth ≤ depth_of l.nodes l.node → l.depth ≤ depth_of l.nodes l.at;
}
