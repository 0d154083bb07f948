use Rattle.c_pre.specs.Known.{IsBehind}
use Rattle.c_pre.proofs.rising.last_before.Given as goal

abbrev pub invariant-loop : goal.invariant-loop
invariant-loop l = record {
  behind : IsBehind l.nodes l.node l.at;
  outside : IsBehind l.nodes l.entry l.at → ⊥;
}
