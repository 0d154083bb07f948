use Rattle.std.proofs.Common.{◌≡◌, ◌++◌, take}
use Rattle.gate_bits.specs.Clauses.{each_clauses}
use Rattle.gate_bits.proofs.gates.add_each.Given as goal

abbrev pub invariant-loop-literal : goal.invariant-loop-literal
invariant-loop-literal l = l.cnf ≡ record l.fn.cnf { clauses = l.fn.cnf.clauses ++ each_clauses (take l.literal-index l.literals) l.fn.out }
