use Rattle.std.proofs.Common.{◌≡◌, ◌++◌, take}
use Rattle.gate_bits.proofs.gates.add_all.Given as goal

abbrev pub invariant-loop-clause : goal.invariant-loop-clause
invariant-loop-clause g l = l.cnf ≡ record l.fn.cnf { clauses = l.fn.cnf.clauses ++ take l.clause-index l.clauses }
