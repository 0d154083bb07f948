use Rattle.std.proofs.Common.{◌≡◌, ◌+◌}
use Rattle.bit_blast.specs.Variables.{plain_literals}
use Rattle.bit_blast.proofs.variables.fresh_literals.Given as goal

abbrev pub invariant-loop : goal.invariant-loop
invariant-loop l = record {
  literals_are : l.literals.items ≡ plain_literals l.fn.cnf.variables l.counter;
  form_is : l.cnf ≡ record l.fn.cnf { variables = l.fn.cnf.variables + l.counter };
}
