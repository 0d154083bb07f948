use Rattle.bit_blast.proofs.Gathering.{all_number, any_number}
use Rattle.bit_blast.proofs.operations.quantify.Goals as goal

pub returns-in_ok-bit-in-All-clause-is : goal.returns-in_ok-bit-in-All-clause-is
returns-in_ok-bit-in-All-clause-is c = all_number _ c.args.quantifier c.in_ok-each-in-All.each c.args.literals.now c.in_ok-bit-in-All.field-0 c.in-All.is c.in_ok-each-in-All.ensures.is c.in_ok-bit-in-All.ensures

pub returns-in_ok-bit-in-Any-clause-is : goal.returns-in_ok-bit-in-Any-clause-is
returns-in_ok-bit-in-Any-clause-is c = any_number _ c.args.quantifier c.in_ok-one-in-Any.one c.args.literals.now c.in_ok-bit-in-Any.field-0 c.in-Any.is c.in_ok-one-in-Any.ensures.is c.in_ok-bit-in-Any.ensures
