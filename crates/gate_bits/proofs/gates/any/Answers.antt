use Rattle.gate_bits.proofs.Inverting.{any_is, any_within}
use Rattle.gate_bits.proofs.gates.any.Goals as goal

pub all-requires : goal.all-requires
all-requires c = any_within _ c.args.literals.now _ _ c.in_ok-inverse.ensures c.deref.ensures.value c.requires

pub returns-clause-is : goal.returns-clause-is
returns-clause-is c = any_is _ c.args.literals.now _ _ _ _ c.in_ok-inverse.ensures c.deref.ensures.value c.in_ok-none.ensures.is c.inverse.ensures
