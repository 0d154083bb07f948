use Rattle.sat_form.proofs.Within.{IsWithin-weaker}
use Rattle.bit_blast.proofs.Rearranging.{zeros_above}
use Rattle.bit_blast.proofs.bits.zero_extended.Goals as goal

pub returns-clause-is : goal.returns-clause-is
returns-clause-is c = zeros_above _ _ _ c.in_ok-literals.ensures.0 _ c.args.one _ (IsWithin-weaker _ _ c.args.a.now c.state.ensures.grows.variables c.requires.a) c.in_ok-state.ensures.is c.inverse.ensures c.in_ok-literals.ensures.1 c.in_ok-literals.ensures.2
