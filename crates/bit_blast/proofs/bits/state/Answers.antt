use Rattle.bit_blast.proofs.Rearranging.{grows_state}
use Rattle.bit_blast.proofs.bits.state.Goals as goal

pub returns-clause-grows : goal.returns-clause-grows
returns-clause-grows c = grows_state _ _ _ c.requires.one c.in_ok-add.ensures.ok
