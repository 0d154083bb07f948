use Rattle.c_interp.specs.SourceThread.{small_steps, enough_fuel}
use Rattle.c_interp.proofs.replay.small_steps_mean.Goals as goal

pub returns-clause-steps : goal.returns-clause-steps
returns-clause-steps c = small_steps

pub returns-clause-fuel : goal.returns-clause-fuel
returns-clause-fuel c = enough_fuel
