use Rattle.options.proofs.Same.{one_command}
use Rattle.options.proofs.laws.one_command.Goals as goal

pub returns : goal.returns
returns c = one_command
