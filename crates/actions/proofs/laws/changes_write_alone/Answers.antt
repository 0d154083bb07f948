use Rattle.actions.proofs.Changes.{writes_alone}
use Rattle.actions.proofs.laws.changes_write_alone.Goals as goal

pub returns : goal.returns
returns c = writes_alone
