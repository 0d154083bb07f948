use Rattle.actions.proofs.RowReads.{looks_alone}
use Rattle.actions.proofs.laws.rows_look_alone.Goals as goal

pub returns : goal.returns
returns c = looks_alone
