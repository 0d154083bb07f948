use Rattle.std.proofs.Common.{ℕ}
use Rattle.weave.proofs.Ranking.{ranks_rise}
use Rattle.weave.proofs.laws.ranks_rise.Goals as goal

pub returns : goal.returns
returns c = ranks_rise ℕ
