use Rattle.std.proofs.Common.{ℕ}
use Rattle.weave.proofs.Along.{candidates_replay}
use Rattle.weave.proofs.laws.candidates_replay.Goals as goal

pub returns : goal.returns
returns c = candidates_replay ℕ
