use Rattle.report.proofs.OneReading.{one_reading}
use Rattle.report.proofs.laws.one_reading.Goals as goal

pub returns : goal.returns
returns c = one_reading
