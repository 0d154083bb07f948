use Rattle.std.proofs.Common.{◌≡◌, ◌≢◌, ℕ, List, Option, Some, None, ap, sym, subst}
use Rattle.cbmc_top.proofs.reading.bytes_of.Goals as goal
