use Rattle.std.proofs.Common.{◌≡◌, ℕ, [], length, get_or}
use Rattle.cdcl_core.proofs.Listing.{items_of}
use Rattle.std.proofs.Common.{map}
use Rattle.cdcl_core.proofs.lists.Lists.new.Given as goal

abbrev pub invariant-loop : goal.invariant-loop
invariant-loop l = (length l.lists.items ≡ l.counter) × ((i : ℕ) → get_or (map items_of l.lists.items) i [] ≡ [])
