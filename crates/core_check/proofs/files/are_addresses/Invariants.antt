use Rattle.std.proofs.Common.{◌≡◌, drop}
use Rattle.core_check.specs.Around.{are_addresses}
use Rattle.core_check.proofs.files.are_addresses.Given as goal

abbrev pub invariant-loop-place : goal.invariant-loop-place
invariant-loop-place l = l.all ≡ are_addresses l.objects l.literals l.size (drop l.place l.addresses)
