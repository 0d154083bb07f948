use Rattle.std.proofs.Common.{◌≡◌, drop, length}
use Rattle.c_meaning.specs.Source.{with_addresses}
use Rattle.c_meaning.proofs.objects.put_addresses.Given as goal

abbrev pub invariant-loop-address : goal.invariant-loop-address
invariant-loop-address l = (with_addresses l.literals (drop l.address-index l.addresses) l.bytes ≡ with_addresses l.literals l.addresses l.initial.bytes) × (length l.bytes ≡ length l.initial.bytes)
