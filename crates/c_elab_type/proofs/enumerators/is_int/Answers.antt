use Rattle.std.proofs.Common.{◌≡◌, w64, to_z, of_z}
use Rattle.std.proofs.lemmas.Int.{to_z-of_z}
use Rattle.c_elab_base.proofs.Comparing.{not_above, not_below}
use Rattle.c_elab_type.proofs.enumerators.is_int.Goals as goal

pub returns-then-number-geminus2147483648 : goal.returns-then-number-geminus2147483648
returns-then-number-geminus2147483648 c =
    let same : to_z w64 (of_z w64 c.args.number) ≡ c.args.number = to_z-of_z w64 c.args.number c.ranges.number in
    let low = rw same at c.if-number-geminus2147483648.true in
    rw same (not_above c.args.number low)

pub returns-else-number-geminus2147483648 : goal.returns-else-number-geminus2147483648
returns-else-number-geminus2147483648 c =
    let same : to_z w64 (of_z w64 c.args.number) ≡ c.args.number = to_z-of_z w64 c.args.number c.ranges.number in
    let low = rw same at c.if-number-geminus2147483648.false in
    rw same (not_below c.args.number low)
