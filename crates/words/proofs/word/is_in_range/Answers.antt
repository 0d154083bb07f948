use Rattle.std.proofs.Common.{◌≡◌, w64, to_z, of_z, sym}
use Rattle.std.proofs.lemmas.Int.{to_z-of_z}
use Rattle.words.proofs.SignedBodies.{in_range_zero, in_range_other}
use Rattle.words.proofs.word.is_in_range.Goals as goal

pub returns-then-sign-eq0 : goal.returns-then-sign-eq0
returns-then-sign-eq0 c =
    let same : to_z w64 (of_z w64 c.args.number) ≡ c.args.number = to_z-of_z w64 c.args.number c.ranges.number in
    let zero = rw same at c.if-sign-eq0.true in
    rw (same, zero) (sym (in_range_zero c.args.width c.args.number c.ranges.number zero))

pub returns-else-sign-eq0 : goal.returns-else-sign-eq0
returns-else-sign-eq0 c =
    let same : to_z w64 (of_z w64 c.args.number) ≡ c.args.number = to_z-of_z w64 c.args.number c.ranges.number in
    let other = rw same at c.if-sign-eq0.false in
    rw same (in_range_other c.args.width c.args.number c.ranges.number other)
