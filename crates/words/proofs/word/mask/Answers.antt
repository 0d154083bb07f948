use Rattle.std.proofs.Common.{◌≡◌, ◌-◌, ◌^◌, ℕ, ap, ◌∙◌, arith}
use Rattle.std.proofs.lemmas.Nat.Bits.{ones_shr}
use Rattle.words.proofs.word.mask.Goals as goal

pub returns : goal.returns
returns c =
    let back : 64 - (64 - c.args.width) ≡ c.args.width = omega arith in
    ones_shr 64 (64 - c.args.width) (omega arith) ∙ ap (λ (n : ℕ). 2 ^ n - 1) back
