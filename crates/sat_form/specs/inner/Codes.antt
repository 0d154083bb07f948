-- A literal's code gives its variable and its sign back.
use Rattle.std.proofs.Common.{◌≡◌, ℕ, ◌+◌, ◌*◌, ◌/◌, ◌%◌, arith}
use Rattle.std.specs.Prelude.{nat_eq, if◌then◌else◌}
use Rattle.std.proofs.lemmas.Bool.Decides.{nat_tests}

pub code_of_parts : (code : ℕ) → 2 * (code / 2) + (if nat_eq (code % 2) 1 then 1 else 0) ≡ code
code_of_parts code = grind (arith, nat_tests)
