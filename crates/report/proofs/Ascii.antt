-- Bytes below 128, which are UTF-8.
use Rattle.std.proofs.Common.{◌≡◌, ℕ, suc, zero, ◌<◌, ◌^◌, true, ◌&&◌, Bool, List, [], ◌∷◌, arith}
use Rattle.std.proofs.lemmas.Bool.Decides.{nat_tests}
use Rattle.std.proofs.lemmas.Fmt.{IsAscii-decimal}
use Rattle.std.proofs.lemmas.Str.{IsUtf8-from_ascii}
use Rattle.std.specs.Fmt.{decimal}
use Rattle.std.specs.Prelude.{nat_lt}
use Rattle.std.specs.Str.{IsAscii, IsUtf8}
use Rattle.report.proofs.Both.{and_both}

abbrev pub all_small : List ℕ → Bool
all_small [] = true
all_small (c ∷ cs) = nat_lt c 128 && all_small cs

below_128 : (c : ℕ) → nat_lt c 128 ≡ true → c < 128
below_128 c h = grind (arith, nat_tests)

small_ascii : (cs : List ℕ) → all_small cs ≡ true → IsAscii cs
small_ascii [] h i = omega arith
small_ascii (c ∷ cs) h zero = below_128 c (and_both (nat_lt c 128) (all_small cs) h).0
small_ascii (c ∷ cs) h (suc i) = small_ascii cs (and_both (nat_lt c 128) (all_small cs) h).1 i

pub small_utf8 : (cs : List ℕ) → all_small cs ≡ true → IsUtf8 cs
small_utf8 cs h = IsUtf8-from_ascii cs (small_ascii cs h)

pub decimal_utf8 : (n : ℕ) → n < 2 ^ 64 → IsUtf8 (decimal n)
decimal_utf8 n small = IsUtf8-from_ascii (decimal n) (IsAscii-decimal n small)
