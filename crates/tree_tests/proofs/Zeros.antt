-- Bytes that are 0.
use Rattle.std.proofs.Common.{◌≡◌, ℕ, zero, suc, Bool, true, length, refl, ap, arith}
use Rattle.std.specs.Prelude.{◌&&◌, ◌==◌, replicate}
use Rattle.std.proofs.lemmas.Bool.Decides.{nat_tests}
use Rattle.actions.specs.ByteList.{are_bytes}

many : (n : ℕ) → length {A = ℕ} (replicate n 0) ≡ n
many zero = refl
many (suc n) = ap suc (many n)

bytes_all : (n : ℕ) → are_bytes (replicate n 0) ≡ true
bytes_all zero = refl
bytes_all (suc n) = bytes_all n

same : (m n : ℕ) → m ≡ n → (m == n) ≡ true
same m n e = grind (arith, nat_tests)

-- as many as are asked for
pub zero_bytes : (n : ℕ) → ((length {A = ℕ} (replicate n 0) == n) && are_bytes (replicate n 0)) ≡ true
zero_bytes n = let few = same (length {A = ℕ} (replicate n 0)) n (many n) in let all = bytes_all n in λ i. few i && all i
