-- The generated program is short.
use Rattle.std.proofs.Common.{◌≡◌, ℕ, zero, suc, ◌+◌, ◌≤◌, ◌<◌, ◌*◌, ◌^◌, List, [], ◌∷◌, ◌++◌, length, refl, arith}
use Rattle.std.specs.Prelude.{codes}
use Rattle.std.specs.Fmt.{decimal}
use Rattle.std.proofs.lemmas.List.{length-append}
use Rattle.std.proofs.lemmas.Fmt.{length-decimal-le}
use Rattle.generator.specs.Program.{line_of, each, first_lines, creates, joins, generated_text}

at_most : (xs : List ℕ) (n : ℕ) → length xs ≡ n → length xs ≤ n
at_most xs n e = omega (arith, e)

both : (xs ys : List ℕ) (m n : ℕ) → length xs ≤ m → length ys ≤ n → length (xs ++ ys) ≤ m + n
both xs ys m n p q = omega (arith, length-append xs ys, p, q)

two_digits : (k : ℕ) → k ≤ 16 → length (decimal k) ≤ 2
two_digits k le = length-decimal-le 2 k (omega arith) (omega (arith, le)) (omega (arith, le))

creates_few : (k : ℕ) → k ≤ 16 → length (creates k) ≤ 65
creates_few k le =
    let d = two_digits k le in
    both (codes "pthread_t t") _ 11 54 (at_most (codes "pthread_t t") 11 refl) (both (decimal k) _ 2 52 d
    (both (codes ";pthread_create(&t") _ 18 34 (at_most (codes ";pthread_create(&t") 18 refl) (both (decimal k) _ 2 32 d
    (both (codes ",0,w,(void*)") _ 12 20 (at_most (codes ",0,w,(void*)") 12 refl) (both (decimal k) _ 2 18 d
    (both (codes ");e=e^(a&(b|") _ 12 6 (at_most (codes ");e=e^(a&(b|") 12 refl) (both (decimal k) (line_of (codes "));")) 2 4 d (at_most (line_of (codes "));")) 4 refl))))))))

joins_few : (k : ℕ) → k ≤ 16 → length (joins k) ≤ 21
joins_few k le = both (codes "pthread_join(t") _ 14 7 (at_most (codes "pthread_join(t") 14 refl) (both (decimal k) (line_of (codes ",0);")) 2 5 (two_digits k le) (at_most (line_of (codes ",0);")) 5 refl))

all_create : (n : ℕ) → n ≤ 16 → length (each creates n) ≤ 65 * n
all_create zero le = omega arith
all_create (suc n) le = let more = both (each creates n) (creates (suc n)) (65 * n) 65 (all_create n (omega (arith, le))) (creates_few (suc n) le) in omega (arith, more)

all_join : (n : ℕ) → n ≤ 16 → length (each joins n) ≤ 21 * n
all_join zero le = omega arith
all_join (suc n) le = let more = both (each joins n) (joins (suc n)) (21 * n) 21 (all_join n (omega (arith, le))) (joins_few (suc n) le) in omega (arith, more)

-- so long is the program of n threads, at the most
pub few_bytes : (n : ℕ) → n ≤ 16 → length (generated_text n) ≤ 65536
few_bytes n le =
    let more = both first_lines _ 300 (65 * n + (21 * n + 24)) (omega (arith, at_most first_lines 232 refl)) (both (each creates n) _ (65 * n) (21 * n + 24) (all_create n le)
    (both (each joins n) (line_of (codes "assert(s==e);return 0;}")) (21 * n) 24 (all_join n le) (at_most (line_of (codes "assert(s==e);return 0;}")) 24 refl))) in
    omega (arith, more, le)
