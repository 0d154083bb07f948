-- Powers of 2, and remainders by them.
use Rattle.std.proofs.Common.{◌/◌, ◌≡◌, ℕ, suc, ◌+◌, ◌-◌, ◌*◌, ◌%◌, ◌^◌, ◌<◌, ◌≤◌, arith, sym, ◌∙◌, ap, lit<}
use Rattle.std.proofs.Math.Nat.{pow-le-pow_right, pow-suc, add-mul-mod_self_right}
use Rattle.std.proofs.Math.Pow.{mod-mod-pow}
use Rattle.std.proofs.lemmas.Nat.{pow-add, pow_pos, mod-mul-add, div-add-mod', mod_below, div_below}

-- a greater exponent gives no smaller power
pub pow_grows : (i j : ℕ) → i ≤ j → 2 ^ i ≤ 2 ^ j
pow_grows i j h = pow-le-pow_right (lit< tt) {i = i} {j = j} h

-- 2 ^ w is twice the power below it
pub pow_doubled : (w : ℕ) → 1 ≤ w → 2 ^ w ≡ 2 ^ (w - 1) + 2 ^ (w - 1)
pow_doubled w h =
    let e : w ≡ suc (w - 1) = omega arith in
    ap (λ (n : ℕ). 2 ^ n) e ∙ pow-suc 2 (w - 1) ∙ omega arith

-- a power as a product of two
pub pow_split : (i j : ℕ) → i ≤ j → 2 ^ j ≡ 2 ^ (j - i) * 2 ^ i
pow_split i j h =
    let e : (j - i) + i ≡ j = omega arith in
    ap (λ (n : ℕ). 2 ^ n) (sym e) ∙ pow-add 2 (j - i) i

-- the lower bits of the lower bits
pub mod-mod_narrower : (n i j : ℕ) → i ≤ j → n % 2 ^ j % 2 ^ i ≡ n % 2 ^ i
mod-mod_narrower n i j h =
    let e : (j - i) + i ≡ j = omega arith in
    ap (λ (m : ℕ). n % 2 ^ m % 2 ^ i) (sym e) ∙ mod-mod-pow n (j - i) i

-- a difference modulo a greater power is one modulo a smaller power
pub mod_difference : (a b i j : ℕ) → i ≤ j → b < 2 ^ i → (a + (2 ^ j - b)) % 2 ^ i ≡ (a + 2 ^ i - b) % 2 ^ i
mod_difference a b i j h l =
    let p : 2 ^ j ≡ 2 ^ (j - i) * 2 ^ i = pow_split i j h in
    let k : 2 ^ (j - i) ≡ suc (2 ^ (j - i) - 1) = omega (arith, pow_pos (j - i)) in
    let q : 2 ^ j ≡ suc (2 ^ (j - i) - 1) * 2 ^ i = p ∙ ap (λ (m : ℕ). m * 2 ^ i) k in
    let e : a + (2 ^ j - b) ≡ (a + 2 ^ i - b) + (2 ^ (j - i) - 1) * 2 ^ i = omega arith in
    ap (λ (n : ℕ). n % 2 ^ i) e ∙ add-mul-mod_self_right (a + 2 ^ i - b) (2 ^ (j - i) - 1) (2 ^ i)

-- the complement of the lower bits
pub mod_complement : (n w j : ℕ) → w ≤ j → n < 2 ^ j → (2 ^ j - suc n) % 2 ^ w ≡ 2 ^ w - 1 - n % 2 ^ w
mod_complement n w j h l =
    let p : 2 ^ j ≡ 2 ^ (j - w) * 2 ^ w = pow_split w j h in
    let q : n / 2 ^ w * 2 ^ w + n % 2 ^ w ≡ n = div-add-mod' n (2 ^ w) in
    let r : n % 2 ^ w < 2 ^ w = mod_below n (2 ^ w) (pow_pos w) in
    let s : n / 2 ^ w < 2 ^ (j - w) = div_below n (2 ^ w) (2 ^ (j - w)) (pow_pos w) (omega arith) in
    let k : 2 ^ (j - w) ≡ suc (n / 2 ^ w + (2 ^ (j - w) - suc (n / 2 ^ w))) = omega arith in
    let t : 2 ^ j ≡ suc (n / 2 ^ w + (2 ^ (j - w) - suc (n / 2 ^ w))) * 2 ^ w = p ∙ ap (λ (m : ℕ). m * 2 ^ w) k in
    let e : 2 ^ j - suc n ≡ (2 ^ (j - w) - suc (n / 2 ^ w)) * 2 ^ w + (2 ^ w - 1 - n % 2 ^ w) = omega arith in
    ap (λ (m : ℕ). m % 2 ^ w) e ∙ mod-mul-add (2 ^ (j - w) - suc (n / 2 ^ w)) (2 ^ w) (2 ^ w - 1 - n % 2 ^ w) (omega arith)
