-- No type holds a value of 2 ^ 64 or more.
use Rattle.std.proofs.Common.{◌≡◌, ◌≤◌, ◌<◌, ◌^◌, ℕ, false, None, refl, arith}
use Rattle.std.proofs.lemmas.Bool.{and_right, le-ltb}
use Rattle.c_token.specs.declared.token.ConstantType.TheVariants.{Int, UnsignedInt, Long, UnsignedLong, LongLong, UnsignedLongLong}
use Rattle.c_lexer.specs.declared.constant.Suffix.{Suffix}
use Rattle.c_lexer.specs.Constants.{admits, typed, limit_of}

pub too_great : (base : ℕ) (suffix : Suffix) (value : ℕ) → (value < 2 ^ 64 → ⊥) → typed base suffix value ≡ None
unfolding typed
too_great base suffix value h =
    let great : 2 ^ 64 ≤ value = omega arith in
    let a : admits base suffix value Int ≡ false = and_right _ _ (le-ltb value (limit_of Int) (omega arith)) in
    let b : admits base suffix value UnsignedInt ≡ false = and_right _ _ (le-ltb value (limit_of UnsignedInt) (omega arith)) in
    let c : admits base suffix value Long ≡ false = and_right _ _ (le-ltb value (limit_of Long) (omega arith)) in
    let d : admits base suffix value UnsignedLong ≡ false = and_right _ _ (le-ltb value (limit_of UnsignedLong) (omega arith)) in
    let e : admits base suffix value LongLong ≡ false = and_right _ _ (le-ltb value (limit_of LongLong) (omega arith)) in
    let f : admits base suffix value UnsignedLongLong ≡ false = and_right _ _ (le-ltb value (limit_of UnsignedLongLong) (omega arith)) in
    rw (a, b, c, d, e, f) refl
