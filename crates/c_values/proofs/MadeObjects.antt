-- Each object that is made of bytes can be made, and the blocks of a program are held as they are.
use Rattle.std.proofs.Common.{◌≡◌, ◌<◌, ℕ, ◌-◌, ◌%◌, ◌^◌, Bool, true, ◌&&◌, nat_lt, List, [], ◌∷◌, map, length, take, refl, ◌∙◌, ap, arith}
use Rattle.std.proofs.lemmas.Bool.{lt-ltb}
use Rattle.std.proofs.lemmas.Grind.{common_steps}
use Rattle.std.proofs.lemmas.List.{length-map, length-take, take_all}
use Rattle.actions.specs.ByteList.{are_bytes}
use Rattle.actions.specs.StoredObject.{CanBeMade, made_without_cells}
use Rattle.c_values.specs.MadeObjects.{held_bytes, made_of}

both : (a b : Bool) → a ≡ true → b ≡ true → (a && b) ≡ true
both a b p q = grind (arith, common_steps)

front : (a b : Bool) → (a && b) ≡ true → a ≡ true
front a b p = grind (arith, common_steps)

back : (a b : Bool) → (a && b) ≡ true → b ≡ true
back a b p = grind (arith, common_steps)

below_of : (a : ℕ) → nat_lt a 256 ≡ true → a < 256
below_of a h = grind (arith, common_steps)

low_byte : (b : ℕ) → b % 256 < 256
low_byte b = omega arith

low_bytes : (bs : List ℕ) → are_bytes (map (λ b. b % 256) bs) ≡ true
low_bytes [] = refl
low_bytes (b ∷ bs) = both (nat_lt (b % 256) 256) (are_bytes (map (λ b. b % 256) bs)) (lt-ltb (b % 256) 256 (low_byte b)) (low_bytes bs)

held_few : (bs : List ℕ) → length (held_bytes bs) < 2 ^ 32
held_few bs = omega (arith, length-map (take (2 ^ 32 - 1) bs) (λ b. b % 256), length-take (2 ^ 32 - 1) bs)

pub made_can_be : (readonly heap : Bool) (bs : List ℕ) → CanBeMade (made_of readonly heap bs)
made_can_be readonly heap bs = made_without_cells (length (held_bytes bs)) true readonly heap (held_bytes bs) refl (held_few bs) (low_bytes (take (2 ^ 32 - 1) bs))

same_byte : (b : ℕ) → b < 256 → b % 256 ≡ b
same_byte b h = omega (arith, h)

same_bytes : (bs : List ℕ) → are_bytes bs ≡ true → map (λ b. b % 256) bs ≡ bs
same_bytes [] h = refl
same_bytes (b ∷ bs) h = λ k. same_byte b (below_of b (front (nat_lt b 256) (are_bytes bs) h)) k ∷ same_bytes bs (back (nat_lt b 256) (are_bytes bs) h) k

pub held_same : (bs : List ℕ) → length bs < 2 ^ 32 → are_bytes bs ≡ true → held_bytes bs ≡ bs
held_same bs few h = ap (map (λ b. b % 256)) (take_all (2 ^ 32 - 1) bs (omega (arith, few))) ∙ same_bytes bs h
