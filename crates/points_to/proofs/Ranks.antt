-- Pointer places, and sets that are all the same.
use Rattle.std.proofs.Common.{◌≡◌, ◌<◌, ℕ, zero, suc, Bool, true, false, List, [], ◌∷◌, take, replicate, Option, Some, None, refl, sym, subst, arith, true≢false}
use Rattle.std.specs.Prelude.{slice_get, if◌then◌else◌}
use Rattle.goto_prog.specs.declared.code.Instruction.{Instruction}
use Rattle.points_to.specs.Sets.{has_pointer, pointers_in, pointer_by, members_of}

-- an instruction goes by a pointer
abbrev goes_by : Option Instruction → Bool
goes_by None = false
goes_by (Some i) = has_pointer i.operation

record IsPointer (rank place : ℕ) (found : Option Instruction) : Type 0 where
  same : rank ≡ place
  goes : goes_by found ≡ true

is_pointer : (rank place : ℕ) (found : Option Instruction) → pointer_by rank found ≡ Some place → IsPointer rank place found
is_pointer rank place None h = absurd (let wrong : None ≡ Some place = h in cc)
is_pointer rank place (Some i) h = by (has_pointer i.operation) refl h
  where
    by : (b : Bool) → has_pointer i.operation ≡ b → (if b then Some rank else None) ≡ Some place → IsPointer rank place (Some i)
    by true is h = record { same = let same : Some rank ≡ Some place = h in cc; goes = is }
    by false is h = absurd (let wrong : None ≡ Some place = h in cc)

first_below : (b : Bool) (n : ℕ) → b ≡ true → 0 < (if b then suc n else n)
first_below true n h = omega arith
first_below false n h = absurd (true≢false (sym h))

both_below : (b : Bool) (m n : ℕ) → m < n → (if b then suc m else m) < (if b then suc n else n)
both_below true m n h = omega (arith, h)
both_below false m n h = h

rank_below : (code : List Instruction) (c : ℕ) → goes_by (slice_get code c) ≡ true → pointers_in (take c code) < pointers_in code
rank_below [] zero h = absurd (true≢false (sym h))
rank_below [] (suc c) h = absurd (true≢false (sym h))
rank_below (i ∷ code) zero h = first_below (has_pointer i.operation) (pointers_in code) h
rank_below (i ∷ code) (suc c) h = both_below (has_pointer i.operation) (pointers_in (take c code)) (pointers_in code) (rank_below code c h)

-- a pointer place is below their count
pub pointer_below : (code : List Instruction) (c place : ℕ) → pointer_by (pointers_in (take c code)) (slice_get code c) ≡ Some place → place < pointers_in code
pointer_below code c place h =
    let is = is_pointer (pointers_in (take c code)) place (slice_get code c) h in subst (λ (n : ℕ). n < pointers_in code) is.same (rank_below code c is.goes)

-- the members of a place, where all are the same
pub same_members : (count place : ℕ) (xs : List ℕ) → place < count → members_of (replicate count xs) place ≡ xs
same_members zero place xs h = absurd (omega (arith, h))
same_members (suc count) zero xs h = refl
same_members (suc count) (suc place) xs h = same_members count place xs (omega (arith, h))
