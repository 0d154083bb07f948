-- The first function of a thread is there, and its arguments are on top.
use Rattle.std.proofs.Common.{◌≡◌, zero, suc, min, length-append, ◌<◌, ◌+◌, ◌||◌, ℕ, Bool, true, false, length, if◌then◌else◌, arith, List, [], ◌∷◌, Option, Some, None, slice_get, refl, ap, sym, ◌∙◌}
use Rattle.core_tree.specs.Trees.{Procedure}
use Rattle.std.proofs.lemmas.Bool.{false≢true}
use Rattle.c_profile.specs.Rules.{is_main, has_main}
use Rattle.c_meaning.specs.Source.{main_number}
use Rattle.c_tasks.specs.Items.{blocks_on}
use Rattle.c_tasks.specs.Tasks.{structures_in}

-- the function named `main` is there
main_by : (b : Bool) (m n : ℕ) (rest : Bool) → (b || rest) ≡ true → (rest ≡ true → m < n) → (if b then 0 else m + 1) < suc n
main_by true m n rest h more = omega arith
main_by false m n rest h more = let k = more h in omega (arith, k)

pub main_there : (fs : List Procedure) → has_main fs ≡ true → main_number fs < length fs
main_there [] h = absurd (false≢true h)
main_there (f ∷ fs) h = main_by (is_main f) (main_number fs) (length fs) (has_main fs) h (main_there fs)

none_there : {A : Type 0} (x : A) → ◌≡◌ {A = Option A} (Some x) None → ⊥
none_there x e = cc

pub got_none : {A : Type 0} (xs : List A) (n : ℕ) → slice_get xs n ≡ None → n < length xs → ⊥
got_none [] n e h = omega (arith, h)
got_none (x ∷ xs) zero e h = none_there x e
got_none (x ∷ xs) (suc n) e h = got_none xs n e (omega (arith, h))

-- so many blocks on top, of as many as there are
fewer_blocks : (count : ℕ) (bs : List (List ℕ)) → length (blocks_on count bs) ≡ min count (length bs)
fewer_blocks zero bs = omega arith
fewer_blocks (suc n) [] = omega arith
fewer_blocks (suc n) (b ∷ bs) = let h = fewer_blocks n bs in let e = length-append (blocks_on n bs) (b ∷ []) in omega (arith, h, e)

blocks_listed : (bs : List (List ℕ)) → length (structures_in bs) ≡ length bs
blocks_listed [] = refl
blocks_listed (b ∷ bs) = let h = blocks_listed bs in let e = length-append (structures_in bs) (b ∷ []) in omega (arith, h, e)

pub counted_blocks : (count : ℕ) (bs : List (List ℕ)) (n : ℕ) → n ≡ length bs → min count n ≡ length (blocks_on count (structures_in bs))
counted_blocks count bs n e = ap (min count) (e ∙ sym (blocks_listed bs)) ∙ sym (fewer_blocks count (structures_in bs))
