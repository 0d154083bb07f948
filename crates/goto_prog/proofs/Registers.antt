-- The words of registers fit their types.
use Rattle.std.proofs.Common.{◌≡◌, ℕ, zero, suc, ◌<◌, ◌≤◌, ◌^◌, Bool, true, false, ◌&&◌, ◌||◌, nat_lt, List, [], ◌∷◌, map, length, refl, sym, ap, subst, ◌∙◌, arith, get_or}
use Rattle.std.specs.Prelude.{◌==◌, slice_set, slice_index_or, replicate, if◌then◌else◌}
use Rattle.std.proofs.lemmas.Bool.{false≢true}
use Rattle.std.proofs.lemmas.Bool.Decides.{nat_tests}
use Rattle.c_types.specs.declared.integers.IntegerType.{IntegerType}
use Rattle.c_types.specs.declared.integers.IntegerType.TheVariants as types
use Rattle.c_types.specs.Integers.{width, same_integer, number_of}
use Rattle.core_tree.specs.declared.operators.ArithmeticOperator.{ArithmeticOperator}
use Rattle.core_tree.specs.Typed.{is_shift}
use Rattle.c_values.specs.Numbers.{same_width, are_operands_of}
use Rattle.goto_prog.specs.Fitting.{is_there, is_register, is_pointer, is_wide}
use Rattle.goto_prog.specs.Frames.{registers_fit}

positive : (t : IntegerType) → nat_lt 0 (2 ^ width t) ≡ true
positive types.Bool = refl
positive types.Char = refl
positive types.SignedChar = refl
positive types.UnsignedChar = refl
positive types.Short = refl
positive types.UnsignedShort = refl
positive types.Int = refl
positive types.UnsignedInt = refl
positive types.Long = refl
positive types.UnsignedLong = refl
positive types.LongLong = refl
positive types.UnsignedLongLong = refl

pub at_most_64 : (t : IntegerType) → width t ≤ 64
at_most_64 types.Bool = omega arith
at_most_64 types.Char = omega arith
at_most_64 types.SignedChar = omega arith
at_most_64 types.UnsignedChar = omega arith
at_most_64 types.Short = omega arith
at_most_64 types.UnsignedShort = omega arith
at_most_64 types.Int = omega arith
at_most_64 types.UnsignedInt = omega arith
at_most_64 types.Long = omega arith
at_most_64 types.UnsignedLong = omega arith
at_most_64 types.LongLong = omega arith
at_most_64 types.UnsignedLongLong = omega arith

both_true : (a b : Bool) → a ≡ true → b ≡ true → (a && b) ≡ true
both_true a b first second = λ i. first i && second i

pub both : (a b : Bool) → (a && b) ≡ true → (a ≡ true) × (b ≡ true)
both true b h = (refl, h)
both false b h = absurd (false≢true h)

pub zeros_fit : (ts : List IntegerType) → registers_fit ts (map (λ t. 0) ts) ≡ true
zeros_fit [] = refl
zeros_fit (t ∷ ts) = both_true _ _ (positive t) (zeros_fit ts)

pub fit_length : (ts : List IntegerType) (xs : List ℕ) → registers_fit ts xs ≡ true → length xs ≡ length ts
fit_length [] [] h = refl
fit_length [] (x ∷ xs) h = absurd (false≢true h)
fit_length (t ∷ ts) [] h = absurd (false≢true h)
fit_length (t ∷ ts) (x ∷ xs) h = ap suc (fit_length ts xs (both (nat_lt x (2 ^ width t)) (registers_fit ts xs) h).1)

-- the word of a register of a type
pub fit_below : (ts : List IntegerType) (xs : List ℕ) (r d : ℕ) → registers_fit ts xs ≡ true → r < length ts → get_or xs r d < 2 ^ width (slice_index_or ts r types.Int)
fit_below [] xs r d h lt = absurd (omega (arith, lt))
fit_below (t ∷ ts) [] r d h lt = absurd (false≢true h)
fit_below (t ∷ ts) (x ∷ xs) zero d h lt = let p = (both (nat_lt x (2 ^ width t)) (registers_fit ts xs) h).0 in grind (arith, nat_tests)
fit_below (t ∷ ts) (x ∷ xs) (suc r) d h lt = fit_below ts xs r d (both (nat_lt x (2 ^ width t)) (registers_fit ts xs) h).1 (omega (arith, lt))

pub fit_set : (ts : List IntegerType) (xs : List ℕ) (r x : ℕ) → registers_fit ts xs ≡ true → x < 2 ^ width (slice_index_or ts r types.Int) → registers_fit ts (slice_set xs r x) ≡ true
fit_set [] [] r x h lt = refl
fit_set [] (y ∷ xs) r x h lt = absurd (false≢true h)
fit_set (t ∷ ts) [] r x h lt = absurd (false≢true h)
fit_set (t ∷ ts) (y ∷ xs) zero x h lt = let p : nat_lt x (2 ^ width t) ≡ true = grind (arith, nat_tests) in both_true _ _ p (both (nat_lt y (2 ^ width t)) (registers_fit ts xs) h).1
fit_set (t ∷ ts) (y ∷ xs) (suc r) x h lt =
    let parts = both (nat_lt y (2 ^ width t)) (registers_fit ts xs) h in both_true _ _ parts.0 (fit_set ts xs r x parts.1 lt)

-- ---- tests of types

same_number : (t u : IntegerType) → same_integer t u ≡ true → number_of t ≡ number_of u
same_number t u h = grind (arith, nat_tests)

abbrev width_by : ℕ → ℕ
width_by n = if nat_lt n 4 then 8 else (if nat_lt n 6 then 16 else (if nat_lt n 8 then 32 else 64))

width_of_number : (t : IntegerType) → width t ≡ width_by (number_of t)
width_of_number types.Bool = refl
width_of_number types.Char = refl
width_of_number types.SignedChar = refl
width_of_number types.UnsignedChar = refl
width_of_number types.Short = refl
width_of_number types.UnsignedShort = refl
width_of_number types.Int = refl
width_of_number types.UnsignedInt = refl
width_of_number types.Long = refl
width_of_number types.UnsignedLong = refl
width_of_number types.LongLong = refl
width_of_number types.UnsignedLongLong = refl

equal_numbers : (m n : ℕ) → (m == n) ≡ true → m ≡ n
equal_numbers m n h = grind (arith, nat_tests)

pub same_widths : (t u : IntegerType) → same_integer t u ≡ true → width t ≡ width u
same_widths t u h = width_of_number t ∙ ap width_by (same_number t u h) ∙ sym (width_of_number u)

equal_widths : (t u : IntegerType) → same_width t u ≡ true → width t ≡ width u
equal_widths t u h = equal_numbers (width t) (width u) h

pub test_below : (m n : ℕ) → nat_lt m n ≡ true → m < n
test_below m n h = grind (arith, nat_tests)

-- a register of a type is there, and its word is one of the type
pub register_there : (ts : List IntegerType) (xs : List ℕ) (r : ℕ) (t : IntegerType) → registers_fit ts xs ≡ true → is_register ts r t ≡ true → r < length xs
register_there ts xs r t fits is = let lt = test_below r (length ts) (both (nat_lt r (length ts)) (same_integer (slice_index_or ts r types.Int) t) is).0 in omega (arith, lt, fit_length ts xs fits)

pub register_below : (ts : List IntegerType) (xs : List ℕ) (r d : ℕ) (t : IntegerType) → registers_fit ts xs ≡ true → is_register ts r t ≡ true → get_or xs r d < 2 ^ width t
register_below ts xs r d t fits is =
    let parts = both (nat_lt r (length ts)) (same_integer (slice_index_or ts r types.Int) t) is in
    subst (λ w. get_or xs r d < 2 ^ w) (same_widths (slice_index_or ts r types.Int) t parts.1) (fit_below ts xs r d fits (test_below r (length ts) parts.0))

pub wide_there : (ts : List IntegerType) (xs : List ℕ) (r : ℕ) (t : IntegerType) → registers_fit ts xs ≡ true → is_wide ts r t ≡ true → r < length xs
wide_there ts xs r t fits is = let lt = test_below r (length ts) (both (nat_lt r (length ts)) (same_width (slice_index_or ts r types.Int) t) is).0 in omega (arith, lt, fit_length ts xs fits)

pub wide_below : (ts : List IntegerType) (xs : List ℕ) (r d : ℕ) (t : IntegerType) → registers_fit ts xs ≡ true → is_wide ts r t ≡ true → get_or xs r d < 2 ^ width t
wide_below ts xs r d t fits is =
    let parts = both (nat_lt r (length ts)) (same_width (slice_index_or ts r types.Int) t) is in
    subst (λ w. get_or xs r d < 2 ^ w) (equal_widths (slice_index_or ts r types.Int) t parts.1) (fit_below ts xs r d fits (test_below r (length ts) parts.0))

pub word_there : (ts : List IntegerType) (xs : List ℕ) (r : ℕ) → registers_fit ts xs ≡ true → is_there ts r ≡ true → r < length xs
word_there ts xs r fits is = let lt = test_below r (length ts) is in omega (arith, lt, fit_length ts xs fits)

pub register_set : (ts : List IntegerType) (xs : List ℕ) (r x : ℕ) (t : IntegerType) → registers_fit ts xs ≡ true → is_register ts r t ≡ true → x < 2 ^ width t → registers_fit ts (slice_set xs r x) ≡ true
register_set ts xs r x t fits is lt =
    let parts = both (nat_lt r (length ts)) (same_integer (slice_index_or ts r types.Int) t) is in
    fit_set ts xs r x fits (subst (λ w. x < 2 ^ w) (sym (same_widths (slice_index_or ts r types.Int) t parts.1)) lt)

pub replicate_map : (ts : List IntegerType) → replicate {A = ℕ} (length ts) 0 ≡ map (λ t. 0) ts
replicate_map [] = refl
replicate_map (t ∷ ts) = ap (λ xs. 0 ∷ xs) (replicate_map ts)

-- ---- operands

same_itself : (n : ℕ) → (n == n) ≡ true
same_itself n = grind (arith, nat_tests)

or_true : (a : Bool) → (a || true) ≡ true
or_true true = refl
or_true false = refl

-- two numbers of one type are operands of every operation
pub operands_same : (op : ArithmeticOperator) (t : IntegerType) → are_operands_of op t t ≡ true
operands_same op t = ap (λ b. is_shift op || b) (same_itself (width t)) ∙ or_true (is_shift op)

-- the registers of a pointer that is moved
pub moved_parts : (ts : List IntegerType) (p i size : ℕ) (t : IntegerType) → (is_pointer ts p && is_register ts i t && is_pointer ts size) ≡ true → (is_pointer ts p ≡ true) × (is_register ts i t ≡ true) × (is_pointer ts size ≡ true)
moved_parts ts p i size t h =
    let parts = both (is_pointer ts p && is_register ts i t) (is_pointer ts size) h in
    let more = both (is_pointer ts p) (is_register ts i t) parts.0 in
    (more.0, more.1, parts.1)
