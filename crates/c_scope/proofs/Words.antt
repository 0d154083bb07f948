-- How often a word stands in a list of words, and the table of the words of types.
use Rattle.std.proofs.Common.{◌≡◌, ◌≤◌, ◌<◌, ◌+◌, ◌++◌, ℕ, suc, Bool, true, false, List, [], ◌∷◌, Option, Some, None, length, get_or, take, refl, sym, ap, ◌∙◌, arith}
use Rattle.std.specs.Prelude.{◌==◌, if◌then◌else◌}
use Rattle.std.proofs.lemmas.List.{take_more}
use Rattle.c_tree.specs.declared.specifier.TypeWord.{TypeWord}
use Rattle.c_types.specs.declared.types.ValueType.{ValueType}
use Rattle.c_scope.specs.Types.{word_number, count, same_words, type_in}

one_more : (b : Bool) (k n : ℕ) → k ≡ n → (if b then suc k else k) ≡ n + (if b then 1 else 0)
one_more true k n e = omega (arith, e)
one_more false k n e = omega (arith, e)

next_more : (b : Bool) (k n m : ℕ) → k ≡ n + m → (if b then suc k else k) ≡ (if b then suc n else n) + m
next_more true k n m e = omega (arith, e)
next_more false k n m e = e

count_push : (w : TypeWord) (xs : List TypeWord) (x : TypeWord) → count w (xs ++ x ∷ []) ≡ count w xs + (if word_number w == word_number x then 1 else 0)
count_push w [] x = one_more (word_number w == word_number x) 0 0 refl
count_push w (y ∷ ys) x = next_more (word_number w == word_number y) (count w (ys ++ x ∷ [])) (count w ys) (if word_number w == word_number x then 1 else 0) (count_push w ys x)

-- one word more
pub count_more : (w : TypeWord) (xs : List TypeWord) (i : ℕ) (d : TypeWord) → i < length xs
    → count w (take (i + 1) xs) ≡ count w (take i xs) + (if word_number w == word_number (get_or xs i d) then 1 else 0)
count_more w xs i d h = ap (count w) (take_more xs i d h) ∙ count_push w (take i xs) (get_or xs i d)

at_most_one : (b : Bool) → (if b then 1 else 0) ≤ 1
at_most_one true = omega arith
at_most_one false = omega arith

pub count_next : (w : TypeWord) (xs : List TypeWord) (i : ℕ) (d : TypeWord) (k found : ℕ) → i < length xs → k ≡ (if word_number w == word_number (get_or xs i d) then 1 else 0)
    → (found ≡ count w (take i xs)) × (found ≤ i) → (found + k ≡ count w (take (i + 1) xs)) × (found + k ≤ i + 1)
count_next w xs i d k found h one before =
    let more = count_more w xs i d h in
    let few = at_most_one (word_number w == word_number (get_or xs i d)) in
    let so_far = before.0 in
    let fewer = before.1 in
    (omega (arith, more, one, so_far), omega (arith, one, few, fewer))

-- the row of the first of two tables that has one
abbrev or_else : Option ValueType → Option ValueType → Option ValueType
or_else (Some t) other = Some t
or_else None other = other

row_or : (b : Bool) (t : ValueType) (rest other both : Option ValueType) → both ≡ or_else rest other → (if b then Some t else both) ≡ or_else (if b then Some t else rest) other
row_or true t rest other both e = refl
row_or false t rest other both e = e

type_in_append : (rows others : List (List TypeWord × ValueType)) (ws : List TypeWord) → type_in (rows ++ others) ws ≡ or_else (type_in rows ws) (type_in others ws)
type_in_append [] others ws = refl
type_in_append (row ∷ rows) others ws = row_or (same_words row.0 ws) row.1 (type_in rows ws) (type_in others ws) (type_in (rows ++ others) ws) (type_in_append rows others ws)

-- a type that the first table has, and one that it hasn't
pub type_in_first : (rows others : List (List TypeWord × ValueType)) (ws : List TypeWord) (t : ValueType) → Some t ≡ type_in rows ws → Some t ≡ type_in (rows ++ others) ws
type_in_first rows others ws t e = ap (λ (o : Option ValueType). or_else o (type_in others ws)) e ∙ sym (type_in_append rows others ws)

pub type_in_later : (rows others : List (List TypeWord × ValueType)) (ws : List TypeWord) → None ≡ type_in rows ws → type_in others ws ≡ type_in (rows ++ others) ws
type_in_later rows others ws e = ap (λ (o : Option ValueType). or_else o (type_in others ws)) e ∙ sym (type_in_append rows others ws)
