-- The characters of a string, one after the other, and strings in a row.
use Rattle.std.proofs.Common.{◌≡◌, ◌<◌, ◌+◌, ◌++◌, ℕ, zero, suc, List, [], ◌∷◌, length, get_or, take, drop, map, refl, sym, ap, ◌∙◌, arith}
use Rattle.std.specs.Prelude.{◌==◌, if◌then◌else◌}
use Rattle.std.proofs.lemmas.List.{take_more}
use Rattle.c_tree.specs.declared.expr.Name.{Name}
use Rattle.c_tree.specs.Tree.{view_name}
use Rattle.c_elab_expr.specs.Strings.{escape_length, element_length, characters_behind, string_length, strings_length}

passed : (inside : ℕ) (text : List ℕ) → characters_behind inside text ≡ characters_behind 0 (drop inside text)
passed zero text = refl
passed (suc inside) [] = refl
passed (suc inside) (b ∷ bs) = passed inside bs

-- a character, and those behind it
pub next_character : (text : List ℕ) → 0 < length text → characters_behind 0 text ≡ suc (characters_behind 0 (drop (element_length text) text))
next_character [] h = let none : ⊥ = omega (arith, h) in absurd none
next_character (b ∷ bs) h = ap suc (passed (if b == 92 then escape_length bs else 0) bs)

strings_push : (parts : List (List ℕ)) (part : List ℕ) → strings_length (parts ++ part ∷ []) ≡ strings_length parts + string_length part
strings_push [] part = omega arith
strings_push (p ∷ ps) part = omega (arith, strings_push ps part)

names_push : (parts : List Name) (part : Name) → strings_length (map view_name (parts ++ part ∷ [])) ≡ strings_length (map view_name parts) + string_length (view_name part)
names_push [] part = omega arith
names_push (p ∷ ps) part = omega (arith, names_push ps part)

-- one string more
pub strings_more : (parts : List Name) (i : ℕ) (part : Name) → i < length parts → part ≡ get_or parts i part
    → strings_length (map view_name (take (i + 1) parts)) ≡ strings_length (map view_name (take i parts)) + string_length (view_name part)
strings_more parts i part h is =
    ap (λ (ps : List Name). strings_length (map view_name ps)) (take_more parts i part h) ∙ ap (λ (p : Name). strings_length (map view_name (take i parts ++ p ∷ []))) (sym is)
    ∙ names_push (take i parts) part
