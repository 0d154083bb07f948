-- The number of the function `main`.
use Rattle.std.proofs.Common.{◌≡◌, ℕ, Bool, true, false, List, [], ◌∷◌, ◌+◌, ◌<◌, ◌≤◌, length, drop, get_or, if◌then◌else◌, ap, ◌∙◌, arith}
use Rattle.std.proofs.lemmas.List.{at_drop_more, at_drop_all}
use Rattle.core_tree.specs.declared.functions.Function.{Function}
use Rattle.core_tree.specs.Trees.{view_function, view_functions}
use Rattle.c_profile.specs.Rules.{is_main}
use Rattle.c_meaning.specs.Source.{main_number}

pub main_here : (fs : List Function) (i : ℕ) (f : Function) → i < length fs → is_main (view_function (get_or fs i f)) ≡ true → main_number (view_functions (drop i fs)) ≡ 0
main_here fs i f h e =
    at_drop_more (λ fs. main_number (view_functions fs)) fs i f h ∙ ap (λ (b : Bool). if b then 0 else main_number (view_functions (drop (i + 1) fs)) + 1) e

pub main_later : (fs : List Function) (i : ℕ) (f : Function) → i < length fs → is_main (view_function (get_or fs i f)) ≡ false → main_number (view_functions (drop i fs)) ≡ main_number (view_functions (drop (i + 1) fs)) + 1
main_later fs i f h e =
    at_drop_more (λ fs. main_number (view_functions fs)) fs i f h ∙ ap (λ (b : Bool). if b then 0 else main_number (view_functions (drop (i + 1) fs)) + 1) e

pub main_nowhere : (fs : List Function) (i : ℕ) → length fs ≤ i → main_number (view_functions (drop i fs)) ≡ 0
main_nowhere fs i h = at_drop_all (λ (fs : List Function). main_number (view_functions fs)) fs i h

choice_within : (b : Bool) (m n : ℕ) → m ≤ n → (if b then 0 else m + 1) ≤ n + 1
choice_within true m n h = omega arith
choice_within false m n h = omega arith

pub main_within : (fs : List Function) → main_number (view_functions fs) ≤ length fs
main_within [] = omega arith
main_within (f ∷ fs) = let h = choice_within (is_main (view_function f)) (main_number (view_functions fs)) (length fs) (main_within fs) in omega (arith, h)
