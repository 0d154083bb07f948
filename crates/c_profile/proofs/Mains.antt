-- A file that breaks no rule has a function that is main.
use Rattle.std.proofs.Common.{◌≡◌, Bool, true, false, List, [], ◌∷◌, Option, Some, None, refl, ap, sym}
use Rattle.std.proofs.lemmas.Bool.{true≢false}
use Rattle.std.specs.Prelude.{◌||◌, is_none, if◌then◌else◌}
use Rattle.core_tree.specs.Trees.{Procedure, TypedFile}
use Rattle.c_profile.specs.Rules.{Breach, earlier, is_main, has_main, definition_breach, main_breach, functions_breach, objects_breach, first_breach}

some_not_none : {b : Breach} → Some b ≡ None → ⊥
some_not_none e = true≢false (sym (ap is_none e))

none_left : (a b : Option Breach) → earlier a b ≡ None → a ≡ None
none_left None b e = refl
none_left (Some x) None e = absurd (some_not_none e)
none_left (Some x) (Some y) e = absurd (some_not_none e)

main_here : (b : Bool) (f : Procedure) (functions : List Procedure) → (main_breach functions ≡ None → has_main functions ≡ true) → (if b then definition_breach f else main_breach functions) ≡ None → (b || has_main functions) ≡ true
main_here true f functions h e = refl
main_here false f functions h e = h e

main_in : (functions : List Procedure) → main_breach functions ≡ None → has_main functions ≡ true
main_in [] e = absurd (some_not_none e)
main_in (f ∷ functions) e = main_here (is_main f) f functions (main_in functions) e

pub admitted_main : (file : TypedFile) → first_breach file ≡ None → has_main file.functions ≡ true
admitted_main file e = main_in file.functions (none_left (main_breach file.functions) (earlier (functions_breach file.functions file.functions) (objects_breach file.objects)) e)

pub both : {a b c d : Option Breach} → a ≡ b → c ≡ d → earlier a c ≡ earlier b d
both e f = λ i. earlier (e i) (f i)
