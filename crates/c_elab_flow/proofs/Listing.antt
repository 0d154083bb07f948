-- The functions of a file, one behind the other.
use Rattle.std.proofs.Common.{◌≡◌, ◌≤◌, ◌<◌, ◌+◌, ◌-◌, ◌++◌, ℕ, zero, suc, List, [], ◌∷◌, length, get_or, map, reverse, drop, Some, None, refl, ap, sym, ◌∙◌, arith}
use Rattle.std.specs.Prelude.{slice_get, slice_set}
use Rattle.std.proofs.lemmas.List.{append_assoc, append-nil, map-append, map-set, reverse-append}
use Rattle.c_types.specs.Types.{Completed}
use Rattle.core_tree.specs.declared.functions.Function.{Function}
use Rattle.core_tree.specs.Trees.{Procedure, view_function, view_functions, view_statement}
use Rattle.c_scope.specs.Scopes.{Callable}
use Rattle.c_elab_flow.specs.declared.files.Definition.{Definition as CodeDefinition}
use Rattle.c_elab_flow.specs.Files.{procedure_of, with_body, with_bodies}
use Rattle.c_elab_flow.specs.Held.{view_definition, view_definitions}

get_drop : {A : Type 0} (xs : List A) (n : ℕ) (x : A) → slice_get xs n ≡ Some x → drop n xs ≡ x ∷ drop (suc n) xs
get_drop [] n x h = let none : ⊥ = cc in absurd none
get_drop (y ∷ xs) zero x h = let same : y ≡ x = cc in ap (λ z. z ∷ xs) same
get_drop (y ∷ xs) (suc n) x h = get_drop xs n x h

none_drop : {A : Type 0} (xs : List A) (n : ℕ) → slice_get xs n ≡ None → drop n xs ≡ []
none_drop [] zero h = refl
none_drop [] (suc n) h = refl
none_drop (y ∷ xs) zero h = let none : ⊥ = cc in absurd none
none_drop (y ∷ xs) (suc n) h = none_drop xs n h

get_within : {A : Type 0} (xs : List A) (n : ℕ) (x : A) → slice_get xs n ≡ Some x → n < length xs
get_within [] n x h = let none : ⊥ = cc in absurd none
get_within (y ∷ xs) zero x h = omega arith
get_within (y ∷ xs) (suc n) x h = let k = get_within xs n x h in omega (arith, k)

-- one function fewer is left
pub fewer_left : {A : Type 0} (xs : List A) (n : ℕ) (x : A) → slice_get xs n ≡ Some x → length xs - (n + 1) < length xs - n
fewer_left xs n x h = let k = get_within xs n x h in omega (arith, k)

-- one function more
pub one_called : (done : List Completed) (all : List Callable) (n m : ℕ) (f : Callable) (x : Function) (made now : List Function) (whole : List Procedure) → slice_get all n ≡ Some f → m ≡ n + 1
    → view_function x ≡ procedure_of done f → now ≡ made ++ x ∷ [] → view_functions made ++ map (procedure_of done) (drop n all) ≡ whole → view_functions now ++ map (procedure_of done) (drop m all) ≡ whole
one_called done all n m f x made now whole at more is pushed h =
    let view = procedure_of done in
    let next : m ≡ suc n = omega (arith, more) in
    ap (λ (k : ℕ). view_functions now ++ map view (drop k all)) next
    ∙ ap (λ (ys : List Procedure). ys ++ map view (drop (suc n) all)) (ap view_functions pushed ∙ map-append view_function made (x ∷ []))
    ∙ ap (λ (y : Procedure). (view_functions made ++ y ∷ []) ++ map view (drop (suc n) all)) is
    ∙ append_assoc (view_functions made) (view f ∷ []) (map view (drop (suc n) all))
    ∙ ap (λ (fs : List Callable). view_functions made ++ map view fs) (sym (get_drop all n f at))
    ∙ h

-- all of them
pub all_called : (done : List Completed) (all : List Callable) (n : ℕ) (made whole : List Procedure) → slice_get all n ≡ None → made ++ map (procedure_of done) (drop n all) ≡ whole → made ≡ whole
all_called done all n made whole none h = sym (append-nil made) ∙ ap (λ (fs : List Callable). made ++ map (procedure_of done) fs) (sym (none_drop all n none)) ∙ h

-- ---- their bodies

get_past : {A : Type 0} (xs : List A) (n : ℕ) → length xs ≤ n → slice_get xs n ≡ None
get_past [] n h = refl
get_past (x ∷ xs) zero h = let none : ⊥ = omega (arith, h) in absurd none
get_past (x ∷ xs) (suc n) h = get_past xs n (omega (arith, h))

-- a definition taken from the end of the others
pub one_given : (fs : List Procedure) (left rest : List CodeDefinition) (x : CodeDefinition) → left ≡ rest ++ x ∷ []
    → with_bodies fs (view_definitions (reverse left)) ≡ with_bodies (with_body fs (view_definition x) (slice_get fs x.number)) (view_definitions (reverse rest))
one_given fs left rest x taken =
    ap (λ (xs : List CodeDefinition). with_bodies fs (view_definitions (reverse xs))) taken
    ∙ ap (λ (xs : List CodeDefinition). with_bodies fs (view_definitions xs)) (reverse-append rest (x ∷ []))

length_functions : (fs : List Function) → length (view_functions fs) ≡ length fs
length_functions [] = refl
length_functions (f ∷ fs) = ap suc (length_functions fs)

-- no function has its number
pub body_past : (fs : List Function) (x : CodeDefinition) → length fs ≤ x.number → with_body (view_functions fs) (view_definition x) (slice_get (view_functions fs) x.number) ≡ view_functions fs
body_past fs x h =
    let long = length_functions fs in
    ap (with_body (view_functions fs) (view_definition x)) (get_past (view_functions fs) x.number (omega (arith, h, long)))

get_at : (fs : List Function) (n : ℕ) (d : Function) → n < length fs → slice_get (view_functions fs) n ≡ Some (view_function (get_or fs n d))
get_at [] n d h = let none : ⊥ = omega (arith, h) in absurd none
get_at (f ∷ fs) zero d h = refl
get_at (f ∷ fs) (suc n) d h = get_at fs n d (omega (arith, h))

-- a function with its number gets the body
pub body_given : (fs : List Function) (x : CodeDefinition) (old g d : Function) → x.number < length fs → old ≡ get_or fs x.number d
    → view_function g ≡ record (view_function old) { variables = x.variables.items; labels = x.labels; body = Some (view_statement x.body.value) }
    → with_body (view_functions fs) (view_definition x) (slice_get (view_functions fs) x.number) ≡ view_functions (slice_set fs x.number g)
body_given fs x old g d h is made =
    ap (with_body (view_functions fs) (view_definition x)) (get_at fs x.number d h ∙ ap (λ (f : Function). Some (view_function f)) (sym is))
    ∙ ap (slice_set (view_functions fs) x.number) (sym made) ∙ sym (map-set view_function fs x.number g)
