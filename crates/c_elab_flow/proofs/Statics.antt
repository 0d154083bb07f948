-- Static objects, one behind the other.
use Rattle.std.proofs.Common.{◌≡◌, ◌<◌, ◌++◌, ℕ, suc, true, List, [], ◌∷◌, length, map, reverse, get_or, Fits, w8, refl, ap, sym, ◌∙◌, arith}
use Rattle.std.specs.Prelude.{nat_lt}
use Rattle.std.specs.List.{list_all}
use Rattle.std.proofs.lemmas.List.{append_assoc, append-nil, map-append, reverse-append, reverse-reverse}
use borrow.Author.Tests.{lt-ltb}
use Rattle.c_types.specs.Types.{Completed}
use Rattle.core_tree.specs.declared.functions.StaticObject.{StaticObject}
use Rattle.core_tree.specs.Trees.{Static, view_static, view_statics}
use Rattle.core_tree.specs.Typed.{is_static}
use Rattle.c_scope.specs.declared.scope.ObjectEntry.{ObjectEntry}
use Rattle.c_scope.specs.Scopes.{ObjectEntry as Known, view_object_entry}
use Rattle.c_scope.proofs.Variables.{both, and}
use Rattle.c_elab_flow.specs.Files.{static_of}

abbrev pub static_as : List Completed → ObjectEntry → Static
static_as done o = static_of done (view_object_entry o)

-- one object more
pub one_taken : (done : List Completed) (all : List Static) (made now : List StaticObject) (left rest : List ObjectEntry) (o : ObjectEntry) (x : StaticObject) → left ≡ rest ++ o ∷ [] → now ≡ made ++ x ∷ []
    → view_static x ≡ static_as done o → all ≡ view_statics made ++ map (static_as done) (reverse left) → all ≡ view_statics now ++ map (static_as done) (reverse rest)
one_taken done all made now left rest o x taken pushed is h =
    let f = static_as done in
    h ∙ ap (λ (ls : List ObjectEntry). view_statics made ++ map f (reverse ls)) taken
    ∙ ap (λ (ls : List ObjectEntry). view_statics made ++ map f ls) (reverse-append rest (o ∷ []))
    ∙ sym (append_assoc (view_statics made) (f o ∷ []) (map f (reverse rest)))
    ∙ ap (λ (y : Static). (view_statics made ++ y ∷ []) ++ map f (reverse rest)) (sym is)
    ∙ ap (λ (ys : List Static). ys ++ map f (reverse rest)) (sym (ap view_statics pushed ∙ map-append view_static made (x ∷ [])))

empty : {A : Type 0} (xs : List A) → length xs ≡ 0 → xs ≡ []
empty [] h = refl
empty (x ∷ xs) h = let none : ⊥ = omega (arith, h) in absurd none

views_of : (older : List Completed) (taken : List ObjectEntry) → map (static_as older) taken ≡ map (static_of older) (map view_object_entry taken)
views_of older [] = refl
views_of older (o ∷ taken) = ap (λ (xs : List Static). static_as older o ∷ xs) (views_of older taken)

-- all were taken
pub none_left : (older : List Completed) (taken turned left : List ObjectEntry) (made : List Static) (objects : List Known) → map view_object_entry taken ≡ objects → turned ≡ reverse taken → length left ≡ 0
    → map (static_as older) (reverse turned) ≡ made ++ map (static_as older) (reverse left) → made ≡ map (static_of older) objects
none_left older taken turned left made objects all turn none h =
    let f = static_as older in
    sym (append-nil made)
    ∙ ap (λ (ls : List ObjectEntry). made ++ map f (reverse ls)) (sym (empty left none))
    ∙ sym h
    ∙ ap (λ (ls : List ObjectEntry). map f (reverse ls)) turn
    ∙ ap (map f) (reverse-reverse taken)
    ∙ views_of older taken
    ∙ ap (map (static_of older)) all

all_more : (xs : List Static) (y : Static) → list_all (is_static 0 0) xs ≡ true → is_static 0 0 y ≡ true → list_all (is_static 0 0) (xs ++ y ∷ []) ≡ true
all_more [] y h e = and (is_static 0 0 y) true e refl
all_more (x ∷ xs) y h e = let parts = both (is_static 0 0 x) (list_all (is_static 0 0) xs) h in and (is_static 0 0 x) (list_all (is_static 0 0) (xs ++ y ∷ [])) parts.0 (all_more xs y parts.1 e)

pub one_fits : (made now : List StaticObject) (x : StaticObject) → now ≡ made ++ x ∷ [] → list_all (is_static 0 0) (view_statics made) ≡ true → is_static 0 0 (view_static x) ≡ true → list_all (is_static 0 0) (view_statics now) ≡ true
one_fits made now x pushed h e =
    ap (λ (xs : List StaticObject). list_all (is_static 0 0) (view_statics xs)) pushed ∙ ap (list_all (is_static 0 0)) (map-append view_static made (x ∷ [])) ∙ all_more (view_statics made) (view_static x) h e

-- ---- their bytes

pub all_fit : (xs : List ℕ) → ((i : ℕ) → Fits w8 (get_or xs i 0)) → list_all (λ b. nat_lt b 256) xs ≡ true
all_fit [] fit = refl
all_fit (x ∷ xs) fit =
    let below : x < 256 = omega (arith, fit 0) in
    and (nat_lt x 256) (list_all (λ b. nat_lt b 256) xs) (lt-ltb x 256 below) (all_fit xs (λ i. fit (suc i)))
