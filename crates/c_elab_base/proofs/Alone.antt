-- Lists of specifiers and declarators that are more than a tag alone, and what is among names.
use Rattle.std.proofs.Common.{◌≡◌, ℕ, Bool, true, false, List, [], ◌∷◌, length, None, map, refl, ap}
use Rattle.std.specs.Prelude.{◌==◌, ◌||◌, ◌++◌, Vec, if◌then◌else◌}
use Rattle.std.specs.List.{list_any}
use Rattle.std.specs.Str.{bytes_eq}
use Rattle.std.specs.Global.{Global}
use Rattle.std.proofs.lemmas.List.{map-append}
use Rattle.c_tree.specs.declared.declaration.Specifier.{Specifier}
use Rattle.c_tree.specs.declared.declaration.InitDeclarator.{InitDeclarator}
use Rattle.c_tree.specs.Declarations.{Declarators, parts_of, declarators_of}
use Rattle.c_elab_base.specs.Names.{among}
use Rattle.c_elab_base.specs.Specifiers.{lone_tag}

pub not_one : (parts : List Specifier) (ds : Declarators) → (length parts ≡ 1 → ⊥) → None ≡ lone_tag (parts_of parts) ds
not_one [] ds h = refl
not_one (x ∷ []) ds h = absurd (h refl)
not_one (x ∷ y ∷ parts) ds h = refl

pub with_declarators : (parts : List Specifier) (ds : List InitDeclarator) → false ≡ (length ds == 0) → None ≡ lone_tag (parts_of parts) (declarators_of ds)
with_declarators [] ds h = refl
with_declarators (x ∷ []) [] h = let none : ⊥ = cc in absurd none
with_declarators (x ∷ []) (d ∷ ds) h = refl
with_declarators (x ∷ y ∷ parts) ds h = refl

abbrev pub Owned : Type 0
Owned = List (Vec ℕ Global)

pub among_owned : (names : Owned) (name : List ℕ) → list_any (λ (k : Vec ℕ Global). bytes_eq name k.items) names ≡ among (map (λ k. k.items) names) name
among_owned [] name = refl
among_owned (n ∷ names) name = ap (λ (b : Bool). bytes_eq name n.items || b) (among_owned names name)

pub added_owned : (names : Owned) (own : Vec ℕ Global) (b : Bool)
    → map (λ k. k.items) (if b then names else names ++ own ∷ []) ≡ (if b then map (λ k. k.items) names else map (λ k. k.items) names ++ own.items ∷ [])
added_owned names own true = refl
added_owned names own false = map-append (λ (k : Vec ℕ Global). k.items) names (own ∷ [])
