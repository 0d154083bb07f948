-- The depth of a list is the greatest of its items.
use Rattle.std.proofs.Common.{map, Bool, true, false, ◌==◌, eqb-true, sym, ◌≡◌, ◌≤◌, ◌<◌, ◌+◌, max, List, [], ◌∷◌, ◌++◌, ℕ, zero, suc, length, get_or, take, refl, ap, ◌∙◌, arith}
use Rattle.std.specs.Prelude.{option_map}
use Rattle.std.proofs.lemmas.List.{take_more}
use Rattle.c_tree.specs.declared.declaration.FullDeclarator.{FullDeclarator}
use Rattle.c_tree.specs.declared.declaration.DeclaratorSuffix.{DeclaratorSuffix, Bounded, Open, Empty, Void, Parameters'}
use Rattle.c_tree.specs.declared.declaration.Parameter.{Parameter}
use Rattle.c_tree.specs.declared.declaration.Enumerator.{Enumerator}
use Rattle.c_tree.specs.declared.declaration.InitDeclarator.{InitDeclarator}
use Rattle.c_tree.specs.declared.declaration.MemberDeclaration.{MemberDeclaration}
use Rattle.c_tree.specs.declared.declaration.Specifier.{Specifier}
use Rattle.c_tree.specs.declared.declaration.Initializer.{Initializer}
use Rattle.c_tree.specs.Tree.{boxed}
use Rattle.c_tree.specs.Declarations.{FullSuffixes, full_end, full_unnamed, view_enumerator, view_part, parts_of, members_of, view_full, fulls_of, view_full_suffix, full_suffixes_of, parameters_of, view_initializer, initials_of, declarators_of, value_depth, enumerators_depth, part_depth, parts_depth, members_depth, full_depth, fulls_depth, full_suffixes_depth, parameters_depth, initial_depth, initials_depth, initializer_depth, declarators_depth}

abbrev pub deepest : {X : Type 0} → (X → ℕ) → List X → ℕ
deepest f [] = 0
deepest f (x ∷ xs) = max (f x) (deepest f xs)

-- an item of a list is no deeper than the list
pub deepest_within : {X : Type 0} (f : X → ℕ) (xs : List X) (n : ℕ) (x : X) → n < length xs → f (get_or xs n x) ≤ deepest f xs
deepest_within f [] n x h = omega arith
deepest_within f (y ∷ xs) zero x h = omega arith
deepest_within f (y ∷ xs) (suc n) x h = let below = deepest_within f xs n x (omega arith) in omega arith

deepest_push : {X : Type 0} (f : X → ℕ) (xs : List X) (x : X) → deepest f (xs ++ x ∷ []) ≡ max (deepest f xs) (f x)
deepest_push f [] x = omega arith
deepest_push f (y ∷ xs) x = let above = deepest_push f xs x in omega arith

-- one item more
pub deepest_more : {X : Type 0} (f : X → ℕ) (xs : List X) (n : ℕ) (x : X) → n < length xs → deepest f (take (n + 1) xs) ≡ max (deepest f (take n xs)) (f (get_or xs n x))
deepest_more {X = X} f xs n x h = ap (λ (ys : List X). deepest f ys) (take_more xs n x h) ∙ deepest_push f (take n xs) (get_or xs n x)

abbrev pub of_enumerator : Enumerator → ℕ
of_enumerator e = value_depth (option_map boxed e.value)

pub enumerators_deepest : (es : List Enumerator) → enumerators_depth (map view_enumerator es) ≡ deepest of_enumerator es
enumerators_deepest [] = refl
enumerators_deepest (e ∷ es) = ap (max (of_enumerator e)) (enumerators_deepest es)

abbrev pub of_declarator : FullDeclarator → ℕ
of_declarator d = full_depth (view_full d)

pub fulls_deepest : (ds : List FullDeclarator) → fulls_depth (fulls_of ds) ≡ deepest of_declarator ds
fulls_deepest [] = refl
fulls_deepest (d ∷ ds) = ap (max (of_declarator d)) (fulls_deepest ds)

abbrev pub of_suffix : DeclaratorSuffix → ℕ
of_suffix s = full_suffixes_depth (view_full_suffix s full_end)

-- a suffix in front of others is as deep as the deepest of them
suffix_depth : (s : DeclaratorSuffix) (rest : FullSuffixes) → full_suffixes_depth (view_full_suffix s rest) ≡ max (of_suffix s) (full_suffixes_depth rest)
suffix_depth (Bounded line e) rest = omega arith
suffix_depth (Open line) rest = omega arith
suffix_depth (Empty line) rest = omega arith
suffix_depth (Void line) rest = omega arith
suffix_depth (Parameters' line shape ps variadic) rest = omega arith

pub full_suffixes_deepest : (ss : List DeclaratorSuffix) → full_suffixes_depth (full_suffixes_of ss) ≡ deepest of_suffix ss
full_suffixes_deepest [] = refl
full_suffixes_deepest (s ∷ ss) = suffix_depth s (full_suffixes_of ss) ∙ ap (max (of_suffix s)) (full_suffixes_deepest ss)

unnamed_suffix : (s : DeclaratorSuffix) (rest : FullSuffixes) → full_suffixes_depth (view_full_suffix s rest) + 1 ≡ full_depth (full_unnamed (view_full_suffix s rest))
unnamed_suffix (Bounded line e) rest = refl
unnamed_suffix (Open line) rest = refl
unnamed_suffix (Empty line) rest = refl
unnamed_suffix (Void line) rest = refl
unnamed_suffix (Parameters' line shape ps variadic) rest = refl

-- a declarator without a name is one level where it has suffixes
pub unnamed_empty : (ss : List DeclaratorSuffix) (b : Bool) → b ≡ (length ss == 0) → b ≡ true → full_depth (full_unnamed (full_suffixes_of ss)) ≡ 0
unnamed_empty [] b e f = refl
unnamed_empty (s ∷ ss) b e f = absurd (let g = eqb-true (length (s ∷ ss)) 0 (sym e ∙ f) in omega (arith, g))

pub unnamed_more : (ss : List DeclaratorSuffix) (b : Bool) → b ≡ (length ss == 0) → b ≡ false → full_depth (full_unnamed (full_suffixes_of ss)) ≡ full_suffixes_depth (full_suffixes_of ss) + 1
unnamed_more [] b e f = let never : ⊥ = let both : false ≡ true = sym f ∙ e in cc in absurd never
unnamed_more (s ∷ ss) b e f = sym (unnamed_suffix s (full_suffixes_of ss))

abbrev pub of_parameter : Parameter → ℕ
of_parameter p = max (parts_depth (parts_of p.specifiers.items)) (full_depth (view_full p.declarator))

pub parameters_deepest : (ps : List Parameter) → parameters_depth (parameters_of ps) ≡ deepest of_parameter ps
parameters_deepest [] = refl
parameters_deepest (p ∷ ps) = ap (max (of_parameter p)) (parameters_deepest ps)

abbrev pub of_specifier : Specifier → ℕ
of_specifier s = part_depth (view_part s)

pub parts_deepest : (ss : List Specifier) → parts_depth (parts_of ss) ≡ deepest of_specifier ss
parts_deepest [] = refl
parts_deepest (s ∷ ss) = ap (max (of_specifier s)) (parts_deepest ss)

abbrev pub of_member : MemberDeclaration → ℕ
of_member m = max (parts_depth (parts_of m.specifiers.items)) (fulls_depth (fulls_of m.declarators.items))

pub members_deepest : (ms : List MemberDeclaration) → members_depth (members_of ms) ≡ deepest of_member ms
members_deepest [] = refl
members_deepest (m ∷ ms) = ap (max (of_member m)) (members_deepest ms)

abbrev pub of_initializer : Initializer → ℕ
of_initializer i = initial_depth (view_initializer i)

pub initials_deepest : (is : List Initializer) → initials_depth (initials_of is) ≡ deepest of_initializer is
initials_deepest [] = refl
initials_deepest (i ∷ is) = ap (max (of_initializer i)) (initials_deepest is)

abbrev pub of_init_declarator : InitDeclarator → ℕ
of_init_declarator d = max (full_depth (view_full d.declarator)) (initializer_depth (option_map view_initializer d.initializer))

pub declarators_deepest : (ds : List InitDeclarator) → declarators_depth (declarators_of ds) ≡ deepest of_init_declarator ds
declarators_deepest [] = refl
declarators_deepest (d ∷ ds) = ap (max (of_init_declarator d)) (declarators_deepest ds)
