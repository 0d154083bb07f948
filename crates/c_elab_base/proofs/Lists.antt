-- Lists of the tree from a place on.
use Rattle.std.proofs.Common.{◌≡◌, ◌<◌, ◌+◌, ℕ, suc, List, length, get_or, drop, refl, ap, sym, ◌∙◌, Bool, true, false, eqb-true, arith}
use Rattle.std.proofs.lemmas.List.{drop_more}
use Rattle.c_tree.specs.declared.declaration.Specifier.{Specifier}
use Rattle.c_tree.specs.declared.declaration.MemberDeclaration.{MemberDeclaration}
use Rattle.c_tree.specs.declared.declaration.InitDeclarator.{InitDeclarator}
use Rattle.c_tree.specs.declared.declaration.Initializer.{Initializer}
use Rattle.c_tree.specs.Declarations.{part, initials, view_part, parts_of, view_member, members_of, view_init_declarator, declarators_of, view_initializer, initials_of}
use Rattle.std.specs.Prelude.{◌==◌}

pub parts_at : (ss : List Specifier) (i : ℕ) (s : Specifier) → i < length ss → s ≡ get_or ss i s → parts_of (drop i ss) ≡ part (view_part s) (parts_of (drop (i + 1) ss))
parts_at ss i s h e = ap parts_of (drop_more ss i s h) ∙ ap (λ (x : Specifier). part (view_part x) (parts_of (drop (i + 1) ss))) (sym e)

pub members_at : (ms : List MemberDeclaration) (i : ℕ) (m : MemberDeclaration) → i < length ms → m ≡ get_or ms i m → members_of (drop i ms) ≡ view_member m (members_of (drop (i + 1) ms))
members_at ms i m h e = ap members_of (drop_more ms i m h) ∙ ap (λ (x : MemberDeclaration). view_member x (members_of (drop (i + 1) ms))) (sym e)

pub declarators_at : (ds : List InitDeclarator) (i : ℕ) (d : InitDeclarator) → i < length ds → d ≡ get_or ds i d → declarators_of (drop i ds) ≡ view_init_declarator d (declarators_of (drop (i + 1) ds))
declarators_at ds i d h e = ap declarators_of (drop_more ds i d h) ∙ ap (λ (x : InitDeclarator). view_init_declarator x (declarators_of (drop (i + 1) ds))) (sym e)

pub initials_at : (is : List Initializer) (k : ℕ) (i : Initializer) → k < length is → i ≡ get_or is k i → initials_of (drop k is) ≡ initials (view_initializer i) (initials_of (drop (k + 1) is))
initials_at is k i h e = ap initials_of (drop_more is k i h) ∙ ap (λ (x : Initializer). initials (view_initializer x) (initials_of (drop (k + 1) is))) (sym e)

pub more_than_none : (n : ℕ) → (suc n == 0) ≡ false
more_than_none n = by (suc n == 0) refl where
  by : (b : Bool) → (suc n == 0) ≡ b → b ≡ false
  by true e = let no : suc n ≡ 0 = eqb-true (suc n) 0 e in let none : ⊥ = omega (arith, no) in absurd none
  by false e = refl
