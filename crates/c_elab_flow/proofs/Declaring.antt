-- The declarator of a definition: whether it has a function's suffix alone.
use Rattle.std.proofs.Common.{◌≡◌, ℕ, Bool, true, false, List, [], ◌∷◌, length, get_or, Option, Some, None, refl, ap, sym, ◌∙◌, arith}
use Rattle.std.specs.Prelude.{◌==◌, ◌&&◌, is_some, Vec, vec_len}
use Rattle.std.specs.Global.{Global}
use Rattle.c_tree.specs.declared.expr.PointerMark.{PointerMark}
use Rattle.c_tree.specs.declared.declaration.DeclaratorSuffix.{DeclaratorSuffix, Bounded, Open, Empty, Void, Parameters'}
use Rattle.c_tree.specs.Declarations.{Parameters, Full, full_unnamed, full_named, full_inside, full_behind, FullSuffixes, full_end, view_full_suffix, full_suffixes_of}
use Rattle.c_elab_flow.specs.Files.{one_function, no_suffixes, is_name_alone, own_parameters}
use Rattle.c_elab_flow.specs.Held.{IsOwn}
use Rattle.c_elab_base.proofs.Lists.{more_than_none}

has_one : (x : DeclaratorSuffix) (rest : FullSuffixes) → no_suffixes (view_full_suffix x rest) ≡ false
has_one (Bounded line e) rest = refl
has_one (Open line) rest = refl
has_one (Empty line) rest = refl
has_one (Void line) rest = refl
has_one (Parameters' line shape ps variadic) rest = refl

pub none_are : (xs : List DeclaratorSuffix) → (length xs == 0) ≡ no_suffixes (full_suffixes_of xs)
none_are [] = refl
none_are (x ∷ xs) = more_than_none (length xs) ∙ sym (has_one x (full_suffixes_of xs))

pub none_stored : (v : Vec DeclaratorSuffix Global) → (vec_len v == 0) ≡ no_suffixes (full_suffixes_of v.items)
none_stored v = ap (λ (n : ℕ). n == 0) v.ok.0 ∙ none_are v.items

-- ---- pointers before a declarator

behind_alone : (ps : List PointerMark) (d : Full) → is_name_alone (full_behind ps d) ≡ ((length ps == 0) && is_name_alone d)
behind_alone [] d = refl
behind_alone (p ∷ ps) d = ap (λ (b : Bool). b && is_name_alone d) (sym (more_than_none (length ps)))

pub unnamed_alone : (ps : List PointerMark) (suffixes : FullSuffixes) → is_name_alone (full_behind ps (full_unnamed suffixes)) ≡ false
unnamed_alone [] suffixes = refl
unnamed_alone (p ∷ ps) suffixes = refl

pub unnamed_own : (ps : List PointerMark) (suffixes : FullSuffixes) → own_parameters (full_behind ps (full_unnamed suffixes)) ≡ None
unnamed_own [] suffixes = refl
unnamed_own (p ∷ ps) suffixes = refl

direct : (ps : List PointerMark) (d : Full) → true ≡ (length ps == 0) → own_parameters (full_behind ps d) ≡ own_parameters d
direct [] d h = refl
direct (p ∷ ps) d h = let no : true ≡ false = h ∙ more_than_none (length ps) in let none : ⊥ = cc in absurd none

pointed : (ps : List PointerMark) (d : Full) → false ≡ (length ps == 0) → own_parameters (full_behind ps d) ≡ None
pointed [] d h = let none : ⊥ = cc in absurd none
pointed (p ∷ ps) d h = refl

pub direct_own : (v : Vec PointerMark Global) (d : Full) → true ≡ (vec_len v == 0) → own_parameters (full_behind v.items d) ≡ own_parameters d
direct_own v d h = direct v.items d (h ∙ ap (λ (n : ℕ). n == 0) v.ok.0)

pub pointed_own : (v : Vec PointerMark Global) (d : Full) → false ≡ (vec_len v == 0) → own_parameters (full_behind v.items d) ≡ None
pointed_own v d h = pointed v.items d (h ∙ ap (λ (n : ℕ). n == 0) v.ok.0)

-- ---- a function's suffix

pub only_one : (xs : List DeclaratorSuffix) (x : DeclaratorSuffix) → length xs ≡ 1 → x ≡ get_or xs 0 x → full_suffixes_of xs ≡ view_full_suffix x full_end
only_one [] x h e = let none : ⊥ = omega (arith, h) in absurd none
only_one (y ∷ []) x h e = ap (λ (z : DeclaratorSuffix). view_full_suffix z full_end) (sym e)
only_one (y ∷ z ∷ xs) x h e = let none : ⊥ = omega (arith, h) in absurd none

two_are : (x y : DeclaratorSuffix) (rest : FullSuffixes) → one_function (view_full_suffix x (view_full_suffix y rest)) ≡ None
two_are (Bounded line e) y rest = refl
two_are (Open line) y rest = refl
two_are (Empty line) (Bounded at e) rest = refl
two_are (Empty line) (Open at) rest = refl
two_are (Empty line) (Empty at) rest = refl
two_are (Empty line) (Void at) rest = refl
two_are (Empty line) (Parameters' at shape ps variadic) rest = refl
two_are (Void line) (Bounded at e) rest = refl
two_are (Void line) (Open at) rest = refl
two_are (Void line) (Empty at) rest = refl
two_are (Void line) (Void at) rest = refl
two_are (Void line) (Parameters' at shape ps variadic) rest = refl
two_are (Parameters' line form qs others) (Bounded at e) rest = refl
two_are (Parameters' line form qs others) (Open at) rest = refl
two_are (Parameters' line form qs others) (Empty at) rest = refl
two_are (Parameters' line form qs others) (Void at) rest = refl
two_are (Parameters' line form qs others) (Parameters' at shape ps variadic) rest = refl

pub not_one : (xs : List DeclaratorSuffix) → (length xs ≡ 1 → ⊥) → one_function (full_suffixes_of xs) ≡ None
not_one [] h = refl
not_one (x ∷ []) h = absurd (h refl)
not_one (x ∷ y ∷ xs) h = two_are x y (full_suffixes_of xs)

some_own : (own : Option (Parameters × Bool)) (x : DeclaratorSuffix) → own ≡ one_function (view_full_suffix x full_end) → true ≡ is_some (one_function (view_full_suffix x full_end)) → IsOwn own x
some_own None x e h = let no : true ≡ false = h ∙ ap is_some (sym e) in let none : ⊥ = cc in absurd none
some_own (Some q) x e h = (q, refl, sym e)

pub one_own : (xs : List DeclaratorSuffix) (x : DeclaratorSuffix) → length xs ≡ 1 → x ≡ get_or xs 0 x → true ≡ is_some (one_function (view_full_suffix x full_end)) → IsOwn (one_function (full_suffixes_of xs)) x
one_own xs x h e some = some_own (one_function (full_suffixes_of xs)) x (ap one_function (only_one xs x h e)) some

no_function : (o : Option (Parameters × Bool)) → false ≡ is_some o → o ≡ None
no_function None h = refl
no_function (Some q) h = let none : ⊥ = cc in absurd none

pub none_own : (xs : List DeclaratorSuffix) (x : DeclaratorSuffix) → length xs ≡ 1 → x ≡ get_or xs 0 x → false ≡ is_some (one_function (view_full_suffix x full_end)) → one_function (full_suffixes_of xs) ≡ None
none_own xs x h e none = ap one_function (only_one xs x h e) ∙ no_function (one_function (view_full_suffix x full_end)) none

-- ---- a declarator in parentheses

pub inside_none : (line : ℕ) (d : Full) (suffixes : FullSuffixes) → true ≡ no_suffixes suffixes → own_parameters (full_inside line d suffixes) ≡ own_parameters d
inside_none line d suffixes h = rw (sym h) refl

pub inside_own : (line : ℕ) (d : Full) (suffixes : FullSuffixes) → false ≡ no_suffixes suffixes → true ≡ is_name_alone d → own_parameters (full_inside line d suffixes) ≡ one_function suffixes
inside_own line d suffixes h g = rw (sym h, sym g) refl

pub inside_other : (line : ℕ) (d : Full) (suffixes : FullSuffixes) → false ≡ no_suffixes suffixes → false ≡ is_name_alone d → own_parameters (full_inside line d suffixes) ≡ None
inside_other line d suffixes h g = rw (sym h, sym g) refl

-- with pointers before it
pub inside_alone : (ps : List PointerMark) (line : ℕ) (d : Full) (suffixes : FullSuffixes) (b : Bool) → true ≡ ((length ps == 0) && no_suffixes suffixes) → b ≡ is_name_alone d → b ≡ is_name_alone (full_behind ps (full_inside line d suffixes))
inside_alone ps line d suffixes b h e = by (length ps == 0) (no_suffixes suffixes) (is_name_alone d) h e ∙ sym (behind_alone ps (full_inside line d suffixes)) where
  by : (p q r : Bool) → true ≡ (p && q) → b ≡ r → b ≡ (p && (r && q))
  by true true true h e = e
  by true true false h e = e
  by true false r h e = let none : ⊥ = cc in absurd none
  by false q r h e = let none : ⊥ = cc in absurd none

pub inside_more : (ps : List PointerMark) (line : ℕ) (d : Full) (suffixes : FullSuffixes) → false ≡ ((length ps == 0) && no_suffixes suffixes) → false ≡ is_name_alone (full_behind ps (full_inside line d suffixes))
inside_more ps line d suffixes h = by (length ps == 0) (no_suffixes suffixes) (is_name_alone d) h ∙ sym (behind_alone ps (full_inside line d suffixes)) where
  by : (p q r : Bool) → false ≡ (p && q) → false ≡ (p && (r && q))
  by true true r h = let none : ⊥ = cc in absurd none
  by true false true h = refl
  by true false false h = refl
  by false q r h = refl

pub named_alone : (ps : List PointerMark) (line : ℕ) (n : List ℕ) (suffixes : FullSuffixes) → ((length ps == 0) && no_suffixes suffixes) ≡ is_name_alone (full_behind ps (full_named line n suffixes))
named_alone ps line n suffixes = sym (behind_alone ps (full_named line n suffixes))
