-- Lines and names of declarators with pointers before them.
use Rattle.std.proofs.Common.{◌≡◌, ◌≤◌, ℕ, Bool, true, false, List, [], ◌∷◌, length, get_or, refl, ap, sym, ◌∙◌, arith}
use Rattle.std.specs.Prelude.{◌==◌, ◌&&◌}
use Rattle.c_tree.specs.declared.expr.PointerMark.{PointerMark}
use Rattle.c_tree.specs.declared.declaration.DeclaratorSuffix.{DeclaratorSuffix, Bounded, Open, Empty, Void, Parameters'}
use Rattle.c_tree.specs.Declarations.{Full, full_unnamed, full_behind, view_full_suffix, full_suffixes_of, FullSuffixes, name_of, full_has_name}
use Rattle.c_tree.specs.Files.{full_is_empty}
use Rattle.c_elab_base.specs.Derivations.{full_line, name_line}
use Rattle.c_elab_base.proofs.Lists.{more_than_none}

pub first_pointer : (ps : List PointerMark) (p : PointerMark) (d : Full) → 1 ≤ length ps → (get_or ps 0 p).line ≡ full_line (full_behind ps d)
first_pointer [] p d h = absurd (omega arith)
first_pointer (q ∷ ps) p d h = refl

pub no_pointer : (ps : List PointerMark) (d : Full) → length ps ≡ 0 → full_line d ≡ full_line (full_behind ps d)
no_pointer [] d h = refl
no_pointer (q ∷ ps) d h = absurd (omega arith)

-- pointers declare nothing
pub behind_name : (ps : List PointerMark) (d : Full) → name_of (full_behind ps d) ≡ name_of d
behind_name [] d = refl
behind_name (p ∷ ps) d = behind_name ps d

pub behind_name_line : (ps : List PointerMark) (d : Full) → name_line (full_behind ps d) ≡ name_line d
behind_name_line [] d = refl
behind_name_line (p ∷ ps) d = behind_name_line ps d

pub behind_has_name : (ps : List PointerMark) (d : Full) → full_has_name (full_behind ps d) ≡ full_has_name d
behind_has_name [] d = refl
behind_has_name (p ∷ ps) d = behind_has_name ps d

-- what stands behind pointers isn't empty
pub behind_some : (ps : List PointerMark) (d : Full) → full_is_empty d ≡ false → full_is_empty (full_behind ps d) ≡ false
behind_some [] d h = h
behind_some (p ∷ ps) d h = refl

one_suffix : (x : DeclaratorSuffix) (rest : FullSuffixes) → full_is_empty (full_unnamed (view_full_suffix x rest)) ≡ false
one_suffix (Bounded line e) rest = refl
one_suffix (Open line) rest = refl
one_suffix (Empty line) rest = refl
one_suffix (Void line) rest = refl
one_suffix (Parameters' line shape ps variadic) rest = refl

no_suffix : (xs : List DeclaratorSuffix) → full_is_empty (full_unnamed (full_suffixes_of xs)) ≡ (length xs == 0)
no_suffix [] = refl
no_suffix (x ∷ xs) = one_suffix x (full_suffixes_of xs) ∙ sym (more_than_none (length xs))

pub nothing : (ps : List PointerMark) (xs : List DeclaratorSuffix) → full_is_empty (full_behind ps (full_unnamed (full_suffixes_of xs))) ≡ ((length ps == 0) && (length xs == 0))
nothing [] xs = no_suffix xs
nothing (p ∷ ps) xs = ap (λ (b : Bool). b && (length xs == 0)) (sym (more_than_none (length ps)))
