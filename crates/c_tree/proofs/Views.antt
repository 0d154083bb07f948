-- The view of what holds a list in memory: a call, and a declarator with its suffixes in a type name or in parentheses; and the
-- depth of lists.
use Rattle.std.proofs.Common.{map, ◌≢◌, ◌≡◌, ◌≤◌, ◌<◌, ◌+◌, max, List, [], ◌∷◌, ◌++◌, ℕ, zero, suc, length, get_or, take, refl, ap, sym, ◌∙◌, arith}
use Rattle.std.proofs.lemmas.List.{take_more}
use mathlib.Core.Former.{Count}
use Rattle.std.specs.Prelude.{Box, Vec}
use Rattle.std.specs.Global.{Global}
use Rattle.c_tree.specs.declared.expr.Expr.{Expr, Row_of-Expr, end_of-Expr, more_of-Expr, items-the_row-Expr, items_hidden-the_row-Expr-1, Call, Call'}
use Rattle.c_tree.specs.declared.expr.PointerMark.{PointerMark}
use Rattle.c_tree.specs.declared.expr.Expr.{Cast, Cast', SizeofType, SizeofType'}
use Rattle.c_tree.specs.declared.expr.TypeName.{TypeName}
use Rattle.c_tree.specs.declared.expr.Declarator.{Declarator, Row_of-ArraySuffix, end_of-ArraySuffix, more_of-ArraySuffix, items-the_row-ArraySuffix, items_hidden-the_row-ArraySuffix-0}
use Rattle.c_tree.specs.declared.expr.DeclaratorCore.{DeclaratorCore, Inside, Inside'}
use Rattle.c_tree.specs.declared.expr.ArraySuffix.{ArraySuffix, Bounded', Open}
use Rattle.c_tree.specs.Tree.{Declared, Suffixes, unnamed, no_suffix, cast, sizeof_type, inside, call, more, behind_pointers, view, views, views_of, view_type_part, view_core, view_suffix, view_suffixes, suffixes_of, view_declarator, pointed, depth, depth_of, declared_depth, suffixes_depth}

views_row : (n : _) (row : Row_of-Expr n) → views row ≡ views_of (items-the_row-Expr n row)
views_row _ end_of-Expr = refl
views_row _ (more_of-Expr e rest) = ap (more (view e)) (views_row _ rest)

abbrev row_of : Expr → (n : Count) × Row_of-Expr n
row_of (Call' p f shape row) = (_, row)
row_of _ = (_, end_of-Expr)

-- the view of a call as code makes it
pub view_call : (f : Box Expr Global) (args : Vec Expr Global) → view (Call f args) ≡ call (view f.value) (views_of args.items)
view_call f args =
    let row = row_of (Call f args) in
    ap (call (view f.value)) (views_row row.0 row.1 ∙ ap views_of (items_hidden-the_row-Expr-1 args))

-- a tree of a list is no deeper than the list
pub depth_within : (es : List Expr) (i : ℕ) (e : Expr) → i < length es → depth (view (get_or es i e)) ≤ depth_of (views_of es)
depth_within [] i e h = omega arith
depth_within (x ∷ es) zero e h = omega arith
depth_within (x ∷ es) (suc i) e h = let below = depth_within es i e (omega arith) in omega arith

-- one tree behind others
pub depth_push : (es : List Expr) (e : Expr) → depth_of (views_of (es ++ e ∷ [])) ≡ max (depth_of (views_of es)) (depth (view e))
depth_push [] e = omega arith
depth_push (x ∷ es) e = let above = depth_push es e in omega arith

-- one tree more
pub depth_more : (es : List Expr) (i : ℕ) (e : Expr) → i < length es → depth_of (views_of (take (i + 1) es)) ≡ max (depth_of (views_of (take i es))) (depth (view (get_or es i e)))
depth_more es i e h = ap (λ (xs : List Expr). depth_of (views_of xs)) (take_more es i e h) ∙ depth_push (take i es) (get_or es i e)

suffixes_row : (n : _) (row : Row_of-ArraySuffix n) → view_suffixes row ≡ suffixes_of (items-the_row-ArraySuffix n row)
suffixes_row _ end_of-ArraySuffix = refl
suffixes_row _ (more_of-ArraySuffix s rest) = ap (view_suffix s) (suffixes_row _ rest)

abbrev core_row : DeclaratorCore → (n : Count) × Row_of-ArraySuffix n
core_row (Inside' line p ps core shape row) = (_, row)
core_row _ = (_, end_of-ArraySuffix)

-- the view of a declarator in parentheses as code makes it
pub view_inside : (line : ℕ) (d : Box Declarator Global) (suffixes : Suffixes) → view_core (Inside line d) suffixes ≡ inside line (view_declarator d.value) suffixes
view_inside line d suffixes =
    let row = core_row (Inside line d) in
    ap (λ (ss : Suffixes). inside line (behind_pointers d.value.pointers.items (view_core d.value.core ss)) suffixes) (suffixes_row row.0 row.1 ∙ ap suffixes_of (items_hidden-the_row-ArraySuffix-0 d.value.suffixes))

abbrev type_row : Expr → (n : Count) × Row_of-ArraySuffix n
type_row (Cast' line p parts ps core shape row q e) = (_, row)
type_row (SizeofType' line p parts ps core shape row) = (_, row)
type_row _ = (_, end_of-ArraySuffix)

-- the views of nodes with a type name
pub view_cast : (line : ℕ) (t : Box TypeName Global) (e : Box Expr Global) → view (Cast line t e) ≡ cast line (map view_type_part t.value.specifiers.items) (view_declarator t.value.declarator) (view e.value)
view_cast line t e =
    let row = type_row (Cast line t e) in
    ap (λ (ss : Suffixes). cast line (map view_type_part t.value.specifiers.items) (behind_pointers t.value.declarator.pointers.items (view_core t.value.declarator.core ss)) (view e.value))
    (suffixes_row row.0 row.1 ∙ ap suffixes_of (items_hidden-the_row-ArraySuffix-0 t.value.declarator.suffixes))

pub view_sizeof_type : (line : ℕ) (t : Box TypeName Global) → view (SizeofType line t) ≡ sizeof_type line (map view_type_part t.value.specifiers.items) (view_declarator t.value.declarator)
view_sizeof_type line t =
    let row = type_row (SizeofType line t) in
    ap (λ (ss : Suffixes). sizeof_type line (map view_type_part t.value.specifiers.items) (behind_pointers t.value.declarator.pointers.items (view_core t.value.declarator.core ss)))
    (suffixes_row row.0 row.1 ∙ ap suffixes_of (items_hidden-the_row-ArraySuffix-0 t.value.declarator.suffixes))

-- a suffix in front of others is as deep as the deepest of them
suffix_depth : (s : ArraySuffix) (rest : Suffixes) → suffixes_depth (view_suffix s rest) ≡ max (suffixes_depth (view_suffix s no_suffix)) (suffixes_depth rest)
suffix_depth (Bounded' line p e) rest = omega arith
suffix_depth (Open line) rest = omega arith

-- a suffix of a list is no deeper than the list
pub suffix_within : (ss : List ArraySuffix) (n : ℕ) (s : ArraySuffix) → n < length ss → suffixes_depth (view_suffix (get_or ss n s) no_suffix) ≤ suffixes_depth (suffixes_of ss)
suffix_within [] n s h = omega arith
suffix_within (x ∷ xs) zero s h = omega (arith, suffix_depth x (suffixes_of xs))
suffix_within (x ∷ xs) (suc n) s h = let below = suffix_within xs n s (omega arith) in omega (arith, suffix_depth x (suffixes_of xs))

-- one suffix behind others
pub suffix_push : (ss : List ArraySuffix) (s : ArraySuffix) → suffixes_depth (suffixes_of (ss ++ s ∷ [])) ≡ max (suffixes_depth (suffixes_of ss)) (suffixes_depth (view_suffix s no_suffix))
suffix_push [] s = omega arith
suffix_push (x ∷ xs) s = let above = suffix_push xs s in omega (arith, suffix_depth x (suffixes_of xs), suffix_depth x (suffixes_of (xs ++ s ∷ [])))

-- one suffix more
pub suffix_more : (ss : List ArraySuffix) (n : ℕ) (s : ArraySuffix) → n < length ss → suffixes_depth (suffixes_of (take (n + 1) ss)) ≡ max (suffixes_depth (suffixes_of (take n ss))) (suffixes_depth (view_suffix (get_or ss n s) no_suffix))
suffix_more ss n s h = ap (λ (xs : List ArraySuffix). suffixes_depth (suffixes_of xs)) (take_more ss n s h) ∙ suffix_push (take n ss) (get_or ss n s)

-- a declarator without a name, but with suffixes, is one level
pub unnamed_depth : (ss : List ArraySuffix) (h : ℕ) → h ≡ suffixes_depth (suffixes_of ss) → length ss ≢ 0 → h + 1 ≡ declared_depth (unnamed (suffixes_of ss))
unnamed_depth [] h e f = absurd (f refl)
unnamed_depth (Bounded' line p e ∷ ss) h f g = omega arith
unnamed_depth (Open line ∷ ss) h f g = omega arith

-- what stands behind pointers is one level with them, unless there is none
behind_depth_some : (p : PointerMark) (ps : List PointerMark) (d : Declared) → declared_depth (behind_pointers (p ∷ ps) d) ≡ max (declared_depth d) 1
behind_depth_some p [] d = refl
behind_depth_some p (q ∷ ps) d = ap (λ (n : ℕ). max n 1) (behind_depth_some q ps d) ∙ omega arith

pub behind_depth : (ps : List PointerMark) (d : Declared) → declared_depth (behind_pointers ps d) ≡ pointed ps (declared_depth d)
behind_depth [] d = refl
behind_depth (p ∷ ps) d = behind_depth_some p ps d

pub behind_least : (ps : List PointerMark) (d : Declared) → declared_depth d ≤ declared_depth (behind_pointers ps d)
behind_least [] d = omega arith
behind_least (p ∷ ps) d = let below = behind_least ps d in omega (arith, below)

pub behind_levels : (ps : List PointerMark) (d : Declared) (levels result : ℕ) → result ≡ pointed ps levels → levels ≡ declared_depth d → result ≡ declared_depth (behind_pointers ps d)
behind_levels ps d levels result e f = e ∙ ap (pointed ps) f ∙ sym (behind_depth ps d)
