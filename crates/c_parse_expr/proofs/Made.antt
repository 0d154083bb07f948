-- The nodes that hold a list in memory, as code makes them.
use Rattle.std.proofs.Common.{◌≢◌, ◌≡◌, ◌+◌, max, map, ℕ, List, [], ◌∷◌, length, Option, Some, None, refl, ap, ◌∙◌, arith}
use Rattle.std.specs.Prelude.{Box}
use Rattle.std.specs.Global.{Global}
use Rattle.c_token.specs.declared.token.Token.{Token}
use Rattle.c_tree.specs.declared.expr.Expr.{Expr, Cast, SizeofType}
use Rattle.c_tree.specs.declared.expr.TypeName.{TypeName}
use Rattle.c_tree.specs.declared.expr.Declarator.{Declarator}
use Rattle.c_tree.specs.declared.expr.DeclaratorCore.{Inside}
use Rattle.c_tree.specs.declared.expr.ArraySuffix.{ArraySuffix, Bounded', Open}
use Rattle.c_tree.specs.Tree.{Tree, Suffixes, unnamed, bounded, unbounded, view, view_core, view_declarator, suffixes_of, depth, declared_depth, suffixes_depth}
use Rattle.c_tree.proofs.Views.{view_cast, view_sizeof_type, view_inside}
use Rattle.c_parse_expr.specs.inner.Many.{◌>>=◌, many_at}
use Rattle.c_parse_expr.specs.inner.Reading.{Reader, bracket_at, pair_of, suffixes_from, suffixes_at}

-- a cast
pub cast_depth : (line h a r : ℕ) (t : Box TypeName Global) (e : Box Expr Global) (n : TypeName) (v : Expr) → r ≡ max h a → h ≡ declared_depth (view_declarator n.declarator) → a ≡ depth (view v) → t.value ≡ n → e.value ≡ v → r + 1 ≡ depth (view (Cast line t e))
cast_depth line h a r t e n v same f g i j =
    let whole = ap depth (view_cast line t e) in
    let one = ap (λ (x : TypeName). declared_depth (view_declarator x.declarator)) i in
    let two = ap (λ (x : Expr). depth (view x)) j in
    omega (arith, whole, one, two)

-- the size of a type
pub sizeof_depth : (line h : ℕ) (t : Box TypeName Global) (n : TypeName) → h ≡ declared_depth (view_declarator n.declarator) → t.value ≡ n → h + 1 ≡ depth (view (SizeofType line t))
sizeof_depth line h t n f i =
    let whole = ap depth (view_sizeof_type line t) in
    let one = ap (λ (x : TypeName). declared_depth (view_declarator x.declarator)) i in
    omega (arith, whole, one)

-- a declarator in parentheses
pub inside_depth : (line h a r : ℕ) (d : Declarator) (b : Box Declarator Global) (ss : Suffixes) → r ≡ max h a → h ≡ declared_depth (view_declarator d) → a ≡ suffixes_depth ss → b.value ≡ d → r + 1 ≡ declared_depth (view_core (Inside line b) ss)
inside_depth line h a r d b ss same f g i =
    let whole = ap declared_depth (view_inside line b ss) in
    let one = ap (λ (x : Declarator). declared_depth (view_declarator x)) i in
    omega (arith, whole, one)

-- suffixes
pub from_pairs_of : (ss : List ArraySuffix) → suffixes_from (map pair_of ss) ≡ suffixes_of ss
from_pairs_of [] = refl
from_pairs_of (Bounded' line p e ∷ ss) = ap (bounded line (view e)) (from_pairs_of ss)
from_pairs_of (Open line ∷ ss) = ap (unbounded line) (from_pairs_of ss)

pub suffixes_made : (sub : Reader) (ts rest : List Token) (ss : List ArraySuffix) → many_at (bracket_at sub) (length ts + 1) tt ts ≡ Some (map pair_of ss, rest) → suffixes_at sub ts ≡ Some (suffixes_of ss, rest)
unfolding suffixes_at
suffixes_made sub ts rest ss e =
    ap (λ (o : Option (List (ℕ × Option Tree) × List Token)). o >>= λ x. Some (suffixes_from x.0, x.1)) e ∙ ap (λ (x : Suffixes). Some (x, rest)) (from_pairs_of ss)

pub suffixes_fail : (sub : Reader) (ts : List Token) → many_at (bracket_at sub) (length ts + 1) tt ts ≡ None → suffixes_at sub ts ≡ None
unfolding suffixes_at
suffixes_fail sub ts e = ap (λ (o : Option (List (ℕ × Option Tree) × List Token)). o >>= λ x. Some (suffixes_from x.0, x.1)) e

pub unnamed_depth : (ss : List ArraySuffix) (h : ℕ) → h ≡ suffixes_depth (suffixes_of ss) → length ss ≢ 0 → h + 1 ≡ declared_depth (unnamed (suffixes_of ss))
unnamed_depth [] h e f = absurd (f refl)
unnamed_depth (Bounded' line p e ∷ ss) h f g = omega arith
unnamed_depth (Open line ∷ ss) h f g = omega arith
