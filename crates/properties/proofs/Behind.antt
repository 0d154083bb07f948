-- What stands in lists of trees, behind others: one item after the other.
use Rattle.std.proofs.Common.{◌≡◌, ◌∙◌, ◌≤◌, ◌<◌, ◌+◌, ◌*◌, min, ℕ, List, [], ◌∷◌, ◌++◌, map, fold, take, length, get_or, refl, sym, ap, append_assoc, append-nil, arith}
use Rattle.std.proofs.lemmas.List.{take_all}
use Rattle.std.proofs.lemmas.List.Sums.{fold_more}
use Rattle.std.specs.Prelude.{option_map}
use Rattle.c_tree.specs.declared.expr.Expr.{Expr}
use Rattle.c_tree.specs.declared.expr.ArraySuffix.{ArraySuffix, Bounded', Open}
use Rattle.c_tree.specs.declared.declaration.Enumerator.{Enumerator}
use Rattle.c_tree.specs.declared.declaration.Specifier.{Specifier}
use Rattle.c_tree.specs.declared.declaration.MemberDeclaration.{MemberDeclaration}
use Rattle.c_tree.specs.declared.declaration.FullDeclarator.{FullDeclarator}
use Rattle.c_tree.specs.declared.declaration.DeclaratorSuffix.{DeclaratorSuffix}
use Rattle.c_tree.specs.declared.declaration.DeclaratorSuffix as full_suffix
use Rattle.c_tree.specs.declared.declaration.Parameter.{Parameter}
use Rattle.c_tree.specs.declared.declaration.Initializer.{Initializer}
use Rattle.c_tree.specs.declared.declaration.InitDeclarator.{InitDeclarator}
use Rattle.c_tree.specs.declared.statement.Item.{Item}
use Rattle.c_tree.specs.declared.statement.Item as items
use Rattle.c_tree.specs.declared.statement.External.{External}
use Rattle.c_tree.specs.declared.statement.External.TheVariants as externals
use Rattle.c_tree.specs.Tree.{Suffixes, no_suffix, view, views_of, view_suffix, suffixes_of, boxed}
use Rattle.c_tree.specs.Declarations.{FullSuffixes, full_end, view_enumerator, view_part, parts_of, members_of, view_full, fulls_of, view_full_suffix, full_suffixes_of, parameters_of, view_initializer, initials_of, declarators_of, name_of, full_unnamed, full_depth, full_suffixes_depth}
use Rattle.c_tree.specs.Statements.{Items, done, view_statement, view_item, items_of, externals_of}
use Rattle.properties.specs.declared.spots.Spot.{Spot}
use Rattle.properties.specs.Spots.{with_tree, with_trees, with_suffixes, with_value, with_enumerators, with_part, with_parts, with_members, with_full, with_fulls, with_full_suffixes, with_parameters, with_initial, with_initials, with_initializer, with_declarators, with_items}
use Rattle.report.specs.Properties.{Told}
use Rattle.properties.specs.Properties.{told_of_body, properties_of, with_external}

abbrev pub by_expr : List Spot → Expr → List Spot
by_expr before e = with_tree before (view e)

pub exprs_in_turn : (before : List Spot) (es : List Expr) → with_trees before (views_of es) ≡ fold by_expr before es
exprs_in_turn before [] = refl
exprs_in_turn before (e ∷ es) = exprs_in_turn (by_expr before e) es

abbrev pub by_suffix : List Spot → ArraySuffix → List Spot
by_suffix before s = with_suffixes before (view_suffix s no_suffix)

first_suffix : (before : List Spot) (s : ArraySuffix) (rest : Suffixes) → with_suffixes before (view_suffix s rest) ≡ with_suffixes (by_suffix before s) rest
first_suffix before (Bounded' line p e) rest = refl
first_suffix before (Open line) rest = refl

pub suffixes_in_turn : (before : List Spot) (ss : List ArraySuffix) → with_suffixes before (suffixes_of ss) ≡ fold by_suffix before ss
suffixes_in_turn before [] = refl
suffixes_in_turn before (s ∷ ss) = first_suffix before s (suffixes_of ss) ∙ suffixes_in_turn (by_suffix before s) ss

abbrev pub by_enumerator : List Spot → Enumerator → List Spot
by_enumerator before e = with_value before (option_map boxed e.value)

pub enumerators_in_turn : (before : List Spot) (es : List Enumerator) → with_enumerators before (map view_enumerator es) ≡ fold by_enumerator before es
enumerators_in_turn before [] = refl
enumerators_in_turn before (e ∷ es) = enumerators_in_turn (by_enumerator before e) es

abbrev pub by_specifier : List Spot → Specifier → List Spot
by_specifier before s = with_part before (view_part s)

pub parts_in_turn : (before : List Spot) (ss : List Specifier) → with_parts before (parts_of ss) ≡ fold by_specifier before ss
parts_in_turn before [] = refl
parts_in_turn before (s ∷ ss) = parts_in_turn (by_specifier before s) ss

abbrev pub by_member : List Spot → MemberDeclaration → List Spot
by_member before m = with_fulls (with_parts before (parts_of m.specifiers.items)) (fulls_of m.declarators.items)

pub members_in_turn : (before : List Spot) (ms : List MemberDeclaration) → with_members before (members_of ms) ≡ fold by_member before ms
members_in_turn before [] = refl
members_in_turn before (m ∷ ms) = members_in_turn (by_member before m) ms

abbrev pub by_full : List Spot → FullDeclarator → List Spot
by_full before d = with_full before (view_full d)

pub fulls_in_turn : (before : List Spot) (ds : List FullDeclarator) → with_fulls before (fulls_of ds) ≡ fold by_full before ds
fulls_in_turn before [] = refl
fulls_in_turn before (d ∷ ds) = fulls_in_turn (by_full before d) ds

abbrev pub by_full_suffix : List Spot → DeclaratorSuffix → List Spot
by_full_suffix before s = with_full_suffixes before (view_full_suffix s full_end)

first_full_suffix : (before : List Spot) (s : DeclaratorSuffix) (rest : FullSuffixes) → with_full_suffixes before (view_full_suffix s rest) ≡ with_full_suffixes (by_full_suffix before s) rest
first_full_suffix before (full_suffix.Bounded line e) rest = refl
first_full_suffix before (full_suffix.Open line) rest = refl
first_full_suffix before (full_suffix.Empty line) rest = refl
first_full_suffix before (full_suffix.Void line) rest = refl
first_full_suffix before (full_suffix.Parameters' line shape ps variadic) rest = refl

pub full_suffixes_in_turn : (before : List Spot) (ss : List DeclaratorSuffix) → with_full_suffixes before (full_suffixes_of ss) ≡ fold by_full_suffix before ss
full_suffixes_in_turn before [] = refl
full_suffixes_in_turn before (s ∷ ss) = first_full_suffix before s (full_suffixes_of ss) ∙ full_suffixes_in_turn (by_full_suffix before s) ss

abbrev pub by_parameter : List Spot → Parameter → List Spot
by_parameter before p = with_full (with_parts before (parts_of p.specifiers.items)) (view_full p.declarator)

pub parameters_in_turn : (before : List Spot) (ps : List Parameter) → with_parameters before (parameters_of ps) ≡ fold by_parameter before ps
parameters_in_turn before [] = refl
parameters_in_turn before (p ∷ ps) = parameters_in_turn (by_parameter before p) ps

abbrev pub by_initializer : List Spot → Initializer → List Spot
by_initializer before i = with_initial before (view_initializer i)

pub initials_in_turn : (before : List Spot) (is : List Initializer) → with_initials before (initials_of is) ≡ fold by_initializer before is
initials_in_turn before [] = refl
initials_in_turn before (i ∷ is) = initials_in_turn (by_initializer before i) is

abbrev pub by_declarator : List Spot → InitDeclarator → List Spot
by_declarator before d = with_initializer (with_full before (view_full d.declarator)) (option_map view_initializer d.initializer)

pub declarators_in_turn : (before : List Spot) (ds : List InitDeclarator) → with_declarators before (declarators_of ds) ≡ fold by_declarator before ds
declarators_in_turn before [] = refl
declarators_in_turn before (d ∷ ds) = declarators_in_turn (by_declarator before d) ds

abbrev pub by_item : List Spot → Item → List Spot
by_item before i = with_items before (view_item i done)

first_item : (before : List Spot) (i : Item) (rest : Items) → with_items before (view_item i rest) ≡ with_items (by_item before i) rest
first_item before (items.Declares d) rest = refl
first_item before (items.Does' p s) rest = refl

pub items_in_turn : (before : List Spot) (is : List Item) → with_items before (items_of is) ≡ fold by_item before is
items_in_turn before [] = refl
items_in_turn before (i ∷ is) = first_item before i (items_of is) ∙ items_in_turn (by_item before i) is

-- what is listed of a file, behind others
externals_behind : (before : List Told) (es : List External) → before ++ properties_of (externals_of es) ≡ fold with_external before es
externals_behind before [] = append-nil before
externals_behind before (externals.Declares d ∷ es) = externals_behind before es
externals_behind before (externals.Defines d ∷ es) =
    sym (append_assoc before (told_of_body (name_of (view_full d.value.declarator)) (view_statement d.value.body.value)) (properties_of (externals_of es)))
    ∙ externals_behind (before ++ told_of_body (name_of (view_full d.value.declarator)) (view_statement d.value.body.value)) es

pub externals_in_turn : (es : List External) → properties_of (externals_of es) ≡ fold with_external [] es
externals_in_turn es = externals_behind [] es

-- the suffixes of a declarator without a name lie below it, but where there are none
pub unnamed_above : (ss : List DeclaratorSuffix) → 5 * full_suffixes_depth (full_suffixes_of ss) + 4 * min 1 (length ss) < 5 * full_depth (full_unnamed (full_suffixes_of ss)) + 1
unnamed_above [] = omega arith
unnamed_above (full_suffix.Bounded line e ∷ ss) = omega arith
unnamed_above (full_suffix.Open line ∷ ss) = omega arith
unnamed_above (full_suffix.Empty line ∷ ss) = omega arith
unnamed_above (full_suffix.Void line ∷ ss) = omega arith
unnamed_above (full_suffix.Parameters' line shape ps variadic ∷ ss) = omega arith

-- one more item of a list
pub one_more : {B X : Type 0} (by : B → X → B) (old now next : B) (xs : List X) (i : ℕ) (x : X) → i < length xs → now ≡ fold by old (take i xs) → x ≡ get_or xs i x → next ≡ by now x → next ≡ fold by old (take (i + 1) xs)
one_more {B} {X} by old now next xs i x within was is step =
    step ∙ ap (λ (b : B). by b x) was ∙ ap (λ (y : X). by (fold by old (take i xs)) y) is ∙ sym (fold_more by old xs i x within)

-- all items of a list
pub at_end : {B X : Type 0} (by : B → X → B) (old now all : B) (xs : List X) (i : ℕ) → length xs ≤ i → now ≡ fold by old (take i xs) → all ≡ fold by old xs → now ≡ all
at_end {B} {X} by old now all xs i past was is = was ∙ ap (λ (ys : List X). fold by old ys) (take_all i xs past) ∙ sym is
