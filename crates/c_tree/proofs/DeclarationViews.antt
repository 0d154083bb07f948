-- The view of a structure, of a declarator and of an initializer in braces, which hold lists in memory.
use Rattle.std.proofs.Common.{◌≡◌, ◌≤◌, max, List, [], ◌∷◌, ℕ, refl, ap, sym, ◌∙◌, arith}
use mathlib.Core.Former.{Count}
use Rattle.std.specs.Prelude.{Box, Vec, Bool, Option, option_map}
use Rattle.std.specs.Global.{Global}
use Rattle.c_tree.specs.declared.expr.Name.{Name}
use Rattle.c_tree.specs.declared.expr.PointerMark.{PointerMark}
use Rattle.c_tree.specs.declared.declaration.RecordKind.{RecordKind}
use Rattle.c_tree.specs.declared.declaration.MemberDeclaration.{MemberDeclaration, Row_of-Specifier, end_of-Specifier, more_of-Specifier, items-the_row-Specifier, items_shown-the_row-Specifier-0, Row_of-FullDeclarator, end_of-FullDeclarator, more_of-FullDeclarator, items-the_row-FullDeclarator, items_shown-the_row-FullDeclarator-3}
use Rattle.c_tree.specs.declared.declaration.Specifier.{Specifier, Record, Record', Row_of-MemberDeclaration, end_of-MemberDeclaration, more_of-MemberDeclaration, items-the_row-MemberDeclaration, items_hidden-the_row-MemberDeclaration-4}
use Rattle.c_tree.specs.declared.declaration.FullDeclarator.{FullDeclarator, Unnamed, Unnamed', Named, Named', Inside, Inside', Row_of-DeclaratorSuffix, end_of-DeclaratorSuffix, more_of-DeclaratorSuffix, items-the_row-DeclaratorSuffix, items_hidden-the_row-DeclaratorSuffix-2}
use Rattle.c_tree.specs.declared.declaration.DeclaratorSuffix.{DeclaratorSuffix, Parameters as Takes, Parameters', Row_of-Parameter, end_of-Parameter, more_of-Parameter, items-the_row-Parameter, items_hidden-the_row-Parameter-1}
use Rattle.c_tree.specs.declared.declaration.Parameter.{Parameter}
use Rattle.c_tree.specs.declared.declaration.Initializer.{Initializer, List as Braces, List', Row_of-Initializer, end_of-Initializer, more_of-Initializer, items-the_row-Initializer, items_hidden-the_row-Initializer-0}
use Rattle.c_tree.specs.Tree.{view_name, pointed}
use Rattle.c_tree.specs.Declarations.{Parts, Members, Full, Fulls, FullSuffixes, Parameters, full_depth, part, structure, members, full, full_behind, full_unnamed, full_named, full_inside, full_parameters, parameter, braces, initials, view_part, view_parts, view_members, view_full, view_fulls, view_full_suffix, view_full_suffixes, view_parameters, parts_of, members_of, fulls_of, full_suffixes_of, parameters_of, view_initializer, view_initializers, initials_of}

parts_row : (n : _) (row : Row_of-Specifier n) → view_parts row ≡ parts_of (items-the_row-Specifier n row)
parts_row _ end_of-Specifier = refl
parts_row _ (more_of-Specifier s rest) = ap (part (view_part s)) (parts_row _ rest)

fulls_row : (n : _) (row : Row_of-FullDeclarator n) → view_fulls row ≡ fulls_of (items-the_row-FullDeclarator n row)
fulls_row _ end_of-FullDeclarator = refl
fulls_row _ (more_of-FullDeclarator d rest) = ap (full (view_full d)) (fulls_row _ rest)

members_made : (p q : Parts) (c d : Fulls) (m n : Members) → p ≡ q → c ≡ d → m ≡ n → members p c m ≡ members q d n
members_made p q c d m n e f g = ap (λ (x : Parts). members x c m) e ∙ ap (λ (x : Fulls). members q x m) f ∙ ap (members q d) g

members_row : (n : _) (row : Row_of-MemberDeclaration n) → view_members row ≡ members_of (items-the_row-MemberDeclaration n row)
members_row _ end_of-MemberDeclaration = refl
members_row _ (more_of-MemberDeclaration shape parts forms ds rest) =
    let same = parts_row _ parts ∙ ap parts_of (sym (items_shown-the_row-Specifier-0 shape parts)) in
    let alike = fulls_row _ ds ∙ ap fulls_of (sym (items_shown-the_row-FullDeclarator-3 forms ds)) in
    members_made (view_parts parts) _ (view_fulls ds) _ (view_members rest) _ same alike (members_row _ rest)

abbrev record_row : Specifier → (n : Count) × Row_of-MemberDeclaration n
record_row (Record' line kind tag shape row) = (_, row)
record_row _ = (_, end_of-MemberDeclaration)

-- the view of a structure as code makes it
pub view_record : (line : ℕ) (kind : RecordKind) (tag : Option Name) (ms : Vec MemberDeclaration Global) → view_part (Record line kind tag ms) ≡ structure line kind (option_map view_name tag) (members_of ms.items)
view_record line kind tag ms =
    let row = record_row (Record line kind tag ms) in
    ap (structure line kind (option_map view_name tag)) (members_row row.0 row.1 ∙ ap members_of (items_hidden-the_row-MemberDeclaration-4 ms))

suffixes_row : (n : _) (row : Row_of-DeclaratorSuffix n) → view_full_suffixes row ≡ full_suffixes_of (items-the_row-DeclaratorSuffix n row)
suffixes_row _ end_of-DeclaratorSuffix = refl
suffixes_row _ (more_of-DeclaratorSuffix s rest) = ap (view_full_suffix s) (suffixes_row _ rest)

abbrev full_row : FullDeclarator → (n : Count) × Row_of-DeclaratorSuffix n
full_row (Unnamed' ps shape row) = (_, row)
full_row (Named' ps line n shape row) = (_, row)
full_row (Inside' ps line p d shape row) = (_, row)

-- the views of declarators as code makes them
pub view_unnamed : (ps : Vec PointerMark Global) (ss : Vec DeclaratorSuffix Global) → view_full (Unnamed ps ss) ≡ full_behind ps.items (full_unnamed (full_suffixes_of ss.items))
view_unnamed ps ss =
    let row = full_row (Unnamed ps ss) in
    ap (λ (x : FullSuffixes). full_behind ps.items (full_unnamed x)) (suffixes_row row.0 row.1 ∙ ap full_suffixes_of (items_hidden-the_row-DeclaratorSuffix-2 ss))

pub view_named : (ps : Vec PointerMark Global) (line : ℕ) (n : Name) (ss : Vec DeclaratorSuffix Global) → view_full (Named ps line n ss) ≡ full_behind ps.items (full_named line (view_name n) (full_suffixes_of ss.items))
view_named ps line n ss =
    let row = full_row (Named ps line n ss) in
    ap (λ (x : FullSuffixes). full_behind ps.items (full_named line (view_name n) x)) (suffixes_row row.0 row.1 ∙ ap full_suffixes_of (items_hidden-the_row-DeclaratorSuffix-2 ss))

pub view_inside : (ps : Vec PointerMark Global) (line : ℕ) (d : Box FullDeclarator Global) (ss : Vec DeclaratorSuffix Global) → view_full (Inside ps line d ss) ≡ full_behind ps.items (full_inside line (view_full d.value) (full_suffixes_of ss.items))
view_inside ps line d ss =
    let row = full_row (Inside ps line d ss) in
    ap (λ (x : FullSuffixes). full_behind ps.items (full_inside line (view_full d.value) x)) (suffixes_row row.0 row.1 ∙ ap full_suffixes_of (items_hidden-the_row-DeclaratorSuffix-2 ss))

parameter_made : (p q : Parts) (d : Full) (m n : Parameters) → p ≡ q → m ≡ n → parameter p d m ≡ parameter q d n
parameter_made p q d m n e f = ap (λ (x : Parts). parameter x d m) e ∙ ap (parameter q d) f

parameters_row : (n : _) (row : Row_of-Parameter n) → view_parameters row ≡ parameters_of (items-the_row-Parameter n row)
parameters_row _ end_of-Parameter = refl
parameters_row _ (more_of-Parameter shape parts d rest) =
    let same = parts_row _ parts ∙ ap parts_of (sym (items_shown-the_row-Specifier-0 shape parts)) in
    parameter_made (view_parts parts) _ (view_full d) (view_parameters rest) _ same (parameters_row _ rest)

abbrev takes_row : DeclaratorSuffix → (n : Count) × Row_of-Parameter n
takes_row (Parameters' line shape row variadic) = (_, row)
takes_row _ = (_, end_of-Parameter)

-- the view of a function's suffix as code makes it
pub view_takes : (line : ℕ) (ps : Vec Parameter Global) (variadic : Bool) (rest : FullSuffixes) → view_full_suffix (Takes line ps variadic) rest ≡ full_parameters line (parameters_of ps.items) variadic rest
view_takes line ps variadic rest =
    let row = takes_row (Takes line ps variadic) in
    ap (λ (x : Parameters). full_parameters line x variadic rest) (parameters_row row.0 row.1 ∙ ap parameters_of (items_hidden-the_row-Parameter-1 ps))

initials_row : (n : _) (row : Row_of-Initializer n) → view_initializers row ≡ initials_of (items-the_row-Initializer n row)
initials_row _ end_of-Initializer = refl
initials_row _ (more_of-Initializer i rest) = ap (initials (view_initializer i)) (initials_row _ rest)

abbrev braces_row : Initializer → (n : Count) × Row_of-Initializer n
braces_row (List' line shape row) = (_, row)
braces_row _ = (_, end_of-Initializer)

-- the view of an initializer in braces as code makes it
pub view_braces : (line : ℕ) (is : Vec Initializer Global) → view_initializer (Braces line is) ≡ braces line (initials_of is.items)
view_braces line is =
    let row = braces_row (Braces line is) in
    ap (braces line) (initials_row row.0 row.1 ∙ ap initials_of (items_hidden-the_row-Initializer-0 is))

-- what stands behind pointers is one level with them, unless there is none
full_behind_depth_some : (p : PointerMark) (ps : List PointerMark) (d : Full) → full_depth (full_behind (p ∷ ps) d) ≡ max (full_depth d) 1
full_behind_depth_some p [] d = refl
full_behind_depth_some p (q ∷ ps) d = ap (λ (n : ℕ). max n 1) (full_behind_depth_some q ps d) ∙ omega arith

pub full_behind_depth : (ps : List PointerMark) (d : Full) → full_depth (full_behind ps d) ≡ pointed ps (full_depth d)
full_behind_depth [] d = refl
full_behind_depth (p ∷ ps) d = full_behind_depth_some p ps d

pub full_behind_least : (ps : List PointerMark) (d : Full) → full_depth d ≤ full_depth (full_behind ps d)
full_behind_least [] d = omega arith
full_behind_least (p ∷ ps) d = let below = full_behind_least ps d in omega (arith, below)

pub full_behind_levels : (ps : List PointerMark) (d : Full) (levels result : ℕ) → result ≡ pointed ps levels → levels ≡ full_depth d → result ≡ full_depth (full_behind ps d)
full_behind_levels ps d levels result e f = e ∙ ap (pointed ps) f ∙ sym (full_behind_depth ps d)
