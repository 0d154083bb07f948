-- The names that declarators and parameters declare, one after the other.
use Rattle.std.proofs.Common.{◌≡◌, ◌+◌, ◌<◌, ◌≤◌, ◌++◌, map, Bool, false, List, [], ◌∷◌, ℕ, length, get_or, take, refl, ap, sym, ◌∙◌, arith}
use Rattle.std.proofs.lemmas.List.{take_more}
use Rattle.std.specs.Prelude.{◌||◌}
use Rattle.c_tree.specs.Names.{Scope}
use Rattle.c_tree.specs.declared.declaration.Enumerator.{Enumerator}
use Rattle.c_tree.specs.declared.declaration.Specifier.{Specifier}
use Rattle.c_tree.specs.declared.declaration.MemberDeclaration.{MemberDeclaration}
use Rattle.c_tree.specs.declared.declaration.Parameter.{Parameter}
use Rattle.c_tree.specs.declared.declaration.DeclaratorSuffix.{DeclaratorSuffix, Bounded, Open, Empty, Void, Parameters'}
use Rattle.c_tree.specs.declared.expr.PointerMark.{PointerMark}
use Rattle.c_tree.specs.Declarations.{FullSuffixes, full_end, view_enumerator, view_part, parts_of, members_of, view_full, view_full_suffix, full_suffixes_of, parameters_of, is_typedef, have_typedef, or_suffixes, begin_function, Full, full_behind, is_function_within, name_of, full_has_name, nearest, with_enumerators, with_part, with_parts, with_members, with_named, with_parameters, with_parameters_of}
use Rattle.c_parse_parts.proofs.SoundParts.{or_nothing, or_three}

enumerators_after : (names : Scope) (es : List Enumerator) (e : Enumerator) → with_enumerators names (map view_enumerator (es ++ e ∷ [])) ≡ ((view_enumerator e).name, false) ∷ with_enumerators names (map view_enumerator es)
enumerators_after names [] e = refl
enumerators_after names (x ∷ xs) e = enumerators_after (((view_enumerator x).name, false) ∷ names) xs e

pub enumerators_more : (names now new : Scope) (es : List Enumerator) (i : ℕ) (e : Enumerator) → i < length es → now ≡ with_enumerators names (map view_enumerator (take i es)) → new ≡ ((view_enumerator (get_or es i e)).name, false) ∷ now → new ≡ with_enumerators names (map view_enumerator (take (i + 1) es))
enumerators_more names now new es i e h same is =
    is ∙ ap (λ (s : Scope). ((view_enumerator (get_or es i e)).name, false) ∷ s) same ∙ sym (enumerators_after names (take i es) (get_or es i e))
    ∙ ap (λ (xs : List Enumerator). with_enumerators names (map view_enumerator xs)) (sym (take_more es i e h))

parts_after : (names : Scope) (ss : List Specifier) (s : Specifier) → with_parts names (parts_of (ss ++ s ∷ [])) ≡ with_part (with_parts names (parts_of ss)) (view_part s)
parts_after names [] s = refl
parts_after names (x ∷ xs) s = parts_after (with_part names (view_part x)) xs s

pub parts_more : (names now new : Scope) (ss : List Specifier) (i : ℕ) (s : Specifier) → i < length ss → now ≡ with_parts names (parts_of (take i ss)) → new ≡ with_part now (view_part (get_or ss i s)) → new ≡ with_parts names (parts_of (take (i + 1) ss))
parts_more names now new ss i s h same is =
    is ∙ ap (λ (x : Scope). with_part x (view_part (get_or ss i s))) same ∙ sym (parts_after names (take i ss) (get_or ss i s))
    ∙ ap (λ (xs : List Specifier). with_parts names (parts_of xs)) (sym (take_more ss i s h))

members_after : (names : Scope) (ms : List MemberDeclaration) (m : MemberDeclaration) → with_members names (members_of (ms ++ m ∷ [])) ≡ with_parts (with_members names (members_of ms)) (parts_of m.specifiers.items)
members_after names [] m = refl
members_after names (x ∷ xs) m = members_after (with_parts names (parts_of x.specifiers.items)) xs m

pub members_more : (names now new : Scope) (ms : List MemberDeclaration) (i : ℕ) (m : MemberDeclaration) → i < length ms → now ≡ with_members names (members_of (take i ms)) → new ≡ with_parts now (parts_of (get_or ms i m).specifiers.items) → new ≡ with_members names (members_of (take (i + 1) ms))
members_more names now new ms i m h same is =
    is ∙ ap (λ (x : Scope). with_parts x (parts_of (get_or ms i m).specifiers.items)) same ∙ sym (members_after names (take i ms) (get_or ms i m))
    ∙ ap (λ (xs : List MemberDeclaration). with_members names (members_of xs)) (sym (take_more ms i m h))

-- the names behind a parameter
abbrev pub with_parameter : Scope → Parameter → Scope
with_parameter names p = with_named (with_parts names (parts_of p.specifiers.items)) (have_typedef (parts_of p.specifiers.items)) (view_full p.declarator)

parameters_after : (names : Scope) (ps : List Parameter) (p : Parameter) → with_parameters names (parameters_of (ps ++ p ∷ [])) ≡ with_parameter (with_parameters names (parameters_of ps)) p
parameters_after names [] p = refl
parameters_after names (x ∷ xs) p = parameters_after (with_parameter names x) xs p

pub parameters_more : (names now new : Scope) (ps : List Parameter) (i : ℕ) (p : Parameter) → i < length ps → now ≡ with_parameters names (parameters_of (take i ps)) → new ≡ with_parameter now (get_or ps i p) → new ≡ with_parameters names (parameters_of (take (i + 1) ps))
parameters_more names now new ps i p h same is =
    is ∙ ap (λ (x : Scope). with_parameter x (get_or ps i p)) same ∙ sym (parameters_after names (take i ps) (get_or ps i p))
    ∙ ap (λ (xs : List Parameter). with_parameters names (parameters_of xs)) (sym (take_more ps i p h))

typedef_after : (ss : List Specifier) (s : Specifier) → have_typedef (parts_of (ss ++ s ∷ [])) ≡ (have_typedef (parts_of ss) || is_typedef (view_part s))
typedef_after [] s = or_nothing (is_typedef (view_part s))
typedef_after (x ∷ xs) s = ap (λ (b : Bool). is_typedef (view_part x) || b) (typedef_after xs s) ∙ sym (or_three (is_typedef (view_part x)) (have_typedef (parts_of xs)) (is_typedef (view_part s)))

pub typedef_more : (types new one : Bool) (ss : List Specifier) (i : ℕ) (s : Specifier) → i < length ss → types ≡ have_typedef (parts_of (take i ss)) → one ≡ is_typedef (view_part (get_or ss i s)) → new ≡ (types || one) → new ≡ have_typedef (parts_of (take (i + 1) ss))
typedef_more types new one ss i s h same is made =
    made ∙ ap (λ (b : Bool). b || one) same ∙ ap (λ (b : Bool). have_typedef (parts_of (take i ss)) || b) is
    ∙ sym (typedef_after (take i ss) (get_or ss i s)) ∙ ap (λ (xs : List Specifier). have_typedef (parts_of xs)) (sym (take_more ss i s h))

-- suffixes by the first
pub parameters_first : (names : Scope) (s : DeclaratorSuffix) (rest : FullSuffixes) → with_parameters_of names (view_full_suffix s full_end) ≡ with_parameters_of names (view_full_suffix s rest)
parameters_first names (Bounded line e) rest = refl
parameters_first names (Open line) rest = refl
parameters_first names (Empty line) rest = refl
parameters_first names (Void line) rest = refl
parameters_first names (Parameters' line shape ps variadic) rest = refl

pub function_first : (s : DeclaratorSuffix) (rest : FullSuffixes) (outer : Bool) → begin_function (view_full_suffix s full_end) false ≡ begin_function (view_full_suffix s rest) outer
function_first (Bounded line e) rest outer = refl
function_first (Open line) rest outer = refl
function_first (Empty line) rest outer = refl
function_first (Void line) rest outer = refl
function_first (Parameters' line shape ps variadic) rest outer = refl

first_or : (s : DeclaratorSuffix) (rest outer : FullSuffixes) → view_full_suffix s rest ≡ or_suffixes (view_full_suffix s rest) outer
first_or (Bounded line e) rest outer = refl
first_or (Open line) rest outer = refl
first_or (Empty line) rest outer = refl
first_or (Void line) rest outer = refl
first_or (Parameters' line shape ps variadic) rest outer = refl

pub inner_first : (ss : List DeclaratorSuffix) (outer : FullSuffixes) → 1 ≤ length ss → full_suffixes_of ss ≡ or_suffixes (full_suffixes_of ss) outer
inner_first [] outer h = absurd (omega arith)
inner_first (s ∷ ss) outer h = first_or s (full_suffixes_of ss) outer

pub first_declares : (names : Scope) (ss : List DeclaratorSuffix) (s : DeclaratorSuffix) → 1 ≤ length ss → with_parameters_of names (view_full_suffix (get_or ss 0 s) full_end) ≡ with_parameters_of names (full_suffixes_of ss)
first_declares names [] s h = absurd (omega arith)
first_declares names (x ∷ xs) s h = parameters_first names x (full_suffixes_of xs)

pub first_function : (ss : List DeclaratorSuffix) (s : DeclaratorSuffix) (outer : Bool) → 1 ≤ length ss → begin_function (view_full_suffix (get_or ss 0 s) full_end) false ≡ begin_function (full_suffixes_of ss) outer
first_function [] s outer h = absurd (omega arith)
first_function (x ∷ xs) s outer h = function_first x (full_suffixes_of xs) outer

-- pointers declare nothing
pub behind_name : (ps : List PointerMark) (d : Full) → name_of (full_behind ps d) ≡ name_of d
behind_name [] d = refl
behind_name (p ∷ ps) d = behind_name ps d

pub behind_has_name : (ps : List PointerMark) (d : Full) → full_has_name (full_behind ps d) ≡ full_has_name d
behind_has_name [] d = refl
behind_has_name (p ∷ ps) d = behind_has_name ps d

pub behind_nearest : (ps : List PointerMark) (d : Full) → nearest (full_behind ps d) ≡ nearest d
behind_nearest [] d = refl
behind_nearest (p ∷ ps) d = behind_nearest ps d

-- behind a pointer stands no function
no_function : (ps : List PointerMark) (d : Full) → is_function_within (full_behind ps d) false ≡ is_function_within d false
no_function [] d = refl
no_function (p ∷ ps) d = no_function ps d

pub some_pointers : (ps : List PointerMark) (d : Full) (outer : Bool) → 1 ≤ length ps → is_function_within (full_behind ps d) outer ≡ is_function_within d false
some_pointers [] d outer h = absurd (omega arith)
some_pointers (p ∷ ps) d outer h = no_function ps d

pub no_pointers : (ps : List PointerMark) (d : Full) (outer : Bool) → length ps ≡ 0 → is_function_within (full_behind ps d) outer ≡ is_function_within d outer
no_pointers [] d outer h = refl
no_pointers (p ∷ ps) d outer h = absurd (omega arith)
