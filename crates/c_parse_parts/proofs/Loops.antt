-- The turns of the loops.
use Rattle.std.proofs.Common.{◌≡◌, ◌<◌, ◌≤◌, ◌+◌, ◌-◌, ℕ, List, [], ◌∷◌, ◌++◌, length, length-append, drop, map, suc, Bool, true, false, Option, Some, None, refl, ap, sym, ◌∙◌, arith}
use Rattle.std.proofs.lemmas.Bool.{eqb-true}
use Rattle.std.proofs.lemmas.List.{append_assoc}
use Rattle.std.proofs.Math.Seq.{drop-append_seam}
use Rattle.std.specs.Prelude.{not, ◌||◌, ◌==◌, option_map, Box, Vec, if◌then◌else◌}
use Rattle.std.specs.Global.{Global}
use Rattle.c_token.specs.declared.token.Token.{Token}
use Rattle.c_token.specs.declared.token.Mark.{Mark}
use Rattle.c_token.specs.declared.token.Mark.TheVariants as marks
use Rattle.c_tree.specs.declared.declaration.FullDeclarator.{FullDeclarator, Unnamed, Named, Inside}
use Rattle.c_tree.specs.declared.declaration.DeclaratorSuffix.{DeclaratorSuffix, Bounded, Open, Empty, Void, Parameters as Takes, Parameters'}
use Rattle.c_tree.specs.declared.declaration.Parameter.{Parameter}
use Rattle.c_tree.specs.declared.declaration.Enumerator.{Enumerator}
use Rattle.c_tree.specs.declared.declaration.Specifier.{Specifier, Record}
use Rattle.c_tree.specs.declared.declaration.RecordKind.{RecordKind}
use Rattle.c_tree.specs.declared.expr.Name.{Name}
use Rattle.c_tree.specs.declared.expr.Expr.{Expr}
use Rattle.c_tree.specs.declared.declaration.Initializer.{Initializer, Value, List as Braces}
use Rattle.c_tree.specs.declared.declaration.InitDeclarator.{InitDeclarator}
use Rattle.c_tree.specs.declared.declaration.MemberDeclaration.{MemberDeclaration}
use Rattle.c_tree.specs.Tree.{Tree, view_name, view}
use Rattle.c_tree.specs.Names.{Scope}
use Rattle.c_tree.specs.Declarations.{Full, full, full_unnamed, full_named, full_inside, Fulls, no_full, FullSuffixes, full_end, Parameters, no_parameter, parameter, view_full, fulls_of, view_full_suffix, full_suffixes_of, parameters_of, full_has_name, with_named, with_parameters, with_parameters_of, full_bounded, full_open, full_empty, full_void, full_parameters, Enumerated, Part, Parts, no_part, part, Members, no_member, members, type_part, storage, function, structure, enumeration, Initial, initial, braces, Initials, no_initial, initials, Declarators, none_declared, declarator, name_of, view_initializer, initials_of, view_init_declarator, declarators_of, with_declarators, with_declaration, specifies, view_enumerator, view_part, parts_of, members_of, with_enumerators, with_part, with_parts, with_members, have_typedef, is_typedef, full_behind}
use Rattle.c_tree.proofs.DeclarationViews.{view_record, view_braces, view_unnamed, view_named, view_inside, view_takes}
use Rattle.c_parse_expr.specs.inner.Many.{◌>>=◌}
use Rattle.c_parse_expr.specs.Reading.{is_mark}
use Rattle.c_parse_expr.specs.inner.Reading.{reader}
use Rattle.c_parse_parts.specs.declared.table.Start.{Start}
use Rattle.c_token.specs.Spelling.{text_of}
use Rattle.c_parse_parts.specs.declared.slices.DeclaratorStart.TheVariants as declarator_starts
use Rattle.c_parse_parts.specs.declared.slices.Opening.{Opening}
use Rattle.c_parse_parts.specs.inner.Reading.{FullReader, OneSuffix, one_takes, placed_suffix, last_at, parameters_list, parameters_at, void_at, given_by, given_at, inside_at, full_from, opening_at, one_from, suffixes_stop, suffixes_list, suffixes_at, fulls_list, fulls_at, Read, State, Body, token_at, run_at, shut_at, ended_at, start_at, enumerators_list, enumerators_at, tag_at, record_by, record_from, record_at, part_from, parts_stop, parts_list, parts_at, are_some, members_list, have_some, members_at, initials_list, initials_at, initial_by, initial_at, declarators_list, declarators_at}
use Rattle.c_parse_parts.specs.inner.Pieces.{suffix_of, parameter_of}
use Rattle.c_parse_parts.proofs.Lists.{bind_gives, bind_none, placed_all, front_none, Left, closes}
use Rattle.c_parse_parts.proofs.SoundParts.{or_nothing, or_three}
use Rattle.c_tree.specs.declared.expr.PointerMark.{PointerMark}

-- what ends a list
pub ended_some : {T : Type 0} (mark : Mark) (t : T) (ts : List Token) (x : Token × List Token) → Some x ≡ token_at (is_mark mark) ts → ended_at mark t ts ≡ Some (t, x.1)
unfolding ended_at
ended_some mark t ts x e = bind_gives (token_at (is_mark mark) ts) (λ x. Some (t, x.1)) x (Some (t, x.1)) (sym e) refl

pub not_ended : {T : Type 0} (mark : Mark) (t : T) (ts : List Token) → None ≡ token_at (is_mark mark) ts → ended_at mark t ts ≡ None
unfolding ended_at
not_ended mark t ts e = bind_none (token_at (is_mark mark) ts) (λ x. Some (t, x.1)) (sym e)

abbrev unlisted : {T : Type 0} → T → Option (List Token) → Read T
unlisted t o = o >>= λ xs. Some (t, xs)

pub shut_some : {T : Type 0} (t : T) (first : Bool) (ts rest : List Token) → Some rest ≡ shut_at first ts → unlisted t (shut_at first ts) ≡ Some (t, rest)
shut_some t first ts rest e = bind_gives (shut_at first ts) (λ xs. Some (t, xs)) rest (Some (t, rest)) (sym e) refl

pub not_shut : {T : Type 0} (t : T) (first : Bool) (ts : List Token) → None ≡ shut_at first ts → unlisted t (shut_at first ts) ≡ None
not_shut t first ts e = bind_none (shut_at first ts) (λ xs. Some (t, xs)) (sym e)

-- lists that are lists
all_map : {C A : Type 0} (view : C → A) (cs : List C) → placed_all (λ (a : A) (as' : List A). a ∷ as') view cs [] ≡ map view cs
all_map view [] = refl
all_map {A = A} view (c ∷ cs) = ap (λ (xs : List A). view c ∷ xs) (all_map view cs)

-- enumerators
pub enumerators_begin : (bytes : List ℕ) (n : ℕ) (names : Scope) (es : List Enumerator) (ts : List Token) → es ≡ [] → Left (enumerators_list bytes n) view_enumerator (length ts + 1) (names, true) es ts (enumerators_at bytes names n ts)
unfolding enumerators_at
enumerators_begin bytes n names es ts e = front_none (enumerators_list bytes n).put view_enumerator es (run_at (enumerators_list bytes n) (length ts + 1) (names, true) ts) e

pub enumerators_close : (bytes : List ℕ) (n m : ℕ) (names : Scope) (first : Bool) (es : List Enumerator) (ts rest : List Token) (all : Read (List Enumerated)) → length ts < m → Some rest ≡ shut_at first ts → Left (enumerators_list bytes n) view_enumerator m (names, first) es ts all → all ≡ Some (map view_enumerator es, rest)
enumerators_close bytes n m names first es ts rest all h e f =
    closes (enumerators_list bytes n) view_enumerator m (names, first) es ts ([], rest) all h (shut_some [] first ts rest e) f
    ∙ ap (λ (xs : List Enumerated). Some (xs, rest)) (all_map view_enumerator es)

enumerators_after : (names : Scope) (es : List Enumerator) (e : Enumerator) → with_enumerators names (map view_enumerator (es ++ e ∷ [])) ≡ ((view_enumerator e).name, false) ∷ with_enumerators names (map view_enumerator es)
enumerators_after names [] e = refl
enumerators_after names (x ∷ xs) e = enumerators_after (((view_enumerator x).name, false) ∷ names) xs e

pub enumerators_push : (names now new : Scope) (es fs : List Enumerator) (e : Enumerator) → fs ≡ es ++ e ∷ [] → now ≡ with_enumerators names (map view_enumerator es) → new ≡ ((view_enumerator e).name, false) ∷ now → new ≡ with_enumerators names (map view_enumerator fs)
enumerators_push names now new es fs e f same is =
    is ∙ ap (λ (s : Scope). ((view_enumerator e).name, false) ∷ s) same ∙ sym (enumerators_after names es e) ∙ ap (λ (xs : List Enumerator). with_enumerators names (map view_enumerator xs)) (sym f)

-- declarators of members
all_fulls : (ds : List FullDeclarator) → placed_all full view_full ds no_full ≡ fulls_of ds
all_fulls [] = refl
all_fulls (d ∷ ds) = ap (full (view_full d)) (all_fulls ds)

pub fulls_begin : (item : Scope → List Token → Read Full) (names : Scope) (ds : List FullDeclarator) (ts : List Token) → ds ≡ [] → Left (fulls_list item) view_full (length ts + 1) (names, true) ds ts (fulls_at item names ts)
unfolding fulls_at
fulls_begin item names ds ts e = front_none full view_full ds (run_at (fulls_list item) (length ts + 1) (names, true) ts) e

pub fulls_close : (item : Scope → List Token → Read Full) (m : ℕ) (names : Scope) (first : Bool) (ds : List FullDeclarator) (ts : List Token) (x : Token × List Token) (all : Read Fulls) → length ts < m → Some x ≡ token_at (is_mark marks.Semicolon) ts → Left (fulls_list item) view_full m (names, first) ds ts all → all ≡ Some (fulls_of ds, x.1)
fulls_close item m names first ds ts x all h e f =
    closes (fulls_list item) view_full m (names, first) ds ts (no_full, x.1) all h (ended_some marks.Semicolon no_full ts x e) f
    ∙ ap (λ (xs : Fulls). Some (xs, x.1)) (all_fulls ds)

-- suffixes
placed_one : (s : DeclaratorSuffix) (ss : FullSuffixes) → placed_suffix (suffix_of s) ss ≡ view_full_suffix s ss
placed_one (Bounded line e) ss = refl
placed_one (Open line) ss = refl
placed_one (Empty line) ss = refl
placed_one (Void line) ss = refl
placed_one (Parameters' line shape ps variadic) ss = refl

all_suffixes : (ss : List DeclaratorSuffix) → placed_all placed_suffix suffix_of ss full_end ≡ full_suffixes_of ss
all_suffixes [] = refl
all_suffixes (s ∷ ss) = ap (placed_suffix (suffix_of s)) (all_suffixes ss) ∙ placed_one s (full_suffixes_of ss)

pub suffixes_begin : (bytes : List ℕ) (n : ℕ) (body : Body) (sub : FullReader) (names : Scope) (ss : List DeclaratorSuffix) (ts : List Token) → ss ≡ [] → Left (suffixes_list bytes n body sub) suffix_of (length ts + 1) names ss ts (suffixes_at bytes n body sub names ts)
unfolding suffixes_at
suffixes_begin bytes n body sub names ss ts e = front_none placed_suffix suffix_of ss (run_at (suffixes_list bytes n body sub) (length ts + 1) names ts) e

suffixes_stopped : (ts : List Token) (o : Option (Opening × Token × List Token)) → None ≡ o → suffixes_stop ts o ≡ Some (full_end, ts)
suffixes_stopped ts o e = ap (suffixes_stop ts) (sym e)

pub suffixes_go : (ts : List Token) (o : Option (Opening × Token × List Token)) (x : Opening × Token × List Token) → Some x ≡ o → suffixes_stop ts o ≡ None
suffixes_go ts o x e = ap (suffixes_stop ts) (sym e)

pub suffixes_close : (bytes : List ℕ) (n m : ℕ) (body : Body) (sub : FullReader) (names : Scope) (ss : List DeclaratorSuffix) (ts : List Token) (all : Read FullSuffixes) → length ts < m → None ≡ opening_at ts → Left (suffixes_list bytes n body sub) suffix_of m names ss ts all → all ≡ Some (full_suffixes_of ss, ts)
suffixes_close bytes n m body sub names ss ts all h e f =
    closes (suffixes_list bytes n body sub) suffix_of m names ss ts (full_end, ts) all h (suffixes_stopped ts (opening_at ts) e) f
    ∙ ap (λ (xs : FullSuffixes). Some (xs, ts)) (all_suffixes ss)

pub suffix_reads : (bytes : List ℕ) (n : ℕ) (body : Body) (sub : FullReader) (names : Scope) (o : Option (Opening × Token × List Token)) (x : Opening × Token × List Token) (y : Read OneSuffix) → Some x ≡ o → one_from bytes n body sub names x.0 x.1 x.2 ≡ y → (o >>= λ x. one_from bytes n body sub names x.0 x.1 x.2) ≡ y
suffix_reads bytes n body sub names o x y e f = bind_gives o (λ x. one_from bytes n body sub names x.0 x.1 x.2) x y (sym e) f

-- parameters
abbrev pub put_parameter : Parts × Full → Parameters × Bool → Parameters × Bool
put_parameter p ps = (parameter p.0 p.1 ps.0, ps.1)

all_parameters : (ps : List Parameter) (variadic : Bool) → placed_all put_parameter parameter_of ps (no_parameter, variadic) ≡ (parameters_of ps, variadic)
all_parameters [] variadic = refl
all_parameters (p ∷ ps) variadic = ap (put_parameter (parameter_of p)) (all_parameters ps variadic)

pub parameters_begin : (bytes : List ℕ) (n : ℕ) (body : Body) (sub : FullReader) (names : Scope) (ps : List Parameter) (ts : List Token) → ps ≡ [] → Left (parameters_list bytes n body sub) parameter_of (length ts + 1) (names, true) ps ts (parameters_at bytes n body sub names ts)
unfolding parameters_at
parameters_begin bytes n body sub names ps ts e = front_none (parameters_list bytes n body sub).put parameter_of ps (run_at (parameters_list bytes n body sub) (length ts + 1) (names, true) ts) e

abbrev pub lasted : Read Bool → Read (Parameters × Bool)
lasted o = o >>= λ x. Some ((no_parameter, x.0), x.1)

pub parameters_close : (bytes : List ℕ) (n m : ℕ) (body : Body) (sub : FullReader) (names : Scope) (first : Bool) (ps : List Parameter) (ts : List Token) (x : Bool × List Token) (all : Read (Parameters × Bool)) → length ts < m → Some x ≡ last_at first ts → Left (parameters_list bytes n body sub) parameter_of m (names, first) ps ts all → all ≡ Some ((parameters_of ps, x.0), x.1)
parameters_close bytes n m body sub names first ps ts x all h e f =
    closes (parameters_list bytes n body sub) parameter_of m (names, first) ps ts ((no_parameter, x.0), x.1) all h
    (bind_gives (last_at first ts) (λ x. Some ((no_parameter, x.0), x.1)) x (Some ((no_parameter, x.0), x.1)) (sym e) refl) f
    ∙ ap (λ (xs : Parameters × Bool). Some (xs, x.1)) (all_parameters ps x.0)

pub parameters_go : (first : Bool) (ts : List Token) → None ≡ last_at first ts → lasted (last_at first ts) ≡ None
parameters_go first ts e = bind_none (last_at first ts) (λ x. Some ((no_parameter, x.0), x.1)) (sym e)

suffix_made : (line : ℕ) (ps : Vec Parameter Global) (variadic : Bool) → suffix_of (Takes line ps variadic) ≡ one_takes line (parameters_of ps.items) variadic
suffix_made line ps variadic = one_back (Takes line ps variadic) (parameters_of ps.items) line variadic (view_takes line ps variadic full_end)
  where
    one_back : (s : DeclaratorSuffix) (ps : Parameters) (line : ℕ) (variadic : Bool) → view_full_suffix s full_end ≡ placed_suffix (one_takes line ps variadic) full_end → suffix_of s ≡ one_takes line ps variadic
    one_back (Bounded l e) ps line variadic f = absurd cc
    one_back (Open l) ps line variadic f = absurd cc
    one_back (Empty l) ps line variadic f = absurd cc
    one_back (Void l) ps line variadic f = absurd cc
    one_back (Parameters' l shape row v) ps line variadic f = cc

pub given_made : (bytes : List ℕ) (n : ℕ) (body : Body) (sub : FullReader) (names : Scope) (line : ℕ) (ts rest : List Token) (ps : Vec Parameter Global) (variadic : Bool) → None ≡ void_at ts → parameters_at bytes n body sub names ts ≡ Some ((parameters_of ps.items, variadic), rest) → given_at bytes n body sub names line ts ≡ Some (suffix_of (Takes line ps variadic), rest)
unfolding given_at
given_made bytes n body sub names line ts rest ps variadic e f =
    ap (given_by bytes n body sub names line ts) (sym e)
    ∙ ap (λ (o : Read (Parameters × Bool)). o >>= λ ps. Some (one_takes line ps.0.0 ps.0.1, ps.1)) f ∙ ap (λ (x : OneSuffix). Some (x, rest)) (sym (suffix_made line ps variadic))

-- declarators
pub inside_made : (bytes : List ℕ) (n : ℕ) (body : Body) (sub : FullReader) (inner : Bool) (names now : Scope) (line : ℕ) (ts others rest : List Token) (x : Token × List Token) (box : Box FullDeclarator Global) (d : FullDeclarator) (pointers : Vec PointerMark Global) (ss : Vec DeclaratorSuffix Global) → pointers.items ≡ [] → sub inner names ts ≡ Some (view_full d, others) → Some x ≡ token_at (is_mark marks.RightParenthesis) others → now ≡ names → suffixes_at bytes n body sub now x.1 ≡ Some (full_suffixes_of ss.items, rest) → box.value ≡ d → inside_at bytes n body sub inner names line ts ≡ Some (view_full (Inside pointers line box ss), rest)
unfolding inside_at
inside_made bytes n body sub inner names now line ts others rest x box d pointers ss none e f same g h =
    ap (λ (o : Read Full). o >>= λ d. token_at (is_mark marks.RightParenthesis) d.1 >>= λ x. suffixes_at bytes n body sub names x.1 >>= λ ss. Some (full_inside line d.0 ss.0, ss.1)) e
    ∙ ap (λ (o : Read Token). o >>= λ x. suffixes_at bytes n body sub names x.1 >>= λ ss. Some (full_inside line (view_full d) ss.0, ss.1)) (sym f)
    ∙ ap (λ (o : Read FullSuffixes). o >>= λ ss. Some (full_inside line (view_full d) ss.0, ss.1)) (ap (λ (s : Scope). suffixes_at bytes n body sub s x.1) (sym same) ∙ g)
    ∙ ap (λ (y : FullDeclarator). Some (full_inside line (view_full y) (full_suffixes_of ss.items), rest)) (sym h)
    ∙ ap (λ (ps : List PointerMark). Some (full_behind ps (full_inside line (view_full box.value) (full_suffixes_of ss.items)), rest)) (sym none)
    ∙ ap (λ (y : Full). Some (y, rest)) (sym (view_inside pointers line box ss))

pub unnamed_made : (bytes : List ℕ) (n : ℕ) (body : Body) (sub : FullReader) (inner : Bool) (names : Scope) (ts rest : List Token) (pointers : Vec PointerMark Global) (ss : Vec DeclaratorSuffix Global) → pointers.items ≡ [] → suffixes_at bytes n body sub names ts ≡ Some (full_suffixes_of ss.items, rest) → full_from bytes n body sub inner names declarator_starts.Suffixes ts ≡ Some (view_full (Unnamed pointers ss), rest)
unfolding full_from
unnamed_made bytes n body sub inner names ts rest pointers ss none e =
    ap (λ (o : Read FullSuffixes). o >>= λ ss. Some (full_unnamed ss.0, ss.1)) e
    ∙ ap (λ (ps : List PointerMark). Some (full_behind ps (full_unnamed (full_suffixes_of ss.items)), rest)) (sym none) ∙ ap (λ (y : Full). Some (y, rest)) (sym (view_unnamed pointers ss))

pub named_made : (bytes : List ℕ) (n : ℕ) (body : Body) (sub : FullReader) (inner : Bool) (names : Scope) (ts others rest : List Token) (t : Token) (name : Name) (pointers : Vec PointerMark Global) (ss : Vec DeclaratorSuffix Global) → pointers.items ≡ [] → ts ≡ t ∷ others → view_name name ≡ text_of bytes t → suffixes_at bytes n body sub names others ≡ Some (full_suffixes_of ss.items, rest) → full_from bytes n body sub inner names declarator_starts.Name ts ≡ Some (view_full (Named pointers t.line name ss), rest)
unfolding full_from
named_made bytes n body sub inner names ts others rest t name pointers ss none e f g =
    ap (full_from bytes n body sub inner names declarator_starts.Name) e
    ∙ ap (λ (o : Read FullSuffixes). o >>= λ ss. Some (full_named t.line (text_of bytes t) ss.0, ss.1)) g
    ∙ ap (λ (x : List ℕ). Some (full_named t.line x (full_suffixes_of ss.items), rest)) (sym f)
    ∙ ap (λ (ps : List PointerMark). Some (full_behind ps (full_named t.line (view_name name) (full_suffixes_of ss.items)), rest)) (sym none)
    ∙ ap (λ (y : Full). Some (y, rest)) (sym (view_named pointers t.line name ss))

pub empty_made : (pointers : Vec PointerMark Global) (ss : Vec DeclaratorSuffix Global) → pointers.items ≡ [] → ss.items ≡ [] → view_full (Unnamed pointers ss) ≡ full_unnamed full_end
empty_made pointers ss none e =
    view_unnamed pointers ss ∙ ap (λ (ps : List PointerMark). full_behind ps (full_unnamed (full_suffixes_of ss.items))) none ∙ ap (λ (xs : List DeclaratorSuffix). full_unnamed (full_suffixes_of xs)) e

abbrev pub pair : Scope → Bool → State
pair names b = (names, b)

pub some_known : (b : Bool) (ss rr : List Specifier) → b ≡ true → b ≡ are_some (parts_of ss) → ss ≡ rr → are_some (parts_of rr) ≡ true
some_known b ss rr e f g = ap (λ (xs : List Specifier). are_some (parts_of xs)) (sym g) ∙ sym f ∙ e

-- specifiers
pub some_by : (ss : List Specifier) (b : Bool) → b ≡ (length ss == 0) → not b ≡ are_some (parts_of ss)
some_by [] b e = ap (λ (x : Bool). not x) e
some_by (s ∷ ss) true e = absurd (let g = eqb-true (length (s ∷ ss)) 0 (sym e) in omega (arith, g))
some_by (s ∷ ss) false e = refl

pub have_by : (ms : List MemberDeclaration) (b : Bool) → b ≡ (length ms == 0) → not b ≡ have_some (members_of ms)
have_by [] b e = ap (λ (x : Bool). not x) e
have_by (m ∷ ms) true e = absurd (let g = eqb-true (length (m ∷ ms)) 0 (sym e) in omega (arith, g))
have_by (m ∷ ms) false e = refl

all_parts : (ss : List Specifier) → placed_all part view_part ss no_part ≡ parts_of ss
all_parts [] = refl
all_parts (s ∷ ss) = ap (part (view_part s)) (all_parts ss)

pub parts_begin : (inner : Bool) (bytes : List ℕ) (n : ℕ) (body : Body) (names : Scope) (ss : List Specifier) (ts : List Token) → ss ≡ [] → Left (parts_list inner bytes n body) view_part (length ts + 1) (names, false) ss ts (parts_at inner bytes n body names ts)
unfolding parts_at
parts_begin inner bytes n body names ss ts e = front_none part view_part ss (run_at (parts_list inner bytes n body) (length ts + 1) (names, false) ts) e

parts_stopped : (ts : List Token) (o : Option (Start × Token × List Token)) → None ≡ o → parts_stop ts o ≡ Some (no_part, ts)
parts_stopped ts o e = ap (parts_stop ts) (sym e)

pub parts_go : (ts : List Token) (o : Option (Start × Token × List Token)) (x : Start × Token × List Token) → Some x ≡ o → parts_stop ts o ≡ None
parts_go ts o x e = ap (parts_stop ts) (sym e)

pub parts_close : (inner : Bool) (bytes : List ℕ) (n m : ℕ) (body : Body) (names : Scope) (before : Bool) (ss : List Specifier) (ts : List Token) (all : Read Parts) → length ts < m → None ≡ start_at inner bytes (names, before) ts → Left (parts_list inner bytes n body) view_part m (names, before) ss ts all → all ≡ Some (parts_of ss, ts)
parts_close inner bytes n m body names before ss ts all h e f =
    closes (parts_list inner bytes n body) view_part m (names, before) ss ts (no_part, ts) all h (parts_stopped ts (start_at inner bytes (names, before) ts) e) f
    ∙ ap (λ (ps : Parts). Some (ps, ts)) (all_parts ss)

parts_after : (names : Scope) (ss : List Specifier) (s : Specifier) → with_parts names (parts_of (ss ++ s ∷ [])) ≡ with_part (with_parts names (parts_of ss)) (view_part s)
parts_after names [] s = refl
parts_after names (x ∷ xs) s = parts_after (with_part names (view_part x)) xs s

pub parts_push : (names now new : Scope) (ss rr : List Specifier) (s : Specifier) → rr ≡ ss ++ s ∷ [] → now ≡ with_parts names (parts_of ss) → new ≡ with_part now (view_part s) → new ≡ with_parts names (parts_of rr)
parts_push names now new ss rr s f same is =
    is ∙ ap (λ (x : Scope). with_part x (view_part s)) same ∙ sym (parts_after names ss s) ∙ ap (λ (xs : List Specifier). with_parts names (parts_of xs)) (sym f)

typedef_after : (ss : List Specifier) (s : Specifier) → have_typedef (parts_of (ss ++ s ∷ [])) ≡ (have_typedef (parts_of ss) || is_typedef (view_part s))
typedef_after [] s = or_nothing (is_typedef (view_part s))
typedef_after (x ∷ xs) s = ap (λ (b : Bool). is_typedef (view_part x) || b) (typedef_after xs s) ∙ sym (or_three (is_typedef (view_part x)) (have_typedef (parts_of xs)) (is_typedef (view_part s)))

pub typedef_push : (types new one : Bool) (ss rr : List Specifier) (s : Specifier) → rr ≡ ss ++ s ∷ [] → types ≡ have_typedef (parts_of ss) → one ≡ is_typedef (view_part s) → new ≡ (types || one) → new ≡ have_typedef (parts_of rr)
typedef_push types new one ss rr s f same is made =
    made ∙ ap (λ (b : Bool). b || one) same ∙ ap (λ (b : Bool). have_typedef (parts_of ss) || b) is ∙ sym (typedef_after ss s) ∙ ap (λ (xs : List Specifier). have_typedef (parts_of xs)) (sym f)

-- an item of specifiers
pub part_reads : (bytes : List ℕ) (n : ℕ) (body : Body) (names : Scope) (o : Option (Start × Token × List Token)) (x : Start × Token × List Token) (y : Read Part) → Some x ≡ o → part_from bytes n body names x.0 x.1 x.2 ≡ y → (o >>= λ x. part_from bytes n body names x.0 x.1 x.2) ≡ y
part_reads bytes n body names o x y e f = bind_gives o (λ x. part_from bytes n body names x.0 x.1 x.2) x y (sym e) f

pub part_state : (names new : Scope) (before both one : Bool) (p : Part) → new ≡ with_part names p → one ≡ specifies p → both ≡ (before || one) → pair new both ≡ pair (with_part names p) (before || specifies p)
part_state names new before both one p e f g = ap (λ (x : Scope). pair x both) e ∙ ap (pair (with_part names p)) (g ∙ ap (λ (b : Bool). before || b) f)

-- a structure with its members
pub record_made : (bytes : List ℕ) (body : Body) (names : Scope) (line : ℕ) (kind : RecordKind) (ts : List Token) (g : Option (List ℕ) × List Token) (x : Token × List Token) (tag : Option Name) (ms : Vec MemberDeclaration Global) (rest : List Token) → g ≡ tag_at bytes ts → Some x ≡ token_at (is_mark marks.LeftBrace) g.1 → body names x.1 ≡ Some (members_of ms.items, rest) → option_map view_name tag ≡ g.0 → record_at bytes body names line kind ts ≡ Some (view_part (Record line kind tag ms), rest)
unfolding record_at
record_made bytes body names line kind ts g x tag ms rest e f b t =
    ap (record_from body names line kind) (sym e)
    ∙ ap (record_by body names line kind g.0 g.1) (sym f)
    ∙ ap (λ (o : Read Members). o >>= λ ms. Some (structure line kind g.0 ms.0, ms.1)) b
    ∙ ap (λ (n : Option (List ℕ)). Some (structure line kind n (members_of ms.items), rest)) (sym t)
    ∙ ap (λ (p : Part). Some (p, rest)) (sym (view_record line kind tag ms))

-- declarations of members
abbrev pub member_of : MemberDeclaration → Parts × Fulls
member_of m = (parts_of m.specifiers.items, fulls_of m.declarators.items)

all_members : (ms : List MemberDeclaration) → placed_all (λ (m : Parts × Fulls) (rest : Members). members m.0 m.1 rest) member_of ms no_member ≡ members_of ms
all_members [] = refl
all_members (m ∷ ms) = ap (members (parts_of m.specifiers.items) (fulls_of m.declarators.items)) (all_members ms)

pub members_begin : (bytes : List ℕ) (n : ℕ) (body : Body) (sub : FullReader) (names : Scope) (ms : List MemberDeclaration) (ts : List Token) → ms ≡ [] → Left (members_list bytes n body sub) member_of (length ts + 1) names ms ts (members_at bytes n body sub names ts)
unfolding members_at
members_begin bytes n body sub names ms ts e = front_none (members_list bytes n body sub).put member_of ms (run_at (members_list bytes n body sub) (length ts + 1) names ts) e

pub members_close : (bytes : List ℕ) (n m : ℕ) (body : Body) (sub : FullReader) (names : Scope) (ms : List MemberDeclaration) (ts : List Token) (x : Token × List Token) (all : Read Members) → length ts < m → Some x ≡ token_at (is_mark marks.RightBrace) ts → Left (members_list bytes n body sub) member_of m names ms ts all → all ≡ Some (members_of ms, x.1)
members_close bytes n m body sub names ms ts x all h e f =
    closes (members_list bytes n body sub) member_of m names ms ts (no_member, x.1) all h (ended_some marks.RightBrace no_member ts x e) f
    ∙ ap (λ (xs : Members). Some (xs, x.1)) (all_members ms)

members_after : (names : Scope) (ms : List MemberDeclaration) (m : MemberDeclaration) → with_members names (members_of (ms ++ m ∷ [])) ≡ with_parts (with_members names (members_of ms)) (parts_of m.specifiers.items)
members_after names [] m = refl
members_after names (x ∷ xs) m = members_after (with_parts names (parts_of x.specifiers.items)) xs m

pub members_push : (names now new : Scope) (ms rr : List MemberDeclaration) (m : MemberDeclaration) → rr ≡ ms ++ m ∷ [] → now ≡ with_members names (members_of ms) → new ≡ with_parts now (parts_of m.specifiers.items) → new ≡ with_members names (members_of rr)
members_push names now new ms rr m f same is =
    is ∙ ap (λ (x : Scope). with_parts x (parts_of m.specifiers.items)) same ∙ sym (members_after names ms m) ∙ ap (λ (xs : List MemberDeclaration). with_members names (members_of xs)) (sym f)

-- initializers
all_initials : (is : List Initializer) → placed_all initials view_initializer is no_initial ≡ initials_of is
all_initials [] = refl
all_initials (i ∷ is) = ap (initials (view_initializer i)) (all_initials is)

pub initials_begin : (sub : List Token → Read Initial) (is : List Initializer) (ts : List Token) → is ≡ [] → Left (initials_list sub) view_initializer (length ts + 1) true is ts (initials_at sub ts)
unfolding initials_at
initials_begin sub is ts e = front_none initials view_initializer is (run_at (initials_list sub) (length ts + 1) true ts) e

pub initials_close : (sub : List Token → Read Initial) (m : ℕ) (first : Bool) (is : List Initializer) (ts rest : List Token) (all : Read Initials) → length ts < m → Some rest ≡ shut_at first ts → Left (initials_list sub) view_initializer m first is ts all → all ≡ Some (initials_of is, rest)
initials_close sub m first is ts rest all h e f =
    closes (initials_list sub) view_initializer m first is ts (no_initial, rest) all h (shut_some no_initial first ts rest e) f
    ∙ ap (λ (xs : Initials). Some (xs, rest)) (all_initials is)

-- an initializer of one level or more
initial_opens : (bytes : List ℕ) (names : Scope) (n levels : ℕ) (ts : List Token) (o : Read Token) → suc n ≡ levels → o ≡ token_at (is_mark marks.LeftBrace) ts → initial_at bytes names levels ts ≡ initial_by bytes names levels (initial_at bytes names n) ts o
unfolding initial_at
initial_opens bytes names n levels ts o e f =
    ap (λ (l : ℕ). initial_at bytes names l ts) (sym e) ∙ ap (λ (l : ℕ). initial_by bytes names l (initial_at bytes names n) ts (token_at (is_mark marks.LeftBrace) ts)) e ∙ ap (initial_by bytes names levels (initial_at bytes names n) ts) (sym f)

pub value_made : (bytes : List ℕ) (names : Scope) (n levels : ℕ) (ts rest : List Token) (e : Box Expr Global) → suc n ≡ levels → None ≡ token_at (is_mark marks.LeftBrace) ts → reader bytes names levels 2 ts ≡ Some (view e.value, rest) → initial_at bytes names levels ts ≡ Some (view_initializer (Value e), rest)
value_made bytes names n levels ts rest e same f g =
    initial_opens bytes names n levels ts None same f ∙ ap (λ (o : Read Tree). o >>= λ e. Some (initial e.0, e.1)) g

pub braces_fail : (bytes : List ℕ) (names : Scope) (n levels : ℕ) (ts : List Token) (x : Token × List Token) → suc n ≡ levels → Some x ≡ token_at (is_mark marks.LeftBrace) ts → initials_at (initial_at bytes names n) x.1 ≡ None → initial_at bytes names levels ts ≡ None
braces_fail bytes names n levels ts x same e f =
    initial_opens bytes names n levels ts (Some x) same e ∙ ap (λ (o : Read Initials). o >>= λ is. Some (braces x.0.line is.0, is.1)) f

pub braces_made : (bytes : List ℕ) (names : Scope) (n levels : ℕ) (ts rest : List Token) (x : Token × List Token) (is : Vec Initializer Global) → suc n ≡ levels → Some x ≡ token_at (is_mark marks.LeftBrace) ts → initials_at (initial_at bytes names n) x.1 ≡ Some (initials_of is.items, rest) → initial_at bytes names levels ts ≡ Some (view_initializer (Braces x.0.line is), rest)
braces_made bytes names n levels ts rest x is same e f =
    initial_opens bytes names n levels ts (Some x) same e
    ∙ ap (λ (o : Read Initials). o >>= λ is. Some (braces x.0.line is.0, is.1)) f
    ∙ ap (λ (i : Initial). Some (i, rest)) (sym (view_braces x.0.line is))

-- declarators with initializers
abbrev pub init_of : InitDeclarator → Full × Option Initial
init_of d = (view_full d.declarator, option_map view_initializer d.initializer)

all_declarators : (ds : List InitDeclarator) → placed_all (λ (d : Full × Option Initial) (rest : Declarators). declarator d.0 d.1 rest) init_of ds none_declared ≡ declarators_of ds
all_declarators [] = refl
all_declarators (d ∷ ds) = ap (view_init_declarator d) (all_declarators ds)

pub declarators_begin : (bytes : List ℕ) (types : Bool) (n : ℕ) (names : Scope) (first : Bool) (ds : List InitDeclarator) (ts : List Token) → ds ≡ [] → Left (declarators_list bytes types n) init_of (length ts + 1) (names, first) ds ts (declarators_at bytes names types n first ts)
unfolding declarators_at
declarators_begin bytes types n names first ds ts e = front_none (declarators_list bytes types n).put init_of ds (run_at (declarators_list bytes types n) (length ts + 1) (names, first) ts) e

pub declarators_close : (bytes : List ℕ) (types : Bool) (n m : ℕ) (names : Scope) (first : Bool) (ds : List InitDeclarator) (ts : List Token) (x : Token × List Token) (all : Read Declarators) → length ts < m → Some x ≡ token_at (is_mark marks.Semicolon) ts → Left (declarators_list bytes types n) init_of m (names, first) ds ts all → all ≡ Some (declarators_of ds, x.1)
declarators_close bytes types n m names first ds ts x all h e f =
    closes (declarators_list bytes types n) init_of m (names, first) ds ts (none_declared, x.1) all h (ended_some marks.Semicolon none_declared ts x e) f
    ∙ ap (λ (xs : Declarators). Some (xs, x.1)) (all_declarators ds)

declarators_after : (names : Scope) (types : Bool) (ds : List InitDeclarator) (d : InitDeclarator) → with_declarators names types (declarators_of (ds ++ d ∷ [])) ≡ (name_of (view_full d.declarator), types) ∷ with_declarators names types (declarators_of ds)
declarators_after names types [] d = refl
declarators_after names types (x ∷ xs) d = declarators_after ((name_of (view_full x.declarator), types) ∷ names) types xs d

pub declarators_push : (names now new : Scope) (types : Bool) (ds rr : List InitDeclarator) (d : InitDeclarator) → rr ≡ ds ++ d ∷ [] → now ≡ with_declarators names types (declarators_of ds) → new ≡ (name_of (view_full d.declarator), types) ∷ now → new ≡ with_declarators names types (declarators_of rr)
declarators_push names now new types ds rr d f same is =
    is ∙ ap (λ (x : Scope). (name_of (view_full d.declarator), types) ∷ x) same ∙ sym (declarators_after names types ds d) ∙ ap (λ (xs : List InitDeclarator). with_declarators names types (declarators_of xs)) (sym f)

-- Names that are declared later stand in front.
abbrev pub Extends : Scope → Scope → Type 0
Extends names new = (front : Scope) × (new ≡ front ++ names)

pub extends_more : (names mid new : Scope) → Extends names mid → Extends mid new → Extends names new
extends_more names mid new (f, e) (g, h) = (g ++ f, h ∙ ap (λ (x : Scope). g ++ x) e ∙ sym (append_assoc g f names))

extends_one : (names : Scope) (e : List ℕ × Bool) → Extends names (e ∷ names)
extends_one names e = (e ∷ [], refl)

enumerators_extend : (es : List Enumerated) (names : Scope) → Extends names (with_enumerators names es)
enumerators_extend [] names = ([], refl)
enumerators_extend (e ∷ es) names = extends_more names ((e.name, false) ∷ names) (with_enumerators ((e.name, false) ∷ names) es) (extends_one names (e.name, false)) (enumerators_extend es ((e.name, false) ∷ names))

mutual
  part_extends : (p : Part) (names : Scope) → Extends names (with_part names p)
  part_extends (type_part p) names = ([], refl)
  part_extends (storage line c) names = ([], refl)
  part_extends (function line f) names = ([], refl)
  part_extends (structure line kind tag ms) names = members_extend ms names
  part_extends (enumeration line tag es) names = enumerators_extend es names

  parts_extend : (ps : Parts) (names : Scope) → Extends names (with_parts names ps)
  parts_extend no_part names = ([], refl)
  parts_extend (part p ps) names = extends_more names (with_part names p) (with_parts (with_part names p) ps) (part_extends p names) (parts_extend ps (with_part names p))

  members_extend : (ms : Members) (names : Scope) → Extends names (with_members names ms)
  members_extend no_member names = ([], refl)
  members_extend (members ps ds ms) names = extends_more names (with_parts names ps) (with_members (with_parts names ps) ms) (parts_extend ps names) (members_extend ms (with_parts names ps))

declarators_extend : (ds : Declarators) (types : Bool) (names : Scope) → Extends names (with_declarators names types ds)
declarators_extend none_declared types names = ([], refl)
declarators_extend (declarator d i ds) types names =
    extends_more names ((name_of d, types) ∷ names) (with_declarators ((name_of d, types) ∷ names) types ds) (extends_one names (name_of d, types)) (declarators_extend ds types ((name_of d, types) ∷ names))

pub extends_here : (names : Scope) → Extends names names
extends_here names = ([], refl)

-- leaving a block
pub mark_fits : (names new : Scope) → Extends names new → length names ≤ length new
mark_fits names new (f, e) = let g = ap (λ (x : Scope). length x) e ∙ length-append f names in omega (arith, g)

drop_front : (front names : Scope) → drop (length (front ++ names) - length names) (front ++ names) ≡ names
drop_front front names = ap (λ (n : ℕ). drop n (front ++ names)) (let g = length-append front names in omega (arith, g)) ∙ drop-append_seam front names

pub left_behind : (names new left : Scope) → Extends names new → left ≡ drop (length new - length names) new → left ≡ names
left_behind names new left (f, e) g = g ∙ ap (λ (x : Scope). drop (length x - length names) x) e ∙ drop_front f names

parameter_extends : (names now new : Scope) (types : Bool) (ps : Parts) (d : Full) → Extends names now → new ≡ with_named (with_parts now ps) types d → Extends names new
parameter_extends names now new types ps d e f =
    let g = parts_extend ps now in
    let h = named_extends (with_parts now ps) types d (full_has_name d) refl in
    extends_more names now new e (extends_more now (with_parts now ps) new g (h.0, f ∙ h.1))
  where
    named_extends : (names : Scope) (types : Bool) (d : Full) (b : Bool) → full_has_name d ≡ b → Extends names (with_named names types d)
    named_extends names types d true e = ((name_of d, types) ∷ [], ap (λ (b : Bool). if b then ((name_of d, types) ∷ names) else names) e)
    named_extends names types d false e = ([], ap (λ (b : Bool). if b then ((name_of d, types) ∷ names) else names) e)

pub parameters_extend : (names now new : Scope) (p : Parameter) → Extends names now → new ≡ with_named (with_parts now (parts_of p.specifiers.items)) (have_typedef (parts_of p.specifiers.items)) (view_full p.declarator) → Extends names new
parameters_extend names now new p e f = parameter_extends names now new (have_typedef (parts_of p.specifiers.items)) (parts_of p.specifiers.items) (view_full p.declarator) e f

declared_extend : (names : Scope) (ps : Parts) (ds : Declarators) → Extends names (with_declaration names ps ds)
declared_extend names ps ds = extends_more names (with_parts names ps) (with_declaration names ps ds) (parts_extend ps names) (declarators_extend ds (have_typedef ps) (with_parts names ps))

pub declaration_extends : (names new : Scope) (ps : Parts) (ds : Declarators) → new ≡ with_declaration names ps ds → Extends names new
declaration_extends names new ps ds e = let g = declared_extend names ps ds in (g.0, e ∙ g.1)

named_extends : (names : Scope) (types : Bool) (d : Full) (b : Bool) → full_has_name d ≡ b → Extends names (with_named names types d)
named_extends names types d true e = ((name_of d, types) ∷ [], ap (λ (b : Bool). if b then ((name_of d, types) ∷ names) else names) e)
named_extends names types d false e = ([], ap (λ (b : Bool). if b then ((name_of d, types) ∷ names) else names) e)

taken_extend : (ps : Parameters) (names : Scope) → Extends names (with_parameters names ps)
taken_extend no_parameter names = ([], refl)
taken_extend (parameter parts d ps) names =
    let own = with_named (with_parts names parts) (have_typedef parts) d in
    extends_more names own (with_parameters own ps)
    (extends_more names (with_parts names parts) own (parts_extend parts names) (named_extends (with_parts names parts) (have_typedef parts) d (full_has_name d) refl))
    (taken_extend ps own)

suffixes_extend : (ss : FullSuffixes) (names : Scope) → Extends names (with_parameters_of names ss)
suffixes_extend full_end names = ([], refl)
suffixes_extend (full_bounded line e ss) names = ([], refl)
suffixes_extend (full_open line ss) names = ([], refl)
suffixes_extend (full_empty line ss) names = ([], refl)
suffixes_extend (full_void line ss) names = ([], refl)
suffixes_extend (full_parameters line ps variadic ss) names = taken_extend ps names

pub body_extends : (names new : Scope) (ss : FullSuffixes) → new ≡ with_parameters_of names ss → Extends names new
body_extends names new ss e = let g = suffixes_extend ss names in (g.0, e ∙ g.1)

-- leaving what was marked
pub fits_marked : (names new : Scope) (mark : ℕ) → mark ≡ length names → Extends names new → mark ≤ length new
fits_marked names new mark e f = let g = mark_fits names new f in omega (arith, e, g)

pub left_marked : (names new left : Scope) (mark : ℕ) → mark ≡ length names → Extends names new → left ≡ drop (length new - mark) new → left ≡ names
left_marked names new left mark e f g = left_behind names new left f (g ∙ ap (λ (m : ℕ). drop (length new - m) new) e)
