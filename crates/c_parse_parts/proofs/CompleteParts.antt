-- Specifiers that stand there are read.
use Rattle.std.proofs.Common.{◌≡◌, ◌≢◌, ◌≤◌, ◌<◌, ◌+◌, ℕ, zero, suc, List, [], ◌∷◌, ◌++◌, length, length-append, Bool, true, false, cond, Option, Some, None, refl, ap, sym, ◌∙◌, arith, inl, inr}
use Rattle.std.specs.Prelude.{◌||◌, ◌&&◌, ◌⊎◌}
use Rattle.c_token.specs.declared.token.Token.{Token}
use Rattle.c_token.specs.declared.token.Kind.{Kind}
use Rattle.c_token.specs.declared.token.Kind.TheVariants as kinds
use Rattle.c_token.specs.declared.token.Keyword.TheVariants as keywords
use Rattle.c_token.specs.declared.token.Mark.TheVariants as marks
use Rattle.c_token.specs.Spelling.{text_of}
use Rattle.c_tree.specs.declared.specifier.Qualifier.{Qualifier}
use Rattle.c_tree.specs.declared.specifier.TypeWord.{TypeWord}
use Rattle.c_tree.specs.declared.specifier.TypeWord.TheVariants as type_words
use Rattle.c_tree.specs.declared.specifier.Qualifier.TheVariants as qualifiers
use Rattle.c_tree.specs.declared.declaration.StorageClass.TheVariants as storage_classes
use Rattle.c_tree.specs.declared.declaration.FunctionSpecifier.TheVariants as function_specifiers
use Rattle.c_tree.specs.declared.specifier.TagKind.{TagKind}
use Rattle.c_tree.specs.declared.specifier.TagKind.TheVariants as tag_kinds
use Rattle.c_tree.specs.declared.declaration.StorageClass.{StorageClass}
use Rattle.c_tree.specs.declared.declaration.FunctionSpecifier.{FunctionSpecifier}
use Rattle.c_tree.specs.declared.declaration.RecordKind.{RecordKind}
use Rattle.c_tree.specs.declared.declaration.RecordKind.TheVariants as record_kinds
use Rattle.c_tree.specs.Tree.{TypePart, qualified, word, tagged, typedef_name, Tree, depth}
use Rattle.c_tree.specs.Tables.{level_of, qualifier_keyword, word_keyword, tag_keyword, storage_keyword, function_keyword, record_keyword}
use Rattle.c_tree.specs.Names.{Scope, is_type}
use Rattle.c_tree.specs.Spelling.{Single, Then, IsMark, Spells, IsWell}
use Rattle.c_tree.specs.Declarations.{Enumerated, Part, type_part, storage, function, structure, enumeration, Parts, no_part, part, Members, no_member, members, Full, full_unnamed, full_named, full_inside, Fulls, no_full, full, FullSuffixes, full_end, full_bounded, full_open, full_empty, full_void, full_parameters, Parameters, no_parameter, parameter, value_depth, enumerators_depth, part_depth, parts_depth, members_depth, full_depth, fulls_depth, full_suffixes_depth, parameters_depth, full_has_name, with_part, with_parts, with_named, have_typedef, specifies, specify, full_pointing}
use Rattle.c_tree.specs.Files.{SpellsValue, SpellsEnumerator, SpellsOtherEnumerators, SpellsEnumerators, SpellsOtherMembers, SpellsMembers, SpellsTag, SpellsPart, SpellsParts, SpellsMemberDeclarations, SpellsFull, SpellsFullSuffixes, SpellsParameters, SpellsOtherParameters, IsWellValue, AreWellEnumerators, FrontIsNoType, AreWellMembers, FrontIsNoTypeOfMembers, is_of_member, are_of_member, IsWellPart, AreWellParts, AreWellMemberDeclarations, OpensNoType, full_is_empty, is_void_part, are_void, is_void_alone, IsWellFull, AreWellFullSuffixes, AreWellParameters}
use Rattle.c_parse_expr.specs.Tables.{suffix_of}
use Rattle.c_parse_expr.specs.inner.Many.{◌>>=◌}
use Rattle.c_parse_expr.specs.Reading.{is_mark}
use Rattle.c_parse_expr.specs.inner.Reading.{is_identifier, reader}
use Rattle.c_parse_parts.specs.declared.table.Start.{Start}
use Rattle.c_parse_parts.specs.declared.table.Start.TheVariants as starts
use Rattle.c_parse_parts.specs.declared.slices.DeclaratorStart.{DeclaratorStart}
use Rattle.c_parse_parts.specs.declared.slices.DeclaratorStart.TheVariants as declarator_starts
use Rattle.c_parse_parts.specs.declared.slices.Opening.{Opening}
use Rattle.c_parse_parts.specs.declared.slices.Opening.TheVariants as openings
use Rattle.c_parse_parts.specs.Tables.{record_tag}
use Rattle.c_parse_parts.specs.inner.Reading.{Read, OneSuffix, one_bounded, one_open, one_empty, one_void, one_takes, placed_suffix, is_keyword, token_at, run_at, comma_at, shut_at, start_at, is_there, stands, tag_by, tag_at, record_by, record_from, record_at, value_by, value_at, enumerator_at, enumerators_list, enumerators_at, enumeration_by, enumeration_from, enumeration_at, part_from, parts_stop, parts_list, parts_at, are_some, fulls_list, fulls_at, member_at, members_list, have_some, members_at, some_members_at, opening_of, opening_at, bound_by, bound_at, void_at, dots_at, last_by, last_at, parameter_at, parameters_list, parameters_at, given_by, given_at, taken_by, taken_at, one_from, suffixes_stop, suffixes_list, suffixes_at, takes, declarator_start_of, declarator_start_at, inside_at, full_from, bare_full, body_at, full_at}
use Rattle.c_parse_parts.proofs.Lists.{bind_gives, bind_none, run_stops, run_goes}
use Rattle.c_parse_parts.proofs.Words.{passes_at, token_fails, mark_gives, keyword_gives, identifier_gives}
use Rattle.c_parse_parts.proofs.Starts.{StartsKind, is_name_in, name_so, start_gives}
use Rattle.c_parse_parts.proofs.Runs.{Separated}
use Rattle.c_parse_parts.proofs.SoundParts.{SpellsEnumeratorsBy, SpellsMembersBy, SpellsParametersBy, or_nothing, or_three, named_full, void_gives, nothing_spelled}
use Rattle.c_parse_parts.proofs.Steps.{apart, from_token, Opens, opens_longer, opens_length, IsNot, IsWord, word_of_keyword, word_of_name, opens_not, opens_word, comma_gives, ended_gives, ended_none, ended_fails, shut_gives, shut_fails, IsEnder, ender_not, stops_at_ender, expression_read, stops_by_none, Follows, enders_follow, IsCloser, closers_follow, full_opens_not, Quiet, quiet_at_mark, full_quiet, parameter_quiet}
use Rattle.c_parse_expr.proofs.CompleteSteps.{first_token}
use Rattle.c_parse_parts.proofs.Firsts.{first_no_mark}

-- enumerators
value_read : (bytes : List ℕ) (names : Scope) (n : ℕ) (v : Option Tree) (own others : List Token) (tok : Token) → IsEnder tok.kind → SpellsValue bytes v own → IsWellValue names v → value_depth v ≤ n → value_at bytes names n (own ++ (tok ∷ others)) ≡ Some (v, tok ∷ others)
unfolding value_at
value_read bytes names n None own others tok is s w d =
    ap (λ (xs : List Token). value_by bytes names n (xs ++ (tok ∷ others)) (token_at (is_mark marks.Equal) (xs ++ (tok ∷ others)))) s
    ∙ ap (λ (o : Read Token). value_by bytes names n (tok ∷ others) o) (token_fails (is_mark marks.Equal) tok others (ender_not marks.Equal tok.kind refl refl refl is))
value_read bytes names n (Some e) own others tok is s w d =
    ap (λ (o : Read Token). value_by bytes names n (own ++ (tok ∷ others)) o)
    (ap (λ (xs : List Token). token_at (is_mark marks.Equal) xs) (from_token own (tok ∷ others) s.rest s.token s.whole) ∙ mark_gives marks.Equal s.token (s.rest ++ (tok ∷ others)) s.is)
    ∙ ap (λ (o : Read Tree). o >>= λ e. Some (Some e.0, e.1)) (expression_read bytes names n 3 e s.rest others tok (stops_at_ender 3 tok (omega arith) refl is) s.behind w.1 d w.0)

enumerator_read : (bytes : List ℕ) (names : Scope) (n : ℕ) (e : Enumerated) (own rest : List Token) → Opens IsEnder rest → SpellsEnumerator bytes e own → IsWellValue names e.value → value_depth e.value ≤ n → enumerator_at bytes names n (own ++ rest) ≡ Some (e, rest)
unfolding enumerator_at
enumerator_read bytes names n e own rest o s w d =
    let t = s.token in
    let behind : value_at bytes names n (s.rest ++ rest) ≡ Some (e.value, rest) =
    ap (λ (xs : List Token). value_at bytes names n (s.rest ++ xs)) o.whole
    ∙ value_read bytes names n e.value s.rest o.others o.token o.is s.behind w d
    ∙ ap (λ (xs : List Token). Some (e.value, xs)) (sym o.whole) in
    ap (λ (xs : List Token). token_at is_identifier xs >>= λ x. value_at bytes names n x.1 >>= λ v. Some (record { line = x.0.line; name = text_of bytes x.0; value = v.0 }, v.1)) (from_token own rest s.rest s.token s.whole)
    ∙ ap (λ (o : Read Token). o >>= λ x. value_at bytes names n x.1 >>= λ v. Some (record { line = x.0.line; name = text_of bytes x.0; value = v.0 }, v.1)) (identifier_gives t (s.rest ++ rest) s.is.kind)
    ∙ ap (λ (o : Read (Option Tree)). o >>= λ v. Some (record { line = t.line; name = text_of bytes t; value = v.0 }, v.1)) behind
    ∙ ap (λ (l : ℕ). Some (record { line = l; name = text_of bytes t; value = e.value }, rest)) s.is.line
    ∙ ap (λ (x : List ℕ). Some (record { line = e.line; name = x; value = e.value }, rest)) s.is.text

others_end : (bytes : List ℕ) (es : List Enumerated) (own rest : List Token) → SpellsOtherEnumerators bytes es own → Opens IsEnder (own ++ rest)
others_end bytes [] own rest (inl s) = record { token = s.token; others = rest; whole = from_token own rest [] s.token s.whole; is = inr (inr s.is) }
others_end bytes [] own rest (inr s) = record { token = s.token; others = s.rest ++ rest; whole = from_token own rest s.rest s.token s.whole; is = inl s.is }
others_end bytes (e ∷ es) own rest s = record { token = s.token; others = s.rest ++ rest; whole = from_token own rest s.rest s.token s.whole; is = inl s.is }

enumerators_were : (first : Bool) (bytes : List ℕ) (e : Enumerated) (es : List Enumerated) (own : List Token) → SpellsEnumeratorsBy first bytes (e ∷ es) own → Separated first (Then (SpellsEnumerator bytes e) (SpellsOtherEnumerators bytes es)) own
enumerators_were true bytes e es own s = s
enumerators_were false bytes e es own s = s

enumerators_open : (bytes : List ℕ) (e : Enumerated) (B : List Token → Type 0) (own : List Token) → Then (SpellsEnumerator bytes e) B own → Opens IsWord own
enumerators_open bytes e B own s =
    let t = s.first in
    record { token = t.token; others = t.rest ++ s.right; whole = s.whole ∙ ap (λ (xs : List Token). xs ++ s.right) t.whole; is = word_of_name t.token.kind t.is.kind }

enumerators_again : (bytes : List ℕ) (es : List Enumerated) (n m : ℕ) (names : Scope) (first : Bool) (own rest : List Token) → SpellsEnumeratorsBy first bytes es own → AreWellEnumerators names es → enumerators_depth es ≤ n → length own < m → run_at (enumerators_list bytes n) m (names, first) (own ++ rest) ≡ Some (es, rest)
enumerators_again bytes es n zero names first own rest s w d h = absurd (omega arith)
enumerators_again bytes [] n (suc m) names true own rest s w d h = absurd s
enumerators_again bytes [] n (suc m) names false own rest s w d h =
    run_stops (enumerators_list bytes n) m (names, false) (own ++ rest) ([], rest) (bind_gives (shut_at false (own ++ rest)) (λ xs. Some ([], xs)) rest (Some ([], rest)) (shut_gives own rest s) refl)
enumerators_again bytes (e ∷ es) n (suc m) names first own rest s w d h =
    let A = Then (SpellsEnumerator bytes e) (SpellsOtherEnumerators bytes es) in
    let sep = enumerators_were first bytes e es own s in
    let c = comma_gives first A own rest sep in
    let two = c.spelled in
    let some = opens_length IsWord c.inner (enumerators_open bytes e (SpellsOtherEnumerators bytes es) c.inner two) in
    let one : 0 < length two.left = (let f = ap (λ (xs : List Token). length xs) two.first.whole in omega (arith, f)) in
    let both = ap (λ (xs : List Token). length xs) two.whole ∙ length-append two.left two.right in
    let short = c.short in
    let read = enumerator_read bytes names n e two.left (two.right ++ rest) (others_end bytes es two.right rest two.second) two.first w.0 (omega arith) in
    run_goes (enumerators_list bytes n) m (names, first) (own ++ rest) (two.right ++ rest) rest e es
    (bind_none (shut_at first (own ++ rest)) (λ xs. Some ([], xs)) (shut_fails first A own rest (λ xs a. opens_word marks.RightBrace xs (enumerators_open bytes e (SpellsOtherEnumerators bytes es) xs a)) sep))
    (bind_gives (comma_at first (own ++ rest)) (λ xs. enumerator_at bytes names n xs) (c.inner ++ rest) (Some (e, two.right ++ rest)) c.read
    (ap (enumerator_at bytes names n) (apart c.inner two.left two.right rest two.whole) ∙ read))
    (enumerators_again bytes es n m ((e.name, false) ∷ names) false two.right rest two.second w.1 (omega arith) (omega (arith, one, both, short)))

enumerators_read : (bytes : List ℕ) (names : Scope) (es : List Enumerated) (n : ℕ) (own rest : List Token) → SpellsEnumerators bytes es own → AreWellEnumerators names es → enumerators_depth es ≤ n → enumerators_at bytes names n (own ++ rest) ≡ Some (es, rest)
unfolding enumerators_at
enumerators_read bytes names es n own rest s w d =
    let long = length-append own rest in
    enumerators_again bytes es n (length (own ++ rest) + 1) names true own rest s w d (omega (arith, long))

-- From a declarator's tokens the declarator is read.
abbrev pub FullAgain : List ℕ → Full → Type 0
FullAgain bytes d = (n : ℕ) (inner : Bool) (names : Scope) (own rest : List Token) → SpellsFull bytes d own → IsWellFull names inner d → (inner ≡ false → full_has_name d ≡ true) → full_depth d ≤ n → Opens Follows rest → full_at bytes n inner names (own ++ rest) ≡ Some (d, rest)

-- declarators of members
abbrev pub FullsAgain : List ℕ → Fulls → Type 0
FullsAgain bytes ds = (n m : ℕ) (names : Scope) (first : Bool) (own rest : List Token) → SpellsMembersBy first bytes ds own → AreWellMembers names ds → fulls_depth ds ≤ n → length own < m → run_at (fulls_list (full_at bytes n false)) m (names, first) (own ++ rest) ≡ Some (ds, rest)

members_were : (first : Bool) (bytes : List ℕ) (d : Full) (ds : Fulls) (own : List Token) → SpellsMembersBy first bytes (full d ds) own → Separated first (Then (SpellsFull bytes d) (SpellsOtherMembers bytes ds)) own
members_were true bytes d ds own s = s
members_were false bytes d ds own s = s

no_members_were : (first : Bool) (bytes : List ℕ) (own : List Token) → SpellsMembersBy first bytes no_full own → Single (IsMark marks.Semicolon) own
no_members_were true bytes own s = s
no_members_were false bytes own s = s

other_members_end : (bytes : List ℕ) (ds : Fulls) (own rest : List Token) → SpellsOtherMembers bytes ds own → Opens IsEnder (own ++ rest)
other_members_end bytes no_full own rest s = record { token = s.token; others = rest; whole = from_token own rest [] s.token s.whole; is = inr (inl s.is) }
other_members_end bytes (full d ds) own rest s = record { token = s.token; others = s.rest ++ rest; whole = from_token own rest s.rest s.token s.whole; is = inl s.is }

no_fulls_again : (bytes : List ℕ) → FullsAgain bytes no_full
no_fulls_again bytes n zero names first own rest s w d h = absurd (omega arith)
no_fulls_again bytes n (suc m) names first own rest s w d h =
    run_stops (fulls_list (full_at bytes n false)) m (names, first) (own ++ rest) (no_full, rest) (ended_gives marks.Semicolon no_full own rest (no_members_were first bytes own s))

some_fulls_again : (bytes : List ℕ) (x : Full) (ds : Fulls) → FullAgain bytes x → FullsAgain bytes ds → FullsAgain bytes (full x ds)
some_fulls_again bytes x ds again others n zero names first own rest s w d h = absurd (omega arith)
some_fulls_again bytes x ds again others n (suc m) names first own rest s w d h =
    let A = Then (SpellsFull bytes x) (SpellsOtherMembers bytes ds) in
    let sep = members_were first bytes x ds own s in
    let c = comma_gives first A own rest sep in
    let two = c.spelled in
    let some = named_full x w.0 in
    let o = full_opens_not bytes marks.Semicolon x two.left refl refl refl some two.first in
    let one = opens_length (IsNot marks.Semicolon) two.left o in
    let both = ap (λ (xs : List Token). length xs) two.whole ∙ length-append two.left two.right in
    let short = c.short in
    run_goes (fulls_list (full_at bytes n false)) m (names, first) (own ++ rest) (two.right ++ rest) rest x ds
    (ended_fails marks.Semicolon no_full first A own rest refl (λ xs a. opens_longer (IsNot marks.Semicolon) xs a.left a.right a.whole (full_opens_not bytes marks.Semicolon x a.left refl refl refl some a.first)) sep)
    (bind_gives (comma_at first (own ++ rest)) (λ xs. full_at bytes n false names xs) (c.inner ++ rest) (Some (x, two.right ++ rest)) c.read
    (ap (full_at bytes n false names) (apart c.inner two.left two.right rest two.whole)
    ∙ again n false names two.left (two.right ++ rest) two.first w.1 (λ _. w.0) (omega arith) (enders_follow (two.right ++ rest) (other_members_end bytes ds two.right rest two.second))))
    (others n m names false two.right rest two.second w.2 (omega arith) (omega (arith, one, both, short)))

fulls_read : (bytes : List ℕ) (names : Scope) (ds : Fulls) (n : ℕ) (own rest : List Token) → FullsAgain bytes ds → SpellsMembers bytes ds own → AreWellMembers names ds → fulls_depth ds ≤ n → fulls_at (full_at bytes n false) names (own ++ rest) ≡ Some (ds, rest)
unfolding fulls_at
fulls_read bytes names ds n own rest again s w d =
    let long = length-append own rest in
    again n (length (own ++ rest) + 1) names true own rest s w d (omega (arith, long))

members_quiet : (bytes : List ℕ) (names : Scope) (before : Bool) (ds : Fulls) (own rest : List Token) → SpellsMembers bytes ds own → AreWellMembers names ds → FrontIsNoTypeOfMembers names before ds → Quiet true bytes names before (own ++ rest)
members_quiet bytes names before no_full own rest s w f = quiet_at_mark true bytes names before marks.Semicolon s.token (own ++ rest) rest (from_token own rest [] s.token s.whole) s.is refl
members_quiet bytes names before (full d ds) own rest s w f =
    let q = full_quiet true bytes names before d s.left (s.right ++ rest) s.first (named_full d w.0) f in
    let e = apart own s.left s.right rest s.whole in
    record { no_start = ap (start_at true bytes (names, before)) e ∙ q.no_start; no_brace = ap (token_at (is_mark marks.LeftBrace)) e ∙ q.no_brace }

-- tags
tag_gives : (bytes : List ℕ) (tag : Option (List ℕ)) (own others : List Token) (t : Token) → is_identifier t.kind ≡ false → SpellsTag bytes tag own → tag_at bytes (own ++ (t ∷ others)) ≡ (tag, t ∷ others)
unfolding tag_at
tag_gives bytes None own others t e s =
    ap (λ (xs : List Token). tag_by bytes (xs ++ (t ∷ others)) (token_at is_identifier (xs ++ (t ∷ others)))) s
    ∙ ap (tag_by bytes (t ∷ others)) (token_fails is_identifier t others e)
tag_gives bytes (Some text) own others t e s =
    ap (λ (o : Read Token). tag_by bytes (own ++ (t ∷ others)) o)
    (ap (token_at is_identifier) (from_token own (t ∷ others) [] s.token s.whole) ∙ identifier_gives s.token (t ∷ others) s.is.kind)
    ∙ ap (λ (x : List ℕ). (Some x, t ∷ others)) s.is.text

name_tag : (bytes text : List ℕ) (ts rest : List Token) (t : Token) → ts ≡ t ∷ rest → t.kind ≡ kinds.Identifier → text_of bytes t ≡ text → tag_at bytes ts ≡ (Some text, rest)
unfolding tag_at
name_tag bytes text ts rest t e is spelled =
    ap (λ (o : Read Token). tag_by bytes ts o) (ap (token_at is_identifier) e ∙ identifier_gives t rest is)
    ∙ ap (λ (x : List ℕ). (Some x, rest)) spelled

-- how a specifier is read: what begins it, its first token, and the tokens behind that
pub record PartReads (inner : Bool) (bytes : List ℕ) (n : ℕ) (names : Scope) (before : Bool) (p : Part) (ts rest : List Token) : Type 0 where
  pub start : Start
  pub token : Token
  pub others : List Token
  pub starts : start_at inner bytes (names, before) ts ≡ Some (start, token, others)
  pub reads : part_from bytes n (body_at bytes n) names start token others ≡ Some (p, rest)

abbrev pub PartAgain : List ℕ → Part → Type 0
PartAgain bytes p = (inner : Bool) (n : ℕ) (names : Scope) (before : Bool) (own rest : List Token) → SpellsPart bytes p own → IsWellPart names before p → (inner ≡ true → is_of_member p ≡ true) → part_depth p ≤ n → token_at (is_mark marks.LeftBrace) rest ≡ None → PartReads inner bytes n names before p (own ++ rest) rest

abbrev pub PartsAgain : List ℕ → Parts → Type 0
PartsAgain bytes ps = (inner : Bool) (n m : ℕ) (names : Scope) (before : Bool) (own rest : List Token) → SpellsParts bytes ps own → AreWellParts names before ps → (inner ≡ true → are_of_member ps) → parts_depth ps ≤ n → Quiet inner bytes (with_parts names ps) (before || specify ps) rest → length own < m → run_at (parts_list inner bytes n (body_at bytes n)) m (names, before) (own ++ rest) ≡ Some (ps, rest)

abbrev pub MembersAgain : List ℕ → Members → Type 0
MembersAgain bytes ms = (n m : ℕ) (names : Scope) (own rest : List Token) → SpellsMemberDeclarations bytes ms own → AreWellMemberDeclarations names ms → members_depth ms ≤ n → length own < m → run_at (members_list bytes n (body_at bytes n) (full_at bytes n)) m names (own ++ rest) ≡ Some (ms, rest)

starts_here : (inner : Bool) (bytes : List ℕ) (names : Scope) (before : Bool) (y : Start) (t : Token) (ts others : List Token) → ts ≡ t ∷ others → StartsKind inner (is_name_in bytes (names, before) t) y t.kind → start_at inner bytes (names, before) ts ≡ Some (y, t, others)
starts_here inner bytes names before y t ts others e is = ap (start_at inner bytes (names, before)) e ∙ start_gives inner bytes (names, before) t others y is

qualified_again : (bytes : List ℕ) (line : ℕ) (q : Qualifier) → PartAgain bytes (type_part (qualified line q))
unfolding part_from
qualified_again bytes line q inner n names before own rest s w i d f = record {
  start = starts.Qualifier q;
  token = s.token;
  others = rest;
  starts = starts_here inner bytes names before (starts.Qualifier q) s.token (own ++ rest) rest (from_token own rest [] s.token s.whole) s.is.kind;
  reads = ap (λ (l : ℕ). Some (type_part (qualified l q), rest)) s.is.line;
}

word_again : (bytes : List ℕ) (line : ℕ) (v : TypeWord) → PartAgain bytes (type_part (word line v))
unfolding part_from
word_again bytes line v inner n names before own rest s w i d f = record {
  start = starts.Word v;
  token = s.token;
  others = rest;
  starts = starts_here inner bytes names before (starts.Word v) s.token (own ++ rest) rest (from_token own rest [] s.token s.whole) s.is.kind;
  reads = ap (λ (l : ℕ). Some (type_part (word l v), rest)) s.is.line;
}

typedef_again : (bytes : List ℕ) (line : ℕ) (text : List ℕ) → PartAgain bytes (type_part (typedef_name line text))
unfolding part_from
typedef_again bytes line text inner n names before own rest s w i d f = record {
  start = starts.Name;
  token = s.token;
  others = rest;
  starts = starts_here inner bytes names before starts.Name s.token (own ++ rest) rest (from_token own rest [] s.token s.whole)
      (s.is.kind, name_so before (is_type names (text_of bytes s.token)) w.0 (ap (is_type names) s.is.text ∙ w.1));
  reads = ap (λ (l : ℕ). Some (type_part (typedef_name l (text_of bytes s.token)), rest)) s.is.line ∙ ap (λ (x : List ℕ). Some (type_part (typedef_name line x), rest)) s.is.text;
}

-- what is no part of members stands among other specifiers
is_outer : (inner b : Bool) → b ≡ false → (inner ≡ true → b ≡ true) → inner ≡ false
is_outer true b e f = let g = sym e ∙ f refl in absurd cc
is_outer false b e f = refl

storage_again : (bytes : List ℕ) (line : ℕ) (c : StorageClass) → PartAgain bytes (storage line c)
unfolding part_from
storage_again bytes line c inner n names before own rest s w i d f = record {
  start = starts.Storage c;
  token = s.token;
  others = rest;
  starts = starts_here inner bytes names before (starts.Storage c) s.token (own ++ rest) rest (from_token own rest [] s.token s.whole) (s.is.kind, is_outer inner false refl i);
  reads = ap (λ (l : ℕ). Some (storage l c, rest)) s.is.line;
}

function_again : (bytes : List ℕ) (line : ℕ) (c : FunctionSpecifier) → PartAgain bytes (function line c)
unfolding part_from
function_again bytes line c inner n names before own rest s w i d f = record {
  start = starts.Function c;
  token = s.token;
  others = rest;
  starts = starts_here inner bytes names before (starts.Function c) s.token (own ++ rest) rest (from_token own rest [] s.token s.whole) (s.is.kind, is_outer inner false refl i);
  reads = ap (λ (l : ℕ). Some (function l c, rest)) s.is.line;
}

-- a tag without braces
record_tagged : (bytes : List ℕ) (n line at : ℕ) (names : Scope) (kind : RecordKind) (text : List ℕ) (ts rest : List Token) (t : Token) → ts ≡ t ∷ rest → t.kind ≡ kinds.Identifier → text_of bytes t ≡ text → line ≡ at → token_at (is_mark marks.LeftBrace) rest ≡ None → record_at bytes (body_at bytes n) names line kind ts ≡ Some (type_part (tagged at (record_tag kind) text), rest)
unfolding record_at
record_tagged bytes n line at names kind text ts rest t e is spelled same f =
    ap (record_from (body_at bytes n) names line kind) (name_tag bytes text ts rest t e is spelled)
    ∙ ap (record_by (body_at bytes n) names line kind (Some text) rest) f
    ∙ ap (λ (l : ℕ). Some (type_part (tagged l (record_tag kind) text), rest)) same

enumeration_tagged : (bytes : List ℕ) (n line at : ℕ) (names : Scope) (text : List ℕ) (ts rest : List Token) (t : Token) → ts ≡ t ∷ rest → t.kind ≡ kinds.Identifier → text_of bytes t ≡ text → line ≡ at → token_at (is_mark marks.LeftBrace) rest ≡ None → enumeration_at bytes names n line ts ≡ Some (type_part (tagged at tag_kinds.Enum text), rest)
unfolding enumeration_at
enumeration_tagged bytes n line at names text ts rest t e is spelled same f =
    ap (enumeration_from bytes names n line) (name_tag bytes text ts rest t e is spelled)
    ∙ ap (enumeration_by bytes names n line (Some text) rest) f
    ∙ ap (λ (l : ℕ). Some (type_part (tagged l tag_kinds.Enum text), rest)) same

tagged_again : (bytes : List ℕ) (line : ℕ) (kind : TagKind) (text : List ℕ) → PartAgain bytes (type_part (tagged line kind text))
unfolding part_from
tagged_again bytes line tag_kinds.Struct text inner n names before own rest s w i d f =
    let t = s.behind in
    record {
      start = starts.Record record_kinds.Struct;
      token = s.token;
      others = s.rest ++ rest;
      starts = starts_here inner bytes names before (starts.Record record_kinds.Struct) s.token (own ++ rest) (s.rest ++ rest) (from_token own rest s.rest s.token s.whole) s.is.kind;
      reads = record_tagged bytes n s.token.line line names record_kinds.Struct text (s.rest ++ rest) rest t.token (from_token s.rest rest [] t.token t.whole) t.is.kind t.is.text s.is.line f;
    }
tagged_again bytes line tag_kinds.Union text inner n names before own rest s w i d f =
    let t = s.behind in
    record {
      start = starts.Record record_kinds.Union;
      token = s.token;
      others = s.rest ++ rest;
      starts = starts_here inner bytes names before (starts.Record record_kinds.Union) s.token (own ++ rest) (s.rest ++ rest) (from_token own rest s.rest s.token s.whole) s.is.kind;
      reads = record_tagged bytes n s.token.line line names record_kinds.Union text (s.rest ++ rest) rest t.token (from_token s.rest rest [] t.token t.whole) t.is.kind t.is.text s.is.line f;
    }
tagged_again bytes line tag_kinds.Enum text inner n names before own rest s w i d f =
    let t = s.behind in
    record {
      start = starts.Enumeration;
      token = s.token;
      others = s.rest ++ rest;
      starts = starts_here inner bytes names before starts.Enumeration s.token (own ++ rest) (s.rest ++ rest) (from_token own rest s.rest s.token s.whole) s.is.kind;
      reads = enumeration_tagged bytes n s.token.line line names text (s.rest ++ rest) rest t.token (from_token s.rest rest [] t.token t.whole) t.is.kind t.is.text s.is.line f;
    }

-- a body behind its brace
have_members : (ms : Members) → ms ≢ no_member → have_some ms ≡ true
have_members no_member e = absurd (e refl)
have_members (members ps ds ms) e = refl

body_read : (bytes : List ℕ) (names : Scope) (ms : Members) (n : ℕ) (own rest : List Token) → MembersAgain bytes ms → SpellsMemberDeclarations bytes ms own → AreWellMemberDeclarations names ms → ms ≢ no_member → members_depth ms + 1 ≤ n → body_at bytes n names (own ++ rest) ≡ Some (ms, rest)
unfolding body_at some_members_at members_at
body_read bytes names ms zero own rest again s w some d = absurd (omega arith)
body_read bytes names ms (suc n) own rest again s w some d =
    let long = length-append own rest in
    bind_gives (run_at (members_list bytes n (body_at bytes n) (full_at bytes n)) (length (own ++ rest) + 1) names (own ++ rest)) (λ ms. cond (have_some ms.0) (Some ms) None) (ms, rest) (Some (ms, rest))
    (again n (length (own ++ rest) + 1) names own rest s w (omega arith) (omega (arith, long)))
    (ap (λ (b : Bool). cond {A = Read Members} b (Some (ms, rest)) None) (have_members ms some))

structure_read : (bytes : List ℕ) (names : Scope) (n line at : ℕ) (kind : RecordKind) (tag : Option (List ℕ)) (ms : Members) (ts own inside others rest : List Token) (t : Token) → ts ≡ own ++ (t ∷ others) → SpellsTag bytes tag own → t.kind ≡ kinds.Mark marks.LeftBrace → line ≡ at → others ≡ inside ++ rest → body_at bytes n names (inside ++ rest) ≡ Some (ms, rest) → record_at bytes (body_at bytes n) names line kind ts ≡ Some (structure at kind tag ms, rest)
unfolding record_at
structure_read bytes names n line at kind tag ms ts own inside others rest t e s is same f g =
    ap (λ (xs : List Token). record_from (body_at bytes n) names line kind (tag_at bytes xs)) e
    ∙ ap (record_from (body_at bytes n) names line kind) (tag_gives bytes tag own others t (ap is_identifier is) s)
    ∙ ap (record_by (body_at bytes n) names line kind tag (t ∷ others)) (mark_gives marks.LeftBrace t others is)
    ∙ ap (λ (o : Read Members). o >>= λ ms. Some (structure line kind tag ms.0, ms.1)) (ap (body_at bytes n names) f ∙ g)
    ∙ ap (λ (l : ℕ). Some (structure l kind tag ms, rest)) same

structure_again : (bytes : List ℕ) (line : ℕ) (kind : RecordKind) (tag : Option (List ℕ)) (ms : Members) → MembersAgain bytes ms → PartAgain bytes (structure line kind tag ms)
unfolding part_from
structure_again bytes line kind tag ms again inner n names before own rest s w i d f =
    let two = s.behind in
    let brace = two.second in
    record {
      start = starts.Record kind;
      token = s.token;
      others = s.rest ++ rest;
      starts = starts_here inner bytes names before (starts.Record kind) s.token (own ++ rest) (s.rest ++ rest) (from_token own rest s.rest s.token s.whole) s.is.kind;
      reads = structure_read bytes names n s.token.line line kind tag ms (s.rest ++ rest) two.left brace.rest (brace.rest ++ rest) rest brace.token
          (apart s.rest two.left two.right rest two.whole ∙ ap (λ (xs : List Token). two.left ++ xs) (from_token two.right rest brace.rest brace.token brace.whole))
          two.first brace.is s.is.line refl (body_read bytes names ms n brace.rest rest again brace.behind w.1 w.0 d);
    }

enumeration_read : (bytes : List ℕ) (names : Scope) (n line at : ℕ) (tag : Option (List ℕ)) (es : List Enumerated) (ts own others rest : List Token) (t : Token) → ts ≡ own ++ (t ∷ others) → SpellsTag bytes tag own → t.kind ≡ kinds.Mark marks.LeftBrace → line ≡ at → enumerators_at bytes names n others ≡ Some (es, rest) → enumeration_at bytes names n line ts ≡ Some (enumeration at tag es, rest)
unfolding enumeration_at
enumeration_read bytes names n line at tag es ts own others rest t e s is same g =
    ap (λ (xs : List Token). enumeration_from bytes names n line (tag_at bytes xs)) e
    ∙ ap (enumeration_from bytes names n line) (tag_gives bytes tag own others t (ap is_identifier is) s)
    ∙ ap (enumeration_by bytes names n line tag (t ∷ others)) (mark_gives marks.LeftBrace t others is)
    ∙ ap (λ (o : Read (List Enumerated)). o >>= λ es. Some (enumeration line tag es.0, es.1)) g
    ∙ ap (λ (l : ℕ). Some (enumeration l tag es, rest)) same

enumeration_again : (bytes : List ℕ) (line : ℕ) (tag : Option (List ℕ)) (es : List Enumerated) → PartAgain bytes (enumeration line tag es)
unfolding part_from
enumeration_again bytes line tag es inner n names before own rest s w i d f =
    let two = s.behind in
    let brace = two.second in
    record {
      start = starts.Enumeration;
      token = s.token;
      others = s.rest ++ rest;
      starts = starts_here inner bytes names before starts.Enumeration s.token (own ++ rest) (s.rest ++ rest) (from_token own rest s.rest s.token s.whole) s.is.kind;
      reads = enumeration_read bytes names n s.token.line line tag es (s.rest ++ rest) two.left (brace.rest ++ rest) rest brace.token
          (apart s.rest two.left two.right rest two.whole ∙ ap (λ (xs : List Token). two.left ++ xs) (from_token two.right rest brace.rest brace.token brace.whole))
          two.first brace.is s.is.line (enumerators_read bytes names es n brace.rest rest brace.behind w d);
    }

-- the first token of specifiers
type_part_opens : (bytes : List ℕ) (p : TypePart) (own : List Token) → SpellsPart bytes (type_part p) own → Opens IsWord own
type_part_opens bytes (qualified line q) own s = record { token = s.token; others = []; whole = s.whole; is = word_of_keyword s.token.kind (qualifier_keyword q) s.is.kind }
type_part_opens bytes (word line w) own s = record { token = s.token; others = []; whole = s.whole; is = word_of_keyword s.token.kind (word_keyword w) s.is.kind }
type_part_opens bytes (tagged line kind text) own s = record { token = s.token; others = s.rest; whole = s.whole; is = word_of_keyword s.token.kind (tag_keyword kind) s.is.kind }
type_part_opens bytes (typedef_name line text) own s = record { token = s.token; others = []; whole = s.whole; is = word_of_name s.token.kind s.is.kind }

pub part_opens : (bytes : List ℕ) (p : Part) (own : List Token) → SpellsPart bytes p own → Opens IsWord own
part_opens bytes (type_part p) own s = type_part_opens bytes p own s
part_opens bytes (storage line c) own s = record { token = s.token; others = []; whole = s.whole; is = word_of_keyword s.token.kind (storage_keyword c) s.is.kind }
part_opens bytes (function line f) own s = record { token = s.token; others = []; whole = s.whole; is = word_of_keyword s.token.kind (function_keyword f) s.is.kind }
part_opens bytes (structure line kind tag ms) own s = record { token = s.token; others = s.rest; whole = s.whole; is = word_of_keyword s.token.kind (record_keyword kind) s.is.kind }
part_opens bytes (enumeration line tag es) own s = record { token = s.token; others = s.rest; whole = s.whole; is = word_of_keyword s.token.kind keywords.Enum s.is.kind }

pub parts_open : (bytes : List ℕ) (ps : Parts) (own : List Token) → ps ≢ no_part → SpellsParts bytes ps own → Opens IsWord own
parts_open bytes no_part own e s = absurd (e refl)
parts_open bytes (part p ps) own e s = opens_longer IsWord own s.left s.right s.whole (part_opens bytes p s.left s.first)

parts_no_brace : (bytes : List ℕ) (ps : Parts) (own rest : List Token) → SpellsParts bytes ps own → token_at (is_mark marks.LeftBrace) rest ≡ None → token_at (is_mark marks.LeftBrace) (own ++ rest) ≡ None
parts_no_brace bytes no_part own rest s e = ap (λ (xs : List Token). token_at (is_mark marks.LeftBrace) (xs ++ rest)) s ∙ e
parts_no_brace bytes (part p ps) own rest s e =
    opens_not marks.LeftBrace own rest (opens_word marks.LeftBrace own (opens_longer IsWord own s.left s.right s.whole (part_opens bytes p s.left s.first)))

no_parts_again : (bytes : List ℕ) → PartsAgain bytes no_part
no_parts_again bytes inner n zero names before own rest s w i d q h = absurd (omega arith)
no_parts_again bytes inner n (suc m) names before own rest s w i d q h =
    let body = body_at bytes n in
    run_stops (parts_list inner bytes n body) m (names, before) (own ++ rest) (no_part, rest)
    (ap (λ (xs : List Token). parts_stop (xs ++ rest) (start_at inner bytes (names, before) (xs ++ rest))) s
    ∙ ap (parts_stop rest) (ap (λ (b : Bool). start_at inner bytes (names, b) rest) (sym (or_nothing before)) ∙ q.no_start))

some_parts_again : (bytes : List ℕ) (p : Part) (ps : Parts) → PartAgain bytes p → PartsAgain bytes ps → PartsAgain bytes (part p ps)
some_parts_again bytes p ps first others inner n zero names before own rest s w i d q h = absurd (omega arith)
some_parts_again bytes p ps first others inner n (suc m) names before own rest s w i d q h =
    let body = body_at bytes n in
    let all = own ++ rest in
    let r = first inner n names before s.left (s.right ++ rest) s.first w.0 (λ e. (i e).0) (omega arith) (parts_no_brace bytes ps s.right rest s.second q.no_brace) in
    let e = apart own s.left s.right rest s.whole in
    let starts = ap (start_at inner bytes (names, before)) e ∙ r.starts in
    let one = opens_length IsWord s.left (part_opens bytes p s.left s.first) in
    let both = ap (λ (xs : List Token). length xs) s.whole ∙ length-append s.left s.right in
    let quiet : Quiet inner bytes (with_parts (with_part names p) ps) ((before || specifies p) || specify ps) rest =
    record { no_start = ap (λ (b : Bool). start_at inner bytes (with_parts (with_part names p) ps, b) rest) (or_three before (specifies p) (specify ps)) ∙ q.no_start; no_brace = q.no_brace } in
    run_goes (parts_list inner bytes n body) m (names, before) all (s.right ++ rest) rest p ps
    (ap (parts_stop all) starts)
    (bind_gives (start_at inner bytes (names, before) all) (λ x. part_from bytes n body names x.0 x.1 x.2) (r.start, r.token, r.others) (Some (p, s.right ++ rest)) starts r.reads)
    (others inner n m (with_part names p) (before || specifies p) s.right rest s.second w.1 (λ e. (i e).1) (omega arith) quiet (omega (arith, one, both)))

pub are_there : (ps : Parts) → ps ≢ no_part → are_some ps ≡ true
are_there no_part e = absurd (e refl)
are_there (part p ps) e = refl

pub parts_read : (bytes : List ℕ) (ps : Parts) → PartsAgain bytes ps → (inner : Bool) (n : ℕ) (names : Scope) (own rest : List Token) → SpellsParts bytes ps own → AreWellParts names false ps → (inner ≡ true → are_of_member ps) → parts_depth ps ≤ n → Quiet inner bytes (with_parts names ps) (specify ps) rest → parts_at inner bytes n (body_at bytes n) names (own ++ rest) ≡ Some (ps, rest)
unfolding parts_at
parts_read bytes ps again inner n names own rest s w i d q =
    let long = length-append own rest in
    again inner n (length (own ++ rest) + 1) names false own rest s w i d q (omega (arith, long))

member_read : (bytes : List ℕ) (ps : Parts) (ds : Fulls) (n : ℕ) (names : Scope) (left right rest : List Token) → PartsAgain bytes ps → FullsAgain bytes ds → SpellsParts bytes ps left → SpellsMembers bytes ds right → ps ≢ no_part → are_of_member ps → AreWellParts names false ps → FrontIsNoTypeOfMembers (with_parts names ps) (specify ps) ds → AreWellMembers (with_parts names ps) ds → parts_depth ps ≤ n → fulls_depth ds ≤ n → member_at bytes n (body_at bytes n) (full_at bytes n) names (left ++ (right ++ rest)) ≡ Some ((ps, ds), rest)
unfolding member_at
member_read bytes ps ds n names left right rest again fulls s r some inner w f v d e =
    let q = members_quiet bytes (with_parts names ps) (specify ps) ds right rest r v f in
    bind_gives (parts_at true bytes n (body_at bytes n) names (left ++ (right ++ rest))) (λ p. cond (are_some p.0) (fulls_at (full_at bytes n false) (with_parts names p.0) p.1) None >>= λ ds. Some ((p.0, ds.0), ds.1)) (ps, right ++ rest) (Some ((ps, ds), rest))
    (parts_read bytes ps again true n names left (right ++ rest) s w (λ _. inner) d q)
    (bind_gives (cond (are_some ps) (fulls_at (full_at bytes n false) (with_parts names ps) (right ++ rest)) None) (λ ds. Some ((ps, ds.0), ds.1)) (ds, rest) (Some ((ps, ds), rest))
    (ap (λ (b : Bool). cond b (fulls_at (full_at bytes n false) (with_parts names ps) (right ++ rest)) None) (are_there ps some) ∙ fulls_read bytes (with_parts names ps) ds n right rest fulls r v e)
    refl)

no_members_again : (bytes : List ℕ) → MembersAgain bytes no_member
no_members_again bytes n zero names own rest s w d h = absurd (omega arith)
no_members_again bytes n (suc m) names own rest s w d h =
    run_stops (members_list bytes n (body_at bytes n) (full_at bytes n)) m names (own ++ rest) (no_member, rest) (ended_gives marks.RightBrace no_member own rest s)

some_members_again : (bytes : List ℕ) (ps : Parts) (ds : Fulls) (ms : Members) → PartsAgain bytes ps → FullsAgain bytes ds → MembersAgain bytes ms → MembersAgain bytes (members ps ds ms)
some_members_again bytes ps ds ms first fulls others n zero names own rest s w d h = absurd (omega arith)
some_members_again bytes ps ds ms first fulls others n (suc m) names own rest s w d h =
    let two = s.second in
    let e = apart own s.left s.right rest s.whole ∙ ap (λ (xs : List Token). s.left ++ xs) (apart s.right two.left two.right rest two.whole) in
    let o = opens_longer IsWord own s.left s.right s.whole (parts_open bytes ps s.left w.0 s.first) in
    let one = opens_length IsWord s.left (parts_open bytes ps s.left w.0 s.first) in
    let both = ap (λ (xs : List Token). length xs) s.whole ∙ length-append s.left s.right in
    let back = ap (λ (xs : List Token). length xs) two.whole ∙ length-append two.left two.right in
    run_goes (members_list bytes n (body_at bytes n) (full_at bytes n)) m names (own ++ rest) (two.right ++ rest) rest (ps, ds) ms
    (ended_none marks.RightBrace no_member (own ++ rest) (opens_not marks.RightBrace own rest (opens_word marks.RightBrace own o)))
    (ap (member_at bytes n (body_at bytes n) (full_at bytes n) names) e
    ∙ member_read bytes ps ds n names s.left two.left (two.right ++ rest) first fulls s.first two.first w.0 w.1 w.2 w.3 w.4 (omega arith) (omega arith))
    (others n m (with_parts names ps) two.right rest two.second w.5 (omega arith) (omega (arith, one, both, back)))

-- suffixes
abbrev pub SuffixesAgain : List ℕ → FullSuffixes → Type 0
SuffixesAgain bytes ss = (n m : ℕ) (names : Scope) (own rest : List Token) → SpellsFullSuffixes bytes ss own → AreWellFullSuffixes names ss → full_suffixes_depth ss ≤ n → Opens Follows rest → length own < m → run_at (suffixes_list bytes n (body_at bytes n) (full_at bytes n)) m names (own ++ rest) ≡ Some (ss, rest)

abbrev pub ParametersAgain : List ℕ → Parameters → Type 0
ParametersAgain bytes ps = (variadic : Bool) (n m : ℕ) (names : Scope) (first : Bool) (own rest : List Token) → SpellsParametersBy first bytes ps variadic own → AreWellParameters names ps → parameters_depth ps ≤ n → length own < m → run_at (parameters_list bytes n (body_at bytes n) (full_at bytes n)) m (names, first) (own ++ rest) ≡ Some ((ps, variadic), rest)

opening_none : (t : Token) (ts : List Token) → Follows t.kind → opening_at (t ∷ ts) ≡ None
unfolding opening_at
opening_none t ts f =
    ap (λ (b : Bool). cond b (Some openings.Bracket) (cond (is_mark marks.LeftParenthesis t.kind) (Some openings.Parenthesis) None) >>= λ x. Some (x, t, ts)) f.0
    ∙ ap (λ (b : Bool). cond b (Some openings.Parenthesis) None >>= λ x. Some (x, t, ts)) f.1

opening_gives : (t : Token) (ts all : List Token) (k : Kind) (o : Opening) → all ≡ t ∷ ts → t.kind ≡ k → opening_of k ≡ Some o → opening_at all ≡ Some (o, t, ts)
unfolding opening_at
opening_gives t ts all k o e is f = ap opening_at e ∙ ap (λ (k : Kind). opening_of k >>= λ x. Some (x, t, ts)) is ∙ ap (λ (p : Option Opening). p >>= λ x. Some (x, t, ts)) f

no_suffix_again : (bytes : List ℕ) → SuffixesAgain bytes full_end
no_suffix_again bytes n zero names own rest s w d o h = absurd (omega arith)
no_suffix_again bytes n (suc m) names own rest s w d o h =
    run_stops (suffixes_list bytes n (body_at bytes n) (full_at bytes n)) m names (own ++ rest) (full_end, rest)
    (ap (λ (xs : List Token). suffixes_stop (xs ++ rest) (opening_at (xs ++ rest))) s
    ∙ ap (suffixes_stop rest) (ap opening_at o.whole ∙ opening_none o.token o.others o.is))

-- a suffix in front of others
suffix_goes : (bytes : List ℕ) (n m : ℕ) (names : Scope) (x : OneSuffix) (ss : FullSuffixes) (ts others mid rest : List Token) (o : Opening) (t : Token) → opening_at ts ≡ Some (o, t, others) → one_from bytes n (body_at bytes n) (full_at bytes n) names o t others ≡ Some (x, mid) → run_at (suffixes_list bytes n (body_at bytes n) (full_at bytes n)) m names mid ≡ Some (ss, rest) → run_at (suffixes_list bytes n (body_at bytes n) (full_at bytes n)) (suc m) names ts ≡ Some (placed_suffix x ss, rest)
suffix_goes bytes n m names x ss ts others mid rest o t e f g =
    run_goes (suffixes_list bytes n (body_at bytes n) (full_at bytes n)) m names ts mid rest x ss (ap (suffixes_stop ts) e)
    (bind_gives (opening_at ts) (λ x. one_from bytes n (body_at bytes n) (full_at bytes n) names x.0 x.1 x.2) (o, t, others) (Some (x, mid)) e f) g

bounded_read : (bytes : List ℕ) (names : Scope) (n line : ℕ) (e : Tree) (t close : Token) (ts left mid : List Token) → t.line ≡ line → ts ≡ left ++ (close ∷ mid) → close.kind ≡ kinds.Mark marks.RightBracket → Spells bytes e left → IsWell names e → 3 ≤ level_of e → depth e ≤ n → one_from bytes n (body_at bytes n) (full_at bytes n) names openings.Bracket t ts ≡ Some (one_bounded line e, mid)
unfolding one_from bound_at
bounded_read bytes names n line e t close ts left mid at where_ is s w l d =
    let f = first_token bytes names e left s w in
    let no_close = ap (token_at (is_mark marks.RightBracket)) (where_ ∙ ap (λ (xs : List Token). xs ++ (close ∷ mid)) f.whole) ∙ token_fails (is_mark marks.RightBracket) f.token (f.others ++ (close ∷ mid)) (first_no_mark marks.RightBracket bytes names left refl f) in
    ap (λ (o : Read Token). bound_by bytes names n t.line ts o) no_close
    ∙ ap (λ (o : Read Tree). o >>= λ e. token_at (is_mark marks.RightBracket) e.1 >>= λ x. Some (one_bounded t.line e.0, x.1))
    (ap (reader bytes names n 3) where_ ∙ expression_read bytes names n 3 e left mid close (stops_by_none 3 close (ap suffix_of is)) s w d l)
    ∙ ap (λ (o : Read Token). o >>= λ x. Some (one_bounded t.line e, x.1)) (mark_gives marks.RightBracket close mid is)
    ∙ ap (λ (l : ℕ). Some (one_bounded l e, mid)) at

bounded_again : (bytes : List ℕ) (line : ℕ) (e : Tree) (ss : FullSuffixes) → SuffixesAgain bytes ss → SuffixesAgain bytes (full_bounded line e ss)
bounded_again bytes line e ss others n zero names own rest s w d o h = absurd (omega arith)
bounded_again bytes line e ss others n (suc m) names own rest s w d o h =
    let two = s.behind in
    let close = two.second in
    let one = ap (λ (xs : List Token). length xs) s.whole in
    let both = ap (λ (xs : List Token). length xs) two.whole ∙ length-append two.left two.right in
    let last = ap (λ (xs : List Token). length xs) close.whole in
    suffix_goes bytes n m names (one_bounded line e) ss (own ++ rest) (s.rest ++ rest) (close.rest ++ rest) rest openings.Bracket s.token
    (opening_gives s.token (s.rest ++ rest) (own ++ rest) (kinds.Mark marks.LeftBracket) openings.Bracket (from_token own rest s.rest s.token s.whole) s.is.kind refl)
    (bounded_read bytes names n line e s.token close.token (s.rest ++ rest) two.left (close.rest ++ rest) s.is.line
    (apart s.rest two.left two.right rest two.whole ∙ ap (λ (xs : List Token). two.left ++ xs) (from_token two.right rest close.rest close.token close.whole))
    close.is two.first w.1 w.0 (omega arith))
    (others n m names close.rest rest close.behind w.2 (omega arith) o (omega (arith, one, both, last)))

open_read : (bytes : List ℕ) (names : Scope) (n line : ℕ) (t close : Token) (ts mid : List Token) → t.line ≡ line → ts ≡ close ∷ mid → close.kind ≡ kinds.Mark marks.RightBracket → one_from bytes n (body_at bytes n) (full_at bytes n) names openings.Bracket t ts ≡ Some (one_open line, mid)
unfolding one_from bound_at
open_read bytes names n line t close ts mid at e is =
    ap (λ (o : Read Token). bound_by bytes names n t.line ts o) (ap (token_at (is_mark marks.RightBracket)) e ∙ mark_gives marks.RightBracket close mid is)
    ∙ ap (λ (l : ℕ). Some (one_open l, mid)) at

open_again : (bytes : List ℕ) (line : ℕ) (ss : FullSuffixes) → SuffixesAgain bytes ss → SuffixesAgain bytes (full_open line ss)
open_again bytes line ss others n zero names own rest s w d o h = absurd (omega arith)
open_again bytes line ss others n (suc m) names own rest s w d o h =
    let close = s.behind in
    let one = ap (λ (xs : List Token). length xs) s.whole in
    let last = ap (λ (xs : List Token). length xs) close.whole in
    suffix_goes bytes n m names (one_open line) ss (own ++ rest) (s.rest ++ rest) (close.rest ++ rest) rest openings.Bracket s.token
    (opening_gives s.token (s.rest ++ rest) (own ++ rest) (kinds.Mark marks.LeftBracket) openings.Bracket (from_token own rest s.rest s.token s.whole) s.is.kind refl)
    (open_read bytes names n line s.token close.token (s.rest ++ rest) (close.rest ++ rest) s.is.line (from_token s.rest rest close.rest close.token close.whole) close.is)
    (others n m names close.rest rest close.behind w d o (omega (arith, one, last)))

empty_read : (bytes : List ℕ) (names : Scope) (n line : ℕ) (t close : Token) (ts mid : List Token) → t.line ≡ line → ts ≡ close ∷ mid → close.kind ≡ kinds.Mark marks.RightParenthesis → one_from bytes n (body_at bytes n) (full_at bytes n) names openings.Parenthesis t ts ≡ Some (one_empty line, mid)
unfolding one_from taken_at
empty_read bytes names n line t close ts mid at e is =
    ap (λ (o : Read Token). taken_by bytes n (body_at bytes n) (full_at bytes n) names t.line ts o) (ap (token_at (is_mark marks.RightParenthesis)) e ∙ mark_gives marks.RightParenthesis close mid is)
    ∙ ap (λ (l : ℕ). Some (one_empty l, mid)) at

empty_again : (bytes : List ℕ) (line : ℕ) (ss : FullSuffixes) → SuffixesAgain bytes ss → SuffixesAgain bytes (full_empty line ss)
empty_again bytes line ss others n zero names own rest s w d o h = absurd (omega arith)
empty_again bytes line ss others n (suc m) names own rest s w d o h =
    let close = s.behind in
    let one = ap (λ (xs : List Token). length xs) s.whole in
    let last = ap (λ (xs : List Token). length xs) close.whole in
    suffix_goes bytes n m names (one_empty line) ss (own ++ rest) (s.rest ++ rest) (close.rest ++ rest) rest openings.Parenthesis s.token
    (opening_gives s.token (s.rest ++ rest) (own ++ rest) (kinds.Mark marks.LeftParenthesis) openings.Parenthesis (from_token own rest s.rest s.token s.whole) s.is.kind refl)
    (empty_read bytes names n line s.token close.token (s.rest ++ rest) (close.rest ++ rest) s.is.line (from_token s.rest rest close.rest close.token close.whole) close.is)
    (others n m names close.rest rest close.behind w d o (omega (arith, one, last)))

given_read : (bytes : List ℕ) (names : Scope) (n line : ℕ) (t : Token) (ts mid : List Token) (x : ℕ → OneSuffix) → t.line ≡ line → token_at (is_mark marks.RightParenthesis) ts ≡ None → given_at bytes n (body_at bytes n) (full_at bytes n) names t.line ts ≡ Some (x t.line, mid) → one_from bytes n (body_at bytes n) (full_at bytes n) names openings.Parenthesis t ts ≡ Some (x line, mid)
unfolding one_from taken_at
given_read bytes names n line t ts mid x at none e =
    ap (λ (o : Read Token). taken_by bytes n (body_at bytes n) (full_at bytes n) names t.line ts o) none ∙ e ∙ ap (λ (l : ℕ). Some (x l, mid)) at

void_read : (bytes : List ℕ) (names : Scope) (n line : ℕ) (ts mid : List Token) → void_at ts ≡ Some mid → given_at bytes n (body_at bytes n) (full_at bytes n) names line ts ≡ Some (one_void line, mid)
unfolding given_at
void_read bytes names n line ts mid e = ap (λ (o : Option (List Token)). given_by bytes n (body_at bytes n) (full_at bytes n) names line ts o) e

takes_read : (bytes : List ℕ) (names : Scope) (n line : ℕ) (ps : Parameters) (variadic : Bool) (own rest : List Token) → ParametersAgain bytes ps → void_at (own ++ rest) ≡ None → SpellsParameters bytes ps variadic own → AreWellParameters names ps → parameters_depth ps ≤ n → given_at bytes n (body_at bytes n) (full_at bytes n) names line (own ++ rest) ≡ Some (one_takes line ps variadic, rest)
unfolding given_at parameters_at
takes_read bytes names n line ps variadic own rest again none s w d =
    let long = length-append own rest in
    ap (λ (o : Option (List Token)). given_by bytes n (body_at bytes n) (full_at bytes n) names line (own ++ rest) o) none
    ∙ ap (λ (o : Read (Parameters × Bool)). o >>= λ ps. Some (one_takes line ps.0.0 ps.0.1, ps.1)) (again variadic n (length (own ++ rest) + 1) names true own rest s w d (omega (arith, long)))

void_again : (bytes : List ℕ) (line : ℕ) (ss : FullSuffixes) → SuffixesAgain bytes ss → SuffixesAgain bytes (full_void line ss)
void_again bytes line ss others n zero names own rest s w d o h = absurd (omega arith)
void_again bytes line ss others n (suc m) names own rest s w d o h =
    let void = s.behind in
    let close = void.behind in
    let one = ap (λ (xs : List Token). length xs) s.whole in
    let two = ap (λ (xs : List Token). length xs) void.whole in
    let last = ap (λ (xs : List Token). length xs) close.whole in
    let where_ = from_token s.rest rest void.rest void.token void.whole ∙ ap (λ (xs : List Token). void.token ∷ xs) (from_token void.rest rest close.rest close.token close.whole) in
    suffix_goes bytes n m names (one_void line) ss (own ++ rest) (s.rest ++ rest) (close.rest ++ rest) rest openings.Parenthesis s.token
    (opening_gives s.token (s.rest ++ rest) (own ++ rest) (kinds.Mark marks.LeftParenthesis) openings.Parenthesis (from_token own rest s.rest s.token s.whole) s.is.kind refl)
    (given_read bytes names n line s.token (s.rest ++ rest) (close.rest ++ rest) one_void s.is.line
    (ap (token_at (is_mark marks.RightParenthesis)) where_ ∙ token_fails (is_mark marks.RightParenthesis) void.token (close.token ∷ (close.rest ++ rest)) (word_of_keyword void.token.kind keywords.Void void.is marks.RightParenthesis))
    (void_read bytes names n s.token.line (s.rest ++ rest) (close.rest ++ rest) (void_gives (s.rest ++ rest) (close.rest ++ rest) void.token close.token where_ void.is close.is)))
    (others n m names close.rest rest close.behind w d o (omega (arith, one, two, last)))

-- parameters
others_close : (bytes : List ℕ) (ps : Parameters) (variadic : Bool) (own rest : List Token) → SpellsOtherParameters bytes ps variadic own → Opens IsCloser (own ++ rest)
others_close bytes no_parameter false own rest s = record { token = s.token; others = rest; whole = from_token own rest [] s.token s.whole; is = inr s.is }
others_close bytes no_parameter true own rest s = record { token = s.token; others = s.rest ++ rest; whole = from_token own rest s.rest s.token s.whole; is = inl s.is }
others_close bytes (parameter parts d ps) variadic own rest s = record { token = s.token; others = s.rest ++ rest; whole = from_token own rest s.rest s.token s.whole; is = inl s.is }

parameter_read : (bytes : List ℕ) (ps : Parts) (d : Full) (n : ℕ) (names : Scope) (left right rest : List Token) → PartsAgain bytes ps → FullAgain bytes d → SpellsParts bytes ps left → SpellsFull bytes d right → ps ≢ no_part → AreWellParts names false ps → FrontIsNoType (with_parts names ps) (specify ps) d → IsWellFull (with_parts names ps) true d → parts_depth ps ≤ n → full_depth d ≤ n → Opens IsCloser rest → parameter_at bytes n (body_at bytes n) (full_at bytes n) names (left ++ (right ++ rest)) ≡ Some ((ps, d), rest)
unfolding parameter_at
parameter_read bytes ps d n names left right rest again own_again s r some w f v deep below o =
    let q = parameter_quiet bytes (with_parts names ps) (specify ps) d (full_is_empty d) right rest refl o r f in
    bind_gives (parts_at false bytes n (body_at bytes n) names (left ++ (right ++ rest))) (λ p. cond (are_some p.0) (full_at bytes n true (with_parts names p.0) p.1) None >>= λ d. Some ((p.0, d.0), d.1)) (ps, right ++ rest) (Some ((ps, d), rest))
    (parts_read bytes ps again false n names left (right ++ rest) s w (λ e. absurd cc) deep q)
    (bind_gives (cond (are_some ps) (full_at bytes n true (with_parts names ps) (right ++ rest)) None) (λ d. Some ((ps, d.0), d.1)) (d, rest) (Some ((ps, d), rest))
    (ap (λ (b : Bool). cond b (full_at bytes n true (with_parts names ps) (right ++ rest)) None) (are_there ps some) ∙ own_again n true (with_parts names ps) right rest r v (λ e. absurd cc) below (closers_follow rest o))
    refl)

parameters_were : (first : Bool) (bytes : List ℕ) (parts : Parts) (d : Full) (ps : Parameters) (variadic : Bool) (own : List Token) → SpellsParametersBy first bytes (parameter parts d ps) variadic own → Separated first (Then (SpellsParts bytes parts) (Then (SpellsFull bytes d) (SpellsOtherParameters bytes ps variadic))) own
parameters_were true bytes parts d ps variadic own s = s
parameters_were false bytes parts d ps variadic own s = s

dots_gives : (ts first second rest : List Token) (comma dots close : Token) → ts ≡ comma ∷ first → comma.kind ≡ kinds.Mark marks.Comma → first ≡ dots ∷ second → dots.kind ≡ kinds.Mark marks.Ellipsis → second ≡ close ∷ rest → close.kind ≡ kinds.Mark marks.RightParenthesis → dots_at ts ≡ Some rest
unfolding dots_at
dots_gives ts first second rest comma dots close e is f so g ends =
    ap (λ (o : Read Token). o >>= λ x. token_at (is_mark marks.Ellipsis) x.1 >>= λ y. token_at (is_mark marks.RightParenthesis) y.1 >>= λ z. Some z.1) (ap (token_at (is_mark marks.Comma)) e ∙ mark_gives marks.Comma comma first is)
    ∙ ap (λ (o : Read Token). o >>= λ y. token_at (is_mark marks.RightParenthesis) y.1 >>= λ z. Some z.1) (ap (token_at (is_mark marks.Ellipsis)) f ∙ mark_gives marks.Ellipsis dots second so)
    ∙ ap (λ (o : Read Token). o >>= λ z. Some z.1) (ap (token_at (is_mark marks.RightParenthesis)) g ∙ mark_gives marks.RightParenthesis close rest ends)

last_gives : (bytes : List ℕ) (variadic : Bool) (own rest : List Token) → SpellsOtherParameters bytes no_parameter variadic own → last_at false (own ++ rest) ≡ Some (variadic, rest)
unfolding last_at
last_gives bytes false own rest s =
    ap (λ (o : Read Token). last_by (own ++ rest) o) (ap (token_at (is_mark marks.RightParenthesis)) (from_token own rest [] s.token s.whole) ∙ mark_gives marks.RightParenthesis s.token rest s.is)
last_gives bytes true own rest s =
    let dots = s.behind in
    let close = dots.behind in
    let e = from_token own rest s.rest s.token s.whole in
    ap (λ (o : Read Token). last_by (own ++ rest) o)
    (ap (token_at (is_mark marks.RightParenthesis)) e ∙ token_fails (is_mark marks.RightParenthesis) s.token (s.rest ++ rest) (passes_at (is_mark marks.RightParenthesis) s.token.kind (kinds.Mark marks.Comma) false s.is refl))
    ∙ ap (λ (o : Option (List Token)). o >>= λ rest. Some (true, rest))
    (dots_gives (own ++ rest) (s.rest ++ rest) (dots.rest ++ rest) rest s.token dots.token close.token e s.is (from_token s.rest rest dots.rest dots.token dots.whole) dots.is (from_token dots.rest rest [] close.token close.whole) close.is)

dots_none : (ts others back : List Token) (t : Token) → ts ≡ t ∷ others → t.kind ≡ kinds.Mark marks.Comma → token_at (is_mark marks.Ellipsis) others ≡ None → dots_at ts ≡ None
unfolding dots_at
dots_none ts others back t e is f =
    ap (λ (o : Read Token). o >>= λ x. token_at (is_mark marks.Ellipsis) x.1 >>= λ y. token_at (is_mark marks.RightParenthesis) y.1 >>= λ z. Some z.1) (ap (token_at (is_mark marks.Comma)) e ∙ mark_gives marks.Comma t others is)
    ∙ ap (λ (o : Read Token). o >>= λ y. token_at (is_mark marks.RightParenthesis) y.1 >>= λ z. Some z.1) f

last_fails : (first : Bool) (A : List Token → Type 0) (own rest : List Token) → ((xs : List Token) → A xs → Opens IsWord xs) → Separated first A own → last_at first (own ++ rest) ≡ None
unfolding last_at
last_fails true A own rest f s = refl
last_fails false A own rest f s =
    let e = from_token own rest s.rest s.token s.whole in
    ap (λ (o : Read Token). last_by (own ++ rest) o)
    (ap (token_at (is_mark marks.RightParenthesis)) e ∙ token_fails (is_mark marks.RightParenthesis) s.token (s.rest ++ rest) (passes_at (is_mark marks.RightParenthesis) s.token.kind (kinds.Mark marks.Comma) false s.is refl))
    ∙ ap (λ (o : Option (List Token)). o >>= λ rest. Some (true, rest)) (dots_none (own ++ rest) (s.rest ++ rest) [] s.token e s.is (opens_not marks.Ellipsis s.rest rest (opens_word marks.Ellipsis s.rest (f s.rest s.behind))))

no_parameters_again : (bytes : List ℕ) → ParametersAgain bytes no_parameter
no_parameters_again bytes variadic n zero names first own rest s w d h = absurd (omega arith)
no_parameters_again bytes variadic n (suc m) names true own rest s w d h = absurd s
no_parameters_again bytes variadic n (suc m) names false own rest s w d h =
    run_stops (parameters_list bytes n (body_at bytes n) (full_at bytes n)) m (names, false) (own ++ rest) ((no_parameter, variadic), rest)
    (bind_gives (last_at false (own ++ rest)) (λ x. Some ((no_parameter, x.0), x.1)) (variadic, rest) (Some ((no_parameter, variadic), rest)) (last_gives bytes variadic own rest s) refl)

some_parameters_again : (bytes : List ℕ) (parts : Parts) (d : Full) (ps : Parameters) → PartsAgain bytes parts → FullAgain bytes d → ParametersAgain bytes ps → ParametersAgain bytes (parameter parts d ps)
some_parameters_again bytes parts x ps first_again own_again others variadic n zero names first own rest s w d h = absurd (omega arith)
some_parameters_again bytes parts x ps first_again own_again others variadic n (suc m) names first own rest s w d h =
    let list = parameters_list bytes n (body_at bytes n) (full_at bytes n) in
    let A = Then (SpellsParts bytes parts) (Then (SpellsFull bytes x) (SpellsOtherParameters bytes ps variadic)) in
    let sep = parameters_were first bytes parts x ps variadic own s in
    let c = comma_gives first A own rest sep in
    let two = c.spelled in
    let three = two.second in
    let one = opens_length IsWord two.left (parts_open bytes parts two.left w.0 two.first) in
    let both = ap (λ (xs : List Token). length xs) two.whole ∙ length-append two.left two.right in
    let back = ap (λ (xs : List Token). length xs) three.whole ∙ length-append three.left three.right in
    let short = c.short in
    let e = apart c.inner two.left two.right rest two.whole ∙ ap (λ (xs : List Token). two.left ++ xs) (apart two.right three.left three.right rest three.whole) in
    run_goes list m (names, first) (own ++ rest) (three.right ++ rest) rest (parts, x) (ps, variadic)
    (bind_none (last_at first (own ++ rest)) (λ x. Some ((no_parameter, x.0), x.1)) (last_fails first A own rest (λ xs a. opens_longer IsWord xs a.left a.right a.whole (parts_open bytes parts a.left w.0 a.first)) sep))
    (bind_gives (comma_at first (own ++ rest)) (λ xs. parameter_at bytes n (body_at bytes n) (full_at bytes n) names xs) (c.inner ++ rest) (Some ((parts, x), three.right ++ rest)) c.read
    (ap (parameter_at bytes n (body_at bytes n) (full_at bytes n) names) e
    ∙ parameter_read bytes parts x n names two.left three.left (three.right ++ rest) first_again own_again two.first three.first w.0 w.1 w.2 w.3 (omega arith) (omega arith) (others_close bytes ps variadic three.right rest three.second)))
    (others variadic n m (with_named (with_parts names parts) (have_typedef parts) x) false three.right rest three.second w.4 (omega arith) (omega (arith, one, both, back, short)))

-- where parameters aren't `void` alone, `void` and a parenthesis don't stand at their front
qualifier_no_void : (q : Qualifier) → is_keyword keywords.Void (kinds.Keyword (qualifier_keyword q)) ≡ false
qualifier_no_void qualifiers.Const = refl
qualifier_no_void qualifiers.Volatile = refl
qualifier_no_void qualifiers.Restrict = refl

storage_no_void : (c : StorageClass) → is_keyword keywords.Void (kinds.Keyword (storage_keyword c)) ≡ false
storage_no_void storage_classes.Typedef = refl
storage_no_void storage_classes.Extern = refl
storage_no_void storage_classes.Static = refl
storage_no_void storage_classes.Auto = refl
storage_no_void storage_classes.Register = refl

function_no_void : (f : FunctionSpecifier) → is_keyword keywords.Void (kinds.Keyword (function_keyword f)) ≡ false
function_no_void function_specifiers.Inline = refl
function_no_void function_specifiers.Noreturn = refl

record_no_void : (r : RecordKind) → is_keyword keywords.Void (kinds.Keyword (record_keyword r)) ≡ false
record_no_void record_kinds.Struct = refl
record_no_void record_kinds.Union = refl

tag_no_void : (k : TagKind) → is_keyword keywords.Void (kinds.Keyword (tag_keyword k)) ≡ false
tag_no_void tag_kinds.Struct = refl
tag_no_void tag_kinds.Union = refl
tag_no_void tag_kinds.Enum = refl

-- either no `void` stands there, or the specifier is the word
abbrev VoidOrNot : Part → List Token → List Token → Type 0
VoidOrNot p own rest = (token_at (is_keyword keywords.Void) (own ++ rest) ≡ None) ⊎ ((is_void_part p ≡ true) × ((t : Token) × (own ≡ t ∷ []) × (t.kind ≡ kinds.Keyword keywords.Void)))

no_void_here : (own rest others : List Token) (t : Token) (k : Kind) → own ≡ t ∷ others → t.kind ≡ k → is_keyword keywords.Void k ≡ false → token_at (is_keyword keywords.Void) (own ++ rest) ≡ None
no_void_here own rest others t k e is f = ap (token_at (is_keyword keywords.Void)) (from_token own rest others t e) ∙ token_fails (is_keyword keywords.Void) t (others ++ rest) (passes_at (is_keyword keywords.Void) t.kind k false is f)

word_or_not : (bytes : List ℕ) (line : ℕ) (w : TypeWord) (own rest : List Token) → SpellsPart bytes (type_part (word line w)) own → VoidOrNot (type_part (word line w)) own rest
word_or_not bytes line type_words.Void own rest s = inr (refl, (s.token, s.whole, s.is.kind))
word_or_not bytes line type_words.Char own rest s = inl (no_void_here own rest [] s.token (kinds.Keyword keywords.Char) s.whole s.is.kind refl)
word_or_not bytes line type_words.Short own rest s = inl (no_void_here own rest [] s.token (kinds.Keyword keywords.Short) s.whole s.is.kind refl)
word_or_not bytes line type_words.Int own rest s = inl (no_void_here own rest [] s.token (kinds.Keyword keywords.Int) s.whole s.is.kind refl)
word_or_not bytes line type_words.Long own rest s = inl (no_void_here own rest [] s.token (kinds.Keyword keywords.Long) s.whole s.is.kind refl)
word_or_not bytes line type_words.Signed own rest s = inl (no_void_here own rest [] s.token (kinds.Keyword keywords.Signed) s.whole s.is.kind refl)
word_or_not bytes line type_words.Unsigned own rest s = inl (no_void_here own rest [] s.token (kinds.Keyword keywords.Unsigned) s.whole s.is.kind refl)
word_or_not bytes line type_words.Bool own rest s = inl (no_void_here own rest [] s.token (kinds.Keyword keywords.Bool) s.whole s.is.kind refl)

part_or_not : (bytes : List ℕ) (p : Part) (own rest : List Token) → SpellsPart bytes p own → VoidOrNot p own rest
part_or_not bytes (type_part (qualified line q)) own rest s = inl (no_void_here own rest [] s.token (kinds.Keyword (qualifier_keyword q)) s.whole s.is.kind (qualifier_no_void q))
part_or_not bytes (type_part (word line w)) own rest s = word_or_not bytes line w own rest s
part_or_not bytes (type_part (tagged line kind text)) own rest s = inl (no_void_here own rest s.rest s.token (kinds.Keyword (tag_keyword kind)) s.whole s.is.kind (tag_no_void kind))
part_or_not bytes (type_part (typedef_name line text)) own rest s = inl (no_void_here own rest [] s.token kinds.Identifier s.whole s.is.kind refl)
part_or_not bytes (storage line c) own rest s = inl (no_void_here own rest [] s.token (kinds.Keyword (storage_keyword c)) s.whole s.is.kind (storage_no_void c))
part_or_not bytes (function line f) own rest s = inl (no_void_here own rest [] s.token (kinds.Keyword (function_keyword f)) s.whole s.is.kind (function_no_void f))
part_or_not bytes (structure line kind tag ms) own rest s = inl (no_void_here own rest s.rest s.token (kinds.Keyword (record_keyword kind)) s.whole s.is.kind (record_no_void kind))
part_or_not bytes (enumeration line tag es) own rest s = inl (no_void_here own rest s.rest s.token (kinds.Keyword keywords.Enum) s.whole s.is.kind refl)

others_no_close : (bytes : List ℕ) (parts : Parts) (d : Full) (ps : Parameters) (variadic : Bool) (own rest : List Token) → is_void_alone (parameter parts d ps) variadic ≡ false → are_void parts ≡ true → full_is_empty d ≡ true → SpellsOtherParameters bytes ps variadic own → token_at (is_mark marks.RightParenthesis) (own ++ rest) ≡ None
others_no_close bytes parts d no_parameter false own rest e f g s = let both = sym e ∙ ap (λ (b : Bool). b && full_is_empty d) f ∙ g in absurd cc
others_no_close bytes parts d no_parameter true own rest e f g s =
    ap (token_at (is_mark marks.RightParenthesis)) (from_token own rest s.rest s.token s.whole) ∙ token_fails (is_mark marks.RightParenthesis) s.token (s.rest ++ rest) (passes_at (is_mark marks.RightParenthesis) s.token.kind (kinds.Mark marks.Comma) false s.is refl)
others_no_close bytes parts d (parameter qs c ps) variadic own rest e f g s =
    ap (token_at (is_mark marks.RightParenthesis)) (from_token own rest s.rest s.token s.whole) ∙ token_fails (is_mark marks.RightParenthesis) s.token (s.rest ++ rest) (passes_at (is_mark marks.RightParenthesis) s.token.kind (kinds.Mark marks.Comma) false s.is refl)

full_no_close : (bytes : List ℕ) (parts : Parts) (d : Full) (ps : Parameters) (variadic b : Bool) (own left right rest : List Token) → full_is_empty d ≡ b → is_void_alone (parameter parts d ps) variadic ≡ false → are_void parts ≡ true → own ≡ left ++ right → SpellsFull bytes d left → SpellsOtherParameters bytes ps variadic right → token_at (is_mark marks.RightParenthesis) (own ++ rest) ≡ None
full_no_close bytes parts d ps variadic false own left right rest g e f is s r =
    opens_not marks.RightParenthesis own rest (opens_longer (IsNot marks.RightParenthesis) own left right is (full_opens_not bytes marks.RightParenthesis d left refl refl refl g s))
full_no_close bytes parts d ps variadic true own left right rest g e f is s r =
    ap (λ (xs : List Token). token_at (is_mark marks.RightParenthesis) (xs ++ rest)) (is ∙ ap (λ (xs : List Token). xs ++ right) (nothing_spelled bytes d left g s))
    ∙ others_no_close bytes parts d ps variadic right rest e f g r

after_void : (bytes : List ℕ) (p : Part) (qs : Parts) (d : Full) (ps : Parameters) (variadic : Bool) (mid left rest : List Token) → is_void_alone (parameter (part p qs) d ps) variadic ≡ false → is_void_part p ≡ true → SpellsParts bytes qs mid → Then (SpellsFull bytes d) (SpellsOtherParameters bytes ps variadic) left → token_at (is_mark marks.RightParenthesis) (mid ++ (left ++ rest)) ≡ None
after_void bytes p no_part d ps variadic mid left rest e f s r =
    ap (λ (xs : List Token). token_at (is_mark marks.RightParenthesis) (xs ++ (left ++ rest))) s
    ∙ full_no_close bytes (part p no_part) d ps variadic (full_is_empty d) left r.left r.right rest refl e f r.whole r.first r.second
after_void bytes p (part q qs) d ps variadic mid left rest e f s r =
    opens_not marks.RightParenthesis mid (left ++ rest) (opens_word marks.RightParenthesis mid (opens_longer IsWord mid s.left s.right s.whole (part_opens bytes q s.left s.first)))

void_none : (ts : List Token) → token_at (is_keyword keywords.Void) ts ≡ None → void_at ts ≡ None
unfolding void_at
void_none ts e = bind_none (token_at (is_keyword keywords.Void) ts) (λ x. token_at (is_mark marks.RightParenthesis) x.1 >>= λ y. Some y.1) e

void_open : (ts others : List Token) (t : Token) → ts ≡ t ∷ others → t.kind ≡ kinds.Keyword keywords.Void → token_at (is_mark marks.RightParenthesis) others ≡ None → void_at ts ≡ None
unfolding void_at
void_open ts others t e is f =
    ap (λ (o : Read Token). o >>= λ x. token_at (is_mark marks.RightParenthesis) x.1 >>= λ y. Some y.1) (ap (token_at (is_keyword keywords.Void)) e ∙ keyword_gives keywords.Void t others is)
    ∙ ap (λ (o : Read Token). o >>= λ y. Some y.1) f

void_by : (bytes : List ℕ) (p : Part) (ts own rest : List Token) → VoidOrNot p own rest → ts ≡ own ++ rest → (is_void_part p ≡ true → token_at (is_mark marks.RightParenthesis) rest ≡ None) → void_at ts ≡ None
void_by bytes p ts own rest (inl e) f g = void_none ts (ap (token_at (is_keyword keywords.Void)) f ∙ e)
void_by bytes p ts own rest (inr (v, (t, e, is))) f g = void_open ts rest t (f ∙ from_token own rest [] t e) is (g v)

no_void : (bytes : List ℕ) (ps : Parameters) (variadic : Bool) (own rest : List Token) (names : Scope) → is_void_alone ps variadic ≡ false → AreWellParameters names ps → SpellsParameters bytes ps variadic own → void_at (own ++ rest) ≡ None
no_void bytes no_parameter variadic own rest names e w s = absurd s
no_void bytes (parameter no_part d ps) variadic own rest names e w s = absurd (w.0 refl)
no_void bytes (parameter (part p qs) d ps) variadic own rest names e w s =
    let two = s.first in
    let where_ = apart own s.left s.right rest s.whole ∙ apart s.left two.left two.right (s.right ++ rest) two.whole in
    void_by bytes p (own ++ rest) two.left (two.right ++ (s.right ++ rest)) (part_or_not bytes p two.left (two.right ++ (s.right ++ rest)) two.first) where_
    (λ f. after_void bytes p qs d ps variadic two.right s.right rest e f two.second s.second)

parameters_open : (bytes : List ℕ) (ps : Parameters) (variadic : Bool) (own : List Token) (names : Scope) → AreWellParameters names ps → SpellsParameters bytes ps variadic own → Opens IsWord own
parameters_open bytes no_parameter variadic own names w s = absurd s
parameters_open bytes (parameter parts d ps) variadic own names w s = opens_longer IsWord own s.left s.right s.whole (parts_open bytes parts s.left w.0 s.first)

takes_again : (bytes : List ℕ) (line : ℕ) (ps : Parameters) (variadic : Bool) (ss : FullSuffixes) → ParametersAgain bytes ps → SuffixesAgain bytes ss → SuffixesAgain bytes (full_parameters line ps variadic ss)
takes_again bytes line ps variadic ss inner others n zero names own rest s w d o h = absurd (omega arith)
takes_again bytes line ps variadic ss inner others n (suc m) names own rest s w d o h =
    let two = s.behind in
    let one = ap (λ (xs : List Token). length xs) s.whole in
    let both = ap (λ (xs : List Token). length xs) two.whole ∙ length-append two.left two.right in
    let where_ = apart s.rest two.left two.right rest two.whole in
    let first = parameters_open bytes ps variadic two.left names w.1 two.first in
    suffix_goes bytes n m names (one_takes line ps variadic) ss (own ++ rest) (s.rest ++ rest) (two.right ++ rest) rest openings.Parenthesis s.token
    (opening_gives s.token (s.rest ++ rest) (own ++ rest) (kinds.Mark marks.LeftParenthesis) openings.Parenthesis (from_token own rest s.rest s.token s.whole) s.is.kind refl)
    (given_read bytes names n line s.token (s.rest ++ rest) (two.right ++ rest) (λ l. one_takes l ps variadic) s.is.line
    (ap (token_at (is_mark marks.RightParenthesis)) where_ ∙ opens_not marks.RightParenthesis two.left (two.right ++ rest) (opens_word marks.RightParenthesis two.left first))
    (ap (given_at bytes n (body_at bytes n) (full_at bytes n) names s.token.line) where_
    ∙ takes_read bytes names n s.token.line ps variadic two.left (two.right ++ rest) inner (no_void bytes ps variadic two.left (two.right ++ rest) names w.0 w.1 two.first) two.first w.1 (omega arith)))
    (others n m names two.right rest two.second w.2 (omega arith) o (omega (arith, one, both)))

suffixes_read : (bytes : List ℕ) (names : Scope) (n : ℕ) (ss : FullSuffixes) (own rest : List Token) → SuffixesAgain bytes ss → SpellsFullSuffixes bytes ss own → AreWellFullSuffixes names ss → full_suffixes_depth ss ≤ n → Opens Follows rest → suffixes_at bytes n (body_at bytes n) (full_at bytes n) names (own ++ rest) ≡ Some (ss, rest)
unfolding suffixes_at
suffixes_read bytes names n ss own rest again s w d o =
    let long = length-append own rest in
    again n (length (own ++ rest) + 1) names own rest s w d o (omega (arith, long))

-- what a declarator begins with
declarator_start_gives : (inner given : Bool) (bytes : List ℕ) (names : Scope) (ts others : List Token) (t : Token) (k : Kind) (h : DeclaratorStart) → ts ≡ t ∷ others → t.kind ≡ k → takes bytes names others ≡ given → declarator_start_of inner given k ≡ Some h → declarator_start_at inner bytes names ts ≡ Some h
unfolding declarator_start_at
declarator_start_gives inner given bytes names ts others t k h e is f g =
    ap (declarator_start_at inner bytes names) e ∙ ap (λ (b : Bool). declarator_start_of inner b t.kind) f ∙ ap (declarator_start_of inner given) is ∙ g

full_starts : (bytes : List ℕ) (n : ℕ) (inner : Bool) (names : Scope) (h : DeclaratorStart) (ts : List Token) (y : Read Full) → declarator_start_at inner bytes names ts ≡ Some h → full_from bytes n (body_at bytes n) (full_at bytes n) inner names h ts ≡ y → full_at bytes (suc n) inner names ts ≡ y
unfolding full_at
full_starts bytes n inner names h ts y e f = bind_gives (declarator_start_at inner bytes names ts) (λ h. full_from bytes n (body_at bytes n) (full_at bytes n) inner names h ts) h y e f

nothing_declarator_start : (bytes : List ℕ) (names : Scope) (ts : List Token) → Opens Follows ts → declarator_start_at true bytes names ts ≡ Some declarator_starts.Nothing
unfolding declarator_start_at
nothing_declarator_start bytes names ts o =
    let k = o.token.kind in
    let g = takes bytes names o.others in
    ap (declarator_start_at true bytes names) o.whole
    ∙ ap (λ (b : Bool). cond b (cond (true && g) (Some declarator_starts.Suffixes) (Some declarator_starts.Inside)) (cond (is_identifier k) (Some declarator_starts.Name) (cond (is_mark marks.LeftBracket k) (Some declarator_starts.Suffixes) (Some declarator_starts.Nothing)))) o.is.1
    ∙ ap (λ (b : Bool). cond b (Some declarator_starts.Name) (cond (is_mark marks.LeftBracket k) (Some declarator_starts.Suffixes) (Some declarator_starts.Nothing))) o.is.2
    ∙ ap (λ (b : Bool). cond b (Some declarator_starts.Suffixes) (Some declarator_starts.Nothing)) o.is.0

empty_full : (bytes : List ℕ) (n : ℕ) (names : Scope) (ts : List Token) → Opens Follows ts → full_at bytes n true names ts ≡ Some (full_unnamed full_end, ts)
unfolding full_at full_from
empty_full bytes zero names ts o = bind_gives (declarator_start_at true bytes names ts) (λ h. bare_full h ts) declarator_starts.Nothing (Some (full_unnamed full_end, ts)) (nothing_declarator_start bytes names ts o) refl
empty_full bytes (suc n) names ts o = full_starts bytes n true names declarator_starts.Nothing ts (Some (full_unnamed full_end, ts)) (nothing_declarator_start bytes names ts o) refl

unnamed_from : (bytes : List ℕ) (n : ℕ) (names : Scope) (ss : FullSuffixes) (own rest : List Token) → SuffixesAgain bytes ss → SpellsFullSuffixes bytes ss own → AreWellFullSuffixes names ss → full_suffixes_depth ss ≤ n → Opens Follows rest → declarator_start_at true bytes names (own ++ rest) ≡ Some declarator_starts.Suffixes → full_at bytes (suc n) true names (own ++ rest) ≡ Some (full_unnamed ss, rest)
unfolding full_from
unnamed_from bytes n names ss own rest again s w d o h =
    full_starts bytes n true names declarator_starts.Suffixes (own ++ rest) (Some (full_unnamed ss, rest)) h
    (bind_gives (suffixes_at bytes n (body_at bytes n) (full_at bytes n) names (own ++ rest)) (λ ss. Some (full_unnamed ss.0, ss.1)) (ss, rest) (Some (full_unnamed ss, rest)) (suffixes_read bytes names n ss own rest again s w d o) refl)

or_true : (b : Bool) → (b || true) ≡ true
or_true true = refl
or_true false = refl

-- behind the parenthesis of a function's suffix stand parameters, or none
takes_close : (bytes : List ℕ) (names : Scope) (ts others : List Token) (t : Token) → ts ≡ t ∷ others → t.kind ≡ kinds.Mark marks.RightParenthesis → takes bytes names ts ≡ true
takes_close bytes names ts others t e is =
    ap (λ (o : Read Token). is_there o || is_there (start_at false bytes (names, false) ts)) (ap (token_at (is_mark marks.RightParenthesis)) e ∙ mark_gives marks.RightParenthesis t others is)

takes_start : (bytes : List ℕ) (names : Scope) (ts : List Token) (x : Start × Token × List Token) → start_at false bytes (names, false) ts ≡ Some x → takes bytes names ts ≡ true
takes_start bytes names ts x e = ap (λ (o : Option (Start × Token × List Token)). stands marks.RightParenthesis ts || is_there o) e ∙ or_true (stands marks.RightParenthesis ts)

type_part_again : (bytes : List ℕ) (p : TypePart) → PartAgain bytes (type_part p)
type_part_again bytes (qualified line q) = qualified_again bytes line q
type_part_again bytes (word line w) = word_again bytes line w
type_part_again bytes (tagged line kind text) = tagged_again bytes line kind text
type_part_again bytes (typedef_name line text) = typedef_again bytes line text

-- specifiers begin with one
some_start : (bytes : List ℕ) (p : Part) (ps : Parts) → PartAgain bytes p → (names : Scope) (own rest : List Token) → SpellsParts bytes (part p ps) own → AreWellParts names false (part p ps) → token_at (is_mark marks.LeftBrace) rest ≡ None → (x : Start × Token × List Token) × (start_at false bytes (names, false) (own ++ rest) ≡ Some x)
some_start bytes p ps again names own rest s w f =
    let r = again false (part_depth p) names false s.left (s.right ++ rest) s.first w.0 (λ e. absurd cc) (omega arith) (parts_no_brace bytes ps s.right rest s.second f) in
    ((r.start, r.token, r.others), ap (start_at false bytes (names, false)) (apart own s.left s.right rest s.whole) ∙ r.starts)

abbrev FirstAgain : List ℕ → Parts → Type 0
FirstAgain bytes ps = (names : Scope) (own rest : List Token) → SpellsParts bytes ps own → AreWellParts names false ps → ps ≢ no_part → token_at (is_mark marks.LeftBrace) rest ≡ None → (x : Start × Token × List Token) × (start_at false bytes (names, false) (own ++ rest) ≡ Some x)

no_first : (bytes : List ℕ) → FirstAgain bytes no_part
no_first bytes names own rest s w some f = absurd (some refl)

some_first : (bytes : List ℕ) (p : Part) (ps : Parts) → PartAgain bytes p → FirstAgain bytes (part p ps)
some_first bytes p ps again names own rest s w some f = some_start bytes p ps again names own rest s w f

-- how the first parameter begins
abbrev TakesAgain : List ℕ → Parameters → Type 0
TakesAgain bytes ps = (names : Scope) (variadic : Bool) (own rest : List Token) → SpellsParameters bytes ps variadic own → AreWellParameters names ps → takes bytes names (own ++ rest) ≡ true

no_takes : (bytes : List ℕ) → TakesAgain bytes no_parameter
no_takes bytes names variadic own rest s w = absurd s

some_takes : (bytes : List ℕ) (parts : Parts) (d : Full) (ps : Parameters) → FirstAgain bytes parts → TakesAgain bytes (parameter parts d ps)
some_takes bytes parts d ps again names variadic own rest s w =
    let two = s.second in
    let o = others_close bytes ps variadic two.right rest two.second in
    let q = parameter_quiet bytes (with_parts names parts) (specify parts) d (full_is_empty d) two.left (two.right ++ rest) refl o two.first w.2 in
    let x = again names s.left (s.right ++ rest) s.first w.1 w.0 (ap (token_at (is_mark marks.LeftBrace)) (apart s.right two.left two.right rest two.whole) ∙ q.no_brace) in
    takes_start bytes names (own ++ rest) x.0 (ap (start_at false bytes (names, false)) (apart own s.left s.right rest s.whole) ∙ x.1)

abbrev DeclaratorStartComplete : List ℕ → FullSuffixes → Type 0
DeclaratorStartComplete bytes ss = (names : Scope) (own rest : List Token) → SpellsFullSuffixes bytes ss own → AreWellFullSuffixes names ss → full_is_empty (full_unnamed ss) ≡ false → declarator_start_at true bytes names (own ++ rest) ≡ Some declarator_starts.Suffixes

end_declarator_start : (bytes : List ℕ) → DeclaratorStartComplete bytes full_end
end_declarator_start bytes names own rest s w e = absurd cc

bounded_declarator_start : (bytes : List ℕ) (line : ℕ) (e : Tree) (ss : FullSuffixes) → DeclaratorStartComplete bytes (full_bounded line e ss)
bounded_declarator_start bytes line e ss names own rest s w f =
    declarator_start_gives true (takes bytes names (s.rest ++ rest)) bytes names (own ++ rest) (s.rest ++ rest) s.token (kinds.Mark marks.LeftBracket) declarator_starts.Suffixes (from_token own rest s.rest s.token s.whole) s.is.kind refl refl

open_declarator_start : (bytes : List ℕ) (line : ℕ) (ss : FullSuffixes) → DeclaratorStartComplete bytes (full_open line ss)
open_declarator_start bytes line ss names own rest s w f =
    declarator_start_gives true (takes bytes names (s.rest ++ rest)) bytes names (own ++ rest) (s.rest ++ rest) s.token (kinds.Mark marks.LeftBracket) declarator_starts.Suffixes (from_token own rest s.rest s.token s.whole) s.is.kind refl refl

empty_declarator_start : (bytes : List ℕ) (line : ℕ) (ss : FullSuffixes) → DeclaratorStartComplete bytes (full_empty line ss)
empty_declarator_start bytes line ss names own rest s w f =
    let close = s.behind in
    declarator_start_gives true true bytes names (own ++ rest) (s.rest ++ rest) s.token (kinds.Mark marks.LeftParenthesis) declarator_starts.Suffixes (from_token own rest s.rest s.token s.whole) s.is.kind
    (takes_close bytes names (s.rest ++ rest) (close.rest ++ rest) close.token (from_token s.rest rest close.rest close.token close.whole) close.is) refl

void_declarator_start : (bytes : List ℕ) (line : ℕ) (ss : FullSuffixes) → DeclaratorStartComplete bytes (full_void line ss)
void_declarator_start bytes line ss names own rest s w f =
    let void = s.behind in
    let x = start_gives false bytes (names, false) void.token (void.rest ++ rest) (starts.Word type_words.Void) void.is in
    declarator_start_gives true true bytes names (own ++ rest) (s.rest ++ rest) s.token (kinds.Mark marks.LeftParenthesis) declarator_starts.Suffixes (from_token own rest s.rest s.token s.whole) s.is.kind
    (takes_start bytes names (s.rest ++ rest) (starts.Word type_words.Void, void.token, void.rest ++ rest) (ap (start_at false bytes (names, false)) (from_token s.rest rest void.rest void.token void.whole) ∙ x)) refl

parameters_declarator_start : (bytes : List ℕ) (line : ℕ) (ps : Parameters) (variadic : Bool) (ss : FullSuffixes) → TakesAgain bytes ps → DeclaratorStartComplete bytes (full_parameters line ps variadic ss)
parameters_declarator_start bytes line ps variadic ss again names own rest s w f =
    let two = s.behind in
    declarator_start_gives true true bytes names (own ++ rest) (s.rest ++ rest) s.token (kinds.Mark marks.LeftParenthesis) declarator_starts.Suffixes (from_token own rest s.rest s.token s.whole) s.is.kind
    (ap (takes bytes names) (apart s.rest two.left two.right rest two.whole) ∙ again names variadic two.left (two.right ++ rest) two.first w.1) refl

-- a declarator without a name is that of a parameter
only_inner : (inner : Bool) → (inner ≡ false → false ≡ true) → inner ≡ true
only_inner true f = refl
only_inner false f = let g = f refl in absurd cc

deeper : (n : ℕ) (ss : FullSuffixes) → full_is_empty (full_unnamed ss) ≡ false → full_depth (full_unnamed ss) ≤ n → (m : ℕ) × (n ≡ suc m) × (full_suffixes_depth ss ≤ m)
deeper zero full_end e d = absurd cc
deeper zero (full_bounded line x ss) e d = absurd (omega arith)
deeper zero (full_open line ss) e d = absurd (omega arith)
deeper zero (full_empty line ss) e d = absurd (omega arith)
deeper zero (full_void line ss) e d = absurd (omega arith)
deeper zero (full_parameters line ps v ss) e d = absurd (omega arith)
deeper (suc m) full_end e d = absurd cc
deeper (suc m) (full_bounded line x ss) e d = (m, refl, omega arith)
deeper (suc m) (full_open line ss) e d = (m, refl, omega arith)
deeper (suc m) (full_empty line ss) e d = (m, refl, omega arith)
deeper (suc m) (full_void line ss) e d = (m, refl, omega arith)
deeper (suc m) (full_parameters line ps v ss) e d = (m, refl, omega arith)

unnamed_by : (bytes : List ℕ) (ss : FullSuffixes) (b : Bool) → SuffixesAgain bytes ss → DeclaratorStartComplete bytes ss → (n : ℕ) (names : Scope) (own rest : List Token) → full_is_empty (full_unnamed ss) ≡ b → SpellsFullSuffixes bytes ss own → AreWellFullSuffixes names ss → full_depth (full_unnamed ss) ≤ n → Opens Follows rest → full_at bytes n true names (own ++ rest) ≡ Some (full_unnamed ss, rest)
unnamed_by bytes ss false again declarator_start n names own rest e s w d o =
    let below = deeper n ss e d in
    ap (λ (l : ℕ). full_at bytes l true names (own ++ rest)) below.1 ∙ unnamed_from bytes below.0 names ss own rest again s w below.2 o (declarator_start names own rest s w e)
unnamed_by bytes full_end true again declarator_start n names own rest e s w d o =
    ap (λ (xs : List Token). full_at bytes n true names (xs ++ rest)) s ∙ empty_full bytes n names rest o
unnamed_by bytes (full_bounded line x ss) true again declarator_start n names own rest e s w d o = absurd cc
unnamed_by bytes (full_open line ss) true again declarator_start n names own rest e s w d o = absurd cc
unnamed_by bytes (full_empty line ss) true again declarator_start n names own rest e s w d o = absurd cc
unnamed_by bytes (full_void line ss) true again declarator_start n names own rest e s w d o = absurd cc
unnamed_by bytes (full_parameters line ps v ss) true again declarator_start n names own rest e s w d o = absurd cc

unnamed_again : (bytes : List ℕ) (ss : FullSuffixes) → SuffixesAgain bytes ss → DeclaratorStartComplete bytes ss → FullAgain bytes (full_unnamed ss)
unnamed_again bytes ss again declarator_start n inner names own rest s w h d o =
    ap (λ (b : Bool). full_at bytes n b names (own ++ rest)) (only_inner inner h)
    ∙ unnamed_by bytes ss (full_is_empty (full_unnamed ss)) again declarator_start n names own rest refl s w d o

named_declarator_start : (inner given : Bool) → declarator_start_of inner given kinds.Identifier ≡ Some declarator_starts.Name
named_declarator_start inner given = refl

named_again : (bytes : List ℕ) (line : ℕ) (text : List ℕ) (ss : FullSuffixes) → SuffixesAgain bytes ss → FullAgain bytes (full_named line text ss)
unfolding full_from
named_again bytes line text ss again zero inner names own rest s w h d o = absurd (omega arith)
named_again bytes line text ss again (suc n) inner names own rest s w h d o =
    let t = s.token in
    let given = takes bytes names (s.rest ++ rest) in
    ap (full_at bytes (suc n) inner names) (from_token own rest s.rest t s.whole)
    ∙ full_starts bytes n inner names declarator_starts.Name (t ∷ (s.rest ++ rest)) (Some (full_named line text ss, rest))
    (declarator_start_gives inner given bytes names (t ∷ (s.rest ++ rest)) (s.rest ++ rest) t kinds.Identifier declarator_starts.Name refl s.is.kind refl (named_declarator_start inner given))
    (ap (λ (o : Read FullSuffixes). o >>= λ ss. Some (full_named t.line (text_of bytes t) ss.0, ss.1)) (suffixes_read bytes names n ss s.rest rest again s.behind w (omega arith) o)
    ∙ ap (λ (l : ℕ). Some (full_named l (text_of bytes t) ss, rest)) s.is.line ∙ ap (λ (x : List ℕ). Some (full_named line x ss, rest)) s.is.text)

-- behind the parenthesis around a declarator stand no parameters
no_takes_here : (bytes : List ℕ) (inner : Bool) (names : Scope) (d : Full) (own rest : List Token) → full_is_empty d ≡ false → OpensNoType names inner d → SpellsFull bytes d own → (inner && takes bytes names (own ++ rest)) ≡ false
no_takes_here bytes false names d own rest e f s = refl
no_takes_here bytes true names d own rest e f s =
    let q = full_quiet false bytes names false d own rest s e f in
    ap (λ (o : Read Token). is_there o || is_there (start_at false bytes (names, false) (own ++ rest))) (opens_not marks.RightParenthesis own rest (full_opens_not bytes marks.RightParenthesis d own refl refl refl e s))
    ∙ ap (λ (o : Option (Start × Token × List Token)). is_there o) q.no_start

inside_declarator_start : (inner given : Bool) (bytes : List ℕ) (names : Scope) (ts others : List Token) (t : Token) → ts ≡ t ∷ others → t.kind ≡ kinds.Mark marks.LeftParenthesis → (inner && takes bytes names others) ≡ false → declarator_start_at inner bytes names ts ≡ Some declarator_starts.Inside
unfolding declarator_start_at
inside_declarator_start inner given bytes names ts others t e is f =
    ap (declarator_start_at inner bytes names) e ∙ ap (declarator_start_of inner (takes bytes names others)) is ∙ ap (λ (b : Bool). cond b (Some declarator_starts.Suffixes) (Some declarator_starts.Inside)) f

inside_read : (bytes : List ℕ) (n : ℕ) (inner : Bool) (names : Scope) (line : ℕ) (d : Full) (ss : FullSuffixes) (ts others mid rest : List Token) (t : Token) → full_at bytes n inner names ts ≡ Some (d, others) → others ≡ t ∷ mid → t.kind ≡ kinds.Mark marks.RightParenthesis → suffixes_at bytes n (body_at bytes n) (full_at bytes n) names mid ≡ Some (ss, rest) → inside_at bytes n (body_at bytes n) (full_at bytes n) inner names line ts ≡ Some (full_inside line d ss, rest)
unfolding inside_at
inside_read bytes n inner names line d ss ts others mid rest t e whole is f =
    ap (λ (o : Read Full). o >>= λ d. token_at (is_mark marks.RightParenthesis) d.1 >>= λ x. suffixes_at bytes n (body_at bytes n) (full_at bytes n) names x.1 >>= λ ss. Some (full_inside line d.0 ss.0, ss.1)) e
    ∙ ap (λ (o : Read Token). o >>= λ x. suffixes_at bytes n (body_at bytes n) (full_at bytes n) names x.1 >>= λ ss. Some (full_inside line d ss.0, ss.1)) (ap (token_at (is_mark marks.RightParenthesis)) whole ∙ mark_gives marks.RightParenthesis t mid is)
    ∙ ap (λ (o : Read FullSuffixes). o >>= λ ss. Some (full_inside line d ss.0, ss.1)) f

inside_again : (bytes : List ℕ) (line : ℕ) (d : Full) (ss : FullSuffixes) → FullAgain bytes d → SuffixesAgain bytes ss → FullAgain bytes (full_inside line d ss)
unfolding full_from
inside_again bytes line d ss first again zero inner names own rest s w h deep o = absurd (omega arith)
inside_again bytes line d ss first again (suc n) inner names own rest s w h deep o =
    let t = s.token in
    let two = s.behind in
    let close = two.second in
    let front = apart s.rest two.left two.right rest two.whole in
    let back = from_token two.right rest close.rest close.token close.whole in
    let follows : Opens Follows (two.right ++ rest) = closers_follow (two.right ++ rest) (record { token = close.token; others = close.rest ++ rest; whole = back; is = inr close.is }) in
    let quiet = ap (λ (xs : List Token). inner && takes bytes names xs) front ∙ no_takes_here bytes inner names d two.left (two.right ++ rest) w.0 w.1 two.first in
    ap (full_at bytes (suc n) inner names) (from_token own rest s.rest t s.whole)
    ∙ full_starts bytes n inner names declarator_starts.Inside (t ∷ (s.rest ++ rest)) (Some (full_inside line d ss, rest))
    (inside_declarator_start inner false bytes names (t ∷ (s.rest ++ rest)) (s.rest ++ rest) t refl s.is.kind quiet)
    (inside_read bytes n inner names t.line d ss (s.rest ++ rest) (two.right ++ rest) (close.rest ++ rest) rest close.token
    (ap (full_at bytes n inner names) front ∙ first n inner names two.left (two.right ++ rest) two.first w.2 h (omega arith) follows)
    back close.is (suffixes_read bytes names n ss close.rest rest again close.behind w.3 (omega arith) o)
    ∙ ap (λ (l : ℕ). Some (full_inside l d ss, rest)) s.is.line)

mutual
  part_again : (bytes : List ℕ) (p : Part) → PartAgain bytes p
  part_again bytes (type_part p) = type_part_again bytes p
  part_again bytes (storage line c) = storage_again bytes line c
  part_again bytes (function line f) = function_again bytes line f
  part_again bytes (structure line kind tag ms) = structure_again bytes line kind tag ms (members_again bytes ms)
  part_again bytes (enumeration line tag es) = enumeration_again bytes line tag es

  pub parts_again : (bytes : List ℕ) (ps : Parts) → PartsAgain bytes ps
  parts_again bytes no_part = no_parts_again bytes
  parts_again bytes (part p ps) = some_parts_again bytes p ps (part_again bytes p) (parts_again bytes ps)

  parts_first : (bytes : List ℕ) (ps : Parts) → FirstAgain bytes ps
  parts_first bytes no_part = no_first bytes
  parts_first bytes (part p ps) = some_first bytes p ps (part_again bytes p)

  members_again : (bytes : List ℕ) (ms : Members) → MembersAgain bytes ms
  members_again bytes no_member = no_members_again bytes
  members_again bytes (members ps ds ms) = some_members_again bytes ps ds ms (parts_again bytes ps) (fulls_again bytes ds) (members_again bytes ms)

  fulls_again : (bytes : List ℕ) (ds : Fulls) → FullsAgain bytes ds
  fulls_again bytes no_full = no_fulls_again bytes
  fulls_again bytes (full d ds) = some_fulls_again bytes d ds (full_again bytes d) (fulls_again bytes ds)

  pub full_again : (bytes : List ℕ) (d : Full) → FullAgain bytes d
  full_again bytes (full_unnamed ss) = unnamed_again bytes ss (suffixes_again bytes ss) (suffixes_declarator_start bytes ss)
  full_again bytes (full_named line text ss) = named_again bytes line text ss (suffixes_again bytes ss)
  full_again bytes (full_inside line d ss) = inside_again bytes line d ss (full_again bytes d) (suffixes_again bytes ss)
  full_again bytes (full_pointing line qs d) = λ n inner names own rest s w h deep o. absurd w

  suffixes_again : (bytes : List ℕ) (ss : FullSuffixes) → SuffixesAgain bytes ss
  suffixes_again bytes full_end = no_suffix_again bytes
  suffixes_again bytes (full_bounded line e ss) = bounded_again bytes line e ss (suffixes_again bytes ss)
  suffixes_again bytes (full_open line ss) = open_again bytes line ss (suffixes_again bytes ss)
  suffixes_again bytes (full_empty line ss) = empty_again bytes line ss (suffixes_again bytes ss)
  suffixes_again bytes (full_void line ss) = void_again bytes line ss (suffixes_again bytes ss)
  suffixes_again bytes (full_parameters line ps variadic ss) = takes_again bytes line ps variadic ss (parameters_again bytes ps) (suffixes_again bytes ss)

  suffixes_declarator_start : (bytes : List ℕ) (ss : FullSuffixes) → DeclaratorStartComplete bytes ss
  suffixes_declarator_start bytes full_end = end_declarator_start bytes
  suffixes_declarator_start bytes (full_bounded line e ss) = bounded_declarator_start bytes line e ss
  suffixes_declarator_start bytes (full_open line ss) = open_declarator_start bytes line ss
  suffixes_declarator_start bytes (full_empty line ss) = empty_declarator_start bytes line ss
  suffixes_declarator_start bytes (full_void line ss) = void_declarator_start bytes line ss
  suffixes_declarator_start bytes (full_parameters line ps variadic ss) = parameters_declarator_start bytes line ps variadic ss (parameters_take bytes ps)

  parameters_again : (bytes : List ℕ) (ps : Parameters) → ParametersAgain bytes ps
  parameters_again bytes no_parameter = no_parameters_again bytes
  parameters_again bytes (parameter parts d ps) = some_parameters_again bytes parts d ps (parts_again bytes parts) (full_again bytes d) (parameters_again bytes ps)

  parameters_take : (bytes : List ℕ) (ps : Parameters) → TakesAgain bytes ps
  parameters_take bytes no_parameter = no_takes bytes
  parameters_take bytes (parameter parts d ps) = some_takes bytes parts d ps (parts_first bytes parts)

-- specifiers begin with one
pub parts_start : (bytes : List ℕ) (ps : Parts) (names : Scope) (own rest : List Token) → SpellsParts bytes ps own → AreWellParts names false ps → ps ≢ no_part → token_at (is_mark marks.LeftBrace) rest ≡ None → (x : Start × Token × List Token) × (start_at false bytes (names, false) (own ++ rest) ≡ Some x)
parts_start bytes ps names own rest s w some f = parts_first bytes ps names own rest s w some f
