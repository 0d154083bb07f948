-- What is read of specifiers stands there.
use Rattle.std.proofs.Common.{◌≡◌, ◌≢◌, ◌≤◌, ◌+◌, max, ℕ, zero, suc, List, [], ◌∷◌, ◌++◌, length, Bool, true, false, cond, Option, Some, None, refl, ap, sym, subst, ◌∙◌, arith}
use Rattle.std.specs.Prelude.{◌||◌, ◌&&◌}
use Rattle.std.proofs.lemmas.List.{append_assoc}
use Rattle.c_token.specs.declared.token.Token.{Token}
use Rattle.c_token.specs.declared.token.Kind.{Kind}
use Rattle.c_token.specs.declared.token.Kind.TheVariants as kinds
use Rattle.c_token.specs.declared.token.Mark.TheVariants as marks
use Rattle.c_token.specs.declared.token.Keyword.TheVariants as keywords
use Rattle.c_token.specs.Spelling.{text_of}
use Rattle.c_tree.specs.declared.specifier.TagKind.{TagKind}
use Rattle.c_tree.specs.declared.specifier.TagKind.TheVariants as tag_kinds
use Rattle.c_tree.specs.declared.declaration.RecordKind.{RecordKind}
use Rattle.c_tree.specs.declared.declaration.RecordKind.TheVariants as record_kinds
use Rattle.c_tree.specs.declared.specifier.TypeWord.{TypeWord}
use Rattle.c_tree.specs.declared.specifier.TypeWord.TheVariants as type_words
use Rattle.c_tree.specs.Tree.{qualified, word, tagged, typedef_name, Tree}
use Rattle.c_tree.specs.Tables.{tag_keyword, record_keyword}
use Rattle.c_tree.specs.Names.{Scope, is_type}
use Rattle.c_tree.specs.Spelling.{Single, Behind, Then, IsMark}
use Rattle.c_tree.specs.Declarations.{Enumerated, Part, type_part, storage, function, structure, enumeration, Parts, no_part, part, Members, no_member, members, Full, full_unnamed, full_named, full_inside, Fulls, no_full, full, FullSuffixes, full_end, full_bounded, full_open, full_empty, full_void, full_parameters, Parameters, no_parameter, parameter, value_depth, enumerators_depth, part_depth, parts_depth, members_depth, full_depth, fulls_depth, full_suffixes_depth, parameters_depth, full_has_name, with_part, with_parts, with_named, have_typedef, specifies, specify, full_pointing}
use Rattle.c_tree.specs.Files.{SpellsValue, SpellsEnumerator, SpellsOtherEnumerators, SpellsEnumerators, SpellsOtherMembers, SpellsMembers, SpellsTag, SpellsPart, SpellsParts, SpellsMemberDeclarations, SpellsFull, SpellsFullSuffixes, SpellsParameters, SpellsOtherParameters, IsWellValue, AreWellEnumerators, FrontIsNoType, AreWellMembers, FrontIsNoTypeOfMembers, is_of_member, are_of_member, IsWellPart, AreWellParts, AreWellMemberDeclarations, OpensNoType, full_is_empty, is_void, is_void_part, are_void, is_void_alone, IsWellFull, AreWellFullSuffixes, AreWellParameters}
use Rattle.c_parse_expr.specs.inner.Many.{◌>>=◌}
use Rattle.c_parse_expr.specs.Reading.{is_mark}
use Rattle.c_parse_expr.specs.inner.Reading.{is_identifier, reader}
use Rattle.c_parse_parts.specs.declared.table.Start.{Start}
use Rattle.c_parse_parts.specs.declared.table.Start.TheVariants as starts
use Rattle.c_parse_parts.specs.declared.slices.DeclaratorStart.{DeclaratorStart}
use Rattle.c_parse_parts.specs.declared.slices.DeclaratorStart.TheVariants as declarator_starts
use Rattle.c_parse_parts.specs.declared.slices.Opening.{Opening}
use Rattle.c_parse_parts.specs.declared.slices.Opening.TheVariants as openings
use Rattle.c_parse_parts.specs.Tables.{record_tag}
use Rattle.c_parse_parts.specs.inner.Reading.{Read, State, Body, FullReader, OneSuffix, one_bounded, one_takes, placed_suffix, is_keyword, token_at, run_at, comma_at, shut_at, ended_at, start_at, is_there, stands, tag_by, tag_at, tagged_by, record_by, record_at, value_by, value_at, enumerator_at, enumerators_list, enumerators_at, enumeration_by, enumeration_at, part_from, parts_stop, parts_list, parts_at, are_some, fulls_list, fulls_at, member_at, members_list, have_some, members_at, some_members_at, opening_of, opening_at, bound_by, bound_at, void_at, dots_at, last_by, last_at, parameter_at, parameters_list, parameters_at, given_by, given_at, taken_by, taken_at, one_from, suffixes_stop, suffixes_list, suffixes_at, takes, declarator_start_at, inside_at, full_from, bare_full, body_at, full_at}
use Rattle.c_parse_parts.proofs.Lists.{some_is, bind_some, run_takes}
use Rattle.c_parse_parts.proofs.Words.{mark_by, identifier_by, mark_takes, keyword_takes, identifier_takes, mark_gives, keyword_gives}
use Rattle.c_parse_parts.proofs.Starts.{StartsKind, is_name_in, name_facts, start_takes, no_name}
use Rattle.c_parse_expr.proofs.Sound.{reads}
use Rattle.c_parse_parts.proofs.Runs.{Run, seam, in_front_of, Separated, separated_joins, comma_takes, shut_takes, ended_takes, regroup}

-- enumerators
abbrev pub ValueRun : List ℕ → Scope → ℕ → Option Tree → List Token → List Token → Type 0
ValueRun bytes names n e = Run (SpellsValue bytes e) (IsWellValue names e) (value_depth e) n

value_either : (bytes : List ℕ) (names : Scope) (n : ℕ) (ts : List Token) (o : Read Token) (x : Option Tree × List Token) → token_at (is_mark marks.Equal) ts ≡ o → value_by bytes names n ts o ≡ Some x → ValueRun bytes names n x.0 ts x.1
value_either bytes names n ts None x f e =
    subst (λ (y : Option Tree × List Token). ValueRun bytes names n y.0 ts y.1) (some_is e)
    (record { own = []; spelled = refl; front = refl; well = tt; deep = omega arith })
value_either bytes names n ts (Some y) x f e =
    let h = mark_takes marks.Equal ts y f in
    let a = bind_some (reader bytes names n 3 y.1) (λ e. Some (Some e.0, e.1)) x e in
    let s = reads bytes names n 3 y.1 a.0 (omega arith) a.1 in
    subst (λ (y : Option Tree × List Token). ValueRun bytes names n y.0 ts y.1) (some_is a.2)
    (record {
      own = y.0 ∷ s.own;
      spelled = record { token = y.0; rest = s.own; is = h.is; behind = s.spelled; whole = refl };
      front = h.whole ∙ ap (λ (xs : List Token). y.0 ∷ xs) s.front;
      well = (s.level, s.well);
      deep = s.deep;
    })

abbrev pub EnumeratorRun : List ℕ → Scope → ℕ → Enumerated → List Token → List Token → Type 0
EnumeratorRun bytes names n e = Run (SpellsEnumerator bytes e) (IsWellValue names e.value) (value_depth e.value) n

enumerator_takes : (bytes : List ℕ) (names : Scope) (n : ℕ) (ts : List Token) (x : Enumerated × List Token) → enumerator_at bytes names n ts ≡ Some x → EnumeratorRun bytes names n x.0 ts x.1
unfolding enumerator_at value_at
enumerator_takes bytes names n ts x e =
    let a = bind_some (token_at is_identifier ts) (λ x. value_at bytes names n x.1 >>= λ e. Some (record { line = x.0.line; name = text_of bytes x.0; value = e.0 }, e.1)) x e in
    let b = bind_some (value_at bytes names n a.0.1) (λ e. Some (record { line = a.0.0.line; name = text_of bytes a.0.0; value = e.0 }, e.1)) x a.2 in
    let h = identifier_takes ts a.0 a.1 in
    let v = value_either bytes names n a.0.1 (token_at (is_mark marks.Equal) a.0.1) b.0 refl b.1 in
    subst (λ (y : Enumerated × List Token). EnumeratorRun bytes names n y.0 ts y.1) (some_is b.2)
    (record {
      own = a.0.0 ∷ v.own;
      spelled = record { token = a.0.0; rest = v.own; is = record { kind = h.is; line = refl; text = refl }; behind = v.spelled; whole = refl };
      front = h.whole ∙ ap (λ (xs : List Token). a.0.0 ∷ xs) v.front;
      well = v.well;
      deep = v.deep;
    })

abbrev pub SpellsEnumeratorsBy : Bool → List ℕ → List Enumerated → List Token → Type 0
SpellsEnumeratorsBy true bytes es = SpellsEnumerators bytes es
SpellsEnumeratorsBy false bytes es = SpellsOtherEnumerators bytes es

enumerators_are : (first : Bool) (bytes : List ℕ) (e : Enumerated) (es : List Enumerated) (own : List Token) → Separated first (Then (SpellsEnumerator bytes e) (SpellsOtherEnumerators bytes es)) own → SpellsEnumeratorsBy first bytes (e ∷ es) own
enumerators_are true bytes e es own s = s
enumerators_are false bytes e es own s = s

abbrev pub SeparateEnumerator : List ℕ → ℕ → State → Enumerated → List Token → List Token → Type 0
SeparateEnumerator bytes n s e = Run (Separated s.1 (SpellsEnumerator bytes e)) (IsWellValue s.0 e.value) (value_depth e.value) n

abbrev pub EnumeratorsRun : List ℕ → ℕ → State → List Enumerated → List Token → List Token → Type 0
EnumeratorsRun bytes n s es = Run (SpellsEnumeratorsBy s.1 bytes es) (AreWellEnumerators s.0 es) (enumerators_depth es) n

enumerators_stop : (bytes : List ℕ) (n : ℕ) (s : State) (ts : List Token) (x : List Enumerated × List Token) → (shut_at s.1 ts >>= λ rest. Some ([], rest)) ≡ Some x → EnumeratorsRun bytes n s x.0 ts x.1
enumerators_stop bytes n s ts x e =
    let a = bind_some (shut_at s.1 ts) (λ rest. Some ([], rest)) x e in
    let h = shut_takes s.1 ts a.0 a.1 in
    subst (λ (y : List Enumerated × List Token). EnumeratorsRun bytes n s y.0 ts y.1) (some_is a.2)
    (record {
      own = h.own;
      spelled = subst (λ (b : Bool). SpellsEnumeratorsBy b bytes [] h.own) (sym h.later) h.closes;
      front = h.front;
      well = tt;
      deep = omega arith;
    })

enumerators_item : (bytes : List ℕ) (n : ℕ) (s : State) (ts : List Token) (x : Enumerated × List Token) → (comma_at s.1 ts >>= λ rest. enumerator_at bytes s.0 n rest) ≡ Some x → SeparateEnumerator bytes n s x.0 ts x.1
enumerators_item bytes n s ts x e =
    let a = bind_some (comma_at s.1 ts) (λ rest. enumerator_at bytes s.0 n rest) x e in
    comma_takes s.1 (SpellsEnumerator bytes x.0) (IsWellValue s.0 x.0.value) (value_depth x.0.value) n ts a.0 x.1 a.1 (enumerator_takes bytes s.0 n a.0 x a.2)

enumerators_join : (bytes : List ℕ) (n : ℕ) (s : State) (e : Enumerated) (es : List Enumerated) (ts mid rest : List Token) → SeparateEnumerator bytes n s e ts mid → EnumeratorsRun bytes n ((e.name, false) ∷ s.0, false) es mid rest → EnumeratorsRun bytes n s (e ∷ es) ts rest
enumerators_join bytes n s e es ts mid rest a b = record {
  own = a.own ++ b.own;
  spelled = enumerators_are s.1 bytes e es (a.own ++ b.own) (separated_joins s.1 (SpellsEnumerator bytes e) (SpellsOtherEnumerators bytes es) a.own b.own a.spelled b.spelled);
  front = seam ts a.own mid rest b.own a.front b.front;
  well = (a.well, b.well);
  deep = omega (arith, a.deep, b.deep);
}

enumerators_take : (bytes : List ℕ) (names : Scope) (n : ℕ) (ts : List Token) (x : List Enumerated × List Token) → enumerators_at bytes names n ts ≡ Some x → EnumeratorsRun bytes n (names, true) x.0 ts x.1
unfolding enumerators_at
enumerators_take bytes names n ts x e =
    run_takes (enumerators_list bytes n) (SeparateEnumerator bytes n) (EnumeratorsRun bytes n) (enumerators_stop bytes n) (enumerators_item bytes n) (enumerators_join bytes n) (length ts + 1) (names, true) ts x e

-- tags
pub record TagRun (bytes : List ℕ) (ts : List Token) (x : Option (List ℕ) × List Token) : Type 0 where
  pub own : List Token
  pub spelled : SpellsTag bytes x.0 own
  pub front : ts ≡ own ++ x.1

tag_either : (bytes : List ℕ) (ts : List Token) (o : Read Token) → token_at is_identifier ts ≡ o → TagRun bytes ts (tag_by bytes ts o)
tag_either bytes ts None e = record { own = []; spelled = refl; front = refl }
tag_either bytes ts (Some x) e =
    let h = identifier_takes ts x e in
    record { own = x.0 ∷ []; spelled = record { token = x.0; is = record { kind = h.is; text = refl }; whole = refl }; front = h.whole }

tag_takes : (bytes : List ℕ) (ts : List Token) → TagRun bytes ts (tag_at bytes ts)
unfolding tag_at
tag_takes bytes ts = tag_either bytes ts (token_at is_identifier ts) refl

-- what is known of a specifier
abbrev pub PartWell : Bool → State → Part → Type 0
PartWell inner s p = IsWellPart s.0 s.1 p × (inner ≡ true → is_of_member p ≡ true)

abbrev pub PartRun : Bool → List ℕ → ℕ → State → Part → List Token → List Token → Type 0
PartRun inner bytes n s p = Run (SpellsPart bytes p) (PartWell inner s p) (part_depth p) n

tagged_takes : (inner : Bool) (bytes : List ℕ) (n : ℕ) (s : State) (kind : TagKind) (t : Token) (ts mid : List Token) (g : Option (List ℕ) × List Token) (x : Part × List Token) → t.kind ≡ kinds.Keyword (tag_keyword kind) → ts ≡ t ∷ mid → TagRun bytes mid g → tagged_by kind t.line g.0 g.1 ≡ Some x → PartRun inner bytes n s x.0 ts x.1
tagged_takes inner bytes n s kind t ts mid (None, rest) x is whole g e = absurd cc
tagged_takes inner bytes n s kind t ts mid (Some text, rest) x is whole g e =
    subst (λ (y : Part × List Token). PartRun inner bytes n s y.0 ts y.1) (some_is e)
    (record {
      own = t ∷ g.own;
      spelled = record { token = t; rest = g.own; is = record { kind = is; line = refl }; behind = g.spelled; whole = refl };
      front = in_front_of t ts mid g.own rest whole g.front;
      well = (tt, λ _. refl);
      deep = omega arith;
    })

-- what a structure's body is
pub record BodyRun (bytes : List ℕ) (names : Scope) (n : ℕ) (ms : Members) (tokens rest : List Token) : Type 0 where
  pub run : Run (SpellsMemberDeclarations bytes ms) (AreWellMemberDeclarations names ms) (members_depth ms + 1) n tokens rest
  pub some : ms ≢ no_member

abbrev pub BodyTakes : List ℕ → ℕ → Body → Type 0
BodyTakes bytes n body = (names : Scope) (ts : List Token) (x : Members × List Token) → body names ts ≡ Some x → BodyRun bytes names n x.0 ts x.1

record_tagged : (kind : RecordKind) → record_keyword kind ≡ tag_keyword (record_tag kind)
record_tagged record_kinds.Struct = refl
record_tagged record_kinds.Union = refl

record_either : (inner : Bool) (bytes : List ℕ) (n : ℕ) (body : Body) → BodyTakes bytes n body → (s : State) (kind : RecordKind) (t : Token) (ts mid : List Token) (g : Option (List ℕ) × List Token) (o : Read Token) (x : Part × List Token) → t.kind ≡ kinds.Keyword (record_keyword kind) → ts ≡ t ∷ mid → TagRun bytes mid g → token_at (is_mark marks.LeftBrace) g.1 ≡ o → record_by body s.0 t.line kind g.0 g.1 o ≡ Some x → PartRun inner bytes n s x.0 ts x.1
record_either inner bytes n body takes s kind t ts mid g None x is whole tag f e =
    tagged_takes inner bytes n s (record_tag kind) t ts mid g x (is ∙ ap kinds.Keyword (record_tagged kind)) whole tag e
record_either inner bytes n body takes s kind t ts mid g (Some y) x is whole tag f e =
    let a = bind_some (body s.0 y.1) (λ ms. Some (structure t.line kind g.0 ms.0, ms.1)) x e in
    let h = mark_takes marks.LeftBrace g.1 y f in
    let b = takes s.0 y.1 a.0 a.1 in
    subst (λ (y : Part × List Token). PartRun inner bytes n s y.0 ts y.1) (some_is a.2)
    (record {
      own = t ∷ (tag.own ++ (y.0 ∷ b.run.own));
      spelled = record {
        token = t;
        rest = tag.own ++ (y.0 ∷ b.run.own);
        is = record { kind = is; line = refl };
        behind = record {
          left = tag.own;
          right = y.0 ∷ b.run.own;
          first = tag.spelled;
          second = record { token = y.0; rest = b.run.own; is = h.is; behind = b.run.spelled; whole = refl };
          whole = refl;
        };
        whole = refl;
      };
      front = in_front_of t ts mid (tag.own ++ (y.0 ∷ b.run.own)) a.0.1 whole (seam mid tag.own g.1 a.0.1 (y.0 ∷ b.run.own) tag.front (in_front_of y.0 g.1 y.1 b.run.own a.0.1 h.whole b.run.front));
      well = ((b.some, b.run.well), λ _. refl);
      deep = b.run.deep;
    })

record_takes : (inner : Bool) (bytes : List ℕ) (n : ℕ) (body : Body) → BodyTakes bytes n body → (s : State) (kind : RecordKind) (t : Token) (ts mid : List Token) (x : Part × List Token) → t.kind ≡ kinds.Keyword (record_keyword kind) → ts ≡ t ∷ mid → record_at bytes body s.0 t.line kind mid ≡ Some x → PartRun inner bytes n s x.0 ts x.1
unfolding record_at
record_takes inner bytes n body takes s kind t ts mid x is whole e =
    record_either inner bytes n body takes s kind t ts mid (tag_at bytes mid) (token_at (is_mark marks.LeftBrace) (tag_at bytes mid).1) x is whole (tag_takes bytes mid) refl e

enumeration_either : (inner : Bool) (bytes : List ℕ) (n : ℕ) (s : State) (t : Token) (ts mid : List Token) (g : Option (List ℕ) × List Token) (o : Read Token) (x : Part × List Token) → t.kind ≡ kinds.Keyword keywords.Enum → ts ≡ t ∷ mid → TagRun bytes mid g → token_at (is_mark marks.LeftBrace) g.1 ≡ o → enumeration_by bytes s.0 n t.line g.0 g.1 o ≡ Some x → PartRun inner bytes n s x.0 ts x.1
enumeration_either inner bytes n s t ts mid g None x is whole tag f e = tagged_takes inner bytes n s tag_kinds.Enum t ts mid g x is whole tag e
enumeration_either inner bytes n s t ts mid g (Some y) x is whole tag f e =
    let a = bind_some (enumerators_at bytes s.0 n y.1) (λ es. Some (enumeration t.line g.0 es.0, es.1)) x e in
    let h = mark_takes marks.LeftBrace g.1 y f in
    let b = enumerators_take bytes s.0 n y.1 a.0 a.1 in
    subst (λ (y : Part × List Token). PartRun inner bytes n s y.0 ts y.1) (some_is a.2)
    (record {
      own = t ∷ (tag.own ++ (y.0 ∷ b.own));
      spelled = record {
        token = t;
        rest = tag.own ++ (y.0 ∷ b.own);
        is = record { kind = is; line = refl };
        behind = record {
          left = tag.own;
          right = y.0 ∷ b.own;
          first = tag.spelled;
          second = record { token = y.0; rest = b.own; is = h.is; behind = b.spelled; whole = refl };
          whole = refl;
        };
        whole = refl;
      };
      front = in_front_of t ts mid (tag.own ++ (y.0 ∷ b.own)) a.0.1 whole (seam mid tag.own g.1 a.0.1 (y.0 ∷ b.own) tag.front (in_front_of y.0 g.1 y.1 b.own a.0.1 h.whole b.front));
      well = (b.well, λ _. refl);
      deep = b.deep;
    })

enumeration_takes : (inner : Bool) (bytes : List ℕ) (n : ℕ) (s : State) (t : Token) (ts mid : List Token) (x : Part × List Token) → t.kind ≡ kinds.Keyword keywords.Enum → ts ≡ t ∷ mid → enumeration_at bytes s.0 n t.line mid ≡ Some x → PartRun inner bytes n s x.0 ts x.1
unfolding enumeration_at
enumeration_takes inner bytes n s t ts mid x is whole e =
    enumeration_either inner bytes n s t ts mid (tag_at bytes mid) (token_at (is_mark marks.LeftBrace) (tag_at bytes mid).1) x is whole (tag_takes bytes mid) refl e

-- where storage classes and function specifiers stand, none of members do
outer_only : (inner : Bool) (b : Bool) → inner ≡ false → inner ≡ true → b ≡ true
outer_only true b e f = absurd cc
outer_only false b e f = absurd cc

part_takes : (inner : Bool) (bytes : List ℕ) (n : ℕ) (body : Body) → BodyTakes bytes n body → (s : State) (y : Start) (t : Token) (ts mid : List Token) (x : Part × List Token) → StartsKind inner (is_name_in bytes s t) y t.kind → ts ≡ t ∷ mid → part_from bytes n body s.0 y t mid ≡ Some x → PartRun inner bytes n s x.0 ts x.1
unfolding part_from
part_takes inner bytes n body takes s (starts.Qualifier q) t ts mid x is whole e =
    subst (λ (y : Part × List Token). PartRun inner bytes n s y.0 ts y.1) (some_is e)
    (record { own = t ∷ []; spelled = record { token = t; is = record { kind = is; line = refl }; whole = refl }; front = whole; well = (tt, λ _. refl); deep = omega arith })
part_takes inner bytes n body takes s (starts.Word w) t ts mid x is whole e =
    subst (λ (y : Part × List Token). PartRun inner bytes n s y.0 ts y.1) (some_is e)
    (record { own = t ∷ []; spelled = record { token = t; is = record { kind = is; line = refl }; whole = refl }; front = whole; well = (tt, λ _. refl); deep = omega arith })
part_takes inner bytes n body takes s (starts.Storage c) t ts mid x is whole e =
    subst (λ (y : Part × List Token). PartRun inner bytes n s y.0 ts y.1) (some_is e)
    (record { own = t ∷ []; spelled = record { token = t; is = record { kind = is.0; line = refl }; whole = refl }; front = whole; well = (tt, outer_only inner false is.1); deep = omega arith })
part_takes inner bytes n body takes s (starts.Function f) t ts mid x is whole e =
    subst (λ (y : Part × List Token). PartRun inner bytes n s y.0 ts y.1) (some_is e)
    (record { own = t ∷ []; spelled = record { token = t; is = record { kind = is.0; line = refl }; whole = refl }; front = whole; well = (tt, outer_only inner false is.1); deep = omega arith })
part_takes inner bytes n body takes s (starts.Record kind) t ts mid x is whole e = record_takes inner bytes n body takes s kind t ts mid x is whole e
part_takes inner bytes n body takes s starts.Enumeration t ts mid x is whole e = enumeration_takes inner bytes n s t ts mid x is whole e
part_takes inner bytes n body takes s starts.Name t ts mid x is whole e =
    subst (λ (y : Part × List Token). PartRun inner bytes n s y.0 ts y.1) (some_is e)
    (record {
      own = t ∷ [];
      spelled = record { token = t; is = record { kind = is.0; line = refl; text = refl }; whole = refl };
      front = whole;
      well = (name_facts s.1 (is_type s.0 (text_of bytes t)) is.1, λ _. refl);
      deep = omega arith;
    })

-- specifiers, behind which none begins
pub record PartsRun (inner : Bool) (bytes : List ℕ) (n : ℕ) (s : State) (ps : Parts) (tokens rest : List Token) : Type 0 where
  pub run : Run (SpellsParts bytes ps) (AreWellParts s.0 s.1 ps × (inner ≡ true → are_of_member ps)) (parts_depth ps) n tokens rest
  pub ends : start_at inner bytes (with_parts s.0 ps, s.1 || specify ps) rest ≡ None

pub or_nothing : (b : Bool) → (b || false) ≡ b
or_nothing true = refl
or_nothing false = refl

pub or_three : (a b c : Bool) → ((a || b) || c) ≡ (a || (b || c))
or_three true b c = refl
or_three false b c = refl

parts_stops : (inner : Bool) (bytes : List ℕ) (n : ℕ) (s : State) (ts : List Token) (o : Option (Start × Token × List Token)) (x : Parts × List Token) → start_at inner bytes s ts ≡ o → parts_stop ts o ≡ Some x → PartsRun inner bytes n s x.0 ts x.1
parts_stops inner bytes n s ts None x f e =
    subst (λ (y : Parts × List Token). PartsRun inner bytes n s y.0 ts y.1) (some_is e)
    (record {
      run = record { own = []; spelled = refl; front = refl; well = (tt, λ _. tt); deep = omega arith };
      ends = ap (λ (b : Bool). start_at inner bytes (s.0, b) ts) (or_nothing s.1) ∙ f;
    })
parts_stops inner bytes n s ts (Some y) x f e = absurd cc

parts_item : (inner : Bool) (bytes : List ℕ) (n : ℕ) (body : Body) → BodyTakes bytes n body → (s : State) (ts : List Token) (x : Part × List Token) → (start_at inner bytes s ts >>= λ x. part_from bytes n body s.0 x.0 x.1 x.2) ≡ Some x → PartRun inner bytes n s x.0 ts x.1
parts_item inner bytes n body takes s ts x e =
    let a = bind_some (start_at inner bytes s ts) (λ x. part_from bytes n body s.0 x.0 x.1 x.2) x e in
    let b = start_takes inner bytes s ts a.0 a.1 in
    part_takes inner bytes n body takes s a.0.0 a.0.1 ts a.0.2 x b.is b.whole a.2

parts_join : (inner : Bool) (bytes : List ℕ) (n : ℕ) (s : State) (p : Part) (ps : Parts) (ts mid rest : List Token) → PartRun inner bytes n s p ts mid → PartsRun inner bytes n (with_part s.0 p, s.1 || specifies p) ps mid rest → PartsRun inner bytes n s (part p ps) ts rest
parts_join inner bytes n s p ps ts mid rest a b = record {
  run = record {
    own = a.own ++ b.run.own;
    spelled = record { left = a.own; right = b.run.own; first = a.spelled; second = b.run.spelled; whole = refl };
    front = seam ts a.own mid rest b.run.own a.front b.run.front;
    well = ((a.well.0, b.run.well.0), λ e. (a.well.1 e, b.run.well.1 e));
    deep = omega (arith, a.deep, b.run.deep);
  };
  ends = ap (λ (c : Bool). start_at inner bytes (with_parts (with_part s.0 p) ps, c) rest) (sym (or_three s.1 (specifies p) (specify ps))) ∙ b.ends;
}

pub parts_take : (inner : Bool) (bytes : List ℕ) (n : ℕ) (body : Body) → BodyTakes bytes n body → (names : Scope) (ts : List Token) (x : Parts × List Token) → parts_at inner bytes n body names ts ≡ Some x → PartsRun inner bytes n (names, false) x.0 ts x.1
unfolding parts_at
parts_take inner bytes n body takes names ts x e =
    run_takes (parts_list inner bytes n body) (PartRun inner bytes n) (PartsRun inner bytes n)
    (λ s ts x e. parts_stops inner bytes n s ts (start_at inner bytes s ts) x refl e)
    (parts_item inner bytes n body takes) (parts_join inner bytes n) (length ts + 1) (names, false) ts x e

-- the first declarator begins with no name of a type, where a specifier would be read
pub front_no_type : (inner : Bool) (bytes : List ℕ) (names : Scope) (before : Bool) (d : Full) (ts left more : List Token) → start_at inner bytes (names, before) ts ≡ None → ts ≡ left ++ more → SpellsFull bytes d left → FrontIsNoType names before d
front_no_type inner bytes names before (full_unnamed ss) ts left more e f s = tt
front_no_type inner bytes names before (full_named line text ss) ts left more e f s =
    λ not. sym (ap (is_type names) s.is.text)
    ∙ no_name inner bytes (names, before) ts (s.rest ++ more) s.token (f ∙ ap (λ (xs : List Token). xs ++ more) s.whole) s.is.kind e not
front_no_type inner bytes names before (full_inside line d ss) ts left more e f s = tt
front_no_type inner bytes names before (full_pointing line qs d) ts left more e f s = tt

-- what is known of a declarator, of a parameter or not
abbrev pub FullWell : Bool → Scope → Full → Type 0
FullWell inner names d = IsWellFull names inner d × (inner ≡ false → full_has_name d ≡ true)

abbrev pub FullRun : List ℕ → ℕ → Bool → Scope → Full → List Token → List Token → Type 0
FullRun bytes n inner names d = Run (SpellsFull bytes d) (FullWell inner names d) (full_depth d) n

abbrev pub FullTakes : List ℕ → ℕ → FullReader → Type 0
FullTakes bytes n sub = (inner : Bool) (names : Scope) (ts : List Token) (x : Full × List Token) → sub inner names ts ≡ Some x → FullRun bytes n inner names x.0 ts x.1

-- declarators of members
abbrev pub SpellsMembersBy : Bool → List ℕ → Fulls → List Token → Type 0
SpellsMembersBy true bytes ds = SpellsMembers bytes ds
SpellsMembersBy false bytes ds = SpellsOtherMembers bytes ds

members_are : (first : Bool) (bytes : List ℕ) (d : Full) (ds : Fulls) (own : List Token) → Separated first (Then (SpellsFull bytes d) (SpellsOtherMembers bytes ds)) own → SpellsMembersBy first bytes (full d ds) own
members_are true bytes d ds own s = s
members_are false bytes d ds own s = s

no_members_are : (first : Bool) (bytes : List ℕ) (own : List Token) → Single (IsMark marks.Semicolon) own → SpellsMembersBy first bytes no_full own
no_members_are true bytes own s = s
no_members_are false bytes own s = s

abbrev SeparateFull : List ℕ → ℕ → State → Full → List Token → List Token → Type 0
SeparateFull bytes n s d = Run (Separated s.1 (SpellsFull bytes d)) (FullWell false s.0 d) (full_depth d) n

abbrev FullsRun : List ℕ → ℕ → State → Fulls → List Token → List Token → Type 0
FullsRun bytes n s ds = Run (SpellsMembersBy s.1 bytes ds) (AreWellMembers s.0 ds) (fulls_depth ds) n

fulls_stop : (bytes : List ℕ) (n : ℕ) (s : State) (ts : List Token) (x : Fulls × List Token) → ended_at marks.Semicolon no_full ts ≡ Some x → FullsRun bytes n s x.0 ts x.1
fulls_stop bytes n s ts x e =
    let h = ended_takes marks.Semicolon no_full ts x e in
    subst (λ (ds : Fulls). FullsRun bytes n s ds ts x.1) h.same
    (record { own = h.token ∷ []; spelled = no_members_are s.1 bytes (h.token ∷ []) (record { token = h.token; is = h.is; whole = refl }); front = h.whole; well = tt; deep = omega arith })

fulls_item : (bytes : List ℕ) (n : ℕ) (sub : FullReader) → FullTakes bytes n sub → (s : State) (ts : List Token) (x : Full × List Token) → (comma_at s.1 ts >>= λ rest. sub false s.0 rest) ≡ Some x → SeparateFull bytes n s x.0 ts x.1
fulls_item bytes n sub known s ts x e =
    let a = bind_some (comma_at s.1 ts) (λ rest. sub false s.0 rest) x e in
    comma_takes s.1 (SpellsFull bytes x.0) (FullWell false s.0 x.0) (full_depth x.0) n ts a.0 x.1 a.1 (known false s.0 a.0 x a.2)

fulls_join : (bytes : List ℕ) (n : ℕ) (s : State) (d : Full) (ds : Fulls) (ts mid rest : List Token) → SeparateFull bytes n s d ts mid → FullsRun bytes n (s.0, false) ds mid rest → FullsRun bytes n s (full d ds) ts rest
fulls_join bytes n s d ds ts mid rest a b = record {
  own = a.own ++ b.own;
  spelled = members_are s.1 bytes d ds (a.own ++ b.own) (separated_joins s.1 (SpellsFull bytes d) (SpellsOtherMembers bytes ds) a.own b.own a.spelled b.spelled);
  front = seam ts a.own mid rest b.own a.front b.front;
  well = (a.well.1 refl, a.well.0, b.well);
  deep = omega (arith, a.deep, b.deep);
}

fulls_take : (bytes : List ℕ) (names : Scope) (n : ℕ) (sub : FullReader) → FullTakes bytes n sub → (ts : List Token) (x : Fulls × List Token) → fulls_at (sub false) names ts ≡ Some x → FullsRun bytes n (names, true) x.0 ts x.1
unfolding fulls_at
fulls_take bytes names n sub known ts x e =
    run_takes (fulls_list (sub false)) (SeparateFull bytes n) (FullsRun bytes n) (fulls_stop bytes n) (fulls_item bytes n sub known) (fulls_join bytes n) (length ts + 1) (names, true) ts x e

front_of_members : (bytes : List ℕ) (names : Scope) (before : Bool) (ds : Fulls) (ts own rest : List Token) → start_at true bytes (names, before) ts ≡ None → ts ≡ own ++ rest → SpellsMembers bytes ds own → FrontIsNoTypeOfMembers names before ds
front_of_members bytes names before no_full ts own rest e f s = tt
front_of_members bytes names before (full d ds) ts own rest e f s =
    front_no_type true bytes names before d ts s.left (s.right ++ rest) e (f ∙ ap (λ (xs : List Token). xs ++ rest) s.whole ∙ append_assoc s.left s.right rest) s.first

-- a declaration of members
abbrev MemberWell : Scope → Parts × Fulls → Type 0
MemberWell names m =
    (m.0 ≢ no_part) × are_of_member m.0 × AreWellParts names false m.0
    × FrontIsNoTypeOfMembers (with_parts names m.0) (specify m.0) m.1 × AreWellMembers (with_parts names m.0) m.1

abbrev MemberRun : List ℕ → ℕ → Scope → Parts × Fulls → List Token → List Token → Type 0
MemberRun bytes n names m = Run (Then (SpellsParts bytes m.0) (SpellsMembers bytes m.1)) (MemberWell names m) (max (parts_depth m.0) (fulls_depth m.1)) n

pub if_some : {A : Type 0} (b : Bool) (o : Option A) (x : A) → cond b o None ≡ Some x → (b ≡ true) × (o ≡ Some x)
if_some true o x e = (refl, e)
if_some false o x e = absurd cc

pub some_parts : (ps : Parts) → are_some ps ≡ true → ps ≢ no_part
some_parts no_part e f = cc
some_parts (part p ps) e f = cc

some_members : (ms : Members) → have_some ms ≡ true → ms ≢ no_member
some_members no_member e f = cc
some_members (members ps ds ms) e f = cc

member_takes : (bytes : List ℕ) (n : ℕ) (body : Body) (sub : FullReader) → BodyTakes bytes n body → FullTakes bytes n sub → (names : Scope) (ts : List Token) (x : (Parts × Fulls) × List Token) → member_at bytes n body sub names ts ≡ Some x → MemberRun bytes n names x.0 ts x.1
unfolding member_at
member_takes bytes n body sub known fulls names ts x e =
    let a = bind_some (parts_at true bytes n body names ts) (λ p. cond (are_some p.0) (fulls_at (sub false) (with_parts names p.0) p.1) None >>= λ ds. Some ((p.0, ds.0), ds.1)) x e in
    let b = bind_some (cond (are_some a.0.0) (fulls_at (sub false) (with_parts names a.0.0) a.0.1) None) (λ ds. Some ((a.0.0, ds.0), ds.1)) x a.2 in
    let c = if_some (are_some a.0.0) (fulls_at (sub false) (with_parts names a.0.0) a.0.1) b.0 b.1 in
    let p = parts_take true bytes n body known names ts a.0 a.1 in
    let d = fulls_take bytes (with_parts names a.0.0) n sub fulls a.0.1 b.0 c.1 in
    subst (λ (y : (Parts × Fulls) × List Token). MemberRun bytes n names y.0 ts y.1) (some_is b.2)
    (record {
      own = p.run.own ++ d.own;
      spelled = record { left = p.run.own; right = d.own; first = p.run.spelled; second = d.spelled; whole = refl };
      front = seam ts p.run.own a.0.1 b.0.1 d.own p.run.front d.front;
      well = (some_parts a.0.0 c.0, p.run.well.1 refl, p.run.well.0, front_of_members bytes (with_parts names a.0.0) (specify a.0.0) b.0.0 a.0.1 d.own b.0.1 p.ends d.front d.spelled, d.well);
      deep = omega (arith, p.run.deep, d.deep);
    })

abbrev MembersRun : List ℕ → ℕ → Scope → Members → List Token → List Token → Type 0
MembersRun bytes n names ms = Run (SpellsMemberDeclarations bytes ms) (AreWellMemberDeclarations names ms) (members_depth ms) n

members_stop : (bytes : List ℕ) (n : ℕ) (names : Scope) (ts : List Token) (x : Members × List Token) → ended_at marks.RightBrace no_member ts ≡ Some x → MembersRun bytes n names x.0 ts x.1
members_stop bytes n names ts x e =
    let h = ended_takes marks.RightBrace no_member ts x e in
    subst (λ (ms : Members). MembersRun bytes n names ms ts x.1) h.same
    (record { own = h.token ∷ []; spelled = record { token = h.token; is = h.is; whole = refl }; front = h.whole; well = tt; deep = omega arith })

members_join : (bytes : List ℕ) (n : ℕ) (names : Scope) (m : Parts × Fulls) (ms : Members) (ts mid rest : List Token) → MemberRun bytes n names m ts mid → MembersRun bytes n (with_parts names m.0) ms mid rest → MembersRun bytes n names (members m.0 m.1 ms) ts rest
members_join bytes n names m ms ts mid rest a b = record {
  own = a.own ++ b.own;
  spelled = regroup (SpellsParts bytes m.0) (SpellsMembers bytes m.1) (SpellsMemberDeclarations bytes ms) (a.own ++ b.own) (record { left = a.own; right = b.own; first = a.spelled; second = b.spelled; whole = refl });
  front = seam ts a.own mid rest b.own a.front b.front;
  well = (a.well.0, a.well.1, a.well.2, a.well.3, a.well.4, b.well);
  deep = omega (arith, a.deep, b.deep);
}

members_take : (bytes : List ℕ) (n : ℕ) (body : Body) (sub : FullReader) → BodyTakes bytes n body → FullTakes bytes n sub → (names : Scope) (ts : List Token) (x : Members × List Token) → some_members_at (members_at bytes n body sub) names ts ≡ Some x → BodyRun bytes names (suc n) x.0 ts x.1
unfolding some_members_at members_at
members_take bytes n body sub known fulls names ts x e =
    let a = bind_some (run_at (members_list bytes n body sub) (length ts + 1) names ts) (λ ms. cond (have_some ms.0) (Some ms) None) x e in
    let b = if_some (have_some a.0.0) (Some a.0) x a.2 in
    let r = run_takes (members_list bytes n body sub) (MemberRun bytes n) (MembersRun bytes n) (members_stop bytes n) (member_takes bytes n body sub known fulls) (members_join bytes n) (length ts + 1) names ts a.0 a.1 in
    subst (λ (y : Members × List Token). BodyRun bytes names (suc n) y.0 ts y.1) (some_is b.1)
    (record {
      run = record { own = r.own; spelled = r.spelled; front = r.front; well = r.well; deep = omega (arith, r.deep) };
      some = some_members a.0.0 b.0;
    })

-- A suffix, by what it is in front of others.
record OneTaken (bytes : List ℕ) (names : Scope) (n : ℕ) (x : OneSuffix) (tokens rest : List Token) : Type 0 where
  pub own : List Token
  pub spelled : (ss : FullSuffixes) (back : List Token) → SpellsFullSuffixes bytes ss back → SpellsFullSuffixes bytes (placed_suffix x ss) (own ++ back)
  pub front : tokens ≡ own ++ rest
  pub well : (ss : FullSuffixes) → AreWellFullSuffixes names ss → AreWellFullSuffixes names (placed_suffix x ss)
  pub deep : (ss : FullSuffixes) → full_suffixes_depth ss ≤ n → full_suffixes_depth (placed_suffix x ss) ≤ n

bound_either : (bytes : List ℕ) (names : Scope) (n : ℕ) (t : Token) (ts mid : List Token) (o : Read Token) (x : OneSuffix × List Token) → t.kind ≡ kinds.Mark marks.LeftBracket → ts ≡ t ∷ mid → token_at (is_mark marks.RightBracket) mid ≡ o → bound_by bytes names n t.line mid o ≡ Some x → OneTaken bytes names n x.0 ts x.1
bound_either bytes names n t ts mid None x is whole f e =
    let a = bind_some (reader bytes names n 3 mid) (λ e. token_at (is_mark marks.RightBracket) e.1 >>= λ x. Some (one_bounded t.line e.0, x.1)) x e in
    let b = bind_some (token_at (is_mark marks.RightBracket) a.0.1) (λ x. Some (one_bounded t.line a.0.0, x.1)) x a.2 in
    let s = reads bytes names n 3 mid a.0 (omega arith) a.1 in
    let h = mark_takes marks.RightBracket a.0.1 b.0 b.1 in
    let own = s.own ++ (b.0.0 ∷ []) in
    subst (λ (y : OneSuffix × List Token). OneTaken bytes names n y.0 ts y.1) (some_is b.2)
    (record {
      own = t ∷ own;
      spelled = λ ss back r. record {
        token = t;
        rest = own ++ back;
        is = record { kind = is; line = refl };
        behind = record {
          left = s.own;
          right = b.0.0 ∷ back;
          first = s.spelled;
          second = record { token = b.0.0; rest = back; is = h.is; behind = r; whole = refl };
          whole = append_assoc s.own (b.0.0 ∷ []) back;
        };
        whole = refl;
      };
      front = in_front_of t ts mid own b.0.1 whole (seam mid s.own a.0.1 b.0.1 (b.0.0 ∷ []) s.front h.whole);
      well = λ ss w. (s.level, s.well, w);
      deep = λ ss d. omega (arith, s.deep, d);
    })
bound_either bytes names n t ts mid (Some y) x is whole f e =
    let h = mark_takes marks.RightBracket mid y f in
    subst (λ (y : OneSuffix × List Token). OneTaken bytes names n y.0 ts y.1) (some_is e)
    (record {
      own = t ∷ (y.0 ∷ []);
      spelled = λ ss back r. record {
        token = t;
        rest = y.0 ∷ back;
        is = record { kind = is; line = refl };
        behind = record { token = y.0; rest = back; is = h.is; behind = r; whole = refl };
        whole = refl;
      };
      front = in_front_of t ts mid (y.0 ∷ []) y.1 whole h.whole;
      well = λ ss w. w;
      deep = λ ss d. d;
    })

-- `void` and a parenthesis
record VoidTaken (ts rest : List Token) : Type 0 where
  pub void : Token
  pub close : Token
  pub is_void : void.kind ≡ kinds.Keyword keywords.Void
  pub is_close : close.kind ≡ kinds.Mark marks.RightParenthesis
  pub whole : ts ≡ void ∷ (close ∷ rest)

void_takes : (ts rest : List Token) → void_at ts ≡ Some rest → VoidTaken ts rest
unfolding void_at
void_takes ts rest e =
    let a = bind_some (token_at (is_keyword keywords.Void) ts) (λ x. token_at (is_mark marks.RightParenthesis) x.1 >>= λ y. Some y.1) rest e in
    let b = bind_some (token_at (is_mark marks.RightParenthesis) a.0.1) (λ y. Some y.1) rest a.2 in
    let h = keyword_takes keywords.Void ts a.0 a.1 in
    let i = mark_takes marks.RightParenthesis a.0.1 b.0 b.1 in
    record {
      void = a.0.0;
      close = b.0.0;
      is_void = h.is;
      is_close = i.is;
      whole = h.whole ∙ ap (λ (xs : List Token). a.0.0 ∷ xs) (i.whole ∙ ap (λ (xs : List Token). b.0.0 ∷ xs) (some_is b.2));
    }

pub void_gives : (ts rest : List Token) (void close : Token) → ts ≡ void ∷ (close ∷ rest) → void.kind ≡ kinds.Keyword keywords.Void → close.kind ≡ kinds.Mark marks.RightParenthesis → void_at ts ≡ Some rest
unfolding void_at
void_gives ts rest void close e f g =
    ap (λ (xs : List Token). token_at (is_keyword keywords.Void) xs >>= λ x. token_at (is_mark marks.RightParenthesis) x.1 >>= λ y. Some y.1) e
    ∙ ap (λ (o : Read Token). o >>= λ x. token_at (is_mark marks.RightParenthesis) x.1 >>= λ y. Some y.1) (keyword_gives keywords.Void void (close ∷ rest) f)
    ∙ ap (λ (o : Read Token). o >>= λ y. Some y.1) (mark_gives marks.RightParenthesis close rest g)

and_true : (a b : Bool) → (a && b) ≡ true → (a ≡ true) × (b ≡ true)
and_true true b e = (refl, e)
and_true false b e = absurd cc

-- the token of a specifier that is `void`
record OneVoid (own : List Token) : Type 0 where
  pub token : Token
  pub is : token.kind ≡ kinds.Keyword keywords.Void
  pub whole : own ≡ token ∷ []

word_void : (bytes : List ℕ) (line : ℕ) (w : TypeWord) (own : List Token) → is_void w ≡ true → SpellsPart bytes (type_part (word line w)) own → OneVoid own
word_void bytes line type_words.Void own e s = record { token = s.token; is = s.is.kind; whole = s.whole }
word_void bytes line type_words.Char own e s = absurd cc
word_void bytes line type_words.Short own e s = absurd cc
word_void bytes line type_words.Int own e s = absurd cc
word_void bytes line type_words.Long own e s = absurd cc
word_void bytes line type_words.Signed own e s = absurd cc
word_void bytes line type_words.Unsigned own e s = absurd cc
word_void bytes line type_words.Bool own e s = absurd cc

part_void : (bytes : List ℕ) (p : Part) (own : List Token) → is_void_part p ≡ true → SpellsPart bytes p own → OneVoid own
part_void bytes (type_part (qualified line q)) own e s = absurd cc
part_void bytes (type_part (word line w)) own e s = word_void bytes line w own e s
part_void bytes (type_part (tagged line kind text)) own e s = absurd cc
part_void bytes (type_part (typedef_name line text)) own e s = absurd cc
part_void bytes (storage line c) own e s = absurd cc
part_void bytes (function line f) own e s = absurd cc
part_void bytes (structure line kind tag ms) own e s = absurd cc
part_void bytes (enumeration line tag es) own e s = absurd cc

parts_void : (bytes : List ℕ) (ps : Parts) (own : List Token) → are_void ps ≡ true → SpellsParts bytes ps own → OneVoid own
parts_void bytes no_part own e s = absurd cc
parts_void bytes (part p no_part) own e s =
    let o = part_void bytes p s.left e s.first in
    record { token = o.token; is = o.is; whole = s.whole ∙ ap (λ (xs : List Token). s.left ++ xs) s.second ∙ ap (λ (xs : List Token). xs ++ []) o.whole }
parts_void bytes (part p (part q ps)) own e s = absurd cc

pub nothing_spelled : (bytes : List ℕ) (d : Full) (own : List Token) → full_is_empty d ≡ true → SpellsFull bytes d own → own ≡ []
nothing_spelled bytes (full_unnamed full_end) own e s = s
nothing_spelled bytes (full_unnamed (full_bounded line b ss)) own e s = absurd cc
nothing_spelled bytes (full_unnamed (full_open line ss)) own e s = absurd cc
nothing_spelled bytes (full_unnamed (full_empty line ss)) own e s = absurd cc
nothing_spelled bytes (full_unnamed (full_void line ss)) own e s = absurd cc
nothing_spelled bytes (full_unnamed (full_parameters line ps v ss)) own e s = absurd cc
nothing_spelled bytes (full_named line text ss) own e s = absurd cc
nothing_spelled bytes (full_inside line d ss) own e s = absurd cc
nothing_spelled bytes (full_pointing line qs d) own e s = absurd cc

-- one parameter that is `void`
void_spelled : (bytes : List ℕ) (ps : Parameters) (variadic : Bool) (ts own rest : List Token) → is_void_alone ps variadic ≡ true → SpellsParameters bytes ps variadic own → ts ≡ own ++ rest → void_at ts ≡ Some rest
void_spelled bytes no_parameter variadic ts own rest e s f = absurd cc
void_spelled bytes (parameter parts d no_parameter) true ts own rest e s f = absurd cc
void_spelled bytes (parameter parts d (parameter others c ps)) variadic ts own rest e s f = absurd cc
void_spelled bytes (parameter parts d no_parameter) false ts own rest e s f =
    let g = and_true (are_void parts) (full_is_empty d) e in
    let o = parts_void bytes parts s.left g.0 s.first in
    let two = s.second in
    let none = nothing_spelled bytes d two.left g.1 two.first in
    let last = two.second in
    let inner : own ≡ o.token ∷ (last.token ∷ []) =
    s.whole ∙ ap (λ (xs : List Token). xs ++ s.right) o.whole
    ∙ ap (λ (xs : List Token). o.token ∷ xs) (two.whole ∙ ap (λ (xs : List Token). xs ++ two.right) none ∙ last.whole) in
    void_gives ts rest o.token last.token (f ∙ ap (λ (xs : List Token). xs ++ rest) inner) o.is last.is

not_when : {A : Type 0} (b : Bool) (o : Option A) (y : A) → (b ≡ true → o ≡ Some y) → o ≡ None → b ≡ false
not_when true o y f e = let g = sym (f refl) ∙ e in absurd cc
not_when false o y f e = refl

-- parameters
abbrev ParameterWell : Scope → Parts × Full → Type 0
ParameterWell names p =
    (p.0 ≢ no_part) × AreWellParts names false p.0 × FrontIsNoType (with_parts names p.0) (specify p.0) p.1 × IsWellFull (with_parts names p.0) true p.1

abbrev ParameterRun : List ℕ → ℕ → Scope → Parts × Full → List Token → List Token → Type 0
ParameterRun bytes n names p = Run (Then (SpellsParts bytes p.0) (SpellsFull bytes p.1)) (ParameterWell names p) (max (parts_depth p.0) (full_depth p.1)) n

parameter_takes : (bytes : List ℕ) (n : ℕ) (body : Body) (sub : FullReader) → BodyTakes bytes n body → FullTakes bytes n sub → (names : Scope) (ts : List Token) (x : (Parts × Full) × List Token) → parameter_at bytes n body sub names ts ≡ Some x → ParameterRun bytes n names x.0 ts x.1
unfolding parameter_at
parameter_takes bytes n body sub known fulls names ts x e =
    let a = bind_some (parts_at false bytes n body names ts) (λ p. cond (are_some p.0) (sub true (with_parts names p.0) p.1) None >>= λ d. Some ((p.0, d.0), d.1)) x e in
    let b = bind_some (cond (are_some a.0.0) (sub true (with_parts names a.0.0) a.0.1) None) (λ d. Some ((a.0.0, d.0), d.1)) x a.2 in
    let c = if_some (are_some a.0.0) (sub true (with_parts names a.0.0) a.0.1) b.0 b.1 in
    let p = parts_take false bytes n body known names ts a.0 a.1 in
    let d = fulls true (with_parts names a.0.0) a.0.1 b.0 c.1 in
    subst (λ (y : (Parts × Full) × List Token). ParameterRun bytes n names y.0 ts y.1) (some_is b.2)
    (record {
      own = p.run.own ++ d.own;
      spelled = record { left = p.run.own; right = d.own; first = p.run.spelled; second = d.spelled; whole = refl };
      front = seam ts p.run.own a.0.1 b.0.1 d.own p.run.front d.front;
      well = (some_parts a.0.0 c.0, p.run.well.0, front_no_type false bytes (with_parts names a.0.0) (specify a.0.0) b.0.0 a.0.1 d.own b.0.1 p.ends d.front d.spelled, d.well.0);
      deep = omega (arith, p.run.deep, d.deep);
    })

abbrev pub SpellsParametersBy : Bool → List ℕ → Parameters → Bool → List Token → Type 0
SpellsParametersBy true bytes ps variadic = SpellsParameters bytes ps variadic
SpellsParametersBy false bytes ps variadic = SpellsOtherParameters bytes ps variadic

pub grouped_behind : (P : Token → Type 0) (A B C : List Token → Type 0) (xs : List Token) → Behind P (Then (Then A B) C) xs → Behind P (Then A (Then B C)) xs
grouped_behind P A B C xs s = record { token = s.token; rest = s.rest; is = s.is; behind = regroup A B C s.rest s.behind; whole = s.whole }

parameters_are : (first : Bool) (bytes : List ℕ) (p : Parts × Full) (ps : Parameters) (variadic : Bool) (own : List Token) → Separated first (Then (Then (SpellsParts bytes p.0) (SpellsFull bytes p.1)) (SpellsOtherParameters bytes ps variadic)) own → SpellsParametersBy first bytes (parameter p.0 p.1 ps) variadic own
parameters_are true bytes p ps variadic own s = regroup (SpellsParts bytes p.0) (SpellsFull bytes p.1) (SpellsOtherParameters bytes ps variadic) own s
parameters_are false bytes p ps variadic own s = grouped_behind (IsMark marks.Comma) (SpellsParts bytes p.0) (SpellsFull bytes p.1) (SpellsOtherParameters bytes ps variadic) own s

-- what closes a list of parameters
record Last (bytes : List ℕ) (first : Bool) (ts : List Token) (x : Bool × List Token) : Type 0 where
  pub own : List Token
  pub spelled : SpellsOtherParameters bytes no_parameter x.0 own
  pub front : ts ≡ own ++ x.1
  pub later : first ≡ false

last_either : (bytes : List ℕ) (ts : List Token) (o : Read Token) (x : Bool × List Token) → token_at (is_mark marks.RightParenthesis) ts ≡ o → last_by ts o ≡ Some x → Last bytes false ts x
unfolding dots_at
last_either bytes ts None x f e =
    let d = bind_some (dots_at ts) (λ rest. Some (true, rest)) x e in
    let a = bind_some (token_at (is_mark marks.Comma) ts) (λ x. token_at (is_mark marks.Ellipsis) x.1 >>= λ y. token_at (is_mark marks.RightParenthesis) y.1 >>= λ z. Some z.1) d.0 d.1 in
    let b = bind_some (token_at (is_mark marks.Ellipsis) a.0.1) (λ y. token_at (is_mark marks.RightParenthesis) y.1 >>= λ z. Some z.1) d.0 a.2 in
    let c = bind_some (token_at (is_mark marks.RightParenthesis) b.0.1) (λ z. Some z.1) d.0 b.2 in
    let h = mark_takes marks.Comma ts a.0 a.1 in
    let i = mark_takes marks.Ellipsis a.0.1 b.0 b.1 in
    let j = mark_takes marks.RightParenthesis b.0.1 c.0 c.1 in
    subst (λ (y : Bool × List Token). Last bytes false ts y) (some_is d.2)
    (record {
      own = a.0.0 ∷ (b.0.0 ∷ (c.0.0 ∷ []));
      spelled = record {
        token = a.0.0;
        rest = b.0.0 ∷ (c.0.0 ∷ []);
        is = h.is;
        behind = record { token = b.0.0; rest = c.0.0 ∷ []; is = i.is; behind = record { token = c.0.0; is = j.is; whole = refl }; whole = refl };
        whole = refl;
      };
      front = h.whole ∙ ap (λ (xs : List Token). a.0.0 ∷ xs) (i.whole ∙ ap (λ (xs : List Token). b.0.0 ∷ xs) (j.whole ∙ ap (λ (xs : List Token). c.0.0 ∷ xs) (some_is c.2)));
      later = refl;
    })
last_either bytes ts (Some y) x f e =
    let h = mark_takes marks.RightParenthesis ts y f in
    subst (λ (y : Bool × List Token). Last bytes false ts y) (some_is e)
    (record { own = y.0 ∷ []; spelled = record { token = y.0; is = h.is; whole = refl }; front = h.whole; later = refl })

last_takes : (bytes : List ℕ) (first : Bool) (ts : List Token) (x : Bool × List Token) → last_at first ts ≡ Some x → Last bytes first ts x
unfolding last_at
last_takes bytes true ts x e = absurd cc
last_takes bytes false ts x e = last_either bytes ts (token_at (is_mark marks.RightParenthesis) ts) x refl e

abbrev SeparateParameter : List ℕ → ℕ → State → Parts × Full → List Token → List Token → Type 0
SeparateParameter bytes n s p = Run (Separated s.1 (Then (SpellsParts bytes p.0) (SpellsFull bytes p.1))) (ParameterWell s.0 p) (max (parts_depth p.0) (full_depth p.1)) n

abbrev ParametersRun : List ℕ → ℕ → State → Parameters × Bool → List Token → List Token → Type 0
ParametersRun bytes n s ps = Run (SpellsParametersBy s.1 bytes ps.0 ps.1) (AreWellParameters s.0 ps.0) (parameters_depth ps.0) n

parameters_stop : (bytes : List ℕ) (n : ℕ) (s : State) (ts : List Token) (x : (Parameters × Bool) × List Token) → (last_at s.1 ts >>= λ x. Some ((no_parameter, x.0), x.1)) ≡ Some x → ParametersRun bytes n s x.0 ts x.1
parameters_stop bytes n s ts x e =
    let a = bind_some (last_at s.1 ts) (λ x. Some ((no_parameter, x.0), x.1)) x e in
    let h = last_takes bytes s.1 ts a.0 a.1 in
    subst (λ (y : (Parameters × Bool) × List Token). ParametersRun bytes n s y.0 ts y.1) (some_is a.2)
    (record {
      own = h.own;
      spelled = subst (λ (b : Bool). SpellsParametersBy b bytes no_parameter a.0.0 h.own) (sym h.later) h.spelled;
      front = h.front;
      well = tt;
      deep = omega arith;
    })

parameters_item : (bytes : List ℕ) (n : ℕ) (body : Body) (sub : FullReader) → BodyTakes bytes n body → FullTakes bytes n sub → (s : State) (ts : List Token) (x : (Parts × Full) × List Token) → (comma_at s.1 ts >>= λ rest. parameter_at bytes n body sub s.0 rest) ≡ Some x → SeparateParameter bytes n s x.0 ts x.1
parameters_item bytes n body sub known fulls s ts x e =
    let a = bind_some (comma_at s.1 ts) (λ rest. parameter_at bytes n body sub s.0 rest) x e in
    comma_takes s.1 (Then (SpellsParts bytes x.0.0) (SpellsFull bytes x.0.1)) (ParameterWell s.0 x.0) (max (parts_depth x.0.0) (full_depth x.0.1)) n ts a.0 x.1 a.1 (parameter_takes bytes n body sub known fulls s.0 a.0 x a.2)

parameters_join : (bytes : List ℕ) (n : ℕ) (s : State) (p : Parts × Full) (ps : Parameters × Bool) (ts mid rest : List Token) → SeparateParameter bytes n s p ts mid → ParametersRun bytes n (with_named (with_parts s.0 p.0) (have_typedef p.0) p.1, false) ps mid rest → ParametersRun bytes n s (parameter p.0 p.1 ps.0, ps.1) ts rest
parameters_join bytes n s p ps ts mid rest a b = record {
  own = a.own ++ b.own;
  spelled = parameters_are s.1 bytes p ps.0 ps.1 (a.own ++ b.own) (separated_joins s.1 (Then (SpellsParts bytes p.0) (SpellsFull bytes p.1)) (SpellsOtherParameters bytes ps.0 ps.1) a.own b.own a.spelled b.spelled);
  front = seam ts a.own mid rest b.own a.front b.front;
  well = (a.well.0, a.well.1, a.well.2, a.well.3, b.well);
  deep = omega (arith, a.deep, b.deep);
}

parameters_take : (bytes : List ℕ) (n : ℕ) (body : Body) (sub : FullReader) → BodyTakes bytes n body → FullTakes bytes n sub → (names : Scope) (ts : List Token) (x : (Parameters × Bool) × List Token) → parameters_at bytes n body sub names ts ≡ Some x → ParametersRun bytes n (names, true) x.0 ts x.1
unfolding parameters_at
parameters_take bytes n body sub known fulls names ts x e =
    run_takes (parameters_list bytes n body sub) (SeparateParameter bytes n) (ParametersRun bytes n) (parameters_stop bytes n) (parameters_item bytes n body sub known fulls) (parameters_join bytes n) (length ts + 1) (names, true) ts x e

given_either : (bytes : List ℕ) (n : ℕ) (body : Body) (sub : FullReader) → BodyTakes bytes n body → FullTakes bytes n sub → (names : Scope) (t : Token) (ts mid : List Token) (o : Option (List Token)) (x : OneSuffix × List Token) → t.kind ≡ kinds.Mark marks.LeftParenthesis → ts ≡ t ∷ mid → void_at mid ≡ o → given_by bytes n body sub names t.line mid o ≡ Some x → OneTaken bytes names n x.0 ts x.1
given_either bytes n body sub known fulls names t ts mid None x is whole f e =
    let a = bind_some (parameters_at bytes n body sub names mid) (λ ps. Some (one_takes t.line ps.0.0 ps.0.1, ps.1)) x e in
    let r = parameters_take bytes n body sub known fulls names mid a.0 a.1 in
    let alone = not_when (is_void_alone a.0.0.0 a.0.0.1) (void_at mid) a.0.1 (λ v. void_spelled bytes a.0.0.0 a.0.0.1 mid r.own a.0.1 v r.spelled r.front) f in
    subst (λ (y : OneSuffix × List Token). OneTaken bytes names n y.0 ts y.1) (some_is a.2)
    (record {
      own = t ∷ r.own;
      spelled = λ ss back s. record {
        token = t;
        rest = r.own ++ back;
        is = record { kind = is; line = refl };
        behind = record { left = r.own; right = back; first = r.spelled; second = s; whole = refl };
        whole = refl;
      };
      front = in_front_of t ts mid r.own a.0.1 whole r.front;
      well = λ ss w. (alone, r.well, w);
      deep = λ ss d. omega (arith, r.deep, d);
    })
given_either bytes n body sub known fulls names t ts mid (Some rest) x is whole f e =
    let v = void_takes mid rest f in
    subst (λ (y : OneSuffix × List Token). OneTaken bytes names n y.0 ts y.1) (some_is e)
    (record {
      own = t ∷ (v.void ∷ (v.close ∷ []));
      spelled = λ ss back s. record {
        token = t;
        rest = v.void ∷ (v.close ∷ back);
        is = record { kind = is; line = refl };
        behind = record { token = v.void; rest = v.close ∷ back; is = v.is_void; behind = record { token = v.close; rest = back; is = v.is_close; behind = s; whole = refl }; whole = refl };
        whole = refl;
      };
      front = in_front_of t ts mid (v.void ∷ (v.close ∷ [])) rest whole v.whole;
      well = λ ss w. w;
      deep = λ ss d. d;
    })

taken_either : (bytes : List ℕ) (n : ℕ) (body : Body) (sub : FullReader) → BodyTakes bytes n body → FullTakes bytes n sub → (names : Scope) (t : Token) (ts mid : List Token) (o : Read Token) (x : OneSuffix × List Token) → t.kind ≡ kinds.Mark marks.LeftParenthesis → ts ≡ t ∷ mid → token_at (is_mark marks.RightParenthesis) mid ≡ o → taken_by bytes n body sub names t.line mid o ≡ Some x → OneTaken bytes names n x.0 ts x.1
unfolding given_at
taken_either bytes n body sub known fulls names t ts mid None x is whole f e =
    given_either bytes n body sub known fulls names t ts mid (void_at mid) x is whole refl e
taken_either bytes n body sub known fulls names t ts mid (Some y) x is whole f e =
    let h = mark_takes marks.RightParenthesis mid y f in
    subst (λ (y : OneSuffix × List Token). OneTaken bytes names n y.0 ts y.1) (some_is e)
    (record {
      own = t ∷ (y.0 ∷ []);
      spelled = λ ss back s. record {
        token = t;
        rest = y.0 ∷ back;
        is = record { kind = is; line = refl };
        behind = record { token = y.0; rest = back; is = h.is; behind = s; whole = refl };
        whole = refl;
      };
      front = in_front_of t ts mid (y.0 ∷ []) y.1 whole h.whole;
      well = λ ss w. w;
      deep = λ ss d. d;
    })

-- what begins a suffix
abbrev OpensKind : Opening → Kind → Type 0
OpensKind openings.Bracket k = k ≡ kinds.Mark marks.LeftBracket
OpensKind openings.Parenthesis k = k ≡ kinds.Mark marks.LeftParenthesis

opening_by : (k : Kind) (a b : Bool) (x : Opening) → is_mark marks.LeftBracket k ≡ a → is_mark marks.LeftParenthesis k ≡ b → cond a (Some openings.Bracket) (cond b (Some openings.Parenthesis) None) ≡ Some x → OpensKind x k
opening_by k true b x f g e = subst (λ y. OpensKind y k) (some_is e) (mark_by marks.LeftBracket k f)
opening_by k false true x f g e = subst (λ y. OpensKind y k) (some_is e) (mark_by marks.LeftParenthesis k g)
opening_by k false false x f g e = absurd cc

record Opened (ts : List Token) (x : Opening × Token × List Token) : Type 0 where
  pub is : OpensKind x.0 x.1.kind
  pub whole : ts ≡ x.1 ∷ x.2

opening_takes : (ts : List Token) (x : Opening × Token × List Token) → opening_at ts ≡ Some x → Opened ts x
unfolding opening_at
opening_takes [] x e = absurd cc
opening_takes (t ∷ ts) x e =
    let a = bind_some (opening_of t.kind) (λ x. Some (x, t, ts)) x e in
    subst (λ (y : Opening × Token × List Token). Opened (t ∷ ts) y) (some_is a.2)
    (record { is = opening_by t.kind (is_mark marks.LeftBracket t.kind) (is_mark marks.LeftParenthesis t.kind) a.0 refl refl a.1; whole = refl })

one_taken : (bytes : List ℕ) (n : ℕ) (body : Body) (sub : FullReader) → BodyTakes bytes n body → FullTakes bytes n sub → (names : Scope) (o : Opening) (t : Token) (ts mid : List Token) (x : OneSuffix × List Token) → OpensKind o t.kind → ts ≡ t ∷ mid → one_from bytes n body sub names o t mid ≡ Some x → OneTaken bytes names n x.0 ts x.1
unfolding one_from bound_at taken_at
one_taken bytes n body sub known fulls names openings.Bracket t ts mid x is whole e =
    bound_either bytes names n t ts mid (token_at (is_mark marks.RightBracket) mid) x is whole refl e
one_taken bytes n body sub known fulls names openings.Parenthesis t ts mid x is whole e =
    taken_either bytes n body sub known fulls names t ts mid (token_at (is_mark marks.RightParenthesis) mid) x is whole refl e

abbrev SuffixesRun : List ℕ → ℕ → Scope → FullSuffixes → List Token → List Token → Type 0
SuffixesRun bytes n names ss = Run (SpellsFullSuffixes bytes ss) (AreWellFullSuffixes names ss) (full_suffixes_depth ss) n

suffixes_end : (bytes : List ℕ) (n : ℕ) (names : Scope) (ts : List Token) (o : Option (Opening × Token × List Token)) (x : FullSuffixes × List Token) → suffixes_stop ts o ≡ Some x → SuffixesRun bytes n names x.0 ts x.1
suffixes_end bytes n names ts None x e =
    subst (λ (y : FullSuffixes × List Token). SuffixesRun bytes n names y.0 ts y.1) (some_is e)
    (record { own = []; spelled = refl; front = refl; well = tt; deep = omega arith })
suffixes_end bytes n names ts (Some y) x e = absurd cc

suffixes_item : (bytes : List ℕ) (n : ℕ) (body : Body) (sub : FullReader) → BodyTakes bytes n body → FullTakes bytes n sub → (names : Scope) (ts : List Token) (x : OneSuffix × List Token) → (opening_at ts >>= λ x. one_from bytes n body sub names x.0 x.1 x.2) ≡ Some x → OneTaken bytes names n x.0 ts x.1
suffixes_item bytes n body sub known fulls names ts x e =
    let a = bind_some (opening_at ts) (λ x. one_from bytes n body sub names x.0 x.1 x.2) x e in
    let b = opening_takes ts a.0 a.1 in
    one_taken bytes n body sub known fulls names a.0.0 a.0.1 ts a.0.2 x b.is b.whole a.2

suffixes_join : (bytes : List ℕ) (n : ℕ) (names : Scope) (x : OneSuffix) (ss : FullSuffixes) (ts mid rest : List Token) → OneTaken bytes names n x ts mid → SuffixesRun bytes n names ss mid rest → SuffixesRun bytes n names (placed_suffix x ss) ts rest
suffixes_join bytes n names x ss ts mid rest a b = record {
  own = a.own ++ b.own;
  spelled = a.spelled ss b.own b.spelled;
  front = seam ts a.own mid rest b.own a.front b.front;
  well = a.well ss b.well;
  deep = a.deep ss b.deep;
}

suffixes_take : (bytes : List ℕ) (n : ℕ) (body : Body) (sub : FullReader) → BodyTakes bytes n body → FullTakes bytes n sub → (names : Scope) (ts : List Token) (x : FullSuffixes × List Token) → suffixes_at bytes n body sub names ts ≡ Some x → SuffixesRun bytes n names x.0 ts x.1
unfolding suffixes_at
suffixes_take bytes n body sub known fulls names ts x e =
    run_takes (suffixes_list bytes n body sub) (λ names x. OneTaken bytes names n x) (SuffixesRun bytes n) (λ names ts x e. suffixes_end bytes n names ts (opening_at ts) x e) (suffixes_item bytes n body sub known fulls) (suffixes_join bytes n) (length ts + 1) names ts x e

-- what a declarator begins with
abbrev DeclaratorStartIs : DeclaratorStart → Bool → Bool → Kind → Type 0
DeclaratorStartIs declarator_starts.Inside inner given k = (k ≡ kinds.Mark marks.LeftParenthesis) × (inner ≡ true → given ≡ false)
DeclaratorStartIs declarator_starts.Name inner given k = k ≡ kinds.Identifier
DeclaratorStartIs declarator_starts.Suffixes inner given k = inner ≡ true
DeclaratorStartIs declarator_starts.Nothing inner given k = inner ≡ true

declarator_start_by : (k : Kind) (inner given a b c : Bool) (h : DeclaratorStart) → is_mark marks.LeftParenthesis k ≡ a → is_identifier k ≡ b → cond a (cond (inner && given) (Some declarator_starts.Suffixes) (Some declarator_starts.Inside)) (cond b (Some declarator_starts.Name) (cond inner (cond c (Some declarator_starts.Suffixes) (Some declarator_starts.Nothing)) None)) ≡ Some h → DeclaratorStartIs h inner given k
declarator_start_by k true true true b c h f g e = subst (λ y. DeclaratorStartIs y true true k) (some_is e) refl
declarator_start_by k true false true b c h f g e = subst (λ y. DeclaratorStartIs y true false k) (some_is e) (mark_by marks.LeftParenthesis k f, λ _. refl)
declarator_start_by k false given true b c h f g e = subst (λ y. DeclaratorStartIs y false given k) (some_is e) (mark_by marks.LeftParenthesis k f, λ e. absurd cc)
declarator_start_by k inner given false true c h f g e = subst (λ y. DeclaratorStartIs y inner given k) (some_is e) (identifier_by k g)
declarator_start_by k true given false false true h f g e = subst (λ y. DeclaratorStartIs y true given k) (some_is e) refl
declarator_start_by k true given false false false h f g e = subst (λ y. DeclaratorStartIs y true given k) (some_is e) refl
declarator_start_by k false given false false c h f g e = absurd cc

pub either_false : (a b : Bool) → (a || b) ≡ false → (a ≡ false) × (b ≡ false)
either_false true b e = absurd cc
either_false false b e = (refl, e)

not_there : {A : Type 0} (o : Option A) → is_there o ≡ false → o ≡ None
not_there None e = refl
not_there (Some x) e = absurd cc

-- a declarator in parentheses isn't empty
pub named_full : (d : Full) → full_has_name d ≡ true → full_is_empty d ≡ false
named_full (full_unnamed ss) e = absurd cc
named_full (full_named line text ss) e = refl
named_full (full_inside line d ss) e = refl
named_full (full_pointing line qs d) e = refl

true_and_false : {P : Type 0} (b : Bool) → b ≡ true → b ≡ false → P
true_and_false true e f = absurd cc
true_and_false false e f = absurd cc

some_full : (bytes : List ℕ) (names : Scope) (d : Full) (ts own mid : List Token) (y : Token × List Token) → SpellsFull bytes d own → ts ≡ own ++ mid → token_at (is_mark marks.RightParenthesis) mid ≡ Some y → takes bytes names ts ≡ false → full_is_empty d ≡ false
some_full bytes names (full_unnamed full_end) ts own mid y s e f g =
    let there = ap (stands marks.RightParenthesis) (e ∙ ap (λ (xs : List Token). xs ++ mid) s) ∙ ap (λ (o : Read Token). is_there o) f in
    true_and_false (stands marks.RightParenthesis ts) there (either_false (stands marks.RightParenthesis ts) (is_there (start_at false bytes (names, false) ts)) g).0
some_full bytes names (full_unnamed (full_bounded line b ss)) ts own mid y s e f g = refl
some_full bytes names (full_unnamed (full_open line ss)) ts own mid y s e f g = refl
some_full bytes names (full_unnamed (full_empty line ss)) ts own mid y s e f g = refl
some_full bytes names (full_unnamed (full_void line ss)) ts own mid y s e f g = refl
some_full bytes names (full_unnamed (full_parameters line ps v ss)) ts own mid y s e f g = refl
some_full bytes names (full_named line text ss) ts own mid y s e f g = refl
some_full bytes names (full_inside line d ss) ts own mid y s e f g = refl
some_full bytes names (full_pointing line qs d) ts own mid y s e f g = refl

inside_full : (bytes : List ℕ) (inner : Bool) (names : Scope) (d : Full) (ts own mid : List Token) (y : Token × List Token) → SpellsFull bytes d own → (inner ≡ false → full_has_name d ≡ true) → ts ≡ own ++ mid → token_at (is_mark marks.RightParenthesis) mid ≡ Some y → (inner ≡ true → takes bytes names ts ≡ false) → full_is_empty d ≡ false
inside_full bytes true names d ts own mid y s h e f g = some_full bytes names d ts own mid y s e f (g refl)
inside_full bytes false names d ts own mid y s h e f g = named_full d (h refl)

inside_no_type : (bytes : List ℕ) (inner : Bool) (names : Scope) (d : Full) (ts own mid : List Token) → SpellsFull bytes d own → ts ≡ own ++ mid → (inner ≡ true → takes bytes names ts ≡ false) → OpensNoType names inner d
inside_no_type bytes false names d ts own mid s e g = tt
inside_no_type bytes true names d ts own mid s e g =
    let start = start_at false bytes (names, false) ts in
    front_no_type false bytes names false d ts own mid (not_there start (either_false (stands marks.RightParenthesis ts) (is_there start) (g refl)).1) e s

inside_takes : (bytes : List ℕ) (n : ℕ) (body : Body) (sub : FullReader) → BodyTakes bytes n body → FullTakes bytes n sub → (inner : Bool) (names : Scope) (t : Token) (ts : List Token) (x : Full × List Token) → t.kind ≡ kinds.Mark marks.LeftParenthesis → (inner ≡ true → takes bytes names ts ≡ false) → inside_at bytes n body sub inner names t.line ts ≡ Some x → FullRun bytes (suc n) inner names x.0 (t ∷ ts) x.1
unfolding inside_at
inside_takes bytes n body sub known fulls inner names t ts x is no_types e =
    let a = bind_some (sub inner names ts) (λ d. token_at (is_mark marks.RightParenthesis) d.1 >>= λ x. suffixes_at bytes n body sub names x.1 >>= λ ss. Some (full_inside t.line d.0 ss.0, ss.1)) x e in
    let b = bind_some (token_at (is_mark marks.RightParenthesis) a.0.1) (λ x. suffixes_at bytes n body sub names x.1 >>= λ ss. Some (full_inside t.line a.0.0 ss.0, ss.1)) x a.2 in
    let c = bind_some (suffixes_at bytes n body sub names b.0.1) (λ ss. Some (full_inside t.line a.0.0 ss.0, ss.1)) x b.2 in
    let d = fulls inner names ts a.0 a.1 in
    let h = mark_takes marks.RightParenthesis a.0.1 b.0 b.1 in
    let s = suffixes_take bytes n body sub known fulls names b.0.1 c.0 c.1 in
    let own = d.own ++ (b.0.0 ∷ s.own) in
    subst (λ (y : Full × List Token). FullRun bytes (suc n) inner names y.0 (t ∷ ts) y.1) (some_is c.2)
    (record {
      own = t ∷ own;
      spelled = record {
        token = t;
        rest = own;
        is = record { kind = is; line = refl };
        behind = record {
          left = d.own;
          right = b.0.0 ∷ s.own;
          first = d.spelled;
          second = record { token = b.0.0; rest = s.own; is = h.is; behind = s.spelled; whole = refl };
          whole = refl;
        };
        whole = refl;
      };
      front = ap (λ (xs : List Token). t ∷ xs) (seam ts d.own a.0.1 c.0.1 (b.0.0 ∷ s.own) d.front (h.whole ∙ ap (λ (xs : List Token). b.0.0 ∷ xs) s.front));
      well = (
        (
          inside_full bytes inner names a.0.0 ts d.own a.0.1 b.0 d.spelled d.well.1 d.front b.1 no_types,
          inside_no_type bytes inner names a.0.0 ts d.own a.0.1 d.spelled d.front no_types,
          d.well.0,
          s.well,
        ),
        d.well.1,
      );
      deep = omega (arith, d.deep, s.deep);
    })

unnamed_deep : (n : ℕ) (ss : FullSuffixes) → full_suffixes_depth ss ≤ n → full_depth (full_unnamed ss) ≤ suc n
unnamed_deep n full_end h = omega arith
unnamed_deep n (full_bounded line e ss) h = omega arith
unnamed_deep n (full_open line ss) h = omega arith
unnamed_deep n (full_empty line ss) h = omega arith
unnamed_deep n (full_void line ss) h = omega arith
unnamed_deep n (full_parameters line ps v ss) h = omega arith

inner_only : (inner : Bool) (b : Bool) → inner ≡ true → inner ≡ false → b ≡ true
inner_only true b e f = absurd cc
inner_only false b e f = absurd cc

empty_run : (bytes : List ℕ) (n : ℕ) (inner : Bool) (names : Scope) (ts : List Token) → inner ≡ true → FullRun bytes n inner names (full_unnamed full_end) ts ts
empty_run bytes n inner names ts h = record { own = []; spelled = refl; front = refl; well = (tt, inner_only inner false h); deep = omega arith }

declarator_start_none : (bytes : List ℕ) (inner : Bool) (names : Scope) (h : DeclaratorStart) → cond inner (Some declarator_starts.Nothing) None ≡ Some h → (h ≡ declarator_starts.Nothing) × (inner ≡ true)
declarator_start_none bytes true names h e = (sym (some_is e), refl)
declarator_start_none bytes false names h e = absurd cc

full_by : (bytes : List ℕ) (n : ℕ) (body : Body) (sub : FullReader) → BodyTakes bytes n body → FullTakes bytes n sub → (inner : Bool) (names : Scope) (h : DeclaratorStart) (t : Token) (ts : List Token) (x : Full × List Token) → DeclaratorStartIs h inner (takes bytes names ts) t.kind → full_from bytes n body sub inner names h (t ∷ ts) ≡ Some x → FullRun bytes (suc n) inner names x.0 (t ∷ ts) x.1
unfolding full_from
full_by bytes n body sub known fulls inner names declarator_starts.Nothing t ts x is e =
    subst (λ (y : Full × List Token). FullRun bytes (suc n) inner names y.0 (t ∷ ts) y.1) (some_is e) (empty_run bytes (suc n) inner names (t ∷ ts) is)
full_by bytes n body sub known fulls inner names declarator_starts.Suffixes t ts x is e =
    let a = bind_some (suffixes_at bytes n body sub names (t ∷ ts)) (λ ss. Some (full_unnamed ss.0, ss.1)) x e in
    let s = suffixes_take bytes n body sub known fulls names (t ∷ ts) a.0 a.1 in
    subst (λ (y : Full × List Token). FullRun bytes (suc n) inner names y.0 (t ∷ ts) y.1) (some_is a.2)
    (record { own = s.own; spelled = s.spelled; front = s.front; well = (s.well, inner_only inner false is); deep = unnamed_deep n a.0.0 s.deep })
full_by bytes n body sub known fulls inner names declarator_starts.Name t ts x is e =
    let a = bind_some (suffixes_at bytes n body sub names ts) (λ ss. Some (full_named t.line (text_of bytes t) ss.0, ss.1)) x e in
    let s = suffixes_take bytes n body sub known fulls names ts a.0 a.1 in
    subst (λ (y : Full × List Token). FullRun bytes (suc n) inner names y.0 (t ∷ ts) y.1) (some_is a.2)
    (record {
      own = t ∷ s.own;
      spelled = record { token = t; rest = s.own; is = record { kind = is; line = refl; text = refl }; behind = s.spelled; whole = refl };
      front = ap (λ (xs : List Token). t ∷ xs) s.front;
      well = (s.well, λ _. refl);
      deep = omega (arith, s.deep);
    })
full_by bytes n body sub known fulls inner names declarator_starts.Inside t ts x is e = inside_takes bytes n body sub known fulls inner names t ts x is.0 is.1 e

full_begun : (bytes : List ℕ) (n : ℕ) (body : Body) (sub : FullReader) → BodyTakes bytes n body → FullTakes bytes n sub → (inner : Bool) (names : Scope) (h : DeclaratorStart) (ts : List Token) (x : Full × List Token) → declarator_start_at inner bytes names ts ≡ Some h → full_from bytes n body sub inner names h ts ≡ Some x → FullRun bytes (suc n) inner names x.0 ts x.1
unfolding declarator_start_at full_from
full_begun bytes n body sub known fulls inner names h [] x f e =
    let g = declarator_start_none bytes inner names h f in
    let k : full_from bytes n body sub inner names declarator_starts.Nothing [] ≡ Some x = ap (λ (y : DeclaratorStart). full_from bytes n body sub inner names y []) (sym g.0) ∙ e in
    subst (λ (y : Full × List Token). FullRun bytes (suc n) inner names y.0 [] y.1) (some_is k) (empty_run bytes (suc n) inner names [] g.1)
full_begun bytes n body sub known fulls inner names h (t ∷ ts) x f e =
    full_by bytes n body sub known fulls inner names h t ts x
    (declarator_start_by t.kind inner (takes bytes names ts) (is_mark marks.LeftParenthesis t.kind) (is_identifier t.kind) (is_mark marks.LeftBracket t.kind) h refl refl f) e

bare_inner : (bytes : List ℕ) (inner : Bool) (names : Scope) (ts : List Token) → declarator_start_at inner bytes names ts ≡ Some declarator_starts.Nothing → inner ≡ true
unfolding declarator_start_at
bare_inner bytes inner names [] f = (declarator_start_none bytes inner names declarator_starts.Nothing f).1
bare_inner bytes inner names (t ∷ ts) f =
    declarator_start_by t.kind inner (takes bytes names ts) (is_mark marks.LeftParenthesis t.kind) (is_identifier t.kind) (is_mark marks.LeftBracket t.kind) declarator_starts.Nothing refl refl f

bare_takes : (bytes : List ℕ) (inner : Bool) (names : Scope) (h : DeclaratorStart) (ts : List Token) (x : Full × List Token) → declarator_start_at inner bytes names ts ≡ Some h → bare_full h ts ≡ Some x → FullRun bytes 0 inner names x.0 ts x.1
bare_takes bytes inner names declarator_starts.Nothing ts x f e =
    subst (λ (y : Full × List Token). FullRun bytes 0 inner names y.0 ts y.1) (some_is e) (empty_run bytes 0 inner names ts (bare_inner bytes inner names ts f))
bare_takes bytes inner names declarator_starts.Suffixes ts x f e = absurd cc
bare_takes bytes inner names declarator_starts.Name ts x f e = absurd cc
bare_takes bytes inner names declarator_starts.Inside ts x f e = absurd cc

mutual
  unfolding body_at full_at

  pub body_takes : (bytes : List ℕ) (n : ℕ) → BodyTakes bytes n (body_at bytes n)
  body_takes bytes zero names ts x e = absurd cc
  body_takes bytes (suc n) names ts x e = members_take bytes n (body_at bytes n) (full_at bytes n) (body_takes bytes n) (full_takes bytes n) names ts x e

  pub full_takes : (bytes : List ℕ) (n : ℕ) → FullTakes bytes n (full_at bytes n)
  full_takes bytes zero inner names ts x e =
      let a = bind_some (declarator_start_at inner bytes names ts) (λ h. bare_full h ts) x e in
      bare_takes bytes inner names a.0 ts x a.1 a.2
  full_takes bytes (suc n) inner names ts x e =
      let a = bind_some (declarator_start_at inner bytes names ts) (λ h. full_from bytes n (body_at bytes n) (full_at bytes n) inner names h ts) x e in
      full_begun bytes n (body_at bytes n) (full_at bytes n) (body_takes bytes n) (full_takes bytes n) inner names a.0 ts x a.1 a.2
