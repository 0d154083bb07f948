-- Reading specifiers, declarators and declarations from left to right, with the names that are those of types and the levels that
-- the parts may have.
use Rattle.std.specs.Prelude.{ℕ, zero, suc, ◌+◌, List, [], ◌∷◌, length, Bool, true, false, not, ◌&&◌, ◌||◌, if◌then◌else◌, Option, Some, None}
use Rattle.std.specs.Str.{bytes_eq}
use Rattle.c_token.specs.declared.token.Token.{Token}
use Rattle.c_token.specs.declared.token.Kind.{Kind}
use Rattle.c_token.specs.declared.token.Kind.TheVariants as kinds
use Rattle.c_token.specs.declared.token.Keyword.{Keyword}
use Rattle.c_token.specs.declared.token.Keyword.TheVariants as keywords
use Rattle.c_token.specs.declared.token.Mark.{Mark}
use Rattle.c_token.specs.declared.token.Mark.TheVariants as marks
use Rattle.c_token.specs.Spelling.{keyword_text}
use Rattle.c_token.specs.Spelling.{text_of}
use Rattle.c_tree.specs.declared.specifier.TagKind.{TagKind}
use Rattle.c_tree.specs.declared.specifier.TagKind.TheVariants as tag_kinds
use Rattle.c_tree.specs.declared.declaration.RecordKind.{RecordKind}
use Rattle.c_tree.specs.Tree.{qualified, word, tagged, typedef_name, Tree}
use Rattle.c_tree.specs.Names.{Scope, is_type}
use Rattle.c_tree.specs.Declarations.{Enumerated, Part, type_part, storage, function, structure, enumeration, Parts, no_part, part, Members, no_member, members, Full, full_unnamed, full_named, full_inside, Fulls, no_full, full, FullSuffixes, full_end, full_bounded, full_open, full_empty, full_void, full_parameters, Parameters, no_parameter, parameter, Initial, initial, braces, Initials, no_initial, initials, Declarators, none_declared, declarator, name_of, with_part, with_parts, with_named, have_typedef, specifies}
use Rattle.c_parse_expr.specs.declared.frames.Frame.{Frame}
use Rattle.c_parse_expr.specs.inner.Many.{◌>>=◌}
use Rattle.c_parse_expr.specs.Reading.{is_mark}
use Rattle.c_parse_expr.specs.inner.Reading.{is_identifier, reader}
use Rattle.c_parse_parts.specs.declared.slices.DeclaratorStart.{DeclaratorStart}
use Rattle.c_parse_parts.specs.declared.slices.DeclaratorStart.TheVariants as declarator_starts
use Rattle.c_parse_parts.specs.declared.slices.Opening.{Opening}
use Rattle.c_parse_parts.specs.declared.slices.Opening.TheVariants as openings
use Rattle.c_parse_parts.specs.declared.table.Start.{Start}
use Rattle.c_parse_parts.specs.declared.table.Start.TheVariants as starts
use Rattle.c_parse_parts.specs.Tables.{start_of_keyword, record_tag}

abbrev pub is_keyword : Keyword → Kind → Bool
is_keyword keyword kinds.Identifier = false
is_keyword keyword (kinds.Keyword k) = bytes_eq (keyword_text k) (keyword_text keyword)
is_keyword keyword (kinds.Constant c) = false
is_keyword keyword (kinds.Character c) = false
is_keyword keyword kinds.String = false
is_keyword keyword (kinds.Mark m) = false

-- what stands at the front of tokens, and the tokens behind it
abbrev pub Read : Type 0 → Type 0
Read A = Option (A × List Token)

-- the first token, where its kind passes
unfoldable pub token_at : (Kind → Bool) → List Token → Read Token
token_at p [] = None
token_at p (t ∷ ts) = if p t.kind then Some (t, ts) else None

abbrev pub is_there : {A : Type 0} → Option A → Bool
is_there None = false
is_there (Some x) = true

-- a mark stands at the front
abbrev pub stands : Mark → List Token → Bool
stands mark ts = is_there (token_at (is_mark mark) ts)

abbrev pub or_else : {A : Type 0} → Option A → Option A → Option A
or_else None other = other
or_else (Some x) other = Some x

-- How a list is read: what is known behind an item, how the item stands in front of others, what ends the list, and an item.
pub record Listing (S A T : Type 0) : Type 0 where
  pub after : S → A → S
  pub put : A → T → T
  pub stop : S → List Token → Read T
  pub item : S → List Token → Read A

-- a list of fewer than m items, up to what ends it
unfoldable pub run_at : {S A T : Type 0} → Listing S A T → ℕ → S → List Token → Read T
run_at l zero s ts = None
run_at l (suc m) s ts = or_else (l.stop s ts) (do
  x ← l.item s ts
  y ← run_at l m (l.after s x.0) x.1
  Some (l.put x.0 y.0, y.1))

-- before the first item nothing, before the others a comma
unfoldable pub comma_at : Bool → List Token → Option (List Token)
comma_at true ts = Some ts
comma_at false ts = token_at (is_mark marks.Comma) ts >>= λ x. Some x.1

-- an item of a list
abbrev pub next_at : {A : Type 0} → Bool → (List Token → Read A) → List Token → Read A
next_at first item ts = comma_at first ts >>= item

-- the brace that closes a list, with a comma before it or not; a list has an item
unfoldable pub shut_at : Bool → List Token → Option (List Token)
shut_at true ts = None
shut_at false ts = or_else (token_at (is_mark marks.RightBrace) ts >>= λ x. Some x.1) (do
  x ← token_at (is_mark marks.Comma) ts
  y ← token_at (is_mark marks.RightBrace) x.1
  Some y.1)

-- a list that ends at the mark
unfoldable pub ended_at : {T : Type 0} → Mark → T → List Token → Read T
ended_at mark t ts = token_at (is_mark mark) ts >>= λ x. Some (t, x.1)

-- names, and whether a type is specified, or whether no item came yet
abbrev pub State : Type 0
State = Scope × Bool

abbrev pub start_by : Bool → Kind → Option Start
start_by named kinds.Identifier = if named then Some starts.Name else None
start_by named (kinds.Keyword k) = start_of_keyword k
start_by named (kinds.Constant c) = None
start_by named (kinds.Character c) = None
start_by named kinds.String = None
start_by named (kinds.Mark m) = None

-- among the specifiers of members stands no storage class and no function specifier
abbrev pub kept : Bool → Start → Option Start
kept inner (starts.Qualifier q) = Some (starts.Qualifier q)
kept inner (starts.Word w) = Some (starts.Word w)
kept inner (starts.Storage c) = if inner then None else Some (starts.Storage c)
kept inner (starts.Function f) = if inner then None else Some (starts.Function f)
kept inner (starts.Record k) = Some (starts.Record k)
kept inner starts.Enumeration = Some starts.Enumeration
kept inner starts.Name = Some starts.Name

-- what a token begins among specifiers: a name does where it is that of a type and no type is specified before it
abbrev pub start_of : Bool → List ℕ → State → Token → Option Start
start_of inner bytes s t = start_by (not s.1 && is_type s.0 (text_of bytes t)) t.kind >>= kept inner

-- what the first token begins among specifiers, the token, and those behind it
unfoldable pub start_at : Bool → List ℕ → State → List Token → Option (Start × Token × List Token)
start_at inner bytes s [] = None
start_at inner bytes s (t ∷ ts) = start_of inner bytes s t >>= λ x. Some (x, t, ts)

abbrev pub tag_by : List ℕ → List Token → Read Token → Option (List ℕ) × List Token
tag_by bytes ts None = (None, ts)
tag_by bytes ts (Some x) = (Some (text_of bytes x.0), x.1)

-- the tag at the front, if one stands there
unfoldable pub tag_at : List ℕ → List Token → Option (List ℕ) × List Token
tag_at bytes ts = tag_by bytes ts (token_at is_identifier ts)

-- without braces a tag is owed
abbrev pub tagged_by : TagKind → ℕ → Option (List ℕ) → List Token → Read Part
tagged_by kind line None ts = None
tagged_by kind line (Some n) ts = Some (type_part (tagged line kind n), ts)

-- the members of a structure behind its brace
abbrev pub Body : Type 0
Body = Scope → List Token → Read Members

abbrev pub record_by : Body → Scope → ℕ → RecordKind → Option (List ℕ) → List Token → Read Token → Read Part
record_by body names line kind tag ts None = tagged_by (record_tag kind) line tag ts
record_by body names line kind tag ts (Some x) = do
  ms ← body names x.1
  Some (structure line kind tag ms.0, ms.1)

abbrev pub record_from : Body → Scope → ℕ → RecordKind → Option (List ℕ) × List Token → Read Part
record_from body names line kind g = record_by body names line kind g.0 g.1 (token_at (is_mark marks.LeftBrace) g.1)

-- behind the keyword of a structure or a union
unfoldable pub record_at : List ℕ → Body → Scope → ℕ → RecordKind → List Token → Read Part
record_at bytes body names line kind ts = record_from body names line kind (tag_at bytes ts)

abbrev pub value_by : List ℕ → Scope → ℕ → List Token → Read Token → Read (Option Tree)
value_by bytes names n ts None = Some (None, ts)
value_by bytes names n ts (Some x) = do
  e ← reader bytes names n 3 x.1
  Some (Some e.0, e.1)

-- the value of an enumerator, if a `=` stands there
unfoldable pub value_at : List ℕ → Scope → ℕ → List Token → Read (Option Tree)
value_at bytes names n ts = value_by bytes names n ts (token_at (is_mark marks.Equal) ts)

unfoldable pub enumerator_at : List ℕ → Scope → ℕ → List Token → Read Enumerated
enumerator_at bytes names n ts = do
  x ← token_at is_identifier ts
  e ← value_at bytes names n x.1
  Some (record { line = x.0.line; name = text_of bytes x.0; value = e.0 }, e.1)

abbrev pub enumerators_list : List ℕ → ℕ → Listing State Enumerated (List Enumerated)
enumerators_list bytes n = record {
  after = λ s e. ((e.name, false) ∷ s.0, false);
  put = λ e es. e ∷ es;
  stop = λ s ts. shut_at s.1 ts >>= λ rest. Some ([], rest);
  item = λ s ts. comma_at s.1 ts >>= λ rest. enumerator_at bytes s.0 n rest;
}

-- enumerators and the brace that closes them
unfoldable pub enumerators_at : List ℕ → Scope → ℕ → List Token → Read (List Enumerated)
enumerators_at bytes names n ts = run_at (enumerators_list bytes n) (length ts + 1) (names, true) ts

abbrev pub enumeration_by : List ℕ → Scope → ℕ → ℕ → Option (List ℕ) → List Token → Read Token → Read Part
enumeration_by bytes names n line tag ts None = tagged_by tag_kinds.Enum line tag ts
enumeration_by bytes names n line tag ts (Some x) = do
  es ← enumerators_at bytes names n x.1
  Some (enumeration line tag es.0, es.1)

abbrev pub enumeration_from : List ℕ → Scope → ℕ → ℕ → Option (List ℕ) × List Token → Read Part
enumeration_from bytes names n line g = enumeration_by bytes names n line g.0 g.1 (token_at (is_mark marks.LeftBrace) g.1)

-- behind the keyword of an enumeration
unfoldable pub enumeration_at : List ℕ → Scope → ℕ → ℕ → List Token → Read Part
enumeration_at bytes names n line ts = enumeration_from bytes names n line (tag_at bytes ts)

-- a specifier that a token begins
unfoldable pub part_from : List ℕ → ℕ → Body → Scope → Start → Token → List Token → Read Part
part_from bytes n body names (starts.Qualifier q) t ts = Some (type_part (qualified t.line q), ts)
part_from bytes n body names (starts.Word w) t ts = Some (type_part (word t.line w), ts)
part_from bytes n body names (starts.Storage c) t ts = Some (storage t.line c, ts)
part_from bytes n body names (starts.Function f) t ts = Some (function t.line f, ts)
part_from bytes n body names (starts.Record kind) t ts = record_at bytes body names t.line kind ts
part_from bytes n body names starts.Enumeration t ts = enumeration_at bytes names n t.line ts
part_from bytes n body names starts.Name t ts = Some (type_part (typedef_name t.line (text_of bytes t)), ts)

abbrev pub parts_stop : List Token → Option (Start × Token × List Token) → Read Parts
parts_stop ts None = Some (no_part, ts)
parts_stop ts (Some x) = None

abbrev pub parts_list : Bool → List ℕ → ℕ → Body → Listing State Part Parts
parts_list inner bytes n body = record {
  after = λ s p. (with_part s.0 p, s.1 || specifies p);
  put = part;
  stop = λ s ts. parts_stop ts (start_at inner bytes s ts);
  item = λ s ts. start_at inner bytes s ts >>= λ x. part_from bytes n body s.0 x.0 x.1 x.2;
}

-- the specifiers at the front, of members or of others
unfoldable pub parts_at : Bool → List ℕ → ℕ → Body → Scope → List Token → Read Parts
parts_at inner bytes n body names ts = run_at (parts_list inner bytes n body) (length ts + 1) (names, false) ts

abbrev pub are_some : Parts → Bool
are_some no_part = false
are_some (part first rest) = true

-- the declarators of members and the `;` behind them
abbrev pub fulls_list : (Scope → List Token → Read Full) → Listing State Full Fulls
fulls_list item = record {
  after = λ s d. (s.0, false);
  put = full;
  stop = λ s ts. ended_at marks.Semicolon no_full ts;
  item = λ s ts. comma_at s.1 ts >>= λ rest. item s.0 rest;
}

unfoldable pub fulls_at : (Scope → List Token → Read Full) → Scope → List Token → Read Fulls
fulls_at item names ts = run_at (fulls_list item) (length ts + 1) (names, true) ts

-- reads a declarator, of a parameter or not
abbrev pub FullReader : Type 0
FullReader = Bool → Scope → List Token → Read Full

-- a declaration of members
unfoldable pub member_at : List ℕ → ℕ → Body → FullReader → Scope → List Token → Read (Parts × Fulls)
member_at bytes n body sub names ts = do
  p ← parts_at true bytes n body names ts
  ds ← (if are_some p.0 then fulls_at (sub false) (with_parts names p.0) p.1 else None)
  Some ((p.0, ds.0), ds.1)

abbrev pub members_list : List ℕ → ℕ → Body → FullReader → Listing Scope (Parts × Fulls) Members
members_list bytes n body sub = record {
  after = λ s m. with_parts s m.0;
  put = λ m ms. members m.0 m.1 ms;
  stop = λ s ts. ended_at marks.RightBrace no_member ts;
  item = member_at bytes n body sub;
}

abbrev pub have_some : Members → Bool
have_some no_member = false
have_some (members parts ds rest) = true

-- declarations of members, and the brace that closes them
unfoldable pub members_at : List ℕ → ℕ → Body → FullReader → Body
members_at bytes n body sub names ts = run_at (members_list bytes n body sub) (length ts + 1) names ts

-- one at least
unfoldable pub some_members_at : Body → Body
some_members_at body names ts = do
  ms ← body names ts
  if have_some ms.0 then Some ms else None

-- a suffix of a declarator, apart from those behind it
pub data OneSuffix : Type 0 where
  one_bounded : (line : ℕ) (bound : Tree) → OneSuffix
  one_open : (line : ℕ) → OneSuffix
  one_empty : (line : ℕ) → OneSuffix
  one_void : (line : ℕ) → OneSuffix
  one_takes : (line : ℕ) (parameters : Parameters) (variadic : Bool) → OneSuffix

abbrev pub placed_suffix : OneSuffix → FullSuffixes → FullSuffixes
placed_suffix (one_bounded line e) rest = full_bounded line e rest
placed_suffix (one_open line) rest = full_open line rest
placed_suffix (one_empty line) rest = full_empty line rest
placed_suffix (one_void line) rest = full_void line rest
placed_suffix (one_takes line ps variadic) rest = full_parameters line ps variadic rest

abbrev pub opening_of : Kind → Option Opening
opening_of k =
    if is_mark marks.LeftBracket k then Some openings.Bracket
    else (if is_mark marks.LeftParenthesis k then Some openings.Parenthesis else None)

-- what begins a suffix
unfoldable pub opening_at : List Token → Option (Opening × Token × List Token)
opening_at [] = None
opening_at (t ∷ ts) = opening_of t.kind >>= λ x. Some (x, t, ts)

abbrev pub bound_by : List ℕ → Scope → ℕ → ℕ → List Token → Read Token → Read OneSuffix
bound_by bytes names n line ts None = do
  e ← reader bytes names n 3 ts
  x ← token_at (is_mark marks.RightBracket) e.1
  Some (one_bounded line e.0, x.1)
bound_by bytes names n line ts (Some x) = Some (one_open line, x.1)

-- behind the bracket
unfoldable pub bound_at : List ℕ → Scope → ℕ → ℕ → List Token → Read OneSuffix
bound_at bytes names n line ts = bound_by bytes names n line ts (token_at (is_mark marks.RightBracket) ts)

-- `void` and a parenthesis at the front, and the tokens behind them
unfoldable pub void_at : List Token → Option (List Token)
void_at ts = do
  x ← token_at (is_keyword keywords.Void) ts
  y ← token_at (is_mark marks.RightParenthesis) x.1
  Some y.1

-- a comma, `...` and a parenthesis at the front
unfoldable pub dots_at : List Token → Option (List Token)
dots_at ts = do
  x ← token_at (is_mark marks.Comma) ts
  y ← token_at (is_mark marks.Ellipsis) x.1
  z ← token_at (is_mark marks.RightParenthesis) y.1
  Some z.1

abbrev pub last_by : List Token → Read Token → Read Bool
last_by ts None = dots_at ts >>= λ rest. Some (true, rest)
last_by ts (Some x) = Some (false, x.1)

-- what closes a list of parameters, with `...` before it or not; the list has a parameter
unfoldable pub last_at : Bool → List Token → Read Bool
last_at true ts = None
last_at false ts = last_by ts (token_at (is_mark marks.RightParenthesis) ts)

unfoldable pub parameter_at : List ℕ → ℕ → Body → FullReader → Scope → List Token → Read (Parts × Full)
parameter_at bytes n body sub names ts = do
  p ← parts_at false bytes n body names ts
  d ← (if are_some p.0 then sub true (with_parts names p.0) p.1 else None)
  Some ((p.0, d.0), d.1)

abbrev pub parameters_list : List ℕ → ℕ → Body → FullReader → Listing State (Parts × Full) (Parameters × Bool)
parameters_list bytes n body sub = record {
  after = λ s p. (with_named (with_parts s.0 p.0) (have_typedef p.0) p.1, false);
  put = λ p ps. (parameter p.0 p.1 ps.0, ps.1);
  stop = λ s ts. last_at s.1 ts >>= λ x. Some ((no_parameter, x.0), x.1);
  item = λ s ts. comma_at s.1 ts >>= λ rest. parameter_at bytes n body sub s.0 rest;
}

-- parameters and the parenthesis that closes them
unfoldable pub parameters_at : List ℕ → ℕ → Body → FullReader → Scope → List Token → Read (Parameters × Bool)
parameters_at bytes n body sub names ts = run_at (parameters_list bytes n body sub) (length ts + 1) (names, true) ts

abbrev pub given_by : List ℕ → ℕ → Body → FullReader → Scope → ℕ → List Token → Option (List Token) → Read OneSuffix
given_by bytes n body sub names line ts None = do
  ps ← parameters_at bytes n body sub names ts
  Some (one_takes line ps.0.0 ps.0.1, ps.1)
given_by bytes n body sub names line ts (Some rest) = Some (one_void line, rest)

-- parameters, or `void`
unfoldable pub given_at : List ℕ → ℕ → Body → FullReader → Scope → ℕ → List Token → Read OneSuffix
given_at bytes n body sub names line ts = given_by bytes n body sub names line ts (void_at ts)

abbrev pub taken_by : List ℕ → ℕ → Body → FullReader → Scope → ℕ → List Token → Read Token → Read OneSuffix
taken_by bytes n body sub names line ts None = given_at bytes n body sub names line ts
taken_by bytes n body sub names line ts (Some x) = Some (one_empty line, x.1)

-- behind the parenthesis of a function's suffix
unfoldable pub taken_at : List ℕ → ℕ → Body → FullReader → Scope → ℕ → List Token → Read OneSuffix
taken_at bytes n body sub names line ts = taken_by bytes n body sub names line ts (token_at (is_mark marks.RightParenthesis) ts)

unfoldable pub one_from : List ℕ → ℕ → Body → FullReader → Scope → Opening → Token → List Token → Read OneSuffix
one_from bytes n body sub names openings.Bracket t ts = bound_at bytes names n t.line ts
one_from bytes n body sub names openings.Parenthesis t ts = taken_at bytes n body sub names t.line ts

abbrev pub suffixes_stop : List Token → Option (Opening × Token × List Token) → Read FullSuffixes
suffixes_stop ts None = Some (full_end, ts)
suffixes_stop ts (Some x) = None

abbrev pub suffixes_list : List ℕ → ℕ → Body → FullReader → Listing Scope OneSuffix FullSuffixes
suffixes_list bytes n body sub = record {
  after = λ s x. s;
  put = placed_suffix;
  stop = λ s ts. suffixes_stop ts (opening_at ts);
  item = λ s ts. opening_at ts >>= λ x. one_from bytes n body sub s x.0 x.1 x.2;
}

-- the suffixes at the front
unfoldable pub suffixes_at : List ℕ → ℕ → Body → FullReader → Scope → List Token → Read FullSuffixes
suffixes_at bytes n body sub names ts = run_at (suffixes_list bytes n body sub) (length ts + 1) names ts

-- Behind the parenthesis of a parameter's declarator stand parameters: none, or a specifier begins.
abbrev pub takes : List ℕ → Scope → List Token → Bool
takes bytes names ts = stands marks.RightParenthesis ts || is_there (start_at false bytes (names, false) ts)

abbrev pub declarator_start_of : Bool → Bool → Kind → Option DeclaratorStart
declarator_start_of inner given k =
    if is_mark marks.LeftParenthesis k then (if inner && given then Some declarator_starts.Suffixes else Some declarator_starts.Inside)
    else (if is_identifier k then Some declarator_starts.Name
    else (if inner then (if is_mark marks.LeftBracket k then Some declarator_starts.Suffixes else Some declarator_starts.Nothing) else None))

-- what a declarator begins with, of a parameter or not
unfoldable pub declarator_start_at : Bool → List ℕ → Scope → List Token → Option DeclaratorStart
declarator_start_at inner bytes names [] = if inner then Some declarator_starts.Nothing else None
declarator_start_at inner bytes names (t ∷ ts) = declarator_start_of inner (takes bytes names ts) t.kind

-- a declarator in parentheses behind its parenthesis
unfoldable pub inside_at : List ℕ → ℕ → Body → FullReader → Bool → Scope → ℕ → List Token → Read Full
inside_at bytes n body sub inner names line ts = do
  d ← sub inner names ts
  x ← token_at (is_mark marks.RightParenthesis) d.1
  ss ← suffixes_at bytes n body sub names x.1
  Some (full_inside line d.0 ss.0, ss.1)

-- a declarator that begins so
unfoldable pub full_from : List ℕ → ℕ → Body → FullReader → Bool → Scope → DeclaratorStart → List Token → Read Full
full_from bytes n body sub inner names declarator_starts.Nothing ts = Some (full_unnamed full_end, ts)
full_from bytes n body sub inner names declarator_starts.Suffixes ts = do
  ss ← suffixes_at bytes n body sub names ts
  Some (full_unnamed ss.0, ss.1)
full_from bytes n body sub inner names declarator_starts.Name [] = None
full_from bytes n body sub inner names declarator_starts.Name (t ∷ ts) = do
  ss ← suffixes_at bytes n body sub names ts
  Some (full_named t.line (text_of bytes t) ss.0, ss.1)
full_from bytes n body sub inner names declarator_starts.Inside [] = None
full_from bytes n body sub inner names declarator_starts.Inside (t ∷ ts) = inside_at bytes n body sub inner names t.line ts

-- a declarator without levels: the empty one
abbrev pub bare_full : DeclaratorStart → List Token → Read Full
bare_full declarator_starts.Nothing ts = Some (full_unnamed full_end, ts)
bare_full declarator_starts.Suffixes ts = None
bare_full declarator_starts.Name ts = None
bare_full declarator_starts.Inside ts = None

unfoldable mutual
  -- the members of a structure of at most n levels
  pub body_at : List ℕ → ℕ → Body
  body_at bytes zero names ts = None
  body_at bytes (suc n) names ts = some_members_at (members_at bytes n (body_at bytes n) (full_at bytes n)) names ts

  -- a declarator of at most n levels
  pub full_at : List ℕ → ℕ → FullReader
  full_at bytes zero inner names ts = declarator_start_at inner bytes names ts >>= λ h. bare_full h ts
  full_at bytes (suc n) inner names ts = declarator_start_at inner bytes names ts >>= λ h. full_from bytes n (body_at bytes n) (full_at bytes n) inner names h ts

-- reads the members of a structure, with the bytes and the levels of a frame
abbrev pub bodies_in : Frame → Body
bodies_in frame = body_at frame.bytes.now frame.levels

-- reads a declarator
abbrev pub fulls_in : Frame → FullReader
fulls_in frame = full_at frame.bytes.now frame.levels

abbrev pub initials_list : (List Token → Read Initial) → Listing Bool Initial Initials
initials_list sub = record {
  after = λ s i. false;
  put = initials;
  stop = λ s ts. shut_at s ts >>= λ rest. Some (no_initial, rest);
  item = λ s ts. comma_at s ts >>= sub;
}

-- initializers and the brace that closes them
unfoldable pub initials_at : (List Token → Read Initial) → List Token → Read Initials
initials_at sub ts = run_at (initials_list sub) (length ts + 1) true ts

abbrev pub initial_by : List ℕ → Scope → ℕ → (List Token → Read Initial) → List Token → Read Token → Read Initial
initial_by bytes names n sub ts None = do
  e ← reader bytes names n 2 ts
  Some (initial e.0, e.1)
initial_by bytes names n sub ts (Some x) = do
  is ← initials_at sub x.1
  Some (braces x.0.line is.0, is.1)

-- an initializer of at most n levels
unfoldable pub initial_at : List ℕ → Scope → ℕ → List Token → Read Initial
initial_at bytes names zero ts = None
initial_at bytes names (suc n) ts = initial_by bytes names (suc n) (initial_at bytes names n) ts (token_at (is_mark marks.LeftBrace) ts)

-- reads an initializer, with the bytes and the levels of a frame
abbrev pub initials_in : Frame → Scope → List Token → Read Initial
initials_in frame names = initial_at frame.bytes.now names frame.levels

abbrev pub initializer_by : List ℕ → Scope → ℕ → List Token → Read Token → Read (Option Initial)
initializer_by bytes names n ts None = Some (None, ts)
initializer_by bytes names n ts (Some x) = do
  i ← initial_at bytes names n x.1
  Some (Some i.0, i.1)

-- the initializer at the front, if a `=` stands there
unfoldable pub initializer_at : List ℕ → Scope → ℕ → List Token → Read (Option Initial)
initializer_at bytes names n ts = initializer_by bytes names n ts (token_at (is_mark marks.Equal) ts)

-- a declarator with its initializer; its name is declared between them, as a type or not
unfoldable pub declarator_at : List ℕ → Scope → Bool → ℕ → List Token → Read (Full × Option Initial)
declarator_at bytes names types n ts = do
  d ← full_at bytes n false names ts
  i ← initializer_at bytes ((name_of d.0, types) ∷ names) n d.1
  Some ((d.0, i.0), i.1)

abbrev pub declarators_list : List ℕ → Bool → ℕ → Listing State (Full × Option Initial) Declarators
declarators_list bytes types n = record {
  after = λ s d. ((name_of d.0, types) ∷ s.0, false);
  put = λ d ds. declarator d.0 d.1 ds;
  stop = λ s ts. ended_at marks.Semicolon none_declared ts;
  item = λ s ts. comma_at s.1 ts >>= λ rest. declarator_at bytes s.0 types n rest;
}

-- declarators, from the first on or those behind it, and the `;` behind them
unfoldable pub declarators_at : List ℕ → Scope → Bool → ℕ → Bool → List Token → Read Declarators
declarators_at bytes names types n first ts = run_at (declarators_list bytes types n) (length ts + 1) (names, first) ts

-- a declaration of at most n levels
unfoldable pub declaration_at : List ℕ → Scope → ℕ → List Token → Read (Parts × Declarators)
declaration_at bytes names n ts = do
  p ← parts_at false bytes n (body_at bytes n) names ts
  ds ← (if are_some p.0 then declarators_at bytes (with_parts names p.0) (have_typedef p.0) n true p.1 else None)
  Some ((p.0, ds.0), ds.1)

-- a name and a colon stand at the front
abbrev pub is_label : List Token → Bool
is_label [] = false
is_label (t ∷ ts) = is_identifier t.kind && stands marks.Colon ts

-- what a declaration among statements begins with: a label begins none
unfoldable pub declares_at : List ℕ → Scope → List Token → Option (Start × Token × List Token)
declares_at bytes names ts = if is_label ts then None else start_at false bytes (names, false) ts
