-- Steps of reading what is spelled.
use Rattle.std.proofs.Common.{◌≡◌, ◌≤◌, ◌<◌, ℕ, List, [], ◌∷◌, ◌++◌, length, Bool, true, false, Option, Some, None, refl, ap, sym, subst, ◌∙◌, arith, inl, inr}
use Rattle.std.specs.Prelude.{◌⊎◌, IfSome, nat_le, ◌&&◌}
use Rattle.std.proofs.lemmas.List.{append_assoc}
use Rattle.c_token.specs.declared.token.Token.{Token}
use Rattle.c_token.specs.declared.token.Kind.{Kind}
use Rattle.c_token.specs.declared.token.Kind.TheVariants as kinds
use Rattle.c_token.specs.declared.token.Keyword.{Keyword}
use Rattle.c_token.specs.declared.token.Mark.{Mark}
use Rattle.c_token.specs.declared.token.Mark.TheVariants as marks
use Rattle.c_tree.specs.Tree.{Tree, depth}
use Rattle.c_tree.specs.Declarations.{Full, full_unnamed, full_named, full_inside, full_end, full_bounded, full_open, full_empty, full_void, full_parameters, full_pointing}
use Rattle.c_tree.specs.Tables.{level_of}
use Rattle.c_tree.specs.Names.{Scope, is_type}
use Rattle.c_tree.specs.Spelling.{Single, IsMark, Spells, IsWell}
use Rattle.c_tree.specs.Files.{Closes, FrontIsNoType, SpellsFull, full_is_empty}
use Rattle.c_parse_expr.specs.declared.table.Suffix.{Suffix}
use Rattle.c_parse_expr.specs.declared.table.Suffix.TheVariants as suffixes
use Rattle.c_parse_expr.specs.Tables.{suffix_of}
use Rattle.c_parse_expr.specs.inner.Many.{◌>>=◌}
use Rattle.c_parse_expr.specs.Reading.{is_mark, goes_on}
use Rattle.c_parse_expr.specs.inner.Reading.{is_identifier, reader}
use Rattle.c_parse_expr.specs.Standing.{goes_on_inside, Inside, Ends}
use Rattle.c_parse_parts.specs.inner.Reading.{Read, token_at, or_else, comma_at, shut_at, ended_at, start_at}
use Rattle.c_parse_parts.proofs.Words.{passes_at, token_fails, mark_gives}
use Rattle.c_parse_parts.proofs.Starts.{start_fails, name_fails}
use Rattle.c_parse_expr.proofs.Complete.{is_read}
use Rattle.c_parse_expr.proofs.Within.{quiet}
use Rattle.c_parse_parts.proofs.Runs.{Separated}
use Rattle.c_parse_parts.proofs.SoundParts.{nothing_spelled}

pub apart : (own left right rest : List Token) → own ≡ left ++ right → own ++ rest ≡ left ++ (right ++ rest)
apart own left right rest e = ap (λ (xs : List Token). xs ++ rest) e ∙ append_assoc left right rest

-- from a token on
pub from_token : (own rest others : List Token) (t : Token) → own ≡ t ∷ others → own ++ rest ≡ t ∷ (others ++ rest)
from_token own rest others t e = ap (λ (xs : List Token). xs ++ rest) e

-- a run and the one token behind it
pub from_last : (own left right rest : List Token) (t : Token) → own ≡ left ++ right → right ≡ t ∷ [] → own ++ rest ≡ left ++ (t ∷ rest)
from_last own left right rest t e f = apart own left right rest e ∙ ap (λ (xs : List Token). left ++ xs) (from_token right rest [] t f)

-- the first token
pub record Opens (P : Kind → Type 0) (own : List Token) : Type 0 where
  pub token : Token
  pub others : List Token
  pub whole : own ≡ token ∷ others
  pub is : P token.kind

pub opens_longer : (P : Kind → Type 0) (own left right : List Token) → own ≡ left ++ right → Opens P left → Opens P own
opens_longer P own left right e o = record { token = o.token; others = o.others ++ right; whole = e ∙ ap (λ (xs : List Token). xs ++ right) o.whole; is = o.is }

pub opens_length : (P : Kind → Type 0) (own : List Token) → Opens P own → 0 < length own
opens_length P own o = let e = ap (λ (xs : List Token). length xs) o.whole in omega (arith, e)

abbrev pub IsNot : Mark → Kind → Type 0
IsNot m k = is_mark m k ≡ false

-- a keyword or a name
abbrev pub IsWord : Kind → Type 0
IsWord k = (m : Mark) → is_mark m k ≡ false

pub word_of_keyword : (k : Kind) (w : Keyword) → k ≡ kinds.Keyword w → IsWord k
word_of_keyword k w e m = ap (is_mark m) e

pub word_of_name : (k : Kind) → k ≡ kinds.Identifier → IsWord k
word_of_name k e m = ap (is_mark m) e

pub opens_not : (m : Mark) (own rest : List Token) → Opens (IsNot m) own → token_at (is_mark m) (own ++ rest) ≡ None
opens_not m own rest o = ap (token_at (is_mark m)) (from_token own rest o.others o.token o.whole) ∙ token_fails (is_mark m) o.token (o.others ++ rest) o.is

pub opens_word : (m : Mark) (own : List Token) → Opens IsWord own → Opens (IsNot m) own
opens_word m own o = record { token = o.token; others = o.others; whole = o.whole; is = o.is m }

-- commas
pub record Comma (first : Bool) (A : List Token → Type 0) (own rest : List Token) : Type 0 where
  pub inner : List Token
  pub spelled : A inner
  pub read : comma_at first (own ++ rest) ≡ Some (inner ++ rest)
  pub short : length inner ≤ length own

pub comma_gives : (first : Bool) (A : List Token → Type 0) (own rest : List Token) → Separated first A own → Comma first A own rest
unfolding comma_at
comma_gives true A own rest s = record { inner = own; spelled = s; read = refl; short = omega arith }
comma_gives false A own rest s =
    let long = ap (λ (xs : List Token). length xs) s.whole in
    record {
      inner = s.rest;
      spelled = s.behind;
      read = ap (λ (xs : List Token). token_at (is_mark marks.Comma) xs >>= λ x. Some x.1) (from_token own rest s.rest s.token s.whole)
          ∙ ap (λ (o : Read Token). o >>= λ x. Some x.1) (mark_gives marks.Comma s.token (s.rest ++ rest) s.is);
      short = omega (arith, long);
    }

-- what ends a list
pub ended_gives : {T : Type 0} (mark : Mark) (t : T) (own rest : List Token) → Single (IsMark mark) own → ended_at mark t (own ++ rest) ≡ Some (t, rest)
unfolding ended_at
ended_gives mark t own rest s =
    ap (λ (xs : List Token). token_at (is_mark mark) xs >>= λ x. Some (t, x.1)) (from_token own rest [] s.token s.whole)
    ∙ ap (λ (o : Read Token). o >>= λ x. Some (t, x.1)) (mark_gives mark s.token rest s.is)

pub ended_none : {T : Type 0} (mark : Mark) (t : T) (ts : List Token) → token_at (is_mark mark) ts ≡ None → ended_at mark t ts ≡ None
unfolding ended_at
ended_none mark t ts e = ap (λ (o : Read Token). o >>= λ x. Some (t, x.1)) e

separated_opens : (m : Mark) (first : Bool) (A : List Token → Type 0) (own : List Token) → is_mark m (kinds.Mark marks.Comma) ≡ false → ((xs : List Token) → A xs → Opens (IsNot m) xs) → Separated first A own → Opens (IsNot m) own
separated_opens m true A own e f s = f own s
separated_opens m false A own e f s = record { token = s.token; others = s.rest; whole = s.whole; is = passes_at (is_mark m) s.token.kind (kinds.Mark marks.Comma) false s.is e }

pub ended_fails : {T : Type 0} (m : Mark) (t : T) (first : Bool) (A : List Token → Type 0) (own rest : List Token) → is_mark m (kinds.Mark marks.Comma) ≡ false → ((xs : List Token) → A xs → Opens (IsNot m) xs) → Separated first A own → ended_at m t (own ++ rest) ≡ None
ended_fails m t first A own rest e f s = ended_none m t (own ++ rest) (opens_not m own rest (separated_opens m first A own e f s))

pub shut_gives : (own rest : List Token) → Closes marks.RightBrace own → shut_at false (own ++ rest) ≡ Some rest
unfolding shut_at
shut_gives own rest (inl s) =
    let e = from_token own rest [] s.token s.whole in
    ap (λ (o : Read Token). or_else (o >>= λ x. Some x.1) (token_at (is_mark marks.Comma) (own ++ rest) >>= λ x. token_at (is_mark marks.RightBrace) x.1 >>= λ y. Some y.1))
    (ap (token_at (is_mark marks.RightBrace)) e ∙ mark_gives marks.RightBrace s.token rest s.is)
shut_gives own rest (inr s) =
    let last = s.behind in
    let e = from_token own rest s.rest s.token s.whole in
    let f = from_token s.rest rest [] last.token last.whole in
    ap (λ (o : Read Token). or_else (o >>= λ x. Some x.1) (token_at (is_mark marks.Comma) (own ++ rest) >>= λ x. token_at (is_mark marks.RightBrace) x.1 >>= λ y. Some y.1))
    (ap (token_at (is_mark marks.RightBrace)) e ∙ token_fails (is_mark marks.RightBrace) s.token (s.rest ++ rest) (passes_at (is_mark marks.RightBrace) s.token.kind (kinds.Mark marks.Comma) false s.is refl))
    ∙ ap (λ (o : Read Token). o >>= λ x. token_at (is_mark marks.RightBrace) x.1 >>= λ y. Some y.1) (ap (token_at (is_mark marks.Comma)) e ∙ mark_gives marks.Comma s.token (s.rest ++ rest) s.is)
    ∙ ap (λ (o : Read Token). o >>= λ y. Some y.1) (ap (token_at (is_mark marks.RightBrace)) f ∙ mark_gives marks.RightBrace last.token rest last.is)

pub shut_fails : (first : Bool) (A : List Token → Type 0) (own rest : List Token) → ((xs : List Token) → A xs → Opens (IsNot marks.RightBrace) xs) → Separated first A own → shut_at first (own ++ rest) ≡ None
unfolding shut_at
shut_fails true A own rest f s = refl
shut_fails false A own rest f s =
    let o = f s.rest s.behind in
    let e = from_token own rest s.rest s.token s.whole in
    ap (λ (o : Read Token). or_else (o >>= λ x. Some x.1) (token_at (is_mark marks.Comma) (own ++ rest) >>= λ x. token_at (is_mark marks.RightBrace) x.1 >>= λ y. Some y.1))
    (ap (token_at (is_mark marks.RightBrace)) e ∙ token_fails (is_mark marks.RightBrace) s.token (s.rest ++ rest) (passes_at (is_mark marks.RightBrace) s.token.kind (kinds.Mark marks.Comma) false s.is refl))
    ∙ ap (λ (o : Read Token). o >>= λ x. token_at (is_mark marks.RightBrace) x.1 >>= λ y. Some y.1) (ap (token_at (is_mark marks.Comma)) e ∙ mark_gives marks.Comma s.token (s.rest ++ rest) s.is)
    ∙ ap (λ (o : Read Token). o >>= λ y. Some y.1) (opens_not marks.RightBrace s.rest rest o)

-- what follows an item of a list
abbrev pub IsEnder : Kind → Type 0
IsEnder k = (k ≡ kinds.Mark marks.Comma) ⊎ ((k ≡ kinds.Mark marks.Semicolon) ⊎ (k ≡ kinds.Mark marks.RightBrace))

pub ender_not : (m : Mark) (k : Kind) → is_mark m (kinds.Mark marks.Comma) ≡ false → is_mark m (kinds.Mark marks.Semicolon) ≡ false → is_mark m (kinds.Mark marks.RightBrace) ≡ false → IsEnder k → is_mark m k ≡ false
ender_not m k a b c (inl e) = passes_at (is_mark m) k (kinds.Mark marks.Comma) false e a
ender_not m k a b c (inr (inl e)) = passes_at (is_mark m) k (kinds.Mark marks.Semicolon) false e b
ender_not m k a b c (inr (inr e)) = passes_at (is_mark m) k (kinds.Mark marks.RightBrace) false e c

-- the token ends an expression of level k or more
abbrev pub Stops : ℕ → Token → Type 0
Stops k tok = (names : Scope) (e : Tree) (rest : List Token) → IsWell names e → k ≤ level_of e → Inside e (tok ∷ rest) × Ends k e (tok ∷ rest)

pub stops_by_none : (k : ℕ) (tok : Token) → suffix_of tok.kind ≡ None → Stops k tok
stops_by_none k tok f names e rest w l = (
  subst (λ (o : Option Suffix). IfSome o (λ s. goes_on_inside e s ≡ false)) (sym f) tt,
  subst (λ (o : Option Suffix). IfSome o (λ s. goes_on k (level_of e) s ≡ false)) (sym f) tt,
)

stops_at_comma : (k : ℕ) (tok : Token) → 1 ≤ k → nat_le k 1 ≡ false → tok.kind ≡ kinds.Mark marks.Comma → Stops k tok
stops_at_comma k tok some low is names e rest w l = (
  subst (λ (o : Option Suffix). IfSome o (λ s. goes_on_inside e s ≡ false)) (sym (ap suffix_of is)) (quiet names e suffixes.Then (omega arith) w),
  subst (λ (o : Option Suffix). IfSome o (λ s. goes_on k (level_of e) s ≡ false)) (sym (ap suffix_of is)) (ap (λ (b : Bool). b && nat_le 1 (level_of e)) low),
)

pub stops_at_ender : (k : ℕ) (tok : Token) → 1 ≤ k → nat_le k 1 ≡ false → IsEnder tok.kind → Stops k tok
stops_at_ender k tok some low (inl e) = stops_at_comma k tok some low e
stops_at_ender k tok some low (inr (inl e)) = stops_by_none k tok (ap suffix_of e)
stops_at_ender k tok some low (inr (inr e)) = stops_by_none k tok (ap suffix_of e)

pub expression_read : (bytes : List ℕ) (names : Scope) (n k : ℕ) (e : Tree) (own rest : List Token) (tok : Token) → Stops k tok → Spells bytes e own → IsWell names e → depth e ≤ n → k ≤ level_of e → reader bytes names n k (own ++ (tok ∷ rest)) ≡ Some (e, tok ∷ rest)
expression_read bytes names n k e own rest tok stops s w d l =
    let f = stops names e rest w l in
    is_read bytes names n k e (own ++ (tok ∷ rest)) (tok ∷ rest) (record { own = own; spelled = s; front = refl; level = l; well = w; inside = f.0; ends = f.1; deep = d })

-- what follows a declarator: no suffix, and no name
abbrev pub Follows : Kind → Type 0
Follows k = (is_mark marks.LeftBracket k ≡ false) × (is_mark marks.LeftParenthesis k ≡ false) × (is_identifier k ≡ false)

pub ender_follows : (k : Kind) → IsEnder k → Follows k
ender_follows k e = (ender_not marks.LeftBracket k refl refl refl e, ender_not marks.LeftParenthesis k refl refl refl e, ender_no_name k e)
  where
    ender_no_name : (k : Kind) → IsEnder k → is_identifier k ≡ false
    ender_no_name k (inl f) = ap is_identifier f
    ender_no_name k (inr (inl f)) = ap is_identifier f
    ender_no_name k (inr (inr f)) = ap is_identifier f

pub enders_follow : (ts : List Token) → Opens IsEnder ts → Opens Follows ts
enders_follow ts o = record { token = o.token; others = o.others; whole = o.whole; is = ender_follows o.token.kind o.is }

-- what follows a parameter
abbrev pub IsCloser : Kind → Type 0
IsCloser k = (k ≡ kinds.Mark marks.Comma) ⊎ (k ≡ kinds.Mark marks.RightParenthesis)

pub closers_follow : (ts : List Token) → Opens IsCloser ts → Opens Follows ts
closers_follow ts o = record { token = o.token; others = o.others; whole = o.whole; is = closer_follows o.token.kind o.is }
  where
    closer_follows : (k : Kind) → IsCloser k → Follows k
    closer_follows k (inl e) = (passes_at (is_mark marks.LeftBracket) k (kinds.Mark marks.Comma) false e refl, passes_at (is_mark marks.LeftParenthesis) k (kinds.Mark marks.Comma) false e refl, ap is_identifier e)
    closer_follows k (inr e) = (passes_at (is_mark marks.LeftBracket) k (kinds.Mark marks.RightParenthesis) false e refl, passes_at (is_mark marks.LeftParenthesis) k (kinds.Mark marks.RightParenthesis) false e refl, ap is_identifier e)

-- a declarator that isn't empty begins with its name, a parenthesis, a bracket or a star
abbrev pub BeginsFull : Kind → Type 0
BeginsFull k = (k ≡ kinds.Identifier) ⊎ ((k ≡ kinds.Mark marks.LeftParenthesis) ⊎ ((k ≡ kinds.Mark marks.LeftBracket) ⊎ (k ≡ kinds.Mark marks.Star)))

pub full_opens : (bytes : List ℕ) (d : Full) (own : List Token) → full_is_empty d ≡ false → SpellsFull bytes d own → Opens BeginsFull own
full_opens bytes (full_unnamed full_end) own e s = absurd cc
full_opens bytes (full_unnamed (full_bounded line b ss)) own e s = record { token = s.token; others = s.rest; whole = s.whole; is = inr (inr (inl s.is.kind)) }
full_opens bytes (full_unnamed (full_open line ss)) own e s = record { token = s.token; others = s.rest; whole = s.whole; is = inr (inr (inl s.is.kind)) }
full_opens bytes (full_unnamed (full_empty line ss)) own e s = record { token = s.token; others = s.rest; whole = s.whole; is = inr (inl s.is.kind) }
full_opens bytes (full_unnamed (full_void line ss)) own e s = record { token = s.token; others = s.rest; whole = s.whole; is = inr (inl s.is.kind) }
full_opens bytes (full_unnamed (full_parameters line ps v ss)) own e s = record { token = s.token; others = s.rest; whole = s.whole; is = inr (inl s.is.kind) }
full_opens bytes (full_named line text ss) own e s = record { token = s.token; others = s.rest; whole = s.whole; is = inl s.is.kind }
full_opens bytes (full_inside line d ss) own e s = record { token = s.token; others = s.rest; whole = s.whole; is = inr (inl s.is.kind) }
full_opens bytes (full_pointing line qs d) own e s = record { token = s.token; others = s.rest; whole = s.whole; is = inr (inr (inr s.is.kind)) }

pub full_not : (m : Mark) (k : Kind) → is_mark m (kinds.Mark marks.LeftParenthesis) ≡ false → is_mark m (kinds.Mark marks.LeftBracket) ≡ false → is_mark m (kinds.Mark marks.Star) ≡ false → BeginsFull k → is_mark m k ≡ false
full_not m k e f h (inl g) = passes_at (is_mark m) k kinds.Identifier false g refl
full_not m k e f h (inr (inl g)) = passes_at (is_mark m) k (kinds.Mark marks.LeftParenthesis) false g e
full_not m k e f h (inr (inr (inl g))) = passes_at (is_mark m) k (kinds.Mark marks.LeftBracket) false g f
full_not m k e f h (inr (inr (inr g))) = passes_at (is_mark m) k (kinds.Mark marks.Star) false g h

pub full_opens_not : (bytes : List ℕ) (m : Mark) (d : Full) (own : List Token) → is_mark m (kinds.Mark marks.LeftParenthesis) ≡ false → is_mark m (kinds.Mark marks.LeftBracket) ≡ false → is_mark m (kinds.Mark marks.Star) ≡ false → full_is_empty d ≡ false → SpellsFull bytes d own → Opens (IsNot m) own
full_opens_not bytes m d own e f g h s =
    let o = full_opens bytes d own h s in
    record { token = o.token; others = o.others; whole = o.whole; is = full_not m o.token.kind e f g o.is }

-- no specifier begins, and no brace stands there
pub record Quiet (inner : Bool) (bytes : List ℕ) (names : Scope) (before : Bool) (ts : List Token) : Type 0 where
  pub no_start : start_at inner bytes (names, before) ts ≡ None
  pub no_brace : token_at (is_mark marks.LeftBrace) ts ≡ None

pub quiet_at_mark : (inner : Bool) (bytes : List ℕ) (names : Scope) (before : Bool) (m : Mark) (t : Token) (ts others : List Token) → ts ≡ t ∷ others → t.kind ≡ kinds.Mark m → is_mark marks.LeftBrace (kinds.Mark m) ≡ false → Quiet inner bytes names before ts
quiet_at_mark inner bytes names before m t ts others e is other = record {
  no_start = ap (start_at inner bytes (names, before)) e ∙ start_fails inner bytes (names, before) t others (kinds.Mark m) is refl;
  no_brace = ap (token_at (is_mark marks.LeftBrace)) e ∙ token_fails (is_mark marks.LeftBrace) t others (passes_at (is_mark marks.LeftBrace) t.kind (kinds.Mark m) false is other);
}

-- a declarator that isn't empty begins no specifier
pub full_quiet : (inner : Bool) (bytes : List ℕ) (names : Scope) (before : Bool) (d : Full) (own rest : List Token) → SpellsFull bytes d own → full_is_empty d ≡ false → FrontIsNoType names before d → Quiet inner bytes names before (own ++ rest)
full_quiet inner bytes names before (full_unnamed full_end) own rest s h f = absurd cc
full_quiet inner bytes names before (full_unnamed (full_bounded line b ss)) own rest s h f =
    quiet_at_mark inner bytes names before marks.LeftBracket s.token (own ++ rest) (s.rest ++ rest) (from_token own rest s.rest s.token s.whole) s.is.kind refl
full_quiet inner bytes names before (full_unnamed (full_open line ss)) own rest s h f =
    quiet_at_mark inner bytes names before marks.LeftBracket s.token (own ++ rest) (s.rest ++ rest) (from_token own rest s.rest s.token s.whole) s.is.kind refl
full_quiet inner bytes names before (full_unnamed (full_empty line ss)) own rest s h f =
    quiet_at_mark inner bytes names before marks.LeftParenthesis s.token (own ++ rest) (s.rest ++ rest) (from_token own rest s.rest s.token s.whole) s.is.kind refl
full_quiet inner bytes names before (full_unnamed (full_void line ss)) own rest s h f =
    quiet_at_mark inner bytes names before marks.LeftParenthesis s.token (own ++ rest) (s.rest ++ rest) (from_token own rest s.rest s.token s.whole) s.is.kind refl
full_quiet inner bytes names before (full_unnamed (full_parameters line ps v ss)) own rest s h f =
    quiet_at_mark inner bytes names before marks.LeftParenthesis s.token (own ++ rest) (s.rest ++ rest) (from_token own rest s.rest s.token s.whole) s.is.kind refl
full_quiet inner bytes names before (full_named line text ss) own rest s h f = record {
  no_start = ap (start_at inner bytes (names, before)) (from_token own rest s.rest s.token s.whole) ∙ name_fails inner bytes (names, before) s.token (s.rest ++ rest) s.is.kind (λ no. ap (is_type names) s.is.text ∙ f no);
  no_brace = ap (token_at (is_mark marks.LeftBrace)) (from_token own rest s.rest s.token s.whole) ∙ token_fails (is_mark marks.LeftBrace) s.token (s.rest ++ rest) (passes_at (is_mark marks.LeftBrace) s.token.kind kinds.Identifier false s.is.kind refl);
}
full_quiet inner bytes names before (full_inside line d ss) own rest s h f =
    quiet_at_mark inner bytes names before marks.LeftParenthesis s.token (own ++ rest) (s.rest ++ rest) (from_token own rest s.rest s.token s.whole) s.is.kind refl
full_quiet inner bytes names before (full_pointing line qs d) own rest s h f =
    quiet_at_mark inner bytes names before marks.Star s.token (own ++ rest) (s.rest ++ rest) (from_token own rest s.rest s.token s.whole) s.is.kind refl

closer_quiet : (inner : Bool) (bytes : List ℕ) (names : Scope) (before : Bool) (ts others : List Token) (t : Token) → ts ≡ t ∷ others → IsCloser t.kind → Quiet inner bytes names before ts
closer_quiet inner bytes names before ts others t e (inl f) = quiet_at_mark inner bytes names before marks.Comma t ts others e f refl
closer_quiet inner bytes names before ts others t e (inr f) = quiet_at_mark inner bytes names before marks.RightParenthesis t ts others e f refl

-- nor does the declarator of a parameter with what follows it
pub parameter_quiet : (bytes : List ℕ) (names : Scope) (before : Bool) (d : Full) (b : Bool) (own rest : List Token) → full_is_empty d ≡ b → Opens IsCloser rest → SpellsFull bytes d own → FrontIsNoType names before d → Quiet false bytes names before (own ++ rest)
parameter_quiet bytes names before d false own rest h o s f = full_quiet false bytes names before d own rest s h f
parameter_quiet bytes names before d true own rest h o s f =
    closer_quiet false bytes names before (own ++ rest) o.others o.token (ap (λ (xs : List Token). xs ++ rest) (nothing_spelled bytes d own h s) ∙ o.whole) o.is
