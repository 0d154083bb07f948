-- Initializers, declarators and declarations that stand there are read.
use Rattle.std.proofs.Common.{◌≡◌, ◌≤◌, ◌<◌, ◌+◌, max, ℕ, zero, suc, List, [], ◌∷◌, ◌++◌, length, length-append, Bool, true, false, cond, Option, Some, None, refl, ap, sym, ◌∙◌, arith, inl, inr}
use Rattle.std.specs.Prelude.{◌&&◌}
use Rattle.c_token.specs.declared.token.Token.{Token}
use Rattle.c_token.specs.declared.token.Kind.{Kind}
use Rattle.c_token.specs.declared.token.Kind.TheVariants as kinds
use Rattle.c_token.specs.declared.token.Keyword.TheVariants as keywords
use Rattle.c_token.specs.declared.token.Mark.{Mark}
use Rattle.c_token.specs.declared.token.Mark.TheVariants as marks
use Rattle.c_tree.specs.Tree.{qualified, word, tagged, typedef_name, Tree}
use Rattle.c_tree.specs.Tables.{qualifier_keyword, word_keyword, tag_keyword, storage_keyword, function_keyword, record_keyword}
use Rattle.c_tree.specs.Names.{Scope}
use Rattle.c_tree.specs.Spelling.{Single, Then, IsMark}
use Rattle.c_tree.specs.Declarations.{Full, full_depth, full_has_name, Part, type_part, storage, function, structure, enumeration, Parts, no_part, part, Initial, initial, braces, Initials, no_initial, initials, Declarators, none_declared, declarator, initial_depth, initials_depth, initializer_depth, declarators_depth, parts_depth, name_of, with_parts, have_typedef, specify}
use Rattle.c_tree.specs.Files.{SpellsFull, IsWellFull, SpellsPart, SpellsInitial, SpellsOtherInitials, SpellsInitializer, SpellsOthers, SpellsDeclarators, SpellsParts, SpellsDeclaration, IsWellInitial, AreWellInitials, IsWellInitializer, AreWellDeclarators, FrontIsNoTypeOfDeclarators, IsWellDeclaration}
use Rattle.c_parse_expr.specs.inner.Many.{◌>>=◌}
use Rattle.c_parse_expr.specs.Reading.{is_mark}
use Rattle.c_parse_expr.specs.inner.Reading.{is_identifier, reader}
use Rattle.c_parse_parts.specs.declared.table.Start.{Start}
use Rattle.c_parse_parts.specs.inner.Reading.{Read, token_at, run_at, comma_at, shut_at, start_at, parts_at, are_some, body_at, full_at, is_there, stands, is_label, declares_at, initials_list, initials_at, initial_by, initial_at, initializer_by, initializer_at, declarator_at, declarators_list, declarators_at, declaration_at}
use Rattle.c_parse_parts.proofs.Lists.{bind_gives, bind_none, run_stops, run_goes}
use Rattle.c_parse_parts.proofs.Words.{passes_at, token_fails, mark_gives}
use Rattle.c_parse_expr.proofs.CompleteSteps.{First, first_token}
use Rattle.c_parse_expr.proofs.Within.{has_depth}
use Rattle.c_parse_parts.proofs.Firsts.{first_no_mark}
use Rattle.c_parse_parts.proofs.Runs.{Separated}
use Rattle.c_parse_parts.proofs.SoundDeclarations.{SpellsInitialsBy, SpellsDeclaratorsBy}
use Rattle.c_parse_parts.proofs.Steps.{apart, from_token, Opens, opens_longer, opens_length, IsNot, opens_not, opens_word, comma_gives, ended_gives, ended_fails, shut_gives, shut_fails, IsEnder, ender_not, stops_at_ender, expression_read, IsWord, Follows, enders_follow, BeginsFull, full_opens_not, full_not, Quiet, quiet_at_mark, full_quiet}
use Rattle.c_parse_parts.proofs.SoundParts.{named_full}
use Rattle.c_parse_parts.proofs.CompleteParts.{parts_start, part_opens, parts_read, parts_again, full_again, are_there}

-- initializers
abbrev pub InitialAgain : List ℕ → Initial → Type 0
InitialAgain bytes i = (names : Scope) (n : ℕ) (own rest : List Token) → Opens IsEnder rest → SpellsInitial bytes i own → IsWellInitial names i → initial_depth i ≤ n → initial_at bytes names n (own ++ rest) ≡ Some (i, rest)

abbrev pub InitialsAgain : List ℕ → Initials → Type 0
InitialsAgain bytes is = (names : Scope) (n m : ℕ) (first : Bool) (own rest : List Token) → SpellsInitialsBy first bytes is own → AreWellInitials names is → initials_depth is ≤ n → length own < m → run_at (initials_list (initial_at bytes names n)) m first (own ++ rest) ≡ Some (is, rest)

-- an expression does not begin with a mark that begins none
pub expression_not : (m : Mark) (bytes : List ℕ) (names : Scope) (own : List Token) → is_mark m (kinds.Mark m) ≡ true → First bytes names own → ((f : First bytes names own) → is_mark m f.token.kind ≡ false) → Opens (IsNot m) own
expression_not m bytes names own e f g = record { token = f.token; others = f.others; whole = f.whole; is = g f }

initial_opens : (bytes : List ℕ) (names : Scope) (i : Initial) (own : List Token) → SpellsInitial bytes i own → IsWellInitial names i → Opens (IsNot marks.RightBrace) own
initial_opens bytes names (initial e) own s w = expression_not marks.RightBrace bytes names own refl (first_token bytes names e own s w.1) (first_no_mark marks.RightBrace bytes names own refl)
initial_opens bytes names (braces line is) own s w = record { token = s.token; others = s.rest; whole = s.whole; is = passes_at (is_mark marks.RightBrace) s.token.kind (kinds.Mark marks.LeftBrace) false s.is.kind refl }

value_again : (bytes : List ℕ) (e : Tree) → InitialAgain bytes (initial e)
unfolding initial_at
value_again bytes e names zero own rest o s w d = absurd (let h = has_depth e in omega (arith, h))
value_again bytes e names (suc n) own rest o s w d =
    ap (λ (r : Read Token). initial_by bytes names (suc n) (initial_at bytes names n) (own ++ rest) r)
    (opens_not marks.LeftBrace own rest (expression_not marks.LeftBrace bytes names own refl (first_token bytes names e own s w.1) (first_no_mark marks.LeftBrace bytes names own refl)))
    ∙ ap (λ (r : Read Tree). r >>= λ e. Some (initial e.0, e.1))
    (ap (λ (xs : List Token). reader bytes names (suc n) 2 (own ++ xs)) o.whole
    ∙ expression_read bytes names (suc n) 2 e own o.others o.token (stops_at_ender 2 o.token (omega arith) refl o.is) s w.1 d w.0
    ∙ ap (λ (xs : List Token). Some (e, xs)) (sym o.whole))

braces_again : (bytes : List ℕ) (line : ℕ) (is : Initials) → InitialsAgain bytes is → InitialAgain bytes (braces line is)
unfolding initial_at initials_at
braces_again bytes line is again names zero own rest o s w d = absurd (omega arith)
braces_again bytes line is again names (suc n) own rest o s w d =
    let sub = initial_at bytes names n in
    let long = length-append s.rest rest in
    ap (λ (r : Read Token). initial_by bytes names (suc n) sub (own ++ rest) r)
    (ap (token_at (is_mark marks.LeftBrace)) (from_token own rest s.rest s.token s.whole) ∙ mark_gives marks.LeftBrace s.token (s.rest ++ rest) s.is.kind)
    ∙ ap (λ (r : Read Initials). r >>= λ is. Some (braces s.token.line is.0, is.1)) (again names n (length (s.rest ++ rest) + 1) true s.rest rest s.behind w (omega arith) (omega (arith, long)))
    ∙ ap (λ (l : ℕ). Some (braces l is, rest)) s.is.line

initials_were : (first : Bool) (bytes : List ℕ) (i : Initial) (is : Initials) (own : List Token) → SpellsInitialsBy first bytes (initials i is) own → Separated first (Then (SpellsInitial bytes i) (SpellsOtherInitials bytes is)) own
initials_were true bytes i is own s = s
initials_were false bytes i is own s = s

other_initials_end : (bytes : List ℕ) (is : Initials) (own rest : List Token) → SpellsOtherInitials bytes is own → Opens IsEnder (own ++ rest)
other_initials_end bytes no_initial own rest (inl s) = record { token = s.token; others = rest; whole = from_token own rest [] s.token s.whole; is = inr (inr s.is) }
other_initials_end bytes no_initial own rest (inr s) = record { token = s.token; others = s.rest ++ rest; whole = from_token own rest s.rest s.token s.whole; is = inl s.is }
other_initials_end bytes (initials i is) own rest s = record { token = s.token; others = s.rest ++ rest; whole = from_token own rest s.rest s.token s.whole; is = inl s.is }

no_initials_again : (bytes : List ℕ) → InitialsAgain bytes no_initial
no_initials_again bytes names n zero first own rest s w d h = absurd (omega arith)
no_initials_again bytes names n (suc m) true own rest s w d h = absurd s
no_initials_again bytes names n (suc m) false own rest s w d h =
    run_stops (initials_list (initial_at bytes names n)) m false (own ++ rest) (no_initial, rest) (bind_gives (shut_at false (own ++ rest)) (λ xs. Some (no_initial, xs)) rest (Some (no_initial, rest)) (shut_gives own rest s) refl)

some_initials_again : (bytes : List ℕ) (i : Initial) (is : Initials) → InitialAgain bytes i → InitialsAgain bytes is → InitialsAgain bytes (initials i is)
some_initials_again bytes i is again others names n zero first own rest s w d h = absurd (omega arith)
some_initials_again bytes i is again others names n (suc m) first own rest s w d h =
    let A = Then (SpellsInitial bytes i) (SpellsOtherInitials bytes is) in
    let sub = initial_at bytes names n in
    let sep = initials_were first bytes i is own s in
    let c = comma_gives first A own rest sep in
    let two = c.spelled in
    let one = opens_length (IsNot marks.RightBrace) two.left (initial_opens bytes names i two.left two.first w.0) in
    let both = ap (λ (xs : List Token). length xs) two.whole ∙ length-append two.left two.right in
    let short = c.short in
    run_goes (initials_list sub) m first (own ++ rest) (two.right ++ rest) rest i is
    (bind_none (shut_at first (own ++ rest)) (λ xs. Some (no_initial, xs))
    (shut_fails first A own rest (λ xs a. opens_longer (IsNot marks.RightBrace) xs a.left a.right a.whole (initial_opens bytes names i a.left a.first w.0)) sep))
    (bind_gives (comma_at first (own ++ rest)) sub (c.inner ++ rest) (Some (i, two.right ++ rest)) c.read
    (ap sub (apart c.inner two.left two.right rest two.whole) ∙ again names n two.left (two.right ++ rest) (other_initials_end bytes is two.right rest two.second) two.first w.0 (omega arith)))
    (others names n m false two.right rest two.second w.1 (omega arith) (omega (arith, one, both, short)))

mutual
  initial_again : (bytes : List ℕ) (i : Initial) → InitialAgain bytes i
  initial_again bytes (initial e) = value_again bytes e
  initial_again bytes (braces line is) = braces_again bytes line is (initials_again bytes is)

  initials_again : (bytes : List ℕ) (is : Initials) → InitialsAgain bytes is
  initials_again bytes no_initial = no_initials_again bytes
  initials_again bytes (initials i is) = some_initials_again bytes i is (initial_again bytes i) (initials_again bytes is)

pub initializer_read : (bytes : List ℕ) (names : Scope) (n : ℕ) (i : Option Initial) (own rest : List Token) → Opens IsEnder rest → SpellsInitializer bytes i own → IsWellInitializer names i → initializer_depth i ≤ n → initializer_at bytes names n (own ++ rest) ≡ Some (i, rest)
unfolding initializer_at
initializer_read bytes names n None own rest o s w d =
    ap (λ (xs : List Token). initializer_by bytes names n (xs ++ rest) (token_at (is_mark marks.Equal) (xs ++ rest))) s
    ∙ ap (λ (r : Read Token). initializer_by bytes names n rest r)
    (ap (token_at (is_mark marks.Equal)) o.whole ∙ token_fails (is_mark marks.Equal) o.token o.others (ender_not marks.Equal o.token.kind refl refl refl o.is))
initializer_read bytes names n (Some i) own rest o s w d =
    ap (λ (r : Read Token). initializer_by bytes names n (own ++ rest) r)
    (ap (token_at (is_mark marks.Equal)) (from_token own rest s.rest s.token s.whole) ∙ mark_gives marks.Equal s.token (s.rest ++ rest) s.is)
    ∙ ap (λ (r : Read Initial). r >>= λ i. Some (Some i.0, i.1)) (initial_again bytes i names n s.rest rest o s.behind w d)

pub initializer_opens : (bytes : List ℕ) (i : Option Initial) (own rest : List Token) → Opens IsEnder rest → SpellsInitializer bytes i own → Opens Follows (own ++ rest)
initializer_opens bytes None own rest o s =
    let f = enders_follow rest o in
    record { token = f.token; others = f.others; whole = ap (λ (xs : List Token). xs ++ rest) s ∙ f.whole; is = f.is }
initializer_opens bytes (Some i) own rest o s = record {
  token = s.token;
  others = s.rest ++ rest;
  whole = from_token own rest s.rest s.token s.whole;
  is = (
    passes_at (is_mark marks.LeftBracket) s.token.kind (kinds.Mark marks.Equal) false s.is refl,
    passes_at (is_mark marks.LeftParenthesis) s.token.kind (kinds.Mark marks.Equal) false s.is refl,
    ap is_identifier s.is,
  );
}

declarator_read : (bytes : List ℕ) (names : Scope) (types : Bool) (n : ℕ) (d : Full) (i : Option Initial) (left mid rest : List Token) → Opens IsEnder rest → SpellsFull bytes d left → SpellsInitializer bytes i mid → full_has_name d ≡ true → IsWellFull names false d → IsWellInitializer ((name_of d, types) ∷ names) i → full_depth d ≤ n → initializer_depth i ≤ n → declarator_at bytes names types n (left ++ (mid ++ rest)) ≡ Some ((d, i), rest)
unfolding declarator_at
declarator_read bytes names types n d i left mid rest o s r h w v deep below =
    bind_gives (full_at bytes n false names (left ++ (mid ++ rest))) (λ d. initializer_at bytes ((name_of d.0, types) ∷ names) n d.1 >>= λ i. Some ((d.0, i.0), i.1)) (d, mid ++ rest) (Some ((d, i), rest))
    (full_again bytes d n false names left (mid ++ rest) s w (λ _. h) deep (initializer_opens bytes i mid rest o r))
    (bind_gives (initializer_at bytes ((name_of d, types) ∷ names) n (mid ++ rest)) (λ i. Some ((d, i.0), i.1)) (i, rest) (Some ((d, i), rest)) (initializer_read bytes ((name_of d, types) ∷ names) n i mid rest o r v below) refl)

declarators_were : (first : Bool) (bytes : List ℕ) (d : Full) (i : Option Initial) (ds : Declarators) (own : List Token) → SpellsDeclaratorsBy first bytes (declarator d i ds) own → Separated first (Then (SpellsFull bytes d) (Then (SpellsInitializer bytes i) (SpellsOthers bytes ds))) own
declarators_were true bytes d i ds own s = s
declarators_were false bytes d i ds own s = s

none_were : (first : Bool) (bytes : List ℕ) (own : List Token) → SpellsDeclaratorsBy first bytes none_declared own → Single (IsMark marks.Semicolon) own
none_were true bytes own s = s
none_were false bytes own s = s

pub others_end : (bytes : List ℕ) (ds : Declarators) (own rest : List Token) → SpellsOthers bytes ds own → Opens IsEnder (own ++ rest)
others_end bytes none_declared own rest s = record { token = s.token; others = rest; whole = from_token own rest [] s.token s.whole; is = inr (inl s.is) }
others_end bytes (declarator d i ds) own rest s = record { token = s.token; others = s.rest ++ rest; whole = from_token own rest s.rest s.token s.whole; is = inl s.is }

pub declarators_again : (bytes : List ℕ) (ds : Declarators) (types : Bool) (n m : ℕ) (names : Scope) (first : Bool) (own rest : List Token) → SpellsDeclaratorsBy first bytes ds own → AreWellDeclarators names types ds → declarators_depth ds ≤ n → length own < m → run_at (declarators_list bytes types n) m (names, first) (own ++ rest) ≡ Some (ds, rest)
declarators_again bytes ds types n zero names first own rest s w d h = absurd (omega arith)
declarators_again bytes none_declared types n (suc m) names first own rest s w d h =
    run_stops (declarators_list bytes types n) m (names, first) (own ++ rest) (none_declared, rest) (ended_gives marks.Semicolon none_declared own rest (none_were first bytes own s))
declarators_again bytes (declarator x i ds) types n (suc m) names first own rest s w d h =
    let A = Then (SpellsFull bytes x) (Then (SpellsInitializer bytes i) (SpellsOthers bytes ds)) in
    let sep = declarators_were first bytes x i ds own s in
    let c = comma_gives first A own rest sep in
    let two = c.spelled in
    let three = two.second in
    let some = named_full x w.0 in
    let one = opens_length (IsNot marks.Semicolon) two.left (full_opens_not bytes marks.Semicolon x two.left refl refl refl some two.first) in
    let both = ap (λ (xs : List Token). length xs) two.whole ∙ length-append two.left two.right in
    let back = ap (λ (xs : List Token). length xs) three.whole ∙ length-append three.left three.right in
    let short = c.short in
    let e = apart c.inner two.left two.right rest two.whole ∙ ap (λ (xs : List Token). two.left ++ xs) (apart two.right three.left three.right rest three.whole) in
    run_goes (declarators_list bytes types n) m (names, first) (own ++ rest) (three.right ++ rest) rest (x, i) ds
    (ended_fails marks.Semicolon none_declared first A own rest refl (λ xs a. opens_longer (IsNot marks.Semicolon) xs a.left a.right a.whole (full_opens_not bytes marks.Semicolon x a.left refl refl refl some a.first)) sep)
    (bind_gives (comma_at first (own ++ rest)) (λ xs. declarator_at bytes names types n xs) (c.inner ++ rest) (Some ((x, i), three.right ++ rest)) c.read
    (ap (declarator_at bytes names types n) e
    ∙ declarator_read bytes names types n x i two.left three.left (three.right ++ rest) (others_end bytes ds three.right rest three.second) two.first three.first w.0 w.1 w.2 (omega arith) (omega arith)))
    (declarators_again bytes ds types n m ((name_of x, types) ∷ names) false three.right rest three.second w.3 (omega arith) (omega (arith, one, both, back, short)))

pub declarators_read : (bytes : List ℕ) (names : Scope) (types : Bool) (ds : Declarators) (n : ℕ) (first : Bool) (own rest : List Token) → SpellsDeclaratorsBy first bytes ds own → AreWellDeclarators names types ds → declarators_depth ds ≤ n → declarators_at bytes names types n first (own ++ rest) ≡ Some (ds, rest)
unfolding declarators_at
declarators_read bytes names types ds n first own rest s w d =
    let long = length-append own rest in
    declarators_again bytes ds types n (length (own ++ rest) + 1) names first own rest s w d (omega (arith, long))

pub declarators_quiet : (bytes : List ℕ) (names : Scope) (before types : Bool) (ds : Declarators) (own rest : List Token) → SpellsDeclarators bytes ds own → AreWellDeclarators names types ds → FrontIsNoTypeOfDeclarators names before ds → Quiet false bytes names before (own ++ rest)
declarators_quiet bytes names before types none_declared own rest s w f = quiet_at_mark false bytes names before marks.Semicolon s.token (own ++ rest) rest (from_token own rest [] s.token s.whole) s.is refl
declarators_quiet bytes names before types (declarator d i ds) own rest s w f =
    let q = full_quiet false bytes names before d s.left (s.right ++ rest) s.first (named_full d w.0) f in
    let e = apart own s.left s.right rest s.whole in
    record { no_start = ap (start_at false bytes (names, before)) e ∙ q.no_start; no_brace = ap (token_at (is_mark marks.LeftBrace)) e ∙ q.no_brace }

pub declaration_read : (bytes : List ℕ) (names : Scope) (n : ℕ) (ps : Parts) (ds : Declarators) (own rest : List Token) → SpellsDeclaration bytes ps ds own → IsWellDeclaration names ps ds → max (parts_depth ps) (declarators_depth ds) ≤ n → declaration_at bytes names n (own ++ rest) ≡ Some ((ps, ds), rest)
unfolding declaration_at
declaration_read bytes names n ps ds own rest s w d =
    let q = declarators_quiet bytes (with_parts names ps) (specify ps) (have_typedef ps) ds s.right rest s.second w.3 w.2 in
    bind_gives (parts_at false bytes n (body_at bytes n) names (own ++ rest)) (λ p. cond (are_some p.0) (declarators_at bytes (with_parts names p.0) (have_typedef p.0) n true p.1) None >>= λ ds. Some ((p.0, ds.0), ds.1)) (ps, s.right ++ rest) (Some ((ps, ds), rest))
    (ap (parts_at false bytes n (body_at bytes n) names) (apart own s.left s.right rest s.whole)
    ∙ parts_read bytes ps (parts_again bytes ps) false n names s.left (s.right ++ rest) s.first w.1 (λ e. absurd cc) (omega arith) q)
    (bind_gives (cond (are_some ps) (declarators_at bytes (with_parts names ps) (have_typedef ps) n true (s.right ++ rest)) None) (λ ds. Some ((ps, ds.0), ds.1)) (ds, rest) (Some ((ps, ds), rest))
    (ap (λ (b : Bool). cond b (declarators_at bytes (with_parts names ps) (have_typedef ps) n true (s.right ++ rest)) None) (are_there ps w.0) ∙ declarators_read bytes (with_parts names ps) (have_typedef ps) ds n true s.right rest s.second w.3 (omega arith))
    refl)

-- a declaration begins with a specifier
pub declaration_starts : (bytes : List ℕ) (names : Scope) (ps : Parts) (ds : Declarators) (own rest : List Token) → SpellsDeclaration bytes ps ds own → IsWellDeclaration names ps ds → (x : Start × Token × List Token) × (start_at false bytes (names, false) (own ++ rest) ≡ Some x)
declaration_starts bytes names ps ds own rest s w =
    let q = declarators_quiet bytes (with_parts names ps) (specify ps) (have_typedef ps) ds s.right rest s.second w.3 w.2 in
    let p = parts_start bytes ps names s.left (s.right ++ rest) s.first w.1 w.0 q.no_brace in
    (p.0, ap (start_at false bytes (names, false)) (apart own s.left s.right rest s.whole) ∙ p.1)

-- no label stands where a declaration does
no_colon_full : (k : Kind) → BeginsFull k → is_mark marks.Colon k ≡ false
no_colon_full k e = full_not marks.Colon k refl refl refl e

declarators_no_colon : (bytes : List ℕ) (names : Scope) (types : Bool) (ds : Declarators) (own rest : List Token) → SpellsDeclarators bytes ds own → AreWellDeclarators names types ds → token_at (is_mark marks.Colon) (own ++ rest) ≡ None
declarators_no_colon bytes names types none_declared own rest s w =
    ap (token_at (is_mark marks.Colon)) (from_token own rest [] s.token s.whole) ∙ token_fails (is_mark marks.Colon) s.token rest (passes_at (is_mark marks.Colon) s.token.kind (kinds.Mark marks.Semicolon) false s.is refl)
declarators_no_colon bytes names types (declarator d i ds) own rest s w =
    opens_not marks.Colon own rest (opens_longer (IsNot marks.Colon) own s.left s.right s.whole (full_opens_not bytes marks.Colon d s.left refl refl refl (named_full d w.0) s.first))

parts_no_colon : (bytes : List ℕ) (ps : Parts) (own rest : List Token) → SpellsParts bytes ps own → token_at (is_mark marks.Colon) rest ≡ None → token_at (is_mark marks.Colon) (own ++ rest) ≡ None
parts_no_colon bytes no_part own rest s e = ap (λ (xs : List Token). token_at (is_mark marks.Colon) (xs ++ rest)) s ∙ e
parts_no_colon bytes (part p ps) own rest s e =
    opens_not marks.Colon own rest (opens_word marks.Colon own (opens_longer IsWord own s.left s.right s.whole (part_opens bytes p s.left s.first)))

no_label_at : (ts others : List Token) (t : Token) (k : Kind) → ts ≡ t ∷ others → t.kind ≡ k → is_identifier k ≡ false → is_label ts ≡ false
no_label_at ts others t k e is f = ap is_label e ∙ ap (λ (b : Bool). b && stands marks.Colon others) (ap is_identifier is ∙ f)

no_label_behind : (ts others : List Token) (t : Token) → ts ≡ t ∷ others → token_at (is_mark marks.Colon) others ≡ None → is_label ts ≡ false
no_label_behind ts others t e f = ap is_label e ∙ ap (λ (o : Read Token). is_identifier t.kind && is_there o) f ∙ and_none (is_identifier t.kind)
  where
    and_none : (b : Bool) → (b && false) ≡ false
    and_none true = refl
    and_none false = refl

part_no_label : (bytes : List ℕ) (p : Part) (own rest : List Token) → SpellsPart bytes p own → token_at (is_mark marks.Colon) rest ≡ None → is_label (own ++ rest) ≡ false
part_no_label bytes (type_part (qualified line q)) own rest s e = no_label_at (own ++ rest) rest s.token (kinds.Keyword (qualifier_keyword q)) (from_token own rest [] s.token s.whole) s.is.kind refl
part_no_label bytes (type_part (word line w)) own rest s e = no_label_at (own ++ rest) rest s.token (kinds.Keyword (word_keyword w)) (from_token own rest [] s.token s.whole) s.is.kind refl
part_no_label bytes (type_part (tagged line kind text)) own rest s e = no_label_at (own ++ rest) (s.rest ++ rest) s.token (kinds.Keyword (tag_keyword kind)) (from_token own rest s.rest s.token s.whole) s.is.kind refl
part_no_label bytes (type_part (typedef_name line text)) own rest s e = no_label_behind (own ++ rest) rest s.token (from_token own rest [] s.token s.whole) e
part_no_label bytes (storage line c) own rest s e = no_label_at (own ++ rest) rest s.token (kinds.Keyword (storage_keyword c)) (from_token own rest [] s.token s.whole) s.is.kind refl
part_no_label bytes (function line f) own rest s e = no_label_at (own ++ rest) rest s.token (kinds.Keyword (function_keyword f)) (from_token own rest [] s.token s.whole) s.is.kind refl
part_no_label bytes (structure line kind tag ms) own rest s e = no_label_at (own ++ rest) (s.rest ++ rest) s.token (kinds.Keyword (record_keyword kind)) (from_token own rest s.rest s.token s.whole) s.is.kind refl
part_no_label bytes (enumeration line tag es) own rest s e = no_label_at (own ++ rest) (s.rest ++ rest) s.token (kinds.Keyword keywords.Enum) (from_token own rest s.rest s.token s.whole) s.is.kind refl

declaration_no_label : (bytes : List ℕ) (names : Scope) (ps : Parts) (ds : Declarators) (own rest : List Token) → SpellsDeclaration bytes ps ds own → IsWellDeclaration names ps ds → is_label (own ++ rest) ≡ false
declaration_no_label bytes names no_part ds own rest s w = absurd (w.0 refl)
declaration_no_label bytes names (part p ps) ds own rest s w =
    let two = s.first in
    let last = declarators_no_colon bytes (with_parts names (part p ps)) (have_typedef (part p ps)) ds s.right rest s.second w.3 in
    ap is_label (apart own s.left s.right rest s.whole ∙ apart s.left two.left two.right (s.right ++ rest) two.whole)
    ∙ part_no_label bytes p two.left (two.right ++ (s.right ++ rest)) two.first (parts_no_colon bytes ps two.right (s.right ++ rest) two.second last)

pub declaration_declares : (bytes : List ℕ) (names : Scope) (ps : Parts) (ds : Declarators) (own rest : List Token) → SpellsDeclaration bytes ps ds own → IsWellDeclaration names ps ds → (x : Start × Token × List Token) × (declares_at bytes names (own ++ rest) ≡ Some x)
unfolding declares_at
declaration_declares bytes names ps ds own rest s w =
    let x = declaration_starts bytes names ps ds own rest s w in
    (x.0, ap (λ (b : Bool). cond b None (start_at false bytes (names, false) (own ++ rest))) (declaration_no_label bytes names ps ds own rest s w) ∙ x.1)
