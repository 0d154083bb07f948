-- A declarator that stands there is read.
use Rattle.std.proofs.Common.{◌≡◌, ◌≤◌, ◌<◌, ◌+◌, ℕ, zero, suc, List, [], ◌∷◌, ◌++◌, length, Bool, true, false, ◌&&◌, ◌||◌, cond, Option, Some, None, refl, ap, sym, ◌∙◌, arith}
use Rattle.std.specs.Prelude.{nat_lt}
use Rattle.std.proofs.Common.{length-append}
use Rattle.std.proofs.lemmas.Bool.{lt-ltb}
use Rattle.c_token.specs.declared.token.Token.{Token}
use Rattle.c_token.specs.declared.token.Kind.{Kind}
use Rattle.c_token.specs.declared.token.Kind.TheVariants as kinds
use Rattle.c_token.specs.declared.token.Mark.TheVariants as marks
use Rattle.c_token.specs.Spelling.{text_of}
use Rattle.c_tree.specs.Tree.{TypePart, Tree, Declared, Suffixes, unnamed, named, inside, pointing, no_suffix, bounded, unbounded, declared_depth, suffixes_depth}
use Rattle.c_tree.specs.Names.{Scope}
use Rattle.c_tree.specs.Spelling.{SpellsTypeParts, SpellsDeclared, SpellsSuffixes, AreSpecifiers, IsWellDeclared, AreWellSuffixes, is_empty, has_name}
use Rattle.c_parse_expr.specs.declared.declarator_start.DeclaratorStart.{DeclaratorStart}
use Rattle.c_parse_expr.specs.declared.declarator_start.DeclaratorStart.TheVariants as declarator_starts
use Rattle.c_parse_expr.specs.Tables.{suffix_of}
use Rattle.c_parse_expr.specs.inner.Many.{◌>>=◌}
use Rattle.c_parse_expr.specs.Reading.{is_mark}
use Rattle.c_parse_expr.specs.inner.Reading.{Read, Reader, DeclaredReader, behind, opened, bound_at, bracket, bracketed, bracket_at, suffixes_from, suffixes_at, declarator_start_of, declarator_start_at, inside_at, declared_from, bare, type_name_at, reader, declared_at}
use Rattle.c_parse_expr.specs.Standing.{opens, goes_on_with}
use Rattle.c_parse_expr.proofs.Marks.{end_is}
use Rattle.c_parse_expr.proofs.Steps.{behind_gives}
use Rattle.c_parse_expr.proofs.Rows.{Run, run_many}
use Rattle.c_parse_expr.proofs.Within.{deep_declared}
use Rattle.c_parse_expr.proofs.DeclaratorStarts.{nothing_begins}
use Rattle.c_parse_expr.proofs.CompleteSteps.{Complete, seam, from_token, mark_is, before, first_token, not_first}
use Rattle.c_parse_expr.proofs.CompleteWords.{Marked, parts_read}

-- suffixes as a list
abbrev pub pairs : Suffixes → List (ℕ × Option Tree)
pairs no_suffix = []
pairs (bounded line e rest) = (line, Some e) ∷ pairs rest
pairs (unbounded line rest) = (line, None) ∷ pairs rest

from_pairs : (ss : Suffixes) → suffixes_from (pairs ss) ≡ ss
from_pairs no_suffix = refl
from_pairs (bounded line e rest) = ap (bounded line e) (from_pairs rest)
from_pairs (unbounded line rest) = ap (unbounded line) (from_pairs rest)

-- From the tokens of suffixes reading comes to each of them.
abbrev pub SuffixesAgain : List ℕ → Scope → Suffixes → Type 0
SuffixesAgain bytes names ss = (n : ℕ) (own rest : List Token) → SpellsSuffixes bytes ss own → AreWellSuffixes names ss → suffixes_depth ss ≤ n → opens marks.LeftBracket rest ≡ false → Run (bracket_at (reader bytes names n)) tt (pairs ss) (own ++ rest) rest × (length (pairs ss) ≤ length own)

bracket_stops : (ts : List Token) → opens marks.LeftBracket ts ≡ false → bracket ts ≡ None
unfolding bracket
bracket_stops [] e = refl
bracket_stops (t ∷ ts) e = ap (λ (b : Bool). cond {A = Option (ℕ × List Token)} b (Some (t.line, ts)) None) e

bracket_read : (t : Token) (ts : List Token) (line : ℕ) → t.kind ≡ kinds.Mark marks.LeftBracket → t.line ≡ line → bracket (t ∷ ts) ≡ Some (line, ts)
unfolding bracket
bracket_read t ts line e f = ap (λ (b : Bool). cond {A = Option (ℕ × List Token)} b (Some (t.line, ts)) None) (ap (is_mark marks.LeftBracket) e) ∙ ap (λ (l : ℕ). Some (l, ts)) f

pub suffixes_none : (bytes : List ℕ) (names : Scope) → SuffixesAgain bytes names no_suffix
suffixes_none bytes names n own rest s w d e =
    ((ap (λ (xs : List Token). bracketed (reader bytes names n) (bracket (xs ++ rest))) s ∙ ap (bracketed (reader bytes names n)) (bracket_stops rest e), ap (λ (xs : List Token). xs ++ rest) s), omega arith)

abbrev One : Type 0
One = (ℕ × Option Tree) × Unit {0} × List Token

open_bound : (sub : Reader) (line : ℕ) (t : Token) (rest : List Token) → t.kind ≡ kinds.Mark marks.RightBracket → bound_at sub line (t ∷ rest) ≡ Some (Some ((line, None), tt, rest))
unfolding bound_at
open_bound sub line t rest e =
    ap (λ (o : Option (List Token)). opened line o (sub 3 (t ∷ rest) >>= λ e. behind marks.RightBracket e.1 >>= λ rest. Some (Some ((line, Some e.0), tt, rest))))
    (behind_gives marks.RightBracket t rest true (mark_is marks.RightBracket t.kind true marks.RightBracket e refl))

closed_bound : (sub : Reader) (line : ℕ) (ts rest : List Token) (e : Tree) (t : Token) → behind marks.RightBracket ts ≡ None → sub 3 ts ≡ Some (e, t ∷ rest) → t.kind ≡ kinds.Mark marks.RightBracket → bound_at sub line ts ≡ Some (Some ((line, Some e), tt, rest))
unfolding bound_at
closed_bound sub line ts rest e t unclosed one is =
    ap (λ (o : Option (List Token)). opened line o (sub 3 ts >>= λ e. behind marks.RightBracket e.1 >>= λ rest. Some (Some ((line, Some e.0), tt, rest)))) unclosed
    ∙ ap (λ (o : Read). o >>= λ e. behind marks.RightBracket e.1 >>= λ rest. Some (Some ((line, Some e.0), tt, rest))) one
    ∙ ap (λ (o : Option (List Token)). o >>= λ rest. Some (Some ((line, Some e), tt, rest))) (behind_gives marks.RightBracket t rest true (mark_is marks.RightBracket t.kind true marks.RightBracket is refl))

pub suffixes_unbounded : (bytes : List ℕ) (names : Scope) (line : ℕ) (ss : Suffixes) → SuffixesAgain bytes names ss → SuffixesAgain bytes names (unbounded line ss)
suffixes_unbounded bytes names line ss others n own rest s w d e =
    let sub = reader bytes names n in
    let close = s.behind in
    let r = others n close.rest rest close.behind w d e in
    let where_ = from_token own rest s.rest s.token s.whole ∙ ap (λ (xs : List Token). s.token ∷ xs) (from_token s.rest rest close.rest close.token close.whole) in
    let first : bracket_at sub tt (own ++ rest) ≡ Some (Some ((line, None), tt, close.rest ++ rest)) =
    ap (λ (xs : List Token). bracketed sub (bracket xs)) where_
    ∙ ap (bracketed sub) (bracket_read s.token (close.token ∷ (close.rest ++ rest)) line s.is.kind s.is.line)
    ∙ open_bound sub line close.token (close.rest ++ rest) close.is in
    let one = ap (λ (xs : List Token). length xs) s.whole in
    let two = ap (λ (xs : List Token). length xs) close.whole in
    ((tt, close.rest ++ rest, first, r.0), omega (arith, one, two, r.1))

pub suffixes_bounded : (bytes : List ℕ) (names : Scope) (line : ℕ) (e : Tree) (ss : Suffixes) → Complete bytes names e → SuffixesAgain bytes names ss → SuffixesAgain bytes names (bounded line e ss)
suffixes_bounded bytes names line e ss again others n own rest s w d f =
    let sub = reader bytes names n in
    let mid = s.behind in
    let close = mid.second in
    let r = others n close.rest rest close.behind w.2 (omega arith) f in
    let where_ = from_token own rest s.rest s.token s.whole ∙ ap (λ (xs : List Token). s.token ∷ xs)
    (seam s.rest mid.left mid.right rest mid.whole ∙ ap (λ (xs : List Token). mid.left ++ xs) (from_token mid.right rest close.rest close.token close.whole)) in
    let first : bracket_at sub tt (own ++ rest) ≡ Some (Some ((line, Some e), tt, close.rest ++ rest)) =
    ap (λ (xs : List Token). bracketed sub (bracket xs)) where_
    ∙ ap (bracketed sub) (bracket_read s.token (mid.left ++ (close.token ∷ (close.rest ++ rest))) line s.is.kind s.is.line)
    ∙ closed_bound sub line (mid.left ++ (close.token ∷ (close.rest ++ rest))) (close.rest ++ rest) e close.token
    (not_first bytes names marks.RightBracket end_is refl mid.left (close.token ∷ (close.rest ++ rest)) (first_token bytes names e mid.left mid.first w.1))
    (before bytes names e again n 3 mid.left (close.rest ++ rest) close.token mid.first w.1 (omega arith) w.0 (ap suffix_of close.is))
    close.is in
    let one = ap (λ (xs : List Token). length xs) s.whole in
    let two = ap (λ (xs : List Token). length xs) mid.whole ∙ length-append mid.left mid.right in
    let three = ap (λ (xs : List Token). length xs) close.whole in
    ((tt, close.rest ++ rest, first, r.0), omega (arith, one, two, three, r.1))

suffixes_read : (bytes : List ℕ) (names : Scope) (ss : Suffixes) → SuffixesAgain bytes names ss → (n : ℕ) (own rest : List Token) → SpellsSuffixes bytes ss own → AreWellSuffixes names ss → suffixes_depth ss ≤ n → opens marks.LeftBracket rest ≡ false → suffixes_at (reader bytes names n) (own ++ rest) ≡ Some (ss, rest)
unfolding suffixes_at
suffixes_read bytes names ss again n own rest s w d e =
    let r = again n own rest s w d e in
    let long = length-append own rest in
    ap (λ (o : Option (List (ℕ × Option Tree) × List Token)). o >>= λ x. Some (suffixes_from x.0, x.1)) (run_many (bracket_at (reader bytes names n)) (length (own ++ rest) + 1) tt (pairs ss) (own ++ rest) rest r.0 (omega (arith, r.1, long)))
    ∙ ap (λ (x : Suffixes). Some (x, rest)) (from_pairs ss)

-- From the tokens of a declarator reading comes to it.
abbrev pub DeclaredAgain : List ℕ → Scope → Declared → Type 0
DeclaredAgain bytes names d = (n : ℕ) (own rest : List Token) → SpellsDeclared bytes d own → IsWellDeclared names d → declared_depth d ≤ n → goes_on_with d rest ≡ false → declared_at bytes names n (has_name d) (own ++ rest) ≡ Some (d, rest)

reads_from : (bytes : List ℕ) (names : Scope) (n : ℕ) (with_name : Bool) (h : DeclaratorStart) (ts : List Token) → declarator_start_at with_name ts ≡ Some h → declared_at bytes names (suc n) with_name ts ≡ declared_from bytes (reader bytes names n) (declared_at bytes names n) with_name h ts
unfolding declared_at
reads_from bytes names n with_name h ts e = ap (λ (o : Option DeclaratorStart). o >>= λ h. declared_from bytes (reader bytes names n) (declared_at bytes names n) with_name h ts) e

either_false : (a b : Bool) → (a || b) ≡ false → (a ≡ false) × (b ≡ false)
either_false true b e = cc
either_false false b e = (refl, e)

empty_read : (bytes : List ℕ) (names : Scope) (n : ℕ) (ts : List Token) → declarator_start_at false ts ≡ Some declarator_starts.Nothing → declared_at bytes names n false ts ≡ Some (unnamed no_suffix, ts)
unfolding declared_at declared_from
empty_read bytes names zero ts e = ap (λ (o : Option DeclaratorStart). bare o ts) e
empty_read bytes names (suc n) ts e = ap (λ (o : Option DeclaratorStart). o >>= λ h. declared_from bytes (reader bytes names n) (declared_at bytes names n) false h ts) e

from_suffixes : (bytes : List ℕ) (names : Scope) (n : ℕ) (ss : Suffixes) (own rest : List Token) (t : Token) (others : List Token) → own ≡ t ∷ others → t.kind ≡ kinds.Mark marks.LeftBracket → suffixes_at (reader bytes names n) (own ++ rest) ≡ Some (ss, rest) → declared_at bytes names (suc n) false (own ++ rest) ≡ Some (unnamed ss, rest)
unfolding declared_from
from_suffixes bytes names n ss own rest t others whole is e =
    reads_from bytes names n false declarator_starts.Suffixes (own ++ rest) (ap (declarator_start_at false) (from_token own rest others t whole) ∙ ap (declarator_start_of false) is)
    ∙ ap (λ (o : Option (Suffixes × List Token)). o >>= λ s. Some (unnamed s.0, s.1)) e

pub again_unnamed : (bytes : List ℕ) (names : Scope) (ss : Suffixes) → SuffixesAgain bytes names ss → DeclaredAgain bytes names (unnamed ss)
again_unnamed bytes names no_suffix again n own rest s w d e =
    let f = either_false (opens marks.LeftBracket rest) (opens marks.LeftParenthesis rest) e in
    ap (λ (xs : List Token). declared_at bytes names n false (xs ++ rest)) s ∙ empty_read bytes names n rest (nothing_begins rest f.0 f.1)
again_unnamed bytes names (bounded line b ss) again zero own rest s w d e = absurd (omega arith)
again_unnamed bytes names (bounded line b ss) again (suc n) own rest s w d e =
    let f = either_false (opens marks.LeftBracket rest) false e in
    from_suffixes bytes names n (bounded line b ss) own rest s.token s.rest s.whole s.is.kind (suffixes_read bytes names (bounded line b ss) again n own rest s w (omega arith) f.0)
again_unnamed bytes names (unbounded line ss) again zero own rest s w d e = absurd (omega arith)
again_unnamed bytes names (unbounded line ss) again (suc n) own rest s w d e =
    let f = either_false (opens marks.LeftBracket rest) false e in
    from_suffixes bytes names n (unbounded line ss) own rest s.token s.rest s.whole s.is.kind (suffixes_read bytes names (unbounded line ss) again n own rest s w (omega arith) f.0)

from_name : (bytes : List ℕ) (names : Scope) (n : ℕ) (ss : Suffixes) (t : Token) (ts rest : List Token) (line : ℕ) (text : List ℕ) → t.kind ≡ kinds.Identifier → t.line ≡ line → text_of bytes t ≡ text → suffixes_at (reader bytes names n) ts ≡ Some (ss, rest) → declared_at bytes names (suc n) true (t ∷ ts) ≡ Some (named line text ss, rest)
unfolding declared_from
from_name bytes names n ss t ts rest line text is at reads e =
    reads_from bytes names n true declarator_starts.Name (t ∷ ts) (ap (declarator_start_of true) is)
    ∙ ap (λ (o : Option (Suffixes × List Token)). o >>= λ s. Some (named t.line (text_of bytes t) s.0, s.1)) e
    ∙ ap (λ (l : ℕ). Some (named l (text_of bytes t) ss, rest)) at ∙ ap (λ (x : List ℕ). Some (named line x ss, rest)) reads

pub again_named : (bytes : List ℕ) (names : Scope) (line : ℕ) (text : List ℕ) (ss : Suffixes) → SuffixesAgain bytes names ss → DeclaredAgain bytes names (named line text ss)
again_named bytes names line text ss again zero own rest s w d e = absurd (omega arith)
again_named bytes names line text ss again (suc n) own rest s w d e =
    let f = either_false (opens marks.LeftBracket rest) false e in
    ap (λ (xs : List Token). declared_at bytes names (suc n) true xs) (from_token own rest s.rest s.token s.whole)
    ∙ from_name bytes names n ss s.token (s.rest ++ rest) rest line text s.is.kind s.is.line s.is.text (suffixes_read bytes names ss again n s.rest rest s.behind w (omega arith) f.0)

inside_read : (sub : Reader) (inner : DeclaredReader) (with_name : Bool) (line : ℕ) (d : Declared) (ss : Suffixes) (ts mid rest : List Token) (t : Token) → inner with_name ts ≡ Some (d, t ∷ mid) → t.kind ≡ kinds.Mark marks.RightParenthesis → 0 < declared_depth d → suffixes_at sub mid ≡ Some (ss, rest) → inside_at sub inner with_name line ts ≡ Some (inside line d ss, rest)
unfolding inside_at
inside_read sub inner with_name line d ss ts mid rest t one is full two =
    ap (λ (o : Option (Declared × List Token)). o >>= λ d. behind marks.RightParenthesis d.1 >>= λ rest. cond (nat_lt 0 (declared_depth d.0)) (suffixes_at sub rest) None >>= λ s. Some (inside line d.0 s.0, s.1)) one
    ∙ ap (λ (o : Option (List Token)). o >>= λ rest. cond (nat_lt 0 (declared_depth d)) (suffixes_at sub rest) None >>= λ s. Some (inside line d s.0, s.1))
    (behind_gives marks.RightParenthesis t mid true (mark_is marks.RightParenthesis t.kind true marks.RightParenthesis is refl))
    ∙ ap (λ (b : Bool). cond {A = Option (Suffixes × List Token)} b (suffixes_at sub mid) None >>= λ s. Some (inside line d s.0, s.1)) (lt-ltb 0 (declared_depth d) full)
    ∙ ap (λ (o : Option (Suffixes × List Token)). o >>= λ s. Some (inside line d s.0, s.1)) two

from_inside : (bytes : List ℕ) (names : Scope) (n : ℕ) (with_name : Bool) (t : Token) (ts : List Token) (y : Declared × List Token) (line : ℕ) → t.kind ≡ kinds.Mark marks.LeftParenthesis → t.line ≡ line → inside_at (reader bytes names n) (declared_at bytes names n) with_name line ts ≡ Some y → declared_at bytes names (suc n) with_name (t ∷ ts) ≡ Some y
unfolding declared_from
from_inside bytes names n with_name t ts y line is at e =
    reads_from bytes names n with_name declarator_starts.Inside (t ∷ ts) (ap (declarator_start_of with_name) is)
    ∙ ap (λ (l : ℕ). inside_at (reader bytes names n) (declared_at bytes names n) with_name l ts) at ∙ e

-- in front of a parenthesis that closes, a declarator ends
closed_ends : (d : Declared) (t : Token) (ts : List Token) → t.kind ≡ kinds.Mark marks.RightParenthesis → goes_on_with d (t ∷ ts) ≡ false
closed_ends d t ts e =
    ap (λ (k : Kind). is_mark marks.LeftBracket k || (is_empty d && is_mark marks.LeftParenthesis k)) e ∙ and_none (is_empty d)
  where
    and_none : (b : Bool) → (b && false) ≡ false
    and_none true = refl
    and_none false = refl

pub again_inside : (bytes : List ℕ) (names : Scope) (line : ℕ) (d : Declared) (ss : Suffixes) → DeclaredAgain bytes names d → SuffixesAgain bytes names ss → DeclaredAgain bytes names (inside line d ss)
again_inside bytes names line d ss first second zero own rest s w h e = absurd (omega arith)
again_inside bytes names line d ss first second (suc n) own rest s w h e =
    let f = either_false (opens marks.LeftBracket rest) false e in
    let mid = s.behind in
    let close = mid.second in
    let where_ = from_token own rest s.rest s.token s.whole ∙ ap (λ (xs : List Token). s.token ∷ xs)
    (seam s.rest mid.left mid.right rest mid.whole ∙ ap (λ (xs : List Token). mid.left ++ xs) (from_token mid.right rest close.rest close.token close.whole)) in
    ap (λ (xs : List Token). declared_at bytes names (suc n) (has_name d) xs) where_
    ∙ from_inside bytes names n (has_name d) s.token (mid.left ++ (close.token ∷ (close.rest ++ rest))) (inside line d ss, rest) line s.is.kind s.is.line
    (inside_read (reader bytes names n) (declared_at bytes names n) (has_name d) line d ss (mid.left ++ (close.token ∷ (close.rest ++ rest))) (close.rest ++ rest) rest close.token
    (first n mid.left (close.token ∷ (close.rest ++ rest)) mid.first w.1 (omega arith) (closed_ends d close.token (close.rest ++ rest) close.is))
    close.is (deep_declared d w.0) (suffixes_read bytes names ss second n close.rest rest close.behind w.2 (omega arith) f.0))

-- a type name's declarator begins with a mark, as does what stands behind an empty one
marked_suffixes : (bytes : List ℕ) (ss : Suffixes) (own rest : List Token) (t : Token) → SpellsSuffixes bytes ss own → t.kind ≡ kinds.Mark marks.RightParenthesis → Marked (own ++ (t ∷ rest))
marked_suffixes bytes no_suffix own rest t s is = record { token = t; mark = marks.RightParenthesis; others = rest; is = is; whole = ap (λ (xs : List Token). xs ++ (t ∷ rest)) s }
marked_suffixes bytes (bounded line e ss) own rest t s is = record { token = s.token; mark = marks.LeftBracket; others = s.rest ++ (t ∷ rest); is = s.is.kind; whole = from_token own (t ∷ rest) s.rest s.token s.whole }
marked_suffixes bytes (unbounded line ss) own rest t s is = record { token = s.token; mark = marks.LeftBracket; others = s.rest ++ (t ∷ rest); is = s.is.kind; whole = from_token own (t ∷ rest) s.rest s.token s.whole }

marked_declared : (bytes : List ℕ) (d : Declared) (own rest : List Token) (t : Token) → SpellsDeclared bytes d own → has_name d ≡ false → t.kind ≡ kinds.Mark marks.RightParenthesis → Marked (own ++ (t ∷ rest))
marked_declared bytes (unnamed ss) own rest t s h is = marked_suffixes bytes ss own rest t s is
marked_declared bytes (named line n ss) own rest t s h is = absurd cc
marked_declared bytes (inside line d ss) own rest t s h is = record { token = s.token; mark = marks.LeftParenthesis; others = s.rest ++ (t ∷ rest); is = s.is.kind; whole = from_token own (t ∷ rest) s.rest s.token s.whole }
marked_declared bytes (pointing line qs d) own rest t s h is = record { token = s.token; mark = marks.Star; others = s.rest ++ (t ∷ rest); is = s.is.kind; whole = from_token own (t ∷ rest) s.rest s.token s.whole }

pub type_read : (bytes : List ℕ) (names : Scope) (n : ℕ) (parts : List TypePart) (d : Declared) → DeclaredAgain bytes names d → (left middle rest : List Token) (close : Token) → SpellsTypeParts bytes parts left → SpellsDeclared bytes d middle → close.kind ≡ kinds.Mark marks.RightParenthesis → AreSpecifiers names parts → has_name d ≡ false → IsWellDeclared names d → declared_depth d ≤ n → type_name_at bytes names (declared_at bytes names n) (left ++ (middle ++ (close ∷ rest))) ≡ Some ((parts, d), rest)
unfolding type_name_at
type_read bytes names n parts d again left middle rest close s r is a h w deep =
    let read = declared_at bytes names n in
    ap (λ (o : Option (List TypePart × List Token)). o >>= λ p. read false p.1 >>= λ d. behind marks.RightParenthesis d.1 >>= λ rest. Some ((p.0, d.0), rest))
    (parts_read bytes names parts left (middle ++ (close ∷ rest)) s a (marked_declared bytes d middle rest close r h is))
    ∙ ap (λ (o : Option (Declared × List Token)). o >>= λ d. behind marks.RightParenthesis d.1 >>= λ rest. Some ((parts, d.0), rest))
    (ap (λ (b : Bool). read b (middle ++ (close ∷ rest))) (sym h) ∙ again n middle (close ∷ rest) r w deep (closed_ends d close rest is))
    ∙ ap (λ (o : Option (List Token)). o >>= λ rest. Some ((parts, d), rest)) (behind_gives marks.RightParenthesis close rest true (mark_is marks.RightParenthesis close.kind true marks.RightParenthesis is refl))
