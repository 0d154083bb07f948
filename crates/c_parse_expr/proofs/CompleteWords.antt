-- What stands there without expressions is read: string literals, and the specifiers of a type.
use Rattle.std.proofs.Common.{◌≡◌, ◌≤◌, ◌+◌, ℕ, List, [], ◌∷◌, ◌++◌, length, Bool, true, false, not, ◌&&◌, ◌||◌, cond, Option, Some, None, refl, ap, sym, subst, ◌∙◌, arith}
use Rattle.std.specs.Prelude.{IfSome}
use Rattle.std.proofs.Common.{length-append}
use Rattle.c_token.specs.declared.token.Token.{Token}
use Rattle.c_token.specs.declared.token.Kind.{Kind}
use Rattle.c_token.specs.declared.token.Kind.TheVariants as kinds
use Rattle.c_token.specs.declared.token.Mark.{Mark}
use Rattle.c_token.specs.Spelling.{text_of}
use Rattle.c_tree.specs.Tree.{TypePart, qualified, word, tagged, typedef_name}
use Rattle.c_tree.specs.Names.{Scope, is_type}
use Rattle.c_tree.specs.Spelling.{SpellsOtherStrings, SpellsTypePart, SpellsTypeParts, specifies_type, IsWellTypePart, AreWellTypeParts, AreSpecifiers}
use Rattle.c_parse_expr.specs.declared.table.Suffix.{Suffix}
use Rattle.c_parse_expr.specs.declared.table.Suffix.TheVariants as suffixes
use Rattle.c_parse_expr.specs.declared.table.TypeStart.{TypeStart}
use Rattle.c_parse_expr.specs.declared.table.TypeStart.TheVariants as starts
use Rattle.c_parse_expr.specs.Tables.{suffix_of}
use Rattle.c_parse_expr.specs.inner.Many.{◌>>=◌}
use Rattle.c_parse_expr.specs.inner.Reading.{is_identifier, is_string, identifier_at, string, quoted, string_at, strings_behind, start_by, start_of, is_some, begins_type, started, type_part_at, type_parts_at}
use Rattle.c_parse_expr.specs.Standing.{is_another, suffix_at}
use Rattle.c_parse_expr.proofs.Marks.{string_is, behaves_so, starts_qualifier, starts_word, starts_tag, starts_type}
use Rattle.c_parse_expr.proofs.Rows.{Run, run_many}
use Rattle.c_parse_expr.proofs.CompleteSteps.{seam, from_token}

pub identifier_read : (bytes n : List ℕ) (t : Token) (ts : List Token) → t.kind ≡ kinds.Identifier → text_of bytes t ≡ n → identifier_at bytes (t ∷ ts) ≡ Some (n, ts)
unfolding identifier_at
identifier_read bytes n t ts e f =
    ap (λ (b : Bool). cond {A = Option (List ℕ × List Token)} b (Some (text_of bytes t, ts)) None) (ap is_identifier e) ∙ ap (λ (x : List ℕ). Some (x, ts)) f

-- string literals
pub string_read : (bytes n : List ℕ) (t : Token) (ts : List Token) → t.kind ≡ kinds.String → text_of bytes t ≡ n → string bytes (t ∷ ts) ≡ Some (n, ts)
unfolding string
string_read bytes n t ts e f =
    ap (λ (b : Bool). cond {A = Option (List ℕ × List Token)} b (Some (text_of bytes t, ts)) None) (ap is_string e) ∙ ap (λ (x : List ℕ). Some (x, ts)) f

another_goes : (k : Kind) (b : Bool) → is_string k ≡ b → IfSome (suffix_of k) (λ s. is_another s ≡ false) → is_string k ≡ false
another_goes k true e f = let g = subst (λ (o : Option Suffix). IfSome o (λ s. is_another s ≡ false)) (behaves_so k suffixes.Another (string_is k e)) f in absurd cc
another_goes k false e f = e

string_stops : (bytes : List ℕ) (ts : List Token) → IfSome (suffix_at ts) (λ s. is_another s ≡ false) → string bytes ts ≡ None
unfolding string
string_stops bytes [] e = refl
string_stops bytes (t ∷ ts) e = ap (λ (b : Bool). cond {A = Option (List ℕ × List Token)} b (Some (text_of bytes t, ts)) None) (another_goes t.kind (is_string t.kind) refl e)

strings_run : (bytes : List ℕ) (parts : List (List ℕ)) (own rest : List Token) → SpellsOtherStrings bytes parts own → IfSome (suffix_at rest) (λ s. is_another s ≡ false) → Run (string_at bytes) tt parts (own ++ rest) rest × (length parts ≤ length own)
strings_run bytes [] own rest s e =
    ((ap (λ (xs : List Token). quoted (string bytes (xs ++ rest))) s ∙ ap quoted (string_stops bytes rest e), ap (λ (xs : List Token). xs ++ rest) s), omega arith)
strings_run bytes (part ∷ parts) own rest s e =
    let others = strings_run bytes parts s.rest rest s.behind e in
    let first = ap (λ (xs : List Token). quoted (string bytes xs)) (from_token own rest s.rest s.token s.whole) ∙ ap quoted (string_read bytes part s.token (s.rest ++ rest) s.is.kind s.is.text) in
    let long = ap (λ (xs : List Token). length xs) s.whole in
    ((tt, s.rest ++ rest, first, others.0), omega (arith, long, others.1))

pub strings_read : (bytes first : List ℕ) (parts : List (List ℕ)) (own rest : List Token) → SpellsOtherStrings bytes parts own → IfSome (suffix_at rest) (λ s. is_another s ≡ false) → strings_behind bytes first (own ++ rest) ≡ Some (first ∷ parts, rest)
unfolding strings_behind
strings_read bytes first parts own rest s e =
    let r = strings_run bytes parts own rest s e in
    let long = length-append own rest in
    ap (λ (o : Option (List (List ℕ) × List Token)). o >>= λ x. Some (first ∷ x.0, x.1)) (run_many (string_at bytes) (length (own ++ rest) + 1) tt parts (own ++ rest) rest r.0 (omega (arith, r.1, long)))

-- specifiers of a type in front of a mark
pub record Marked (ts : List Token) : Type 0 where
  pub token : Token
  pub mark : Mark
  pub others : List Token
  pub is : token.kind ≡ kinds.Mark mark
  pub whole : ts ≡ token ∷ others

before_true : (before b : Bool) → before ≡ false → b ≡ true → (not before && b) ≡ true
before_true true b e f = absurd cc
before_true false b e f = f

part_starts : (bytes : List ℕ) (names : Scope) (before : Bool) (t : Token) (ts : List Token) (o : Option TypeStart) → start_of bytes names before t ≡ o → type_part_at bytes names before (t ∷ ts) ≡ started bytes before t ts o
unfolding type_part_at
part_starts bytes names before t ts o e = ap (λ (o : Option TypeStart). started bytes before t ts o) e

pub parts_stop : (bytes : List ℕ) (names : Scope) (before : Bool) (ts : List Token) → Marked ts → type_part_at bytes names before ts ≡ Some None
parts_stop bytes names before ts m =
    ap (λ (xs : List Token). type_part_at bytes names before xs) m.whole
    ∙ part_starts bytes names before m.token m.others None (ap (start_by (not before && is_type names (text_of bytes m.token))) m.is)

pub or_none : (b : Bool) → (b || false) ≡ b
or_none true = refl
or_none false = refl

pub or_any : (b : Bool) → (b || true) ≡ true
or_any true = refl
or_any false = refl

-- one specifier, and what is known behind it
pub part_read : (bytes : List ℕ) (names : Scope) (before : Bool) (part : TypePart) (own rest : List Token) → SpellsTypePart bytes part own → IsWellTypePart names before part → type_part_at bytes names before (own ++ rest) ≡ Some (Some (part, (before || specifies_type part), rest))
part_read bytes names before (qualified line q) own rest s w =
    ap (λ (xs : List Token). type_part_at bytes names before xs) (from_token own rest [] s.token s.whole)
    ∙ part_starts bytes names before s.token rest (Some (starts.Qualifier q)) (starts_qualifier (not before && is_type names (text_of bytes s.token)) s.token.kind q s.is.kind)
    ∙ ap (λ (l : ℕ). Some (Some (qualified l q, before, rest))) s.is.line
    ∙ ap (λ (b : Bool). Some (Some (qualified line q, b, rest))) (sym (or_none before))
part_read bytes names before (word line v) own rest s w =
    ap (λ (xs : List Token). type_part_at bytes names before xs) (from_token own rest [] s.token s.whole)
    ∙ part_starts bytes names before s.token rest (Some (starts.Word v)) (starts_word (not before && is_type names (text_of bytes s.token)) s.token.kind v s.is.kind)
    ∙ ap (λ (l : ℕ). Some (Some (word l v, true, rest))) s.is.line
    ∙ ap (λ (b : Bool). Some (Some (word line v, b, rest))) (sym (or_any before))
part_read bytes names before (tagged line kind n) own rest s w =
    let next = s.behind in
    ap (λ (xs : List Token). type_part_at bytes names before xs) (from_token own rest s.rest s.token s.whole ∙ ap (λ (xs : List Token). s.token ∷ xs) (from_token s.rest rest [] next.token next.whole))
    ∙ part_starts bytes names before s.token (next.token ∷ rest) (Some (starts.Tag kind)) (starts_tag (not before && is_type names (text_of bytes s.token)) s.token.kind kind s.is.kind)
    ∙ ap (λ (o : Option (List ℕ × List Token)). o >>= λ x. Some (Some (tagged s.token.line kind x.0, true, x.1))) (identifier_read bytes n next.token rest next.is.kind next.is.text)
    ∙ ap (λ (l : ℕ). Some (Some (tagged l kind n, true, rest))) s.is.line
    ∙ ap (λ (b : Bool). Some (Some (tagged line kind n, b, rest))) (sym (or_any before))
part_read bytes names before (typedef_name line n) own rest s w =
    ap (λ (xs : List Token). type_part_at bytes names before xs) (from_token own rest [] s.token s.whole)
    ∙ part_starts bytes names before s.token rest (Some starts.Name)
    (starts_type (not before && is_type names (text_of bytes s.token)) s.token.kind (before_true before (is_type names (text_of bytes s.token)) w.0 (ap (is_type names) s.is.text ∙ w.1)) s.is.kind)
    ∙ ap (λ (l : ℕ). Some (Some (typedef_name l (text_of bytes s.token), true, rest))) s.is.line
    ∙ ap (λ (x : List ℕ). Some (Some (typedef_name line x, true, rest))) s.is.text
    ∙ ap (λ (b : Bool). Some (Some (typedef_name line n, b, rest))) (sym (or_any before))

pub part_length : (bytes : List ℕ) (part : TypePart) (own : List Token) → SpellsTypePart bytes part own → 1 ≤ length own
part_length bytes (qualified line q) own s = let e = ap (λ (xs : List Token). length xs) s.whole in omega (arith, e)
part_length bytes (word line v) own s = let e = ap (λ (xs : List Token). length xs) s.whole in omega (arith, e)
part_length bytes (tagged line kind n) own s = let e = ap (λ (xs : List Token). length xs) s.whole in omega (arith, e)
part_length bytes (typedef_name line n) own s = let e = ap (λ (xs : List Token). length xs) s.whole in omega (arith, e)

parts_run : (bytes : List ℕ) (names : Scope) (before : Bool) (parts : List TypePart) (own rest : List Token) → SpellsTypeParts bytes parts own → AreWellTypeParts names before parts → Marked rest → Run (type_part_at bytes names) before parts (own ++ rest) rest × (length parts ≤ length own)
parts_run bytes names before [] own rest s w m =
    ((ap (λ (xs : List Token). type_part_at bytes names before (xs ++ rest)) s ∙ parts_stop bytes names before rest m, ap (λ (xs : List Token). xs ++ rest) s), omega arith)
parts_run bytes names before (part ∷ parts) own rest s w m =
    let others = parts_run bytes names (before || specifies_type part) parts s.right rest s.second w.1 m in
    let first = ap (λ (xs : List Token). type_part_at bytes names before xs) (seam own s.left s.right rest s.whole) ∙ part_read bytes names before part s.left (s.right ++ rest) s.first w.0 in
    let some = part_length bytes part s.left s.first in
    let long = ap (λ (xs : List Token). length xs) s.whole ∙ length-append s.left s.right in
    (((before || specifies_type part), s.right ++ rest, first, others.0), omega (arith, some, long, others.1))

specifiers_well : (names : Scope) (parts : List TypePart) → AreSpecifiers names parts → AreWellTypeParts names false parts
specifiers_well names [] w = absurd w
specifiers_well names (part ∷ parts) w = w

pub parts_read : (bytes : List ℕ) (names : Scope) (parts : List TypePart) (own rest : List Token) → SpellsTypeParts bytes parts own → AreSpecifiers names parts → Marked rest → type_parts_at bytes names (own ++ rest) ≡ Some (parts, rest)
parts_read bytes names parts own rest s w m =
    let r = parts_run bytes names false parts own rest s (specifiers_well names parts w) m in
    let long = length-append own rest in
    run_many (type_part_at bytes names) (length (own ++ rest) + 1) false parts (own ++ rest) rest r.0 (omega (arith, r.1, long))

-- where specifiers stand, a type name begins
began : (bytes : List ℕ) (names : Scope) (own rest others : List Token) (t : Token) (start : TypeStart) → own ≡ t ∷ others → start_of bytes names false t ≡ Some start → begins_type bytes names (own ++ rest) ≡ true
began bytes names own rest others t start e f = ap (begins_type bytes names) (from_token own rest others t e) ∙ ap is_some f

pub part_begins : (bytes : List ℕ) (names : Scope) (part : TypePart) (own rest : List Token) → SpellsTypePart bytes part own → IsWellTypePart names false part → begins_type bytes names (own ++ rest) ≡ true
part_begins bytes names (qualified line q) own rest s w = began bytes names own rest [] s.token (starts.Qualifier q) s.whole (starts_qualifier (is_type names (text_of bytes s.token)) s.token.kind q s.is.kind)
part_begins bytes names (word line v) own rest s w = began bytes names own rest [] s.token (starts.Word v) s.whole (starts_word (is_type names (text_of bytes s.token)) s.token.kind v s.is.kind)
part_begins bytes names (tagged line kind n) own rest s w = began bytes names own rest s.rest s.token (starts.Tag kind) s.whole (starts_tag (is_type names (text_of bytes s.token)) s.token.kind kind s.is.kind)
part_begins bytes names (typedef_name line n) own rest s w = began bytes names own rest [] s.token starts.Name s.whole (starts_type (is_type names (text_of bytes s.token)) s.token.kind (ap (is_type names) s.is.text ∙ w.1) s.is.kind)

pub specifiers_begin : (bytes : List ℕ) (names : Scope) (parts : List TypePart) (own rest : List Token) → SpellsTypeParts bytes parts own → AreSpecifiers names parts → begins_type bytes names (own ++ rest) ≡ true
specifiers_begin bytes names [] own rest s w = absurd w
specifiers_begin bytes names (part ∷ parts) own rest s w =
    ap (begins_type bytes names) (seam own s.left s.right rest s.whole) ∙ part_begins bytes names part s.left (s.right ++ rest) s.first w.0
