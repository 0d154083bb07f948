-- What is read without expressions stands there: string literals, and the specifiers of a type.
use Rattle.std.proofs.Common.{◌≡◌, ℕ, List, [], ◌∷◌, ◌++◌, Bool, true, false, not, ◌&&◌, ◌||◌, Option, Some, None, refl, ap, sym, subst, ◌∙◌}
use Rattle.std.specs.Prelude.{IfSome}
use Rattle.std.proofs.lemmas.Option.{cond_some}
use Rattle.std.proofs.lemmas.List.{append_assoc}
use Rattle.c_token.specs.declared.token.Token.{Token}
use Rattle.c_token.specs.declared.token.Kind.{Kind}
use Rattle.c_token.specs.declared.token.Kind.TheVariants as kinds
use Rattle.c_token.specs.Spelling.{text_of}
use Rattle.c_tree.specs.Tree.{TypePart, tagged}
use Rattle.c_tree.specs.Names.{Scope, is_type}
use Rattle.c_tree.specs.Spelling.{SpellsOtherStrings, SpellsTypePart, SpellsTypeParts, specifies_type, IsWellTypePart, AreWellTypeParts, AreSpecifiers}
use Rattle.c_parse_expr.specs.declared.table.Suffix.{Suffix}
use Rattle.c_parse_expr.specs.declared.table.TypeStart.{TypeStart}
use Rattle.c_parse_expr.specs.declared.table.TypeStart.TheVariants as starts
use Rattle.c_parse_expr.specs.Tables.{suffix_of}
use Rattle.c_parse_expr.specs.inner.Reading.{is_identifier, is_string, identifier_at, string, quoted, string_at, start_by, start_of, is_some, begins_type, started, type_part_at}
use Rattle.c_parse_expr.specs.Standing.{is_another, suffix_at}
use Rattle.c_parse_expr.proofs.Marks.{some_is, identifier_is, string_is, not_another, starts_by}
use Rattle.c_parse_expr.proofs.Steps.{bind_some, none_by, and_true}
use Rattle.c_parse_expr.proofs.Rows.{Run}

-- a token of a kind with a text at the front
pub record Reads (bytes : List ℕ) (is : Kind) (text : List ℕ) (ts rest : List Token) : Type 0 where
  pub token : Token
  pub kind : token.kind ≡ is
  pub reads : text_of bytes token ≡ text
  pub whole : ts ≡ token ∷ rest

pub identifier_taken : (bytes : List ℕ) (ts : List Token) (y : List ℕ × List Token) → identifier_at bytes ts ≡ Some y → Reads bytes kinds.Identifier y.0 ts y.1
unfolding identifier_at
identifier_taken bytes [] y e = absurd cc
identifier_taken bytes (t ∷ ts) y e =
    let f = cond_some (is_identifier t.kind) (text_of bytes t, ts) y e in
    record { token = t; kind = identifier_is t.kind f.0; reads = ap (λ (z : List ℕ × List Token). z.0) f.1; whole = ap (λ (z : List ℕ × List Token). t ∷ z.1) f.1 }

-- string literals
string_taken : (bytes : List ℕ) (ts : List Token) (y : List ℕ × List Token) → string bytes ts ≡ Some y → Reads bytes kinds.String y.0 ts y.1
unfolding string
string_taken bytes [] y e = absurd cc
string_taken bytes (t ∷ ts) y e =
    let f = cond_some (is_string t.kind) (text_of bytes t, ts) y e in
    record { token = t; kind = string_is t.kind f.0; reads = ap (λ (z : List ℕ × List Token). z.0) f.1; whole = ap (λ (z : List ℕ × List Token). t ∷ z.1) f.1 }

no_other : (k : Kind) (o : Option Suffix) → suffix_of k ≡ o → is_string k ≡ false → IfSome o (λ s. is_another s ≡ false)
no_other k None e f = tt
no_other k (Some s) e f = not_another k s e f

string_ends : (bytes : List ℕ) (ts : List Token) → string bytes ts ≡ None → IfSome (suffix_at ts) (λ s. is_another s ≡ false)
unfolding string
string_ends bytes [] e = tt
string_ends bytes (t ∷ ts) e = no_other t.kind (suffix_of t.kind) refl (none_by (is_string t.kind) (text_of bytes t, ts) e)

quoted_none : (o : Option (List ℕ × List Token)) → quoted o ≡ Some None → o ≡ None
quoted_none None e = refl
quoted_none (Some x) e = absurd cc

quoted_some : (o : Option (List ℕ × List Token)) (x : List ℕ × Unit {0} × List Token) → quoted o ≡ Some (Some x) → o ≡ Some (x.0, x.2)
quoted_some None x e = absurd cc
quoted_some (Some y) x e = ap (λ (z : List ℕ × Unit {0} × List Token). Some (z.0, z.2)) (some_is (some_is e))

-- string literals at the front, and none behind them
pub record Quoted (bytes : List ℕ) (parts : List (List ℕ)) (ts rest : List Token) : Type 0 where
  pub own : List Token
  pub spelled : SpellsOtherStrings bytes parts own
  pub front : ts ≡ own ++ rest
  pub ends : IfSome (suffix_at rest) (λ s. is_another s ≡ false)

pub strings_taken : (bytes : List ℕ) (s : Unit {0}) (parts : List (List ℕ)) (ts rest : List Token) → Run (string_at bytes) s parts ts rest → Quoted bytes parts ts rest
strings_taken bytes s [] ts rest r = record {
  own = [];
  spelled = refl;
  front = r.1;
  ends = subst (λ (us : List Token). IfSome (suffix_at us) (λ s. is_another s ≡ false)) r.1 (string_ends bytes ts (quoted_none (string bytes ts) r.0));
}
strings_taken bytes s (part ∷ parts) ts rest r =
    let first = string_taken bytes ts (part, r.1) (quoted_some (string bytes ts) (part, r.0, r.1) r.2) in
    let others = strings_taken bytes r.0 parts r.1 rest r.3 in
    record {
      own = first.token ∷ others.own;
      spelled = record { token = first.token; rest = others.own; is = record { kind = first.kind; text = first.reads }; behind = others.spelled; whole = refl };
      front = first.whole ∙ ap (λ (us : List Token). first.token ∷ us) others.front;
      ends = others.ends;
    }

-- a specifier of a type at the front, and whether a type is specified with it
pub record PartTaken (bytes : List ℕ) (names : Scope) (before : Bool) (ts : List Token) (y : TypePart × Bool × List Token) : Type 0 where
  pub own : List Token
  pub spelled : SpellsTypePart bytes y.0 own
  pub front : ts ≡ own ++ y.2
  pub well : IsWellTypePart names before y.0
  pub state : y.1 ≡ (before || specifies_type y.0)

or_none : (b : Bool) → b ≡ (b || false)
or_none true = refl
or_none false = refl

or_any : (b : Bool) → true ≡ (b || true)
or_any true = refl
or_any false = refl

name_starts : (b : Bool) → start_by b kinds.Identifier ≡ Some starts.Name → b ≡ true
name_starts true e = refl
name_starts false e = absurd cc

not_true : (b : Bool) → not b ≡ true → b ≡ false
not_true true e = cc
not_true false e = refl

started_taken : (bytes : List ℕ) (names : Scope) (before : Bool) (t : Token) (ts : List Token) (o : Option TypeStart) (y : TypePart × Bool × List Token) → start_of bytes names before t ≡ o → started bytes before t ts o ≡ Some (Some y) → PartTaken bytes names before (t ∷ ts) y
started_taken bytes names before t ts None y is e = absurd cc
started_taken bytes names before t ts (Some (starts.Qualifier q)) y is e =
    subst (λ (z : TypePart × Bool × List Token). PartTaken bytes names before (t ∷ ts) z) (some_is (some_is e)) (record {
      own = t ∷ [];
      spelled = record { token = t; is = record { kind = starts_by (not before && is_type names (text_of bytes t)) t.kind (starts.Qualifier q) is; line = refl }; whole = refl };
      front = refl;
      well = tt;
      state = or_none before;
    })
started_taken bytes names before t ts (Some (starts.Word w)) y is e =
    subst (λ (z : TypePart × Bool × List Token). PartTaken bytes names before (t ∷ ts) z) (some_is (some_is e)) (record {
      own = t ∷ [];
      spelled = record { token = t; is = record { kind = starts_by (not before && is_type names (text_of bytes t)) t.kind (starts.Word w) is; line = refl }; whole = refl };
      front = refl;
      well = tt;
      state = or_any before;
    })
started_taken bytes names before t ts (Some (starts.Tag kind)) y is e =
    let a = bind_some (identifier_at bytes ts) (λ x. Some (Some (tagged t.line kind x.0, true, x.1))) (Some y) e in
    let n = identifier_taken bytes ts a.0 a.1 in
    subst (λ (z : TypePart × Bool × List Token). PartTaken bytes names before (t ∷ ts) z) (some_is (some_is a.2)) (record {
      own = t ∷ n.token ∷ [];
      spelled = record {
        token = t;
        rest = n.token ∷ [];
        is = record { kind = starts_by (not before && is_type names (text_of bytes t)) t.kind (starts.Tag kind) is; line = refl };
        behind = record { token = n.token; is = record { kind = n.kind; text = n.reads }; whole = refl };
        whole = refl;
      };
      front = ap (λ (us : List Token). t ∷ us) n.whole;
      well = tt;
      state = or_any before;
    })
started_taken bytes names before t ts (Some starts.Name) y is e =
    let k = starts_by (not before && is_type names (text_of bytes t)) t.kind starts.Name is in
    let b = name_starts (not before && is_type names (text_of bytes t)) (sym (ap (start_by (not before && is_type names (text_of bytes t))) k) ∙ is) in
    let both = and_true (not before) (is_type names (text_of bytes t)) b in
    subst (λ (z : TypePart × Bool × List Token). PartTaken bytes names before (t ∷ ts) z) (some_is (some_is e)) (record {
      own = t ∷ [];
      spelled = record { token = t; is = record { kind = k; line = refl; text = refl }; whole = refl };
      front = refl;
      well = (not_true before both.0, both.1);
      state = or_any before;
    })

pub part_taken : (bytes : List ℕ) (names : Scope) (before : Bool) (ts : List Token) (y : TypePart × Bool × List Token) → type_part_at bytes names before ts ≡ Some (Some y) → PartTaken bytes names before ts y
unfolding type_part_at
part_taken bytes names before [] y e = absurd cc
part_taken bytes names before (t ∷ ts) y e = started_taken bytes names before t ts (start_of bytes names before t) y refl e

-- specifiers of a type at the front
pub record PartsTaken (bytes : List ℕ) (names : Scope) (before : Bool) (parts : List TypePart) (ts rest : List Token) : Type 0 where
  pub own : List Token
  pub spelled : SpellsTypeParts bytes parts own
  pub front : ts ≡ own ++ rest
  pub well : AreWellTypeParts names before parts

pub parts_taken : (bytes : List ℕ) (names : Scope) (before : Bool) (parts : List TypePart) (ts rest : List Token) → Run (type_part_at bytes names) before parts ts rest → PartsTaken bytes names before parts ts rest
parts_taken bytes names before [] ts rest r = record { own = []; spelled = refl; front = r.1; well = tt }
parts_taken bytes names before (part ∷ parts) ts rest r =
    let first = part_taken bytes names before ts (part, r.0, r.1) r.2 in
    let others = parts_taken bytes names r.0 parts r.1 rest r.3 in
    record {
      own = first.own ++ others.own;
      spelled = record { left = first.own; right = others.own; first = first.spelled; second = others.spelled; whole = refl };
      front = first.front ∙ ap (λ (us : List Token). first.own ++ us) others.front ∙ sym (append_assoc first.own others.own rest);
      well = (first.well, subst (λ (b : Bool). AreWellTypeParts names b parts) first.state others.well);
    }

-- where a type name begins, there is a specifier
begun : (bytes : List ℕ) (before : Bool) (t : Token) (ts : List Token) (o : Option TypeStart) → is_some o ≡ true → started bytes before t ts o ≡ Some None → ⊥
begun bytes before t ts None e f = cc
begun bytes before t ts (Some (starts.Qualifier q)) e f = cc
begun bytes before t ts (Some (starts.Word w)) e f = cc
begun bytes before t ts (Some (starts.Tag kind)) e f =
    let a = bind_some (identifier_at bytes ts) (λ x. Some (Some (tagged t.line kind x.0, true, x.1))) None f in cc
begun bytes before t ts (Some starts.Name) e f = cc

some_part : (bytes : List ℕ) (names : Scope) (ts : List Token) → begins_type bytes names ts ≡ true → type_part_at bytes names false ts ≡ Some None → ⊥
unfolding type_part_at
some_part bytes names [] e f = cc
some_part bytes names (t ∷ ts) e f = begun bytes false t ts (start_of bytes names false t) e f

pub specifiers_taken : (bytes : List ℕ) (names : Scope) (parts : List TypePart) (ts rest : List Token) → begins_type bytes names ts ≡ true → Run (type_part_at bytes names) false parts ts rest → AreWellTypeParts names false parts → AreSpecifiers names parts
specifiers_taken bytes names [] ts rest e r w = some_part bytes names ts e r.0
specifiers_taken bytes names (part ∷ parts) ts rest e r w = w
