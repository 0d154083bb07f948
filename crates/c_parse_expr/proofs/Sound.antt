-- What is read stands there.
use Rattle.std.proofs.Common.{◌≡◌, ◌≤◌, ◌+◌, ℕ, zero, suc, List, [], ◌∷◌, ◌++◌, length, Bool, true, false, cond, Option, Some, None, refl, ap, subst, ◌∙◌, arith, inl, inr}
use Rattle.std.specs.Prelude.{nat_lt, ◌⊎◌}
use Rattle.std.specs.Prelude.{nat_le}
use Rattle.std.proofs.lemmas.Bool.{ltb-true, leb-true}
use Rattle.c_token.specs.declared.token.Token.{Token}
use Rattle.c_token.specs.declared.token.Kind.TheVariants as kinds
use Rattle.c_token.specs.declared.token.Constant.{Constant}
use Rattle.c_token.specs.declared.token.Keyword.TheVariants as keywords
use Rattle.c_token.specs.declared.token.Mark.TheVariants as marks
use Rattle.c_token.specs.Spelling.{text_of}
use Rattle.c_tree.specs.declared.expr.BinaryOp.{BinaryOp}
use Rattle.c_tree.specs.declared.expr.UnaryOp.{UnaryOp}
use Rattle.c_tree.specs.declared.expr.StepOp.{StepOp}
use Rattle.c_tree.specs.Tree.{TypePart, Tree, Trees, Declared, constant, character, strings, name, parens, unary, cast, sizeof_expr, sizeof_type, step, member, binary, choice, assign, comma, call, none, more, depth, depth_of}
use Rattle.c_tree.specs.Names.{Scope, is_type}
use Rattle.c_tree.specs.Tables.{strength_of, operand_level, level_of, binary_mark, unary_mark, step_mark}
use Rattle.c_tree.specs.Spelling.{Spells, SpellsArguments, SpellsRest, IsWell, AreWell}
use Rattle.c_parse_expr.specs.declared.table.Lead.{Lead}
use Rattle.c_parse_expr.specs.declared.table.Lead.TheVariants as leads
use Rattle.c_parse_expr.specs.declared.table.Suffix.{Suffix}
use Rattle.c_parse_expr.specs.declared.table.Suffix.TheVariants as suffixes
use Rattle.c_parse_expr.specs.Tables.{lead_of, strength_behind, least_left}
use Rattle.c_parse_expr.specs.inner.Many.{◌>>=◌}
use Rattle.c_parse_expr.specs.Reading.{goes_on}
use Rattle.c_parse_expr.specs.inner.Reading.{Read, Reader, DeclaredReader, behind, closed, next_at, rest_at, arguments_at, identifier_at, string_at, strings_at, strings_behind, begins_type, type_behind, type_name_at, grouped, sized, sizeof_at, prefixed, prefix_at, suffixed, turn, climb, from_operand, reader, declarator_start_at, declared_from, declared_at}
use Rattle.c_parse_expr.specs.Standing.{goes_on_inside, suffix_at, Inside, Stands}
use Rattle.c_parse_expr.proofs.Marks.{Behaves, Leads, behaves, leads_by, open_is, colon_is, comma_is, some_is}
use Rattle.c_parse_expr.proofs.Steps.{bind_some, Heads, behind_takes, Goes, next_some, next_none, goes_facts, all_some, both_false}
use Rattle.c_parse_expr.proofs.Within.{at_most_thirteen, operand_low}
use Rattle.c_parse_expr.proofs.Rows.{many_run}
use Rattle.c_parse_expr.proofs.DeclaratorStarts.{declarator_start_begins}
use Rattle.c_parse_expr.proofs.SoundWords.{Quoted, strings_taken, identifier_taken}
use Rattle.c_parse_expr.proofs.SoundDeclared.{Reads, ReadsDeclared, close_takes, seam, guarded, declared_taken, bare_taken, TypeTaken, type_taken}

-- a tree that stands at the front, but for a suffix that goes on with it aa a whole
pub record Begun (bytes : List ℕ) (names : Scope) (levels k : ℕ) (t : Tree) (tokens rest : List Token) : Type 0 where
  pub own : List Token
  pub spelled : Spells bytes t own
  pub front : tokens ≡ own ++ rest
  pub level : k ≤ level_of t
  pub well : IsWell names t
  pub inside : Inside t rest
  pub deep : depth t ≤ levels

-- arguments at the front, with the parenthesis that closes them
pub record Listed (bytes : List ℕ) (names : Scope) (levels : ℕ) (P : List Token → Type 0) (args : Trees) (tokens rest : List Token) : Type 0 where
  pub own : List Token
  pub spelled : P own
  pub front : tokens ≡ own ++ rest
  pub well : AreWell names args
  pub deep : depth_of args ≤ levels

colon_takes : (ts rest : List Token) → behind marks.Colon ts ≡ Some rest → Heads marks.Colon ts rest
colon_takes = behind_takes marks.Colon colon_is

comma_takes : (ts rest : List Token) → behind marks.Comma ts ≡ Some rest → Heads marks.Comma ts rest
comma_takes = behind_takes marks.Comma comma_is

begun_name : (bytes : List ℕ) (names : Scope) (n : ℕ) (t : Token) (ts : List Token) → t.kind ≡ kinds.Identifier → is_type names (text_of bytes t) ≡ false → Begun bytes names (suc n) 15 (name t.line (text_of bytes t)) (t ∷ ts) ts
begun_name bytes names n t ts e value =
    record {
      own = t ∷ [];
      spelled = record { token = t; is = record { kind = e; line = refl; text = refl }; whole = refl };
      front = refl;
      level = omega arith;
      well = value;
      inside = all_some (suffix_at ts) (λ s. goes_on_inside (name t.line (text_of bytes t)) s ≡ false) (λ s. refl);
      deep = omega arith;
    }

begun_constant : (bytes : List ℕ) (names : Scope) (n : ℕ) (c : Constant) (t : Token) (ts : List Token) → t.kind ≡ kinds.Constant c → Begun bytes names (suc n) 15 (constant t.line c) (t ∷ ts) ts
begun_constant bytes names n c t ts e = record {
  own = t ∷ [];
  spelled = record { token = t; is = record { kind = e; line = refl }; whole = refl };
  front = refl;
  level = omega arith;
  well = tt;
  inside = all_some (suffix_at ts) (λ s. goes_on_inside (constant t.line c) s ≡ false) (λ s. refl);
  deep = omega arith;
}

begun_parens : (bytes : List ℕ) (names : Scope) (n : ℕ) (t : Token) (ts others rest : List Token) (e : Tree) → t.kind ≡ kinds.Mark marks.LeftParenthesis → Stands bytes names n 1 e ts others → Heads marks.RightParenthesis others rest → Begun bytes names (suc n) 15 (parens t.line e) (t ∷ ts) rest
begun_parens bytes names n t ts others rest e is a h = record {
  own = t ∷ (a.own ++ (h.token ∷ []));
  spelled = record {
    token = t;
    rest = a.own ++ (h.token ∷ []);
    is = record { kind = is; line = refl };
    behind = record { left = a.own; right = h.token ∷ []; first = a.spelled; second = record { token = h.token; is = h.is; whole = refl }; whole = refl };
    whole = refl;
  };
  front = ap (λ (xs : List Token). t ∷ xs) (seam ts a.own others rest (h.token ∷ []) a.front h.whole);
  level = omega arith;
  well = (a.level, a.well);
  inside = all_some (suffix_at rest) (λ s. goes_on_inside (parens t.line e) s ≡ false) (λ s. refl);
  deep = omega (arith, a.deep);
}

begun_unary : (bytes : List ℕ) (names : Scope) (n : ℕ) (op : UnaryOp) (t : Token) (ts rest : List Token) (e : Tree) → t.kind ≡ kinds.Mark (unary_mark op) → Stands bytes names n (operand_level op) e ts rest → Begun bytes names (suc n) 15 (unary t.line op e) (t ∷ ts) rest
begun_unary bytes names n op t ts rest e is a = record {
  own = t ∷ a.own;
  spelled = record { token = t; rest = a.own; is = record { kind = is; line = refl }; behind = a.spelled; whole = refl };
  front = ap (λ (xs : List Token). t ∷ xs) a.front;
  level = omega arith;
  well = (a.level, a.well);
  inside = both_false (suffix_at rest) (goes_on (operand_level op) (level_of e)) (goes_on_inside e) a.ends a.inside;
  deep = omega (arith, a.deep);
}

begun_character : (bytes : List ℕ) (names : Scope) (n c : ℕ) (t : Token) (ts : List Token) → t.kind ≡ kinds.Character c → Begun bytes names (suc n) 15 (character t.line c) (t ∷ ts) ts
begun_character bytes names n c t ts e = record {
  own = t ∷ [];
  spelled = record { token = t; is = record { kind = e; line = refl }; whole = refl };
  front = refl;
  level = omega arith;
  well = tt;
  inside = all_some (suffix_at ts) (λ s. goes_on_inside (character t.line c) s ≡ false) (λ s. refl);
  deep = omega arith;
}

begun_strings : (bytes : List ℕ) (names : Scope) (n : ℕ) (t : Token) (parts : List (List ℕ)) (ts rest : List Token) → t.kind ≡ kinds.String → Quoted bytes parts ts rest → Begun bytes names (suc n) 15 (strings t.line (text_of bytes t ∷ parts)) (t ∷ ts) rest
begun_strings bytes names n t parts ts rest e q = record {
  own = t ∷ q.own;
  spelled = record { token = t; rest = q.own; is = record { kind = e; line = refl; text = refl }; behind = q.spelled; whole = refl };
  front = ap (λ (xs : List Token). t ∷ xs) q.front;
  level = omega arith;
  well = tt;
  inside = q.ends;
  deep = omega arith;
}

strings_begin : (bytes : List ℕ) (names : Scope) (n : ℕ) (t : Token) (ts : List Token) (x : List (List ℕ) × List Token) → t.kind ≡ kinds.String → strings_behind bytes (text_of bytes t) ts ≡ Some x → Begun bytes names (suc n) 15 (strings t.line x.0) (t ∷ ts) x.1
unfolding strings_behind
strings_begin bytes names n t ts x is e =
    let a = bind_some (strings_at bytes ts) (λ x. Some (text_of bytes t ∷ x.0, x.1)) x e in
    subst (λ (y : List (List ℕ) × List Token). Begun bytes names (suc n) 15 (strings t.line y.0) (t ∷ ts) y.1) (some_is a.2)
    (begun_strings bytes names n t a.0.0 ts a.0.1 is (strings_taken bytes tt a.0.0 ts a.0.1 (many_run (string_at bytes) (length ts + 1) tt ts a.0 a.1)))

begun_cast : (bytes : List ℕ) (names : Scope) (n : ℕ) (t : Token) (ts others rest : List Token) (parts : List TypePart) (d : Declared) (e : Tree) → t.kind ≡ kinds.Mark marks.LeftParenthesis → TypeTaken bytes names n parts d ts others → Stands bytes names n 14 e others rest → Begun bytes names (suc n) 14 (cast t.line parts d e) (t ∷ ts) rest
begun_cast bytes names n t ts others rest parts d e is y a = record {
  own = t ∷ (y.left ++ (y.middle ++ (y.close ∷ a.own)));
  spelled = record {
    token = t;
    rest = y.left ++ (y.middle ++ (y.close ∷ a.own));
    is = record { kind = is; line = refl };
    behind = record {
      left = y.left;
      right = y.middle ++ (y.close ∷ a.own);
      first = y.parts_spelled;
      second = record { left = y.middle; right = y.close ∷ a.own; first = y.declared_spelled; second = record { token = y.close; rest = a.own; is = y.is; behind = a.spelled; whole = refl }; whole = refl };
      whole = refl;
    };
    whole = refl;
  };
  front = ap (λ (xs : List Token). t ∷ xs)
      (seam ts y.left (y.middle ++ (y.close ∷ others)) rest (y.middle ++ (y.close ∷ a.own)) y.front
      (seam (y.middle ++ (y.close ∷ others)) y.middle (y.close ∷ others) rest (y.close ∷ a.own) refl (ap (λ (xs : List Token). y.close ∷ xs) a.front)));
  level = omega arith;
  well = (y.specifiers, y.declarator_start, y.well, a.level, a.well);
  inside = both_false (suffix_at rest) (goes_on 14 (level_of e)) (goes_on_inside e) a.ends a.inside;
  deep = omega (arith, a.deep, y.deep);
}

raised : (bytes : List ℕ) (names : Scope) (n : ℕ) (t : Tree) (tokens ts : List Token) → Begun bytes names n 15 t tokens ts → Begun bytes names n 14 t tokens ts
raised bytes names n t tokens ts b = record { own = b.own; spelled = b.spelled; front = b.front; level = omega (arith, b.level); well = b.well; inside = b.inside; deep = b.deep }

either_some : {A : Type 0} (b : Bool) (o p : Option A) (x : A) → cond b o p ≡ Some x → ((b ≡ true) × (o ≡ Some x)) ⊎ (p ≡ Some x)
either_some true o p x e = inl (refl, e)
either_some false o p x e = inr e

group_begins : (bytes : List ℕ) (names : Scope) (n : ℕ) (sub : Reader) (declared : DeclaredReader) → Reads bytes names n sub → ReadsDeclared bytes names n declared → (t : Token) (ts : List Token) (x : Tree × List Token) → t.kind ≡ kinds.Mark marks.LeftParenthesis → grouped bytes names sub declared t.line ts ≡ Some x → Begun bytes names (suc n) 14 x.0 (t ∷ ts) x.1
unfolding grouped
group_begins bytes names n sub declared reads takes t ts x is e =
    elim (either_some (begins_type bytes names ts) (type_name_at bytes names declared ts >>= λ y. sub 14 y.1 >>= λ e. Some (cast t.line y.0.0 y.0.1 e.0, e.1)) (sub 1 ts >>= λ a. behind marks.RightParenthesis a.1 >>= λ rest. Some (parens t.line a.0, rest)) x e) [
      | inl f ↦
          let a = bind_some (type_name_at bytes names declared ts) (λ y. sub 14 y.1 >>= λ e. Some (cast t.line y.0.0 y.0.1 e.0, e.1)) x f.1 in
          let b = bind_some (sub 14 a.0.1) (λ e. Some (cast t.line a.0.0.0 a.0.0.1 e.0, e.1)) x a.2 in
          subst (λ (y : Tree × List Token). Begun bytes names (suc n) 14 y.0 (t ∷ ts) y.1) (some_is b.2)
          (begun_cast bytes names n t ts a.0.1 b.0.1 a.0.0.0 a.0.0.1 b.0.0 is (type_taken bytes names n declared takes ts a.0 f.0 a.1) (reads 14 a.0.1 b.0 (omega arith) b.1))
      | inr f ↦
          let a = bind_some (sub 1 ts) (λ a. behind marks.RightParenthesis a.1 >>= λ rest. Some (parens t.line a.0, rest)) x f in
          let b = bind_some (behind marks.RightParenthesis a.0.1) (λ rest. Some (parens t.line a.0.0, rest)) x a.2 in
          subst (λ (y : Tree × List Token). Begun bytes names (suc n) 14 y.0 (t ∷ ts) y.1) (some_is b.2)
          (raised bytes names (suc n) (parens t.line a.0.0) (t ∷ ts) b.0 (begun_parens bytes names n t ts a.0.1 b.0 a.0.0 is (reads 1 ts a.0 (omega arith) a.1) (close_takes a.0.1 b.0 b.1)))
    ]

begun_sizeof_type : (bytes : List ℕ) (names : Scope) (n : ℕ) (t paren : Token) (ts back rest : List Token) (parts : List TypePart) (d : Declared) → t.kind ≡ kinds.Keyword keywords.Sizeof → paren.kind ≡ kinds.Mark marks.LeftParenthesis → ts ≡ paren ∷ back → TypeTaken bytes names n parts d back rest → Begun bytes names (suc n) 14 (sizeof_type t.line parts d) (t ∷ ts) rest
begun_sizeof_type bytes names n t paren ts back rest parts d is at whole y = record {
  own = t ∷ paren ∷ (y.left ++ (y.middle ++ (y.close ∷ [])));
  spelled = record {
    token = t;
    rest = paren ∷ (y.left ++ (y.middle ++ (y.close ∷ [])));
    is = record { kind = is; line = refl };
    behind = record {
      token = paren;
      rest = y.left ++ (y.middle ++ (y.close ∷ []));
      is = at;
      behind = record {
        left = y.left;
        right = y.middle ++ (y.close ∷ []);
        first = y.parts_spelled;
        second = record { left = y.middle; right = y.close ∷ []; first = y.declared_spelled; second = record { token = y.close; is = y.is; whole = refl }; whole = refl };
        whole = refl;
      };
      whole = refl;
    };
    whole = refl;
  };
  front = ap (λ (xs : List Token). t ∷ xs) (whole ∙ ap (λ (xs : List Token). paren ∷ xs)
      (seam back y.left (y.middle ++ (y.close ∷ rest)) rest (y.middle ++ (y.close ∷ [])) y.front
      (seam (y.middle ++ (y.close ∷ rest)) y.middle (y.close ∷ rest) rest (y.close ∷ []) refl refl)));
  level = omega arith;
  well = (y.specifiers, y.declarator_start, y.well);
  inside = all_some (suffix_at rest) (λ s. goes_on_inside (sizeof_type t.line parts d) s ≡ false) (λ s. refl);
  deep = omega (arith, y.deep);
}

begun_sizeof_expr : (bytes : List ℕ) (names : Scope) (n : ℕ) (t : Token) (ts rest : List Token) (e : Tree) → t.kind ≡ kinds.Keyword keywords.Sizeof → Stands bytes names n 15 e ts rest → Begun bytes names (suc n) 14 (sizeof_expr t.line e) (t ∷ ts) rest
begun_sizeof_expr bytes names n t ts rest e is a = record {
  own = t ∷ a.own;
  spelled = record { token = t; rest = a.own; is = record { kind = is; line = refl }; behind = a.spelled; whole = refl };
  front = ap (λ (xs : List Token). t ∷ xs) a.front;
  level = omega arith;
  well = (a.level, a.well);
  inside = both_false (suffix_at rest) (goes_on 15 (level_of e)) (goes_on_inside e) a.ends a.inside;
  deep = omega (arith, a.deep);
}

type_is_behind : (bytes : List ℕ) (names : Scope) (o : Option (List Token)) (rest : List Token) → type_behind bytes names o ≡ Some rest → (o ≡ Some rest) × (begins_type bytes names rest ≡ true)
type_is_behind bytes names None rest e = absurd cc
type_is_behind bytes names (Some ts) rest e =
    let g = guarded (begins_type bytes names ts) (Some ts) rest e in
    (g.1, subst (λ (us : List Token). begins_type bytes names us ≡ true) (some_is g.1) g.0)

sized_begins : (bytes : List ℕ) (names : Scope) (n : ℕ) (sub : Reader) (declared : DeclaredReader) → Reads bytes names n sub → ReadsDeclared bytes names n declared → (t : Token) (ts : List Token) (o : Option (List Token)) (x : Tree × List Token) → t.kind ≡ kinds.Keyword keywords.Sizeof → type_behind bytes names (behind marks.LeftParenthesis ts) ≡ o → sized bytes names sub declared t.line ts o ≡ Some x → Begun bytes names (suc n) 14 x.0 (t ∷ ts) x.1
sized_begins bytes names n sub declared reads takes t ts None x is f e =
    let a = bind_some (sub 15 ts) (λ e. Some (sizeof_expr t.line e.0, e.1)) x e in
    subst (λ (y : Tree × List Token). Begun bytes names (suc n) 14 y.0 (t ∷ ts) y.1) (some_is a.2)
    (begun_sizeof_expr bytes names n t ts a.0.1 a.0.0 is (reads 15 ts a.0 (omega arith) a.1))
sized_begins bytes names n sub declared reads takes t ts (Some back) x is f e =
    let a = bind_some (type_name_at bytes names declared back) (λ y. Some (sizeof_type t.line y.0.0 y.0.1, y.1)) x e in
    let g = type_is_behind bytes names (behind marks.LeftParenthesis ts) back f in
    let h = behind_takes marks.LeftParenthesis open_is ts back g.0 in
    subst (λ (y : Tree × List Token). Begun bytes names (suc n) 14 y.0 (t ∷ ts) y.1) (some_is a.2)
    (begun_sizeof_type bytes names n t h.token ts back a.0.1 a.0.0.0 a.0.0.1 is h.is h.whole (type_taken bytes names n declared takes back a.0 g.1 a.1))

sizeof_begins : (bytes : List ℕ) (names : Scope) (n : ℕ) (sub : Reader) (declared : DeclaredReader) → Reads bytes names n sub → ReadsDeclared bytes names n declared → (t : Token) (ts : List Token) (x : Tree × List Token) → t.kind ≡ kinds.Keyword keywords.Sizeof → sizeof_at bytes names sub declared t.line ts ≡ Some x → Begun bytes names (suc n) 14 x.0 (t ∷ ts) x.1
unfolding sizeof_at
sizeof_begins bytes names n sub declared reads takes t ts x is e =
    sized_begins bytes names n sub declared reads takes t ts (type_behind bytes names (behind marks.LeftParenthesis ts)) x is refl e

value_name : {A : Type 0} (b : Bool) (x y : A) → cond b None (Some x) ≡ Some y → (b ≡ false) × (x ≡ y)
value_name true x y e = absurd cc
value_name false x y e = (refl, some_is e)

prefixed_begins : (bytes : List ℕ) (names : Scope) (n : ℕ) (sub : Reader) (declared : DeclaredReader) → Reads bytes names n sub → ReadsDeclared bytes names n declared → (lead : Lead) (t : Token) (ts : List Token) (x : Tree × List Token) → Leads lead t.kind → prefixed bytes names sub declared lead t ts ≡ Some x → Begun bytes names (suc n) 14 x.0 (t ∷ ts) x.1
unfolding prefixed
prefixed_begins bytes names n sub declared reads takes leads.Name t ts x is e =
    let f = value_name (is_type names (text_of bytes t)) (name t.line (text_of bytes t), ts) x e in
    subst (λ (y : Tree × List Token). Begun bytes names (suc n) 14 y.0 (t ∷ ts) y.1) f.1 (raised bytes names (suc n) (name t.line (text_of bytes t)) (t ∷ ts) ts (begun_name bytes names n t ts is f.0))
prefixed_begins bytes names n sub declared reads takes (leads.Constant c) t ts x is e =
    subst (λ (y : Tree × List Token). Begun bytes names (suc n) 14 y.0 (t ∷ ts) y.1) (some_is e) (raised bytes names (suc n) (constant t.line c) (t ∷ ts) ts (begun_constant bytes names n c t ts is))
prefixed_begins bytes names n sub declared reads takes (leads.Character c) t ts x is e =
    subst (λ (y : Tree × List Token). Begun bytes names (suc n) 14 y.0 (t ∷ ts) y.1) (some_is e) (raised bytes names (suc n) (character t.line c) (t ∷ ts) ts (begun_character bytes names n c t ts is))
prefixed_begins bytes names n sub declared reads takes leads.Strings t ts x is e =
    let a = bind_some (strings_behind bytes (text_of bytes t) ts) (λ x. Some (strings t.line x.0, x.1)) x e in
    subst (λ (y : Tree × List Token). Begun bytes names (suc n) 14 y.0 (t ∷ ts) y.1) (some_is a.2) (raised bytes names (suc n) (strings t.line a.0.0) (t ∷ ts) a.0.1 (strings_begin bytes names n t ts a.0 is a.1))
prefixed_begins bytes names n sub declared reads takes leads.Group t ts x is e = group_begins bytes names n sub declared reads takes t ts x is e
prefixed_begins bytes names n sub declared reads takes (leads.Unary op) t ts x is e =
    let a = bind_some (sub (operand_level op) ts) (λ a. Some (unary t.line op a.0, a.1)) x e in
    subst (λ (y : Tree × List Token). Begun bytes names (suc n) 14 y.0 (t ∷ ts) y.1) (some_is a.2)
    (raised bytes names (suc n) (unary t.line op a.0.0) (t ∷ ts) a.0.1 (begun_unary bytes names n op t ts a.0.1 a.0.0 is (reads (operand_level op) ts a.0 (operand_low op) a.1)))
prefixed_begins bytes names n sub declared reads takes leads.Sizeof t ts x is e = sizeof_begins bytes names n sub declared reads takes t ts x is e

prefix_begins : (bytes : List ℕ) (names : Scope) (n : ℕ) (sub : Reader) (declared : DeclaredReader) → Reads bytes names n sub → ReadsDeclared bytes names n declared → (ts : List Token) (x : Tree × List Token) → prefix_at bytes names sub declared ts ≡ Some x → Begun bytes names (suc n) 14 x.0 ts x.1
unfolding prefix_at
prefix_begins bytes names n sub declared reads takes [] x e = absurd cc
prefix_begins bytes names n sub declared reads takes (t ∷ ts) x e =
    let a = bind_some (lead_of t.kind) (λ lead. prefixed bytes names sub declared lead t ts) x e in
    prefixed_begins bytes names n sub declared reads takes a.0 t ts x (leads_by t.kind a.0 a.1) a.2

-- the arguments
closed_some : (o : Option (List Token)) (others : Option (Trees × List Token)) (x : Trees × List Token) → closed o others ≡ Some x → ((rest : List Token) × (o ≡ Some rest) × ((none, rest) ≡ x)) ⊎ (others ≡ Some x)
closed_some None others x e = inr e
closed_some (Some rest) others x e = inl (rest, refl, some_is e)

listed_none : (bytes : List ℕ) (names : Scope) (n : ℕ) (ts rest : List Token) → Heads marks.RightParenthesis ts rest → Listed bytes names n (SpellsRest bytes none) none ts rest
listed_none bytes names n ts rest h = record { own = h.token ∷ []; spelled = record { token = h.token; is = h.is; whole = refl }; front = h.whole; well = tt; deep = omega arith }

listed_more : (bytes : List ℕ) (names : Scope) (n : ℕ) (ts mid others rest : List Token) (a : Tree) (aa : Trees) → Heads marks.Comma ts mid → Stands bytes names n 2 a mid others → Listed bytes names n (SpellsRest bytes aa) aa others rest → Listed bytes names n (SpellsRest bytes (more a aa)) (more a aa) ts rest
listed_more bytes names n ts mid others rest a aa h s l = record {
  own = h.token ∷ (s.own ++ l.own);
  spelled = record { token = h.token; rest = s.own ++ l.own; is = h.is; behind = record { left = s.own; right = l.own; first = s.spelled; second = l.spelled; whole = refl }; whole = refl };
  front = h.whole ∙ ap (λ (xs : List Token). h.token ∷ xs) (seam mid s.own others rest l.own s.front l.front);
  well = (s.level, s.well, l.well);
  deep = omega (arith, s.deep, l.deep);
}

rest_lists : (bytes : List ℕ) (names : Scope) (n : ℕ) (sub : Reader) → Reads bytes names n sub → (m : ℕ) (ts : List Token) (x : Trees × List Token) → rest_at m sub ts ≡ Some x → Listed bytes names n (SpellsRest bytes x.0) x.0 ts x.1
unfolding rest_at
rest_lists bytes names n sub reads zero ts x e = absurd cc
rest_lists bytes names n sub reads (suc m) ts x e =
    elim (closed_some (behind marks.RightParenthesis ts) (behind marks.Comma ts >>= λ rest. sub 2 rest >>= λ a. rest_at m sub a.1 >>= λ b. Some (more a.0 b.0, b.1)) x e) [
      | inl c ↦ subst (λ (y : Trees × List Token). Listed bytes names n (SpellsRest bytes y.0) y.0 ts y.1) c.2 (listed_none bytes names n ts c.0 (close_takes ts c.0 c.1))
      | inr f ↦
          let a = bind_some (behind marks.Comma ts) (λ rest. sub 2 rest >>= λ a. rest_at m sub a.1 >>= λ b. Some (more a.0 b.0, b.1)) x f in
          let b = bind_some (sub 2 a.0) (λ a. rest_at m sub a.1 >>= λ b. Some (more a.0 b.0, b.1)) x a.2 in
          let d = bind_some (rest_at m sub b.0.1) (λ d. Some (more b.0.0 d.0, d.1)) x b.2 in
          subst (λ (y : Trees × List Token). Listed bytes names n (SpellsRest bytes y.0) y.0 ts y.1) (some_is d.2)
          (listed_more bytes names n ts a.0 b.0.1 d.0.1 b.0.0 d.0.0 (comma_takes ts a.0 a.1) (reads 2 a.0 b.0 (omega arith) b.1) (rest_lists bytes names n sub reads m b.0.1 d.0 d.1))
    ]

listed_first : (bytes : List ℕ) (names : Scope) (n : ℕ) (ts others rest : List Token) (a : Tree) (aa : Trees) → Stands bytes names n 2 a ts others → Listed bytes names n (SpellsRest bytes aa) aa others rest → Listed bytes names n (SpellsArguments bytes (more a aa)) (more a aa) ts rest
listed_first bytes names n ts others rest a aa s l = record {
  own = s.own ++ l.own;
  spelled = record { left = s.own; right = l.own; first = s.spelled; second = l.spelled; whole = refl };
  front = seam ts s.own others rest l.own s.front l.front;
  well = (s.level, s.well, l.well);
  deep = omega (arith, s.deep, l.deep);
}

listed_empty : (bytes : List ℕ) (names : Scope) (n : ℕ) (ts rest : List Token) → Heads marks.RightParenthesis ts rest → Listed bytes names n (SpellsArguments bytes none) none ts rest
listed_empty bytes names n ts rest h = record { own = h.token ∷ []; spelled = record { token = h.token; is = h.is; whole = refl }; front = h.whole; well = tt; deep = omega arith }

arguments_list : (bytes : List ℕ) (names : Scope) (n : ℕ) (sub : Reader) → Reads bytes names n sub → (ts : List Token) (x : Trees × List Token) → arguments_at sub ts ≡ Some x → Listed bytes names n (SpellsArguments bytes x.0) x.0 ts x.1
unfolding arguments_at
arguments_list bytes names n sub reads ts x e =
    elim (closed_some (behind marks.RightParenthesis ts) (sub 2 ts >>= λ a. rest_at (length ts + 1) sub a.1 >>= λ b. Some (more a.0 b.0, b.1)) x e) [
      | inl c ↦ subst (λ (y : Trees × List Token). Listed bytes names n (SpellsArguments bytes y.0) y.0 ts y.1) c.2 (listed_empty bytes names n ts c.0 (close_takes ts c.0 c.1))
      | inr f ↦
          let b = bind_some (sub 2 ts) (λ a. rest_at (length ts + 1) sub a.1 >>= λ b. Some (more a.0 b.0, b.1)) x f in
          let d = bind_some (rest_at (length ts + 1) sub b.0.1) (λ d. Some (more b.0.0 d.0, d.1)) x b.2 in
          subst (λ (y : Trees × List Token). Listed bytes names n (SpellsArguments bytes y.0) y.0 ts y.1) (some_is d.2)
          (listed_first bytes names n ts b.0.1 d.0.1 b.0.0 d.0.0 (reads 2 ts b.0 (omega arith) b.1) (rest_lists bytes names n sub reads (length ts + 1) b.0.1 d.0 d.1))
    ]

-- nodes behind a left operand
begun_binary : (bytes : List ℕ) (names : Scope) (n k : ℕ) (op : BinaryOp) (t : Token) (left b : Tree) (tokens ts rest : List Token) → t.kind ≡ kinds.Mark (binary_mark op) → k ≤ strength_of op → strength_of op ≤ level_of left → depth left ≤ n → Begun bytes names (suc n) k left tokens (t ∷ ts) → Stands bytes names n (strength_of op + 1) b ts rest → Begun bytes names (suc n) k (binary t.line op left b) tokens rest
begun_binary bytes names n k op t left b tokens ts rest is f g d l s = record {
  own = l.own ++ (t ∷ s.own);
  spelled = record { left = l.own; right = t ∷ s.own; first = l.spelled; second = record { token = t; rest = s.own; is = record { kind = is; line = refl }; behind = s.spelled; whole = refl }; whole = refl };
  front = seam tokens l.own (t ∷ ts) rest (t ∷ s.own) l.front (ap (λ (xs : List Token). t ∷ xs) s.front);
  level = f;
  well = (g, s.level, l.well, s.well);
  inside = both_false (suffix_at rest) (goes_on (strength_of op + 1) (level_of b)) (goes_on_inside b) s.ends s.inside;
  deep = omega (arith, s.deep);
}

begun_assign : (bytes : List ℕ) (names : Scope) (n k : ℕ) (op : Option BinaryOp) (t : Token) (left b : Tree) (tokens ts rest : List Token) → Behaves (suffixes.Becomes op) t.kind → k ≤ 2 → 15 ≤ level_of left → depth left ≤ n → Begun bytes names (suc n) k left tokens (t ∷ ts) → Stands bytes names n 2 b ts rest → Begun bytes names (suc n) k (assign t.line op left b) tokens rest
begun_assign bytes names n k op t left b tokens ts rest is f g d l s = record {
  own = l.own ++ (t ∷ s.own);
  spelled = record { left = l.own; right = t ∷ s.own; first = l.spelled; second = record { token = t; rest = s.own; is = record { kind = is; line = refl }; behind = s.spelled; whole = refl }; whole = refl };
  front = seam tokens l.own (t ∷ ts) rest (t ∷ s.own) l.front (ap (λ (xs : List Token). t ∷ xs) s.front);
  level = f;
  well = (g, s.level, l.well, s.well);
  inside = both_false (suffix_at rest) (goes_on 2 (level_of b)) (goes_on_inside b) s.ends s.inside;
  deep = omega (arith, s.deep);
}

begun_comma : (bytes : List ℕ) (names : Scope) (n k : ℕ) (t : Token) (left b : Tree) (tokens ts rest : List Token) → t.kind ≡ kinds.Mark marks.Comma → k ≤ 1 → 1 ≤ level_of left → depth left ≤ n → Begun bytes names (suc n) k left tokens (t ∷ ts) → Stands bytes names n 2 b ts rest → Begun bytes names (suc n) k (comma t.line left b) tokens rest
begun_comma bytes names n k t left b tokens ts rest is f g d l s = record {
  own = l.own ++ (t ∷ s.own);
  spelled = record { left = l.own; right = t ∷ s.own; first = l.spelled; second = record { token = t; rest = s.own; is = record { kind = is; line = refl }; behind = s.spelled; whole = refl }; whole = refl };
  front = seam tokens l.own (t ∷ ts) rest (t ∷ s.own) l.front (ap (λ (xs : List Token). t ∷ xs) s.front);
  level = f;
  well = (g, s.level, l.well, s.well);
  inside = both_false (suffix_at rest) (goes_on 2 (level_of b)) (goes_on_inside b) s.ends s.inside;
  deep = omega (arith, s.deep);
}

begun_choice : (bytes : List ℕ) (names : Scope) (n k : ℕ) (t : Token) (left a b : Tree) (tokens ts mid others rest : List Token) → t.kind ≡ kinds.Mark marks.Question → k ≤ 3 → 4 ≤ level_of left → depth left ≤ n → Begun bytes names (suc n) k left tokens (t ∷ ts) → Stands bytes names n 1 a ts mid → Heads marks.Colon mid others → Stands bytes names n 3 b others rest → Begun bytes names (suc n) k (choice t.line left a b) tokens rest
begun_choice bytes names n k t left a b tokens ts mid others rest is f g d l p h s = record {
  own = l.own ++ (t ∷ (p.own ++ (h.token ∷ s.own)));
  spelled = record {
    left = l.own;
    right = t ∷ (p.own ++ (h.token ∷ s.own));
    first = l.spelled;
    second = record {
      token = t;
      rest = p.own ++ (h.token ∷ s.own);
      is = record { kind = is; line = refl };
      behind = record { left = p.own; right = h.token ∷ s.own; first = p.spelled; second = record { token = h.token; rest = s.own; is = h.is; behind = s.spelled; whole = refl }; whole = refl };
      whole = refl;
    };
    whole = refl;
  };
  front = seam tokens l.own (t ∷ ts) rest (t ∷ (p.own ++ (h.token ∷ s.own))) l.front
      (ap (λ (xs : List Token). t ∷ xs) (seam ts p.own mid rest (h.token ∷ s.own) p.front (h.whole ∙ ap (λ (xs : List Token). h.token ∷ xs) s.front)));
  level = f;
  well = (g, p.level, s.level, l.well, p.well, s.well);
  inside = both_false (suffix_at rest) (goes_on 3 (level_of b)) (goes_on_inside b) s.ends s.inside;
  deep = omega (arith, s.deep, p.deep);
}

begun_step : (bytes : List ℕ) (names : Scope) (n k : ℕ) (op : StepOp) (t : Token) (left : Tree) (tokens ts : List Token) → t.kind ≡ kinds.Mark (step_mark op) → k ≤ 16 → 16 ≤ level_of left → depth left ≤ n → Begun bytes names (suc n) k left tokens (t ∷ ts) → Begun bytes names (suc n) k (step t.line op left) tokens ts
begun_step bytes names n k op t left tokens ts is f g d l = record {
  own = l.own ++ (t ∷ []);
  spelled = record { left = l.own; right = t ∷ []; first = l.spelled; second = record { token = t; is = record { kind = is; line = refl }; whole = refl }; whole = refl };
  front = seam tokens l.own (t ∷ ts) ts (t ∷ []) l.front refl;
  level = f;
  well = (g, l.well);
  inside = all_some (suffix_at ts) (λ s. goes_on_inside (step t.line op left) s ≡ false) (λ s. refl);
  deep = omega arith;
}

begun_member : (bytes : List ℕ) (names : Scope) (n k : ℕ) (t : Token) (left : Tree) (tokens ts : List Token) (y : List ℕ × List Token) → t.kind ≡ kinds.Mark marks.Dot → k ≤ 16 → 16 ≤ level_of left → depth left ≤ n → Begun bytes names (suc n) k left tokens (t ∷ ts) → identifier_at bytes ts ≡ Some y → Begun bytes names (suc n) k (member t.line left y.0) tokens y.1
begun_member bytes names n k t left tokens ts y is f g d l e =
    let m = identifier_taken bytes ts y e in
    record {
      own = l.own ++ (t ∷ m.token ∷ []);
      spelled = record {
        left = l.own;
        right = t ∷ m.token ∷ [];
        first = l.spelled;
        second = record { token = t; rest = m.token ∷ []; is = record { kind = is; line = refl }; behind = record { token = m.token; is = record { kind = m.kind; text = m.reads }; whole = refl }; whole = refl };
        whole = refl;
      };
      front = seam tokens l.own (t ∷ ts) y.1 (t ∷ m.token ∷ []) l.front (ap (λ (xs : List Token). t ∷ xs) m.whole);
      level = f;
      well = (g, l.well);
      inside = all_some (suffix_at y.1) (λ s. goes_on_inside (member t.line left y.0) s ≡ false) (λ s. refl);
      deep = omega arith;
    }

begun_call : (bytes : List ℕ) (names : Scope) (n k : ℕ) (t : Token) (left : Tree) (args : Trees) (tokens ts rest : List Token) → t.kind ≡ kinds.Mark marks.LeftParenthesis → k ≤ 16 → 16 ≤ level_of left → depth left ≤ n → Begun bytes names (suc n) k left tokens (t ∷ ts) → Listed bytes names n (SpellsArguments bytes args) args ts rest → Begun bytes names (suc n) k (call left args) tokens rest
begun_call bytes names n k t left args tokens ts rest is f g d l s = record {
  own = l.own ++ (t ∷ s.own);
  spelled = record { left = l.own; right = t ∷ s.own; first = l.spelled; second = record { token = t; rest = s.own; is = is; behind = s.spelled; whole = refl }; whole = refl };
  front = seam tokens l.own (t ∷ ts) rest (t ∷ s.own) l.front (ap (λ (xs : List Token). t ∷ xs) s.front);
  level = f;
  well = (g, l.well, s.well);
  inside = all_some (suffix_at rest) (λ s. goes_on_inside (call left args) s ≡ false) (λ s. refl);
  deep = omega (arith, s.deep);
}

suffixed_begins : (bytes : List ℕ) (names : Scope) (n k : ℕ) (sub : Reader) → Reads bytes names n sub → (s : Suffix) (t : Token) (left : Tree) (tokens ts : List Token) (x : Tree × List Token) → Behaves s t.kind → k ≤ strength_behind s → least_left s ≤ level_of left → depth left ≤ n → Begun bytes names (suc n) k left tokens (t ∷ ts) → suffixed bytes sub s t.line left ts ≡ Some x → Begun bytes names (suc n) k x.0 tokens x.1
unfolding suffixed
suffixed_begins bytes names n k sub reads (suffixes.Operator op) t left tokens ts x is f g d l e =
    let a = bind_some (sub (strength_of op + 1) ts) (λ b. Some (binary t.line op left b.0, b.1)) x e in
    let h = at_most_thirteen op in
    subst (λ (y : Tree × List Token). Begun bytes names (suc n) k y.0 tokens y.1) (some_is a.2)
    (begun_binary bytes names n k op t left a.0.0 tokens ts a.0.1 is f g d l (reads (strength_of op + 1) ts a.0 (omega arith) a.1))
suffixed_begins bytes names n k sub reads (suffixes.Becomes op) t left tokens ts x is f g d l e =
    let a = bind_some (sub 2 ts) (λ b. Some (assign t.line op left b.0, b.1)) x e in
    subst (λ (y : Tree × List Token). Begun bytes names (suc n) k y.0 tokens y.1) (some_is a.2)
    (begun_assign bytes names n k op t left a.0.0 tokens ts a.0.1 is f g d l (reads 2 ts a.0 (omega arith) a.1))
suffixed_begins bytes names n k sub reads suffixes.Choice t left tokens ts x is f g d l e =
    let a = bind_some (sub 1 ts) (λ a. behind marks.Colon a.1 >>= λ rest. sub 3 rest >>= λ b. Some (choice t.line left a.0 b.0, b.1)) x e in
    let b = bind_some (behind marks.Colon a.0.1) (λ rest. sub 3 rest >>= λ b. Some (choice t.line left a.0.0 b.0, b.1)) x a.2 in
    let c = bind_some (sub 3 b.0) (λ b. Some (choice t.line left a.0.0 b.0, b.1)) x b.2 in
    subst (λ (y : Tree × List Token). Begun bytes names (suc n) k y.0 tokens y.1) (some_is c.2)
    (begun_choice bytes names n k t left a.0.0 c.0.0 tokens ts a.0.1 b.0 c.0.1 is f g d l (reads 1 ts a.0 (omega arith) a.1) (colon_takes a.0.1 b.0 b.1) (reads 3 b.0 c.0 (omega arith) c.1))
suffixed_begins bytes names n k sub reads suffixes.Then t left tokens ts x is f g d l e =
    let a = bind_some (sub 2 ts) (λ b. Some (comma t.line left b.0, b.1)) x e in
    subst (λ (y : Tree × List Token). Begun bytes names (suc n) k y.0 tokens y.1) (some_is a.2)
    (begun_comma bytes names n k t left a.0.0 tokens ts a.0.1 is f g d l (reads 2 ts a.0 (omega arith) a.1))
suffixed_begins bytes names n k sub reads (suffixes.Step op) t left tokens ts x is f g d l e =
    subst (λ (y : Tree × List Token). Begun bytes names (suc n) k y.0 tokens y.1) (some_is e)
    (begun_step bytes names n k op t left tokens ts is f g d l)
suffixed_begins bytes names n k sub reads suffixes.Member t left tokens ts x is f g d l e =
    let a = bind_some (identifier_at bytes ts) (λ a. Some (member t.line left a.0, a.1)) x e in
    subst (λ (y : Tree × List Token). Begun bytes names (suc n) k y.0 tokens y.1) (some_is a.2)
    (begun_member bytes names n k t left tokens ts a.0 is f g d l a.1)
suffixed_begins bytes names n k sub reads suffixes.Another t left tokens ts x is f g d l e = absurd cc
suffixed_begins bytes names n k sub reads suffixes.Arguments t left tokens ts x is f g d l e =
    let a = bind_some (arguments_at sub ts) (λ a. Some (call left a.0, a.1)) x e in
    subst (λ (y : Tree × List Token). Begun bytes names (suc n) k y.0 tokens y.1) (some_is a.2)
    (begun_call bytes names n k t left a.0.0 tokens ts a.0.1 is f g d l (arguments_list bytes names n sub reads ts a.0 a.1))

-- a suffix's turn
moved : (bytes : List ℕ) (names : Scope) (n k : ℕ) (left : Tree) (tokens ts : List Token) (y : Suffix × ℕ × List Token) (g : Goes k (level_of left) ts y) → Begun bytes names (suc n) k left tokens ts → Begun bytes names (suc n) k left tokens (g.token ∷ y.2)
moved bytes names n k left tokens ts y g b = subst (λ (xs : List Token). Begun bytes names (suc n) k left tokens xs) g.whole b

suffix_turn : (bytes : List ℕ) (names : Scope) (n k : ℕ) (sub : Reader) → Reads bytes names n sub → (left : Tree) (tokens ts : List Token) (y : Suffix × ℕ × List Token) (x : Tree × List Token) → Goes k (level_of left) ts y → depth left ≤ n → Begun bytes names (suc n) k left tokens ts → suffixed bytes sub y.0 y.1 left y.2 ≡ Some x → Begun bytes names (suc n) k x.0 tokens x.1
suffix_turn bytes names n k sub reads left tokens ts y x g d b e =
    let f = goes_facts k (level_of left) y.0 g.goes in
    suffixed_begins bytes names n k sub reads y.0 g.token left tokens y.2 x (behaves g.token.kind y.0 g.suffix) f.0 f.1 d (moved bytes names n k left tokens ts y g b)
    (ap (λ (line : ℕ). suffixed bytes sub y.0 line left y.2) g.line ∙ e)

finished : (bytes : List ℕ) (names : Scope) (n k : ℕ) (t : Tree) (tokens ts : List Token) → Begun bytes names n k t tokens ts → next_at k (level_of t) ts ≡ None → Stands bytes names n k t tokens ts
finished bytes names n k t tokens ts b e = record { own = b.own; spelled = b.spelled; front = b.front; level = b.level; well = b.well; inside = b.inside; ends = next_none k (level_of t) ts e; deep = b.deep }

turn_stands : (bytes : List ℕ) (names : Scope) (n k : ℕ) (sub : Reader) → Reads bytes names n sub → (go : Tree → List Token → Read) → (tokens : List Token) → ((t : Tree) (ts : List Token) (x : Tree × List Token) → Begun bytes names (suc n) k t tokens ts → go t ts ≡ Some x → Stands bytes names (suc n) k x.0 tokens x.1) → (left : Tree) (ts : List Token) (x : Tree × List Token) (o : Option (Suffix × ℕ × List Token)) → next_at k (level_of left) ts ≡ o → Begun bytes names (suc n) k left tokens ts → turn bytes sub (suc n) go left ts o ≡ Some x → Stands bytes names (suc n) k x.0 tokens x.1
turn_stands bytes names n k sub reads go tokens on left ts x None is b e =
    subst (λ (y : Tree × List Token). Stands bytes names (suc n) k y.0 tokens y.1) (some_is e) (finished bytes names (suc n) k left tokens ts b is)
turn_stands bytes names n k sub reads go tokens on left ts x (Some y) is b e =
    let g = guarded (nat_lt (depth left) (suc n)) (suffixed bytes sub y.0 y.1 left y.2 >>= λ x. go x.0 x.1) x e in
    let d : depth left ≤ n = let h = ltb-true (depth left) (suc n) g.0 in omega arith in
    let a = bind_some (suffixed bytes sub y.0 y.1 left y.2) (λ x. go x.0 x.1) x g.1 in
    on a.0.0 a.0.1 x (suffix_turn bytes names n k sub reads left tokens ts y a.0 (next_some k (level_of left) ts y is) d b a.1) a.2

climb_stands : (bytes : List ℕ) (names : Scope) (n k : ℕ) (sub : Reader) → Reads bytes names n sub → (tokens : List Token) (m : ℕ) (left : Tree) (ts : List Token) (x : Tree × List Token) → Begun bytes names (suc n) k left tokens ts → climb bytes m sub (suc n) k left ts ≡ Some x → Stands bytes names (suc n) k x.0 tokens x.1
unfolding climb
climb_stands bytes names n k sub reads tokens zero left ts x b e = absurd cc
climb_stands bytes names n k sub reads tokens (suc m) left ts x b e =
    turn_stands bytes names n k sub reads (climb bytes m sub (suc n) k) tokens (climb_stands bytes names n k sub reads tokens m) left ts x (next_at k (level_of left) ts) refl b e

-- a tree that begins with an operand's token is of the level of a cast at least
lower : (bytes : List ℕ) (names : Scope) (n k : ℕ) (t : Tree) (tokens ts : List Token) → k ≤ level_of t → Begun bytes names n 14 t tokens ts → Begun bytes names n k t tokens ts
lower bytes names n k t tokens ts h b = record { own = b.own; spelled = b.spelled; front = b.front; level = h; well = b.well; inside = b.inside; deep = b.deep }

from_operand_stands : (bytes : List ℕ) (names : Scope) (n k : ℕ) (sub : Reader) → Reads bytes names n sub → (tokens : List Token) (y x : Tree × List Token) → Begun bytes names (suc n) 14 y.0 tokens y.1 → from_operand bytes (suc n) sub k y ≡ Some x → Stands bytes names (suc n) k x.0 tokens x.1
from_operand_stands bytes names n k sub reads tokens y x b e =
    let g = guarded (nat_le k (level_of y.0)) (climb bytes (suc n) sub (suc n) k y.0 y.1) x e in
    climb_stands bytes names n k sub reads tokens (suc n) y.0 y.1 x (lower bytes names (suc n) k y.0 tokens y.1 (leb-true k (level_of y.0) g.0) b) g.1

reads_next : (bytes : List ℕ) (names : Scope) (n : ℕ) → Reads bytes names n (reader bytes names n) → ReadsDeclared bytes names n (declared_at bytes names n) → Reads bytes names (suc n) (reader bytes names (suc n))
unfolding reader
reads_next bytes names n sub inner k ts x h e =
    let a = bind_some (prefix_at bytes names (reader bytes names n) (declared_at bytes names n) ts) (from_operand bytes (suc n) (reader bytes names n) k) x e in
    from_operand_stands bytes names n k (reader bytes names n) sub ts a.0 x (prefix_begins bytes names n (reader bytes names n) (declared_at bytes names n) sub inner ts a.0 a.1) a.2

declared_next : (bytes : List ℕ) (names : Scope) (n : ℕ) → Reads bytes names n (reader bytes names n) → ReadsDeclared bytes names n (declared_at bytes names n) → ReadsDeclared bytes names (suc n) (declared_at bytes names (suc n))
unfolding declared_at
declared_next bytes names n sub inner with_name ts x e =
    let a = bind_some (declarator_start_at with_name ts) (λ h. declared_from bytes (reader bytes names n) (declared_at bytes names n) with_name h ts) x e in
    declared_taken bytes names n (reader bytes names n) (declared_at bytes names n) sub inner with_name a.0 ts x (declarator_start_begins with_name ts a.0 a.1) a.2

reads_none : (bytes : List ℕ) (names : Scope) → Reads bytes names 0 (reader bytes names 0)
unfolding reader
reads_none bytes names k ts x h e = absurd cc

declared_none : (bytes : List ℕ) (names : Scope) → ReadsDeclared bytes names 0 (declared_at bytes names 0)
unfolding declared_at
declared_none bytes names with_name ts x e = bare_taken bytes names with_name (declarator_start_at with_name ts) ts x refl e

both_read : (bytes : List ℕ) (names : Scope) (n : ℕ) → Reads bytes names n (reader bytes names n) × ReadsDeclared bytes names n (declared_at bytes names n)
both_read bytes names zero = (reads_none bytes names, declared_none bytes names)
both_read bytes names (suc n) =
    let below = both_read bytes names n in
    (reads_next bytes names n below.0 below.1, declared_next bytes names n below.0 below.1)

-- what is read stands there
pub reads : (bytes : List ℕ) (names : Scope) (n : ℕ) → Reads bytes names n (reader bytes names n)
reads bytes names n = (both_read bytes names n).0

-- the same of a declarator
pub reads_declared : (bytes : List ℕ) (names : Scope) (n : ℕ) → ReadsDeclared bytes names n (declared_at bytes names n)
reads_declared bytes names n = (both_read bytes names n).1
