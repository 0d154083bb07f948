-- What is read of a declarator stands there.
use Rattle.std.proofs.Common.{◌≡◌, ◌≤◌, ◌<◌, ◌+◌, ℕ, suc, List, [], ◌∷◌, ◌++◌, length, Bool, true, false, ◌&&◌, ◌||◌, cond, Option, Some, None, refl, ap, sym, subst, ◌∙◌, arith, inl, inr}
use Rattle.std.specs.Prelude.{◌⊎◌, nat_lt}
use Rattle.std.proofs.lemmas.Option.{cond_some}
use Rattle.std.proofs.lemmas.Bool.{ltb-true}
use Rattle.std.proofs.lemmas.List.{append_assoc}
use Rattle.c_token.specs.declared.token.Token.{Token}
use Rattle.c_token.specs.declared.token.Kind.TheVariants as kinds
use Rattle.c_token.specs.declared.token.Mark.TheVariants as marks
use Rattle.c_token.specs.Spelling.{text_of}
use Rattle.c_tree.specs.Tree.{TypePart, Tree, Declared, Suffixes, unnamed, named, inside, no_suffix, bounded, unbounded, declared_depth, suffixes_depth}
use Rattle.c_tree.specs.Names.{Scope}
use Rattle.c_tree.specs.Spelling.{SpellsTypeParts, SpellsDeclared, SpellsSuffixes, AreSpecifiers, IsWellDeclared, AreWellSuffixes, is_empty, has_name}
use Rattle.c_parse_expr.specs.declared.declarator_start.DeclaratorStart.{DeclaratorStart}
use Rattle.c_parse_expr.specs.declared.declarator_start.DeclaratorStart.TheVariants as declarator_starts
use Rattle.c_parse_expr.specs.inner.Many.{◌>>=◌, many_at}
use Rattle.c_parse_expr.specs.Reading.{is_mark}
use Rattle.c_parse_expr.specs.inner.Reading.{Reader, DeclaredReader, behind, opened, bound_at, bracket, bracketed, bracket_at, suffixes_from, suffixes_at, declarator_start_at, inside_at, declared_from, bare, begins_type, type_part_at, type_parts_at, type_name_at}
use Rattle.c_parse_expr.specs.Standing.{Stands, DeclaredStands, opens}
use Rattle.c_parse_expr.proofs.Marks.{some_is, close_is, bracket_is, end_is, open_is}
use Rattle.c_parse_expr.proofs.Steps.{bind_some, none_by, Heads, behind_takes}
use Rattle.c_parse_expr.proofs.Rows.{Run, many_run}
use Rattle.c_parse_expr.proofs.Within.{full_declared}
use Rattle.c_parse_expr.proofs.DeclaratorStarts.{Begins, declarator_start_begins}
use Rattle.c_parse_expr.proofs.SoundWords.{parts_taken, specifiers_taken}

abbrev pub Reads : List ℕ → Scope → ℕ → Reader → Type 0
Reads bytes names n sub = (k : ℕ) (ts : List Token) (x : Tree × List Token) → k ≤ 15 → sub k ts ≡ Some x → Stands bytes names n k x.0 ts x.1

abbrev pub ReadsDeclared : List ℕ → Scope → ℕ → DeclaredReader → Type 0
ReadsDeclared bytes names n sub = (with_name : Bool) (ts : List Token) (x : Declared × List Token) → sub with_name ts ≡ Some x → DeclaredStands bytes names n with_name x.0 ts x.1

pub close_takes : (ts rest : List Token) → behind marks.RightParenthesis ts ≡ Some rest → Heads marks.RightParenthesis ts rest
close_takes = behind_takes marks.RightParenthesis close_is

end_takes : (ts rest : List Token) → behind marks.RightBracket ts ≡ Some rest → Heads marks.RightBracket ts rest
end_takes = behind_takes marks.RightBracket end_is

-- in front of what is left: two runs
pub seam : (ts own others rest : List Token) (back : List Token) → ts ≡ own ++ others → others ≡ back ++ rest → ts ≡ (own ++ back) ++ rest
seam ts own others rest back e f = e ∙ ap (λ (xs : List Token). own ++ xs) f ∙ sym (append_assoc own back rest)

-- a bracket at the front
record Bracket (ts : List Token) (y : ℕ × List Token) : Type 0 where
  pub token : Token
  pub is : token.kind ≡ kinds.Mark marks.LeftBracket
  pub line : token.line ≡ y.0
  pub whole : ts ≡ token ∷ y.1

bracket_taken : (ts : List Token) (y : ℕ × List Token) → bracket ts ≡ Some y → Bracket ts y
unfolding bracket
bracket_taken [] y e = absurd cc
bracket_taken (t ∷ ts) y e =
    let f = cond_some (is_mark marks.LeftBracket t.kind) (t.line, ts) y e in
    record { token = t; is = bracket_is t.kind f.0; line = ap (λ (z : ℕ × List Token). z.0) f.1; whole = ap (λ (z : ℕ × List Token). t ∷ z.1) f.1 }

no_bracket : (ts : List Token) → bracket ts ≡ None → opens marks.LeftBracket ts ≡ false
unfolding bracket
no_bracket [] e = refl
no_bracket (t ∷ ts) e = none_by (is_mark marks.LeftBracket t.kind) (t.line, ts) e

-- a suffix behind its bracket
abbrev One : Type 0
One = (ℕ × Option Tree) × Unit {0} × List Token

opened_some : (line : ℕ) (o : Option (List Token)) (others : Option (Option One)) (y : Option One) → opened line o others ≡ Some y → ((rest : List Token) × (o ≡ Some rest) × (Some ((line, None), tt, rest) ≡ y)) ⊎ (others ≡ Some y)
opened_some line None others y e = inr e
opened_some line (Some rest) others y e = inl (rest, refl, some_is e)

record Bounded (bytes : List ℕ) (names : Scope) (n : ℕ) (e : Tree) (ts rest : List Token) : Type 0 where
  pub others : List Token
  pub bound : Stands bytes names n 3 e ts others
  pub close : Heads marks.RightBracket others rest

abbrev Bounds : List ℕ → Scope → ℕ → ℕ × Option Tree → List Token → List Token → Type 0
Bounds bytes names n (line, None) ts rest = Heads marks.RightBracket ts rest
Bounds bytes names n (line, Some e) ts rest = Bounded bytes names n e ts rest

bound_taken : (bytes : List ℕ) (names : Scope) (n : ℕ) (sub : Reader) → Reads bytes names n sub → (line : ℕ) (ts : List Token) (y : One) → bound_at sub line ts ≡ Some (Some y) → (y.0.0 ≡ line) × Bounds bytes names n y.0 ts y.2
unfolding bound_at
bound_taken bytes names n sub reads line ts y e =
    elim (opened_some line (behind marks.RightBracket ts) (sub 3 ts >>= λ e. behind marks.RightBracket e.1 >>= λ rest. Some (Some ((line, Some e.0), tt, rest))) (Some y) e) [
      | inl c ↦ subst (λ (z : One). (z.0.0 ≡ line) × Bounds bytes names n z.0 ts z.2) (some_is c.2) (refl, end_takes ts c.0 c.1)
      | inr f ↦
          let a = bind_some (sub 3 ts) (λ e. behind marks.RightBracket e.1 >>= λ rest. Some (Some ((line, Some e.0), tt, rest))) (Some y) f in
          let b = bind_some (behind marks.RightBracket a.0.1) (λ rest. Some (Some ((line, Some a.0.0), tt, rest))) (Some y) a.2 in
          subst (λ (z : One). (z.0.0 ≡ line) × Bounds bytes names n z.0 ts z.2) (some_is (some_is b.2))
          (refl, record { others = a.0.1; bound = reads 3 ts a.0 (omega arith) a.1; close = end_takes a.0.1 b.0 b.1 })
    ]

-- a bracket begins a suffix
bound_none : (sub : Reader) (line : ℕ) (ts : List Token) → bound_at sub line ts ≡ Some None → ⊥
unfolding bound_at
bound_none sub line ts e =
    elim (opened_some line (behind marks.RightBracket ts) (sub 3 ts >>= λ e. behind marks.RightBracket e.1 >>= λ rest. Some (Some ((line, Some e.0), tt, rest))) None e) [
      | inl c ↦ let g = c.2 in cc
      | inr f ↦
          let a = bind_some (sub 3 ts) (λ e. behind marks.RightBracket e.1 >>= λ rest. Some (Some ((line, Some e.0), tt, rest))) None f in
          let b = bind_some (behind marks.RightBracket a.0.1) (λ rest. Some (Some ((line, Some a.0.0), tt, rest))) None a.2 in
          cc
    ]

bracketed_none : (sub : Reader) (o : Option (ℕ × List Token)) → bracketed sub o ≡ Some None → o ≡ None
bracketed_none sub None e = refl
bracketed_none sub (Some x) e = absurd (bound_none sub x.0 x.1 e)

-- a suffix in front of others
pub record SuffixesTaken (bytes : List ℕ) (names : Scope) (n : ℕ) (suffixes : Suffixes) (ts rest : List Token) : Type 0 where
  pub own : List Token
  pub spelled : SpellsSuffixes bytes suffixes own
  pub front : ts ≡ own ++ rest
  pub well : AreWellSuffixes names suffixes
  pub ends : opens marks.LeftBracket rest ≡ false
  pub deep : suffixes_depth suffixes ≤ n

suffix_front : (bytes : List ℕ) (names : Scope) (n : ℕ) (pair : ℕ × Option Tree) (others : List (ℕ × Option Tree)) (token : Token) (ts back mid rest : List Token) → token.kind ≡ kinds.Mark marks.LeftBracket → token.line ≡ pair.0 → ts ≡ token ∷ back → Bounds bytes names n pair back mid → SuffixesTaken bytes names n (suffixes_from others) mid rest → SuffixesTaken bytes names n (suffixes_from (pair ∷ others)) ts rest
suffix_front bytes names n (line, None) others token ts back mid rest is at whole h s = record {
  own = token ∷ h.token ∷ s.own;
  spelled = record { token = token; rest = h.token ∷ s.own; is = record { kind = is; line = at }; behind = record { token = h.token; rest = s.own; is = h.is; behind = s.spelled; whole = refl }; whole = refl };
  front = whole ∙ ap (λ (us : List Token). token ∷ us) (h.whole ∙ ap (λ (us : List Token). h.token ∷ us) s.front);
  well = s.well;
  ends = s.ends;
  deep = s.deep;
}
suffix_front bytes names n (line, Some e) others token ts back mid rest is at whole b s =
    let h = b.close in
    record {
      own = token ∷ (b.bound.own ++ (h.token ∷ s.own));
      spelled = record {
        token = token;
        rest = b.bound.own ++ (h.token ∷ s.own);
        is = record { kind = is; line = at };
        behind = record { left = b.bound.own; right = h.token ∷ s.own; first = b.bound.spelled; second = record { token = h.token; rest = s.own; is = h.is; behind = s.spelled; whole = refl }; whole = refl };
        whole = refl;
      };
      front = whole ∙ ap (λ (us : List Token). token ∷ us) (seam back b.bound.own b.others rest (h.token ∷ s.own) b.bound.front (h.whole ∙ ap (λ (us : List Token). h.token ∷ us) s.front));
      well = (b.bound.level, b.bound.well, s.well);
      ends = s.ends;
      deep = omega (arith, b.bound.deep, s.deep);
    }

by_bracket : (bytes : List ℕ) (names : Scope) (n : ℕ) (sub : Reader) → Reads bytes names n sub → (o : Option (ℕ × List Token)) (ts : List Token) (y : One) → bracket ts ≡ o → bracketed sub o ≡ Some (Some y) → (token : Token) × (back : List Token) × (token.kind ≡ kinds.Mark marks.LeftBracket) × (token.line ≡ y.0.0) × (ts ≡ token ∷ back) × Bounds bytes names n y.0 back y.2
by_bracket bytes names n sub reads None ts y is e = absurd cc
by_bracket bytes names n sub reads (Some x) ts y is e =
    let b = bracket_taken ts x is in
    let f = bound_taken bytes names n sub reads x.0 x.1 y e in
    (b.token, x.1, b.is, b.line ∙ sym f.0, b.whole, f.1)

pub suffixes_run : (bytes : List ℕ) (names : Scope) (n : ℕ) (sub : Reader) → Reads bytes names n sub → (s : Unit {0}) (xs : List (ℕ × Option Tree)) (ts rest : List Token) → Run (bracket_at sub) s xs ts rest → SuffixesTaken bytes names n (suffixes_from xs) ts rest
suffixes_run bytes names n sub reads s [] ts rest r = record {
  own = [];
  spelled = refl;
  front = r.1;
  well = tt;
  ends = subst (λ (us : List Token). opens marks.LeftBracket us ≡ false) r.1 (no_bracket ts (bracketed_none sub (bracket ts) r.0));
  deep = omega arith;
}
suffixes_run bytes names n sub reads s (x ∷ xs) ts rest r =
    let b = by_bracket bytes names n sub reads (bracket ts) ts (x, r.0, r.1) refl r.2 in
    suffix_front bytes names n x xs b.0 ts b.1 r.1 rest b.2 b.3 b.4 b.5 (suffixes_run bytes names n sub reads r.0 xs r.1 rest r.3)

-- where a bracket stands, there is a suffix
some_suffix : (x : ℕ × Option Tree) (xs : List (ℕ × Option Tree)) → is_empty (unnamed (suffixes_from (x ∷ xs))) ≡ false
some_suffix (line, None) xs = refl
some_suffix (line, Some e) xs = refl

full_run : (sub : Reader) (s : Unit {0}) (xs : List (ℕ × Option Tree)) (ts rest : List Token) → Run (bracket_at sub) s xs ts rest → opens marks.LeftBracket ts ≡ true → is_empty (unnamed (suffixes_from xs)) ≡ false
full_run sub s [] ts rest r e = let f = no_bracket ts (bracketed_none sub (bracket ts) r.0) in absurd cc
full_run sub s (x ∷ xs) ts rest r e = some_suffix x xs

pub suffixes_taken : (bytes : List ℕ) (names : Scope) (n : ℕ) (sub : Reader) → Reads bytes names n sub → (ts : List Token) (y : Suffixes × List Token) → suffixes_at sub ts ≡ Some y → SuffixesTaken bytes names n y.0 ts y.1
unfolding suffixes_at
suffixes_taken bytes names n sub reads ts y e =
    let a = bind_some (many_at (bracket_at sub) (length ts + 1) tt ts) (λ x. Some (suffixes_from x.0, x.1)) y e in
    subst (λ (z : Suffixes × List Token). SuffixesTaken bytes names n z.0 ts z.1) (some_is a.2)
    (suffixes_run bytes names n sub reads tt a.0.0 ts a.0.1 (many_run (bracket_at sub) (length ts + 1) tt ts a.0 a.1))

suffixes_full : (sub : Reader) (ts : List Token) (y : Suffixes × List Token) → suffixes_at sub ts ≡ Some y → opens marks.LeftBracket ts ≡ true → is_empty (unnamed y.0) ≡ false
unfolding suffixes_at
suffixes_full sub ts y e f =
    let a = bind_some (many_at (bracket_at sub) (length ts + 1) tt ts) (λ x. Some (suffixes_from x.0, x.1)) y e in
    subst (λ (z : Suffixes × List Token). is_empty (unnamed z.0) ≡ false) (some_is a.2)
    (full_run sub tt a.0.0 ts a.0.1 (many_run (bracket_at sub) (length ts + 1) tt ts a.0 a.1) f)

-- declarators
neither : (a b : Bool) → a ≡ false → b ≡ false → (a || b) ≡ false
neither true b e f = cc
neither false b e f = f

full_ends : (empty a b : Bool) → empty ≡ false → a ≡ false → (a || (empty && b)) ≡ false
full_ends true a b e f = cc
full_ends false a b e f = neither a false f refl

pub stands_empty : (bytes : List ℕ) (names : Scope) (n : ℕ) (with_name : Bool) (ts : List Token) → Begins declarator_starts.Nothing with_name ts → DeclaredStands bytes names n with_name (unnamed no_suffix) ts ts
stands_empty bytes names n with_name ts b = record {
  own = [];
  spelled = refl;
  front = refl;
  declarator_start = sym b.0;
  well = tt;
  ends = neither (opens marks.LeftBracket ts) (opens marks.LeftParenthesis ts) b.1 b.2;
  deep = omega arith;
}

deep_unnamed : (n : ℕ) (ss : Suffixes) → suffixes_depth ss ≤ n → declared_depth (unnamed ss) ≤ suc n
deep_unnamed n no_suffix h = omega arith
deep_unnamed n (bounded line e rest) h = omega arith
deep_unnamed n (unbounded line rest) h = omega arith

stands_unnamed : (bytes : List ℕ) (names : Scope) (n : ℕ) (with_name : Bool) (ss : Suffixes) (ts rest : List Token) → with_name ≡ false → is_empty (unnamed ss) ≡ false → SuffixesTaken bytes names n ss ts rest → DeclaredStands bytes names (suc n) with_name (unnamed ss) ts rest
stands_unnamed bytes names n with_name ss ts rest w full s = record {
  own = s.own;
  spelled = s.spelled;
  front = s.front;
  declarator_start = sym w;
  well = s.well;
  ends = full_ends (is_empty (unnamed ss)) (opens marks.LeftBracket rest) (opens marks.LeftParenthesis rest) full s.ends;
  deep = deep_unnamed n ss s.deep;
}

stands_named : (bytes : List ℕ) (names : Scope) (n : ℕ) (with_name : Bool) (t : Token) (ss : Suffixes) (ts rest : List Token) → with_name ≡ true → t.kind ≡ kinds.Identifier → SuffixesTaken bytes names n ss ts rest → DeclaredStands bytes names (suc n) with_name (named t.line (text_of bytes t) ss) (t ∷ ts) rest
stands_named bytes names n with_name t ss ts rest w is s = record {
  own = t ∷ s.own;
  spelled = record { token = t; rest = s.own; is = record { kind = is; line = refl; text = refl }; behind = s.spelled; whole = refl };
  front = ap (λ (us : List Token). t ∷ us) s.front;
  declarator_start = sym w;
  well = s.well;
  ends = full_ends false (opens marks.LeftBracket rest) (opens marks.LeftParenthesis rest) refl s.ends;
  deep = omega (arith, s.deep);
}

stands_inside : (bytes : List ℕ) (names : Scope) (n : ℕ) (with_name : Bool) (t : Token) (d : Declared) (ss : Suffixes) (ts others mid rest : List Token) → t.kind ≡ kinds.Mark marks.LeftParenthesis → DeclaredStands bytes names n with_name d ts others → 0 < declared_depth d → Heads marks.RightParenthesis others mid → SuffixesTaken bytes names n ss mid rest → DeclaredStands bytes names (suc n) with_name (inside t.line d ss) (t ∷ ts) rest
stands_inside bytes names n with_name t d ss ts others mid rest is i full h s = record {
  own = t ∷ (i.own ++ (h.token ∷ s.own));
  spelled = record {
    token = t;
    rest = i.own ++ (h.token ∷ s.own);
    is = record { kind = is; line = refl };
    behind = record { left = i.own; right = h.token ∷ s.own; first = i.spelled; second = record { token = h.token; rest = s.own; is = h.is; behind = s.spelled; whole = refl }; whole = refl };
    whole = refl;
  };
  front = ap (λ (us : List Token). t ∷ us) (seam ts i.own others rest (h.token ∷ s.own) i.front (h.whole ∙ ap (λ (us : List Token). h.token ∷ us) s.front));
  declarator_start = i.declarator_start;
  well = (full_declared d full, i.well, s.well);
  ends = full_ends false (opens marks.LeftBracket rest) (opens marks.LeftParenthesis rest) refl s.ends;
  deep = omega (arith, i.deep, s.deep);
}

pub guarded : {A : Type 0} (b : Bool) (o : Option A) (x : A) → cond b o None ≡ Some x → (b ≡ true) × (o ≡ Some x)
guarded true o x e = (refl, e)
guarded false o x e = absurd cc

inside_taken : (bytes : List ℕ) (names : Scope) (n : ℕ) (sub : Reader) (inner : DeclaredReader) → Reads bytes names n sub → ReadsDeclared bytes names n inner → (with_name : Bool) (t : Token) (ts : List Token) (y : Declared × List Token) → t.kind ≡ kinds.Mark marks.LeftParenthesis → inside_at sub inner with_name t.line ts ≡ Some y → DeclaredStands bytes names (suc n) with_name y.0 (t ∷ ts) y.1
unfolding inside_at
inside_taken bytes names n sub inner reads takes with_name t ts y is e =
    let a = bind_some (inner with_name ts) (λ d. behind marks.RightParenthesis d.1 >>= λ rest. cond (nat_lt 0 (declared_depth d.0)) (suffixes_at sub rest) None >>= λ s. Some (inside t.line d.0 s.0, s.1)) y e in
    let b = bind_some (behind marks.RightParenthesis a.0.1) (λ rest. cond (nat_lt 0 (declared_depth a.0.0)) (suffixes_at sub rest) None >>= λ s. Some (inside t.line a.0.0 s.0, s.1)) y a.2 in
    let c = bind_some (cond (nat_lt 0 (declared_depth a.0.0)) (suffixes_at sub b.0) None) (λ s. Some (inside t.line a.0.0 s.0, s.1)) y b.2 in
    let g = guarded (nat_lt 0 (declared_depth a.0.0)) (suffixes_at sub b.0) c.0 c.1 in
    subst (λ (z : Declared × List Token). DeclaredStands bytes names (suc n) with_name z.0 (t ∷ ts) z.1) (some_is c.2)
    (stands_inside bytes names n with_name t a.0.0 c.0.0 ts a.0.1 b.0 c.0.1 is (takes with_name ts a.0 a.1) (ltb-true 0 (declared_depth a.0.0) g.0) (close_takes a.0.1 b.0 b.1) (suffixes_taken bytes names n sub reads b.0 c.0 g.1))

pub declared_taken : (bytes : List ℕ) (names : Scope) (n : ℕ) (sub : Reader) (inner : DeclaredReader) → Reads bytes names n sub → ReadsDeclared bytes names n inner → (with_name : Bool) (h : DeclaratorStart) (ts : List Token) (y : Declared × List Token) → Begins h with_name ts → declared_from bytes sub inner with_name h ts ≡ Some y → DeclaredStands bytes names (suc n) with_name y.0 ts y.1
unfolding declared_from
declared_taken bytes names n sub inner reads takes with_name declarator_starts.Nothing ts y b e =
    subst (λ (z : Declared × List Token). DeclaredStands bytes names (suc n) with_name z.0 ts z.1) (some_is e) (stands_empty bytes names (suc n) with_name ts b)
declared_taken bytes names n sub inner reads takes with_name declarator_starts.Suffixes ts y b e =
    let a = bind_some (suffixes_at sub ts) (λ s. Some (unnamed s.0, s.1)) y e in
    subst (λ (z : Declared × List Token). DeclaredStands bytes names (suc n) with_name z.0 ts z.1) (some_is a.2)
    (stands_unnamed bytes names n with_name a.0.0 ts a.0.1 b.0 (suffixes_full sub ts a.0 a.1 b.1) (suffixes_taken bytes names n sub reads ts a.0 a.1))
declared_taken bytes names n sub inner reads takes with_name declarator_starts.Name [] y b e = absurd cc
declared_taken bytes names n sub inner reads takes with_name declarator_starts.Name (t ∷ ts) y b e =
    let a = bind_some (suffixes_at sub ts) (λ s. Some (named t.line (text_of bytes t) s.0, s.1)) y e in
    subst (λ (z : Declared × List Token). DeclaredStands bytes names (suc n) with_name z.0 (t ∷ ts) z.1) (some_is a.2)
    (stands_named bytes names n with_name t a.0.0 ts a.0.1 b.0 b.1 (suffixes_taken bytes names n sub reads ts a.0 a.1))
declared_taken bytes names n sub inner reads takes with_name declarator_starts.Inside [] y b e = absurd cc
declared_taken bytes names n sub inner reads takes with_name declarator_starts.Inside (t ∷ ts) y b e =
    inside_taken bytes names n sub inner reads takes with_name t ts y (open_is t.kind b) e

pub bare_taken : (bytes : List ℕ) (names : Scope) (with_name : Bool) (o : Option DeclaratorStart) (ts : List Token) (y : Declared × List Token) → declarator_start_at with_name ts ≡ o → bare o ts ≡ Some y → DeclaredStands bytes names 0 with_name y.0 ts y.1
bare_taken bytes names with_name None ts y is e = absurd cc
bare_taken bytes names with_name (Some declarator_starts.Nothing) ts y is e =
    subst (λ (z : Declared × List Token). DeclaredStands bytes names 0 with_name z.0 ts z.1) (some_is e) (stands_empty bytes names 0 with_name ts (declarator_start_begins with_name ts declarator_starts.Nothing is))
bare_taken bytes names with_name (Some declarator_starts.Suffixes) ts y is e = absurd cc
bare_taken bytes names with_name (Some declarator_starts.Name) ts y is e = absurd cc
bare_taken bytes names with_name (Some declarator_starts.Inside) ts y is e = absurd cc

-- a type name, and the parenthesis behind it
pub record TypeTaken (bytes : List ℕ) (names : Scope) (n : ℕ) (parts : List TypePart) (d : Declared) (ts rest : List Token) : Type 0 where
  pub left : List Token
  pub middle : List Token
  pub close : Token
  pub parts_spelled : SpellsTypeParts bytes parts left
  pub declared_spelled : SpellsDeclared bytes d middle
  pub is : close.kind ≡ kinds.Mark marks.RightParenthesis
  pub front : ts ≡ left ++ (middle ++ (close ∷ rest))
  pub specifiers : AreSpecifiers names parts
  pub declarator_start : has_name d ≡ false
  pub well : IsWellDeclared names d
  pub deep : declared_depth d ≤ n

pub type_taken : (bytes : List ℕ) (names : Scope) (n : ℕ) (declared : DeclaredReader) → ReadsDeclared bytes names n declared → (ts : List Token) (y : (List TypePart × Declared) × List Token) → begins_type bytes names ts ≡ true → type_name_at bytes names declared ts ≡ Some y → TypeTaken bytes names n y.0.0 y.0.1 ts y.1
unfolding type_name_at
type_taken bytes names n declared takes ts y begun e =
    let a = bind_some (type_parts_at bytes names ts) (λ p. declared false p.1 >>= λ d. behind marks.RightParenthesis d.1 >>= λ rest. Some ((p.0, d.0), rest)) y e in
    let b = bind_some (declared false a.0.1) (λ d. behind marks.RightParenthesis d.1 >>= λ rest. Some ((a.0.0, d.0), rest)) y a.2 in
    let c = bind_some (behind marks.RightParenthesis b.0.1) (λ rest. Some ((a.0.0, b.0.0), rest)) y b.2 in
    let run = many_run (type_part_at bytes names) (length ts + 1) false ts a.0 a.1 in
    let p = parts_taken bytes names false a.0.0 ts a.0.1 run in
    let d = takes false a.0.1 b.0 b.1 in
    let h = close_takes b.0.1 c.0 c.1 in
    subst (λ (z : (List TypePart × Declared) × List Token). TypeTaken bytes names n z.0.0 z.0.1 ts z.1) (some_is c.2) (record {
      left = p.own;
      middle = d.own;
      close = h.token;
      parts_spelled = p.spelled;
      declared_spelled = d.spelled;
      is = h.is;
      front = p.front ∙ ap (λ (us : List Token). p.own ++ us) (d.front ∙ ap (λ (us : List Token). d.own ++ us) h.whole);
      specifiers = specifiers_taken bytes names a.0.0 ts a.0.1 begun run p.well;
      declarator_start = d.declarator_start;
      well = d.well;
      deep = d.deep;
    })
