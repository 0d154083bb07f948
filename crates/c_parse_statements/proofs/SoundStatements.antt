-- What is read of statements stands there.
use Rattle.std.proofs.Common.{◌≡◌, ◌≤◌, ◌+◌, max, ℕ, zero, suc, List, [], ◌∷◌, ◌++◌, length, Bool, true, false, cond, Option, Some, None, refl, ap, subst, ◌∙◌, arith, inl, inr}
use Rattle.std.proofs.lemmas.List.{append_assoc}
use Rattle.c_token.specs.declared.token.Token.{Token}
use Rattle.c_token.specs.declared.token.Kind.{Kind}
use Rattle.c_token.specs.declared.token.Kind.TheVariants as kinds
use Rattle.c_token.specs.declared.token.Keyword.{Keyword}
use Rattle.c_token.specs.declared.token.Keyword.TheVariants as keywords
use Rattle.c_token.specs.declared.token.Mark.{Mark}
use Rattle.c_token.specs.declared.token.Mark.TheVariants as marks
use Rattle.c_token.specs.Spelling.{text_of}
use Rattle.c_tree.specs.Spelling.{Single, Behind, Then, IsMark, Spells, IsWell}
use Rattle.c_tree.specs.Tree.{Tree, depth}
use Rattle.c_tree.specs.Tables.{level_of}
use Rattle.c_tree.specs.Names.{Scope}
use Rattle.c_tree.specs.Declarations.{with_declaration, parts_depth, declarators_depth, value_depth}
use Rattle.c_tree.specs.Statements.{Statement, block, if_then, if_else, evaluate, return_value, empty, while_loop, do_loop, for_loop, for_declared, switch_on, case_of, default_of, labelled, goto_label, break_off, continue_on, Items, done, statement_depth, items_depth}
use Rattle.c_tree.specs.Files.{SpellsDeclaration, SpellsStatement, SpellsItems, SpellsMaybe, SpellsHeader, SpellsTest, IsWellMaybe, IsWellDeclaration, IsWellStatement, AreWellItems, is_open}
use Rattle.c_parse_expr.specs.inner.Many.{◌>>=◌}
use Rattle.c_parse_expr.specs.Reading.{is_mark}
use Rattle.c_parse_expr.specs.inner.Reading.{is_identifier, reader}
use Rattle.c_parse_statements.specs.declared.table.Begin.{Begin}
use Rattle.c_parse_statements.specs.declared.table.Begin.TheVariants as begins
use Rattle.c_parse_statements.specs.Tables.{begin_of_keyword}
use Rattle.c_parse_parts.specs.declared.table.Start.{Start}
use Rattle.c_parse_parts.specs.inner.Reading.{Read, is_keyword, token_at, ended_at, start_at, stands, declares_at, declaration_at}
use Rattle.c_parse_statements.specs.inner.Reading.{Reader, Piece, declaration, statement, begin_of, test_at, while_at, switch_at, do_at, maybe_by, maybe_at, header_at, declared_for_at, plain_for_at, for_by, for_at, case_at, default_at, label_at, goto_at, placed, with_piece, item_by, item_at, items_list, items_at, block_at, branched, branched_at, tested_at, closed_at, valued_at, bare, returned_at, evaluated_at, begun, started_at, statement_at}
use Rattle.c_parse_parts.proofs.Lists.{some_is, bind_some, either_of, run_takes}
use Rattle.c_parse_parts.proofs.Words.{mark_by, mark_takes, keyword_takes, identifier_takes}
use Rattle.c_parse_expr.proofs.Sound.{reads}
use Rattle.c_parse_parts.proofs.Runs.{Run, seam, in_front_of, ended_takes}
use Rattle.c_parse_parts.proofs.SoundDeclarations.{declaration_takes}

pub record Stated (bytes : List ℕ) (names : Scope) (n : ℕ) (s : Statement) (tokens rest : List Token) : Type 0 where
  pub run : Run (SpellsStatement bytes s) (IsWellStatement names s) (statement_depth s) n tokens rest
  pub ends : is_open s ≡ true → token_at (is_keyword keywords.Else) rest ≡ None

abbrev pub Takes : List ℕ → ℕ → Reader → Type 0
Takes bytes n sub = (names : Scope) (ts : List Token) (x : Statement × List Token) → sub names ts ≡ Some x → Stated bytes names n x.0 ts x.1

-- items
abbrev pub SpellsPiece : List ℕ → Piece → List Token → Type 0
SpellsPiece bytes (declaration parts ds) = SpellsDeclaration bytes parts ds
SpellsPiece bytes (statement s) = SpellsStatement bytes s

abbrev pub IsWellPiece : Scope → Piece → Type 0
IsWellPiece names (declaration parts ds) = IsWellDeclaration names parts ds
IsWellPiece names (statement s) = IsWellStatement names s

abbrev pub piece_depth : Piece → ℕ
piece_depth (declaration parts ds) = max (parts_depth parts) (declarators_depth ds)
piece_depth (statement s) = statement_depth s

abbrev pub PieceRun : List ℕ → ℕ → Scope → Piece → List Token → List Token → Type 0
PieceRun bytes n names p = Run (SpellsPiece bytes p) (IsWellPiece names p) (piece_depth p) n

abbrev pub ItemsRun : List ℕ → ℕ → Scope → Items → List Token → List Token → Type 0
ItemsRun bytes n names is = Run (SpellsItems bytes is) (AreWellItems names is) (items_depth is) n

items_stop : (bytes : List ℕ) (n : ℕ) (names : Scope) (ts : List Token) (x : Items × List Token) → ended_at marks.RightBrace done ts ≡ Some x → ItemsRun bytes n names x.0 ts x.1
items_stop bytes n names ts x e =
    let h = ended_takes marks.RightBrace done ts x e in
    subst (λ (is : Items). ItemsRun bytes n names is ts x.1) h.same
    (record { own = h.token ∷ []; spelled = record { token = h.token; is = h.is; whole = refl }; front = h.whole; well = tt; deep = omega arith })

items_join : (bytes : List ℕ) (n : ℕ) (names : Scope) (p : Piece) (is : Items) (ts mid rest : List Token) → PieceRun bytes n names p ts mid → ItemsRun bytes n (with_piece names p) is mid rest → ItemsRun bytes n names (placed p is) ts rest
items_join bytes n names (declaration parts ds) is ts mid rest a b = record {
  own = a.own ++ b.own;
  spelled = record { left = a.own; right = b.own; first = a.spelled; second = b.spelled; whole = refl };
  front = seam ts a.own mid rest b.own a.front b.front;
  well = (a.well, b.well);
  deep = omega (arith, a.deep, b.deep);
}
items_join bytes n names (statement s) is ts mid rest a b = record {
  own = a.own ++ b.own;
  spelled = record { left = a.own; right = b.own; first = a.spelled; second = b.spelled; whole = refl };
  front = seam ts a.own mid rest b.own a.front b.front;
  well = (a.well, b.well);
  deep = omega (arith, a.deep, b.deep);
}

item_either : (bytes : List ℕ) (n : ℕ) (sub : Reader) → Takes bytes n sub → (names : Scope) (ts : List Token) (o : Option (Start × Token × List Token)) (x : Piece × List Token) → item_by bytes n sub names ts o ≡ Some x → PieceRun bytes n names x.0 ts x.1
item_either bytes n sub takes names ts None x e =
    let a = bind_some (sub names ts) (λ s. Some (statement s.0, s.1)) x e in
    let s = takes names ts a.0 a.1 in
    subst (λ (y : Piece × List Token). PieceRun bytes n names y.0 ts y.1) (some_is a.2)
    (record { own = s.run.own; spelled = s.run.spelled; front = s.run.front; well = s.run.well; deep = s.run.deep })
item_either bytes n sub takes names ts (Some y) x e =
    let a = bind_some (declaration_at bytes names n ts) (λ d. Some (declaration d.0.0 d.0.1, d.1)) x e in
    let d = declaration_takes bytes names n ts a.0 a.1 in
    subst (λ (y : Piece × List Token). PieceRun bytes n names y.0 ts y.1) (some_is a.2)
    (record { own = d.own; spelled = d.spelled; front = d.front; well = d.well; deep = d.deep })

item_takes : (bytes : List ℕ) (n : ℕ) (sub : Reader) → Takes bytes n sub → (names : Scope) (ts : List Token) (x : Piece × List Token) → item_at bytes n sub names ts ≡ Some x → PieceRun bytes n names x.0 ts x.1
unfolding item_at
item_takes bytes n sub takes names ts x e = item_either bytes n sub takes names ts (declares_at bytes names ts) x e

pub items_take : (bytes : List ℕ) (n : ℕ) (sub : Reader) → Takes bytes n sub → (names : Scope) (ts : List Token) (x : Items × List Token) → items_at bytes n sub names ts ≡ Some x → ItemsRun bytes n names x.0 ts x.1
unfolding items_at
items_take bytes n sub takes names ts x e =
    run_takes (items_list bytes n sub) (PieceRun bytes n) (ItemsRun bytes n) (items_stop bytes n) (item_takes bytes n sub takes) (items_join bytes n) (length ts + 1) names ts x e

pub block_takes : (bytes : List ℕ) (names : Scope) (n : ℕ) (sub : Reader) → Takes bytes n sub → (t : Token) (all ts : List Token) (x : Statement × List Token) → t.kind ≡ kinds.Mark marks.LeftBrace → all ≡ t ∷ ts → block_at bytes n sub names t.line ts ≡ Some x → Stated bytes names (suc n) x.0 all x.1
unfolding block_at
block_takes bytes names n sub takes t all ts x is whole e =
    let a = bind_some (items_at bytes n sub names ts) (λ is. Some (block t.line is.0, is.1)) x e in
    let r = items_take bytes n sub takes names ts a.0 a.1 in
    subst (λ (y : Statement × List Token). Stated bytes names (suc n) y.0 all y.1) (some_is a.2)
    (record {
      run = record {
        own = t ∷ r.own;
        spelled = record { token = t; rest = r.own; is = record { kind = is; line = refl }; behind = r.spelled; whole = refl };
        front = in_front_of t all ts r.own a.0.1 whole r.front;
        well = r.well;
        deep = omega (arith, r.deep);
      };
      ends = λ e. cc;
    })

-- an expression and its `;`
abbrev ClosedRun : List ℕ → Scope → ℕ → Tree → List Token → List Token → Type 0
ClosedRun bytes names n e = Run (Then (Spells bytes e) (Single (IsMark marks.Semicolon))) ((1 ≤ level_of e) × IsWell names e) (depth e) n

closed_takes : (bytes : List ℕ) (names : Scope) (n : ℕ) (ts : List Token) (x : Tree × List Token) → closed_at bytes names n ts ≡ Some x → ClosedRun bytes names n x.0 ts x.1
unfolding closed_at
closed_takes bytes names n ts x e =
    let a = bind_some (reader bytes names n 1 ts) (λ e. token_at (is_mark marks.Semicolon) e.1 >>= λ x. Some (e.0, x.1)) x e in
    let b = bind_some (token_at (is_mark marks.Semicolon) a.0.1) (λ x. Some (a.0.0, x.1)) x a.2 in
    let s = reads bytes names n 1 ts a.0 (omega arith) a.1 in
    let h = mark_takes marks.Semicolon a.0.1 b.0 b.1 in
    subst (λ (y : Tree × List Token). ClosedRun bytes names n y.0 ts y.1) (some_is b.2)
    (record {
      own = s.own ++ b.0.0 ∷ [];
      spelled = record { left = s.own; right = b.0.0 ∷ []; first = s.spelled; second = record { token = b.0.0; is = h.is; whole = refl }; whole = refl };
      front = seam ts s.own a.0.1 b.0.1 (b.0.0 ∷ []) s.front h.whole;
      well = (s.level, s.well);
      deep = s.deep;
    })

evaluated_takes : (bytes : List ℕ) (names : Scope) (n : ℕ) (ts : List Token) (x : Statement × List Token) → evaluated_at bytes names n ts ≡ Some x → Stated bytes names (suc n) x.0 ts x.1
unfolding evaluated_at
evaluated_takes bytes names n ts x e =
    let a = bind_some (closed_at bytes names n ts) (λ e. Some (evaluate e.0, e.1)) x e in
    let r = closed_takes bytes names n ts a.0 a.1 in
    subst (λ (y : Statement × List Token). Stated bytes names (suc n) y.0 ts y.1) (some_is a.2)
    (record {
      run = record { own = r.own; spelled = r.spelled; front = r.front; well = r.well; deep = omega (arith, r.deep) };
      ends = λ e. cc;
    })

valued_takes : (bytes : List ℕ) (names : Scope) (n : ℕ) (t : Token) (all ts : List Token) (x : Statement × List Token) → t.kind ≡ kinds.Keyword keywords.Return → all ≡ t ∷ ts → valued_at bytes names n t.line ts ≡ Some x → Stated bytes names (suc n) x.0 all x.1
unfolding valued_at
valued_takes bytes names n t all ts x is whole e =
    let a = bind_some (closed_at bytes names n ts) (λ e. Some (return_value t.line e.0, e.1)) x e in
    let r = closed_takes bytes names n ts a.0 a.1 in
    subst (λ (y : Statement × List Token). Stated bytes names (suc n) y.0 all y.1) (some_is a.2)
    (record {
      run = record {
        own = t ∷ r.own;
        spelled = record { token = t; rest = r.own; is = record { kind = is; line = refl }; behind = r.spelled; whole = refl };
        front = in_front_of t all ts r.own a.0.1 whole r.front;
        well = r.well;
        deep = omega (arith, r.deep);
      };
      ends = λ e. cc;
    })

bare_takes : (bytes : List ℕ) (names : Scope) (n : ℕ) (t : Token) (all ts : List Token) (o : Read Token) (x : Statement × List Token) → t.kind ≡ kinds.Keyword keywords.Return → all ≡ t ∷ ts → token_at (is_mark marks.Semicolon) ts ≡ o → bare t.line o ≡ Some x → Stated bytes names (suc n) x.0 all x.1
bare_takes bytes names n t all ts None x is whole f e = absurd cc
bare_takes bytes names n t all ts (Some y) x is whole f e =
    let h = mark_takes marks.Semicolon ts y f in
    subst (λ (y : Statement × List Token). Stated bytes names (suc n) y.0 all y.1) (some_is e)
    (record {
      run = record {
        own = t ∷ (y.0 ∷ []);
        spelled = record { token = t; rest = y.0 ∷ []; is = record { kind = is; line = refl }; behind = record { token = y.0; is = h.is; whole = refl }; whole = refl };
        front = in_front_of t all ts (y.0 ∷ []) y.1 whole h.whole;
        well = tt;
        deep = omega arith;
      };
      ends = λ e. cc;
    })

returned_takes : (bytes : List ℕ) (names : Scope) (n : ℕ) (t : Token) (all ts : List Token) (x : Statement × List Token) → t.kind ≡ kinds.Keyword keywords.Return → all ≡ t ∷ ts → returned_at bytes names n t.line ts ≡ Some x → Stated bytes names (suc n) x.0 all x.1
unfolding returned_at
returned_takes bytes names n t all ts x is whole e =
    elim (either_of (bare t.line (token_at (is_mark marks.Semicolon) ts)) (valued_at bytes names n t.line ts) x e) [
      | inl f ↦ bare_takes bytes names n t all ts (token_at (is_mark marks.Semicolon) ts) x is whole refl f
      | inr f ↦ valued_takes bytes names n t all ts x is whole f
    ]

-- the test of an `if` with its parentheses, and the first branch
pub record Tested (bytes : List ℕ) (names : Scope) (n : ℕ) (e : Tree) (s : Statement) (tokens rest : List Token) : Type 0 where
  pub opens : Token
  pub test : List Token
  pub shuts : Token
  pub own : List Token
  pub left_mark : opens.kind ≡ kinds.Mark marks.LeftParenthesis
  pub right_mark : shuts.kind ≡ kinds.Mark marks.RightParenthesis
  pub spelled : Spells bytes e test
  pub branch : SpellsStatement bytes s own
  pub front : tokens ≡ (opens ∷ (test ++ (shuts ∷ own))) ++ rest
  pub level : 1 ≤ level_of e
  pub well : IsWell names e
  pub well_branch : IsWellStatement names s
  pub deep : depth e ≤ n
  pub deep_branch : statement_depth s ≤ n
  pub ends : is_open s ≡ true → token_at (is_keyword keywords.Else) rest ≡ None

if_then_stated : (bytes : List ℕ) (names : Scope) (n : ℕ) (t : Token) (all ts rest : List Token) (e : Tree) (s : Statement) → t.kind ≡ kinds.Keyword keywords.If → all ≡ t ∷ ts → Tested bytes names n e s ts rest → token_at (is_keyword keywords.Else) rest ≡ None → Stated bytes names (suc n) (if_then t.line e s) all rest
if_then_stated bytes names n t all ts rest e s is whole a no_else = record {
  run = record {
    own = t ∷ (a.opens ∷ (a.test ++ (a.shuts ∷ a.own)));
    spelled = record {
      token = t;
      rest = a.opens ∷ (a.test ++ (a.shuts ∷ a.own));
      is = record { kind = is; line = refl };
      behind = record {
        token = a.opens;
        rest = a.test ++ (a.shuts ∷ a.own);
        is = a.left_mark;
        behind = record {
          left = a.test;
          right = a.shuts ∷ a.own;
          first = a.spelled;
          second = record { token = a.shuts; rest = a.own; is = a.right_mark; behind = a.branch; whole = refl };
          whole = refl;
        };
        whole = refl;
      };
      whole = refl;
    };
    front = in_front_of t all ts (a.opens ∷ (a.test ++ (a.shuts ∷ a.own))) rest whole a.front;
    well = (a.level, a.well, a.well_branch);
    deep = omega (arith, a.deep, a.deep_branch);
  };
  ends = λ _. no_else;
}

-- a statement before an `else` is not paren
closed_by : {A : Type 0} (b : Bool) (o : Option A) (y : A) → (b ≡ true → o ≡ None) → o ≡ Some y → b ≡ false
closed_by true o y f e = let g = f refl in absurd cc
closed_by false o y f e = refl

if_else_stated : (bytes : List ℕ) (names : Scope) (n : ℕ) (t els : Token) (all ts mid last rest : List Token) (e : Tree) (s u : Statement) → t.kind ≡ kinds.Keyword keywords.If → all ≡ t ∷ ts → Tested bytes names n e s ts mid → is_open s ≡ false → els.kind ≡ kinds.Keyword keywords.Else → mid ≡ els ∷ last → Stated bytes names n u last rest → Stated bytes names (suc n) (if_else t.line e s u) all rest
if_else_stated bytes names n t els all ts mid last rest e s u is whole a shut else_is else_whole b =
    let back = els ∷ b.run.own in
    let own = a.opens ∷ (a.test ++ (a.shuts ∷ (a.own ++ back))) in
    let front : ts ≡ own ++ rest =
    seam ts (a.opens ∷ (a.test ++ (a.shuts ∷ a.own))) mid rest back a.front (else_whole ∙ ap (λ (xs : List Token). els ∷ xs) b.run.front)
    ∙ ap (λ (xs : List Token). (a.opens ∷ xs) ++ rest) (append_assoc a.test (a.shuts ∷ a.own) back) in
    record {
      run = record {
        own = t ∷ own;
        spelled = record {
          token = t;
          rest = own;
          is = record { kind = is; line = refl };
          behind = record {
            token = a.opens;
            rest = a.test ++ (a.shuts ∷ (a.own ++ back));
            is = a.left_mark;
            behind = record {
              left = a.test;
              right = a.shuts ∷ (a.own ++ back);
              first = a.spelled;
              second = record {
                token = a.shuts;
                rest = a.own ++ back;
                is = a.right_mark;
                behind = record {
                  left = a.own;
                  right = back;
                  first = a.branch;
                  second = record { token = els; rest = b.run.own; is = else_is; behind = b.run.spelled; whole = refl };
                  whole = refl;
                };
                whole = refl;
              };
              whole = refl;
            };
            whole = refl;
          };
          whole = refl;
        };
        front = in_front_of t all ts own rest whole front;
        well = (a.level, a.well, shut, a.well_branch, b.run.well);
        deep = omega (arith, a.deep, a.deep_branch, b.run.deep);
      };
      ends = b.ends;
    }

branched_takes : (bytes : List ℕ) (names : Scope) (n : ℕ) (sub : Reader) → Takes bytes n sub → (t : Token) (all ts mid : List Token) (e : Tree) (s : Statement) (o : Read Token) (x : Statement × List Token) → t.kind ≡ kinds.Keyword keywords.If → all ≡ t ∷ ts → Tested bytes names n e s ts mid → token_at (is_keyword keywords.Else) mid ≡ o → branched sub names t.line e s mid o ≡ Some x → Stated bytes names (suc n) x.0 all x.1
branched_takes bytes names n sub takes t all ts mid e s None x is whole a f g =
    subst (λ (y : Statement × List Token). Stated bytes names (suc n) y.0 all y.1) (some_is g) (if_then_stated bytes names n t all ts mid e s is whole a f)
branched_takes bytes names n sub takes t all ts mid e s (Some y) x is whole a f g =
    let b = bind_some (sub names y.1) (λ u. Some (if_else t.line e s u.0, u.1)) x g in
    let h = keyword_takes keywords.Else mid y f in
    subst (λ (y : Statement × List Token). Stated bytes names (suc n) y.0 all y.1) (some_is b.2)
    (if_else_stated bytes names n t y.0 all ts mid y.1 b.0.1 e s b.0.0 is whole a (closed_by (is_open s) (token_at (is_keyword keywords.Else) mid) y a.ends f) h.is h.whole (takes names y.1 b.0 b.1))

tested_takes : (bytes : List ℕ) (names : Scope) (n : ℕ) (sub : Reader) → Takes bytes n sub → (t : Token) (all ts : List Token) (x : Statement × List Token) → t.kind ≡ kinds.Keyword keywords.If → all ≡ t ∷ ts → tested_at bytes n sub names t.line ts ≡ Some x → Stated bytes names (suc n) x.0 all x.1
unfolding tested_at branched_at
tested_takes bytes names n sub takes t all ts x is whole e =
    let a = bind_some (token_at (is_mark marks.LeftParenthesis) ts) (λ a. reader bytes names n 1 a.1 >>= λ b. token_at (is_mark marks.RightParenthesis) b.1 >>= λ d. sub names d.1 >>= λ s. branched sub names t.line b.0 s.0 s.1 (token_at (is_keyword keywords.Else) s.1)) x e in
    let b = bind_some (reader bytes names n 1 a.0.1) (λ b. token_at (is_mark marks.RightParenthesis) b.1 >>= λ d. sub names d.1 >>= λ s. branched sub names t.line b.0 s.0 s.1 (token_at (is_keyword keywords.Else) s.1)) x a.2 in
    let d = bind_some (token_at (is_mark marks.RightParenthesis) b.0.1) (λ d. sub names d.1 >>= λ s. branched sub names t.line b.0.0 s.0 s.1 (token_at (is_keyword keywords.Else) s.1)) x b.2 in
    let s = bind_some (sub names d.0.1) (λ s. branched sub names t.line b.0.0 s.0 s.1 (token_at (is_keyword keywords.Else) s.1)) x d.2 in
    let h = mark_takes marks.LeftParenthesis ts a.0 a.1 in
    let r = reads bytes names n 1 a.0.1 b.0 (omega arith) b.1 in
    let i = mark_takes marks.RightParenthesis b.0.1 d.0 d.1 in
    let u = takes names d.0.1 s.0 s.1 in
    branched_takes bytes names n sub takes t all ts s.0.1 b.0.0 s.0.0 (token_at (is_keyword keywords.Else) s.0.1) x is whole
    (record {
      opens = a.0.0;
      test = r.own;
      shuts = d.0.0;
      own = u.run.own;
      left_mark = h.is;
      right_mark = i.is;
      spelled = r.spelled;
      branch = u.run.spelled;
      front = h.whole ∙ ap (λ (xs : List Token). a.0.0 ∷ xs) (seam a.0.1 r.own b.0.1 s.0.1 (d.0.0 ∷ u.run.own) r.front (i.whole ∙ ap (λ (xs : List Token). d.0.0 ∷ xs) u.run.front));
      level = r.level;
      well = r.well;
      well_branch = u.run.well;
      deep = r.deep;
      deep_branch = u.run.deep;
      ends = u.ends;
    }) refl s.2

-- an expression in parentheses, in front of what follows it
record TestTaken (bytes : List ℕ) (names : Scope) (n : ℕ) (e : Tree) (tokens rest : List Token) : Type 1 where
  pub own : List Token
  pub spelled : (P : List Token → Type 0) (back : List Token) → P back → SpellsTest bytes e P (own ++ back)
  pub front : tokens ≡ own ++ rest
  pub level : 1 ≤ level_of e
  pub well : IsWell names e
  pub deep : depth e ≤ n

test_takes : (bytes : List ℕ) (names : Scope) (n : ℕ) (ts : List Token) (x : Tree × List Token) → test_at bytes names n ts ≡ Some x → TestTaken bytes names n x.0 ts x.1
unfolding test_at
test_takes bytes names n ts x e =
    let a = bind_some (token_at (is_mark marks.LeftParenthesis) ts) (λ x. reader bytes names n 1 x.1 >>= λ e. token_at (is_mark marks.RightParenthesis) e.1 >>= λ y. Some (e.0, y.1)) x e in
    let b = bind_some (reader bytes names n 1 a.0.1) (λ e. token_at (is_mark marks.RightParenthesis) e.1 >>= λ y. Some (e.0, y.1)) x a.2 in
    let d = bind_some (token_at (is_mark marks.RightParenthesis) b.0.1) (λ y. Some (b.0.0, y.1)) x b.2 in
    let h = mark_takes marks.LeftParenthesis ts a.0 a.1 in
    let r = reads bytes names n 1 a.0.1 b.0 (omega arith) b.1 in
    let i = mark_takes marks.RightParenthesis b.0.1 d.0 d.1 in
    let own = r.own ++ (d.0.0 ∷ []) in
    subst (λ (y : Tree × List Token). TestTaken bytes names n y.0 ts y.1) (some_is d.2)
    (record {
      own = a.0.0 ∷ own;
      spelled = λ P back p. record {
        token = a.0.0;
        rest = own ++ back;
        is = h.is;
        behind = record {
          left = r.own;
          right = d.0.0 ∷ back;
          first = r.spelled;
          second = record { token = d.0.0; rest = back; is = i.is; behind = p; whole = refl };
          whole = append_assoc r.own (d.0.0 ∷ []) back;
        };
        whole = refl;
      };
      front = in_front_of a.0.0 ts a.0.1 own d.0.1 h.whole (seam a.0.1 r.own b.0.1 d.0.1 (d.0.0 ∷ []) r.front i.whole);
      level = r.level;
      well = r.well;
      deep = r.deep;
    })

while_takes : (bytes : List ℕ) (names : Scope) (n : ℕ) (sub : Reader) → Takes bytes n sub → (t : Token) (all ts : List Token) (x : Statement × List Token) → t.kind ≡ kinds.Keyword keywords.While → all ≡ t ∷ ts → while_at bytes n sub names t.line ts ≡ Some x → Stated bytes names (suc n) x.0 all x.1
unfolding while_at
while_takes bytes names n sub takes t all ts x is whole e =
    let a = bind_some (test_at bytes names n ts) (λ e. sub names e.1 >>= λ s. Some (while_loop t.line e.0 s.0, s.1)) x e in
    let b = bind_some (sub names a.0.1) (λ s. Some (while_loop t.line a.0.0 s.0, s.1)) x a.2 in
    let g = test_takes bytes names n ts a.0 a.1 in
    let s = takes names a.0.1 b.0 b.1 in
    let own = g.own ++ s.run.own in
    subst (λ (y : Statement × List Token). Stated bytes names (suc n) y.0 all y.1) (some_is b.2)
    (record {
      run = record {
        own = t ∷ own;
        spelled = record { token = t; rest = own; is = record { kind = is; line = refl }; behind = g.spelled (SpellsStatement bytes b.0.0) s.run.own s.run.spelled; whole = refl };
        front = in_front_of t all ts own b.0.1 whole (seam ts g.own a.0.1 b.0.1 s.run.own g.front s.run.front);
        well = (g.level, g.well, s.run.well);
        deep = omega (arith, g.deep, s.run.deep);
      };
      ends = s.ends;
    })

switch_takes : (bytes : List ℕ) (names : Scope) (n : ℕ) (sub : Reader) → Takes bytes n sub → (t : Token) (all ts : List Token) (x : Statement × List Token) → t.kind ≡ kinds.Keyword keywords.Switch → all ≡ t ∷ ts → switch_at bytes n sub names t.line ts ≡ Some x → Stated bytes names (suc n) x.0 all x.1
unfolding switch_at
switch_takes bytes names n sub takes t all ts x is whole e =
    let a = bind_some (test_at bytes names n ts) (λ e. sub names e.1 >>= λ s. Some (switch_on t.line e.0 s.0, s.1)) x e in
    let b = bind_some (sub names a.0.1) (λ s. Some (switch_on t.line a.0.0 s.0, s.1)) x a.2 in
    let g = test_takes bytes names n ts a.0 a.1 in
    let s = takes names a.0.1 b.0 b.1 in
    let own = g.own ++ s.run.own in
    subst (λ (y : Statement × List Token). Stated bytes names (suc n) y.0 all y.1) (some_is b.2)
    (record {
      run = record {
        own = t ∷ own;
        spelled = record { token = t; rest = own; is = record { kind = is; line = refl }; behind = g.spelled (SpellsStatement bytes b.0.0) s.run.own s.run.spelled; whole = refl };
        front = in_front_of t all ts own b.0.1 whole (seam ts g.own a.0.1 b.0.1 s.run.own g.front s.run.front);
        well = (g.level, g.well, s.run.well);
        deep = omega (arith, g.deep, s.run.deep);
      };
      ends = s.ends;
    })

do_takes : (bytes : List ℕ) (names : Scope) (n : ℕ) (sub : Reader) → Takes bytes n sub → (t : Token) (all ts : List Token) (x : Statement × List Token) → t.kind ≡ kinds.Keyword keywords.Do → all ≡ t ∷ ts → do_at bytes n sub names t.line ts ≡ Some x → Stated bytes names (suc n) x.0 all x.1
unfolding do_at
do_takes bytes names n sub takes t all ts x is whole e =
    let a = bind_some (sub names ts) (λ s. token_at (is_keyword keywords.While) s.1 >>= λ x. test_at bytes names n x.1 >>= λ e. token_at (is_mark marks.Semicolon) e.1 >>= λ y. Some (do_loop t.line s.0 e.0, y.1)) x e in
    let b = bind_some (token_at (is_keyword keywords.While) a.0.1) (λ x. test_at bytes names n x.1 >>= λ e. token_at (is_mark marks.Semicolon) e.1 >>= λ y. Some (do_loop t.line a.0.0 e.0, y.1)) x a.2 in
    let c = bind_some (test_at bytes names n b.0.1) (λ e. token_at (is_mark marks.Semicolon) e.1 >>= λ y. Some (do_loop t.line a.0.0 e.0, y.1)) x b.2 in
    let d = bind_some (token_at (is_mark marks.Semicolon) c.0.1) (λ y. Some (do_loop t.line a.0.0 c.0.0, y.1)) x c.2 in
    let s = takes names ts a.0 a.1 in
    let h = keyword_takes keywords.While a.0.1 b.0 b.1 in
    let g = test_takes bytes names n b.0.1 c.0 c.1 in
    let i = mark_takes marks.Semicolon c.0.1 d.0 d.1 in
    let last = g.own ++ (d.0.0 ∷ []) in
    let own = s.run.own ++ (b.0.0 ∷ last) in
    subst (λ (y : Statement × List Token). Stated bytes names (suc n) y.0 all y.1) (some_is d.2)
    (record {
      run = record {
        own = t ∷ own;
        spelled = record {
          token = t;
          rest = own;
          is = record { kind = is; line = refl };
          behind = record {
            left = s.run.own;
            right = b.0.0 ∷ last;
            first = s.run.spelled;
            second = record {
              token = b.0.0;
              rest = last;
              is = h.is;
              behind = g.spelled (Single (IsMark marks.Semicolon)) (d.0.0 ∷ []) (record { token = d.0.0; is = i.is; whole = refl });
              whole = refl;
            };
            whole = refl;
          };
          whole = refl;
        };
        front = in_front_of t all ts own d.0.1 whole (seam ts s.run.own a.0.1 d.0.1 (b.0.0 ∷ last) s.run.front (in_front_of b.0.0 a.0.1 b.0.1 last d.0.1 h.whole (seam b.0.1 g.own c.0.1 d.0.1 (d.0.0 ∷ []) g.front i.whole)));
        well = (s.run.well, g.level, g.well);
        deep = omega (arith, s.run.deep, g.deep);
      };
      ends = λ e. absurd cc;
    })

-- an expression or none with the mark behind it, in front of what follows
record MaybeTaken (bytes : List ℕ) (names : Scope) (n : ℕ) (mark : Mark) (o : Option Tree) (tokens rest : List Token) : Type 1 where
  pub own : List Token
  pub spelled : (P : List Token → Type 0) (back : List Token) → P back → Then (SpellsMaybe bytes o) (Behind (IsMark mark) P) (own ++ back)
  pub front : tokens ≡ own ++ rest
  pub well : IsWellMaybe names o
  pub deep : value_depth o ≤ n

maybe_either : (bytes : List ℕ) (names : Scope) (n : ℕ) (mark : Mark) (ts : List Token) (o : Read Token) (x : Option Tree × List Token) → token_at (is_mark mark) ts ≡ o → maybe_by bytes names n mark ts o ≡ Some x → MaybeTaken bytes names n mark x.0 ts x.1
maybe_either bytes names n mark ts None x f e =
    let a = bind_some (reader bytes names n 1 ts) (λ e. token_at (is_mark mark) e.1 >>= λ x. Some (Some e.0, x.1)) x e in
    let b = bind_some (token_at (is_mark mark) a.0.1) (λ x. Some (Some a.0.0, x.1)) x a.2 in
    let r = reads bytes names n 1 ts a.0 (omega arith) a.1 in
    let h = mark_takes mark a.0.1 b.0 b.1 in
    subst (λ (y : Option Tree × List Token). MaybeTaken bytes names n mark y.0 ts y.1) (some_is b.2)
    (record {
      own = r.own ++ (b.0.0 ∷ []);
      spelled = λ P back p. record {
        left = r.own;
        right = b.0.0 ∷ back;
        first = r.spelled;
        second = record { token = b.0.0; rest = back; is = h.is; behind = p; whole = refl };
        whole = append_assoc r.own (b.0.0 ∷ []) back;
      };
      front = seam ts r.own a.0.1 b.0.1 (b.0.0 ∷ []) r.front h.whole;
      well = (r.level, r.well);
      deep = r.deep;
    })
maybe_either bytes names n mark ts (Some y) x f e =
    let h = mark_takes mark ts y f in
    subst (λ (y : Option Tree × List Token). MaybeTaken bytes names n mark y.0 ts y.1) (some_is e)
    (record {
      own = y.0 ∷ [];
      spelled = λ P back p. record { left = []; right = y.0 ∷ back; first = refl; second = record { token = y.0; rest = back; is = h.is; behind = p; whole = refl }; whole = refl };
      front = h.whole;
      well = tt;
      deep = omega arith;
    })

maybe_takes : (bytes : List ℕ) (names : Scope) (n : ℕ) (mark : Mark) (ts : List Token) (x : Option Tree × List Token) → maybe_at bytes names n mark ts ≡ Some x → MaybeTaken bytes names n mark x.0 ts x.1
unfolding maybe_at
maybe_takes bytes names n mark ts x e = maybe_either bytes names n mark ts (token_at (is_mark mark) ts) x refl e

-- a `for` behind its first part
record HeaderTaken (bytes : List ℕ) (names : Scope) (n : ℕ) (b c : Option Tree) (s : Statement) (tokens rest : List Token) : Type 0 where
  pub own : List Token
  pub spelled : SpellsHeader bytes b c (SpellsStatement bytes s) own
  pub front : tokens ≡ own ++ rest
  pub well_test : IsWellMaybe names b
  pub well_last : IsWellMaybe names c
  pub well : IsWellStatement names s
  pub deep_test : value_depth b ≤ n
  pub deep_last : value_depth c ≤ n
  pub deep : statement_depth s ≤ n
  pub ends : is_open s ≡ true → token_at (is_keyword keywords.Else) rest ≡ None

header_takes : (bytes : List ℕ) (names : Scope) (n : ℕ) (sub : Reader) → Takes bytes n sub → (ts : List Token) (x : ((Option Tree × Option Tree) × Statement) × List Token) → header_at bytes n sub names ts ≡ Some x → HeaderTaken bytes names n x.0.0.0 x.0.0.1 x.0.1 ts x.1
unfolding header_at
header_takes bytes names n sub takes ts x e =
    let a = bind_some (maybe_at bytes names n marks.Semicolon ts) (λ b. maybe_at bytes names n marks.RightParenthesis b.1 >>= λ c. sub names c.1 >>= λ s. Some (((b.0, c.0), s.0), s.1)) x e in
    let b = bind_some (maybe_at bytes names n marks.RightParenthesis a.0.1) (λ c. sub names c.1 >>= λ s. Some (((a.0.0, c.0), s.0), s.1)) x a.2 in
    let c = bind_some (sub names b.0.1) (λ s. Some (((a.0.0, b.0.0), s.0), s.1)) x b.2 in
    let g = maybe_takes bytes names n marks.Semicolon ts a.0 a.1 in
    let h = maybe_takes bytes names n marks.RightParenthesis a.0.1 b.0 b.1 in
    let s = takes names b.0.1 c.0 c.1 in
    let P = SpellsStatement bytes c.0.0 in
    subst (λ (y : ((Option Tree × Option Tree) × Statement) × List Token). HeaderTaken bytes names n y.0.0.0 y.0.0.1 y.0.1 ts y.1) (some_is c.2)
    (record {
      own = g.own ++ (h.own ++ s.run.own);
      spelled = g.spelled (Then (SpellsMaybe bytes b.0.0) (Behind (IsMark marks.RightParenthesis) P)) (h.own ++ s.run.own) (h.spelled P s.run.own s.run.spelled);
      front = seam ts g.own a.0.1 c.0.1 (h.own ++ s.run.own) g.front (seam a.0.1 h.own b.0.1 c.0.1 s.run.own h.front s.run.front);
      well_test = g.well;
      well_last = h.well;
      well = s.run.well;
      deep_test = g.deep;
      deep_last = h.deep;
      deep = s.run.deep;
      ends = s.ends;
    })

plain_for_takes : (bytes : List ℕ) (names : Scope) (n : ℕ) (sub : Reader) → Takes bytes n sub → (t paren : Token) (all ts mid : List Token) (x : Statement × List Token) → t.kind ≡ kinds.Keyword keywords.For → all ≡ t ∷ ts → paren.kind ≡ kinds.Mark marks.LeftParenthesis → ts ≡ paren ∷ mid → plain_for_at bytes n sub names t.line mid ≡ Some x → Stated bytes names (suc n) x.0 all x.1
unfolding plain_for_at
plain_for_takes bytes names n sub takes t paren all ts mid x is whole opens inner e =
    let a = bind_some (maybe_at bytes names n marks.Semicolon mid) (λ a. header_at bytes n sub names a.1 >>= λ h. Some (for_loop t.line a.0 h.0.0.0 h.0.0.1 h.0.1, h.1)) x e in
    let b = bind_some (header_at bytes n sub names a.0.1) (λ h. Some (for_loop t.line a.0.0 h.0.0.0 h.0.0.1 h.0.1, h.1)) x a.2 in
    let g = maybe_takes bytes names n marks.Semicolon mid a.0 a.1 in
    let h = header_takes bytes names n sub takes a.0.1 b.0 b.1 in
    let own = g.own ++ h.own in
    subst (λ (y : Statement × List Token). Stated bytes names (suc n) y.0 all y.1) (some_is b.2)
    (record {
      run = record {
        own = t ∷ (paren ∷ own);
        spelled = record {
          token = t;
          rest = paren ∷ own;
          is = record { kind = is; line = refl };
          behind = record { token = paren; rest = own; is = opens; behind = g.spelled (SpellsHeader bytes b.0.0.0.0 b.0.0.0.1 (SpellsStatement bytes b.0.0.1)) h.own h.spelled; whole = refl };
          whole = refl;
        };
        front = in_front_of t all ts (paren ∷ own) b.0.1 whole (in_front_of paren ts mid own b.0.1 inner (seam mid g.own a.0.1 b.0.1 h.own g.front h.front));
        well = (g.well, h.well_test, h.well_last, h.well);
        deep = omega (arith, g.deep, h.deep_test, h.deep_last, h.deep);
      };
      ends = h.ends;
    })

declared_for_takes : (bytes : List ℕ) (names : Scope) (n : ℕ) (sub : Reader) → Takes bytes n sub → (t paren : Token) (all ts mid : List Token) (x : Statement × List Token) → t.kind ≡ kinds.Keyword keywords.For → all ≡ t ∷ ts → paren.kind ≡ kinds.Mark marks.LeftParenthesis → ts ≡ paren ∷ mid → declared_for_at bytes n sub names t.line mid ≡ Some x → Stated bytes names (suc n) x.0 all x.1
unfolding declared_for_at
declared_for_takes bytes names n sub takes t paren all ts mid x is whole opens inner e =
    let a = bind_some (declaration_at bytes names n mid) (λ d. header_at bytes n sub (with_declaration names d.0.0 d.0.1) d.1 >>= λ h. Some (for_declared t.line d.0.0 d.0.1 h.0.0.0 h.0.0.1 h.0.1, h.1)) x e in
    let b = bind_some (header_at bytes n sub (with_declaration names a.0.0.0 a.0.0.1) a.0.1) (λ h. Some (for_declared t.line a.0.0.0 a.0.0.1 h.0.0.0 h.0.0.1 h.0.1, h.1)) x a.2 in
    let g = declaration_takes bytes names n mid a.0 a.1 in
    let h = header_takes bytes (with_declaration names a.0.0.0 a.0.0.1) n sub takes a.0.1 b.0 b.1 in
    let own = g.own ++ h.own in
    subst (λ (y : Statement × List Token). Stated bytes names (suc n) y.0 all y.1) (some_is b.2)
    (record {
      run = record {
        own = t ∷ (paren ∷ own);
        spelled = record {
          token = t;
          rest = paren ∷ own;
          is = record { kind = is; line = refl };
          behind = record { token = paren; rest = own; is = opens; behind = record { left = g.own; right = h.own; first = g.spelled; second = h.spelled; whole = refl }; whole = refl };
          whole = refl;
        };
        front = in_front_of t all ts (paren ∷ own) b.0.1 whole (in_front_of paren ts mid own b.0.1 inner (seam mid g.own a.0.1 b.0.1 h.own g.front h.front));
        well = (g.well, h.well_test, h.well_last, h.well);
        deep = (let d = g.deep in omega (arith, d, h.deep_test, h.deep_last, h.deep));
      };
      ends = h.ends;
    })

for_either : (bytes : List ℕ) (names : Scope) (n : ℕ) (sub : Reader) → Takes bytes n sub → (t paren : Token) (all ts mid : List Token) (o : Option (Start × Token × List Token)) (x : Statement × List Token) → t.kind ≡ kinds.Keyword keywords.For → all ≡ t ∷ ts → paren.kind ≡ kinds.Mark marks.LeftParenthesis → ts ≡ paren ∷ mid → for_by bytes n sub names t.line mid o ≡ Some x → Stated bytes names (suc n) x.0 all x.1
for_either bytes names n sub takes t paren all ts mid None x is whole opens inner e = plain_for_takes bytes names n sub takes t paren all ts mid x is whole opens inner e
for_either bytes names n sub takes t paren all ts mid (Some y) x is whole opens inner e = declared_for_takes bytes names n sub takes t paren all ts mid x is whole opens inner e

for_takes : (bytes : List ℕ) (names : Scope) (n : ℕ) (sub : Reader) → Takes bytes n sub → (t : Token) (all ts : List Token) (x : Statement × List Token) → t.kind ≡ kinds.Keyword keywords.For → all ≡ t ∷ ts → for_at bytes n sub names t.line ts ≡ Some x → Stated bytes names (suc n) x.0 all x.1
unfolding for_at
for_takes bytes names n sub takes t all ts x is whole e =
    let a = bind_some (token_at (is_mark marks.LeftParenthesis) ts) (λ x. for_by bytes n sub names t.line x.1 (start_at false bytes (names, false) x.1)) x e in
    let h = mark_takes marks.LeftParenthesis ts a.0 a.1 in
    for_either bytes names n sub takes t a.0.0 all ts a.0.1 (start_at false bytes (names, false) a.0.1) x is whole h.is h.whole a.2

case_takes : (bytes : List ℕ) (names : Scope) (n : ℕ) (sub : Reader) → Takes bytes n sub → (t : Token) (all ts : List Token) (x : Statement × List Token) → t.kind ≡ kinds.Keyword keywords.Case → all ≡ t ∷ ts → case_at bytes n sub names t.line ts ≡ Some x → Stated bytes names (suc n) x.0 all x.1
unfolding case_at
case_takes bytes names n sub takes t all ts x is whole e =
    let a = bind_some (reader bytes names n 3 ts) (λ e. token_at (is_mark marks.Colon) e.1 >>= λ x. sub names x.1 >>= λ s. Some (case_of t.line e.0 s.0, s.1)) x e in
    let b = bind_some (token_at (is_mark marks.Colon) a.0.1) (λ x. sub names x.1 >>= λ s. Some (case_of t.line a.0.0 s.0, s.1)) x a.2 in
    let c = bind_some (sub names b.0.1) (λ s. Some (case_of t.line a.0.0 s.0, s.1)) x b.2 in
    let r = reads bytes names n 3 ts a.0 (omega arith) a.1 in
    let h = mark_takes marks.Colon a.0.1 b.0 b.1 in
    let s = takes names b.0.1 c.0 c.1 in
    let own = r.own ++ (b.0.0 ∷ s.run.own) in
    subst (λ (y : Statement × List Token). Stated bytes names (suc n) y.0 all y.1) (some_is c.2)
    (record {
      run = record {
        own = t ∷ own;
        spelled = record {
          token = t;
          rest = own;
          is = record { kind = is; line = refl };
          behind = record { left = r.own; right = b.0.0 ∷ s.run.own; first = r.spelled; second = record { token = b.0.0; rest = s.run.own; is = h.is; behind = s.run.spelled; whole = refl }; whole = refl };
          whole = refl;
        };
        front = in_front_of t all ts own c.0.1 whole (seam ts r.own a.0.1 c.0.1 (b.0.0 ∷ s.run.own) r.front (in_front_of b.0.0 a.0.1 b.0.1 s.run.own c.0.1 h.whole s.run.front));
        well = (r.level, r.well, s.run.well);
        deep = omega (arith, r.deep, s.run.deep);
      };
      ends = s.ends;
    })

default_takes : (bytes : List ℕ) (names : Scope) (n : ℕ) (sub : Reader) → Takes bytes n sub → (t : Token) (all ts : List Token) (x : Statement × List Token) → t.kind ≡ kinds.Keyword keywords.Default → all ≡ t ∷ ts → default_at sub names t.line ts ≡ Some x → Stated bytes names (suc n) x.0 all x.1
unfolding default_at
default_takes bytes names n sub takes t all ts x is whole e =
    let b = bind_some (token_at (is_mark marks.Colon) ts) (λ x. sub names x.1 >>= λ s. Some (default_of t.line s.0, s.1)) x e in
    let c = bind_some (sub names b.0.1) (λ s. Some (default_of t.line s.0, s.1)) x b.2 in
    let h = mark_takes marks.Colon ts b.0 b.1 in
    let s = takes names b.0.1 c.0 c.1 in
    let own = b.0.0 ∷ s.run.own in
    subst (λ (y : Statement × List Token). Stated bytes names (suc n) y.0 all y.1) (some_is c.2)
    (record {
      run = record {
        own = t ∷ own;
        spelled = record { token = t; rest = own; is = record { kind = is; line = refl }; behind = record { token = b.0.0; rest = s.run.own; is = h.is; behind = s.run.spelled; whole = refl }; whole = refl };
        front = in_front_of t all ts own c.0.1 whole (in_front_of b.0.0 ts b.0.1 s.run.own c.0.1 h.whole s.run.front);
        well = s.run.well;
        deep = omega (arith, s.run.deep);
      };
      ends = s.ends;
    })

label_takes : (bytes : List ℕ) (names : Scope) (n : ℕ) (sub : Reader) → Takes bytes n sub → (t : Token) (all ts : List Token) (x : Statement × List Token) → t.kind ≡ kinds.Identifier → all ≡ t ∷ ts → label_at bytes sub names t ts ≡ Some x → Stated bytes names (suc n) x.0 all x.1
unfolding label_at
label_takes bytes names n sub takes t all ts x is whole e =
    let b = bind_some (token_at (is_mark marks.Colon) ts) (λ x. sub names x.1 >>= λ s. Some (labelled t.line (text_of bytes t) s.0, s.1)) x e in
    let c = bind_some (sub names b.0.1) (λ s. Some (labelled t.line (text_of bytes t) s.0, s.1)) x b.2 in
    let h = mark_takes marks.Colon ts b.0 b.1 in
    let s = takes names b.0.1 c.0 c.1 in
    let own = b.0.0 ∷ s.run.own in
    subst (λ (y : Statement × List Token). Stated bytes names (suc n) y.0 all y.1) (some_is c.2)
    (record {
      run = record {
        own = t ∷ own;
        spelled = record { token = t; rest = own; is = record { kind = is; line = refl; text = refl }; behind = record { token = b.0.0; rest = s.run.own; is = h.is; behind = s.run.spelled; whole = refl }; whole = refl };
        front = in_front_of t all ts own c.0.1 whole (in_front_of b.0.0 ts b.0.1 s.run.own c.0.1 h.whole s.run.front);
        well = s.run.well;
        deep = omega (arith, s.run.deep);
      };
      ends = s.ends;
    })

goto_takes : (bytes : List ℕ) (names : Scope) (n : ℕ) (t : Token) (all ts : List Token) (x : Statement × List Token) → t.kind ≡ kinds.Keyword keywords.Goto → all ≡ t ∷ ts → goto_at bytes t.line ts ≡ Some x → Stated bytes names (suc n) x.0 all x.1
unfolding goto_at
goto_takes bytes names n t all ts x is whole e =
    let a = bind_some (token_at is_identifier ts) (λ n. token_at (is_mark marks.Semicolon) n.1 >>= λ x. Some (goto_label t.line (text_of bytes n.0), x.1)) x e in
    let b = bind_some (token_at (is_mark marks.Semicolon) a.0.1) (λ x. Some (goto_label t.line (text_of bytes a.0.0), x.1)) x a.2 in
    let g = identifier_takes ts a.0 a.1 in
    let h = mark_takes marks.Semicolon a.0.1 b.0 b.1 in
    let own = a.0.0 ∷ (b.0.0 ∷ []) in
    subst (λ (y : Statement × List Token). Stated bytes names (suc n) y.0 all y.1) (some_is b.2)
    (record {
      run = record {
        own = t ∷ own;
        spelled = record {
          token = t;
          rest = own;
          is = record { kind = is; line = refl };
          behind = record { token = a.0.0; rest = b.0.0 ∷ []; is = record { kind = g.is; text = refl }; behind = record { token = b.0.0; is = h.is; whole = refl }; whole = refl };
          whole = refl;
        };
        front = in_front_of t all ts own b.0.1 whole (in_front_of a.0.0 ts a.0.1 (b.0.0 ∷ []) b.0.1 g.whole h.whole);
        well = tt;
        deep = omega arith;
      };
      ends = λ e. absurd cc;
    })

break_takes : (bytes : List ℕ) (names : Scope) (n : ℕ) (t : Token) (all ts : List Token) (x : Statement × List Token) → t.kind ≡ kinds.Keyword keywords.Break → all ≡ t ∷ ts → ended_at marks.Semicolon (break_off t.line) ts ≡ Some x → Stated bytes names (suc n) x.0 all x.1
break_takes bytes names n t all ts x is whole e =
    let h = ended_takes marks.Semicolon (break_off t.line) ts x e in
    subst (λ (s : Statement). Stated bytes names (suc n) s all x.1) h.same
    (record {
      run = record {
        own = t ∷ (h.token ∷ []);
        spelled = record { token = t; rest = h.token ∷ []; is = record { kind = is; line = refl }; behind = record { token = h.token; is = h.is; whole = refl }; whole = refl };
        front = in_front_of t all ts (h.token ∷ []) x.1 whole h.whole;
        well = tt;
        deep = omega arith;
      };
      ends = λ e. absurd cc;
    })

continue_takes : (bytes : List ℕ) (names : Scope) (n : ℕ) (t : Token) (all ts : List Token) (x : Statement × List Token) → t.kind ≡ kinds.Keyword keywords.Continue → all ≡ t ∷ ts → ended_at marks.Semicolon (continue_on t.line) ts ≡ Some x → Stated bytes names (suc n) x.0 all x.1
continue_takes bytes names n t all ts x is whole e =
    let h = ended_takes marks.Semicolon (continue_on t.line) ts x e in
    subst (λ (s : Statement). Stated bytes names (suc n) s all x.1) h.same
    (record {
      run = record {
        own = t ∷ (h.token ∷ []);
        spelled = record { token = t; rest = h.token ∷ []; is = record { kind = is; line = refl }; behind = record { token = h.token; is = h.is; whole = refl }; whole = refl };
        front = in_front_of t all ts (h.token ∷ []) x.1 whole h.whole;
        well = tt;
        deep = omega arith;
      };
      ends = λ e. absurd cc;
    })

empty_takes : (bytes : List ℕ) (names : Scope) (n : ℕ) (t : Token) (ts : List Token) (x : Statement × List Token) → t.kind ≡ kinds.Mark marks.Semicolon → Some (empty t.line, ts) ≡ Some x → Stated bytes names (suc n) x.0 (t ∷ ts) x.1
empty_takes bytes names n t ts x is e =
    subst (λ (y : Statement × List Token). Stated bytes names (suc n) y.0 (t ∷ ts) y.1) (some_is e)
    (record {
      run = record { own = t ∷ []; spelled = record { token = t; is = record { kind = is; line = refl }; whole = refl }; front = refl; well = tt; deep = omega arith };
      ends = λ e. absurd cc;
    })

-- what the first token of a statement is
abbrev Begins : Begin → Kind → Type 0
Begins begins.Block k = k ≡ kinds.Mark marks.LeftBrace
Begins begins.Expression k = Unit {0}
Begins begins.Empty k = k ≡ kinds.Mark marks.Semicolon
Begins begins.Label k = k ≡ kinds.Identifier
Begins begins.Break k = k ≡ kinds.Keyword keywords.Break
Begins begins.Case k = k ≡ kinds.Keyword keywords.Case
Begins begins.Continue k = k ≡ kinds.Keyword keywords.Continue
Begins begins.Default k = k ≡ kinds.Keyword keywords.Default
Begins begins.Do k = k ≡ kinds.Keyword keywords.Do
Begins begins.For k = k ≡ kinds.Keyword keywords.For
Begins begins.Goto k = k ≡ kinds.Keyword keywords.Goto
Begins begins.If k = k ≡ kinds.Keyword keywords.If
Begins begins.Return k = k ≡ kinds.Keyword keywords.Return
Begins begins.Switch k = k ≡ kinds.Keyword keywords.Switch
Begins begins.While k = k ≡ kinds.Keyword keywords.While

begins_keyword : (w : Keyword) → Begins (begin_of_keyword w) (kinds.Keyword w)
begins_keyword keywords.Auto = tt
begins_keyword keywords.Break = refl
begins_keyword keywords.Case = refl
begins_keyword keywords.Char = tt
begins_keyword keywords.Const = tt
begins_keyword keywords.Continue = refl
begins_keyword keywords.Default = refl
begins_keyword keywords.Do = refl
begins_keyword keywords.Else = tt
begins_keyword keywords.Enum = tt
begins_keyword keywords.Extern = tt
begins_keyword keywords.For = refl
begins_keyword keywords.Goto = refl
begins_keyword keywords.If = refl
begins_keyword keywords.Inline = tt
begins_keyword keywords.Int = tt
begins_keyword keywords.Long = tt
begins_keyword keywords.Register = tt
begins_keyword keywords.Restrict = tt
begins_keyword keywords.Return = refl
begins_keyword keywords.Short = tt
begins_keyword keywords.Signed = tt
begins_keyword keywords.Sizeof = tt
begins_keyword keywords.Static = tt
begins_keyword keywords.Struct = tt
begins_keyword keywords.Switch = refl
begins_keyword keywords.Typedef = tt
begins_keyword keywords.Union = tt
begins_keyword keywords.Unsigned = tt
begins_keyword keywords.Void = tt
begins_keyword keywords.Volatile = tt
begins_keyword keywords.While = refl
begins_keyword keywords.Bool = tt
begins_keyword keywords.Noreturn = tt

begins_mark : (k : Kind) (a b : Bool) → is_mark marks.LeftBrace k ≡ a → is_mark marks.Semicolon k ≡ b → Begins (cond a begins.Block (cond b begins.Empty begins.Expression)) k
begins_mark k true b f g = mark_by marks.LeftBrace k f
begins_mark k false true f g = mark_by marks.Semicolon k g
begins_mark k false false f g = tt

begins_kind : (colon : Bool) (k : Kind) → Begins (begin_of colon k) k
begins_kind true kinds.Identifier = refl
begins_kind false kinds.Identifier = tt
begins_kind colon (kinds.Keyword w) = begins_keyword w
begins_kind colon (kinds.Constant c) = tt
begins_kind colon (kinds.Character c) = tt
begins_kind colon kinds.String = tt
begins_kind colon (kinds.Mark m) = begins_mark (kinds.Mark m) (is_mark marks.LeftBrace (kinds.Mark m)) (is_mark marks.Semicolon (kinds.Mark m)) refl refl

begun_takes : (bytes : List ℕ) (names : Scope) (n : ℕ) (sub : Reader) → Takes bytes n sub → (b : Begin) (t : Token) (ts : List Token) (x : Statement × List Token) → Begins b t.kind → begun bytes n sub names b t ts ≡ Some x → Stated bytes names (suc n) x.0 (t ∷ ts) x.1
begun_takes bytes names n sub takes begins.Block t ts x is e = block_takes bytes names n sub takes t (t ∷ ts) ts x is refl e
begun_takes bytes names n sub takes begins.If t ts x is e = tested_takes bytes names n sub takes t (t ∷ ts) ts x is refl e
begun_takes bytes names n sub takes begins.Return t ts x is e = returned_takes bytes names n t (t ∷ ts) ts x is refl e
begun_takes bytes names n sub takes begins.Expression t ts x is e = evaluated_takes bytes names n (t ∷ ts) x e
begun_takes bytes names n sub takes begins.Empty t ts x is e = empty_takes bytes names n t ts x is e
begun_takes bytes names n sub takes begins.While t ts x is e = while_takes bytes names n sub takes t (t ∷ ts) ts x is refl e
begun_takes bytes names n sub takes begins.Do t ts x is e = do_takes bytes names n sub takes t (t ∷ ts) ts x is refl e
begun_takes bytes names n sub takes begins.For t ts x is e = for_takes bytes names n sub takes t (t ∷ ts) ts x is refl e
begun_takes bytes names n sub takes begins.Switch t ts x is e = switch_takes bytes names n sub takes t (t ∷ ts) ts x is refl e
begun_takes bytes names n sub takes begins.Case t ts x is e = case_takes bytes names n sub takes t (t ∷ ts) ts x is refl e
begun_takes bytes names n sub takes begins.Default t ts x is e = default_takes bytes names n sub takes t (t ∷ ts) ts x is refl e
begun_takes bytes names n sub takes begins.Label t ts x is e = label_takes bytes names n sub takes t (t ∷ ts) ts x is refl e
begun_takes bytes names n sub takes begins.Goto t ts x is e = goto_takes bytes names n t (t ∷ ts) ts x is refl e
begun_takes bytes names n sub takes begins.Break t ts x is e = break_takes bytes names n t (t ∷ ts) ts x is refl e
begun_takes bytes names n sub takes begins.Continue t ts x is e = continue_takes bytes names n t (t ∷ ts) ts x is refl e

started_takes : (bytes : List ℕ) (names : Scope) (n : ℕ) (sub : Reader) → Takes bytes n sub → (ts : List Token) (x : Statement × List Token) → started_at bytes n sub names ts ≡ Some x → Stated bytes names (suc n) x.0 ts x.1
unfolding started_at
started_takes bytes names n sub takes [] x e = absurd cc
started_takes bytes names n sub takes (t ∷ ts) x e =
    begun_takes bytes names n sub takes (begin_of (stands marks.Colon ts) t.kind) t ts x (begins_kind (stands marks.Colon ts) t.kind) e

-- what is read stands there
pub statement_takes : (bytes : List ℕ) (n : ℕ) → Takes bytes n (statement_at bytes n)
unfolding statement_at
statement_takes bytes zero names ts x e = absurd cc
statement_takes bytes (suc n) names ts x e = started_takes bytes names n (statement_at bytes n) (statement_takes bytes n) ts x e
