-- Statements that stand there are read.
use Rattle.std.proofs.Common.{◌≡◌, ◌≤◌, ◌<◌, ◌+◌, max, ℕ, zero, suc, List, [], ◌∷◌, ◌++◌, length, length-append, Bool, true, false, cond, Option, Some, None, refl, ap, sym, ◌∙◌, arith}
use Rattle.c_token.specs.declared.token.Token.{Token}
use Rattle.c_token.specs.declared.token.Kind.{Kind}
use Rattle.c_token.specs.declared.token.Kind.TheVariants as kinds
use Rattle.c_token.specs.declared.token.Keyword.TheVariants as keywords
use Rattle.c_token.specs.Spelling.{text_of}
use Rattle.c_token.specs.declared.token.Mark.{Mark}
use Rattle.c_token.specs.declared.token.Mark.TheVariants as marks
use Rattle.c_tree.specs.Tree.{Tree, name, depth}
use Rattle.c_tree.specs.Tables.{level_of}
use Rattle.c_tree.specs.Names.{Scope, is_type}
use Rattle.std.specs.Prelude.{◌&&◌}
use Rattle.c_tree.specs.Spelling.{Single, Behind, Then, IsMark, Spells, IsWell}
use Rattle.c_tree.specs.Declarations.{Parts, Declarators, value_depth, parts_depth, declarators_depth, with_declaration}
use Rattle.c_tree.specs.Statements.{Statement, block, if_then, if_else, evaluate, return_nothing, return_value, empty, while_loop, do_loop, for_loop, for_declared, switch_on, case_of, default_of, labelled, goto_label, break_off, continue_on, Items, done, declares, does, statement_depth, items_depth}
use Rattle.c_tree.specs.Files.{SpellsDeclaration, SpellsStatement, SpellsItems, SpellsMaybe, SpellsHeader, SpellsTest, IsWellMaybe, IsWellDeclaration, IsWellStatement, AreWellItems, is_open}
use Rattle.c_parse_expr.specs.Tables.{suffix_of, lead_of_mark}
use Rattle.c_parse_expr.specs.inner.Many.{◌>>=◌}
use Rattle.c_parse_expr.specs.Reading.{is_mark}
use Rattle.c_parse_expr.specs.inner.Reading.{is_identifier, reader}
use Rattle.c_parse_statements.specs.declared.table.Begin.{Begin}
use Rattle.c_parse_statements.specs.declared.table.Begin.TheVariants as begins
use Rattle.c_parse_parts.specs.declared.table.Start.{Start}
use Rattle.c_parse_parts.specs.inner.Reading.{Read, is_keyword, token_at, or_else, run_at, start_by, start_at, is_there, stands, is_label, declares_at, declaration_at}
use Rattle.c_parse_statements.specs.inner.Reading.{Reader, declaration, statement, begin_of, test_at, while_at, switch_at, do_at, maybe_by, maybe_at, header_at, declared_for_at, plain_for_at, for_by, for_at, case_at, default_at, label_at, goto_at, item_by, item_at, items_list, items_at, block_at, branched, branched_at, tested_at, closed_at, valued_at, bare, returned_at, evaluated_at, begun, started_at, statement_at}
use Rattle.c_parse_parts.proofs.Lists.{some_is, run_stops, run_goes}
use Rattle.c_parse_parts.proofs.Words.{mark_takes, passes_at, token_fails, mark_gives, keyword_gives, identifier_gives}
use Rattle.c_parse_parts.proofs.Starts.{is_name_in, start_fails, start_no_mark, start_no_keyword}
use Rattle.c_parse_expr.proofs.CompleteSteps.{first_token}
use Rattle.c_parse_parts.proofs.Firsts.{first_no_start, first_no_mark, first_no_keyword, first_no_type}
use Rattle.c_parse_statements.proofs.Firsts.{first_begins}
use Rattle.c_parse_expr.proofs.Within.{has_depth}
use Rattle.c_parse_parts.proofs.Steps.{IsWord, opens_length, apart, from_token, from_last, ended_gives, ended_none, stops_by_none, expression_read}
use Rattle.c_parse_parts.proofs.CompleteParts.{parts_open}
use Rattle.c_parse_parts.proofs.CompleteDeclarations.{declaration_read, declaration_starts, declaration_declares}

-- the first token of a statement, which neither closes a block nor begins a declaration or an `else`
pub record StatementOpens (bytes : List ℕ) (names : Scope) (own : List Token) : Type 0 where
  pub token : Token
  pub others : List Token
  pub whole : own ≡ token ∷ others
  pub no_else : is_keyword keywords.Else token.kind ≡ false
  pub no_declaration : (rest : List Token) → declares_at bytes names (own ++ rest) ≡ None
  pub no_close : is_mark marks.RightBrace token.kind ≡ false

none_either : {A : Type 0} (b : Bool) (o : Option A) → o ≡ None → cond b None o ≡ None
none_either true o e = refl
none_either false o e = e

no_declares : (bytes : List ℕ) (names : Scope) (ts : List Token) → start_at false bytes (names, false) ts ≡ None → declares_at bytes names ts ≡ None
unfolding declares_at
no_declares bytes names ts e = none_either (is_label ts) (start_at false bytes (names, false) ts) e

opens_at : (bytes : List ℕ) (names : Scope) (k : Kind) (own others : List Token) (t : Token) → own ≡ t ∷ others → t.kind ≡ k → is_keyword keywords.Else k ≡ false → ((b : Bool) → start_by b k ≡ None) → is_mark marks.RightBrace k ≡ false → StatementOpens bytes names own
opens_at bytes names k own others t e is f g h = record {
  token = t;
  others = others;
  whole = e;
  no_else = passes_at (is_keyword keywords.Else) t.kind k false is f;
  no_declaration = λ rest. no_declares bytes names (own ++ rest)
      (ap (λ (xs : List Token). start_at false bytes (names, false) (xs ++ rest)) e ∙ start_fails false bytes (names, false) t (others ++ rest) k is (g (is_name_in bytes (names, false) t)));
  no_close = passes_at (is_mark marks.RightBrace) t.kind k false is h;
}

opens_expression : (bytes : List ℕ) (names : Scope) (e : Tree) (own left right : List Token) → own ≡ left ++ right → Spells bytes e left → IsWell names e → StatementOpens bytes names own
opens_expression bytes names e own left right is s w =
    let f = first_token bytes names e left s w in
    record {
      token = f.token;
      others = f.others ++ right;
      whole = is ∙ ap (λ (xs : List Token). xs ++ right) f.whole;
      no_else = first_no_keyword keywords.Else bytes names left refl f;
      no_declaration = λ rest. no_declares bytes names (own ++ rest) (ap (start_at false bytes (names, false)) (apart own left right rest is) ∙ first_no_start false bytes names left (right ++ rest) f);
      no_close = first_no_mark marks.RightBrace bytes names left refl f;
    }

-- a label is no declaration
label_declares : (bytes : List ℕ) (names : Scope) (ts others mid : List Token) (t colon : Token) → ts ≡ t ∷ others → t.kind ≡ kinds.Identifier → others ≡ colon ∷ mid → colon.kind ≡ kinds.Mark marks.Colon → declares_at bytes names ts ≡ None
unfolding declares_at
label_declares bytes names ts others mid t colon e is f so =
    let there = ap (λ (o : Read Token). is_there o) (ap (token_at (is_mark marks.Colon)) f ∙ mark_gives marks.Colon colon mid so) in
    let label : is_label ts ≡ true = ap is_label e ∙ ap (λ (b : Bool). b && stands marks.Colon others) (ap is_identifier is) ∙ there in
    ap (λ (b : Bool). cond b None (start_at false bytes (names, false) ts)) label

opens_label : (bytes : List ℕ) (names : Scope) (line : ℕ) (text : List ℕ) (u : Statement) (own : List Token) → SpellsStatement bytes (labelled line text u) own → StatementOpens bytes names own
opens_label bytes names line text u own s =
    let c = s.behind in
    record {
      token = s.token;
      others = s.rest;
      whole = s.whole;
      no_else = passes_at (is_keyword keywords.Else) s.token.kind kinds.Identifier false s.is.kind refl;
      no_declaration = λ rest. label_declares bytes names (own ++ rest) (s.rest ++ rest) (c.rest ++ rest) s.token c.token (from_token own rest s.rest s.token s.whole) s.is.kind (from_token s.rest rest c.rest c.token c.whole) c.is;
      no_close = passes_at (is_mark marks.RightBrace) s.token.kind kinds.Identifier false s.is.kind refl;
    }

opens_statement : (bytes : List ℕ) (names : Scope) (s : Statement) (own : List Token) → SpellsStatement bytes s own → IsWellStatement names s → StatementOpens bytes names own
opens_statement bytes names (block line is) own s w = opens_at bytes names (kinds.Mark marks.LeftBrace) own s.rest s.token s.whole s.is.kind refl (λ _. refl) refl
opens_statement bytes names (if_then line e u) own s w = opens_at bytes names (kinds.Keyword keywords.If) own s.rest s.token s.whole s.is.kind refl (λ _. refl) refl
opens_statement bytes names (if_else line e u v) own s w = opens_at bytes names (kinds.Keyword keywords.If) own s.rest s.token s.whole s.is.kind refl (λ _. refl) refl
opens_statement bytes names (evaluate e) own s w = opens_expression bytes names e own s.left s.right s.whole s.first w.1
opens_statement bytes names (return_nothing line) own s w = opens_at bytes names (kinds.Keyword keywords.Return) own s.rest s.token s.whole s.is.kind refl (λ _. refl) refl
opens_statement bytes names (return_value line e) own s w = opens_at bytes names (kinds.Keyword keywords.Return) own s.rest s.token s.whole s.is.kind refl (λ _. refl) refl
opens_statement bytes names (empty line) own s w = opens_at bytes names (kinds.Mark marks.Semicolon) own [] s.token s.whole s.is.kind refl (λ _. refl) refl
opens_statement bytes names (while_loop line e u) own s w = opens_at bytes names (kinds.Keyword keywords.While) own s.rest s.token s.whole s.is.kind refl (λ _. refl) refl
opens_statement bytes names (do_loop line u e) own s w = opens_at bytes names (kinds.Keyword keywords.Do) own s.rest s.token s.whole s.is.kind refl (λ _. refl) refl
opens_statement bytes names (for_loop line a b c u) own s w = opens_at bytes names (kinds.Keyword keywords.For) own s.rest s.token s.whole s.is.kind refl (λ _. refl) refl
opens_statement bytes names (for_declared line ps ds b c u) own s w = opens_at bytes names (kinds.Keyword keywords.For) own s.rest s.token s.whole s.is.kind refl (λ _. refl) refl
opens_statement bytes names (switch_on line e u) own s w = opens_at bytes names (kinds.Keyword keywords.Switch) own s.rest s.token s.whole s.is.kind refl (λ _. refl) refl
opens_statement bytes names (case_of line e u) own s w = opens_at bytes names (kinds.Keyword keywords.Case) own s.rest s.token s.whole s.is.kind refl (λ _. refl) refl
opens_statement bytes names (default_of line u) own s w = opens_at bytes names (kinds.Keyword keywords.Default) own s.rest s.token s.whole s.is.kind refl (λ _. refl) refl
opens_statement bytes names (labelled line text u) own s w = opens_label bytes names line text u own s
opens_statement bytes names (goto_label line text) own s w = opens_at bytes names (kinds.Keyword keywords.Goto) own s.rest s.token s.whole s.is.kind refl (λ _. refl) refl
opens_statement bytes names (break_off line) own s w = opens_at bytes names (kinds.Keyword keywords.Break) own s.rest s.token s.whole s.is.kind refl (λ _. refl) refl
opens_statement bytes names (continue_on line) own s w = opens_at bytes names (kinds.Keyword keywords.Continue) own s.rest s.token s.whole s.is.kind refl (λ _. refl) refl

-- no `else` stands before items
items_no_else : (bytes : List ℕ) (names : Scope) (is : Items) (own rest : List Token) → SpellsItems bytes is own → AreWellItems names is → token_at (is_keyword keywords.Else) (own ++ rest) ≡ None
items_no_else bytes names done own rest s w =
    ap (λ (xs : List Token). token_at (is_keyword keywords.Else) xs) (from_token own rest [] s.token s.whole)
    ∙ token_fails (is_keyword keywords.Else) s.token rest (passes_at (is_keyword keywords.Else) s.token.kind (kinds.Mark marks.RightBrace) false s.is refl)
items_no_else bytes names (declares ps ds is) own rest s w =
    let d = declaration_starts bytes names ps ds s.left (s.right ++ rest) s.first w.0 in
    ap (token_at (is_keyword keywords.Else)) (apart own s.left s.right rest s.whole) ∙ start_no_keyword keywords.Else false bytes (names, false) (s.left ++ (s.right ++ rest)) d.0 refl d.1
items_no_else bytes names (does u is) own rest s w =
    let o = opens_statement bytes names u s.left s.first w.0 in
    ap (λ (xs : List Token). token_at (is_keyword keywords.Else) xs) (from_token own rest (o.others ++ s.right) o.token (s.whole ∙ ap (λ (xs : List Token). xs ++ s.right) o.whole))
    ∙ token_fails (is_keyword keywords.Else) o.token ((o.others ++ s.right) ++ rest) o.no_else

-- From a statement's tokens the statement is read.
abbrev pub StatementAgain : List ℕ → Statement → Type 0
StatementAgain bytes s = (n : ℕ) (names : Scope) (own rest : List Token) → SpellsStatement bytes s own → IsWellStatement names s → statement_depth s ≤ n → (is_open s ≡ true → token_at (is_keyword keywords.Else) rest ≡ None) → statement_at bytes n names (own ++ rest) ≡ Some (s, rest)

abbrev pub ItemsAgain : List ℕ → Items → Type 0
ItemsAgain bytes is = (n m : ℕ) (names : Scope) (own rest : List Token) → SpellsItems bytes is own → AreWellItems names is → items_depth is ≤ n → length own < m → run_at (items_list bytes n (statement_at bytes n)) m names (own ++ rest) ≡ Some (is, rest)

items_done : (bytes : List ℕ) → ItemsAgain bytes done
items_done bytes n zero names own rest s w d h = absurd (omega arith)
items_done bytes n (suc m) names own rest s w d h =
    run_stops (items_list bytes n (statement_at bytes n)) m names (own ++ rest) (done, rest) (ended_gives marks.RightBrace done own rest s)

item_declares : (bytes : List ℕ) (n : ℕ) (sub : Reader) (names : Scope) (ps : Parts) (ds : Declarators) (own rest : List Token) → SpellsDeclaration bytes ps ds own → IsWellDeclaration names ps ds → max (parts_depth ps) (declarators_depth ds) ≤ n → item_at bytes n sub names (own ++ rest) ≡ Some (declaration ps ds, rest)
unfolding item_at
item_declares bytes n sub names ps ds own rest s w d =
    let x = declaration_declares bytes names ps ds own rest s w in
    ap (λ (o : Option (Start × Token × List Token)). item_by bytes n sub names (own ++ rest) o) x.1
    ∙ ap (λ (o : Read (Parts × Declarators)). o >>= λ d. Some (declaration d.0.0 d.0.1, d.1)) (declaration_read bytes names n ps ds own rest s w d)

-- a declaration has a token
some_tokens : (bytes : List ℕ) (names : Scope) (ps : Parts) (ds : Declarators) (own : List Token) → SpellsDeclaration bytes ps ds own → IsWellDeclaration names ps ds → 0 < length own
some_tokens bytes names ps ds own s w =
    let o = opens_length IsWord s.left (parts_open bytes ps s.left w.0 s.first) in
    let both = ap (λ (xs : List Token). length xs) s.whole ∙ length-append s.left s.right in
    omega (arith, o, both)

items_declares : (bytes : List ℕ) (ps : Parts) (ds : Declarators) (is : Items) → ItemsAgain bytes is → ItemsAgain bytes (declares ps ds is)
items_declares bytes ps ds is again n zero names own rest s w d h = absurd (omega arith)
items_declares bytes ps ds is again n (suc m) names own rest s w d h =
    let sub = statement_at bytes n in
    let e = apart own s.left s.right rest s.whole in
    let x = declaration_starts bytes names ps ds s.left (s.right ++ rest) s.first w.0 in
    let both = ap (λ (xs : List Token). length xs) s.whole ∙ length-append s.left s.right in
    let one = some_tokens bytes names ps ds s.left s.first w.0 in
    run_goes (items_list bytes n sub) m names (own ++ rest) (s.right ++ rest) rest (declaration ps ds) is
    (ended_none marks.RightBrace done (own ++ rest) (ap (token_at (is_mark marks.RightBrace)) e ∙ start_no_mark marks.RightBrace false bytes (names, false) (s.left ++ (s.right ++ rest)) x.0 x.1))
    (ap (item_at bytes n sub names) e ∙ item_declares bytes n sub names ps ds s.left (s.right ++ rest) s.first w.0 (omega arith))
    (again n m (with_declaration names ps ds) s.right rest s.second w.1 (omega arith) (omega (arith, one, both)))

item_does : (bytes : List ℕ) (n : ℕ) (names : Scope) (s : Statement) (ts rest : List Token) → declares_at bytes names ts ≡ None → statement_at bytes n names ts ≡ Some (s, rest) → item_at bytes n (statement_at bytes n) names ts ≡ Some (statement s, rest)
unfolding item_at
item_does bytes n names s ts rest e f =
    ap (λ (o : Option (Start × Token × List Token)). item_by bytes n (statement_at bytes n) names ts o) e
    ∙ ap (λ (o : Read Statement). o >>= λ s. Some (statement s.0, s.1)) f

items_does : (bytes : List ℕ) (u : Statement) (is : Items) → StatementAgain bytes u → ItemsAgain bytes is → ItemsAgain bytes (does u is)
items_does bytes u is first_again again n zero names own rest s w d h = absurd (omega arith)
items_does bytes u is first_again again n (suc m) names own rest s w d h =
    let sub = statement_at bytes n in
    let o = opens_statement bytes names u s.left s.first w.0 in
    let both = ap (λ (xs : List Token). length xs) s.whole ∙ length-append s.left s.right in
    let one = ap (λ (xs : List Token). length xs) o.whole in
    let e = apart own s.left s.right rest s.whole in
    let front = from_token s.left (s.right ++ rest) o.others o.token o.whole in
    run_goes (items_list bytes n sub) m names (own ++ rest) (s.right ++ rest) rest (statement u) is
    (ended_none marks.RightBrace done (own ++ rest) (ap (token_at (is_mark marks.RightBrace)) (e ∙ front) ∙ token_fails (is_mark marks.RightBrace) o.token (o.others ++ (s.right ++ rest)) o.no_close))
    (ap (item_at bytes n sub names) e
    ∙ item_does bytes n names u (s.left ++ (s.right ++ rest)) (s.right ++ rest) (o.no_declaration (s.right ++ rest)) (first_again n names s.left (s.right ++ rest) s.first w.0 (omega arith) (λ _. items_no_else bytes names is s.right rest s.second w.1)))
    (again n m names s.right rest s.second w.1 (omega arith) (omega (arith, both, one)))

-- what a statement that a token begins is read from
starts : (bytes : List ℕ) (n : ℕ) (names : Scope) (b : Begin) (t : Token) (ts all : List Token) (y : Read Statement) → all ≡ t ∷ ts → begin_of (stands marks.Colon ts) t.kind ≡ b → begun bytes n (statement_at bytes n) names b t ts ≡ y → statement_at bytes (suc n) names all ≡ y
unfolding statement_at started_at
starts bytes n names b t ts all y e is f =
    ap (λ (xs : List Token). started_at bytes n (statement_at bytes n) names xs) e
    ∙ ap (λ (x : Begin). begun bytes n (statement_at bytes n) names x t ts) is ∙ f

pub block_read : (bytes : List ℕ) (is : Items) (n line : ℕ) (names : Scope) (own rest : List Token) → ItemsAgain bytes is → SpellsItems bytes is own → AreWellItems names is → items_depth is ≤ n → block_at bytes n (statement_at bytes n) names line (own ++ rest) ≡ Some (block line is, rest)
unfolding block_at items_at
block_read bytes is n line names own rest again s w d =
    ap (λ (o : Read Items). o >>= λ is. Some (block line is.0, is.1)) (again n (length (own ++ rest) + 1) names own rest s w d (omega (arith, length-append own rest)))

again_block : (bytes : List ℕ) (line : ℕ) (is : Items) → ItemsAgain bytes is → StatementAgain bytes (block line is)
again_block bytes line is again zero names own rest s w d e = absurd (omega arith)
again_block bytes line is again (suc n) names own rest s w d e =
    starts bytes n names begins.Block s.token (s.rest ++ rest) (own ++ rest) (Some (block line is, rest)) (from_token own rest s.rest s.token s.whole) (ap (begin_of (stands marks.Colon (s.rest ++ rest))) s.is.kind)
    (block_read bytes is n s.token.line names s.rest rest again s.behind w (omega arith) ∙ ap (λ (l : ℕ). Some (block l is, rest)) s.is.line)

closed_read : (bytes : List ℕ) (names : Scope) (n : ℕ) (e : Tree) (own left right rest : List Token) (tok : Token) → own ≡ left ++ right → right ≡ tok ∷ [] → tok.kind ≡ kinds.Mark marks.Semicolon → Spells bytes e left → IsWell names e → 1 ≤ level_of e → depth e ≤ n → closed_at bytes names n (own ++ rest) ≡ Some (e, rest)
unfolding closed_at
closed_read bytes names n e own left right rest tok is end closes s w l d =
    ap (λ (o : Read Tree). o >>= λ e. token_at (is_mark marks.Semicolon) e.1 >>= λ x. Some (e.0, x.1))
    (ap (reader bytes names n 1) (from_last own left right rest tok is end) ∙ expression_read bytes names n 1 e left rest tok (stops_by_none 1 tok (ap suffix_of closes)) s w d l)
    ∙ ap (λ (o : Read Token). o >>= λ x. Some (e, x.1)) (mark_gives marks.Semicolon tok rest closes)

head_is : {x y : Token} {xs ys : List Token} → (x ∷ xs) ≡ (y ∷ ys) → x ≡ y
head_is e = cc

-- A name before a colon is an expression of its own.
name_read : (bytes : List ℕ) (names : Scope) (n : ℕ) (t colon : Token) (mid : List Token) → t.kind ≡ kinds.Identifier → is_type names (text_of bytes t) ≡ false → colon.kind ≡ kinds.Mark marks.Colon → 1 ≤ n → reader bytes names n 1 (t ∷ (colon ∷ mid)) ≡ Some (name t.line (text_of bytes t), colon ∷ mid)
name_read bytes names n t colon mid is untyped so d =
    expression_read bytes names n 1 (name t.line (text_of bytes t)) (t ∷ []) mid colon (stops_by_none 1 colon (ap suffix_of so))
    (record { token = t; is = record { kind = is; line = refl; text = refl }; whole = refl }) untyped d (omega arith)

colon_ends : {P : Type 0} (k : Kind) → k ≡ kinds.Mark marks.Colon → k ≡ kinds.Mark marks.Semicolon → P
colon_ends k e f =
    let both : is_mark marks.Colon (kinds.Mark marks.Colon) ≡ is_mark marks.Colon (kinds.Mark marks.Semicolon) = ap (is_mark marks.Colon) (sym e ∙ f) in
    absurd cc

-- so no expression before a `;` begins with a name and a colon
no_colon : (bytes : List ℕ) (names : Scope) (n : ℕ) (e : Tree) (t tok : Token) (ts rest : List Token) (o : Read Token) → t.kind ≡ kinds.Identifier → is_type names (text_of bytes t) ≡ false → tok.kind ≡ kinds.Mark marks.Semicolon → 1 ≤ n → reader bytes names n 1 (t ∷ ts) ≡ Some (e, tok ∷ rest) → token_at (is_mark marks.Colon) ts ≡ o → is_there o ≡ false
no_colon bytes names n e t tok ts rest None is untyped so d f g = refl
no_colon bytes names n e t tok ts rest (Some y) is untyped so d f g =
    let h = mark_takes marks.Colon ts y g in
    let own = ap (λ (xs : List Token). reader bytes names n 1 (t ∷ xs)) h.whole ∙ name_read bytes names n t y.0 y.1 is untyped h.is d in
    let same = some_is (sym own ∙ f) in
    let tail : (y.0 ∷ y.1) ≡ (tok ∷ rest) = ap (λ (x : Tree × List Token). x.1) same in
    colon_ends y.0.kind h.is (ap (λ (x : Token). x.kind) (head_is tail) ∙ so)

again_evaluate : (bytes : List ℕ) (e : Tree) → StatementAgain bytes (evaluate e)
unfolding evaluated_at
again_evaluate bytes e zero names own rest s w d f = absurd (omega arith)
again_evaluate bytes e (suc n) names own rest s w d f =
    let t = first_token bytes names e s.left s.first w.1 in
    let where_ = from_token own rest (t.others ++ s.right) t.token (s.whole ∙ ap (λ (xs : List Token). xs ++ s.right) t.whole) in
    let end = s.second in
    let read : reader bytes names n 1 (t.token ∷ ((t.others ++ s.right) ++ rest)) ≡ Some (e, end.token ∷ rest) =
    ap (reader bytes names n 1) (sym where_ ∙ from_last own s.left s.right rest end.token s.whole end.whole)
    ∙ expression_read bytes names n 1 e s.left rest end.token (stops_by_none 1 end.token (ap suffix_of end.is)) s.first w.1 (omega arith) w.0 in
    let colon = λ (is : t.token.kind ≡ kinds.Identifier). no_colon bytes names n e t.token end.token ((t.others ++ s.right) ++ rest) rest (token_at (is_mark marks.Colon) ((t.others ++ s.right) ++ rest)) is (first_no_type bytes names s.left t is) end.is (let h = has_depth e in omega (arith, h)) read refl in
    starts bytes n names begins.Expression t.token ((t.others ++ s.right) ++ rest) (own ++ rest) (Some (evaluate e, rest)) where_ (first_begins bytes names (stands marks.Colon ((t.others ++ s.right) ++ rest)) s.left t colon)
    (ap (λ (xs : List Token). evaluated_at bytes names n xs) (sym where_)
    ∙ ap (λ (o : Read Tree). o >>= λ e. Some (evaluate e.0, e.1)) (closed_read bytes names n e own s.left s.right rest s.second.token s.whole s.second.whole s.second.is s.first w.1 w.0 (omega arith)))

again_return_nothing : (bytes : List ℕ) (line : ℕ) → StatementAgain bytes (return_nothing line)
unfolding returned_at
again_return_nothing bytes line zero names own rest s w d f = absurd (omega arith)
again_return_nothing bytes line (suc n) names own rest s w d f =
    let end = s.behind in
    starts bytes n names begins.Return s.token (s.rest ++ rest) (own ++ rest) (Some (return_nothing line, rest)) (from_token own rest s.rest s.token s.whole) (ap (begin_of (stands marks.Colon (s.rest ++ rest))) s.is.kind)
    (ap (λ (xs : List Token). returned_at bytes names n s.token.line xs) (from_token s.rest rest [] end.token end.whole)
    ∙ ap (λ (o : Read Token). or_else (bare s.token.line o) (valued_at bytes names n s.token.line (end.token ∷ rest))) (mark_gives marks.Semicolon end.token rest end.is)
    ∙ ap (λ (l : ℕ). Some (return_nothing l, rest)) s.is.line)

again_return_value : (bytes : List ℕ) (line : ℕ) (e : Tree) → StatementAgain bytes (return_value line e)
unfolding returned_at valued_at
again_return_value bytes line e zero names own rest s w d f = absurd (omega arith)
again_return_value bytes line e (suc n) names own rest s w d f =
    let v = s.behind in
    let t = first_token bytes names e v.left v.first w.1 in
    let where_ = from_token s.rest rest (t.others ++ v.right) t.token (v.whole ∙ ap (λ (xs : List Token). xs ++ v.right) t.whole) in
    let none : token_at (is_mark marks.Semicolon) (s.rest ++ rest) ≡ None =
    ap (λ (xs : List Token). token_at (is_mark marks.Semicolon) xs) where_
    ∙ token_fails (is_mark marks.Semicolon) t.token ((t.others ++ v.right) ++ rest) (first_no_mark marks.Semicolon bytes names v.left refl t) in
    starts bytes n names begins.Return s.token (s.rest ++ rest) (own ++ rest) (Some (return_value line e, rest)) (from_token own rest s.rest s.token s.whole) (ap (begin_of (stands marks.Colon (s.rest ++ rest))) s.is.kind)
    (ap (λ (o : Read Token). or_else (bare s.token.line o) (valued_at bytes names n s.token.line (s.rest ++ rest))) none
    ∙ ap (λ (o : Read Tree). o >>= λ e. Some (return_value s.token.line e.0, e.1)) (closed_read bytes names n e s.rest v.left v.right rest v.second.token v.whole v.second.whole v.second.is v.first w.1 w.0 (omega arith))
    ∙ ap (λ (l : ℕ). Some (return_value l e, rest)) s.is.line)

-- the test of an `if` in its parentheses
test_read : (bytes : List ℕ) (n line : ℕ) (sub : Reader) (names : Scope) (e : Tree) (ts all left others : List Token) (opens shuts : Token) (y : Read Statement) → all ≡ opens ∷ ts → opens.kind ≡ kinds.Mark marks.LeftParenthesis → ts ≡ left ++ (shuts ∷ others) → shuts.kind ≡ kinds.Mark marks.RightParenthesis → Spells bytes e left → IsWell names e → 1 ≤ level_of e → depth e ≤ n → (sub names others >>= λ s. branched_at sub names line e s.0 s.1) ≡ y → tested_at bytes n sub names line all ≡ y
unfolding tested_at
test_read bytes n line sub names e ts all left others opens shuts y f is g ends s w l d h =
    ap (λ (xs : List Token). token_at (is_mark marks.LeftParenthesis) xs >>= λ a. reader bytes names n 1 a.1 >>= λ b. token_at (is_mark marks.RightParenthesis) b.1 >>= λ d. sub names d.1 >>= λ s. branched_at sub names line b.0 s.0 s.1) f
    ∙ ap (λ (o : Read Token). o >>= λ a. reader bytes names n 1 a.1 >>= λ b. token_at (is_mark marks.RightParenthesis) b.1 >>= λ d. sub names d.1 >>= λ s. branched_at sub names line b.0 s.0 s.1) (mark_gives marks.LeftParenthesis opens ts is)
    ∙ ap (λ (o : Read Tree). o >>= λ b. token_at (is_mark marks.RightParenthesis) b.1 >>= λ d. sub names d.1 >>= λ s. branched_at sub names line b.0 s.0 s.1)
    (ap (reader bytes names n 1) g ∙ expression_read bytes names n 1 e left others shuts (stops_by_none 1 shuts (ap suffix_of ends)) s w d l)
    ∙ ap (λ (o : Read Token). o >>= λ d. sub names d.1 >>= λ s. branched_at sub names line e s.0 s.1) (mark_gives marks.RightParenthesis shuts others ends)
    ∙ h

again_if_then : (bytes : List ℕ) (line : ℕ) (e : Tree) (u : Statement) → StatementAgain bytes u → StatementAgain bytes (if_then line e u)
unfolding branched_at
again_if_then bytes line e u again zero names own rest s w d f = absurd (omega arith)
again_if_then bytes line e u again (suc n) names own rest s w d f =
    let sub = statement_at bytes n in
    let begin = s.behind in
    let test = begin.behind in
    let shut = test.second in
    let where_ = apart begin.rest test.left test.right rest test.whole ∙ ap (λ (xs : List Token). test.left ++ xs) (from_token test.right rest shut.rest shut.token shut.whole) in
    starts bytes n names begins.If s.token (s.rest ++ rest) (own ++ rest) (Some (if_then line e u, rest)) (from_token own rest s.rest s.token s.whole) (ap (begin_of (stands marks.Colon (s.rest ++ rest))) s.is.kind)
    (test_read bytes n s.token.line sub names e (begin.rest ++ rest) (s.rest ++ rest) test.left (shut.rest ++ rest) begin.token shut.token (Some (if_then line e u, rest))
    (from_token s.rest rest begin.rest begin.token begin.whole) begin.is where_ shut.is test.first w.1 w.0 (omega arith)
    (ap (λ (o : Read Statement). o >>= λ s'. branched_at sub names s.token.line e s'.0 s'.1) (again n names shut.rest rest shut.behind w.2 (omega arith) (λ _. f refl))
    ∙ ap (λ (o : Read Token). branched sub names s.token.line e u rest o) (f refl)
    ∙ ap (λ (l : ℕ). Some (if_then l e u, rest)) s.is.line))

-- a statement that isn't paren may stand before an `else`
shut_ends : {P : Type 0} (b : Bool) → b ≡ false → b ≡ true → P
shut_ends true e f = absurd cc
shut_ends false e f = absurd cc

again_if_else : (bytes : List ℕ) (line : ℕ) (e : Tree) (u v : Statement) → StatementAgain bytes u → StatementAgain bytes v → StatementAgain bytes (if_else line e u v)
unfolding branched_at
again_if_else bytes line e u v again last zero names own rest s w d f = absurd (omega arith)
again_if_else bytes line e u v again last (suc n) names own rest s w d f =
    let sub = statement_at bytes n in
    let begin = s.behind in
    let test = begin.behind in
    let shut = test.second in
    let both = shut.behind in
    let els = both.second in
    let where_ = apart begin.rest test.left test.right rest test.whole ∙ ap (λ (xs : List Token). test.left ++ xs) (from_token test.right rest shut.rest shut.token shut.whole) in
    let inner = apart shut.rest both.left both.right rest both.whole ∙ ap (λ (xs : List Token). both.left ++ xs) (from_token both.right rest els.rest els.token els.whole) in
    let mid = els.token ∷ (els.rest ++ rest) in
    starts bytes n names begins.If s.token (s.rest ++ rest) (own ++ rest) (Some (if_else line e u v, rest)) (from_token own rest s.rest s.token s.whole) (ap (begin_of (stands marks.Colon (s.rest ++ rest))) s.is.kind)
    (test_read bytes n s.token.line sub names e (begin.rest ++ rest) (s.rest ++ rest) test.left (shut.rest ++ rest) begin.token shut.token (Some (if_else line e u v, rest))
    (from_token s.rest rest begin.rest begin.token begin.whole) begin.is where_ shut.is test.first w.1 w.0 (omega arith)
    (ap (λ (o : Read Statement). o >>= λ s'. branched_at sub names s.token.line e s'.0 s'.1)
    (ap (λ (xs : List Token). sub names xs) inner ∙ again n names both.left mid both.first w.3 (omega arith) (shut_ends (is_open u) w.2))
    ∙ ap (λ (o : Read Token). branched sub names s.token.line e u mid o) (keyword_gives keywords.Else els.token (els.rest ++ rest) els.is)
    ∙ ap (λ (o : Read Statement). o >>= λ v. Some (if_else s.token.line e u v.0, v.1)) (last n names els.rest rest els.behind w.4 (omega arith) f)
    ∙ ap (λ (l : ℕ). Some (if_else l e u v, rest)) s.is.line))

again_empty : (bytes : List ℕ) (line : ℕ) → StatementAgain bytes (empty line)
again_empty bytes line zero names own rest s w d f = absurd (omega arith)
again_empty bytes line (suc n) names own rest s w d f =
    starts bytes n names begins.Empty s.token rest (own ++ rest) (Some (empty line, rest)) (from_token own rest [] s.token s.whole) (ap (begin_of (stands marks.Colon rest)) s.is.kind)
    (ap (λ (l : ℕ). Some (empty l, rest)) s.is.line)

-- an expression in parentheses
test_gives : (bytes : List ℕ) (names : Scope) (n : ℕ) (e : Tree) (P : List Token → Type 0) (own rest : List Token) → (s : SpellsTest bytes e P own) → IsWell names e → 1 ≤ level_of e → depth e ≤ n → test_at bytes names n (own ++ rest) ≡ Some (e, s.behind.second.rest ++ rest)
unfolding test_at
test_gives bytes names n e P own rest s w l d =
    let two = s.behind in
    let close = two.second in
    let where_ = apart s.rest two.left two.right rest two.whole ∙ ap (λ (xs : List Token). two.left ++ xs) (from_token two.right rest close.rest close.token close.whole) in
    ap (λ (o : Read Token). o >>= λ x. reader bytes names n 1 x.1 >>= λ e. token_at (is_mark marks.RightParenthesis) e.1 >>= λ y. Some (e.0, y.1))
    (ap (token_at (is_mark marks.LeftParenthesis)) (from_token own rest s.rest s.token s.whole) ∙ mark_gives marks.LeftParenthesis s.token (s.rest ++ rest) s.is)
    ∙ ap (λ (o : Read Tree). o >>= λ e. token_at (is_mark marks.RightParenthesis) e.1 >>= λ y. Some (e.0, y.1))
    (ap (reader bytes names n 1) where_ ∙ expression_read bytes names n 1 e two.left (close.rest ++ rest) close.token (stops_by_none 1 close.token (ap suffix_of close.is)) two.first w d l)
    ∙ ap (λ (o : Read Token). o >>= λ y. Some (e, y.1)) (mark_gives marks.RightParenthesis close.token (close.rest ++ rest) close.is)

again_while : (bytes : List ℕ) (line : ℕ) (e : Tree) (u : Statement) → StatementAgain bytes u → StatementAgain bytes (while_loop line e u)
unfolding while_at
again_while bytes line e u again zero names own rest s w d f = absurd (omega arith)
again_while bytes line e u again (suc n) names own rest s w d f =
    let sub = statement_at bytes n in
    let test = s.behind in
    let close = test.behind.second in
    starts bytes n names begins.While s.token (s.rest ++ rest) (own ++ rest) (Some (while_loop line e u, rest)) (from_token own rest s.rest s.token s.whole) (ap (begin_of (stands marks.Colon (s.rest ++ rest))) s.is.kind)
    (ap (λ (o : Read Tree). o >>= λ e. sub names e.1 >>= λ s'. Some (while_loop s.token.line e.0 s'.0, s'.1)) (test_gives bytes names n e (SpellsStatement bytes u) s.rest rest test w.1 w.0 (omega arith))
    ∙ ap (λ (o : Read Statement). o >>= λ s'. Some (while_loop s.token.line e s'.0, s'.1)) (again n names close.rest rest close.behind w.2 (omega arith) f)
    ∙ ap (λ (l : ℕ). Some (while_loop l e u, rest)) s.is.line)

again_switch : (bytes : List ℕ) (line : ℕ) (e : Tree) (u : Statement) → StatementAgain bytes u → StatementAgain bytes (switch_on line e u)
unfolding switch_at
again_switch bytes line e u again zero names own rest s w d f = absurd (omega arith)
again_switch bytes line e u again (suc n) names own rest s w d f =
    let sub = statement_at bytes n in
    let test = s.behind in
    let close = test.behind.second in
    starts bytes n names begins.Switch s.token (s.rest ++ rest) (own ++ rest) (Some (switch_on line e u, rest)) (from_token own rest s.rest s.token s.whole) (ap (begin_of (stands marks.Colon (s.rest ++ rest))) s.is.kind)
    (ap (λ (o : Read Tree). o >>= λ e. sub names e.1 >>= λ s'. Some (switch_on s.token.line e.0 s'.0, s'.1)) (test_gives bytes names n e (SpellsStatement bytes u) s.rest rest test w.1 w.0 (omega arith))
    ∙ ap (λ (o : Read Statement). o >>= λ s'. Some (switch_on s.token.line e s'.0, s'.1)) (again n names close.rest rest close.behind w.2 (omega arith) f)
    ∙ ap (λ (l : ℕ). Some (switch_on l e u, rest)) s.is.line)

again_do : (bytes : List ℕ) (line : ℕ) (u : Statement) (e : Tree) → StatementAgain bytes u → StatementAgain bytes (do_loop line u e)
unfolding do_at
again_do bytes line u e again zero names own rest s w d f = absurd (omega arith)
again_do bytes line u e again (suc n) names own rest s w d f =
    let sub = statement_at bytes n in
    let two = s.behind in
    let loop = two.second in
    let test = loop.behind in
    let close = test.behind.second in
    let end = close.behind in
    let mid = loop.token ∷ (loop.rest ++ rest) in
    let where_ = apart s.rest two.left two.right rest two.whole ∙ ap (λ (xs : List Token). two.left ++ xs) (from_token two.right rest loop.rest loop.token loop.whole) in
    let no_else = token_fails (is_keyword keywords.Else) loop.token (loop.rest ++ rest) (passes_at (is_keyword keywords.Else) loop.token.kind (kinds.Keyword keywords.While) false loop.is refl) in
    starts bytes n names begins.Do s.token (s.rest ++ rest) (own ++ rest) (Some (do_loop line u e, rest)) (from_token own rest s.rest s.token s.whole) (ap (begin_of (stands marks.Colon (s.rest ++ rest))) s.is.kind)
    (ap (λ (o : Read Statement). o >>= λ s'. token_at (is_keyword keywords.While) s'.1 >>= λ x. test_at bytes names n x.1 >>= λ e. token_at (is_mark marks.Semicolon) e.1 >>= λ y. Some (do_loop s.token.line s'.0 e.0, y.1))
    (ap (sub names) where_ ∙ again n names two.left mid two.first w.0 (omega arith) (λ _. no_else))
    ∙ ap (λ (o : Read Token). o >>= λ x. test_at bytes names n x.1 >>= λ e. token_at (is_mark marks.Semicolon) e.1 >>= λ y. Some (do_loop s.token.line u e.0, y.1)) (keyword_gives keywords.While loop.token (loop.rest ++ rest) loop.is)
    ∙ ap (λ (o : Read Tree). o >>= λ e. token_at (is_mark marks.Semicolon) e.1 >>= λ y. Some (do_loop s.token.line u e.0, y.1)) (test_gives bytes names n e (Single (IsMark marks.Semicolon)) loop.rest rest test w.2 w.1 (omega arith))
    ∙ ap (λ (o : Read Token). o >>= λ y. Some (do_loop s.token.line u e, y.1)) (ap (token_at (is_mark marks.Semicolon)) (from_token close.rest rest [] end.token end.whole) ∙ mark_gives marks.Semicolon end.token rest end.is)
    ∙ ap (λ (l : ℕ). Some (do_loop l u e, rest)) s.is.line)

-- an expression or none, and the mark behind it
maybe_gives : (bytes : List ℕ) (names : Scope) (n : ℕ) (mark : Mark) (o : Option Tree) (P : List Token → Type 0) (own rest : List Token) → lead_of_mark mark ≡ None → suffix_of (kinds.Mark mark) ≡ None → (s : Then (SpellsMaybe bytes o) (Behind (IsMark mark) P) own) → IsWellMaybe names o → value_depth o ≤ n → maybe_at bytes names n mark (own ++ rest) ≡ Some (o, s.second.rest ++ rest)
unfolding maybe_at
maybe_gives bytes names n mark None P own rest a b s w d =
    let end = s.second in
    let where_ = apart own s.left s.right rest s.whole ∙ ap (λ (xs : List Token). xs ++ (s.right ++ rest)) s.first ∙ from_token s.right rest end.rest end.token end.whole in
    ap (λ (o : Read Token). maybe_by bytes names n mark (own ++ rest) o) (ap (token_at (is_mark mark)) where_ ∙ mark_gives mark end.token (end.rest ++ rest) end.is)
maybe_gives bytes names n mark (Some e) P own rest a b s w d =
    let end = s.second in
    let t = first_token bytes names e s.left s.first w.1 in
    let where_ = apart own s.left s.right rest s.whole ∙ ap (λ (xs : List Token). s.left ++ xs) (from_token s.right rest end.rest end.token end.whole) in
    let none = ap (token_at (is_mark mark)) (where_ ∙ ap (λ (xs : List Token). xs ++ (end.token ∷ (end.rest ++ rest))) t.whole)
    ∙ token_fails (is_mark mark) t.token (t.others ++ (end.token ∷ (end.rest ++ rest))) (first_no_mark mark bytes names s.left a t) in
    ap (λ (o : Read Token). maybe_by bytes names n mark (own ++ rest) o) none
    ∙ ap (λ (o : Read Tree). o >>= λ e. token_at (is_mark mark) e.1 >>= λ x. Some (Some e.0, x.1))
    (ap (reader bytes names n 1) where_ ∙ expression_read bytes names n 1 e s.left (end.rest ++ rest) end.token (stops_by_none 1 end.token (ap suffix_of end.is ∙ b)) s.first w.1 d w.0)
    ∙ ap (λ (o : Read Token). o >>= λ x. Some (Some e, x.1)) (mark_gives mark end.token (end.rest ++ rest) end.is)

header_gives : (bytes : List ℕ) (names : Scope) (n : ℕ) (b c : Option Tree) (u : Statement) (own rest : List Token) → StatementAgain bytes u → SpellsHeader bytes b c (SpellsStatement bytes u) own → IsWellMaybe names b → IsWellMaybe names c → IsWellStatement names u → value_depth b ≤ n → value_depth c ≤ n → statement_depth u ≤ n → (is_open u ≡ true → token_at (is_keyword keywords.Else) rest ≡ None) → header_at bytes n (statement_at bytes n) names (own ++ rest) ≡ Some (((b, c), u), rest)
unfolding header_at
header_gives bytes names n b c u own rest again s v w x d g h f =
    let sub = statement_at bytes n in
    let semi = s.second in
    let last = semi.behind in
    let close = last.second in
    ap (λ (o : Read (Option Tree)). o >>= λ b. maybe_at bytes names n marks.RightParenthesis b.1 >>= λ c. sub names c.1 >>= λ s. Some (((b.0, c.0), s.0), s.1))
    (maybe_gives bytes names n marks.Semicolon b (Then (SpellsMaybe bytes c) (Behind (IsMark marks.RightParenthesis) (SpellsStatement bytes u))) own rest refl refl s v d)
    ∙ ap (λ (o : Read (Option Tree)). o >>= λ c. sub names c.1 >>= λ s. Some (((b, c.0), s.0), s.1))
    (maybe_gives bytes names n marks.RightParenthesis c (SpellsStatement bytes u) semi.rest rest refl refl last w g)
    ∙ ap (λ (o : Read Statement). o >>= λ s. Some (((b, c), s.0), s.1)) (again n names close.rest rest close.behind x h f)

-- the first part of a `for` begins no declaration
maybe_no_start : (bytes : List ℕ) (names : Scope) (o : Option Tree) (P : List Token → Type 0) (own rest : List Token) → Then (SpellsMaybe bytes o) (Behind (IsMark marks.Semicolon) P) own → IsWellMaybe names o → start_at false bytes (names, false) (own ++ rest) ≡ None
maybe_no_start bytes names None P own rest s w =
    let end = s.second in
    ap (start_at false bytes (names, false)) (apart own s.left s.right rest s.whole ∙ ap (λ (xs : List Token). xs ++ (s.right ++ rest)) s.first ∙ from_token s.right rest end.rest end.token end.whole)
    ∙ start_fails false bytes (names, false) end.token (end.rest ++ rest) (kinds.Mark marks.Semicolon) end.is refl
maybe_no_start bytes names (Some e) P own rest s w =
    ap (start_at false bytes (names, false)) (apart own s.left s.right rest s.whole) ∙ first_no_start false bytes names s.left (s.right ++ rest) (first_token bytes names e s.left s.first w.1)

for_opens : (bytes : List ℕ) (n line : ℕ) (sub : Reader) (names : Scope) (all ts : List Token) (paren : Token) (o : Option (Start × Token × List Token)) (y : Read Statement) → all ≡ paren ∷ ts → paren.kind ≡ kinds.Mark marks.LeftParenthesis → start_at false bytes (names, false) ts ≡ o → for_by bytes n sub names line ts o ≡ y → for_at bytes n sub names line all ≡ y
unfolding for_at
for_opens bytes n line sub names all ts paren o y e is f g =
    ap (λ (o : Read Token). o >>= λ x. for_by bytes n sub names line x.1 (start_at false bytes (names, false) x.1)) (ap (token_at (is_mark marks.LeftParenthesis)) e ∙ mark_gives marks.LeftParenthesis paren ts is)
    ∙ ap (for_by bytes n sub names line ts) f ∙ g

again_for : (bytes : List ℕ) (line : ℕ) (a b c : Option Tree) (u : Statement) → StatementAgain bytes u → StatementAgain bytes (for_loop line a b c u)
unfolding plain_for_at
again_for bytes line a b c u again zero names own rest s w d f = absurd (omega arith)
again_for bytes line a b c u again (suc n) names own rest s w d f =
    let sub = statement_at bytes n in
    let paren = s.behind in
    let first = paren.behind in
    let semi = first.second in
    let P = SpellsHeader bytes b c (SpellsStatement bytes u) in
    starts bytes n names begins.For s.token (s.rest ++ rest) (own ++ rest) (Some (for_loop line a b c u, rest)) (from_token own rest s.rest s.token s.whole) (ap (begin_of (stands marks.Colon (s.rest ++ rest))) s.is.kind)
    (for_opens bytes n s.token.line sub names (s.rest ++ rest) (paren.rest ++ rest) paren.token None (Some (for_loop line a b c u, rest)) (from_token s.rest rest paren.rest paren.token paren.whole) paren.is (maybe_no_start bytes names a P paren.rest rest first w.0)
    (ap (λ (o : Read (Option Tree)). o >>= λ a. header_at bytes n sub names a.1 >>= λ h. Some (for_loop s.token.line a.0 h.0.0.0 h.0.0.1 h.0.1, h.1)) (maybe_gives bytes names n marks.Semicolon a P paren.rest rest refl refl first w.0 (omega arith))
    ∙ ap (λ (o : Read ((Option Tree × Option Tree) × Statement)). o >>= λ h. Some (for_loop s.token.line a h.0.0.0 h.0.0.1 h.0.1, h.1)) (header_gives bytes names n b c u semi.rest rest again semi.behind w.1 w.2 w.3 (omega arith) (omega arith) (omega arith) f)
    ∙ ap (λ (l : ℕ). Some (for_loop l a b c u, rest)) s.is.line))

again_for_declared : (bytes : List ℕ) (line : ℕ) (ps : Parts) (ds : Declarators) (b c : Option Tree) (u : Statement) → StatementAgain bytes u → StatementAgain bytes (for_declared line ps ds b c u)
unfolding declared_for_at
again_for_declared bytes line ps ds b c u again zero names own rest s w d f = absurd (omega arith)
again_for_declared bytes line ps ds b c u again (suc n) names own rest s w d f =
    let sub = statement_at bytes n in
    let paren = s.behind in
    let two = paren.behind in
    let inner = with_declaration names ps ds in
    let e = apart paren.rest two.left two.right rest two.whole in
    let x = declaration_starts bytes names ps ds two.left (two.right ++ rest) two.first w.0 in
    starts bytes n names begins.For s.token (s.rest ++ rest) (own ++ rest) (Some (for_declared line ps ds b c u, rest)) (from_token own rest s.rest s.token s.whole) (ap (begin_of (stands marks.Colon (s.rest ++ rest))) s.is.kind)
    (for_opens bytes n s.token.line sub names (s.rest ++ rest) (paren.rest ++ rest) paren.token (Some x.0) (Some (for_declared line ps ds b c u, rest)) (from_token s.rest rest paren.rest paren.token paren.whole) paren.is (ap (start_at false bytes (names, false)) e ∙ x.1)
    (ap (λ (o : Read (Parts × Declarators)). o >>= λ d. header_at bytes n sub (with_declaration names d.0.0 d.0.1) d.1 >>= λ h. Some (for_declared s.token.line d.0.0 d.0.1 h.0.0.0 h.0.0.1 h.0.1, h.1))
    (ap (declaration_at bytes names n) e ∙ declaration_read bytes names n ps ds two.left (two.right ++ rest) two.first w.0 (omega arith))
    ∙ ap (λ (o : Read ((Option Tree × Option Tree) × Statement)). o >>= λ h. Some (for_declared s.token.line ps ds h.0.0.0 h.0.0.1 h.0.1, h.1)) (header_gives bytes inner n b c u two.right rest again two.second w.1 w.2 w.3 (omega arith) (omega arith) (omega arith) f)
    ∙ ap (λ (l : ℕ). Some (for_declared l ps ds b c u, rest)) s.is.line))

again_case : (bytes : List ℕ) (line : ℕ) (e : Tree) (u : Statement) → StatementAgain bytes u → StatementAgain bytes (case_of line e u)
unfolding case_at
again_case bytes line e u again zero names own rest s w d f = absurd (omega arith)
again_case bytes line e u again (suc n) names own rest s w d f =
    let sub = statement_at bytes n in
    let two = s.behind in
    let colon = two.second in
    let where_ = apart s.rest two.left two.right rest two.whole ∙ ap (λ (xs : List Token). two.left ++ xs) (from_token two.right rest colon.rest colon.token colon.whole) in
    starts bytes n names begins.Case s.token (s.rest ++ rest) (own ++ rest) (Some (case_of line e u, rest)) (from_token own rest s.rest s.token s.whole) (ap (begin_of (stands marks.Colon (s.rest ++ rest))) s.is.kind)
    (ap (λ (o : Read Tree). o >>= λ e. token_at (is_mark marks.Colon) e.1 >>= λ x. sub names x.1 >>= λ s'. Some (case_of s.token.line e.0 s'.0, s'.1))
    (ap (reader bytes names n 3) where_ ∙ expression_read bytes names n 3 e two.left (colon.rest ++ rest) colon.token (stops_by_none 3 colon.token (ap suffix_of colon.is)) two.first w.1 (omega arith) w.0)
    ∙ ap (λ (o : Read Token). o >>= λ x. sub names x.1 >>= λ s'. Some (case_of s.token.line e s'.0, s'.1)) (mark_gives marks.Colon colon.token (colon.rest ++ rest) colon.is)
    ∙ ap (λ (o : Read Statement). o >>= λ s'. Some (case_of s.token.line e s'.0, s'.1)) (again n names colon.rest rest colon.behind w.2 (omega arith) f)
    ∙ ap (λ (l : ℕ). Some (case_of l e u, rest)) s.is.line)

again_default : (bytes : List ℕ) (line : ℕ) (u : Statement) → StatementAgain bytes u → StatementAgain bytes (default_of line u)
unfolding default_at
again_default bytes line u again zero names own rest s w d f = absurd (omega arith)
again_default bytes line u again (suc n) names own rest s w d f =
    let sub = statement_at bytes n in
    let colon = s.behind in
    starts bytes n names begins.Default s.token (s.rest ++ rest) (own ++ rest) (Some (default_of line u, rest)) (from_token own rest s.rest s.token s.whole) (ap (begin_of (stands marks.Colon (s.rest ++ rest))) s.is.kind)
    (ap (λ (o : Read Token). o >>= λ x. sub names x.1 >>= λ s'. Some (default_of s.token.line s'.0, s'.1)) (ap (token_at (is_mark marks.Colon)) (from_token s.rest rest colon.rest colon.token colon.whole) ∙ mark_gives marks.Colon colon.token (colon.rest ++ rest) colon.is)
    ∙ ap (λ (o : Read Statement). o >>= λ s'. Some (default_of s.token.line s'.0, s'.1)) (again n names colon.rest rest colon.behind w (omega arith) f)
    ∙ ap (λ (l : ℕ). Some (default_of l u, rest)) s.is.line)

again_label : (bytes : List ℕ) (line : ℕ) (text : List ℕ) (u : Statement) → StatementAgain bytes u → StatementAgain bytes (labelled line text u)
unfolding label_at
again_label bytes line text u again zero names own rest s w d f = absurd (omega arith)
again_label bytes line text u again (suc n) names own rest s w d f =
    let sub = statement_at bytes n in
    let colon = s.behind in
    let t = s.token in
    let front = ap (token_at (is_mark marks.Colon)) (from_token s.rest rest colon.rest colon.token colon.whole) ∙ mark_gives marks.Colon colon.token (colon.rest ++ rest) colon.is in
    let there : stands marks.Colon (s.rest ++ rest) ≡ true = ap (λ (o : Read Token). is_there o) front in
    starts bytes n names begins.Label t (s.rest ++ rest) (own ++ rest) (Some (labelled line text u, rest)) (from_token own rest s.rest t s.whole)
    (ap (λ (b : Bool). begin_of b t.kind) there ∙ ap (begin_of true) s.is.kind)
    (ap (λ (o : Read Token). o >>= λ x. sub names x.1 >>= λ s'. Some (labelled t.line (text_of bytes t) s'.0, s'.1)) front
    ∙ ap (λ (o : Read Statement). o >>= λ s'. Some (labelled t.line (text_of bytes t) s'.0, s'.1)) (again n names colon.rest rest colon.behind w (omega arith) f)
    ∙ ap (λ (l : ℕ). Some (labelled l (text_of bytes t) u, rest)) s.is.line ∙ ap (λ (x : List ℕ). Some (labelled line x u, rest)) s.is.text)

again_goto : (bytes : List ℕ) (line : ℕ) (text : List ℕ) → StatementAgain bytes (goto_label line text)
unfolding goto_at
again_goto bytes line text zero names own rest s w d f = absurd (omega arith)
again_goto bytes line text (suc n) names own rest s w d f =
    let t = s.behind in
    let end = t.behind in
    starts bytes n names begins.Goto s.token (s.rest ++ rest) (own ++ rest) (Some (goto_label line text, rest)) (from_token own rest s.rest s.token s.whole) (ap (begin_of (stands marks.Colon (s.rest ++ rest))) s.is.kind)
    (ap (λ (o : Read Token). o >>= λ n. token_at (is_mark marks.Semicolon) n.1 >>= λ x. Some (goto_label s.token.line (text_of bytes n.0), x.1)) (ap (token_at is_identifier) (from_token s.rest rest t.rest t.token t.whole) ∙ identifier_gives t.token (t.rest ++ rest) t.is.kind)
    ∙ ap (λ (o : Read Token). o >>= λ x. Some (goto_label s.token.line (text_of bytes t.token), x.1)) (ap (token_at (is_mark marks.Semicolon)) (from_token t.rest rest [] end.token end.whole) ∙ mark_gives marks.Semicolon end.token rest end.is)
    ∙ ap (λ (l : ℕ). Some (goto_label l (text_of bytes t.token), rest)) s.is.line ∙ ap (λ (x : List ℕ). Some (goto_label line x, rest)) t.is.text)

again_break : (bytes : List ℕ) (line : ℕ) → StatementAgain bytes (break_off line)
again_break bytes line zero names own rest s w d f = absurd (omega arith)
again_break bytes line (suc n) names own rest s w d f =
    starts bytes n names begins.Break s.token (s.rest ++ rest) (own ++ rest) (Some (break_off line, rest)) (from_token own rest s.rest s.token s.whole) (ap (begin_of (stands marks.Colon (s.rest ++ rest))) s.is.kind)
    (ended_gives marks.Semicolon (break_off s.token.line) s.rest rest s.behind ∙ ap (λ (l : ℕ). Some (break_off l, rest)) s.is.line)

again_continue : (bytes : List ℕ) (line : ℕ) → StatementAgain bytes (continue_on line)
again_continue bytes line zero names own rest s w d f = absurd (omega arith)
again_continue bytes line (suc n) names own rest s w d f =
    starts bytes n names begins.Continue s.token (s.rest ++ rest) (own ++ rest) (Some (continue_on line, rest)) (from_token own rest s.rest s.token s.whole) (ap (begin_of (stands marks.Colon (s.rest ++ rest))) s.is.kind)
    (ended_gives marks.Semicolon (continue_on s.token.line) s.rest rest s.behind ∙ ap (λ (l : ℕ). Some (continue_on l, rest)) s.is.line)

mutual
  pub statement_again : (bytes : List ℕ) (s : Statement) → StatementAgain bytes s
  statement_again bytes (block line is) = again_block bytes line is (items_again bytes is)
  statement_again bytes (if_then line e u) = again_if_then bytes line e u (statement_again bytes u)
  statement_again bytes (if_else line e u v) = again_if_else bytes line e u v (statement_again bytes u) (statement_again bytes v)
  statement_again bytes (evaluate e) = again_evaluate bytes e
  statement_again bytes (return_nothing line) = again_return_nothing bytes line
  statement_again bytes (return_value line e) = again_return_value bytes line e
  statement_again bytes (empty line) = again_empty bytes line
  statement_again bytes (while_loop line e u) = again_while bytes line e u (statement_again bytes u)
  statement_again bytes (do_loop line u e) = again_do bytes line u e (statement_again bytes u)
  statement_again bytes (for_loop line a b c u) = again_for bytes line a b c u (statement_again bytes u)
  statement_again bytes (for_declared line ps ds b c u) = again_for_declared bytes line ps ds b c u (statement_again bytes u)
  statement_again bytes (switch_on line e u) = again_switch bytes line e u (statement_again bytes u)
  statement_again bytes (case_of line e u) = again_case bytes line e u (statement_again bytes u)
  statement_again bytes (default_of line u) = again_default bytes line u (statement_again bytes u)
  statement_again bytes (labelled line text u) = again_label bytes line text u (statement_again bytes u)
  statement_again bytes (goto_label line text) = again_goto bytes line text
  statement_again bytes (break_off line) = again_break bytes line
  statement_again bytes (continue_on line) = again_continue bytes line

  pub items_again : (bytes : List ℕ) (is : Items) → ItemsAgain bytes is
  items_again bytes done = items_done bytes
  items_again bytes (declares ps ds is) = items_declares bytes ps ds is (items_again bytes is)
  items_again bytes (does s is) = items_does bytes s is (statement_again bytes s) (items_again bytes is)
