-- What stands in a file, one after another.
use Rattle.std.proofs.Common.{◌≡◌, ◌≢◌, ◌≤◌, max, ℕ, List, [], ◌∷◌, ◌++◌, length, Bool, true, false, cond, Option, Some, None, refl, ap, sym, subst, ◌∙◌, arith}
use Rattle.std.specs.Prelude.{◌==◌}
use Rattle.std.proofs.lemmas.List.{append_assoc, append-nil}
use Rattle.std.proofs.lemmas.Bool.{eqb-true}
use Rattle.c_token.specs.declared.token.Token.{Token}
use Rattle.c_token.specs.declared.token.Kind.TheVariants as kinds
use Rattle.c_token.specs.declared.token.Mark.TheVariants as marks
use Rattle.c_tree.specs.declared.statement.External.{External}
use Rattle.c_tree.specs.declared.statement.External.TheVariants as external
use Rattle.c_tree.specs.Names.{Scope, built_in_names}
use Rattle.c_tree.specs.Spelling.{Then}
use Rattle.c_tree.specs.Declarations.{Parts, no_part, Full, Initial, Declarators, none_declared, declarator, nearest, is_function, full_has_name, name_of, initializer_depth, parts_depth, full_depth, declarators_depth, specify, have_typedef, with_parts, with_parameters_of, with_function, with_declaration}
use Rattle.c_tree.specs.Statements.{Statement, block, if_then, if_else, evaluate, return_nothing, return_value, empty, while_loop, do_loop, for_loop, for_declared, switch_on, case_of, default_of, labelled, goto_label, break_off, continue_on, Externals, no_more, declared, defines, statement_depth, view_external, externals_of, file_depth}
use Rattle.c_tree.specs.Files.{SpellsParts, SpellsFull, SpellsInitializer, SpellsOthers, SpellsDeclarators, SpellsStatement, SpellsDefinition, SpellsFile, AreWellParts, IsWellFull, AreWellDeclarators, IsWellInitializer, IsWellDefinition, IsWellStatement, AreWellExternals, is_block, IsFile}
use Rattle.c_parse_expr.specs.inner.Many.{◌>>=◌}
use Rattle.c_parse_expr.specs.Reading.{is_mark}
use Rattle.c_parse_expr.specs.inner.Reading.{is_identifier}
use Rattle.c_parse_parts.specs.inner.Reading.{Read, token_at, run_at, start_at, parts_at, are_some, body_at, full_at, initializer_at, declarators_at}
use Rattle.c_parse_statements.specs.inner.Reading.{items_at, block_at, statement_at, definition_at, others_at, outer_behind, first_at, outer_from, outer_at}
use Rattle.c_parse_statements.specs.Standing.{Outer, declarations, definitions, outer_of, outermost, with_outer, with_externals, SpellsOuter, IsWellOuter, outer_depth, IsExternal, Stands, NoneStands, StandBefore}
use Rattle.c_parse_parts.proofs.Lists.{some_is, bind_some, bind_gives}
use Rattle.c_parse_parts.proofs.Words.{passes_at, token_fails, mark_takes, mark_gives}
use Rattle.c_parse_parts.proofs.Runs.{seam}
use Rattle.c_parse_parts.proofs.SoundParts.{FullRun, PartsRun, parts_take, body_takes, full_takes, front_no_type, if_some, some_parts, named_full}
use Rattle.c_parse_parts.proofs.SoundDeclarations.{initializer_takes, declarators_take}
use Rattle.c_parse_statements.proofs.SoundStatements.{block_takes, statement_takes}
use Rattle.c_parse_parts.proofs.Steps.{apart, from_token, IsEnder, Follows, ender_not, Opens, opens_not, full_opens_not, full_quiet, Quiet}
use Rattle.c_parse_parts.proofs.CompleteParts.{parts_read, parts_again, full_again, are_there}
use Rattle.c_parse_parts.proofs.CompleteDeclarations.{declarators_read, declarators_quiet, initializer_read, initializer_opens, others_end}
use Rattle.c_parse_statements.proofs.CompleteStatements.{block_read, items_again}

block_is : (bytes : List ℕ) (n line : ℕ) (names : Scope) (ts : List Token) (x : Statement × List Token) → block_at bytes n (statement_at bytes n) names line ts ≡ Some x → is_block x.0 ≡ true
unfolding block_at
block_is bytes n line names ts x e =
    let a = bind_some (items_at bytes n (statement_at bytes n) names ts) (λ is. Some (block line is.0, is.1)) x e in
    subst (λ (y : Statement × List Token). is_block y.0 ≡ true) (some_is a.2) refl

definition_takes : (bytes : List ℕ) (names : Scope) (ps : Parts) (d : Full) (t : Token) (all tokens ts mid rest : List Token) (x : Outer × List Token) → PartsRun false bytes 400 (names, false) ps tokens mid → ps ≢ no_part → FullRun bytes 400 false (with_parts names ps) d mid all → all ≡ t ∷ ts → t.kind ≡ kinds.Mark marks.LeftBrace → definition_at bytes (with_function names ps d) ps d t.line ts ≡ Some x → Stands bytes names x.0 tokens x.1
unfolding definition_at
definition_takes bytes names ps d t all tokens ts mid rest x p some f whole is e =
    let scope = with_parameters_of (with_function names ps d) (nearest d) in
    let a = bind_some (cond (is_function d) (block_at bytes 399 (statement_at bytes 399) scope t.line ts) None) (λ b. Some (definitions ps d b.0, b.1)) x e in
    let b = if_some (is_function d) (block_at bytes 399 (statement_at bytes 399) scope t.line ts) a.0 a.1 in
    let s = block_takes bytes scope 399 (statement_at bytes 399) (statement_takes bytes 399) t all ts a.0 is whole b.1 in
    subst (λ (y : Outer × List Token). Stands bytes names y.0 tokens y.1) (some_is a.2)
    (record {
      own = p.run.own ++ (f.own ++ s.run.own);
      is = record {
        spelled = record {
          left = p.run.own;
          right = f.own ++ s.run.own;
          first = p.run.spelled;
          second = record { left = f.own; right = s.run.own; first = f.spelled; second = s.run.spelled; whole = refl };
          whole = refl;
        };
        well = (
          some,
          p.run.well.0,
          front_no_type false bytes (with_parts names ps) (specify ps) d mid f.own all p.ends f.front f.spelled,
          f.well.1 refl,
          b.0,
          f.well.0,
          block_is bytes 399 t.line scope ts a.0 b.1,
          s.run.well,
        );
        deep = (let h = p.run.deep in let g = f.deep in let i = s.run.deep in omega (arith, h, g, i));
      };
      front = seam tokens p.run.own mid a.0.1 (f.own ++ s.run.own) p.run.front (seam mid f.own all a.0.1 s.run.own f.front s.run.front);
    })

others_take : (bytes : List ℕ) (names : Scope) (ps : Parts) (d : Full) (tokens all mid : List Token) (x : Declarators × List Token) → PartsRun false bytes 400 (names, false) ps tokens mid → ps ≢ no_part → FullRun bytes 400 false (with_parts names ps) d mid all → others_at bytes (with_function names ps d) (have_typedef ps) d all ≡ Some x → Stands bytes names (declarations ps x.0) tokens x.1
unfolding others_at
others_take bytes names ps d tokens all mid x p some f e =
    let scope = with_function names ps d in
    let a = bind_some (initializer_at bytes scope 400 all) (λ i. declarators_at bytes scope (have_typedef ps) 400 false i.1 >>= λ ds. Some (declarator d i.0 ds.0, ds.1)) x e in
    let b = bind_some (declarators_at bytes scope (have_typedef ps) 400 false a.0.1) (λ ds. Some (declarator d a.0.0 ds.0, ds.1)) x a.2 in
    let i = initializer_takes bytes scope 400 all a.0 a.1 in
    let r = declarators_take bytes scope (have_typedef ps) 400 false a.0.1 b.0 b.1 in
    let back = i.own ++ r.own in
    let no_type = front_no_type false bytes (with_parts names ps) (specify ps) d mid f.own all p.ends f.front f.spelled in
    subst (λ (y : Declarators × List Token). Stands bytes names (declarations ps y.0) tokens y.1) (some_is b.2)
    (record {
      own = p.run.own ++ (f.own ++ back);
      is = record {
        spelled = record {
          left = p.run.own;
          right = f.own ++ back;
          first = p.run.spelled;
          second = record {
            left = f.own;
            right = back;
            first = f.spelled;
            second = record { left = i.own; right = r.own; first = i.spelled; second = r.spelled; whole = refl };
            whole = refl;
          };
          whole = refl;
        };
        well = (some, p.run.well.0, no_type, (f.well.1 refl, f.well.0, i.well, r.well));
        deep = (let h = p.run.deep in let g = f.deep in let j = i.deep in let k = r.deep in omega (arith, h, g, j, k));
      };
      front = seam tokens p.run.own mid b.0.1 (f.own ++ back) p.run.front (seam mid f.own all b.0.1 back f.front (seam all i.own a.0.1 b.0.1 r.own i.front r.front));
    })

behind_takes : (bytes : List ℕ) (names : Scope) (ps : Parts) (d : Full) (tokens all mid : List Token) (o : Read Token) (x : Outer × List Token) → PartsRun false bytes 400 (names, false) ps tokens mid → ps ≢ no_part → FullRun bytes 400 false (with_parts names ps) d mid all → token_at (is_mark marks.LeftBrace) all ≡ o → outer_behind bytes (with_function names ps d) ps d all o ≡ Some x → Stands bytes names x.0 tokens x.1
behind_takes bytes names ps d tokens all mid None x p some f g e =
    let a = bind_some (others_at bytes (with_function names ps d) (have_typedef ps) d all) (λ ds. Some (declarations ps ds.0, ds.1)) x e in
    subst (λ (y : Outer × List Token). Stands bytes names y.0 tokens y.1) (some_is a.2) (others_take bytes names ps d tokens all mid a.0 p some f a.1)
behind_takes bytes names ps d tokens all mid (Some y) x p some f g e =
    let h = mark_takes marks.LeftBrace all y g in
    definition_takes bytes names ps d y.0 all tokens y.1 mid x.1 x p some f h.whole h.is e

from_takes : (bytes : List ℕ) (names : Scope) (ps : Parts) (tokens mid : List Token) (o : Read Token) (x : Outer × List Token) → PartsRun false bytes 400 (names, false) ps tokens mid → ps ≢ no_part → token_at (is_mark marks.Semicolon) mid ≡ o → outer_from bytes (with_parts names ps) ps mid o ≡ Some x → Stands bytes names x.0 tokens x.1
unfolding first_at
from_takes bytes names ps tokens mid None x p some g e =
    let scope = with_parts names ps in
    let a = bind_some (full_at bytes 400 false scope mid) (λ d. outer_behind bytes ((name_of d.0, have_typedef ps) ∷ scope) ps d.0 d.1 (token_at (is_mark marks.LeftBrace) d.1)) x e in
    behind_takes bytes names ps a.0.0 tokens a.0.1 mid (token_at (is_mark marks.LeftBrace) a.0.1) x p some (full_takes bytes 400 false scope mid a.0 a.1) refl a.2
from_takes bytes names ps tokens mid (Some y) x p some g e =
    let h = mark_takes marks.Semicolon mid y g in
    subst (λ (y : Outer × List Token). Stands bytes names y.0 tokens y.1) (some_is e)
    (record {
      own = p.run.own ++ (y.0 ∷ []);
      is = record {
        spelled = record { left = p.run.own; right = y.0 ∷ []; first = p.run.spelled; second = record { token = y.0; is = h.is; whole = refl }; whole = refl };
        well = (some, p.run.well.0, tt, tt);
        deep = (let d = p.run.deep in omega (arith, d));
      };
      front = seam tokens p.run.own mid y.1 (y.0 ∷ []) p.run.front h.whole;
    })

-- what is read stands there
pub outer_takes : (bytes : List ℕ) (names : Scope) (ts : List Token) (x : Outer × List Token) → outer_at bytes names ts ≡ Some x → Stands bytes names x.0 ts x.1
unfolding outer_at
outer_takes bytes names ts x e =
    let a = bind_some (parts_at false bytes 400 (body_at bytes 400) names ts) (λ p. cond (are_some p.0) (outer_from bytes (with_parts names p.0) p.0 p.1 (token_at (is_mark marks.Semicolon) p.1)) None) x e in
    let b = if_some (are_some a.0.0) (outer_from bytes (with_parts names a.0.0) a.0.0 a.0.1 (token_at (is_mark marks.Semicolon) a.0.1)) x a.2 in
    from_takes bytes names a.0.0 ts a.0.1 (token_at (is_mark marks.Semicolon) a.0.1) x (parts_take false bytes 400 (body_at bytes 400) (body_takes bytes 400) names ts a.0 a.1) (some_parts a.0.0 b.0) refl b.1

-- behind specifiers
parts_then : (bytes : List ℕ) (names : Scope) (ps : Parts) (left right : List Token) (y : Read Outer) → ps ≢ no_part → SpellsParts bytes ps left → AreWellParts names false ps → parts_depth ps ≤ 400 → Quiet false bytes (with_parts names ps) (specify ps) right → outer_from bytes (with_parts names ps) ps right (token_at (is_mark marks.Semicolon) right) ≡ y → outer_at bytes names (left ++ right) ≡ y
unfolding outer_at
parts_then bytes names ps left right y some s w d q e =
    bind_gives (parts_at false bytes 400 (body_at bytes 400) names (left ++ right)) (λ p. cond (are_some p.0) (outer_from bytes (with_parts names p.0) p.0 p.1 (token_at (is_mark marks.Semicolon) p.1)) None) (ps, right) y
    (parts_read bytes ps (parts_again bytes ps) false 400 names left right s w (λ e. absurd cc) d q)
    (ap (λ (b : Bool). cond b (outer_from bytes (with_parts names ps) ps right (token_at (is_mark marks.Semicolon) right)) None) (are_there ps some) ∙ e)

-- behind a declarator
full_then : (bytes : List ℕ) (names : Scope) (ps : Parts) (d : Full) (left right : List Token) (y : Read Outer) → SpellsFull bytes d left → full_has_name d ≡ true → IsWellFull names false d → full_depth d ≤ 400 → Opens Follows right → outer_behind bytes ((name_of d, have_typedef ps) ∷ names) ps d right (token_at (is_mark marks.LeftBrace) right) ≡ y → outer_from bytes names ps (left ++ right) (token_at (is_mark marks.Semicolon) (left ++ right)) ≡ y
unfolding first_at
full_then bytes names ps d left right y s h w deep o e =
    ap (outer_from bytes names ps (left ++ right)) (opens_not marks.Semicolon left right (full_opens_not bytes marks.Semicolon d left refl refl refl (named_full d h) s))
    ∙ bind_gives (full_at bytes 400 false names (left ++ right)) (λ d. outer_behind bytes ((name_of d.0, have_typedef ps) ∷ names) ps d.0 d.1 (token_at (is_mark marks.LeftBrace) d.1)) (d, right) y
    (full_again bytes d 400 false names left right s w (λ _. h) deep o) e

-- what follows the declarator of a declaration is no brace
initializer_no_brace : (bytes : List ℕ) (i : Option Initial) (own rest : List Token) → Opens IsEnder rest → SpellsInitializer bytes i own → token_at (is_mark marks.LeftBrace) (own ++ rest) ≡ None
initializer_no_brace bytes None own rest o s =
    ap (λ (xs : List Token). token_at (is_mark marks.LeftBrace) (xs ++ rest)) s
    ∙ ap (token_at (is_mark marks.LeftBrace)) o.whole ∙ token_fails (is_mark marks.LeftBrace) o.token o.others (ender_not marks.LeftBrace o.token.kind refl refl refl o.is)
initializer_no_brace bytes (Some i) own rest o s =
    ap (token_at (is_mark marks.LeftBrace)) (from_token own rest s.rest s.token s.whole)
    ∙ token_fails (is_mark marks.LeftBrace) s.token (s.rest ++ rest) (passes_at (is_mark marks.LeftBrace) s.token.kind (kinds.Mark marks.Equal) false s.is refl)

others_read : (bytes : List ℕ) (names : Scope) (types : Bool) (d : Full) (i : Option Initial) (ds : Declarators) (left right rest : List Token) → SpellsInitializer bytes i left → SpellsOthers bytes ds right → IsWellInitializer names i → AreWellDeclarators names types ds → initializer_depth i ≤ 400 → declarators_depth ds ≤ 400 → others_at bytes names types d (left ++ (right ++ rest)) ≡ Some (declarator d i ds, rest)
unfolding others_at
others_read bytes names types d i ds left right rest s r w v h g =
    bind_gives (initializer_at bytes names 400 (left ++ (right ++ rest))) (λ i. declarators_at bytes names types 400 false i.1 >>= λ ds. Some (declarator d i.0 ds.0, ds.1)) (i, right ++ rest) (Some (declarator d i ds, rest))
    (initializer_read bytes names 400 i left (right ++ rest) (others_end bytes ds right rest r) s w h)
    (bind_gives (declarators_at bytes names types 400 false (right ++ rest)) (λ ds. Some (declarator d i ds.0, ds.1)) (ds, rest) (Some (declarator d i ds, rest)) (declarators_read bytes names types ds 400 false right rest r v g) refl)

declarators_then : (bytes : List ℕ) (names : Scope) (ps : Parts) (ds : Declarators) (own rest : List Token) → SpellsDeclarators bytes ds own → AreWellDeclarators names (have_typedef ps) ds → declarators_depth ds ≤ 400 → outer_from bytes names ps (own ++ rest) (token_at (is_mark marks.Semicolon) (own ++ rest)) ≡ Some (declarations ps ds, rest)
declarators_then bytes names ps none_declared own rest s w d =
    ap (outer_from bytes names ps (own ++ rest)) (ap (token_at (is_mark marks.Semicolon)) (from_token own rest [] s.token s.whole) ∙ mark_gives marks.Semicolon s.token rest s.is)
declarators_then bytes names ps (declarator x i ds) own rest s w d =
    let two = s.second in
    let e = apart own s.left s.right rest s.whole ∙ ap (λ (xs : List Token). s.left ++ xs) (apart s.right two.left two.right rest two.whole) in
    let all = two.left ++ (two.right ++ rest) in
    let end = others_end bytes ds two.right rest two.second in
    ap (λ (xs : List Token). outer_from bytes names ps xs (token_at (is_mark marks.Semicolon) xs)) e
    ∙ full_then bytes names ps x s.left all (Some (declarations ps (declarator x i ds), rest)) s.first w.0 w.1 (omega arith) (initializer_opens bytes i two.left (two.right ++ rest) end two.first)
    (ap (outer_behind bytes ((name_of x, have_typedef ps) ∷ names) ps x all) (initializer_no_brace bytes i two.left (two.right ++ rest) end two.first)
    ∙ bind_gives (others_at bytes ((name_of x, have_typedef ps) ∷ names) (have_typedef ps) x all) (λ ds. Some (declarations ps ds.0, ds.1)) (declarator x i ds, rest) (Some (declarations ps (declarator x i ds), rest))
    (others_read bytes ((name_of x, have_typedef ps) ∷ names) (have_typedef ps) x i ds two.left two.right rest two.first two.second w.2 w.3 (omega arith) (omega arith)) refl)

-- a body
record BraceFront (own : List Token) : Type 0 where
  pub token : Token
  pub others : List Token
  pub is : token.kind ≡ kinds.Mark marks.LeftBrace
  pub whole : own ≡ token ∷ others

body_opens : (bytes : List ℕ) (body : Statement) (own : List Token) → is_block body ≡ true → SpellsStatement bytes body own → BraceFront own
body_opens bytes (block line is) own e s = record { token = s.token; others = s.rest; is = s.is.kind; whole = s.whole }
body_opens bytes (if_then line x u) own e s = absurd cc
body_opens bytes (if_else line x u v) own e s = absurd cc
body_opens bytes (evaluate x) own e s = absurd cc
body_opens bytes (return_nothing line) own e s = absurd cc
body_opens bytes (return_value line x) own e s = absurd cc
body_opens bytes (empty line) own e s = absurd cc
body_opens bytes (while_loop line x u) own e s = absurd cc
body_opens bytes (do_loop line u x) own e s = absurd cc
body_opens bytes (for_loop line a b c u) own e s = absurd cc
body_opens bytes (for_declared line ps ds b c u) own e s = absurd cc
body_opens bytes (switch_on line x u) own e s = absurd cc
body_opens bytes (case_of line x u) own e s = absurd cc
body_opens bytes (default_of line u) own e s = absurd cc
body_opens bytes (labelled line text u) own e s = absurd cc
body_opens bytes (goto_label line text) own e s = absurd cc
body_opens bytes (break_off line) own e s = absurd cc
body_opens bytes (continue_on line) own e s = absurd cc

body_read : (bytes : List ℕ) (names : Scope) (ps : Parts) (d : Full) (body : Statement) (own rest : List Token) → is_block body ≡ true → is_function d ≡ true → SpellsStatement bytes body own → IsWellStatement (with_parameters_of names (nearest d)) body → statement_depth body ≤ 400 → outer_behind bytes names ps d (own ++ rest) (token_at (is_mark marks.LeftBrace) (own ++ rest)) ≡ Some (definitions ps d body, rest)
unfolding definition_at
body_read bytes names ps d (block line is) own rest e f s w h =
    let scope = with_parameters_of names (nearest d) in
    ap (outer_behind bytes names ps d (own ++ rest)) (ap (token_at (is_mark marks.LeftBrace)) (from_token own rest s.rest s.token s.whole) ∙ mark_gives marks.LeftBrace s.token (s.rest ++ rest) s.is.kind)
    ∙ ap (λ (b : Bool). cond b (block_at bytes 399 (statement_at bytes 399) scope s.token.line (s.rest ++ rest)) None >>= λ b. Some (definitions ps d b.0, b.1)) f
    ∙ ap (λ (r : Read Statement). r >>= λ b. Some (definitions ps d b.0, b.1)) (block_read bytes is 399 s.token.line scope s.rest rest (items_again bytes is) s.behind w (omega arith))
    ∙ ap (λ (l : ℕ). Some (definitions ps d (block l is), rest)) s.is.line
body_read bytes names ps d (if_then line x u) own rest e f s w h = absurd cc
body_read bytes names ps d (if_else line x u v) own rest e f s w h = absurd cc
body_read bytes names ps d (evaluate x) own rest e f s w h = absurd cc
body_read bytes names ps d (return_nothing line) own rest e f s w h = absurd cc
body_read bytes names ps d (return_value line x) own rest e f s w h = absurd cc
body_read bytes names ps d (empty line) own rest e f s w h = absurd cc
body_read bytes names ps d (while_loop line x u) own rest e f s w h = absurd cc
body_read bytes names ps d (do_loop line u x) own rest e f s w h = absurd cc
body_read bytes names ps d (for_loop line a b c u) own rest e f s w h = absurd cc
body_read bytes names ps d (for_declared line qs ds b c u) own rest e f s w h = absurd cc
body_read bytes names ps d (switch_on line x u) own rest e f s w h = absurd cc
body_read bytes names ps d (case_of line x u) own rest e f s w h = absurd cc
body_read bytes names ps d (default_of line u) own rest e f s w h = absurd cc
body_read bytes names ps d (labelled line text u) own rest e f s w h = absurd cc
body_read bytes names ps d (goto_label line text) own rest e f s w h = absurd cc
body_read bytes names ps d (break_off line) own rest e f s w h = absurd cc
body_read bytes names ps d (continue_on line) own rest e f s w h = absurd cc

definition_read : (bytes : List ℕ) (names : Scope) (ps : Parts) (d : Full) (body : Statement) (own rest : List Token) → SpellsDefinition bytes ps d body own → IsWellDefinition names ps d body → parts_depth ps ≤ 400 → full_depth d ≤ 400 → statement_depth body ≤ 400 → outer_at bytes names (own ++ rest) ≡ Some (definitions ps d body, rest)
definition_read bytes names ps d body own rest s w a b c =
    let two = s.second in
    let e = apart own s.left s.right rest s.whole in
    let f = apart s.right two.left two.right rest two.whole in
    let q = full_quiet false bytes (with_parts names ps) (specify ps) d two.left (two.right ++ rest) two.first (named_full d w.3) w.2 in
    let brace = body_opens bytes body two.right w.6 two.second in
    let follows : Opens Follows (two.right ++ rest) = record {
      token = brace.token;
      others = brace.others ++ rest;
      whole = from_token two.right rest brace.others brace.token brace.whole;
      is = (
        passes_at (is_mark marks.LeftBracket) brace.token.kind (kinds.Mark marks.LeftBrace) false brace.is refl,
        passes_at (is_mark marks.LeftParenthesis) brace.token.kind (kinds.Mark marks.LeftBrace) false brace.is refl,
        ap is_identifier brace.is,
      );
    } in
    ap (outer_at bytes names) (e ∙ ap (λ (xs : List Token). s.left ++ xs) f)
    ∙ parts_then bytes names ps s.left (two.left ++ (two.right ++ rest)) (Some (definitions ps d body, rest)) w.0 s.first w.1 a q
    (full_then bytes (with_parts names ps) ps d two.left (two.right ++ rest) (Some (definitions ps d body, rest)) two.first w.3 w.5 b follows
    (body_read bytes (with_function names ps d) ps d body two.right rest w.6 w.4 two.second w.7 c))

-- what stands there is read
pub outer_again : (bytes : List ℕ) (names : Scope) (e : Outer) (own rest : List Token) → IsExternal bytes names e own → outer_at bytes names (own ++ rest) ≡ Some (e, rest)
outer_again bytes names (declarations ps ds) own rest d =
    let s = d.spelled in
    let w = d.well in
    let h = d.deep in
    let q = declarators_quiet bytes (with_parts names ps) (specify ps) (have_typedef ps) ds s.right rest s.second w.3 w.2 in
    ap (outer_at bytes names) (apart own s.left s.right rest s.whole)
    ∙ parts_then bytes names ps s.left (s.right ++ rest) (Some (declarations ps ds, rest)) w.0 s.first w.1 (omega (arith, h)) q
    (declarators_then bytes (with_parts names ps) ps ds s.right rest s.second w.3 (omega (arith, h)))
outer_again bytes names (definitions ps d body) own rest e =
    let h = e.deep in
    definition_read bytes names ps d body own rest e.spelled e.well (omega (arith, h)) (omega (arith, h)) (omega (arith, h))

outer_read : (bytes : List ℕ) (names : Scope) (e : Outer) (tokens rest : List Token) → Stands bytes names e tokens rest → outer_at bytes names tokens ≡ Some (e, rest)
outer_read bytes names e tokens rest s = ap (outer_at bytes names) s.front ∙ outer_again bytes names e s.own rest s.is

pub none_stands : (bytes : List ℕ) (names : Scope) (tokens : List Token) → outer_at bytes names tokens ≡ None → NoneStands bytes names tokens
none_stands bytes names tokens f e rest s = let g = outer_read bytes names e tokens rest s in cc

-- at most one stands at the front
pub one_stands : (bytes : List ℕ) (names : Scope) (a b : Outer) (tokens rest others : List Token) → Stands bytes names a tokens rest → Stands bytes names b tokens others → (a ≡ b) × (rest ≡ others)
one_stands bytes names a b tokens rest others s r =
    let g = some_is (sym (outer_read bytes names a tokens rest s) ∙ outer_read bytes names b tokens others r) in
    (ap (λ (x : Outer × List Token). x.0) g, ap (λ (x : Outer × List Token). x.1) g)

pub no_longer : (bytes : List ℕ) (names : Scope) (a b : Outer) (own others : List Token) → IsExternal bytes names a own → IsExternal bytes names b (own ++ others) → others ≡ []
no_longer bytes names a b own others s r =
    let e = outer_again bytes names a own others s in
    let f = ap (outer_at bytes names) (sym (append-nil (own ++ others))) ∙ outer_again bytes names b (own ++ others) [] r in
    ap (λ (x : Outer × List Token). x.1) (some_is (sym e ∙ f))

nothing_read : (bytes : List ℕ) (names : Scope) → outer_at bytes names [] ≡ None
unfolding outer_at token_at parts_at run_at start_at
nothing_read bytes names = refl

-- without tokens nothing stands there
pub none_at_end : (bytes : List ℕ) (names : Scope) → NoneStands bytes names []
none_at_end bytes names = none_stands bytes names [] (nothing_read bytes names)

-- the first, and the others
first_stands : (bytes : List ℕ) (names : Scope) (e : Outer) (es : Externals) (tokens rest : List Token) → StandBefore bytes names (outermost e es) tokens rest → (mid : List Token) × Stands bytes names e tokens mid × StandBefore bytes (with_outer names e) es mid rest
first_stands bytes names (declarations ps ds) es tokens rest s =
    let t = s.spelled in (
      t.right ++ rest,
      record {
        own = t.left;
        is = record { spelled = t.first; well = s.well.0; deep = omega (arith, s.deep) };
        front = s.front ∙ ap (λ (xs : List Token). xs ++ rest) t.whole ∙ append_assoc t.left t.right rest;
      },
      record { own = t.right; spelled = t.second; well = s.well.1; deep = omega (arith, s.deep); front = refl },
    )
first_stands bytes names (definitions qs d body) es tokens rest s =
    let t = s.spelled in (
      t.right ++ rest,
      record {
        own = t.left;
        is = record { spelled = t.first; well = s.well.0; deep = omega (arith, s.deep) };
        front = s.front ∙ ap (λ (xs : List Token). xs ++ rest) t.whole ∙ append_assoc t.left t.right rest;
      },
      record { own = t.right; spelled = t.second; well = s.well.1; deep = omega (arith, s.deep); front = refl },
    )

moved : (bytes : List ℕ) (names : Scope) (tree : Externals) (tokens others rest : List Token) → tokens ≡ others → StandBefore bytes names tree tokens rest → StandBefore bytes names tree others rest
moved bytes names tree tokens others rest e s = subst (λ (xs : List Token). StandBefore bytes names tree xs rest) e s

starts_here : (bytes : List ℕ) (names : Scope) (tokens rest : List Token) → StandBefore bytes names no_more tokens rest → tokens ≡ rest
starts_here bytes names tokens rest s = s.front ∙ ap (λ (xs : List Token). xs ++ rest) s.spelled

none_there : (bytes : List ℕ) (names : Scope) (e : Outer) (es : Externals) (tokens rest others : List Token) → StandBefore bytes names no_more tokens rest → NoneStands bytes names rest → StandBefore bytes names (outermost e es) tokens others → ⊥
none_there bytes names e es tokens rest others s none r =
    let f = first_stands bytes names e es tokens others r in
    none e f.0 (subst (λ (xs : List Token). Stands bytes names e xs f.0) (starts_here bytes names tokens rest s) f.1)

both_more : (bytes : List ℕ) (names : Scope) (a b : Outer) (us bs : Externals) (tokens rest others : List Token) → ((mid : List Token) → StandBefore bytes (with_outer names b) us mid rest → StandBefore bytes (with_outer names b) bs mid others → NoneStands bytes (with_externals (with_outer names b) us) rest → NoneStands bytes (with_externals (with_outer names b) bs) others → (us ≡ bs) × (rest ≡ others)) → StandBefore bytes names (outermost a us) tokens rest → StandBefore bytes names (outermost b bs) tokens others → NoneStands bytes (with_externals (with_outer names a) us) rest → NoneStands bytes (with_externals (with_outer names b) bs) others → (outermost a us ≡ outermost b bs) × (rest ≡ others)
both_more bytes names a b us bs tokens rest others again s r none last =
    let f = first_stands bytes names a us tokens rest s in
    let g = first_stands bytes names b bs tokens others r in
    let e = one_stands bytes names a b tokens f.0 g.0 f.1 g.1 in
    let h = again f.0 (subst (λ (x : Outer). StandBefore bytes (with_outer names x) us f.0 rest) e.0 f.2) (moved bytes (with_outer names b) bs g.0 f.0 others (sym e.1) g.2)
    (subst (λ (x : Outer). NoneStands bytes (with_externals (with_outer names x) us) rest) e.0 none) last in
    (ap (λ (x : Outer). outermost x us) e.0 ∙ ap (outermost b) h.0, h.1)

-- external declarations stand up to one place at which none stands
pub same_end : (bytes : List ℕ) (a b : Externals) (names : Scope) (tokens rest others : List Token) → StandBefore bytes names a tokens rest → StandBefore bytes names b tokens others → NoneStands bytes (with_externals names a) rest → NoneStands bytes (with_externals names b) others → (a ≡ b) × (rest ≡ others)
same_end bytes no_more no_more names tokens rest others s r none last = (refl, sym (starts_here bytes names tokens rest s) ∙ starts_here bytes names tokens others r)
same_end bytes no_more (declared ps ds bs) names tokens rest others s r none last = absurd (none_there bytes names (declarations ps ds) bs tokens rest others s none r)
same_end bytes no_more (defines l m b bs) names tokens rest others s r none last = absurd (none_there bytes names (definitions l m b) bs tokens rest others s none r)
same_end bytes (declared ps ds us) no_more names tokens rest others s r none last = absurd (none_there bytes names (declarations ps ds) us tokens others rest r last s)
same_end bytes (defines l m b us) no_more names tokens rest others s r none last = absurd (none_there bytes names (definitions l m b) us tokens others rest r last s)
same_end bytes (declared ps ds us) (declared qs es bs) names tokens rest others s r none last =
    both_more bytes names (declarations ps ds) (declarations qs es) us bs tokens rest others (λ mid. same_end bytes us bs (with_declaration names qs es) mid rest others) s r none last
same_end bytes (declared ps ds us) (defines k n c bs) names tokens rest others s r none last =
    both_more bytes names (declarations ps ds) (definitions k n c) us bs tokens rest others (λ mid. same_end bytes us bs (with_function names k n) mid rest others) s r none last
same_end bytes (defines l m b us) (declared qs es bs) names tokens rest others s r none last =
    both_more bytes names (definitions l m b) (declarations qs es) us bs tokens rest others (λ mid. same_end bytes us bs (with_declaration names qs es) mid rest others) s r none last
same_end bytes (defines l m b us) (defines k n c bs) names tokens rest others s r none last =
    both_more bytes names (definitions l m b) (definitions k n c) us bs tokens rest others (λ mid. same_end bytes us bs (with_function names k n) mid rest others) s r none last

pub file_stands : (bytes : List ℕ) (tokens : List Token) (tree : Externals) → IsFile bytes tokens tree → StandBefore bytes built_in_names tree tokens []
file_stands bytes tokens tree f = record { own = tokens; spelled = f.spelled; well = f.well; deep = f.deep; front = sym (append-nil tokens) }

pub file_same : (bytes : List ℕ) (tokens : List Token) (a b : Externals) → IsFile bytes tokens a → IsFile bytes tokens b → a ≡ b
file_same bytes tokens a b f g =
    (same_end bytes a b built_in_names tokens [] [] (file_stands bytes tokens a f) (file_stands bytes tokens b g) (none_at_end bytes (with_externals built_in_names a)) (none_at_end bytes (with_externals built_in_names b))).0

-- one external declaration in front of others
file_spelled : (bytes : List ℕ) (e : External) (es : Externals) (own : List Token) → SpellsFile bytes (view_external e es) own → Then (SpellsOuter bytes (outer_of e)) (SpellsFile bytes es) own
file_spelled bytes (external.Declares d) es own s = s
file_spelled bytes (external.Defines d) es own s = s

spelled_file : (bytes : List ℕ) (e : External) (es : Externals) (own : List Token) → Then (SpellsOuter bytes (outer_of e)) (SpellsFile bytes es) own → SpellsFile bytes (view_external e es) own
spelled_file bytes (external.Declares d) es own s = s
spelled_file bytes (external.Defines d) es own s = s

file_well : (names : Scope) (e : External) (es : Externals) → AreWellExternals names (view_external e es) → IsWellOuter names (outer_of e) × AreWellExternals (with_outer names (outer_of e)) es
file_well names (external.Declares d) es w = (w.0, w.1)
file_well names (external.Defines d) es w = (w.0, w.1)

well_file : (names : Scope) (e : External) (es : Externals) → IsWellOuter names (outer_of e) → AreWellExternals (with_outer names (outer_of e)) es → AreWellExternals names (view_external e es)
well_file names (external.Declares d) es w v = (w, v)
well_file names (external.Defines d) es w v = (w, v)

deep_file : (e : External) (es : Externals) → file_depth (view_external e es) ≡ max (outer_depth (outer_of e)) (file_depth es)
deep_file (external.Declares d) es = refl
deep_file (external.Defines d) es = refl

names_file : (names : Scope) (e : External) (es : Externals) → with_externals names (view_external e es) ≡ with_externals (with_outer names (outer_of e)) es
names_file names (external.Declares d) es = refl
names_file names (external.Defines d) es = refl

-- one external declaration more
spelled_push : (bytes : List ℕ) (es : List External) (e : External) (own back : List Token) → SpellsFile bytes (externals_of es) own → SpellsOuter bytes (outer_of e) back → SpellsFile bytes (externals_of (es ++ e ∷ [])) (own ++ back)
spelled_push bytes [] e own back s t =
    spelled_file bytes e no_more (own ++ back) (record { left = back; right = []; first = t; second = refl; whole = ap (λ (xs : List Token). xs ++ back) s ∙ sym (append-nil back) })
spelled_push bytes (x ∷ xs) e own back s t =
    let f = file_spelled bytes x (externals_of xs) own s in
    spelled_file bytes x (externals_of (xs ++ e ∷ [])) (own ++ back)
    (record { left = f.left; right = f.right ++ back; first = f.first; second = spelled_push bytes xs e f.right back f.second t; whole = ap (λ (xs : List Token). xs ++ back) f.whole ∙ append_assoc f.left f.right back })

well_push : (es : List External) (names : Scope) (e : External) → AreWellExternals names (externals_of es) → IsWellOuter (with_externals names (externals_of es)) (outer_of e) → AreWellExternals names (externals_of (es ++ e ∷ []))
well_push [] names e w v = well_file names e no_more v tt
well_push (x ∷ xs) names e w v =
    let f = file_well names x (externals_of xs) w in
    well_file names x (externals_of (xs ++ e ∷ [])) f.0
    (well_push xs (with_outer names (outer_of x)) e f.1 (subst (λ (s : Scope). IsWellOuter s (outer_of e)) (names_file names x (externals_of xs)) v))

deep_push : (es : List External) (e : External) (n : ℕ) → file_depth (externals_of es) ≤ n → outer_depth (outer_of e) ≤ n → file_depth (externals_of (es ++ e ∷ [])) ≤ n
deep_push [] e n h g = let d = deep_file e no_more in omega (arith, d)
deep_push (x ∷ xs) e n h g =
    let d = deep_file x (externals_of xs) in
    let f = deep_file x (externals_of (xs ++ e ∷ [])) in
    let below = deep_push xs e n (omega (arith, d)) g in
    omega (arith, d, f, below)

names_push : (es : List External) (names : Scope) (e : External) → with_externals names (externals_of (es ++ e ∷ [])) ≡ with_outer (with_externals names (externals_of es)) (outer_of e)
names_push [] names e = names_file names e no_more
names_push (x ∷ xs) names e =
    names_file names x (externals_of (xs ++ e ∷ [])) ∙ names_push xs (with_outer names (outer_of x)) e ∙ ap (λ (s : Scope). with_outer s (outer_of e)) (sym (names_file names x (externals_of xs)))

pub begins : (bytes : List ℕ) (names : Scope) (es : List External) (tokens : List Token) → es ≡ [] → StandBefore bytes names (externals_of es) tokens tokens
begins bytes names es tokens e =
    subst (λ (xs : List External). StandBefore bytes names (externals_of xs) tokens tokens) (sym e)
    (record { own = []; spelled = refl; well = tt; deep = omega arith; front = refl })

pub begins_names : (names other : Scope) (es : List External) → es ≡ [] → other ≡ names → other ≡ with_externals names (externals_of es)
begins_names names other es e f = f ∙ ap (λ (xs : List External). with_externals names (externals_of xs)) (sym e)

pub one_more : (bytes : List ℕ) (names now : Scope) (es fs : List External) (e : External) (tokens mid rest : List Token) → fs ≡ es ++ e ∷ [] → now ≡ with_externals names (externals_of es) → StandBefore bytes names (externals_of es) tokens mid → Stands bytes now (outer_of e) mid rest → StandBefore bytes names (externals_of fs) tokens rest
one_more bytes names now es fs e tokens mid rest f same s r =
    subst (λ (xs : List External). StandBefore bytes names (externals_of xs) tokens rest) (sym f)
    (record {
      own = s.own ++ r.own;
      spelled = spelled_push bytes es e s.own r.own s.spelled r.is.spelled;
      well = well_push es names e s.well (subst (λ (x : Scope). IsWellOuter x (outer_of e)) same r.is.well);
      deep = deep_push es e 400 s.deep r.is.deep;
      front = s.front ∙ ap (λ (xs : List Token). s.own ++ xs) r.front ∙ sym (append_assoc s.own r.own rest);
    })

pub more_names : (names now new : Scope) (es fs : List External) (e : External) → fs ≡ es ++ e ∷ [] → now ≡ with_externals names (externals_of es) → new ≡ with_outer now (outer_of e) → new ≡ with_externals names (externals_of fs)
more_names names now new es fs e f same is =
    is ∙ ap (λ (s : Scope). with_outer s (outer_of e)) same ∙ sym (names_push es names e) ∙ ap (λ (xs : List External). with_externals names (externals_of xs)) (sym f)

not_none : (es : List External) (e : External) → externals_of (es ++ e ∷ []) ≢ no_more
not_none [] (external.Declares d) f = cc
not_none [] (external.Defines d) f = cc
not_none (external.Declares d ∷ xs) e f = cc
not_none (external.Defines d ∷ xs) e f = cc

pub whole_file : (bytes : List ℕ) (es fs : List External) (e : External) (tokens rest : List Token) → fs ≡ es ++ e ∷ [] → rest ≡ [] → StandBefore bytes built_in_names (externals_of fs) tokens rest → IsFile bytes tokens (externals_of fs)
whole_file bytes es fs e tokens rest f end s = record {
  spelled = subst (λ (xs : List Token). SpellsFile bytes (externals_of fs) xs) (sym (s.front ∙ ap (λ (xs : List Token). s.own ++ xs) end ∙ append-nil s.own)) s.spelled;
  some = subst (λ (xs : List External). externals_of xs ≢ no_more) (sym f) (not_none es e);
  well = s.well;
  deep = s.deep;
}

-- no file, where external declarations stand up to a place at which none stands, and at least a token is left or none stood
pub no_file : (bytes : List ℕ) (es : List External) (tokens rest : List Token) → StandBefore bytes built_in_names (externals_of es) tokens rest → (rest ≡ [] → es ≡ []) → NoneStands bytes (with_externals built_in_names (externals_of es)) rest → (tree : Externals) → IsFile bytes tokens tree → ⊥
no_file bytes es tokens rest s begun none tree f =
    let e = same_end bytes tree (externals_of es) built_in_names tokens [] rest (file_stands bytes tokens tree f) s (none_at_end bytes (with_externals built_in_names tree)) none in
    f.some (e.0 ∙ ap externals_of (begun (sym e.1)))

pub empty_by : {A : Type 0} (xs : List A) (b : Bool) → b ≡ (length xs == 0) → b ≡ true → xs ≡ []
empty_by [] b e f = refl
empty_by (x ∷ xs) b e f = absurd (let g = eqb-true (length (x ∷ xs)) 0 (sym e ∙ f) in omega (arith, g))

pub some_left : {A : Type 0} (xs : List A) (b : Bool) → b ≡ (length xs == 0) → b ≡ false → xs ≡ [] → ⊥
some_left [] b e f g = cc
some_left (x ∷ xs) b e f g = cc

pub none_here : (bytes : List ℕ) (now names : Scope) (es : List External) (rest : List Token) → now ≡ with_externals names (externals_of es) → NoneStands bytes now rest → NoneStands bytes (with_externals names (externals_of es)) rest
none_here bytes now names es rest e n = subst (λ (x : Scope). NoneStands bytes x rest) e n
