-- The turns of the loop of a block, and definitions with what stands before them.
use Rattle.std.proofs.Common.{◌≡◌, ◌<◌, ◌+◌, ℕ, List, [], ◌∷◌, length, Bool, true, false, cond, Option, Some, None, refl, ap, sym, ◌∙◌}
use Rattle.std.specs.Prelude.{option_map, Vec}
use Rattle.std.specs.Global.{Global}
use Rattle.std.specs.List.{insert}
use Rattle.c_token.specs.declared.token.Token.{Token}
use Rattle.c_token.specs.declared.token.Mark.TheVariants as marks
use Rattle.c_tree.specs.declared.declaration.InitDeclarator.{InitDeclarator}
use Rattle.c_tree.specs.declared.statement.Item.{Item}
use Rattle.c_tree.specs.declared.statement.Item as item
use Rattle.c_tree.specs.declared.statement.Stmt.{Block}
use Rattle.c_tree.specs.Names.{Scope}
use Rattle.c_tree.specs.Declarations.{Full, Parts, Declarators, declarator, Initial, view_full, view_initializer, declarators_of, name_of, nearest, is_function, with_parameters_of, with_declarators, with_declaration}
use Rattle.c_tree.specs.Statements.{Statement, Items, done, block, view_statement, view_item, items_of}
use Rattle.c_tree.proofs.StatementViews.{view_block}
use Rattle.c_parse_expr.specs.inner.Many.{◌>>=◌}
use Rattle.c_parse_expr.specs.Reading.{is_mark}
use Rattle.c_parse_parts.specs.inner.Reading.{Read, token_at, run_at, initializer_at, declarators_at}
use Rattle.c_parse_parts.proofs.Lists.{placed_all, front_none, Left, closes}
use Rattle.c_parse_parts.proofs.Loops.{ended_some, Extends, extends_more, declaration_extends}
use Rattle.c_parse_statements.specs.inner.Reading.{definition_at, others_at, statement_at, Piece, declaration, statement, placed, with_piece, Reader, items_list, items_at, block_at}
use Rattle.c_parse_statements.specs.Standing.{definitions}
use Rattle.c_parse_statements.specs.inner.Pieces.{piece_of}

-- items
all_items : (is : List Item) → placed_all placed piece_of is done ≡ items_of is
all_items [] = refl
all_items (item.Declares d ∷ is) = ap (view_item (item.Declares d)) (all_items is)
all_items (item.Does' p s ∷ is) = ap (view_item (item.Does' p s)) (all_items is)

pub items_begin : (bytes : List ℕ) (n : ℕ) (sub : Reader) (names : Scope) (is : List Item) (ts : List Token) → is ≡ [] → Left (items_list bytes n sub) piece_of (length ts + 1) names is ts (items_at bytes n sub names ts)
unfolding items_at
items_begin bytes n sub names is ts e = front_none placed piece_of is (run_at (items_list bytes n sub) (length ts + 1) names ts) e

pub items_close : (bytes : List ℕ) (n m : ℕ) (sub : Reader) (names : Scope) (is : List Item) (ts : List Token) (x : Token × List Token) (all : Read Items) → length ts < m → Some x ≡ token_at (is_mark marks.RightBrace) ts → Left (items_list bytes n sub) piece_of m names is ts all → all ≡ Some (items_of is, x.1)
items_close bytes n m sub names is ts x all h e f =
    closes (items_list bytes n sub) piece_of m names is ts (done, x.1) all h (ended_some marks.RightBrace done ts x e) f
    ∙ ap (λ (t : Items). Some (t, x.1)) (all_items is)

pub block_made : (bytes : List ℕ) (n : ℕ) (sub : Reader) (names : Scope) (line : ℕ) (ts rest : List Token) (is : Vec Item Global) → items_at bytes n sub names ts ≡ Some (items_of is.items, rest) → block_at bytes n sub names line ts ≡ Some (view_statement (Block line is), rest)
unfolding block_at
block_made bytes n sub names line ts rest is e =
    ap (λ (o : Read Items). o >>= λ is. Some (block line is.0, is.1)) e
    ∙ ap (λ (s : Statement). Some (s, rest)) (sym (view_block line is))

-- names that are declared later stand in front
piece_extends : (p : Piece) (names : Scope) → Extends names (with_piece names p)
piece_extends (declaration ps ds) names = declaration_extends names (with_declaration names ps ds) ps ds refl
piece_extends (statement s) names = ([], refl)

pub extends_on : (names now new : Scope) (i : Item) → Extends names now → new ≡ with_piece now (piece_of i) → Extends names new
extends_on names now new i e f =
    let g = piece_extends (piece_of i) now in
    extends_more names now new e (g.0, f ∙ g.1)

-- definitions
pub defined : (bytes : List ℕ) (names now : Scope) (ps : Parts) (d : Full) (line : ℕ) (ts rest : List Token) (body : Statement) (b : Bool) → b ≡ true → b ≡ is_function d → now ≡ with_parameters_of names (nearest d) → block_at bytes 399 (statement_at bytes 399) now line ts ≡ Some (body, rest) → definition_at bytes names ps d line ts ≡ Some (definitions ps d body, rest)
unfolding definition_at
defined bytes names now ps d line ts rest body b e f g h =
    ap (λ (x : Bool). cond x (block_at bytes 399 (statement_at bytes 399) (with_parameters_of names (nearest d)) line ts) None >>= λ b. Some (definitions ps d b.0, b.1)) (sym f ∙ e)
    ∙ ap (λ (o : Read Statement). o >>= λ b. Some (definitions ps d b.0, b.1)) (ap (λ (s : Scope). block_at bytes 399 (statement_at bytes 399) s line ts) (sym g) ∙ h)

-- declarations behind their first declarator
insert_first : {X : Type 0} (xs : List X) (x : X) → insert xs 0 x ≡ x ∷ xs
insert_first [] x = refl
insert_first (y ∷ xs) x = refl

pub others_made : (bytes : List ℕ) (names : Scope) (types : Bool) (ts mid rest : List Token) (d : InitDeclarator) (ds all : List InitDeclarator) → initializer_at bytes names 400 ts ≡ Some (option_map view_initializer d.initializer, mid) → declarators_at bytes names types 400 false mid ≡ Some (declarators_of ds, rest) → all ≡ insert ds 0 d → others_at bytes names types (view_full d.declarator) ts ≡ Some (declarators_of all, rest)
unfolding others_at
others_made bytes names types ts mid rest d ds all e f g =
    ap (λ (o : Read (Option Initial)). o >>= λ i. declarators_at bytes names types 400 false i.1 >>= λ ds. Some (declarator (view_full d.declarator) i.0 ds.0, ds.1)) e
    ∙ ap (λ (o : Read Declarators). o >>= λ ds. Some (declarator (view_full d.declarator) (option_map view_initializer d.initializer) ds.0, ds.1)) f
    ∙ ap (λ (xs : List InitDeclarator). Some (declarators_of xs, rest)) (sym (g ∙ insert_first ds d))

pub others_names : (before names new : Scope) (types : Bool) (d : InitDeclarator) (ds all : List InitDeclarator) → names ≡ (name_of (view_full d.declarator), types) ∷ before → new ≡ with_declarators names types (declarators_of ds) → all ≡ insert ds 0 d → new ≡ with_declarators before types (declarators_of all)
others_names before names new types d ds all e f g =
    f ∙ ap (λ (s : Scope). with_declarators s types (declarators_of ds)) e
    ∙ ap (λ (xs : List InitDeclarator). with_declarators before types (declarators_of xs)) (sym (g ∙ insert_first ds d))
