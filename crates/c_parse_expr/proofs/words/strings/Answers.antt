use Rattle.std.proofs.Common.{◌≡◌, [], ◌∷◌, ◌++◌, ℕ, List, map, Some, ap, sym, ◌∙◌, arith}
use Rattle.c_token.specs.Spelling.{text_of}
use Rattle.c_token.specs.declared.token.Token.{Token}
use Rattle.c_tree.specs.declared.expr.Name.{Name}
use Rattle.c_tree.specs.Tree.{view_name}
use Rattle.c_parse_expr.specs.inner.Reading.{quoted, string_at, strings_at, strings_behind}
use Rattle.c_parse_expr.proofs.Rows.{fronted, stops, pushed, front_first}
use Rattle.c_parse_expr.proofs.words.strings.Goals as goal

pub parts-preserved : goal.parts-preserved
parts-preserved c =
    let item = string_at c.args.bytes.now in
    let all = fronted (map view_name c.push.new.self.items) (strings_at c.args.bytes.now c.args.tokens.now) in
    let e = c.parts.invariant.exact in
    let is : item tt c.parts.rest.now ≡ Some (Some (view_name c.in_ok-text_name.field-0, tt, c.in-Some.behind.now)) =
    ap quoted (sym c.in-Some.ensures.value) ∙ ap (λ (x : List ℕ). Some (Some (x, tt, c.in-Some.behind.now))) (sym c.in_ok-text_name.ensures) in
    record {
      shorter = omega (arith, c.in-Some.ensures.shorter, c.parts.invariant.shorter);
      exact = pushed item view_name e.0 tt tt c.parts.parts.items c.push-in-Some.new.self.items c.in_ok-text_name.field-0 c.parts.rest.now c.in-Some.behind.now all e.1 c.in-Some.ensures.shorter is c.in_ok-push-2.ensures.items e.2;
    }

first_read : (bytes first : List ℕ) (ys : List Name) (y : Name) (ts : List Token) → ys ≡ [] ++ y ∷ [] → view_name y ≡ first → strings_behind bytes first ts ≡ fronted (map view_name ys) (strings_at bytes ts)
unfolding strings_behind
first_read bytes first ys y ts e f = front_first view_name ys y first (strings_at bytes ts) e f

pub returns-clause-exact : goal.returns-clause-exact
returns-clause-exact c =
    let item = string_at c.args.bytes.now in
    let all = fronted (map view_name c.push.new.self.items) (strings_at c.args.bytes.now c.args.tokens.now) in
    let e = c.parts.invariant.exact in
    let items = c.in_ok-push.ensures.items ∙ ap (λ (xs : List Name). xs ++ c.in_ok-name_of.field-0 ∷ []) c.new-parts.ensures.items in
    first_read c.args.bytes.now (text_of c.args.bytes.now c.args.token) c.push.new.self.items c.in_ok-name_of.field-0 c.args.tokens.now items c.in_ok-name_of.ensures
    ∙ stops item e.0 tt (map view_name c.parts.parts.items) c.parts.rest.now all e.1 (ap quoted (sym c.in_default.ensures.value)) e.2
