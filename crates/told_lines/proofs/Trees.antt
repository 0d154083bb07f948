-- The lines of a tree are those of its tokens.
use Rattle.std.proofs.Common.{◌≡◌, ℕ, Bool, true, List, [], ◌∷◌, ◌++◌, Option, Some, None, subst}
use Rattle.std.proofs.lemmas.Bool.{false≢true}
use Rattle.c_token.specs.declared.token.Token.{Token}
use Rattle.c_tree.specs.Names.{Scope, built_in_names}
use Rattle.c_tree.specs.Spelling.{Single, Behind, Then, Spells, SpellsArguments, SpellsRest}
use Rattle.c_tree.specs.Tree.{Tree, Trees, constant, character, strings, name, parens, unary, cast, sizeof_expr, sizeof_type, step, member, binary, choice, assign, comma, call, address, dereference, arrow, subscript, none, more}
use Rattle.c_tree.specs.Declarations.{Parts, Full, full_unnamed, full_named, full_inside, full_pointing, Initial, initial, braces, Initials, no_initial, initials, Declarators, none_declared, declarator, full_has_name, have_typedef, with_parts, with_body, with_function, with_declaration}
use Rattle.c_tree.specs.Statements.{Statement, block, if_then, if_else, evaluate, return_nothing, return_value, empty, while_loop, do_loop, for_loop, for_declared, switch_on, case_of, default_of, labelled, goto_label, break_off, continue_on, Items, done, declares, does, Externals, no_more, declared, defines}
use Rattle.c_tree.specs.Files.{SpellsFull, SpellsInitial, SpellsInitials, SpellsOtherInitials, SpellsInitializer, SpellsOthers, SpellsDeclarators, SpellsDeclaration, SpellsMaybe, SpellsStatement, SpellsItems, SpellsFile, IsWellStatement, AreWellItems, AreWellDeclarators, IsWellDeclaration, AreWellExternals, IsFile}
use Rattle.told_lines.specs.TreeLines.{InTree, InTrees, InMaybeTree, InInitial, InInitials, InInitializer, InDeclarator, InDeclarators, InTreeStatement, InTreeItems, InExternals}
use Rattle.told_lines.specs.TokenLines.{InTokens}

module _ (P : ℕ → Type 0) where
  -- ---- tokens

  lined_left : (xs ys : List Token) → InTokens P (xs ++ ys) → InTokens P xs
  lined_left [] ys all = tt
  lined_left (x ∷ xs) ys all = (all.0, lined_left xs ys all.1)

  lined_right : (xs ys : List Token) → InTokens P (xs ++ ys) → InTokens P ys
  lined_right [] ys all = all
  lined_right (x ∷ xs) ys all = lined_right xs ys all.1

  whole_of : (xs ys : List Token) → xs ≡ ys → InTokens P xs → InTokens P ys
  whole_of xs ys same all = subst (λ (ts : List Token). InTokens P ts) same all

  left : (A B : List Token → Type 0) (tokens : List Token) (t : Then A B tokens) → InTokens P tokens → InTokens P t.left
  left A B tokens t all = lined_left t.left t.right (whole_of tokens (t.left ++ t.right) t.whole all)

  right : (A B : List Token → Type 0) (tokens : List Token) (t : Then A B tokens) → InTokens P tokens → InTokens P t.right
  right A B tokens t all = lined_right t.left t.right (whole_of tokens (t.left ++ t.right) t.whole all)

  after : (Q : Token → Type 0) (B : List Token → Type 0) (tokens : List Token) (b : Behind Q B tokens) → InTokens P tokens → InTokens P b.rest
  after Q B tokens b all = (whole_of tokens (b.token ∷ b.rest) b.whole all).1

  front : (Q : Token → Type 0) (B : List Token → Type 0) (tokens : List Token) (b : Behind Q B tokens) → InTokens P tokens → P b.token.line
  front Q B tokens b all = (whole_of tokens (b.token ∷ b.rest) b.whole all).0

  lone : (Q : Token → Type 0) (tokens : List Token) (s : Single Q tokens) → InTokens P tokens → P s.token.line
  lone Q tokens s all = (whole_of tokens (s.token ∷ []) s.whole all).0

  module _ (bytes : List ℕ) where
    -- ---- expressions

    mutual
      tree_lined : (e : Tree) (tokens : List Token) → Spells bytes e tokens → InTokens P tokens → InTree P e
      tree_lined (constant line c) tokens spelled all = subst P spelled.is.line (lone _ tokens spelled all)
      tree_lined (character line bits) tokens spelled all = subst P spelled.is.line (lone _ tokens spelled all)
      tree_lined (strings line []) tokens spelled all = absurd spelled
      tree_lined (strings line (part ∷ parts)) tokens spelled all = subst P spelled.is.line (front _ _ tokens spelled all)
      tree_lined (name line n) tokens spelled all = subst P spelled.is.line (lone _ tokens spelled all)
      tree_lined (parens line e) tokens spelled all =
          let t = spelled.behind in (subst P spelled.is.line (front _ _ tokens spelled all), tree_lined e t.left t.first (left _ _ spelled.rest t (after _ _ tokens spelled all)))
      tree_lined (unary line op e) tokens spelled all = (subst P spelled.is.line (front _ _ tokens spelled all), tree_lined e spelled.rest spelled.behind (after _ _ tokens spelled all))
      tree_lined (address line e) tokens spelled all = (subst P spelled.is.line (front _ _ tokens spelled all), tree_lined e spelled.rest spelled.behind (after _ _ tokens spelled all))
      tree_lined (dereference line e) tokens spelled all = (subst P spelled.is.line (front _ _ tokens spelled all), tree_lined e spelled.rest spelled.behind (after _ _ tokens spelled all))
      tree_lined (cast line parts d e) tokens spelled all =
          let t = spelled.behind in
          let u = t.second in
          let v = u.second in
          (subst P spelled.is.line (front _ _ tokens spelled all), tree_lined e v.rest v.behind (after _ _ u.right v (right _ _ t.right u (right _ _ spelled.rest t (after _ _ tokens spelled all)))))
      tree_lined (sizeof_expr line e) tokens spelled all = (subst P spelled.is.line (front _ _ tokens spelled all), tree_lined e spelled.rest spelled.behind (after _ _ tokens spelled all))
      tree_lined (sizeof_type line parts d) tokens spelled all = subst P spelled.is.line (front _ _ tokens spelled all)
      tree_lined (step line op e) tokens spelled all =
          let t = spelled.second in (subst P t.is.line (lone _ spelled.right t (right _ _ tokens spelled all)), tree_lined e spelled.left spelled.first (left _ _ tokens spelled all))
      tree_lined (member line e n) tokens spelled all =
          let t = spelled.second in (subst P t.is.line (front _ _ spelled.right t (right _ _ tokens spelled all)), tree_lined e spelled.left spelled.first (left _ _ tokens spelled all))
      tree_lined (arrow line e n) tokens spelled all =
          let t = spelled.second in (subst P t.is.line (front _ _ spelled.right t (right _ _ tokens spelled all)), tree_lined e spelled.left spelled.first (left _ _ tokens spelled all))
      tree_lined (subscript line a b) tokens spelled all =
          let t = spelled.second in
          let r = right _ _ tokens spelled all in
          let u = t.behind in
          (subst P t.is.line (front _ _ spelled.right t r), tree_lined a spelled.left spelled.first (left _ _ tokens spelled all), tree_lined b u.left u.first (left _ _ t.rest u (after _ _ spelled.right t r)))
      tree_lined (binary line op a b) tokens spelled all =
          let t = spelled.second in
          let r = right _ _ tokens spelled all in
          (subst P t.is.line (front _ _ spelled.right t r), tree_lined a spelled.left spelled.first (left _ _ tokens spelled all), tree_lined b t.rest t.behind (after _ _ spelled.right t r))
      tree_lined (choice line test a b) tokens spelled all =
          let t = spelled.second in
          let r = right _ _ tokens spelled all in
          let u = t.behind in
          let s = after _ _ spelled.right t r in
          let v = u.second in (
            subst P t.is.line (front _ _ spelled.right t r),
            tree_lined test spelled.left spelled.first (left _ _ tokens spelled all),
            tree_lined a u.left u.first (left _ _ t.rest u s),
            tree_lined b v.rest v.behind (after _ _ u.right v (right _ _ t.rest u s)),
          )
      tree_lined (assign line op a b) tokens spelled all =
          let t = spelled.second in
          let r = right _ _ tokens spelled all in
          (subst P t.is.line (front _ _ spelled.right t r), tree_lined a spelled.left spelled.first (left _ _ tokens spelled all), tree_lined b t.rest t.behind (after _ _ spelled.right t r))
      tree_lined (comma line a b) tokens spelled all =
          let t = spelled.second in
          let r = right _ _ tokens spelled all in
          (subst P t.is.line (front _ _ spelled.right t r), tree_lined a spelled.left spelled.first (left _ _ tokens spelled all), tree_lined b t.rest t.behind (after _ _ spelled.right t r))
      tree_lined (call f arguments) tokens spelled all =
          let t = spelled.second in (tree_lined f spelled.left spelled.first (left _ _ tokens spelled all), arguments_lined arguments t.rest t.behind (after _ _ spelled.right t (right _ _ tokens spelled all)))

      arguments_lined : (es : Trees) (tokens : List Token) → SpellsArguments bytes es tokens → InTokens P tokens → InTrees P es
      arguments_lined none tokens spelled all = tt
      arguments_lined (more first rest) tokens spelled all = (tree_lined first spelled.left spelled.first (left _ _ tokens spelled all), behind_lined rest spelled.right spelled.second (right _ _ tokens spelled all))

      behind_lined : (es : Trees) (tokens : List Token) → SpellsRest bytes es tokens → InTokens P tokens → InTrees P es
      behind_lined none tokens spelled all = tt
      behind_lined (more first rest) tokens spelled all =
          let t = spelled.behind in
          let a = after _ _ tokens spelled all in
          (tree_lined first t.left t.first (left _ _ spelled.rest t a), behind_lined rest t.right t.second (right _ _ spelled.rest t a))

    maybe_lined : (o : Option Tree) (tokens : List Token) → SpellsMaybe bytes o tokens → InTokens P tokens → InMaybeTree P o
    maybe_lined None tokens spelled all = tt
    maybe_lined (Some e) tokens spelled all = tree_lined e tokens spelled all

    -- ---- declarators and initializers

    full_lined : (d : Full) (tokens : List Token) → full_has_name d ≡ true → SpellsFull bytes d tokens → InTokens P tokens → InDeclarator P d
    full_lined (full_unnamed suffixes) tokens has spelled all = absurd (false≢true has)
    full_lined (full_named line n suffixes) tokens has spelled all = (subst P spelled.is.line (front _ _ tokens spelled all), subst P spelled.is.line (front _ _ tokens spelled all))
    full_lined (full_inside line d suffixes) tokens has spelled all =
        let t = spelled.behind in (subst P spelled.is.line (front _ _ tokens spelled all), (full_lined d t.left has t.first (left _ _ spelled.rest t (after _ _ tokens spelled all))).1)
    full_lined (full_pointing line qs d) tokens has spelled all =
        let t = spelled.behind in (subst P spelled.is.line (front _ _ tokens spelled all), (full_lined d t.right has t.second (right _ _ spelled.rest t (after _ _ tokens spelled all))).1)

    mutual
      initial_lined : (i : Initial) (tokens : List Token) → SpellsInitial bytes i tokens → InTokens P tokens → InInitial P i
      initial_lined (initial e) tokens spelled all = tree_lined e tokens spelled all
      initial_lined (braces line items) tokens spelled all = (subst P spelled.is.line (front _ _ tokens spelled all), initials_lined items spelled.rest spelled.behind (after _ _ tokens spelled all))

      initials_lined : (is : Initials) (tokens : List Token) → SpellsInitials bytes is tokens → InTokens P tokens → InInitials P is
      initials_lined no_initial tokens spelled all = tt
      initials_lined (initials first rest) tokens spelled all = (initial_lined first spelled.left spelled.first (left _ _ tokens spelled all), other_initials_lined rest spelled.right spelled.second (right _ _ tokens spelled all))

      other_initials_lined : (is : Initials) (tokens : List Token) → SpellsOtherInitials bytes is tokens → InTokens P tokens → InInitials P is
      other_initials_lined no_initial tokens spelled all = tt
      other_initials_lined (initials first rest) tokens spelled all =
          let t = spelled.behind in
          let a = after _ _ tokens spelled all in
          (initial_lined first t.left t.first (left _ _ spelled.rest t a), other_initials_lined rest t.right t.second (right _ _ spelled.rest t a))

    initializer_lined : (i : Option Initial) (tokens : List Token) → SpellsInitializer bytes i tokens → InTokens P tokens → InInitializer P i
    initializer_lined None tokens spelled all = tt
    initializer_lined (Some i) tokens spelled all = initial_lined i spelled.rest spelled.behind (after _ _ tokens spelled all)

    others_lined : (names : Scope) (types : Bool) (ds : Declarators) (tokens : List Token) → SpellsOthers bytes ds tokens → AreWellDeclarators names types ds → InTokens P tokens → InDeclarators P ds
    others_lined names types none_declared tokens spelled well all = tt
    others_lined names types (declarator d i rest) tokens spelled well all =
        let inner = after _ _ tokens spelled all in
        let one = spelled.behind in
        let two = one.second in
        let r = right _ _ spelled.rest one inner in (
          full_lined d one.left well.0 one.first (left _ _ spelled.rest one inner),
          initializer_lined i two.left two.first (left _ _ one.right two r),
          others_lined _ types rest two.right two.second well.3 (right _ _ one.right two r),
        )

    declarators_lined : (names : Scope) (types : Bool) (ds : Declarators) (tokens : List Token) → SpellsDeclarators bytes ds tokens → AreWellDeclarators names types ds → InTokens P tokens → InDeclarators P ds
    declarators_lined names types none_declared tokens spelled well all = tt
    declarators_lined names types (declarator d i rest) tokens spelled well all =
        let two = spelled.second in
        let r = right _ _ tokens spelled all in (
          full_lined d spelled.left well.0 spelled.first (left _ _ tokens spelled all),
          initializer_lined i two.left two.first (left _ _ spelled.right two r),
          others_lined _ types rest two.right two.second well.3 (right _ _ spelled.right two r),
        )

    declaration_lined : (names : Scope) (parts : Parts) (ds : Declarators) (tokens : List Token) → SpellsDeclaration bytes parts ds tokens → IsWellDeclaration names parts ds → InTokens P tokens → InDeclarators P ds
    declaration_lined names parts ds tokens spelled well all = declarators_lined (with_parts names parts) (have_typedef parts) ds spelled.right spelled.second well.3 (right _ _ tokens spelled all)

    -- ---- statements

    mutual
      statement_lined : (names : Scope) (s : Statement) (tokens : List Token) → SpellsStatement bytes s tokens → IsWellStatement names s → InTokens P tokens → InTreeStatement P s
      statement_lined names (block line is) tokens spelled well all = items_lined names is spelled.rest spelled.behind well (after _ _ tokens spelled all)
      statement_lined names (if_then line test s) tokens spelled well all =
          let a = after _ _ tokens spelled all in
          let b = after _ _ spelled.rest spelled.behind a in
          let t = spelled.behind.behind in
          let c = right _ _ spelled.behind.rest t b in
          (subst P spelled.is.line (front _ _ tokens spelled all), tree_lined test t.left t.first (left _ _ spelled.behind.rest t b), statement_lined names s t.second.rest t.second.behind well.2 (after _ _ t.right t.second c))
      statement_lined names (if_else line test s u) tokens spelled well all =
          let a = after _ _ tokens spelled all in
          let b = after _ _ spelled.rest spelled.behind a in
          let t = spelled.behind.behind in
          let c = after _ _ t.right t.second (right _ _ spelled.behind.rest t b) in
          let w = t.second.behind in (
            subst P spelled.is.line (front _ _ tokens spelled all),
            tree_lined test t.left t.first (left _ _ spelled.behind.rest t b),
            statement_lined names s w.left w.first well.3 (left _ _ t.second.rest w c),
            statement_lined names u w.second.rest w.second.behind well.4 (after _ _ w.right w.second (right _ _ t.second.rest w c)),
          )
      statement_lined names (evaluate e) tokens spelled well all = tree_lined e spelled.left spelled.first (left _ _ tokens spelled all)
      statement_lined names (return_nothing line) tokens spelled well all = subst P spelled.is.line (front _ _ tokens spelled all)
      statement_lined names (return_value line e) tokens spelled well all =
          let t = spelled.behind in (subst P spelled.is.line (front _ _ tokens spelled all), tree_lined e t.left t.first (left _ _ spelled.rest t (after _ _ tokens spelled all)))
      statement_lined names (empty line) tokens spelled well all = tt
      statement_lined names (while_loop line test s) tokens spelled well all =
          let t = spelled.behind.behind in
          let b = after _ _ spelled.rest spelled.behind (after _ _ tokens spelled all) in
          (subst P spelled.is.line (front _ _ tokens spelled all), tree_lined test t.left t.first (left _ _ spelled.behind.rest t b), statement_lined names s t.second.rest t.second.behind well.2 (after _ _ t.right t.second (right _ _ spelled.behind.rest t b)))
      statement_lined names (do_loop line s test) tokens spelled well all =
          let t = spelled.behind in
          let a = after _ _ tokens spelled all in
          let r = right _ _ spelled.rest t a in
          let u = t.second.behind in
          let v = u.behind in
          let b = after _ _ t.second.rest u (after _ _ t.right t.second r) in
          (subst P spelled.is.line (front _ _ tokens spelled all), statement_lined names s t.left t.first well.0 (left _ _ spelled.rest t a), tree_lined test v.left v.first (left _ _ u.rest v b))
      statement_lined names (for_loop line first test last s) tokens spelled well all =
          let a = after _ _ spelled.rest spelled.behind (after _ _ tokens spelled all) in
          let t = spelled.behind.behind in
          let c = after _ _ t.right t.second (right _ _ spelled.behind.rest t a) in
          let h = t.second.behind in
          let e = after _ _ h.right h.second (right _ _ t.second.rest h c) in
          let u = h.second.behind in (
            subst P spelled.is.line (front _ _ tokens spelled all),
            maybe_lined first t.left t.first (left _ _ spelled.behind.rest t a),
            maybe_lined test h.left h.first (left _ _ t.second.rest h c),
            maybe_lined last u.left u.first (left _ _ h.second.rest u e),
            statement_lined names s u.second.rest u.second.behind well.3 (after _ _ u.right u.second (right _ _ h.second.rest u e)),
          )
      statement_lined names (for_declared line parts ds test last s) tokens spelled well all =
          let a = after _ _ spelled.rest spelled.behind (after _ _ tokens spelled all) in
          let t = spelled.behind.behind in
          let h = t.second in
          let d = right _ _ spelled.behind.rest t a in
          let e = after _ _ h.right h.second (right _ _ t.right h d) in
          let u = h.second.behind in (
            subst P spelled.is.line (front _ _ tokens spelled all),
            declaration_lined names parts ds t.left t.first well.0 (left _ _ spelled.behind.rest t a),
            maybe_lined test h.left h.first (left _ _ t.right h d),
            maybe_lined last u.left u.first (left _ _ h.second.rest u e),
            statement_lined (with_declaration names parts ds) s u.second.rest u.second.behind well.3 (after _ _ u.right u.second (right _ _ h.second.rest u e)),
          )
      statement_lined names (switch_on line value s) tokens spelled well all =
          let t = spelled.behind.behind in
          let b = after _ _ spelled.rest spelled.behind (after _ _ tokens spelled all) in
          (subst P spelled.is.line (front _ _ tokens spelled all), tree_lined value t.left t.first (left _ _ spelled.behind.rest t b), statement_lined names s t.second.rest t.second.behind well.2 (after _ _ t.right t.second (right _ _ spelled.behind.rest t b)))
      statement_lined names (case_of line value s) tokens spelled well all =
          let t = spelled.behind in
          let a = after _ _ tokens spelled all in
          (subst P spelled.is.line (front _ _ tokens spelled all), tree_lined value t.left t.first (left _ _ spelled.rest t a), statement_lined names s t.second.rest t.second.behind well.2 (after _ _ t.right t.second (right _ _ spelled.rest t a)))
      statement_lined names (default_of line s) tokens spelled well all =
          (subst P spelled.is.line (front _ _ tokens spelled all), statement_lined names s spelled.behind.rest spelled.behind.behind well (after _ _ spelled.rest spelled.behind (after _ _ tokens spelled all)))
      statement_lined names (labelled line n s) tokens spelled well all =
          statement_lined names s spelled.behind.rest spelled.behind.behind well (after _ _ spelled.rest spelled.behind (after _ _ tokens spelled all))
      statement_lined names (goto_label line n) tokens spelled well all = subst P spelled.is.line (front _ _ tokens spelled all)
      statement_lined names (break_off line) tokens spelled well all = subst P spelled.is.line (front _ _ tokens spelled all)
      statement_lined names (continue_on line) tokens spelled well all = subst P spelled.is.line (front _ _ tokens spelled all)

      items_lined : (names : Scope) (is : Items) (tokens : List Token) → SpellsItems bytes is tokens → AreWellItems names is → InTokens P tokens → InTreeItems P is
      items_lined names done tokens spelled well all = tt
      items_lined names (declares parts ds rest) tokens spelled well all =
          (declaration_lined names parts ds spelled.left spelled.first well.0 (left _ _ tokens spelled all), items_lined (with_declaration names parts ds) rest spelled.right spelled.second well.1 (right _ _ tokens spelled all))
      items_lined names (does s rest) tokens spelled well all =
          (statement_lined names s spelled.left spelled.first well.0 (left _ _ tokens spelled all), items_lined names rest spelled.right spelled.second well.1 (right _ _ tokens spelled all))

    externals_lined : (names : Scope) (file : Externals) (tokens : List Token) → SpellsFile bytes file tokens → AreWellExternals names file → InTokens P tokens → InExternals P file
    externals_lined names no_more tokens spelled well all = tt
    externals_lined names (declared parts ds rest) tokens spelled well all =
        (declaration_lined names parts ds spelled.left spelled.first well.0 (left _ _ tokens spelled all), externals_lined (with_declaration names parts ds) rest spelled.right spelled.second well.1 (right _ _ tokens spelled all))
    externals_lined names (defines parts d body rest) tokens spelled well all =
        let one = spelled.first in
        let two = one.second in
        let inner = left _ _ tokens spelled all in
        let behind_parts = right _ _ spelled.left one inner in
        let w = well.0 in (
          full_lined d two.left w.3 two.first (left _ _ one.right two behind_parts),
          statement_lined (with_body names parts d) body two.right two.second w.7 (right _ _ one.right two behind_parts),
          externals_lined (with_function names parts d) rest spelled.right spelled.second well.1 (right _ _ tokens spelled all),
        )

    -- the tree of tokens has their lines
    pub is_file_lined : (tokens : List Token) (tree : Externals) → IsFile bytes tokens tree → InTokens P tokens → InExternals P tree
    is_file_lined tokens tree file all = externals_lined built_in_names tree tokens file.spelled file.well all
