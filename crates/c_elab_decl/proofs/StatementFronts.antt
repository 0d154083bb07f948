-- One statement, item or definition more: what is made goes before what is behind.
use Rattle.std.proofs.Common.{◌≡◌, ◌<◌, ◌+◌, ◌-◌, ℕ, Bool, false, List, [], ◌∷◌, ◌++◌, length, get_or, drop, Option, None, Result, Ok, Err, refl, ap, ap₂, sym, subst, ◌∙◌}
use Rattle.std.specs.Prelude.{Vec, Box}
use Rattle.std.specs.Global.{Global}
use Rattle.std.proofs.lemmas.List.{append_assoc, drop_more, map-append}
use Rattle.c_tree.specs.declared.statement.Item.{Item}
use Rattle.c_tree.specs.declared.statement.Stmt.{Stmt}
use Rattle.c_tree.specs.declared.statement.External.{External}
use Rattle.c_tree.specs.Declarations.{Full, Parts, Declarators}
use Rattle.c_tree.specs.Tree.{Tree}
use Rattle.c_tree.specs.Statements.{Statement, block, switch_on, view_item, Externals, declared, defines, view_external, externals_of, Items, view_statement as tree, items_of as trees}
use Rattle.c_tree.specs.Files.{is_block}
use Rattle.c_tree.proofs.StatementViews.{view_block}
use Rattle.core_tree.specs.declared.statement.CoreItem.{CoreItem}
use Rattle.core_tree.specs.declared.statement.CoreItem as codes
use Rattle.core_tree.specs.declared.statement.CoreStatement.{CoreStatement}
use Rattle.core_tree.specs.Trees.{items_of, view_statement}
use Rattle.core_tree.specs.Trees as cores
use Rattle.c_scope.specs.declared.fault.TypingError.{TypingError}
use Rattle.c_scope.specs.Scopes.{Environment, Scoped}
use Rattle.c_scope.specs.Faults.{◌>>=◌, Fault, Fails}
use Rattle.c_elab_expr.specs.Typing.{operand}
use Rattle.c_elab_base.specs.declared.regions.Region.{Region}
use Rattle.c_elab_type.specs.Declarators.{Typed, in_front}
use Rattle.c_elab_type.specs.Steps.{prepend, items_first}
use Rattle.c_operands.specs.Operands.{Operand}
use Rattle.c_elab_object.specs.DeclaratorLists.{typed_declaration, typed_outside}
use Rattle.c_elab_flow.specs.declared.files.Definition.{Definition as CodeDefinition}
use Rattle.c_elab_flow.specs.Nodes.{Around, in_loop, in_switch, with_loop, with_switch, switch_type}
use Rattle.c_elab_decl.specs.Statements.{switch_of, TypedStatement, TypedFront, as_block, as_items, typed_rest, typed_body, typed_statement, typed_items}
use Rattle.c_elab_flow.specs.Files.{Definition}
use Rattle.c_elab_decl.specs.Files.{typed_definition, typed_externals}
use Rattle.c_elab_flow.specs.Held.{view_definition, view_definitions}
use Rattle.c_elab_decl.specs.DefinitionSteps.{TypedDefinitions, definitions_first, DefinitionStep}
use Rattle.c_elab_decl.specs.StatementSteps.{Fronts, IsBlockOf}
use Rattle.c_elab_base.proofs.Steps.{fails_bind, fails_along}
use Rattle.c_elab_base.proofs.Growing.{Inner, kept}
use Rattle.c_elab_type.proofs.Fronts.{none_first, prepend_all, prepend_push, behind_fails}
use Rattle.c_elab_decl.proofs.WellTyped.{declaration_done, for_done, items_done}

-- ---- statements and items

-- what stands in a list instead of a statement, in front of what is behind it
abbrev pub fronted : (Scoped → Typed) → TypedFront → Typed
fronted behind front = front >>= λ y. in_front y.0 (behind y.1)

pub front_more : (before now : List CoreItem) (front : TypedFront) (item : cores.Items → cores.Items) (t : Scoped) (behind : Scoped → Typed) → front ≡ Ok (item, t)
    → ((rest : cores.Items) → prepend before (item rest) ≡ prepend now rest) → items_first before (fronted behind front) ≡ items_first now (behind t)
front_more before now front item t behind e same = ap (λ (r : TypedFront). items_first before (fronted behind r)) e ∙ by (behind t) where
  by : (r : Typed) → items_first before (in_front item r) ≡ items_first now r
  by (Ok y) = ap (λ (is : cores.Items). Ok (is, y.1)) (same y.0)
  by (Err f) = refl

pub items_at : (a : Around) (switched : Bool) (outer : ℕ) (jumped : List (List ℕ)) (s : Scoped) (is : List Item) (i : ℕ) (x : Item) → i < length is → x ≡ get_or is i x
    → typed_items a switched outer jumped s (trees (drop i is)) ≡ typed_items a switched outer jumped s (view_item x (trees (drop (i + 1) is)))
items_at a switched outer jumped s is i x h e =
    ap (λ (xs : List Item). typed_items a switched outer jumped s (trees xs)) (drop_more is i x h)
    ∙ ap (λ (y : Item). typed_items a switched outer jumped s (view_item y (trees (drop (i + 1) is)))) (sym e)

-- items that are a block's, whose names are left
pub block_by : (s u : Scoped) (r : Typed) (v : Vec CoreItem Global) → r ≡ Ok (items_of v.items, u) → Inner s.bindings u.bindings
    → as_block s r ≡ Ok (cores.block (items_of v.items), record u { bindings = drop (length u.bindings - length s.bindings) u.bindings })
block_by s u r v e names =
    ap (as_block s) e
    ∙ ap (λ (env : Environment). Ok (cores.block (items_of v.items), record u { bindings = env })) (sym (kept s.bindings u.bindings names))

pub items_names : (a : Around) (switched : Bool) (outer : ℕ) (jumped : List (List ℕ)) (s u : Scoped) (x : Items) (is : cores.Items) → typed_items a switched outer jumped s x ≡ Ok (is, u) → Inner s.bindings u.bindings
items_names a switched outer jumped s u x is e = (items_done a switched outer jumped s x (is, u) e).follows.names

pub names_left : (s u : Scoped) → Inner s.bindings u.bindings → drop (length u.bindings - length s.bindings) u.bindings ≡ s.bindings
names_left s u names = kept s.bindings u.bindings names

-- ---- loops with a declaration

-- what stands behind the declaration
abbrev pub for_behind : Around → ℕ → Option Tree → Option Tree → Statement → Scoped → Typed
for_behind a line test last body t = as_items (typed_rest line t.flow.loops None (with_loop t) test last (typed_statement (in_loop a) (with_loop t) body))

pub declaration_names : (a : Around) (r : Region) (s u : Scoped) (parts : Parts) (ds : Declarators) (line : ℕ) (test last : Option Tree) (body : Statement) (is : cores.Items)
    → typed_declaration r s false parts ds (for_behind a line test last body) ≡ Ok (is, u) → Inner s.bindings u.bindings
declaration_names a r s u parts ds line test last body is e =
    (declaration_done r s false parts ds (for_behind a line test last body) (λ t. for_done a line test last body t) (is, u) e).follows.names

pub for_typed : (a : Around) (r : Region) (s t w u : Scoped) (parts : Parts) (ds : Declarators) (line n : ℕ) (test last : Option Tree) (body : Statement) (made : List CoreItem) (c : Box CoreStatement Global) (now : List CoreItem)
    → items_first [] (typed_declaration r s false parts ds (for_behind a line test last body)) ≡ items_first made (for_behind a line test last body t)
    → n ≡ t.flow.loops → w ≡ with_loop t → typed_rest line n None w test last (typed_statement (in_loop a) w body) ≡ Ok (view_statement c.value, u) → now ≡ made ++ codes.Statement c ∷ []
    → typed_declaration r s false parts ds (for_behind a line test last body) ≡ Ok (items_of now, u)
for_typed a r s t w u parts ds line n test last body made c now step number scope rest items =
    sym (none_first (typed_declaration r s false parts ds (for_behind a line test last body))) ∙ step
    ∙ ap (λ (x : TypedStatement). items_first made (as_items x)) (sym (ap₂ (λ (m : ℕ) (x : Scoped). typed_rest line m None x test last (typed_statement (in_loop a) x body)) number scope) ∙ rest)
    ∙ ap (λ (is : cores.Items). Ok (is, u)) (prepend_push made (codes.Statement c) cores.done ∙ ap (λ (xs : List CoreItem). prepend xs cores.done) (sym items) ∙ prepend_all now)

pub for_fails : (a : Around) (r : Region) (s t w : Scoped) (parts : Parts) (ds : Declarators) (line n : ℕ) (test last : Option Tree) (body : Statement) (made : List CoreItem) (e : TypingError)
    → items_first [] (typed_declaration r s false parts ds (for_behind a line test last body)) ≡ items_first made (for_behind a line test last body t)
    → n ≡ t.flow.loops → w ≡ with_loop t → Fails e (typed_rest line n None w test last (typed_statement (in_loop a) w body)) → Fails e (typed_declaration r s false parts ds (for_behind a line test last body))
for_fails a r s t w parts ds line n test last body made e step number scope bad =
    behind_fails [] made (typed_declaration r s false parts ds (for_behind a line test last body)) (for_behind a line test last body t) e (sym step)
    (fails_bind e (typed_rest line t.flow.loops None (with_loop t) test last (typed_statement (in_loop a) (with_loop t) body)) _
    (fails_along e _ _ (ap₂ (λ (m : ℕ) (x : Scoped). typed_rest line m None x test last (typed_statement (in_loop a) x body)) number scope) bad))

-- ---- switches

abbrev pub switch_behind : Around → Scoped → ℕ → Statement → Operand → TypedStatement
switch_behind a s line body x = switch_of s line x (typed_body (in_switch a) (with_switch s (switch_type x)) body)

pub switch_by_body : (a : Around) (s : Scoped) (line : ℕ) (e : Tree) (body : Statement) → typed_statement a s (switch_on line e body) ≡ (operand s e >>= λ x. switch_behind a s line body x)
switch_by_body a s line e (block at is) = refl
switch_by_body a s line e _ = refl

-- a block is the block of its items
pub block_as : (x : Stmt) (is : List Item) (b : IsBlockOf x is) → tree x ≡ block b.line (trees is)
block_as x is b = ap tree b.is ∙ view_block b.line b.held ∙ ap (λ (xs : List Item). block b.line (trees xs)) (sym b.same)

-- a body that is no block is one statement
pub body_alone : (a : Around) (s : Scoped) (body : Statement) → is_block body ≡ false → typed_body a s body ≡ as_items (typed_statement a s body)
body_alone a s (block line is) e = let none : ⊥ = cc in absurd none
body_alone a s _ e = refl

-- ---- what stands in a file

pub outside_fails : (s : Scoped) (parts : Parts) (ds : Declarators) (rest : Externals) (f : Fault) → typed_outside s parts ds ≡ Err f
    → typed_externals s (declared parts ds rest) ≡ Err f
outside_fails s parts ds rest f e = ap (λ (r : Result Scoped Fault). r >>= λ t. typed_externals t rest) e

pub outside_more : (s t : Scoped) (parts : Parts) (ds : Declarators) (rest : Externals) → typed_outside s parts ds ≡ Ok t
    → typed_externals s (declared parts ds rest) ≡ typed_externals t rest
outside_more s t parts ds rest e = ap (λ (r : Result Scoped Fault). r >>= λ x. typed_externals x rest) e

abbrev behind_definition : Externals → Result (Definition × Scoped) Fault → TypedDefinitions
behind_definition rest r = r >>= λ x. typed_externals x.1 rest >>= λ y. Ok (x.0 ∷ y.0, y.1)

pub definition_fails : (s : Scoped) (parts : Parts) (d : Full) (body : Statement) (rest : Externals) (f : Fault) → typed_definition s parts d body ≡ Err f → typed_externals s (defines parts d body rest) ≡ Err f
definition_fails s parts d body rest f e = ap (behind_definition rest) e

front_definition : (before : List Definition) (x : Definition) (r : TypedDefinitions) → definitions_first before (r >>= λ y. Ok (x ∷ y.0, y.1)) ≡ definitions_first (before ++ x ∷ []) r
front_definition before x (Ok y) = ap (λ (xs : List Definition). Ok (xs, y.1)) (sym (append_assoc before (x ∷ []) y.0))
front_definition before x (Err f) = refl

pub definition_typed : (s t : Scoped) (parts : Parts) (d : Full) (body : Statement) (rest : Externals) (before now : List CodeDefinition) (x : CodeDefinition)
    → typed_definition s parts d body ≡ Ok (view_definition x, t) → now ≡ before ++ x ∷ []
    → definitions_first (view_definitions before) (typed_externals s (defines parts d body rest)) ≡ definitions_first (view_definitions now) (typed_externals t rest)
definition_typed s t parts d body rest before now x e items =
    ap (λ (r : Result (Definition × Scoped) Fault). definitions_first (view_definitions before) (behind_definition rest r)) e
    ∙ front_definition (view_definitions before) (view_definition x) (typed_externals t rest)
    ∙ ap (λ (xs : List Definition). definitions_first xs (typed_externals t rest)) (sym (ap view_definitions items ∙ map-append view_definition before (x ∷ [])))

pub no_definitions_first : (whole : TypedDefinitions) → definitions_first [] whole ≡ whole
no_definitions_first (Ok xs) = refl
no_definitions_first (Err f) = refl

pub definitions_fail : (before : List Definition) (whole : TypedDefinitions) (f : Fault) → definitions_first before whole ≡ Err f → whole ≡ Err f
definitions_fail before (Ok xs) f e = let none : ⊥ = cc in absurd none
definitions_fail before (Err g) f e = let same : g ≡ f = cc in ap Err same

pub externals_at : (s : Scoped) (ds : List External) (i : ℕ) (d : External) → i < length ds → d ≡ get_or ds i d
    → typed_externals s (externals_of (drop i ds)) ≡ typed_externals s (view_external d (externals_of (drop (i + 1) ds)))
externals_at s ds i d h e =
    ap (λ (xs : List External). typed_externals s (externals_of xs)) (drop_more ds i d h)
    ∙ ap (λ (x : External). typed_externals s (view_external x (externals_of (drop (i + 1) ds)))) (sym e)

-- ---- what a fault says of a step

pub fault_definition : (r : Result (Unit {0}) TypingError) (e f : TypingError) (before now : List CodeDefinition) (whole behind : TypedDefinitions)
    → r ≡ Err e → e ≡ f → Fails f whole → DefinitionStep r before now whole behind
fault_definition r e f before now whole behind p q h = subst (λ (x : Result (Unit {0}) TypingError). DefinitionStep x before now whole behind) (sym (p ∙ ap Err q)) h

-- and of a front
pub fault_front : (r : Result (Unit {0}) TypingError) (e f : TypingError) (s : Scoped) (before now : List CoreItem) (front : TypedFront) → r ≡ Err e → e ≡ f → Fails f front → Fronts r s before now front
fault_front r e f s before now front p q h = subst (λ (x : Result (Unit {0}) TypingError). Fronts x s before now front) (sym (p ∙ ap Err q)) h
