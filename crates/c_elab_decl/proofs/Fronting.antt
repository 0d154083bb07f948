-- Labels and cases before a statement of a list.
use Rattle.std.proofs.Common.{Box, ◌≡◌, ◌<◌, ◌+◌, ◌-◌, ℕ, Bool, true, false, List, [], ◌∷◌, ◌++◌, length, drop, set, Result, Ok, Err, refl, ap, sym, ◌∙◌, arith}
use Rattle.c_types.specs.declared.integers.IntegerType.{IntegerType}
use Rattle.c_tree.specs.Tree.{Tree}
use Rattle.std.specs.Global.{Global}
use Rattle.c_tree.specs.declared.expr.Expr.{Expr}
use Rattle.c_tree.specs.declared.expr.Name.{Name}
use Rattle.c_tree.specs.declared.statement.Stmt.{Stmt}
use Rattle.c_tree.specs.declared.statement.Stmt as stmts
use Rattle.c_tree.specs.Statements.{Statement, switch_on, case_of, default_of, labelled}
use Rattle.c_tree.specs.Statements.{view_statement as view_tree}
use Rattle.core_tree.specs.declared.statement.CoreItem.{CoreItem}
use Rattle.core_tree.specs.declared.statement.CoreItem as codes
use Rattle.core_tree.specs.declared.statement.CoreStatement.{CoreStatement}
use Rattle.core_tree.specs.Trees.{with_item, view_statement}
use Rattle.core_tree.specs.Trees as cores
use Rattle.c_scope.specs.declared.fault.TypingError.{TypingError}
use Rattle.c_scope.specs.Scopes.{Cases, Environment, Scoped}
use Rattle.c_scope.specs.Faults.{◌>>=◌, Fault, Fails, Gives, on_line}
use Rattle.c_operands.specs.Operands.{Operand}
use Rattle.c_elab_expr.specs.Typing.{operand}
use Rattle.c_elab_type.specs.Declarators.{Typed}
use Rattle.c_elab_type.specs.Steps.{prepend}
use Rattle.c_elab_flow.specs.Nodes.{Around, in_switch, with_label, with_cases, with_switch, switch_type, switch_value, case_node, default_node, label_node}
use Rattle.c_elab_decl.specs.Statements.{switch_ended, TypedStatement, TypedFront, own_block, typed_statement, typed_front, typed_body}
use Rattle.c_elab_flow.specs.Steps.{CaseStep, DefaultStep}
use Rattle.c_elab_decl.specs.StatementSteps.{Fronts, alone}
use Rattle.c_elab_base.proofs.Steps.{fails_bind, fails_along}
use Rattle.c_elab_type.proofs.Fronts.{prepend_push}
use Rattle.c_elab_base.proofs.Growing.{Inner, kept}
use Rattle.c_elab_decl.proofs.StatementFronts.{switch_behind, switch_by_body}
use Rattle.c_elab_decl.proofs.Chains.{second_fails}

-- ---- a statement alone

pub alone_front : (s u : Scoped) (before now : List CoreItem) (c : Box CoreStatement Global) (statement : TypedStatement) → statement ≡ Ok (view_statement c.value, u) → now ≡ before ++ codes.Statement c ∷ []
    → Fronts (Ok tt) u before now (alone statement)
alone_front s u before now c statement typed items = (
  cores.does (view_statement c.value),
  ap alone typed,
  λ rest. prepend_push before (codes.Statement c) rest ∙ ap (λ (xs : List CoreItem). prepend xs rest) (sym items),
)

-- ---- labels

abbrev label_end : List (List ℕ) → ℕ → List ℕ → ℕ → (cores.Items → cores.Items) × Scoped → TypedFront
label_end labels line name n y = on_line line (label_node labels name n) >>= λ new. Ok ((λ rest. cores.label n (y.0 rest)), y.1)

module _ (a : Around) (switched : Bool) (s t : Scoped) (line : ℕ) (name : List ℕ) (body : Statement) (elsewhere : TypedStatement) (scope : t ≡ with_label s) where
  label_by : typed_front a switched s (labelled line name body) elsewhere ≡ (typed_front a switched t body (typed_statement a t body) >>= label_end a.labels line name s.flow.labels)
  label_by = ap (λ (w : Scoped). typed_front a switched w body (typed_statement a w body) >>= label_end a.labels line name s.flow.labels) (sym scope)

  pub label_front_fails : (e : TypingError) → Fails e (typed_front a switched t body (typed_statement a t body)) → Fails e (typed_front a switched s (labelled line name body) elsewhere)
  label_front_fails e bad =
      fails_along e _ (typed_front a switched s (labelled line name body) elsewhere) (sym label_by)
      (fails_bind e (typed_front a switched t body (typed_statement a t body)) (label_end a.labels line name s.flow.labels) bad)

  pub label_front : (n : ℕ) (u : Scoped) (before pushed now : List CoreItem) (r : Result (Unit {0}) TypingError) → n ≡ s.flow.labels → pushed ≡ before ++ codes.Label n ∷ []
      → Fronts (Ok tt) u pushed now (typed_front a switched t body (typed_statement a t body)) → Gives (λ v. tt) r (on_line line (label_node a.labels name n))
      → Fronts r u before now (typed_front a switched s (labelled line name body) elsewhere)
  label_front n u before pushed now (Ok v) label items h new = (
    (λ rest. cores.label s.flow.labels (h.0 rest)),
    label_by ∙ ap (λ (r : TypedFront). r >>= label_end a.labels line name s.flow.labels) h.1
        ∙ ap (λ (k : ℕ). on_line line (label_node a.labels name k) >>= λ z. Ok ((λ rest. cores.label s.flow.labels (h.0 rest)), u)) (sym label)
        ∙ ap (λ (r : Result (Unit {0}) Fault). r >>= λ z. Ok ((λ rest. cores.label s.flow.labels (h.0 rest)), u)) new,
    λ rest. ap (λ (k : ℕ). prepend before (cores.label k (h.0 rest))) (sym label) ∙ prepend_push before (codes.Label n) (h.0 rest)
        ∙ ap (λ (xs : List CoreItem). prepend xs (h.0 rest)) (sym items) ∙ h.2 rest,
  )
  label_front n u before pushed now (Err e) label items h new =
      fails_along e _ (typed_front a switched s (labelled line name body) elsewhere) (sym label_by)
      (second_fails e (typed_front a switched t body (typed_statement a t body)) (h.0, u) (label_end a.labels line name s.flow.labels) h.1
      (fails_bind e (on_line line (label_node a.labels name s.flow.labels)) _ (fails_along e (on_line line (label_node a.labels name n)) _ (ap (λ (k : ℕ). on_line line (label_node a.labels name k)) label) new)))

-- ---- cases and defaults of the switch whose list this is

-- what is behind an item, and the item in front of something else
abbrev behind_item : cores.Items → cores.Items
behind_item cores.done = cores.done
behind_item (cores.declares line v rest) = rest
behind_item (cores.initializes line v drawn e rest) = rest
behind_item (cores.initializes_structure line v drawn a rest) = rest
behind_item (cores.does s rest) = rest
behind_item (cores.label n rest) = rest
behind_item (cores.case_at line t bits rest) = rest
behind_item (cores.default_at line rest) = rest

abbrev in_front_of : cores.Items → cores.Items → cores.Items
in_front_of new cores.done = cores.done
in_front_of new (cores.declares line v rest) = cores.declares line v new
in_front_of new (cores.initializes line v drawn e rest) = cores.initializes line v drawn e new
in_front_of new (cores.initializes_structure line v drawn a rest) = cores.initializes_structure line v drawn a new
in_front_of new (cores.does s rest) = cores.does s new
in_front_of new (cores.label n rest) = cores.label n new
in_front_of new (cores.case_at line t bits rest) = cores.case_at line t bits new
in_front_of new (cores.default_at line rest) = cores.default_at line new

behind_is : (i : CoreItem) (rest : cores.Items) → behind_item (with_item i rest) ≡ rest
behind_is (codes.Declare line v) rest = refl
behind_is (codes.Initialize line v drawn e) rest = refl
behind_is (codes.InitializeStructure line v drawn a) rest = refl
behind_is (codes.Statement' p s) rest = refl
behind_is (codes.Label n) rest = refl
behind_is (codes.Case line t bits) rest = refl
behind_is (codes.Default line) rest = refl

front_is : (i : CoreItem) (rest new : cores.Items) → in_front_of new (with_item i rest) ≡ with_item i new
front_is (codes.Declare line v) rest new = refl
front_is (codes.Initialize line v drawn e) rest new = refl
front_is (codes.InitializeStructure line v drawn a) rest new = refl
front_is (codes.Statement' p s) rest new = refl
front_is (codes.Label n) rest new = refl
front_is (codes.Case line t bits) rest new = refl
front_is (codes.Default line) rest new = refl

abbrev count : cores.Items → ℕ
count cores.done = 0
count (cores.declares line v rest) = count rest + 1
count (cores.initializes line v drawn e rest) = count rest + 1
count (cores.initializes_structure line v drawn a rest) = count rest + 1
count (cores.does s rest) = count rest + 1
count (cores.label n rest) = count rest + 1
count (cores.case_at line t bits rest) = count rest + 1
count (cores.default_at line rest) = count rest + 1

counted_item : (i : CoreItem) (rest : cores.Items) → count (with_item i rest) ≡ count rest + 1
counted_item (codes.Declare line v) rest = refl
counted_item (codes.Initialize line v drawn e) rest = refl
counted_item (codes.InitializeStructure line v drawn a) rest = refl
counted_item (codes.Statement' p s) rest = refl
counted_item (codes.Label n) rest = refl
counted_item (codes.Case line t bits) rest = refl
counted_item (codes.Default line) rest = refl

counted : (is : List CoreItem) (rest : cores.Items) → count (prepend is rest) ≡ length is + count rest
counted [] rest = omega arith
counted (i ∷ is) rest = omega (arith, counted_item i (prepend is rest), counted is rest)

-- a list behind which another can be put has as many items and more
pub place_within : (before pushed now : List CoreItem) (i : CoreItem) (item : cores.Items → cores.Items) → pushed ≡ before ++ i ∷ [] → ((rest : cores.Items) → prepend pushed (item rest) ≡ prepend now rest)
    → length before < length now
place_within before pushed now i item items same =
    let e : prepend before (with_item i (item cores.done)) ≡ prepend now cores.done = prepend_push before i (item cores.done) ∙ ap (λ (xs : List CoreItem). prepend xs (item cores.done)) (sym items) ∙ same cores.done in
    let n = ap count e in
    omega (arith, n, counted before (with_item i (item cores.done)), counted_item i (item cores.done), counted now cores.done)

-- another item in the place of a default
put_case : (before now : List CoreItem) (line : ℕ) (new : CoreItem) (tail rest : cores.Items) → length before < length now → prepend before (cores.default_at line tail) ≡ prepend now rest
    → prepend before (with_item new tail) ≡ prepend (set now (length before) new) rest
put_case [] [] line new tail rest h e = let none : ⊥ = omega (arith, h) in absurd none
put_case [] (i ∷ is) line new tail rest h e = ap (with_item new) (ap behind_item e ∙ behind_is i (prepend is rest))
put_case (b ∷ bs) [] line new tail rest h e = let none : ⊥ = omega (arith, h) in absurd none
put_case (b ∷ bs) (i ∷ is) line new tail rest h e =
    let below : prepend bs (cores.default_at line tail) ≡ prepend is rest = sym (behind_is b (prepend bs (cores.default_at line tail))) ∙ ap behind_item e ∙ behind_is i (prepend is rest) in
    let next : prepend bs (with_item new tail) ≡ prepend (set is (length bs) new) rest = put_case bs is line new tail rest (omega (arith, h)) below in
    let wanted = prepend (set is (length bs) new) rest in
    ap (with_item b) next ∙ sym (front_is b (prepend bs (cores.default_at line tail)) wanted) ∙ ap (in_front_of wanted) e ∙ front_is i (prepend is rest) wanted

abbrev case_end : ℕ → Operand → (cores.Items → cores.Items) × Scoped → TypedFront
case_end line x y = on_line line (case_node y.1.flow.switch x) >>= λ c. Ok ((λ rest. cores.case_at line c.0.0 c.0.1 (y.0 rest)), with_cases y.1 c.1)

abbrev case_body : Around → Scoped → ℕ → Statement → Operand → TypedFront
case_body a s line body x = typed_front a true s body (typed_statement a s body) >>= case_end line x

module _ (a : Around) (s : Scoped) (line : ℕ) (value : Tree) (body : Statement) (elsewhere : TypedStatement) where
  pub case_value_fails : (e : TypingError) → Fails e (operand s value) → Fails e (typed_front a true s (case_of line value body) elsewhere)
  case_value_fails e bad = fails_bind e (operand s value) (case_body a s line body) bad

  pub case_body_fails : (e : TypingError) (x : Operand) → operand s value ≡ Ok x → Fails e (typed_front a true s body (typed_statement a s body)) → Fails e (typed_front a true s (case_of line value body) elsewhere)
  case_body_fails e x given bad =
      second_fails e (operand s value) x (case_body a s line body) given (fails_bind e (typed_front a true s body (typed_statement a s body)) (case_end line x) bad)

  pub case_front_fails : (e : TypingError) (x : Operand) (t : Scoped) (pushed made : List CoreItem) → operand s value ≡ Ok x → Fronts (Ok tt) t pushed made (typed_front a true s body (typed_statement a s body))
      → Fails e (on_line line (case_node t.flow.switch x)) → Fails e (typed_front a true s (case_of line value body) elsewhere)
  case_front_fails e x t pushed made given h bad =
      second_fails e (operand s value) x (case_body a s line body) given
      (second_fails e (typed_front a true s body (typed_statement a s body)) (h.0, t) (case_end line x) h.1 (fails_bind e (on_line line (case_node t.flow.switch x)) _ bad))

  pub case_front : (x : Operand) (t u : Scoped) (before pushed made now : List CoreItem) (c : IntegerType × ℕ) (place : ℕ) → operand s value ≡ Ok x → pushed ≡ before ++ codes.Default line ∷ [] → place ≡ length before
      → Fronts (Ok tt) t pushed made (typed_front a true s body (typed_statement a s body)) → CaseStep (Ok c) t u (on_line line (case_node t.flow.switch x)) → now ≡ set made place (codes.Case line c.0 c.1)
      → Fronts (Ok tt) u before now (typed_front a true s (case_of line value body) elsewhere)
  case_front x t u before pushed made now c place given items at h d changed = (
    (λ rest. cores.case_at line c.0 c.1 (h.0 rest)),
    ap (λ (r : Result Operand Fault). r >>= case_body a s line body) given
        ∙ ap (λ (r : TypedFront). r >>= case_end line x) h.1
        ∙ ap (λ (r : Result ((IntegerType × ℕ) × Cases) Fault). r >>= λ k. Ok ((λ rest. cores.case_at line k.0.0 k.0.1 (h.0 rest)), with_cases t k.1)) d.1
        ∙ ap (λ (v : Scoped). Ok ((λ rest. cores.case_at line c.0 c.1 (h.0 rest)), v)) (sym d.2),
    λ rest.
        let front : prepend before (cores.default_at line (h.0 rest)) ≡ prepend made rest = prepend_push before (codes.Default line) (h.0 rest) ∙ ap (λ (xs : List CoreItem). prepend xs (h.0 rest)) (sym items) ∙ h.2 rest in
        put_case before made line (codes.Case line c.0 c.1) (h.0 rest) rest (place_within before pushed made (codes.Default line) h.0 items h.2) front
        ∙ ap (λ (k : ℕ). prepend (set made k (codes.Case line c.0 c.1)) rest) (sym at) ∙ ap (λ (xs : List CoreItem). prepend xs rest) (sym changed),
  )

abbrev default_end : ℕ → (cores.Items → cores.Items) × Scoped → TypedFront
default_end line y = on_line line (default_node y.1.flow.switch) >>= λ c. Ok ((λ rest. cores.default_at line (y.0 rest)), with_cases y.1 c)

module _ (a : Around) (s : Scoped) (line : ℕ) (body : Statement) (elsewhere : TypedStatement) where
  pub default_body_fails : (e : TypingError) → Fails e (typed_front a true s body (typed_statement a s body)) → Fails e (typed_front a true s (default_of line body) elsewhere)
  default_body_fails e bad = fails_bind e (typed_front a true s body (typed_statement a s body)) (default_end line) bad

  pub default_front : (t u : Scoped) (before pushed now : List CoreItem) (r : Result (Unit {0}) TypingError) → pushed ≡ before ++ codes.Default line ∷ []
      → Fronts (Ok tt) t pushed now (typed_front a true s body (typed_statement a s body)) → DefaultStep r t u (on_line line (default_node t.flow.switch))
      → Fronts r u before now (typed_front a true s (default_of line body) elsewhere)
  default_front t u before pushed now (Ok v) items h d = (
    (λ rest. cores.default_at line (h.0 rest)),
    ap (λ (r : TypedFront). r >>= default_end line) h.1
        ∙ ap (λ (r : Result Cases Fault). r >>= λ k. Ok ((λ rest. cores.default_at line (h.0 rest)), with_cases t k)) d.1
        ∙ ap (λ (w : Scoped). Ok ((λ rest. cores.default_at line (h.0 rest)), w)) (sym d.2),
    λ rest. prepend_push before (codes.Default line) (h.0 rest) ∙ ap (λ (xs : List CoreItem). prepend xs (h.0 rest)) (sym items) ∙ h.2 rest,
  )
  default_front t u before pushed now (Err e) items h d =
      second_fails e (typed_front a true s body (typed_statement a s body)) (h.0, t) (default_end line) h.1 (fails_bind e (on_line line (default_node t.flow.switch)) _ d)

-- ---- what is no label and no case

abbrev pub is_front : Stmt → Bool
is_front (stmts.Label' line n p s) = true
is_front (stmts.Case' line e p s) = true
is_front (stmts.Default' line p s) = true
is_front _ = false

pub front_not : (x : Stmt) → ((line : ℕ) (n : Name) (b : Box Stmt Global) → x ≡ stmts.Label line n b → ⊥) → ((line : ℕ) (e : Box Expr Global) (b : Box Stmt Global) → x ≡ stmts.Case line e b → ⊥)
    → ((line : ℕ) (b : Box Stmt Global) → x ≡ stmts.Default line b → ⊥) → is_front x ≡ false
front_not (stmts.Label' line n p y) label case_ default = absurd (label line n (record { ptr = p.ptr; alloc = p.alloc; value = y }) refl)
front_not (stmts.Case' line e p y) label case_ default = absurd (case_ line e (record { ptr = p.ptr; alloc = p.alloc; value = y }) refl)
front_not (stmts.Default' line p y) label case_ default = absurd (default line (record { ptr = p.ptr; alloc = p.alloc; value = y }) refl)
front_not _ label case_ default = refl

pub front_else : (a : Around) (switched : Bool) (s : Scoped) (x : Stmt) (elsewhere : TypedStatement) → is_front x ≡ false → typed_front a switched s (view_tree x) elsewhere ≡ alone elsewhere
front_else a switched s (stmts.Label' line n p y) elsewhere e = let none : ⊥ = cc in absurd none
front_else a switched s (stmts.Case' line v p y) elsewhere e = let none : ⊥ = cc in absurd none
front_else a switched s (stmts.Default' line p y) elsewhere e = let none : ⊥ = cc in absurd none
front_else a switched s _ elsewhere e = refl

-- items that are a switch's, whose names are left
pub own_by : (s u : Scoped) (r : Typed) (is : cores.Items) → r ≡ Ok (is, u) → Inner s.bindings u.bindings
    → own_block s r ≡ Ok (is, record u { bindings = drop (length u.bindings - length s.bindings) u.bindings })
own_by s u r is e names = ap (own_block s) e ∙ ap (λ (env : Environment). Ok (is, record u { bindings = env })) (sym (kept s.bindings u.bindings names))

-- ---- switches

abbrev switch_end : Scoped → ℕ → Operand → cores.Items × Scoped → TypedStatement
switch_end s line x y = on_line line (switch_value x) >>= λ v. Ok (cores.switch line v y.0, switch_ended s y.1)

module _ (a : Around) (s : Scoped) (line : ℕ) (e : Tree) (body : Statement) (x : Operand) (given : operand s e ≡ Ok x) where
  pub switch_body_fails : (err : TypingError) → Fails err (typed_body (in_switch a) (with_switch s (switch_type x)) body) → Fails err (typed_statement a s (switch_on line e body))
  switch_body_fails err bad =
      fails_along err _ (typed_statement a s (switch_on line e body)) (sym (switch_by_body a s line e body))
      (second_fails err (operand s e) x (switch_behind a s line body) given (fails_bind err (typed_body (in_switch a) (with_switch s (switch_type x)) body) (switch_end s line x) bad))

  pub switch_ends : (y : cores.Items × Scoped) (u : Scoped) → typed_body (in_switch a) (with_switch s (switch_type x)) body ≡ Ok y → u ≡ switch_ended s y.1
      → (on_line line (switch_value x) >>= λ v. Ok (cores.switch line v y.0, u)) ≡ typed_statement a s (switch_on line e body)
  switch_ends y u typed scope =
      ap (λ (w : Scoped). on_line line (switch_value x) >>= λ v. Ok (cores.switch line v y.0, w)) scope
      ∙ sym (switch_by_body a s line e body ∙ ap (λ (r : Result Operand Fault). r >>= switch_behind a s line body) given
      ∙ ap (λ (r : Typed). r >>= switch_end s line x) typed)

-- ---- a statement of a list as code has it

pub front_as : (a : Around) (switched : Bool) (s : Scoped) (x y : Stmt) → x ≡ y
    → typed_front a switched s (view_tree x) (typed_statement a s (view_tree x)) ≡ typed_front a switched s (view_tree y) (typed_statement a s (view_tree y))
front_as a switched s x y same = ap (λ (z : Stmt). typed_front a switched s (view_tree z) (typed_statement a s (view_tree z))) same
