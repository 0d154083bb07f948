-- Statements by the typings of their parts, as code makes them.
use Rattle.std.proofs.Common.{◌≡◌, ℕ, true, false, List, Option, Some, None, Result, Ok, Err, refl, ap, sym, ◌∙◌}
use Rattle.std.specs.Prelude.{OnOk}
use Rattle.c_tree.specs.Tree.{Tree}
use Rattle.c_tree.specs.declared.statement.Stmt.{Stmt}
use Rattle.c_tree.specs.Statements.{Statement, if_then, if_else, while_loop, do_loop, for_loop, case_of, default_of, labelled, view_statement}
use Rattle.core_tree.specs.Trees as cores
use Rattle.c_scope.specs.declared.fault.TypingError.{TypingError}
use Rattle.c_scope.specs.Scopes.{Cases, Flow, Scoped}
use Rattle.c_scope.specs.Faults.{◌>>=◌, Fault, Fails, on_line}
use Rattle.c_operands.specs.Operands.{Operand, number, dropped}
use Rattle.c_elab_expr.specs.Typing.{operand}
use Rattle.c_types.specs.declared.integers.IntegerType.{IntegerType}
use Rattle.c_elab_flow.specs.Nodes.{Around, in_loop, with_loop, with_label, with_cases, part_ignored, part_tested, test_node, case_node, default_node, label_node}
use Rattle.c_elab_decl.specs.Statements.{TypedStatement, typed_rest, typed_statement}
use Rattle.c_elab_base.proofs.Steps.{fails_bind, fails_along}
use Rattle.c_elab_flow.proofs.Flowless.{operand_flow}

-- ---- a part behind another

pub second_fails : {Y Z : Type 0} (e : TypingError) (r : Result Y Fault) (y : Y) (f : Y → Result Z Fault) → r ≡ Ok y → Fails e (f y) → Fails e (r >>= f)
second_fails e r y f is bad = fails_along e (f y) (r >>= f) (sym (ap (λ (x : Result _ Fault). x >>= f) is)) bad

pub second_typed : {Y Z : Type 0} (r : Result Y Fault) (y : Y) (f : Y → Result Z Fault) (z : Result Z Fault) → r ≡ Ok y → f y ≡ z → (r >>= f) ≡ z
second_typed r y f z is same = ap (λ (x : Result _ Fault). x >>= f) is ∙ same

-- ---- an expression is typed in one way within a loop and before it

part_flow : (s : Scoped) (f : Flow) (o : Option Tree) → part_ignored (record s { flow = f }) o ≡ part_ignored s o
part_flow s f None = refl
part_flow s f (Some e) = ap (λ (r : Result Operand Fault). r >>= λ x. Ok (Some (dropped s.records.done x))) (operand_flow s f false e)

-- a fact that holds in any case
pub whatever : {A E : Type 0} (r : Result A E) (P : Type 0) → P → OnOk r P
whatever (Ok x) P p = p
whatever (Err e) P p = tt

-- ---- if

abbrev if_end : ℕ → Operand → cores.Statement × Scoped → TypedStatement
if_end line x y = on_line line (number 17 x) >>= λ e. Ok (cores.if_then line e y.0, y.1)

abbrev if_else_end : ℕ → Operand → cores.Statement × Scoped → cores.Statement × Scoped → TypedStatement
if_else_end line x y z = on_line line (number 17 x) >>= λ e. Ok (cores.if_else line e y.0 z.0, z.1)

pub if_behind : (a : Around) (s : Scoped) (line : ℕ) (test : Tree) (one : Statement) (x : Operand) (y : cores.Statement × Scoped) → operand s test ≡ Ok x → typed_statement a s one ≡ Ok y
    → if_end line x y ≡ typed_statement a s (if_then line test one)
if_behind a s line test one x y tested typed =
    sym (ap (λ (r : Result Operand Fault). r >>= λ z. typed_statement a s one >>= if_end line z) tested ∙ ap (λ (r : TypedStatement). r >>= if_end line x) typed)

pub if_else_behind : (a : Around) (s : Scoped) (line : ℕ) (test : Tree) (one other : Statement) (x : Operand) (y z : cores.Statement × Scoped) → operand s test ≡ Ok x → typed_statement a s one ≡ Ok y
    → typed_statement a y.1 other ≡ Ok z → if_else_end line x y z ≡ typed_statement a s (if_else line test one other)
if_else_behind a s line test one other x y z tested typed otherwise =
    sym (ap (λ (r : Result Operand Fault). r >>= λ v. typed_statement a s one >>= λ w. typed_statement a w.1 other >>= if_else_end line v w) tested
    ∙ ap (λ (r : TypedStatement). r >>= λ w. typed_statement a w.1 other >>= if_else_end line x w) typed
    ∙ ap (λ (r : TypedStatement). r >>= if_else_end line x y) otherwise)

-- ---- while

abbrev while_end : ℕ → ℕ → Operand → cores.Statement × Scoped → TypedStatement
while_end line n x y = on_line line (number 17 x) >>= λ e. Ok (cores.for_loop line n None (Some e) None y.0, y.1)

abbrev while_body : Around → ℕ → ℕ → Scoped → Statement → Operand → TypedStatement
while_body a line n t body x = typed_statement (in_loop a) t body >>= while_end line n x

while_by : (a : Around) (s t : Scoped) (line : ℕ) (test : Tree) (body : Statement) → t ≡ with_loop s
    → typed_statement a s (while_loop line test body) ≡ (operand t test >>= while_body a line s.flow.loops t body)
while_by a s t line test body e =
    ap (λ (r : Result Operand Fault). r >>= while_body a line s.flow.loops (with_loop s) body) (sym (operand_flow s (with_loop s).flow true test))
    ∙ ap (λ (u : Scoped). operand u test >>= while_body a line s.flow.loops u body) (sym e)

module _ (a : Around) (s t : Scoped) (line : ℕ) (test : Tree) (body : Statement) (scope : t ≡ with_loop s) where
  pub while_test_fails : (e : TypingError) → Fails e (operand t test) → Fails e (typed_statement a s (while_loop line test body))
  while_test_fails e bad = fails_along e _ (typed_statement a s (while_loop line test body)) (sym (while_by a s t line test body scope)) (fails_bind e (operand t test) (while_body a line s.flow.loops t body) bad)

  pub while_body_fails : (e : TypingError) (x : Operand) → operand t test ≡ Ok x → Fails e (typed_statement (in_loop a) t body) → Fails e (typed_statement a s (while_loop line test body))
  while_body_fails e x tested bad =
      fails_along e _ (typed_statement a s (while_loop line test body)) (sym (while_by a s t line test body scope))
      (second_fails e (operand t test) x (while_body a line s.flow.loops t body) tested (fails_bind e (typed_statement (in_loop a) t body) (while_end line s.flow.loops x) bad))

  pub while_behind : (n : ℕ) (x : Operand) (y : cores.Statement × Scoped) → n ≡ s.flow.loops → operand t test ≡ Ok x → typed_statement (in_loop a) t body ≡ Ok y
      → while_end line n x y ≡ typed_statement a s (while_loop line test body)
  while_behind n x y loop tested typed =
      ap (λ (k : ℕ). while_end line k x y) loop
      ∙ sym (while_by a s t line test body scope ∙ ap (λ (r : Result Operand Fault). r >>= while_body a line s.flow.loops t body) tested
      ∙ ap (λ (r : TypedStatement). r >>= while_end line s.flow.loops x) typed)

-- ---- do

abbrev do_end : ℕ → ℕ → cores.Statement × Scoped → Operand → TypedStatement
do_end line n y x = on_line line (number 17 x) >>= λ e. Ok (cores.do_loop line n y.0 e, y.1)

abbrev do_test : ℕ → ℕ → Tree → cores.Statement × Scoped → TypedStatement
do_test line n test y = operand y.1 test >>= do_end line n y

do_by : (a : Around) (s t : Scoped) (line : ℕ) (body : Statement) (test : Tree) → t ≡ with_loop s
    → typed_statement a s (do_loop line body test) ≡ (typed_statement (in_loop a) t body >>= do_test line s.flow.loops test)
do_by a s t line body test e = ap (λ (u : Scoped). typed_statement (in_loop a) u body >>= do_test line s.flow.loops test) (sym e)

module _ (a : Around) (s t : Scoped) (line : ℕ) (body : Statement) (test : Tree) (scope : t ≡ with_loop s) where
  pub do_body_fails : (e : TypingError) → Fails e (typed_statement (in_loop a) t body) → Fails e (typed_statement a s (do_loop line body test))
  do_body_fails e bad = fails_along e _ (typed_statement a s (do_loop line body test)) (sym (do_by a s t line body test scope)) (fails_bind e (typed_statement (in_loop a) t body) (do_test line s.flow.loops test) bad)

  pub do_test_fails : (e : TypingError) (y : cores.Statement × Scoped) → typed_statement (in_loop a) t body ≡ Ok y → Fails e (operand y.1 test) → Fails e (typed_statement a s (do_loop line body test))
  do_test_fails e y typed bad =
      fails_along e _ (typed_statement a s (do_loop line body test)) (sym (do_by a s t line body test scope))
      (second_fails e (typed_statement (in_loop a) t body) y (do_test line s.flow.loops test) typed (fails_bind e (operand y.1 test) (do_end line s.flow.loops y) bad))

  pub do_behind : (n : ℕ) (y : cores.Statement × Scoped) (x : Operand) → n ≡ s.flow.loops → typed_statement (in_loop a) t body ≡ Ok y → operand y.1 test ≡ Ok x
      → do_end line n y x ≡ typed_statement a s (do_loop line body test)
  do_behind n y x loop typed tested =
      ap (λ (k : ℕ). do_end line k y x) loop
      ∙ sym (do_by a s t line body test scope ∙ ap (λ (r : TypedStatement). r >>= do_test line s.flow.loops test) typed
      ∙ ap (λ (r : Result Operand Fault). r >>= do_end line s.flow.loops y) tested)

-- ---- for

abbrev for_rest : Around → ℕ → ℕ → Scoped → Option Tree → Option Tree → Statement → Option cores.Expression → TypedStatement
for_rest a line n t test last body b = typed_rest line n b t test last (typed_statement (in_loop a) t body)

pub for_by : (a : Around) (s t : Scoped) (line : ℕ) (first test last : Option Tree) (body : Statement) → t ≡ with_loop s
    → typed_statement a s (for_loop line first test last body) ≡ (part_ignored t first >>= for_rest a line s.flow.loops t test last body)
for_by a s t line first test last body e =
    ap (λ (r : Result (Option cores.Expression) Fault). r >>= for_rest a line s.flow.loops (with_loop s) test last body) (sym (part_flow s (with_loop s).flow first))
    ∙ ap (λ (u : Scoped). part_ignored u first >>= for_rest a line s.flow.loops u test last body) (sym e)

module _ (a : Around) (s t : Scoped) (line : ℕ) (first test last : Option Tree) (body : Statement) (scope : t ≡ with_loop s) where
  pub for_first_fails : (e : TypingError) → Fails e (part_ignored t first) → Fails e (typed_statement a s (for_loop line first test last body))
  for_first_fails e bad =
      fails_along e _ (typed_statement a s (for_loop line first test last body)) (sym (for_by a s t line first test last body scope))
      (fails_bind e (part_ignored t first) (for_rest a line s.flow.loops t test last body) bad)

  -- and what is behind the first part
  pub for_behind_first : (n : ℕ) (b : Option cores.Expression) → n ≡ s.flow.loops → part_ignored t first ≡ Ok b
      → typed_rest line n b t test last (typed_statement (in_loop a) t body) ≡ typed_statement a s (for_loop line first test last body)
  for_behind_first n b loop begun =
      ap (λ (k : ℕ). for_rest a line k t test last body b) loop
      ∙ sym (for_by a s t line first test last body scope ∙ ap (λ (r : Result (Option cores.Expression) Fault). r >>= for_rest a line s.flow.loops t test last body) begun)

-- ---- case and default

abbrev case_end : ℕ → Operand → cores.Statement × Scoped → TypedStatement
case_end line x y = on_line line (case_node y.1.flow.switch x) >>= λ c. Ok (cores.stray line y.0, with_cases y.1 c.1)

pub case_behind : (a : Around) (s : Scoped) (line : ℕ) (value : Tree) (body : Statement) (x : Operand) (y : cores.Statement × Scoped) → operand s value ≡ Ok x → typed_statement a s body ≡ Ok y
    → case_end line x y ≡ typed_statement a s (case_of line value body)
case_behind a s line value body x y given typed =
    sym (ap (λ (r : Result Operand Fault). r >>= λ z. typed_statement a s body >>= case_end line z) given
    ∙ ap (λ (r : TypedStatement). r >>= case_end line x) typed)

abbrev default_end : ℕ → cores.Statement × Scoped → TypedStatement
default_end line y = on_line line (default_node y.1.flow.switch) >>= λ c. Ok (cores.stray line y.0, with_cases y.1 c)

pub default_behind : (a : Around) (s : Scoped) (line : ℕ) (body : Statement) (y : cores.Statement × Scoped) → typed_statement a s body ≡ Ok y → default_end line y ≡ typed_statement a s (default_of line body)
default_behind a s line body y typed = sym (ap (λ (r : TypedStatement). r >>= default_end line) typed)

-- ---- labels

abbrev label_end : List (List ℕ) → ℕ → List ℕ → ℕ → cores.Statement × Scoped → TypedStatement
label_end labels line name n y = on_line line (label_node labels name n) >>= λ new. Ok y

module _ (a : Around) (s t : Scoped) (line : ℕ) (name : List ℕ) (body : Statement) (scope : t ≡ with_label s) where
  label_by : typed_statement a s (labelled line name body) ≡ (typed_statement a t body >>= label_end a.labels line name s.flow.labels)
  label_by = ap (λ (u : Scoped). typed_statement a u body >>= label_end a.labels line name s.flow.labels) (sym scope)

  pub label_body_fails : (e : TypingError) → Fails e (typed_statement a t body) → Fails e (typed_statement a s (labelled line name body))
  label_body_fails e bad = fails_along e _ (typed_statement a s (labelled line name body)) (sym label_by) (fails_bind e (typed_statement a t body) (label_end a.labels line name s.flow.labels) bad)

  pub label_end_fails : (e : TypingError) (n : ℕ) (y : cores.Statement × Scoped) → n ≡ s.flow.labels → typed_statement a t body ≡ Ok y → Fails e (on_line line (label_node a.labels name n))
      → Fails e (typed_statement a s (labelled line name body))
  label_end_fails e n y label typed bad =
      fails_along e _ (typed_statement a s (labelled line name body)) (sym label_by)
      (second_fails e (typed_statement a t body) y (label_end a.labels line name s.flow.labels) typed
      (fails_bind e (on_line line (label_node a.labels name s.flow.labels)) _ (fails_along e (on_line line (label_node a.labels name n)) _ (ap (λ (k : ℕ). on_line line (label_node a.labels name k)) label) bad)))

  pub label_typed : (n : ℕ) (y : cores.Statement × Scoped) → n ≡ s.flow.labels → typed_statement a t body ≡ Ok y → on_line line (label_node a.labels name n) ≡ Ok tt
      → typed_statement a s (labelled line name body) ≡ Ok y
  label_typed n y label typed new =
      label_by ∙ ap (λ (r : TypedStatement). r >>= label_end a.labels line name s.flow.labels) typed
      ∙ ap (λ (k : ℕ). on_line line (label_node a.labels name k) >>= λ z. Ok y) (sym label)
      ∙ ap (λ (r : Result (Unit {0}) Fault). r >>= λ z. Ok y) new

-- ---- what is behind the first part of a loop

abbrev rest_end : ℕ → ℕ → Option cores.Expression → Option Operand → Option cores.Expression → cores.Statement × Scoped → TypedStatement
rest_end line n first x c y = on_line line (test_node x) >>= λ e. Ok (cores.for_loop line n first e c y.0, y.1)

module _ (line n : ℕ) (first : Option cores.Expression) (s : Scoped) (test last : Option Tree) (body : TypedStatement) where
  pub rest_test_fails : (e : TypingError) → Fails e (part_tested s test) → Fails e (typed_rest line n first s test last body)
  rest_test_fails e bad = fails_bind e (part_tested s test) (λ x. part_ignored s last >>= λ c. body >>= rest_end line n first x c) bad

  pub rest_last_fails : (e : TypingError) (x : Option Operand) → part_tested s test ≡ Ok x → Fails e (part_ignored s last) → Fails e (typed_rest line n first s test last body)
  rest_last_fails e x tested bad =
      second_fails e (part_tested s test) x (λ z. part_ignored s last >>= λ c. body >>= rest_end line n first z c) tested
      (fails_bind e (part_ignored s last) (λ c. body >>= rest_end line n first x c) bad)

  pub rest_body_fails : (e : TypingError) (x : Option Operand) (c : Option cores.Expression) → part_tested s test ≡ Ok x → part_ignored s last ≡ Ok c → Fails e body → Fails e (typed_rest line n first s test last body)
  rest_body_fails e x c tested ended bad =
      second_fails e (part_tested s test) x (λ z. part_ignored s last >>= λ d. body >>= rest_end line n first z d) tested
      (second_fails e (part_ignored s last) c (λ d. body >>= rest_end line n first x d) ended (fails_bind e body (rest_end line n first x c) bad))

  pub rest_behind : (x : Option Operand) (c : Option cores.Expression) (y : cores.Statement × Scoped) → part_tested s test ≡ Ok x → part_ignored s last ≡ Ok c → body ≡ Ok y
      → rest_end line n first x c y ≡ typed_rest line n first s test last body
  rest_behind x c y tested ended typed =
      sym (ap (λ (r : Result (Option Operand) Fault). r >>= λ z. part_ignored s last >>= λ k. body >>= rest_end line n first z k) tested
      ∙ ap (λ (r : Result (Option cores.Expression) Fault). r >>= λ k. body >>= rest_end line n first x k) ended
      ∙ ap (λ (r : TypedStatement). r >>= rest_end line n first x c) typed)

-- ---- a statement as code has it

pub statement_as : (a b : Around) (s : Scoped) (x y : Stmt) → a ≡ b → x ≡ y → typed_statement a s (view_statement x) ≡ typed_statement b s (view_statement y)
statement_as a b s x y same here = ap (λ (d : Around). typed_statement d s (view_statement x)) same ∙ ap (λ (z : Stmt). typed_statement b s (view_statement z)) here

pub fails_at : (a : Around) (s : Scoped) (e : TypingError) (x y : Statement) → x ≡ y → Fails e (typed_statement a s y) → Fails e (typed_statement a s x)
fails_at a s e x y same bad = fails_along e (typed_statement a s y) (typed_statement a s x) (sym (ap (typed_statement a s) same)) bad
