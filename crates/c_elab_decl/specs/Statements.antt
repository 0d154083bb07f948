-- The typed statements of a function, or the first broken rule: parts come before what they are parts of, from left to right
-- (C11 6.8).
use Rattle.std.specs.Prelude.{ℕ, ◌+◌, ◌++◌, Bool, true, false, List, [], length, Option, Some, None, Result, Ok, Err, if◌then◌else◌}
use Rattle.c_tree.specs.Tree.{Tree}
use Rattle.c_tree.specs.Statements.{Statement, block, if_then, if_else, evaluate, return_nothing, return_value, empty, while_loop, do_loop, for_loop, for_declared, switch_on, case_of, default_of, labelled, goto_label, break_off, continue_on, Items, done, declares, does}
use Rattle.core_tree.specs.Trees as cores
use Rattle.c_scope.specs.Scopes.{Scoped}
use Rattle.c_scope.specs.Faults.{◌>>=◌, Fault, fault, on_line}
use Rattle.c_operands.specs.Operands.{Operand, number, dropped}
use Rattle.c_elab_expr.specs.Typing.{operand_by, operand}
use Rattle.c_elab_base.specs.declared.regions.Region.{Region}
use Rattle.c_elab_type.specs.Declarators.{Typed, in_front}
use Rattle.c_elab_object.specs.DeclaratorLists.{typed_declaration}
use Rattle.c_elab_flow.specs.Jumps.{jumps_in, is_passed}
use Rattle.c_elab_flow.specs.Nodes.{with_label, jump_node, return_nothing_node, label_node, part_ignored, in_loop, in_switch, part_tested, with_cases, return_node, with_loop, switch_type, switch_value, case_node, default_node, with_switch, Around, test_node}

abbrev pub in_block : ℕ → Region
in_block outer = record { outer = outer; is_file = false }

abbrev pub switch_ended : Scoped → Scoped → Scoped
switch_ended outer s = record s { flow = record s.flow { switch = outer.flow.switch } }

-- the names that a block declares end with it
abbrev pub block_ended : Scoped → Scoped → Scoped
block_ended outer s = record s { bindings = outer.bindings }

-- ---- statements

-- a typed statement, and the scope behind it
abbrev pub TypedStatement : Type 0
TypedStatement = Result (cores.Statement × Scoped) Fault

-- what stands in a list instead of a statement, in front of what is behind it, and the scope behind it
abbrev pub TypedFront : Type 0
TypedFront = Result ((cores.Items → cores.Items) × Scoped) Fault

abbrev pub as_block : Scoped → Typed → TypedStatement
as_block outer items = do
  x ← items
  Ok (cores.block x.0, block_ended outer x.1)

-- items whose names end with them
abbrev pub own_block : Scoped → Typed → Typed
own_block outer items = do
  x ← items
  Ok (x.0, block_ended outer x.1)

-- the items of a switch, whose body is no block
abbrev pub as_items : TypedStatement → Typed
as_items body = do
  x ← body
  Ok (cores.does x.0 cores.done, x.1)

-- a switch on this operand with these items, which are typed before it is judged
abbrev pub switch_of : Scoped → ℕ → Operand → Typed → TypedStatement
switch_of s line x items = do
  y ← items
  v ← on_line line (switch_value x)
  Ok (cores.switch line v y.0, switch_ended s y.1)

-- the loop with a number, behind its first part, with the statement that it repeats, typed behind the other two
abbrev pub typed_rest : (line loop : ℕ) → Option cores.Expression → Scoped → Option Tree → Option Tree → TypedStatement → TypedStatement
typed_rest line loop first s test last body = do
  x ← part_tested s test
  c ← part_ignored s last
  y ← body
  e ← on_line line (test_node x)
  Ok (cores.for_loop line loop first e c y.0, y.1)

-- A statement, and the scope behind it: the names that a block declares end with it, all else is the function's or the file's.
abbrev mutual
  pub typed_statement : Around → Scoped → Statement → TypedStatement
  typed_statement a s (block line is) = as_block s (typed_items a false (length s.bindings) [] s is)
  typed_statement a s (if_then line test one) = do
    x ← operand s test
    y ← typed_statement a s one
    e ← on_line line (number 17 x)
    Ok (cores.if_then line e y.0, y.1)
  typed_statement a s (if_else line test one other) = do
    x ← operand s test
    y ← typed_statement a s one
    z ← typed_statement a y.1 other
    e ← on_line line (number 17 x)
    Ok (cores.if_else line e y.0 z.0, z.1)
  typed_statement a s (evaluate e) = do
    x ← operand_by s false e
    Ok (cores.evaluate (dropped s.records.done x), s)
  typed_statement a s (return_nothing line) = do
    c ← on_line line (return_nothing_node line s.flow.gives)
    Ok (c, s)
  typed_statement a s (return_value line e) = do
    x ← operand s e
    c ← on_line line (return_node s.records.done line s.flow.gives x)
    Ok (c, s)
  typed_statement a s (empty line) = Ok (cores.block cores.done, s)
  typed_statement a s (while_loop line test body) = do
    x ← operand s test
    y ← typed_statement (in_loop a) (with_loop s) body
    e ← on_line line (number 17 x)
    Ok (cores.for_loop line s.flow.loops None (Some e) None y.0, y.1)
  typed_statement a s (do_loop line body test) = do
    y ← typed_statement (in_loop a) (with_loop s) body
    x ← operand y.1 test
    e ← on_line line (number 17 x)
    Ok (cores.do_loop line s.flow.loops y.0 e, y.1)
  typed_statement a s (for_loop line first test last body) = do
    b ← part_ignored s first
    typed_rest line s.flow.loops b (with_loop s) test last (typed_statement (in_loop a) (with_loop s) body)
  typed_statement a s (for_declared line parts ds test last body) =
      as_block s (typed_declaration (in_block (length s.bindings)) s false parts ds (λ t. as_items (typed_rest line t.flow.loops None (with_loop t) test last (typed_statement (in_loop a) (with_loop t) body))))
  typed_statement a s (switch_on line e (block at is)) = do
    x ← operand s e
    switch_of s line x (own_block s (typed_items (in_switch a) true (length s.bindings) [] (with_switch s (switch_type x)) is))
  typed_statement a s (switch_on line e body) = do
    x ← operand s e
    switch_of s line x (as_items (typed_statement (in_switch a) (with_switch s (switch_type x)) body))
  typed_statement a s (case_of line e body) = do
    x ← operand s e
    y ← typed_statement a s body
    c ← on_line line (case_node y.1.flow.switch x)
    Ok (cores.stray line y.0, with_cases y.1 c.1)
  typed_statement a s (default_of line body) = do
    y ← typed_statement a s body
    c ← on_line line (default_node y.1.flow.switch)
    Ok (cores.stray line y.0, with_cases y.1 c)
  typed_statement a s (labelled line n body) = do
    y ← typed_statement a (with_label s) body
    new ← on_line line (label_node a.labels n s.flow.labels)
    Ok y
  typed_statement a s (goto_label line n) = do
    c ← on_line line (jump_node line a.labels n)
    Ok (c, s)
  typed_statement a s (break_off line) = if a.breaks then Ok (cores.breaks line, s) else Err (fault line 14)
  typed_statement a s (continue_on line) = if a.continues then Ok (cores.continues line, s) else Err (fault line 14)

  -- A statement in a list, which is a switch's or isn't, by what it is elsewhere: labels before it become items of the list, and
  -- so do the cases of a switch in its own list.
  pub typed_front : Around → Bool → Scoped → Statement → TypedStatement → TypedFront
  typed_front a switched s (labelled line n body) elsewhere = do
    y ← typed_front a switched (with_label s) body (typed_statement a (with_label s) body)
    new ← on_line line (label_node a.labels n s.flow.labels)
    Ok ((λ rest. cores.label s.flow.labels (y.0 rest)), y.1)
  typed_front a true s (case_of line e body) elsewhere = do
    x ← operand s e
    y ← typed_front a true s body (typed_statement a s body)
    c ← on_line line (case_node y.1.flow.switch x)
    Ok ((λ rest. cores.case_at line c.0.0 c.0.1 (y.0 rest)), with_cases y.1 c.1)
  typed_front a true s (default_of line body) elsewhere = do
    y ← typed_front a true s body (typed_statement a s body)
    c ← on_line line (default_node y.1.flow.switch)
    Ok ((λ rest. cores.default_at line (y.0 rest)), with_cases y.1 c)
  typed_front a switched s statement elsewhere = elsewhere >>= λ y. Ok (cores.does y.0, y.1)

  -- The items of a list that began with `outer` names and tags in scope, and is a switch's or isn't; earlier items of it jump to
  -- these names.
  pub typed_items : Around → Bool → (outer : ℕ) → List (List ℕ) → Scoped → Items → Typed
  typed_items a switched outer jumped s done = Ok (cores.done, s)
  typed_items a switched outer jumped s (declares parts ds rest) =
      typed_declaration (in_block outer) s (is_passed switched jumped rest) parts ds (λ t. typed_items a switched outer jumped t rest)
  typed_items a switched outer jumped s (does first rest) = do
    x ← typed_front a switched s first (typed_statement a s first)
    in_front x.0 (typed_items a switched outer (jumped ++ jumps_in first) x.1 rest)

-- the body of a switch: a block's items are those of the switch
abbrev pub typed_body : Around → Scoped → Statement → Typed
typed_body a s (block line is) = own_block s (typed_items a true (length s.bindings) [] s is)
typed_body a s body = as_items (typed_statement a s body)
