-- What statements are typed by, apart from declarations and what stands within them (C11 6.8).
use Rattle.std.specs.Prelude.{ℕ, ◌+◌, ◌==◌, ◌++◌, Bool, true, false, List, [], ◌∷◌, Option, Some, None, Result, Ok, Err, if◌then◌else◌}
use Rattle.std.specs.List.{list_any}
use Rattle.c_tree.specs.Tree.{Tree}
use Rattle.c_tree.specs.Statements.{Statement, done}
use Rattle.c_types.specs.declared.integers.IntegerType.{IntegerType}
use Rattle.c_types.specs.declared.integers.IntegerType.TheVariants as types
use Rattle.c_types.specs.declared.types.ValueType.{ValueType}
use Rattle.c_types.specs.declared.types.ValueType.TheVariants.{Void, Integer}
use Rattle.c_types.specs.Integers.{promoted}
use Rattle.c_types.specs.Types.{CType, void, integer, aggregate, array, pointer, function, Completed}
use Rattle.core_tree.specs.Operations.{converted}
use Rattle.core_tree.specs.Typed.{type_of}
use Rattle.core_tree.specs.Trees as cores
use Rattle.c_values.specs.Numbers.{TypedNumber}
use Rattle.c_scope.specs.Scopes.{Cases, Scoped}
use Rattle.c_scope.specs.Faults.{◌>>=◌, required, Fault, on_line}
use Rattle.c_operands.specs.Nodes.{as_type}
use Rattle.c_operands.specs.Operands.{Operand, value, object, structure, number, dropped, record_value, constant_in}
use Rattle.c_elab_expr.specs.Typing.{operand_by, operand}
use Rattle.c_elab_flow.specs.declared.nodes.Around.{Around as CodeAround}
use Rattle.c_elab_flow.specs.Jumps.{label_number}

-- what stands around a statement: the labels of its function, and whether `break` and `continue` have their statements
pub record Around : Type 0 where
  pub labels : List (List ℕ)
  pub breaks : Bool
  pub continues : Bool

abbrev pub in_loop : Around → Around
in_loop a = record a { breaks = true; continues = true }

abbrev pub in_switch : Around → Around
in_switch a = record a { breaks = true }

-- ---- how far the function is typed

-- one loop more
abbrev pub with_loop : Scoped → Scoped
with_loop s = record s { flow = record s.flow { loops = s.flow.loops + 1 } }

-- one label more
abbrev pub with_label : Scoped → Scoped
with_label s = record s { flow = record s.flow { labels = s.flow.labels + 1 } }

-- within a switch whose value has this type, and behind it
abbrev pub with_switch : Scoped → IntegerType → Scoped
with_switch s t = record s { flow = record s.flow { switch = Some (record { type = t; values = []; has_default = false }) } }

-- ---- expressions in statements

-- nothing, or an expression whose value isn't used
abbrev pub part_ignored : Scoped → Option Tree → Result (Option cores.Expression) Fault
part_ignored s None = Ok None
part_ignored s (Some e) = do
  x ← operand_by s false e
  Ok (Some (dropped s.records.done x))

-- nothing, or the operand of a test
abbrev pub part_tested : Scoped → Option Tree → Result (Option Operand) Fault
part_tested s None = Ok None
part_tested s (Some e) = do
  x ← operand s e
  Ok (Some x)

-- rule 17: a test is scalar
abbrev pub test_node : Option Operand → Result (Option cores.Expression) ℕ
test_node None = Ok None
test_node (Some x) = do
  e ← number 17 x
  Ok (Some e)

-- what `return` hands over: rule 16: a value where the function gives one; rule 8: of its type, as by assignment
abbrev pub return_node : List Completed → ℕ → CType → Operand → Result cores.Statement ℕ
return_node rs line void x = Err 16
return_node rs line (integer t) x = do
  e ← number 8 x
  Ok (cores.returns line (as_type t e))
return_node rs line (aggregate p) x = do
  a ← required 8 (record_value rs (aggregate p) x)
  Ok (cores.returns_structure line a)
return_node rs line (array element n) x = Err 8
return_node rs line (pointer t c) x = Err 8
return_node rs line (function f) x = Err 8

abbrev pub return_nothing_node : ℕ → CType → Result cores.Statement ℕ
return_nothing_node line void = Ok (cores.returns_nothing line)
return_nothing_node line (integer t) = Err 16
return_nothing_node line (aggregate p) = Err 16
return_nothing_node line (array element n) = Err 16
return_nothing_node line (pointer t c) = Err 16
return_nothing_node line (function f) = Err 16

-- ---- switches (C11 6.8.4.2)

-- the type to which the cases of a value are converted, where it is an integer
abbrev pub promoted_type : ValueType → IntegerType
promoted_type Void = types.Int
promoted_type (Integer t) = promoted t

abbrev pub switch_type : Operand → IntegerType
switch_type (value e constant) = promoted_type (type_of e)
switch_type (object line v offset t constant) = types.Int
switch_type (structure t a) = types.Int

-- rule 17: it is an integer
abbrev pub switch_value : Operand → Result cores.Expression ℕ
switch_value x = do
  e ← number 17 x
  Ok (as_type (switch_type x) e)

abbrev pub has_value : List ℕ → ℕ → Bool
has_value values bits = list_any (λ v. bits == v) values

-- the type and the bits of a case, and the cases behind it; rule 13: it is a constant; rule 14: there is a switch, and no other
-- case of it has the value
abbrev pub case_in : Cases → TypedNumber → Result ((IntegerType × ℕ) × Cases) ℕ
case_in c n =
    let bits = converted n.type c.type n.bits in
    if has_value c.values bits then Err 14 else Ok ((c.type, bits), record c { values = c.values ++ bits ∷ [] })

abbrev pub case_of_switch : Option Cases → TypedNumber → Result ((IntegerType × ℕ) × Cases) ℕ
case_of_switch None n = Err 14
case_of_switch (Some c) n = case_in c n

abbrev pub case_node : Option Cases → Operand → Result ((IntegerType × ℕ) × Cases) ℕ
case_node switch x = do
  n ← required 13 (constant_in x)
  case_of_switch switch n

-- and one `default` at most
abbrev pub default_node : Option Cases → Result Cases ℕ
default_node None = Err 14
default_node (Some c) = if c.has_default then Err 14 else Ok (record c { has_default = true })

abbrev pub with_cases : Scoped → Cases → Scoped
with_cases s c = record s { flow = record s.flow { switch = Some c } }

-- ---- jumps

-- rule 15: no label before this one, whose number is told, has its name
abbrev pub is_number : Option ℕ → ℕ → Bool
is_number None n = false
is_number (Some k) n = k == n

abbrev pub label_node : List (List ℕ) → List ℕ → ℕ → Result (Unit {0}) ℕ
label_node labels name n = if is_number (label_number labels name) n then Ok tt else Err 15

abbrev pub jump_node : ℕ → List (List ℕ) → List ℕ → Result cores.Statement ℕ
jump_node line labels name = do
  k ← required 15 (label_number labels name)
  Ok (cores.jumps line k)

-- ---- what code holds

-- ---- typed statements, in front of a scope behind them

abbrev pub TypedNode : Type 0
TypedNode = Result (cores.Statement × Scoped) Fault

abbrev pub block_on : cores.Items → Scoped → TypedNode
block_on items behind = Ok (cores.block items, behind)

abbrev pub evaluated : Scoped → Tree → Scoped → TypedNode
evaluated s e behind = do
  x ← operand_by s false e
  Ok (cores.evaluate (dropped s.records.done x), behind)

abbrev pub returned : ℕ → Scoped → Tree → Scoped → TypedNode
returned line s e behind = do
  x ← operand s e
  c ← on_line line (return_node s.records.done line s.flow.gives x)
  Ok (c, behind)

abbrev pub if_on : ℕ → Operand → cores.Statement → Scoped → TypedNode
if_on line x one behind = do
  e ← on_line line (number 17 x)
  Ok (cores.if_then line e one, behind)

abbrev pub if_else_on : ℕ → Operand → cores.Statement → cores.Statement → Scoped → TypedNode
if_else_on line x one other behind = do
  e ← on_line line (number 17 x)
  Ok (cores.if_else line e one other, behind)

abbrev pub while_on : (line loop : ℕ) → Operand → cores.Statement → Scoped → TypedNode
while_on line loop x body behind = do
  e ← on_line line (number 17 x)
  Ok (cores.for_loop line loop None (Some e) None body, behind)

abbrev pub do_on : (line loop : ℕ) → cores.Statement → Operand → Scoped → TypedNode
do_on line loop body x behind = do
  e ← on_line line (number 17 x)
  Ok (cores.do_loop line loop body e, behind)

abbrev pub for_on : (line loop : ℕ) → Option cores.Expression → Option Operand → Option cores.Expression → cores.Statement → Scoped → TypedNode
for_on line loop first x last body behind = do
  e ← on_line line (test_node x)
  Ok (cores.for_loop line loop first e last body, behind)

abbrev pub switch_on : ℕ → Operand → cores.Items → Scoped → TypedNode
switch_on line x items behind = do
  v ← on_line line (switch_value x)
  Ok (cores.switch line v items, behind)

-- a statement behind a case or a default that doesn't stand among the items of a switch's body
abbrev pub case_on : ℕ → Operand → cores.Statement → Scoped → TypedNode
case_on line x statement s = do
  c ← on_line line (case_node s.flow.switch x)
  Ok (cores.stray line statement, with_cases s c.1)

abbrev pub default_on : ℕ → cores.Statement → Scoped → TypedNode
default_on line statement s = do
  c ← on_line line (default_node s.flow.switch)
  Ok (cores.stray line statement, with_cases s c)

-- ---- what code holds

abbrev pub view_around : CodeAround → Around
view_around a = record { labels = a.labels.now; breaks = a.breaks; continues = a.continues }
