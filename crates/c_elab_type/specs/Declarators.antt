-- What declarators of typedefs and variables declare (C11 6.7.6, 6.7.8, 6.7.9), apart from members: each in the scope behind its
-- own suffixes, by what these say.
use Rattle.std.specs.Prelude.{ℕ, ◌||◌, Bool, false, List, length, Option, Some, None, Result, Ok}
use Rattle.c_tree.specs.Declarations.{Initial, Full, name_of}
use Rattle.c_types.specs.Types.{CType}
use Rattle.core_tree.specs.Trees as cores
use Rattle.core_tree.specs.Typed.{names_variable, structure_names}
use Rattle.c_scope.specs.Scopes.{Named, FunctionType, Scoped}
use Rattle.c_scope.specs.Faults.{◌>>=◌, Fault, on_line}
use Rattle.c_scope.specs.Types.{array_of}
use Rattle.c_elab_base.specs.declared.regions.Region.{Region}
use Rattle.c_elab_base.specs.Regions.{earlier}
use Rattle.c_elab_base.specs.Derivations.{full_line}
use Rattle.c_elab_type.specs.Initializers.{Value, number_value, structure_value, initializer_of, no_initializer, initial_elements}
use Rattle.c_elab_base.specs.Declarators.{function_typedef_node, variable_node, typedef_node, with_function_typedef, is_open, stated_lengths, within_initializer, of_type, with_typedef, with_variable}

-- its name's scope begins with its declarator (C11 6.2.1p7)
abbrev pub typed_typedef : Region → Scoped → Named → Full → Option Initial → List (Option ℕ) → Result Scoped Fault
typed_typedef r s base d i ls = do
  n ← on_line (full_line d) (typedef_node s.types base.constant (earlier r s (name_of d)) (array_of s.records.done base.type ls))
  none ← no_initializer (full_line d) (with_typedef s (name_of d) n) i
  Ok (with_typedef s (name_of d) n)

abbrev pub typed_function_typedef : Region → Scoped → Full → Option Initial → Result FunctionType ℕ → Result Scoped Fault
typed_function_typedef r s d i made = do
  f ← on_line (full_line d) (function_typedef_node s (earlier r s (name_of d)) made)
  none ← no_initializer (full_line d) (with_function_typedef s (name_of d) f) i
  Ok (with_function_typedef s (name_of d) f)

-- it stands for as many elements as an initializer says (C11 6.7.9p22)
abbrev pub given_lengths : Option Initial → List (Option ℕ) → List (Option ℕ)
given_lengths None ls = ls
given_lengths (Some i) ls = stated_lengths (initial_elements i) ls

-- the type of a variable
abbrev pub variable_type : Region → Scoped → CType → Full → Option Initial → List (Option ℕ) → Result CType Fault
variable_type r s base d i ls =
    on_line (full_line d) (variable_node s.records.done (earlier r s (name_of d)) (array_of s.records.done base (given_lengths i ls)))

-- A declared variable in front of what stands behind it. Its first bytes are drawn also where a jump passes over its initializer.
abbrev pub declared_item : ℕ → ℕ → Bool → Option Value → cores.Items → cores.Items
declared_item line variable passed None rest = cores.declares line variable rest
declared_item line variable passed (Some (number_value x)) rest = cores.initializes line variable (passed || names_variable variable x) x rest
declared_item line variable passed (Some (structure_value a)) rest = cores.initializes_structure line variable (passed || structure_names variable a) a rest

-- typed items, and the scope behind them
abbrev pub Typed : Type 0
Typed = Result (cores.Items × Scoped) Fault

-- an item in front of those behind it
abbrev pub in_front : (cores.Items → cores.Items) → Typed → Typed
in_front item behind = behind >>= λ y. Ok (item y.0, y.1)

-- a variable, whose initializer a jump passes over or not, and then what stands behind it
abbrev pub typed_variable : Region → Scoped → Named → Full → Option Initial → List (Option ℕ) → Bool → (Scoped → Typed) → Typed
typed_variable r s base d i ls passed behind = do
  t ← variable_type r s base.type d i ls
  x ← initializer_of false (full_line d) (within_initializer (is_open ls) s (name_of d) (of_type base t)) t i
  in_front (declared_item (full_line d) (length s.variables) passed x) (behind (with_variable s (name_of d) (of_type base t)))
