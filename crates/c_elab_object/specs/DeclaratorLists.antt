-- The declarators of a declaration, from left to right (C11 6.7).
use Rattle.std.specs.Prelude.{Bool, true, false, Option, Result, Ok}
use Rattle.c_tree.specs.Declarations.{Parts, Initial, Full, Declarators, none_declared, declarator}
use Rattle.c_scope.specs.Scopes.{Named, Scoped}
use Rattle.c_scope.specs.Faults.{◌>>=◌, Fault}
use Rattle.c_elab_base.specs.declared.regions.Region.{Region}
use Rattle.c_elab_base.specs.declared.regions.Role.{Role}
use Rattle.c_elab_base.specs.declared.regions.Role.TheVariants as roles
use Rattle.c_elab_base.specs.Derivations.{Derivation, lengths, callable, derivation}
use Rattle.c_elab_type.specs.Declarators.{Typed, typed_typedef, typed_function_typedef, typed_variable}
use Rattle.c_elab_type.specs.Specifiers.{Specification, typed_specifiers, typed_full}
use Rattle.c_elab_object.specs.ObjectEntries.{typed_object}
use Rattle.c_elab_object.specs.Functions.{typed_function}

-- ---- typedefs

abbrev pub typedef_by : Region → Scoped → Named → Full → Option Initial → Derivation → Result Scoped Fault
typedef_by r s base d i (lengths ls) = typed_typedef r s base d i ls
typedef_by r s base d i (callable made) = typed_function_typedef r s d i made

abbrev pub typed_typedefs : Region → Scoped → Named → Declarators → Result Scoped Fault
typed_typedefs r s base none_declared = Ok s
typed_typedefs r s base (declarator d i rest) = do
  x ← typed_full s d
  t ← typedef_by r x.1 base d i (derivation x.1.functions x.1.records.done base x.0)
  typed_typedefs r t base rest

-- ---- objects that live as long as the program, and functions

abbrev pub object_by : Region → Bool → Scoped → Named → Full → Option Initial → Derivation → Result Scoped Fault
object_by r is_extern s base d i (lengths ls) = typed_object r is_extern s base d i ls
object_by r is_extern s base d i (callable made) = typed_function r s d i made

abbrev pub typed_objects : Region → Bool → Scoped → Named → Declarators → Result Scoped Fault
typed_objects r is_extern s base none_declared = Ok s
typed_objects r is_extern s base (declarator d i rest) = do
  x ← typed_full s d
  t ← object_by r is_extern x.1 base d i (derivation x.1.functions x.1.records.done base x.0)
  typed_objects r is_extern t base rest

-- ---- variables of a function, and functions

abbrev pub variable_by : Region → Scoped → Named → Full → Option Initial → Bool → Derivation → (Scoped → Typed) → Typed
variable_by r s base d i passed (lengths ls) behind = typed_variable r s base d i ls passed behind
variable_by r s base d i passed (callable made) behind = typed_function r s d i made >>= behind

-- a jump passes over them or not; and then what stands behind them
abbrev pub typed_variables : Region → Scoped → Named → Bool → Declarators → (Scoped → Typed) → Typed
typed_variables r s base passed none_declared behind = behind s
typed_variables r s base passed (declarator d i rest) behind = do
  x ← typed_full s d
  variable_by r x.1 base d i passed (derivation x.1.functions x.1.records.done base x.0) (λ t. typed_variables r t base passed rest behind)

-- ---- declarations

-- declarators that make no variables of the function, by their role
abbrev pub typed_others : Region → Specification → Role → Declarators → Result Scoped Fault
typed_others r x roles.Typedef ds = typed_typedefs r x.scope x.type ds
typed_others r x roles.Extern ds = typed_objects r true x.scope x.type ds
typed_others r x roles.Static ds = typed_objects r false x.scope x.type ds
typed_others r x roles.Automatic ds = typed_objects r false x.scope x.type ds

abbrev pub typed_by : Region → Specification → Role → Bool → Declarators → (Scoped → Typed) → Typed
typed_by r x roles.Typedef passed ds behind = typed_others r x roles.Typedef ds >>= behind
typed_by r x roles.Extern passed ds behind = typed_others r x roles.Extern ds >>= behind
typed_by r x roles.Static passed ds behind = typed_others r x roles.Static ds >>= behind
typed_by r x roles.Automatic passed ds behind = typed_variables r x.scope x.type passed ds behind

-- a declaration in a block, over which a jump passes or not, and then what stands behind it
abbrev pub typed_declaration : Region → Scoped → Bool → Parts → Declarators → (Scoped → Typed) → Typed
typed_declaration r s passed parts ds behind = do
  x ← typed_specifiers r s parts ds
  typed_by r x x.role passed ds behind

-- outside of functions
abbrev pub in_file : Region
in_file = record { outer = 0; is_file = true }

-- a declaration outside of functions
abbrev pub typed_outside : Scoped → Parts → Declarators → Result Scoped Fault
typed_outside s parts ds = do
  x ← typed_specifiers in_file s parts ds
  typed_others in_file x x.role ds
