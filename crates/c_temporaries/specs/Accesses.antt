-- How code reaches the value at a place: directly, or by a register that tells where it is.
use Rattle.std.specs.Prelude.{ℕ, Bool, true, false, List, Option, Some, None, slice_get}
use Rattle.std.specs.Option.{option_and_then}
use Rattle.core_tree.specs.declared.functions.Variable.{Variable}
use Rattle.c_temporaries.specs.declared.accesses.Access.{Access}
use Rattle.c_temporaries.specs.declared.accesses.Access.TheVariants as accesses
use Rattle.core_tree.specs.Trees.{Place, variable_at, object_at, literal_at, pointed, arrow, member, element, subscript}

-- the variable that holds the address of a variable, if it has one
abbrev pub home_in : List Variable → ℕ → Option ℕ
home_in variables v = option_and_then (λ (x : Variable). x.home) (slice_get variables v)

abbrev pub unless_homed : Option ℕ → ℕ → Option ℕ
unless_homed None v = Some v
unless_homed (Some h) v = None

-- the variable without an address within which a place lies; none where a pointer tells where it is
abbrev pub holder_in : List Variable → Place → Option ℕ
holder_in variables (variable_at line v offset) = unless_homed (home_in variables v) v
holder_in variables (object_at line k offset) = None
holder_in variables (literal_at line k) = None
holder_in variables (pointed line e) = None
holder_in variables (arrow line e offset) = None
holder_in variables (member line x offset) = holder_in variables x
holder_in variables (element line x e size whole swapped) = holder_in variables x
holder_in variables (subscript line a e size swapped) = None

abbrev pub variable_access : Option ℕ → (v offset : ℕ) → Access
variable_access None v offset = accesses.Variable v offset
variable_access (Some h) v offset = accesses.Pointed

abbrev pub evaluated_access : Option ℕ → Access
evaluated_access None = accesses.Pointed
evaluated_access (Some v) = accesses.Within v

abbrev pub access : List Variable → Place → Access
access variables (variable_at line v offset) = variable_access (home_in variables v) v offset
access variables (object_at line k offset) = accesses.Object k offset
access variables (literal_at line k) = accesses.Pointed
access variables (pointed line e) = accesses.Pointed
access variables (arrow line e offset) = accesses.Pointed
access variables (member line x offset) = evaluated_access (holder_in variables x)
access variables (element line x e size whole swapped) = evaluated_access (holder_in variables x)
access variables (subscript line a e size swapped) = accesses.Pointed

-- a register tells where it is
abbrev pub is_evaluated : Access → Bool
is_evaluated (accesses.Variable v offset) = false
is_evaluated (accesses.Object k offset) = false
is_evaluated (accesses.Within v) = true
is_evaluated accesses.Pointed = true
