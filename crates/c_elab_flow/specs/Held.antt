-- What code holds of definitions and their declarators.
use Rattle.std.specs.Prelude.{◌≡◌, Bool, List, [], ◌∷◌, map, Option, Some, if◌then◌else◌}
use Rattle.core_tree.specs.Trees.{view_statement}
use Rattle.c_elab_base.specs.Derivations.{Parameter, Derived, counted, called}
use Rattle.c_elab_flow.specs.declared.files.Definition.{Definition as CodeDefinition}
use Rattle.c_tree.specs.declared.declaration.DeclaratorSuffix.{DeclaratorSuffix}
use Rattle.c_tree.specs.Declarations.{Parameters, full_end, view_full_suffix}
use Rattle.c_elab_flow.specs.Files.{one_function, Definition}

abbrev pub view_definition : CodeDefinition → Definition
view_definition d = record { number = d.number; variables = d.variables.items; labels = d.labels; body = view_statement d.body.value }

abbrev pub view_definitions : List CodeDefinition → List Definition
view_definitions ds = map view_definition ds

-- ---- the declarator of a definition

-- it has this suffix alone, which is a function's
abbrev pub IsOwn : Option (Parameters × Bool) → DeclaratorSuffix → Type 0
IsOwn own x = (q : Parameters × Bool) × (own ≡ Some q) × (one_function (view_full_suffix x full_end) ≡ Some q)

abbrev pub called_parameters : Derived → List Parameter
called_parameters (counted n) = []
called_parameters (called ps ellipsis) = ps

-- the parameters of suffixes that are a function's alone
abbrev pub only_parameters : List Derived → List Parameter
only_parameters [] = []
only_parameters (d ∷ []) = called_parameters d
only_parameters (d ∷ e ∷ ds) = []

abbrev pub parameters_in : Bool → List Derived → List Parameter
parameters_in own ds = if own then only_parameters ds else []
