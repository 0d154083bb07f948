-- What a step over a list of definitions says, and what the declarator of a definition holds.
use Rattle.std.specs.Prelude.{◌≡◌, Bool, List, ◌++◌, Result, Ok, Err}
use Rattle.c_scope.specs.declared.fault.TypingError.{TypingError}
use Rattle.c_scope.specs.Scopes.{Scoped}
use Rattle.c_scope.specs.Faults.{◌>>=◌, Fault, Fails}
use Rattle.c_elab_base.specs.declared.derivations.Derived.{Derived as CodeDerived}
use Rattle.c_elab_base.specs.Derivations.{Derived, view_deriveds}
use Rattle.c_elab_base.specs.Specifiers.{Passed}
use Rattle.c_elab_flow.specs.declared.files.Definition.{Definition as CodeDefinition}
use Rattle.c_elab_flow.specs.Files.{Definition}
use Rattle.c_elab_flow.specs.Held.{view_definitions, parameters_in}

-- definitions in front of others, and the scope behind all
abbrev pub TypedDefinitions : Type 0
TypedDefinitions = Result (List Definition × Scoped) Fault

abbrev pub definitions_first : List Definition → TypedDefinitions → TypedDefinitions
definitions_first fs behind = behind >>= λ x. Ok (fs ++ x.0, x.1)

abbrev pub DefinitionStep : Result (Unit {0}) TypingError → List CodeDefinition → List CodeDefinition → TypedDefinitions → TypedDefinitions → Type 0
DefinitionStep (Ok u) before now whole behind = definitions_first (view_definitions before) whole ≡ definitions_first (view_definitions now) behind
DefinitionStep (Err e) before now whole behind = Fails e whole

abbrev pub view_own : List CodeDerived → Bool → Scoped → List Derived × Passed
view_own ds own s = (view_deriveds ds, record { parameters = parameters_in own (view_deriveds ds); scope = s })
