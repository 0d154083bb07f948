-- Where declarations and definitions stand among the tokens of a file (C11 6.9).
use Rattle.std.specs.Prelude.{◌≤◌, ℕ, List, ◌++◌, ◌≡◌, max}
use Rattle.c_token.specs.declared.token.Token.{Token}
use Rattle.c_tree.specs.declared.statement.External.{External}
use Rattle.c_tree.specs.declared.statement.External.TheVariants as externals
use Rattle.c_tree.specs.Names.{Scope, built_in_names}
use Rattle.c_tree.specs.Declarations.{Parts, Full, Declarators, parts_of, view_full, declarators_of, parts_depth, full_depth, declarators_depth, with_declaration, with_function}
use Rattle.c_tree.specs.Statements.{Statement, Externals, no_more, declared, defines, view_statement, statement_depth, file_depth}
use Rattle.c_tree.specs.Files.{SpellsDeclaration, SpellsDefinition, SpellsFile, IsWellDeclaration, IsWellDefinition, AreWellExternals}

-- An external declaration: a declaration, or the definition of a function.
pub data Outer : Type 0 where
  declarations : (specifiers : Parts) (declarators : Declarators) → Outer
  definitions : (specifiers : Parts) (declarator : Full) (body : Statement) → Outer

abbrev pub outer_of : External → Outer
outer_of (externals.Declares d) = declarations (parts_of d.value.specifiers.items) (declarators_of d.value.declarators.items)
outer_of (externals.Defines d) = definitions (parts_of d.value.specifiers.items) (view_full d.value.declarator) (view_statement d.value.body.value)

-- in front of those that follow
abbrev pub outermost : Outer → Externals → Externals
outermost (declarations parts ds) rest = declared parts ds rest
outermost (definitions parts d body) rest = defines parts d body rest

-- the names behind it
abbrev pub with_outer : Scope → Outer → Scope
with_outer names (declarations parts ds) = with_declaration names parts ds
with_outer names (definitions parts d body) = with_function names parts d

-- the names behind all of a file
abbrev pub with_externals : Scope → Externals → Scope
with_externals names no_more = names
with_externals names (declared parts ds rest) = with_externals (with_declaration names parts ds) rest
with_externals names (defines parts d body rest) = with_externals (with_function names parts d) rest

abbrev pub SpellsOuter : List ℕ → Outer → List Token → Type 0
SpellsOuter bytes (declarations parts ds) = SpellsDeclaration bytes parts ds
SpellsOuter bytes (definitions parts d body) = SpellsDefinition bytes parts d body

abbrev pub IsWellOuter : Scope → Outer → Type 0
IsWellOuter names (declarations parts ds) = IsWellDeclaration names parts ds
IsWellOuter names (definitions parts d body) = IsWellDefinition names parts d body

abbrev pub outer_depth : Outer → ℕ
outer_depth (declarations parts ds) = max (parts_depth parts) (declarators_depth ds)
outer_depth (definitions parts d body) = max (parts_depth parts) (max (full_depth d) (statement_depth body))

-- The tokens are the external declaration, with the names that are declared before it.
pub record IsExternal (bytes : List ℕ) (names : Scope) (e : Outer) (tokens : List Token) : Type 0 where
  pub spelled : SpellsOuter bytes e tokens
  pub well : IsWellOuter names e
  pub deep : outer_depth e ≤ 400

-- The external declaration stands at the front of the tokens, before the rest.
pub record Stands (bytes : List ℕ) (names : Scope) (e : Outer) (tokens rest : List Token) : Type 0 where
  pub own : List Token
  pub is : IsExternal bytes names e own
  pub front : tokens ≡ own ++ rest

-- no external declaration stands at the front
abbrev pub NoneStands : List ℕ → Scope → List Token → Type 0
NoneStands bytes names tokens = (e : Outer) (rest : List Token) → Stands bytes names e tokens rest → ⊥

-- External declarations stand one after another before the rest, the first with the names that are declared around it.
pub record StandBefore (bytes : List ℕ) (names : Scope) (tree : Externals) (tokens rest : List Token) : Type 0 where
  pub own : List Token
  pub spelled : SpellsFile bytes tree own
  pub well : AreWellExternals names tree
  pub deep : file_depth tree ≤ 400
  pub front : tokens ≡ own ++ rest

-- External declarations stand one after another up to the rest, at which none stands.
pub record EndsAt (bytes : List ℕ) (tokens rest : List Token) : Type 0 where
  pub tree : Externals
  pub before : StandBefore bytes built_in_names tree tokens rest
  pub none : NoneStands bytes (with_externals built_in_names tree) rest
