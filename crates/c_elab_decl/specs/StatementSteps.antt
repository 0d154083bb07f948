-- What a step over a list of statements or cases says: what is made so far goes before what is made behind it.
use Rattle.std.specs.Prelude.{◌≡◌, ℕ, List, Vec, Result, Ok, Err}
use Rattle.std.specs.Global.{Global}
use Rattle.c_tree.specs.declared.statement.Item.{Item}
use Rattle.c_tree.specs.declared.statement.Stmt.{Stmt, Block}
use Rattle.core_tree.specs.declared.statement.CoreItem.{CoreItem}
use Rattle.core_tree.specs.Trees as cores
use Rattle.c_scope.specs.declared.fault.TypingError.{TypingError}
use Rattle.c_scope.specs.Scopes.{Scoped}
use Rattle.c_scope.specs.Faults.{◌>>=◌, Fails}
use Rattle.c_elab_type.specs.Steps.{prepend}
use Rattle.c_elab_decl.specs.Statements.{TypedStatement, TypedFront}

-- the same of a statement of a list and what stands before it, whatever stands behind it
abbrev pub Fronts : Result (Unit {0}) TypingError → Scoped → List CoreItem → List CoreItem → TypedFront → Type 0
Fronts (Ok u) s before now front = (item : cores.Items → cores.Items) × (front ≡ Ok (item, s)) × ((rest : cores.Items) → prepend before (item rest) ≡ prepend now rest)
Fronts (Err e) s before now front = Fails e front

-- a statement in a list, without labels and cases before it
abbrev pub alone : TypedStatement → TypedFront
alone statement = statement >>= λ y. Ok (cores.does y.0, y.1)

-- a block of the code, and its items
pub record IsBlockOf (statement : Stmt) (items : List Item) : Type 0 where
  pub line : ℕ
  pub held : Vec Item Global
  pub is : statement ≡ Block line held
  pub same : items ≡ held.items
