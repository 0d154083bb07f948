-- Trees whose tokens are spelled in the bytes that they lie in.
use Rattle.std.specs.Prelude.{◌≡◌, ℕ, List, Ok}
use Rattle.c_token.specs.declared.token.Token.{Token}
use Rattle.c_lexer.specs.Kinds.{AllSpelled}
use Rattle.c_tree.specs.Statements.{Externals}
use Rattle.c_tree.specs.Files.{IsFile}
use Rattle.c_elab_decl.specs.Files.{elaborated}
use Rattle.core_tree.specs.Trees.{TypedFile}

-- it is the tree of tokens that are spelled in these bytes
pub record HasSpelling (bytes : List ℕ) (tree : Externals) : Type 0 where
  pub tokens : List Token
  pub spelled : AllSpelled bytes tokens
  pub is_tree : IsFile bytes tokens tree

-- it is the typing of such a tree
pub record IsTypedOf (bytes : List ℕ) (core : TypedFile) : Type 0 where
  pub tree : Externals
  pub spelling : HasSpelling bytes tree
  pub typed : elaborated tree ≡ Ok core
