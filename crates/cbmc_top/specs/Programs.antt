-- The program of a file (C11 5.1.1.2, 6.9, 6.10).
use Rattle.std.specs.Prelude.{◌≡◌, ◌≤◌, ℕ, List, ◌++◌, length, None, Ok}
use Rattle.c_token.specs.declared.token.Token.{Token}
use Rattle.c_lexer.specs.Cutting.{IsCutInto, bytes_of}
use Rattle.c_pre.specs.Calls.{IsExpansion}
use Rattle.c_pre.specs.Headers as headers
use Rattle.c_tree.specs.Statements.{Externals}
use Rattle.c_tree.specs.Files.{IsFile}
use Rattle.core_tree.specs.Trees.{TypedFile}
use Rattle.core_tree.specs.Ranges.{Limits}
use Rattle.c_elab_decl.specs.Files.{elaborated}
use Rattle.c_profile.specs.Rules.{first_breach}
use Rattle.goto_unwind.specs.Counts.{passed}

-- what the tokens of a file lie in: its bytes without splices, and behind them the text of the headers' macros
abbrev pub text_behind : List ℕ → List ℕ
text_behind file = bytes_of file ++ headers.text

-- The tree is that of the file: its bytes are cut into tokens, the directives expand these into no more tokens than are
-- accepted, and the tree is that of the tokens.
pub record IsTreeOf (bytes : List ℕ) (tree : Externals) : Type 0 where
  pub cutting : List Token
  pub cut : IsCutInto bytes (Ok cutting)
  pub tokens : List Token
  pub expanded : IsExpansion (bytes_of bytes) cutting (Ok tokens)
  pub is_tree : IsFile (text_behind bytes) tokens tree

-- The typed tree is the program of the file: the typing of its tree, and that breaks no rule of the profile.
pub record IsFileOf (bytes : List ℕ) (core : TypedFile) : Type 0 where
  pub tree : Externals
  pub is_tree : IsTreeOf bytes tree
  pub typed : elaborated tree ≡ Ok core
  pub in_profile : first_breach core ≡ None

-- The same, with no more bytes than are accepted.
pub record IsAccepted (bytes : List ℕ) (core : TypedFile) : Type 0 where
  pub short : length bytes ≤ 1048576
  pub program : IsFileOf bytes core

-- The same, and under these bounds no count passes its limit.
pub record IsCheckable (limits : Limits) (bytes : List ℕ) (core : TypedFile) : Type 0 where
  pub accepted : IsAccepted bytes core
  pub counts : passed core limits ≡ None
