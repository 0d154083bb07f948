-- A tree without where it lies in memory.
use Rattle.std.specs.Prelude.{ℕ, ◌+◌, max, List, [], ◌∷◌, map, Option, Box}
use Rattle.std.specs.Global.{Global}
use Rattle.c_token.specs.declared.token.Constant.{Constant}
use Rattle.c_tree.specs.declared.expr.BinaryOp.{BinaryOp}
use Rattle.c_tree.specs.declared.expr.UnaryOp.{UnaryOp}
use Rattle.c_tree.specs.declared.expr.StepOp.{StepOp}
use Rattle.c_tree.specs.declared.expr.Name.{Name}
use Rattle.c_tree.specs.declared.expr.PointerMark.{PointerMark}
use Rattle.c_tree.specs.declared.expr.Expr.{Expr, Row_of-Expr, end_of-Expr, more_of-Expr}
use Rattle.c_tree.specs.declared.expr.Expr as exprs
use Rattle.c_tree.specs.declared.expr.Declarator.{Declarator, Row_of-ArraySuffix, end_of-ArraySuffix, more_of-ArraySuffix}
use Rattle.c_tree.specs.declared.expr.DeclaratorCore.{DeclaratorCore}
use Rattle.c_tree.specs.declared.expr.DeclaratorCore as cores
use Rattle.c_tree.specs.declared.expr.ArraySuffix.{ArraySuffix}
use Rattle.c_tree.specs.declared.expr.ArraySuffix as array_suffixes
use Rattle.c_tree.specs.declared.specifier.Qualifier.{Qualifier}
use Rattle.c_tree.specs.declared.specifier.TypeWord.{TypeWord}
use Rattle.c_tree.specs.declared.specifier.TagKind.{TagKind}
use Rattle.c_tree.specs.declared.specifier.TypeSpecifier.{TypeSpecifier}
use Rattle.c_tree.specs.declared.specifier.TypeSpecifier.TheVariants as type_specifiers

-- one of the specifiers of a type, or a qualifier; a tag has the line of its keyword
pub data TypePart : Type 0 where
  qualified : (line : ℕ) (qualifier : Qualifier) → TypePart
  word : (line : ℕ) (word : TypeWord) → TypePart
  tagged : (line : ℕ) (kind : TagKind) (bytes : List ℕ) → TypePart
  typedef_name : (line : ℕ) (bytes : List ℕ) → TypePart

mutual
  pub data Tree : Type 0 where
    constant : (line : ℕ) (value : Constant) → Tree
    character : (line : ℕ) (value : ℕ) → Tree
    strings : (line : ℕ) (parts : List (List ℕ)) → Tree
    name : (line : ℕ) (bytes : List ℕ) → Tree
    parens : (line : ℕ) (inner : Tree) → Tree
    unary : (line : ℕ) (op : UnaryOp) (operand : Tree) → Tree
    address : (line : ℕ) (operand : Tree) → Tree
    dereference : (line : ℕ) (operand : Tree) → Tree
    cast : (line : ℕ) (specifiers : List TypePart) (declarator : Declared) (operand : Tree) → Tree
    sizeof_expr : (line : ℕ) (operand : Tree) → Tree
    sizeof_type : (line : ℕ) (specifiers : List TypePart) (declarator : Declared) → Tree
    step : (line : ℕ) (op : StepOp) (operand : Tree) → Tree
    member : (line : ℕ) (left : Tree) (bytes : List ℕ) → Tree
    arrow : (line : ℕ) (left : Tree) (bytes : List ℕ) → Tree
    subscript : (line : ℕ) (left index : Tree) → Tree
    binary : (line : ℕ) (op : BinaryOp) (left right : Tree) → Tree
    choice : (line : ℕ) (test yes no : Tree) → Tree
    assign : (line : ℕ) (op : Option BinaryOp) (place value : Tree) → Tree
    comma : (line : ℕ) (left right : Tree) → Tree
    call : (function : Tree) (arguments : Trees) → Tree

  pub data Trees : Type 0 where
    none : Trees
    more : (first : Tree) (rest : Trees) → Trees

  -- a declarator: without a name, of a name, or of a declarator in parentheses, each with the suffixes behind it; or `*` with qualifiers before one
  pub data Declared : Type 0 where
    unnamed : (suffixes : Suffixes) → Declared
    named : (line : ℕ) (bytes : List ℕ) (suffixes : Suffixes) → Declared
    inside : (line : ℕ) (inner : Declared) (suffixes : Suffixes) → Declared
    pointing : (line : ℕ) (qualifiers : List Qualifier) (inner : Declared) → Declared

  -- suffixes of arrays: `[bound]` and `[]`
  pub data Suffixes : Type 0 where
    no_suffix : Suffixes
    bounded : (line : ℕ) (bound : Tree) (rest : Suffixes) → Suffixes
    unbounded : (line : ℕ) (rest : Suffixes) → Suffixes

abbrev pub view_name : Name → List ℕ
view_name n = n.bytes.items

abbrev pub view_type_part : TypeSpecifier → TypePart
view_type_part (type_specifiers.Qualifier line q) = qualified line q
view_type_part (type_specifiers.Word line w) = word line w
view_type_part (type_specifiers.Tagged line kind n) = tagged line kind (view_name n)
view_type_part (type_specifiers.Named line n) = typedef_name line (view_name n)

-- what stands behind pointers
abbrev pub behind_pointers : List PointerMark → Declared → Declared
behind_pointers [] d = d
behind_pointers (p ∷ ps) d = pointing p.line p.qualifiers.items (behind_pointers ps d)

abbrev mutual
  pub view : Expr → Tree
  view (exprs.Constant line c) = constant line c
  view (exprs.Character line c) = character line c
  view (exprs.Strings line parts) = strings line (map view_name parts.items)
  view (exprs.Name line n) = name line (view_name n)
  view (exprs.Parens' line p e) = parens line (view e)
  view (exprs.Unary' line op p e) = unary line op (view e)
  view (exprs.Address' line p e) = address line (view e)
  view (exprs.Dereference' line p e) = dereference line (view e)
  view (exprs.Cast' line p parts pointers core shape suffixes q e) =
      cast line (map view_type_part parts.items) (behind_pointers pointers.items (view_core core (view_suffixes suffixes))) (view e)
  view (exprs.SizeofExpr' line p e) = sizeof_expr line (view e)
  view (exprs.SizeofType' line p parts pointers core shape suffixes) =
      sizeof_type line (map view_type_part parts.items) (behind_pointers pointers.items (view_core core (view_suffixes suffixes)))
  view (exprs.Step' line op p e) = step line op (view e)
  view (exprs.Member' line p e n) = member line (view e) (view_name n)
  view (exprs.Arrow' line p e n) = arrow line (view e) (view_name n)
  view (exprs.Subscript' line p a q b) = subscript line (view a) (view b)
  view (exprs.Binary' line op p a q b) = binary line op (view a) (view b)
  view (exprs.Choice' line p a q b r c) = choice line (view a) (view b) (view c)
  view (exprs.Assign' line op p a q b) = assign line op (view a) (view b)
  view (exprs.Comma' line p a q b) = comma line (view a) (view b)
  view (exprs.Call' p f shape args) = call (view f) (views args)

  pub views : {m : _} → Row_of-Expr m → Trees
  views end_of-Expr = none
  views (more_of-Expr e rest) = more (view e) (views rest)

  -- what stands before suffixes
  pub view_core : DeclaratorCore → Suffixes → Declared
  view_core cores.Absent suffixes = unnamed suffixes
  view_core (cores.Named line n) suffixes = named line (view_name n) suffixes
  view_core (cores.Inside' line p pointers core shape inner) suffixes = inside line (behind_pointers pointers.items (view_core core (view_suffixes inner))) suffixes

  -- a suffix in front of others
  pub view_suffix : ArraySuffix → Suffixes → Suffixes
  view_suffix (array_suffixes.Bounded' line p e) rest = bounded line (view e) rest
  view_suffix (array_suffixes.Open line) rest = unbounded line rest

  pub view_suffixes : {m : _} → Row_of-ArraySuffix m → Suffixes
  view_suffixes end_of-ArraySuffix = no_suffix
  view_suffixes (more_of-ArraySuffix s rest) = view_suffix s (view_suffixes rest)

abbrev pub boxed : Box Expr Global → Tree
boxed b = view b.value

-- the trees of a list of expressions
abbrev pub views_of : List Expr → Trees
views_of [] = none
views_of (e ∷ es) = more (view e) (views_of es)

-- the suffixes of a list
abbrev pub suffixes_of : List ArraySuffix → Suffixes
suffixes_of [] = no_suffix
suffixes_of (s ∷ ss) = view_suffix s (suffixes_of ss)

abbrev pub view_declarator : Declarator → Declared
view_declarator d = behind_pointers d.pointers.items (view_core d.core (suffixes_of d.suffixes.items))

-- the levels of what stands behind pointers, if there are any: one at least
abbrev pub pointed : List PointerMark → ℕ → ℕ
pointed [] levels = levels
pointed (p ∷ ps) levels = max levels 1

-- How many levels a tree has: each expression and each declarator is one, with the pointers before it, but for the empty one. A
-- bound lies below its declarator, and a type name below its cast or `sizeof`.
abbrev mutual
  pub depth : Tree → ℕ
  depth (constant line c) = 1
  depth (character line c) = 1
  depth (strings line parts) = 1
  depth (name line n) = 1
  depth (parens line e) = depth e + 1
  depth (unary line op e) = depth e + 1
  depth (address line e) = depth e + 1
  depth (dereference line e) = depth e + 1
  depth (cast line parts d e) = max (declared_depth d) (depth e) + 1
  depth (sizeof_expr line e) = depth e + 1
  depth (sizeof_type line parts d) = declared_depth d + 1
  depth (step line op e) = depth e + 1
  depth (member line e n) = depth e + 1
  depth (arrow line e n) = depth e + 1
  depth (subscript line a b) = max (depth a) (depth b) + 1
  depth (binary line op a b) = max (depth a) (depth b) + 1
  depth (choice line a b c) = max (depth a) (max (depth b) (depth c)) + 1
  depth (assign line op a b) = max (depth a) (depth b) + 1
  depth (comma line a b) = max (depth a) (depth b) + 1
  depth (call f args) = max (depth f) (depth_of args) + 1

  pub depth_of : Trees → ℕ
  depth_of none = 0
  depth_of (more first rest) = max (depth first) (depth_of rest)

  pub declared_depth : Declared → ℕ
  declared_depth (unnamed no_suffix) = 0
  declared_depth (unnamed (bounded line e rest)) = max (depth e) (suffixes_depth rest) + 1
  declared_depth (unnamed (unbounded line rest)) = suffixes_depth rest + 1
  declared_depth (named line n suffixes) = suffixes_depth suffixes + 1
  declared_depth (inside line d suffixes) = max (declared_depth d) (suffixes_depth suffixes) + 1
  declared_depth (pointing line qs d) = max (declared_depth d) 1

  pub suffixes_depth : Suffixes → ℕ
  suffixes_depth no_suffix = 0
  suffixes_depth (bounded line e rest) = max (depth e) (suffixes_depth rest)
  suffixes_depth (unbounded line rest) = suffixes_depth rest

-- the line of the first token
abbrev pub first_line : Tree → ℕ
first_line (constant line c) = line
first_line (character line c) = line
first_line (strings line parts) = line
first_line (name line n) = line
first_line (parens line e) = line
first_line (unary line op e) = line
first_line (address line e) = line
first_line (dereference line e) = line
first_line (cast line parts d e) = line
first_line (sizeof_expr line e) = line
first_line (sizeof_type line parts d) = line
first_line (step line op e) = first_line e
first_line (member line e n) = first_line e
first_line (arrow line e n) = first_line e
first_line (subscript line a b) = first_line a
first_line (binary line op a b) = first_line a
first_line (choice line a b c) = first_line a
first_line (assign line op a b) = first_line a
first_line (comma line a b) = first_line a
first_line (call f args) = first_line f

abbrev pub type_part_line : TypePart → ℕ
type_part_line (qualified line q) = line
type_part_line (word line w) = line
type_part_line (tagged line kind n) = line
type_part_line (typedef_name line n) = line
