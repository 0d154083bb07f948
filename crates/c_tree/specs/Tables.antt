-- The operators of C: how strongly each binds, and its mark (C11 6.5); and the keywords of specifiers (C11 6.7).
use Rattle.std.specs.Prelude.{ℕ, Option, Some, None}
use Rattle.c_token.specs.declared.token.Keyword.{Keyword}
use Rattle.c_token.specs.declared.token.Keyword.TheVariants as keywords
use Rattle.c_token.specs.declared.token.Mark.{Mark}
use Rattle.c_token.specs.declared.token.Mark.TheVariants as marks
use Rattle.c_tree.specs.declared.expr.BinaryOp.{BinaryOp}
use Rattle.c_tree.specs.declared.expr.BinaryOp.TheVariants as binaries
use Rattle.c_tree.specs.declared.expr.UnaryOp.{UnaryOp}
use Rattle.c_tree.specs.declared.expr.UnaryOp.TheVariants as unaries
use Rattle.c_tree.specs.declared.expr.StepOp.{StepOp}
use Rattle.c_tree.specs.declared.expr.StepOp.TheVariants as steps
use Rattle.c_tree.specs.declared.specifier.Qualifier.{Qualifier}
use Rattle.c_tree.specs.declared.specifier.Qualifier.TheVariants as qualifiers
use Rattle.c_tree.specs.declared.specifier.TypeWord.{TypeWord}
use Rattle.c_tree.specs.declared.specifier.TypeWord.TheVariants as type_words
use Rattle.c_tree.specs.declared.specifier.TagKind.{TagKind}
use Rattle.c_tree.specs.declared.specifier.TagKind.TheVariants as tag_kinds
use Rattle.c_tree.specs.declared.declaration.StorageClass.{StorageClass}
use Rattle.c_tree.specs.declared.declaration.StorageClass.TheVariants as storage_classes
use Rattle.c_tree.specs.declared.declaration.FunctionSpecifier.{FunctionSpecifier}
use Rattle.c_tree.specs.declared.declaration.FunctionSpecifier.TheVariants as function_specifiers
use Rattle.c_tree.specs.declared.declaration.RecordKind.{RecordKind}
use Rattle.c_tree.specs.declared.declaration.RecordKind.TheVariants as record_kinds
use Rattle.c_tree.specs.Tree.{Tree, constant, character, strings, name, parens, unary, address, dereference, cast, sizeof_expr, sizeof_type, step, member, arrow, subscript, binary, choice, assign, comma, call}

-- The levels, lowest first: comma 1, assignment 2, ?: 3, the binary operators 4 to 13, cast 14, unary 15, postfix 16, primary
-- 17.
abbrev pub strength_of : BinaryOp → ℕ
strength_of binaries.LogicalOr = 4
strength_of binaries.LogicalAnd = 5
strength_of binaries.Or = 6
strength_of binaries.Xor = 7
strength_of binaries.And = 8
strength_of binaries.Equal = 9
strength_of binaries.NotEqual = 9
strength_of binaries.Less = 10
strength_of binaries.Greater = 10
strength_of binaries.LessEqual = 10
strength_of binaries.GreaterEqual = 10
strength_of binaries.ShiftLeft = 11
strength_of binaries.ShiftRight = 11
strength_of binaries.Add = 12
strength_of binaries.Subtract = 12
strength_of binaries.Multiply = 13
strength_of binaries.Divide = 13
strength_of binaries.Remainder = 13

abbrev pub binary_mark : BinaryOp → Mark
binary_mark binaries.LogicalOr = marks.OrOr
binary_mark binaries.LogicalAnd = marks.AndAnd
binary_mark binaries.Or = marks.Bar
binary_mark binaries.Xor = marks.Caret
binary_mark binaries.And = marks.Ampersand
binary_mark binaries.Equal = marks.EqualEqual
binary_mark binaries.NotEqual = marks.NotEqual
binary_mark binaries.Less = marks.Less
binary_mark binaries.Greater = marks.Greater
binary_mark binaries.LessEqual = marks.LessEqual
binary_mark binaries.GreaterEqual = marks.GreaterEqual
binary_mark binaries.ShiftLeft = marks.ShiftLeft
binary_mark binaries.ShiftRight = marks.ShiftRight
binary_mark binaries.Add = marks.Plus
binary_mark binaries.Subtract = marks.Minus
binary_mark binaries.Multiply = marks.Star
binary_mark binaries.Divide = marks.Slash
binary_mark binaries.Remainder = marks.Percent

-- `=`, or the operator with `=`; the comparisons, `&&` and `||` have none
abbrev pub compound_mark : BinaryOp → Option Mark
compound_mark binaries.LogicalOr = None
compound_mark binaries.LogicalAnd = None
compound_mark binaries.Or = Some marks.BarEqual
compound_mark binaries.Xor = Some marks.CaretEqual
compound_mark binaries.And = Some marks.AmpersandEqual
compound_mark binaries.Equal = None
compound_mark binaries.NotEqual = None
compound_mark binaries.Less = None
compound_mark binaries.Greater = None
compound_mark binaries.LessEqual = None
compound_mark binaries.GreaterEqual = None
compound_mark binaries.ShiftLeft = Some marks.ShiftLeftEqual
compound_mark binaries.ShiftRight = Some marks.ShiftRightEqual
compound_mark binaries.Add = Some marks.PlusEqual
compound_mark binaries.Subtract = Some marks.MinusEqual
compound_mark binaries.Multiply = Some marks.StarEqual
compound_mark binaries.Divide = Some marks.SlashEqual
compound_mark binaries.Remainder = Some marks.PercentEqual

abbrev pub assign_mark : Option BinaryOp → Option Mark
assign_mark None = Some marks.Equal
assign_mark (Some op) = compound_mark op

abbrev pub unary_mark : UnaryOp → Mark
unary_mark unaries.Increment = marks.PlusPlus
unary_mark unaries.Decrement = marks.MinusMinus
unary_mark unaries.Plus = marks.Plus
unary_mark unaries.Minus = marks.Minus
unary_mark unaries.Complement = marks.Tilde
unary_mark unaries.Not = marks.Exclamation

-- the lowest level of a unary operator's operand: `++` and `--` take a unary expression, the others a cast
abbrev pub operand_level : UnaryOp → ℕ
operand_level unaries.Increment = 15
operand_level unaries.Decrement = 15
operand_level unaries.Plus = 14
operand_level unaries.Minus = 14
operand_level unaries.Complement = 14
operand_level unaries.Not = 14

abbrev pub step_mark : StepOp → Mark
step_mark steps.Increment = marks.PlusPlus
step_mark steps.Decrement = marks.MinusMinus

abbrev pub level_of : Tree → ℕ
level_of (constant line c) = 17
level_of (character line c) = 17
level_of (strings line parts) = 17
level_of (name line n) = 17
level_of (parens line e) = 17
level_of (unary line op e) = 15
level_of (address line e) = 15
level_of (dereference line e) = 15
level_of (cast line parts d e) = 14
level_of (sizeof_expr line e) = 15
level_of (sizeof_type line parts d) = 15
level_of (step line op e) = 16
level_of (member line e n) = 16
level_of (arrow line e n) = 16
level_of (subscript line a b) = 16
level_of (binary line op a b) = strength_of op
level_of (choice line a b c) = 3
level_of (assign line op a b) = 2
level_of (comma line a b) = 1
level_of (call f args) = 16

abbrev pub qualifier_keyword : Qualifier → Keyword
qualifier_keyword qualifiers.Const = keywords.Const
qualifier_keyword qualifiers.Volatile = keywords.Volatile
qualifier_keyword qualifiers.Restrict = keywords.Restrict

abbrev pub word_keyword : TypeWord → Keyword
word_keyword type_words.Void = keywords.Void
word_keyword type_words.Char = keywords.Char
word_keyword type_words.Short = keywords.Short
word_keyword type_words.Int = keywords.Int
word_keyword type_words.Long = keywords.Long
word_keyword type_words.Signed = keywords.Signed
word_keyword type_words.Unsigned = keywords.Unsigned
word_keyword type_words.Bool = keywords.Bool

abbrev pub tag_keyword : TagKind → Keyword
tag_keyword tag_kinds.Struct = keywords.Struct
tag_keyword tag_kinds.Union = keywords.Union
tag_keyword tag_kinds.Enum = keywords.Enum

abbrev pub storage_keyword : StorageClass → Keyword
storage_keyword storage_classes.Typedef = keywords.Typedef
storage_keyword storage_classes.Extern = keywords.Extern
storage_keyword storage_classes.Static = keywords.Static
storage_keyword storage_classes.Auto = keywords.Auto
storage_keyword storage_classes.Register = keywords.Register

abbrev pub function_keyword : FunctionSpecifier → Keyword
function_keyword function_specifiers.Inline = keywords.Inline
function_keyword function_specifiers.Noreturn = keywords.Noreturn

abbrev pub record_keyword : RecordKind → Keyword
record_keyword record_kinds.Struct = keywords.Struct
record_keyword record_kinds.Union = keywords.Union
