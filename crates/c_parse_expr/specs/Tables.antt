-- What a token begins where an operand is due, and what it does behind one (C11 6.5).
use Rattle.std.specs.Prelude.{ℕ, Option, Some, None}
use Rattle.c_token.specs.declared.token.Kind.{Kind}
use Rattle.c_token.specs.declared.token.Kind.TheVariants as kinds
use Rattle.c_token.specs.declared.token.Keyword.{Keyword}
use Rattle.c_token.specs.declared.token.Keyword.TheVariants as keywords
use Rattle.c_token.specs.declared.token.Mark.{Mark}
use Rattle.c_token.specs.declared.token.Mark.TheVariants as marks
use Rattle.c_tree.specs.declared.expr.BinaryOp.TheVariants as binaries
use Rattle.c_tree.specs.declared.expr.UnaryOp.TheVariants as unaries
use Rattle.c_tree.specs.declared.expr.StepOp.TheVariants as steps
use Rattle.c_tree.specs.declared.specifier.Qualifier.TheVariants as qualifiers
use Rattle.c_tree.specs.declared.specifier.TypeWord.TheVariants as type_words
use Rattle.c_tree.specs.declared.specifier.TagKind.TheVariants as tag_kinds
use Rattle.c_tree.specs.Tables.{strength_of}
use Rattle.c_parse_expr.specs.declared.table.Lead.{Lead}
use Rattle.c_parse_expr.specs.declared.table.Lead.TheVariants as leads
use Rattle.c_parse_expr.specs.declared.table.Suffix.{Suffix}
use Rattle.c_parse_expr.specs.declared.table.Suffix.TheVariants as suffixes
use Rattle.c_parse_expr.specs.declared.table.TypeStart.{TypeStart}
use Rattle.c_parse_expr.specs.declared.table.TypeStart.TheVariants as starts

abbrev pub lead_of_keyword : Keyword → Option Lead
lead_of_keyword keywords.Auto = None
lead_of_keyword keywords.Break = None
lead_of_keyword keywords.Case = None
lead_of_keyword keywords.Char = None
lead_of_keyword keywords.Const = None
lead_of_keyword keywords.Continue = None
lead_of_keyword keywords.Default = None
lead_of_keyword keywords.Do = None
lead_of_keyword keywords.Else = None
lead_of_keyword keywords.Enum = None
lead_of_keyword keywords.Extern = None
lead_of_keyword keywords.For = None
lead_of_keyword keywords.Goto = None
lead_of_keyword keywords.If = None
lead_of_keyword keywords.Inline = None
lead_of_keyword keywords.Int = None
lead_of_keyword keywords.Long = None
lead_of_keyword keywords.Register = None
lead_of_keyword keywords.Restrict = None
lead_of_keyword keywords.Return = None
lead_of_keyword keywords.Short = None
lead_of_keyword keywords.Signed = None
lead_of_keyword keywords.Sizeof = Some leads.Sizeof
lead_of_keyword keywords.Static = None
lead_of_keyword keywords.Struct = None
lead_of_keyword keywords.Switch = None
lead_of_keyword keywords.Typedef = None
lead_of_keyword keywords.Union = None
lead_of_keyword keywords.Unsigned = None
lead_of_keyword keywords.Void = None
lead_of_keyword keywords.Volatile = None
lead_of_keyword keywords.While = None
lead_of_keyword keywords.Bool = None
lead_of_keyword keywords.Noreturn = None

-- the specifier of a type that a keyword begins
abbrev pub keyword_start : Keyword → Option TypeStart
keyword_start keywords.Auto = None
keyword_start keywords.Break = None
keyword_start keywords.Case = None
keyword_start keywords.Char = Some (starts.Word type_words.Char)
keyword_start keywords.Const = Some (starts.Qualifier qualifiers.Const)
keyword_start keywords.Continue = None
keyword_start keywords.Default = None
keyword_start keywords.Do = None
keyword_start keywords.Else = None
keyword_start keywords.Enum = Some (starts.Tag tag_kinds.Enum)
keyword_start keywords.Extern = None
keyword_start keywords.For = None
keyword_start keywords.Goto = None
keyword_start keywords.If = None
keyword_start keywords.Inline = None
keyword_start keywords.Int = Some (starts.Word type_words.Int)
keyword_start keywords.Long = Some (starts.Word type_words.Long)
keyword_start keywords.Register = None
keyword_start keywords.Restrict = Some (starts.Qualifier qualifiers.Restrict)
keyword_start keywords.Return = None
keyword_start keywords.Short = Some (starts.Word type_words.Short)
keyword_start keywords.Signed = Some (starts.Word type_words.Signed)
keyword_start keywords.Sizeof = None
keyword_start keywords.Static = None
keyword_start keywords.Struct = Some (starts.Tag tag_kinds.Struct)
keyword_start keywords.Switch = None
keyword_start keywords.Typedef = None
keyword_start keywords.Union = Some (starts.Tag tag_kinds.Union)
keyword_start keywords.Unsigned = Some (starts.Word type_words.Unsigned)
keyword_start keywords.Void = Some (starts.Word type_words.Void)
keyword_start keywords.Volatile = Some (starts.Qualifier qualifiers.Volatile)
keyword_start keywords.While = None
keyword_start keywords.Bool = Some (starts.Word type_words.Bool)
keyword_start keywords.Noreturn = None

abbrev pub lead_of_mark : Mark → Option Lead
lead_of_mark marks.LeftBracket = None
lead_of_mark marks.RightBracket = None
lead_of_mark marks.LeftParenthesis = Some leads.Group
lead_of_mark marks.RightParenthesis = None
lead_of_mark marks.LeftBrace = None
lead_of_mark marks.RightBrace = None
lead_of_mark marks.Dot = None
lead_of_mark marks.Arrow = None
lead_of_mark marks.PlusPlus = Some (leads.Unary unaries.Increment)
lead_of_mark marks.MinusMinus = Some (leads.Unary unaries.Decrement)
lead_of_mark marks.Ampersand = None
lead_of_mark marks.Star = None
lead_of_mark marks.Plus = Some (leads.Unary unaries.Plus)
lead_of_mark marks.Minus = Some (leads.Unary unaries.Minus)
lead_of_mark marks.Tilde = Some (leads.Unary unaries.Complement)
lead_of_mark marks.Exclamation = Some (leads.Unary unaries.Not)
lead_of_mark marks.Slash = None
lead_of_mark marks.Percent = None
lead_of_mark marks.ShiftLeft = None
lead_of_mark marks.ShiftRight = None
lead_of_mark marks.Less = None
lead_of_mark marks.Greater = None
lead_of_mark marks.LessEqual = None
lead_of_mark marks.GreaterEqual = None
lead_of_mark marks.EqualEqual = None
lead_of_mark marks.NotEqual = None
lead_of_mark marks.Caret = None
lead_of_mark marks.Bar = None
lead_of_mark marks.AndAnd = None
lead_of_mark marks.OrOr = None
lead_of_mark marks.Question = None
lead_of_mark marks.Colon = None
lead_of_mark marks.Semicolon = None
lead_of_mark marks.Ellipsis = None
lead_of_mark marks.Equal = None
lead_of_mark marks.StarEqual = None
lead_of_mark marks.SlashEqual = None
lead_of_mark marks.PercentEqual = None
lead_of_mark marks.PlusEqual = None
lead_of_mark marks.MinusEqual = None
lead_of_mark marks.ShiftLeftEqual = None
lead_of_mark marks.ShiftRightEqual = None
lead_of_mark marks.AmpersandEqual = None
lead_of_mark marks.CaretEqual = None
lead_of_mark marks.BarEqual = None
lead_of_mark marks.Comma = None
lead_of_mark marks.Hash = None

abbrev pub lead_of : Kind → Option Lead
lead_of kinds.Identifier = Some leads.Name
lead_of (kinds.Keyword k) = lead_of_keyword k
lead_of (kinds.Constant c) = Some (leads.Constant c)
lead_of (kinds.Character c) = Some (leads.Character c)
lead_of kinds.String = Some leads.Strings
lead_of (kinds.Mark m) = lead_of_mark m

abbrev pub suffix_of_mark : Mark → Option Suffix
suffix_of_mark marks.LeftBracket = None
suffix_of_mark marks.RightBracket = None
suffix_of_mark marks.LeftParenthesis = Some suffixes.Arguments
suffix_of_mark marks.RightParenthesis = None
suffix_of_mark marks.LeftBrace = None
suffix_of_mark marks.RightBrace = None
suffix_of_mark marks.Dot = Some suffixes.Member
suffix_of_mark marks.Arrow = None
suffix_of_mark marks.PlusPlus = Some (suffixes.Step steps.Increment)
suffix_of_mark marks.MinusMinus = Some (suffixes.Step steps.Decrement)
suffix_of_mark marks.Ampersand = Some (suffixes.Operator binaries.And)
suffix_of_mark marks.Star = Some (suffixes.Operator binaries.Multiply)
suffix_of_mark marks.Plus = Some (suffixes.Operator binaries.Add)
suffix_of_mark marks.Minus = Some (suffixes.Operator binaries.Subtract)
suffix_of_mark marks.Tilde = None
suffix_of_mark marks.Exclamation = None
suffix_of_mark marks.Slash = Some (suffixes.Operator binaries.Divide)
suffix_of_mark marks.Percent = Some (suffixes.Operator binaries.Remainder)
suffix_of_mark marks.ShiftLeft = Some (suffixes.Operator binaries.ShiftLeft)
suffix_of_mark marks.ShiftRight = Some (suffixes.Operator binaries.ShiftRight)
suffix_of_mark marks.Less = Some (suffixes.Operator binaries.Less)
suffix_of_mark marks.Greater = Some (suffixes.Operator binaries.Greater)
suffix_of_mark marks.LessEqual = Some (suffixes.Operator binaries.LessEqual)
suffix_of_mark marks.GreaterEqual = Some (suffixes.Operator binaries.GreaterEqual)
suffix_of_mark marks.EqualEqual = Some (suffixes.Operator binaries.Equal)
suffix_of_mark marks.NotEqual = Some (suffixes.Operator binaries.NotEqual)
suffix_of_mark marks.Caret = Some (suffixes.Operator binaries.Xor)
suffix_of_mark marks.Bar = Some (suffixes.Operator binaries.Or)
suffix_of_mark marks.AndAnd = Some (suffixes.Operator binaries.LogicalAnd)
suffix_of_mark marks.OrOr = Some (suffixes.Operator binaries.LogicalOr)
suffix_of_mark marks.Question = Some suffixes.Choice
suffix_of_mark marks.Colon = None
suffix_of_mark marks.Semicolon = None
suffix_of_mark marks.Ellipsis = None
suffix_of_mark marks.Equal = Some (suffixes.Becomes None)
suffix_of_mark marks.StarEqual = Some (suffixes.Becomes (Some binaries.Multiply))
suffix_of_mark marks.SlashEqual = Some (suffixes.Becomes (Some binaries.Divide))
suffix_of_mark marks.PercentEqual = Some (suffixes.Becomes (Some binaries.Remainder))
suffix_of_mark marks.PlusEqual = Some (suffixes.Becomes (Some binaries.Add))
suffix_of_mark marks.MinusEqual = Some (suffixes.Becomes (Some binaries.Subtract))
suffix_of_mark marks.ShiftLeftEqual = Some (suffixes.Becomes (Some binaries.ShiftLeft))
suffix_of_mark marks.ShiftRightEqual = Some (suffixes.Becomes (Some binaries.ShiftRight))
suffix_of_mark marks.AmpersandEqual = Some (suffixes.Becomes (Some binaries.And))
suffix_of_mark marks.CaretEqual = Some (suffixes.Becomes (Some binaries.Xor))
suffix_of_mark marks.BarEqual = Some (suffixes.Becomes (Some binaries.Or))
suffix_of_mark marks.Comma = Some suffixes.Then
suffix_of_mark marks.Hash = None

abbrev pub suffix_of : Kind → Option Suffix
suffix_of kinds.Identifier = None
suffix_of (kinds.Keyword k) = None
suffix_of (kinds.Constant c) = None
suffix_of (kinds.Character c) = None
suffix_of kinds.String = Some suffixes.Another
suffix_of (kinds.Mark m) = suffix_of_mark m

-- the level of the node that it makes
abbrev pub strength_behind : Suffix → ℕ
strength_behind (suffixes.Operator op) = strength_of op
strength_behind (suffixes.Becomes op) = 2
strength_behind suffixes.Choice = 3
strength_behind suffixes.Then = 1
strength_behind (suffixes.Step op) = 16
strength_behind suffixes.Arguments = 16
strength_behind suffixes.Member = 16
strength_behind suffixes.Another = 17

-- the lowest level of what may stand before it; nothing has the level 19
abbrev pub least_left : Suffix → ℕ
least_left (suffixes.Operator op) = strength_of op
least_left (suffixes.Becomes op) = 15
least_left suffixes.Choice = 4
least_left suffixes.Then = 1
least_left (suffixes.Step op) = 16
least_left suffixes.Arguments = 16
least_left suffixes.Member = 16
least_left suffixes.Another = 19
