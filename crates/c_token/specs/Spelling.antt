-- How keywords and marks are spelled (C11 6.4.1, 6.4.6), and the text of a token.
use Rattle.std.specs.Prelude.{ℕ, List, Option, find, codes, take, drop}
use Rattle.std.specs.Str.{bytes_eq}
use Rattle.c_token.specs.declared.token.Keyword.{Keyword}
use Rattle.c_token.specs.declared.token.Keyword.TheVariants as keywords
use Rattle.c_token.specs.declared.token.Mark.{Mark}
use Rattle.c_token.specs.declared.token.Mark.TheVariants as marks
use Rattle.c_token.specs.declared.token.Token.{Token}
use Rattle.c_token.specs.declared.token.TheConstants.{KEYWORDS, MARKS}

abbrev pub keyword_text : Keyword → List ℕ
keyword_text keywords.Auto = codes "auto"
keyword_text keywords.Break = codes "break"
keyword_text keywords.Case = codes "case"
keyword_text keywords.Char = codes "char"
keyword_text keywords.Const = codes "const"
keyword_text keywords.Continue = codes "continue"
keyword_text keywords.Default = codes "default"
keyword_text keywords.Do = codes "do"
keyword_text keywords.Else = codes "else"
keyword_text keywords.Enum = codes "enum"
keyword_text keywords.Extern = codes "extern"
keyword_text keywords.For = codes "for"
keyword_text keywords.Goto = codes "goto"
keyword_text keywords.If = codes "if"
keyword_text keywords.Inline = codes "inline"
keyword_text keywords.Int = codes "int"
keyword_text keywords.Long = codes "long"
keyword_text keywords.Register = codes "register"
keyword_text keywords.Restrict = codes "restrict"
keyword_text keywords.Return = codes "return"
keyword_text keywords.Short = codes "short"
keyword_text keywords.Signed = codes "signed"
keyword_text keywords.Sizeof = codes "sizeof"
keyword_text keywords.Static = codes "static"
keyword_text keywords.Struct = codes "struct"
keyword_text keywords.Switch = codes "switch"
keyword_text keywords.Typedef = codes "typedef"
keyword_text keywords.Union = codes "union"
keyword_text keywords.Unsigned = codes "unsigned"
keyword_text keywords.Void = codes "void"
keyword_text keywords.Volatile = codes "volatile"
keyword_text keywords.While = codes "while"
keyword_text keywords.Bool = codes "_Bool"
keyword_text keywords.Noreturn = codes "_Noreturn"

abbrev pub mark_text : Mark → List ℕ
mark_text marks.LeftBracket = codes "["
mark_text marks.RightBracket = codes "]"
mark_text marks.LeftParenthesis = codes "("
mark_text marks.RightParenthesis = codes ")"
mark_text marks.LeftBrace = codes "{"
mark_text marks.RightBrace = codes "}"
mark_text marks.Dot = codes "."
mark_text marks.Arrow = codes "->"
mark_text marks.PlusPlus = codes "++"
mark_text marks.MinusMinus = codes "--"
mark_text marks.Ampersand = codes "&"
mark_text marks.Star = codes "*"
mark_text marks.Plus = codes "+"
mark_text marks.Minus = codes "-"
mark_text marks.Tilde = codes "~"
mark_text marks.Exclamation = codes "!"
mark_text marks.Slash = codes "/"
mark_text marks.Percent = codes "%"
mark_text marks.ShiftLeft = codes "<<"
mark_text marks.ShiftRight = codes ">>"
mark_text marks.Less = codes "<"
mark_text marks.Greater = codes ">"
mark_text marks.LessEqual = codes "<="
mark_text marks.GreaterEqual = codes ">="
mark_text marks.EqualEqual = codes "=="
mark_text marks.NotEqual = codes "!="
mark_text marks.Caret = codes "^"
mark_text marks.Bar = codes "|"
mark_text marks.AndAnd = codes "&&"
mark_text marks.OrOr = codes "||"
mark_text marks.Question = codes "?"
mark_text marks.Colon = codes ":"
mark_text marks.Semicolon = codes ";"
mark_text marks.Ellipsis = codes "..."
mark_text marks.Equal = codes "="
mark_text marks.StarEqual = codes "*="
mark_text marks.SlashEqual = codes "/="
mark_text marks.PercentEqual = codes "%="
mark_text marks.PlusEqual = codes "+="
mark_text marks.MinusEqual = codes "-="
mark_text marks.ShiftLeftEqual = codes "<<="
mark_text marks.ShiftRightEqual = codes ">>="
mark_text marks.AmpersandEqual = codes "&="
mark_text marks.CaretEqual = codes "^="
mark_text marks.BarEqual = codes "|="
mark_text marks.Comma = codes ","
mark_text marks.Hash = codes "#"

-- the keyword that a text spells, by the program's table, which has each keyword (the law `each_keyword_is_spelled`)
abbrev pub keyword_of : List ℕ → Option Keyword
keyword_of text = find (λ keyword. bytes_eq (keyword_text keyword) text) KEYWORDS

-- the mark that a text spells, by the program's table, which has each mark (the law `each_mark_is_spelled`)
abbrev pub mark_of : List ℕ → Option Mark
mark_of text = find (λ mark. bytes_eq (mark_text mark) text) MARKS

-- the text of a token in the bytes that it lies in
abbrev pub text_of : List ℕ → Token → List ℕ
text_of bytes token = take token.length (drop token.start bytes)
