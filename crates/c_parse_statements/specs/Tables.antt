-- What a keyword begins where a statement is due (C11 6.8).
use Rattle.c_token.specs.declared.token.Keyword.{Keyword}
use Rattle.c_token.specs.declared.token.Keyword.TheVariants as keywords
use Rattle.c_parse_statements.specs.declared.table.Begin.{Begin}
use Rattle.c_parse_statements.specs.declared.table.Begin.TheVariants as begins

abbrev pub begin_of_keyword : Keyword → Begin
begin_of_keyword keywords.Auto = begins.Expression
begin_of_keyword keywords.Break = begins.Break
begin_of_keyword keywords.Case = begins.Case
begin_of_keyword keywords.Char = begins.Expression
begin_of_keyword keywords.Const = begins.Expression
begin_of_keyword keywords.Continue = begins.Continue
begin_of_keyword keywords.Default = begins.Default
begin_of_keyword keywords.Do = begins.Do
begin_of_keyword keywords.Else = begins.Expression
begin_of_keyword keywords.Enum = begins.Expression
begin_of_keyword keywords.Extern = begins.Expression
begin_of_keyword keywords.For = begins.For
begin_of_keyword keywords.Goto = begins.Goto
begin_of_keyword keywords.If = begins.If
begin_of_keyword keywords.Inline = begins.Expression
begin_of_keyword keywords.Int = begins.Expression
begin_of_keyword keywords.Long = begins.Expression
begin_of_keyword keywords.Register = begins.Expression
begin_of_keyword keywords.Restrict = begins.Expression
begin_of_keyword keywords.Return = begins.Return
begin_of_keyword keywords.Short = begins.Expression
begin_of_keyword keywords.Signed = begins.Expression
begin_of_keyword keywords.Sizeof = begins.Expression
begin_of_keyword keywords.Static = begins.Expression
begin_of_keyword keywords.Struct = begins.Expression
begin_of_keyword keywords.Switch = begins.Switch
begin_of_keyword keywords.Typedef = begins.Expression
begin_of_keyword keywords.Union = begins.Expression
begin_of_keyword keywords.Unsigned = begins.Expression
begin_of_keyword keywords.Void = begins.Expression
begin_of_keyword keywords.Volatile = begins.Expression
begin_of_keyword keywords.While = begins.While
begin_of_keyword keywords.Bool = begins.Expression
begin_of_keyword keywords.Noreturn = begins.Expression
