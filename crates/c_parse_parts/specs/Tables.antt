-- What a keyword begins among specifiers (C11 6.7).
use Rattle.std.specs.Prelude.{Option, Some, None}
use Rattle.c_token.specs.declared.token.Keyword.{Keyword}
use Rattle.c_token.specs.declared.token.Keyword.TheVariants as keywords
use Rattle.c_tree.specs.declared.specifier.Qualifier.TheVariants as qualifiers
use Rattle.c_tree.specs.declared.specifier.TypeWord.TheVariants as type_words
use Rattle.c_tree.specs.declared.specifier.TagKind.{TagKind}
use Rattle.c_tree.specs.declared.specifier.TagKind.TheVariants as tag_kinds
use Rattle.c_tree.specs.declared.declaration.StorageClass.TheVariants as storage_classes
use Rattle.c_tree.specs.declared.declaration.FunctionSpecifier.TheVariants as function_specifiers
use Rattle.c_tree.specs.declared.declaration.RecordKind.{RecordKind}
use Rattle.c_tree.specs.declared.declaration.RecordKind.TheVariants as record_kinds
use Rattle.c_parse_parts.specs.declared.table.Start.{Start}
use Rattle.c_parse_parts.specs.declared.table.Start.TheVariants as starts

abbrev pub start_of_keyword : Keyword → Option Start
start_of_keyword keywords.Auto = Some (starts.Storage storage_classes.Auto)
start_of_keyword keywords.Break = None
start_of_keyword keywords.Case = None
start_of_keyword keywords.Char = Some (starts.Word type_words.Char)
start_of_keyword keywords.Const = Some (starts.Qualifier qualifiers.Const)
start_of_keyword keywords.Continue = None
start_of_keyword keywords.Default = None
start_of_keyword keywords.Do = None
start_of_keyword keywords.Else = None
start_of_keyword keywords.Enum = Some starts.Enumeration
start_of_keyword keywords.Extern = Some (starts.Storage storage_classes.Extern)
start_of_keyword keywords.For = None
start_of_keyword keywords.Goto = None
start_of_keyword keywords.If = None
start_of_keyword keywords.Inline = Some (starts.Function function_specifiers.Inline)
start_of_keyword keywords.Int = Some (starts.Word type_words.Int)
start_of_keyword keywords.Long = Some (starts.Word type_words.Long)
start_of_keyword keywords.Register = Some (starts.Storage storage_classes.Register)
start_of_keyword keywords.Restrict = Some (starts.Qualifier qualifiers.Restrict)
start_of_keyword keywords.Return = None
start_of_keyword keywords.Short = Some (starts.Word type_words.Short)
start_of_keyword keywords.Signed = Some (starts.Word type_words.Signed)
start_of_keyword keywords.Sizeof = None
start_of_keyword keywords.Static = Some (starts.Storage storage_classes.Static)
start_of_keyword keywords.Struct = Some (starts.Record record_kinds.Struct)
start_of_keyword keywords.Switch = None
start_of_keyword keywords.Typedef = Some (starts.Storage storage_classes.Typedef)
start_of_keyword keywords.Union = Some (starts.Record record_kinds.Union)
start_of_keyword keywords.Unsigned = Some (starts.Word type_words.Unsigned)
start_of_keyword keywords.Void = Some (starts.Word type_words.Void)
start_of_keyword keywords.Volatile = Some (starts.Qualifier qualifiers.Volatile)
start_of_keyword keywords.While = None
start_of_keyword keywords.Bool = Some (starts.Word type_words.Bool)
start_of_keyword keywords.Noreturn = Some (starts.Function function_specifiers.Noreturn)

-- what the tag of a structure or a union stands for
abbrev pub record_tag : RecordKind → TagKind
record_tag record_kinds.Struct = tag_kinds.Struct
record_tag record_kinds.Union = tag_kinds.Union
