-- What is true of the code of each typed file.
use Rattle.std.specs.Prelude.{◌≡◌, ◌<◌, ◌≤◌, ◌^◌, true, false, None, length}
use Rattle.core_tree.specs.Ranges.{Limits}
use Rattle.core_tree.specs.Trees.{TypedFile}
use Rattle.core_tree.specs.Typed.{are_typed, have_small}
use Rattle.c_profile.specs.Rules.{first_breach}
use Rattle.c_meaning.specs.Source.{main_number, source_thread}
use Rattle.c_temporaries.specs.Temporaries.{heap_bytes}
use Rattle.goto_prog.specs.Nodes.{routines_fit}
use Rattle.goto_prog.specs.Same.{DoSame}
use Rattle.goto_prog.specs.Static.{are_static}
use Rattle.goto_prog.specs.Structured.{function_thread}
use Rattle.lowered_code.specs.Lowered.{first_literal, function_codes}

-- under all bounds its thread 0 does what that of the source does, where no variable has 2 ^ 31 bytes or more, as none of a typed tree has, and no more may be allocated at once than the block has in which objects are made, as in all bounds of a command
abbrev pub KeepsMeaning : Type 0
KeepsMeaning =
    (file : TypedFile) → first_breach file ≡ None → are_typed file ≡ true → have_small file.functions ≡ true → (limits : Limits) → limits.malloc_limit ≤ heap_bytes
    → DoSame (function_thread (record { strict = true; functions = function_codes (first_literal file) 0 file.functions; limits = limits }) true (main_number file.functions)) (source_thread file limits)

-- what it names is there, of fitting types, where no variable has 2 ^ 31 bytes or more, and there are fewer static objects than that, and fewer literals, so that pointers to them have 64 bits, as in each typed tree
abbrev pub FitsTogether : Type 0
FitsTogether =
    (file : TypedFile) → are_typed file ≡ true → have_small file.functions ≡ true → length file.objects < 2 ^ 31 → length file.literals < 2 ^ 31
    → routines_fit (function_codes (first_literal file) 0 file.functions) ≡ true

-- where no form over pointers may stand it has no operations on pointers
abbrev pub IsStatic : Type 0
IsStatic = (file : TypedFile) → file.pointers ≡ false → are_typed file ≡ true → are_static (function_codes (first_literal file) 0 file.functions) ≡ true
