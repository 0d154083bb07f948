-- The headers that a file may include, and the macros that each defines.
use Rattle.std.specs.Prelude.{ℕ, Bool, List, [], ◌+◌, ◌∷◌, ◌++◌, ◌&&◌, Option, Some, None, take, drop, codes, if◌then◌else◌}
use Rattle.std.specs.Option.{option_and_then}
use Rattle.std.specs.Str.{bytes_eq}
use Rattle.c_token.specs.declared.token.Token.{Token}
use Rattle.c_token.specs.Spelling.{text_of}
use Rattle.c_pre.specs.Macros.{Macros, defined}
use Rattle.c_pre.specs.declared.header.Header.{Header}
use Rattle.c_pre.specs.declared.header.Header.TheVariants as headers

-- a line of text
abbrev row : List ℕ → List ℕ → List ℕ
row line more = line ++ (10 ∷ more)

-- The text of the headers' macros, a line for each: the macro's name, and what replaces it.
abbrev pub text : List ℕ
text =
    row (codes "EXIT_SUCCESS 0")  -- stdlib.h
    (row (codes "EXIT_FAILURE 1")  -- stdlib.h
    (row (codes "NULL ((void*)0)")  -- stdlib.h, stddef.h, stdio.h, pthread.h
    (row (codes "PTHREAD_MUTEX_INITIALIZER {0}")  -- pthread.h
    (row (codes "bool _Bool")  -- stdbool.h, and the next two
    (row (codes "true 1")
    (row (codes "false 0")
    (row (codes "CHAR_BIT 8")  -- limits.h, and all that follow
    (row (codes "CHAR_MIN (-128)")
    (row (codes "SCHAR_MIN (-128)")
    (row (codes "CHAR_MAX 127")
    (row (codes "SCHAR_MAX 127")
    (row (codes "UCHAR_MAX 255")
    (row (codes "SHRT_MIN (-32768)")
    (row (codes "SHRT_MAX 32767")
    (row (codes "USHRT_MAX 65535")
    (row (codes "INT_MIN (-2147483647-1)")
    (row (codes "INT_MAX 2147483647")
    (row (codes "UINT_MAX 4294967295U")
    (row (codes "LONG_MIN (-9223372036854775807L-1L)")
    (row (codes "LONG_MAX 9223372036854775807L")
    (row (codes "ULONG_MAX 18446744073709551615UL")
    (row (codes "LLONG_MIN (-9223372036854775807LL-1LL)")
    (row (codes "LLONG_MAX 9223372036854775807LL")
    (row (codes "ULLONG_MAX 18446744073709551615ULL") []))))))))))))))))))))))))

-- the lines of that text that a header has
abbrev pub rows_of : Header → List (List Token) → List (List Token)
rows_of headers.Assert rows = []
rows_of headers.Pthread rows = take 2 (drop 2 rows)
rows_of headers.Stdlib rows = take 3 (drop 0 rows)
rows_of headers.Stddef rows = take 1 (drop 2 rows)
rows_of headers.Stdint rows = []
rows_of headers.Stdbool rows = take 3 (drop 4 rows)
rows_of headers.Limits rows = take 18 (drop 7 rows)
rows_of headers.Stdio rows = take 1 (drop 2 rows)

-- the header that is called NAME.h
unfoldable pub header_called : List ℕ → Option Header
header_called name =
    if bytes_eq name (codes "assert") then Some headers.Assert
    else (if bytes_eq name (codes "pthread") then Some headers.Pthread
    else (if bytes_eq name (codes "stdlib") then Some headers.Stdlib
    else (if bytes_eq name (codes "stddef") then Some headers.Stddef
    else (if bytes_eq name (codes "stdint") then Some headers.Stdint
    else (if bytes_eq name (codes "stdbool") then Some headers.Stdbool
    else (if bytes_eq name (codes "limits") then Some headers.Limits
    else (if bytes_eq name (codes "stdio") then Some headers.Stdio
    else None)))))))

-- the tokens around a name make it a header's
abbrev pub is_called : List ℕ → Token → Token → Token → Token → Bool
is_called bytes less dot h greater =
    bytes_eq (text_of bytes less) (codes "<") && bytes_eq (text_of bytes dot) (codes ".") && bytes_eq (text_of bytes h) (codes "h") && bytes_eq (text_of bytes greater) (codes ">")

-- The header that `<`, a name, `.h` and `>` alone name.
abbrev pub header_of : List ℕ → List Token → Option Header
header_of bytes [] = None
header_of bytes (a ∷ []) = None
header_of bytes (a ∷ b ∷ []) = None
header_of bytes (a ∷ b ∷ c ∷ []) = None
header_of bytes (a ∷ b ∷ c ∷ d ∷ []) = None
header_of bytes (less ∷ name ∷ dot ∷ h ∷ greater ∷ []) = if is_called bytes less dot h greater then header_called (text_of bytes name) else None
header_of bytes (a ∷ b ∷ c ∷ d ∷ e ∷ f ∷ more) = None

-- the macros behind the definitions of these lines, if each is one
abbrev pub all_defined : List ℕ → List (List Token) → Macros → Option Macros
all_defined bytes [] macros = Some macros
all_defined bytes (line ∷ lines) macros = option_and_then (λ (next : Macros). all_defined bytes lines next) (defined bytes line macros)

-- a token that lies further behind in the bytes
abbrev pub moved : ℕ → Token → Token
moved by t = record { kind = t.kind; line = t.line; first = t.first; start = by + t.start; length = t.length }
