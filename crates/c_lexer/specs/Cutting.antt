-- The cutting of a file into tokens (C11 5.1.1.2).
use Rattle.std.specs.Prelude.{◌≡◌, ◌≢◌, ◌⊎◌, ℕ, ◌+◌, List, [], ◌∷◌, ◌++◌, Bool, true, false, ◌==◌, ◌&&◌, if◌then◌else◌, take, drop, map, count_by, slice_index, Result, Ok, Err}
use Rattle.c_lexer.specs.Forms.{begins}
use Rattle.c_lexer.specs.Kinds.{is_prefix}
use Rattle.c_lexer.specs.Positions.{Stands}
use Rattle.c_token.specs.declared.token.Token.{Token}
use Rattle.c_lexer.specs.declared.fault.Fault.{Fault}
use Rattle.c_lexer.specs.declared.fault.Fault.TheVariants as faults
use Rattle.c_lexer.specs.declared.fault.LexError.{LexError}
use Rattle.c_lexer.specs.declared.fault.LexError.TheVariants as errors
use Rattle.c_lexer.specs.declared.piece.Piece.{Piece}
use Rattle.c_lexer.specs.declared.piece.Piece.TheVariants as pieces
use Rattle.c_lexer.specs.declared.position.Position.{Position}
use Rattle.c_lexer.specs.declared.tokens.Tokens.{Tokens}

-- The file without each backslash that stands directly before a newline, and that newline; each byte with its line. After
-- such a backslash the newline is skipped; it counts as a line all the same.
abbrev pub characters : Bool → ℕ → List ℕ → List (ℕ × ℕ)
characters skip line [] = []
characters skip line (b ∷ bs) =
    let next = if b == 10 then line + 1 else line in
    if skip then characters false next bs
    else (if b == 92 && begins (λ c. c == 10) bs then characters true next bs
    else (b, line) ∷ characters false next bs)

unfoldable pub bytes_of : List ℕ → List ℕ
bytes_of file = map (λ c. c.0) (characters false 1 file)

unfoldable pub lines_of : List ℕ → List ℕ
lines_of file = map (λ c. c.1) (characters false 1 file)

-- 1 plus the number of newline bytes
abbrev pub last_line_of : List ℕ → ℕ
last_line_of file = 1 + count_by (λ b. b == 10) file

-- the position behind a piece
abbrev pub behind : List ℕ → Position → Piece → Position
behind bytes position pieces.Newline = record { at = position.at + 1; first = true; behind_prefix = false }
behind bytes position pieces.Space = record { at = position.at + 1; first = position.first; behind_prefix = false }
behind bytes position (pieces.Comment n) = record { at = position.at + n; first = position.first; behind_prefix = false }
behind bytes position (pieces.Token kind n) =
    record { at = position.at + n; first = false; behind_prefix = is_prefix (take n (drop position.at bytes)) }

-- the token of a piece, if it is one
abbrev pub tokens_of : List ℕ → Position → Piece → List Token
tokens_of lines position pieces.Newline = []
tokens_of lines position pieces.Space = []
tokens_of lines position (pieces.Comment n) = []
tokens_of lines position (pieces.Token kind n) =
    record { kind = kind; line = slice_index lines position.at; first = position.first; start = position.at; length = n } ∷ []

-- the error that a fault on a line is
abbrev pub error_of : Fault → ℕ → LexError
error_of faults.BadByte line = errors.BadByte line
error_of faults.Unclosed line = errors.Unclosed line
error_of faults.BadConstant line = errors.BadConstant line
error_of faults.Foreign line = errors.Foreign line

abbrev pub in_front : List Token → Result (List Token) LexError → Result (List Token) LexError
in_front tokens (Ok more) = Ok (tokens ++ more)
in_front tokens (Err error) = Err error

-- From a position on the text is these pieces in order, and then it ends, or a fault stands there. found is the tokens among
-- the pieces, or the error.
abbrev pub Reads : List ℕ → List ℕ → List Piece → Position → Result (List Token) LexError → Type 0
Reads bytes lines [] position found =
    ((drop position.at bytes ≡ []) × (found ≡ Ok []))
    ⊎ ((fault : Fault) × Stands position.behind_prefix (drop position.at bytes) (Err fault) × (found ≡ Err (error_of fault (slice_index lines position.at))))
Reads bytes lines (p ∷ ps) position found =
    Stands position.behind_prefix (drop position.at bytes) (Ok p)
    × ((more : Result (List Token) LexError) × Reads bytes lines ps (behind bytes position p) more × (found ≡ in_front (tokens_of lines position p) more))

-- what the text gives from a position on
abbrev pub Cuts : List ℕ → List ℕ → Position → Result (List Token) LexError → Type 0
Cuts bytes lines position found = (ps : List Piece) × Reads bytes lines ps position found

abbrev pub start : Position
start = record { at = 0; first = true; behind_prefix = false }

-- The file's tokens, or the error of its first fault.
abbrev pub IsCutInto : List ℕ → Result (List Token) LexError → Type 0
IsCutInto file found = Cuts (bytes_of file) (lines_of file) start found

-- What a function returned is what the cutting gives, unless memory ran out.
abbrev pub Gives : Result Tokens LexError → Result (List Token) LexError → Type 0
Gives (Ok t) found = found ≡ Ok t.tokens.items
Gives (Err e) found = e ≢ errors.Memory → found ≡ Err e
