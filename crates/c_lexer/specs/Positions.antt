-- What stands at a position of a text: a space, a comment, the longest token, or a fault (C11 5.1.1.2, 6.4p3, 6.4p4, 6.4.9).
use Rattle.std.specs.Prelude.{◌≡◌, ◌⊎◌, ℕ, List, [], ◌∷◌, Bool, ◌==◌, ◌&&◌, if◌then◌else◌, take, Result, Ok, Err}
use Rattle.c_lexer.specs.Bytes.{is_space, is_quote}
use Rattle.c_lexer.specs.Forms.{begins, is_token, is_line_comment, is_block_comment, IsLongest, IsShortest, NonePasses}
use Rattle.c_lexer.specs.Kinds.{kind_of}
use Rattle.c_token.specs.declared.token.Kind.{Kind}
use Rattle.c_lexer.specs.declared.fault.Fault.{Fault}
use Rattle.c_lexer.specs.declared.fault.Fault.TheVariants.{BadByte, Unclosed, Foreign}
use Rattle.c_lexer.specs.declared.piece.Piece.{Piece}
use Rattle.c_lexer.specs.declared.piece.Piece.TheVariants.{Newline, Space, Comment, Token}
use Rattle.c_lexer.specs.declared.piece.Start.{Start}
use Rattle.c_lexer.specs.declared.piece.Start.TheVariants as starts

-- what begins at the front of a text, by its first two bytes
unfoldable pub start_of : List ℕ → Start
start_of [] = starts.End
start_of (b ∷ bs) =
    if b == 47 && begins (λ c. c == 47) bs then starts.LineComment
    else (if b == 47 && begins (λ c. c == 42) bs then starts.BlockComment
    else (if b == 10 then starts.Newline
    else (if is_space b then starts.Space
    else starts.Token)))

-- The token of n bytes with this text, or what is wrong with it. A literal directly behind a prefix is foreign, unless
-- something else is wrong with it.
abbrev pub token_or_fault : Bool → ℕ → List ℕ → Result Kind Fault → Result Piece Fault
token_or_fault behind_prefix n text (Err fault) = Err fault
token_or_fault behind_prefix n text (Ok kind) = if behind_prefix && begins is_quote text then Err Foreign else Ok (Token kind n)

-- a line comment is as long as it can be, and a block comment as short as it can be
abbrev pub LineCommentStands : List ℕ → Result Piece Fault → Type 0
LineCommentStands text found = (n : ℕ) × IsLongest is_line_comment text n × (found ≡ Ok (Comment n))

abbrev pub BlockCommentStands : List ℕ → Result Piece Fault → Type 0
BlockCommentStands text found =
    ((n : ℕ) × IsShortest is_block_comment text n × (found ≡ Ok (Comment n)))
    ⊎ (NonePasses is_block_comment text × (found ≡ Err Unclosed))

-- a token is as long as it can be; a quote that begins none is not closed
abbrev pub TokenStands : Bool → List ℕ → Result Piece Fault → Type 0
TokenStands behind_prefix text found =
    ((n : ℕ) × IsLongest is_token text n × (found ≡ token_or_fault behind_prefix n (take n text) (kind_of (take n text))))
    ⊎ (NonePasses is_token text × (found ≡ Err (if begins is_quote text then Unclosed else BadByte)))

abbrev pub StandsAs : Start → Bool → List ℕ → Result Piece Fault → Type 0
StandsAs starts.End behind_prefix text found = ⊥
StandsAs starts.LineComment behind_prefix text found = LineCommentStands text found
StandsAs starts.BlockComment behind_prefix text found = BlockCommentStands text found
StandsAs starts.Newline behind_prefix text found = found ≡ Ok Newline
StandsAs starts.Space behind_prefix text found = found ≡ Ok Space
StandsAs starts.Token behind_prefix text found = TokenStands behind_prefix text found

-- What stands at the front of a text, directly behind a prefix or not. At the end of a text nothing does.
abbrev pub Stands : Bool → List ℕ → Result Piece Fault → Type 0
Stands behind_prefix text found = StandsAs (start_of text) behind_prefix text found

-- how many bytes a piece has
abbrev pub size_of : Piece → ℕ
size_of Newline = 1
size_of Space = 1
size_of (Comment n) = n
size_of (Token kind n) = n
