-- What a token is, by its text (C11 6.4).
use Rattle.std.specs.Prelude.{◌≡◌, ◌≤◌, ℕ, ◌+◌, List, Bool, ◌==◌, ◌||◌, nat_lt, if◌then◌else◌, length, codes, Result, Ok, Err, is_some, All}
use Rattle.std.specs.Option.{option_map_or}
use Rattle.std.specs.Str.{bytes_eq}
use Rattle.c_token.specs.Spelling.{keyword_of, mark_of, text_of}
use Rattle.c_lexer.specs.Forms.{begins, is_word, is_number, is_literal}
use Rattle.c_lexer.specs.Constants.{constant_of}
use Rattle.c_lexer.specs.Literals.{string_bytes, character_byte}
use Rattle.c_token.specs.declared.token.Kind.{Kind}
use Rattle.c_token.specs.declared.token.Kind.TheVariants as kinds
use Rattle.c_token.specs.declared.token.Token.{Token}
use Rattle.c_lexer.specs.declared.fault.Fault.{Fault}
use Rattle.c_lexer.specs.declared.fault.Fault.TheVariants as faults

-- keywords of C11 that the profile leaves out
unfoldable pub is_foreign : List ℕ → Bool
is_foreign text =
    bytes_eq text (codes "float") || bytes_eq text (codes "double") || bytes_eq text (codes "_Complex") || bytes_eq text (codes "_Imaginary")
    || bytes_eq text (codes "_Generic") || bytes_eq text (codes "_Alignas") || bytes_eq text (codes "_Alignof") || bytes_eq text (codes "_Atomic")
    || bytes_eq text (codes "_Thread_local") || bytes_eq text (codes "_Static_assert")

-- what makes a literal directly behind it one of another type
unfoldable pub is_prefix : List ℕ → Bool
is_prefix text = bytes_eq text (codes "L") || bytes_eq text (codes "u") || bytes_eq text (codes "U") || bytes_eq text (codes "u8")

unfoldable pub word_kind : List ℕ → Result Kind Fault
word_kind text = if is_foreign text then Err faults.Foreign else Ok (option_map_or kinds.Keyword (keyword_of text) kinds.Identifier)

unfoldable pub number_kind : List ℕ → Result Kind Fault
number_kind text = option_map_or (λ c. Ok (kinds.Constant c)) (constant_of text) (Err faults.BadConstant)

-- the bits of an int of 32 bits that has the value of the signed char with these bits
abbrev pub int_bits : ℕ → ℕ
int_bits byte = if nat_lt byte 128 then byte else byte + 4294967040

unfoldable pub literal_kind : List ℕ → Result Kind Fault
literal_kind text =
    if begins (λ b. b == 34) text then (if is_some (string_bytes text) then Ok kinds.String else Err faults.BadConstant)
    else option_map_or (λ byte. Ok (kinds.Character (int_bits byte))) (character_byte text) (Err faults.BadConstant)

unfoldable pub mark_kind : List ℕ → Result Kind Fault
mark_kind text = option_map_or (λ m. Ok (kinds.Mark m)) (mark_of text) (Err faults.BadByte)

-- the kind of a token with this text, or what is wrong with it
unfoldable pub kind_of : List ℕ → Result Kind Fault
kind_of text =
    if is_word text then word_kind text
    else (if is_number text then number_kind text
    else (if is_literal text then literal_kind text
    else mark_kind text))

-- the token lies in the bytes, and they spell a token of its kind there
pub record IsSpelled (bytes : List ℕ) (token : Token) : Type 0 where
  pub within : token.start + token.length ≤ length bytes
  pub kind : kind_of (text_of bytes token) ≡ Ok token.kind

abbrev pub AllSpelled : List ℕ → List Token → Type 0
AllSpelled bytes tokens = All (IsSpelled bytes) tokens
