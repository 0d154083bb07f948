-- Which texts are tokens and comments (C11 6.4.1, 6.4.2.1, 6.4.4.4, 6.4.5, 6.4.6, 6.4.8, 6.4.9), and what the longest is.
use Rattle.std.specs.Prelude.{◌≡◌, ◌<◌, ◌≤◌, ◌-◌, ℕ, List, [], ◌∷◌, Bool, true, false, ◌==◌, ◌||◌, ◌&&◌, not, nat_le, if◌then◌else◌, length, take, drop, codes, is_some}
use Rattle.std.specs.Str.{bytes_eq}
use Rattle.c_lexer.specs.Bytes.{is_letter, is_digit, is_quote, is_word_byte}
use Rattle.c_token.specs.Spelling.{mark_of}

abbrev pub is_empty : List ℕ → Bool
is_empty [] = true
is_empty (b ∷ bs) = false

-- the text begins with a byte that passes the test
abbrev pub begins : (ℕ → Bool) → List ℕ → Bool
begins test [] = false
begins test (b ∷ bs) = test b

-- each byte of the text may follow the byte before it, the first of them a
abbrev pub runs_on : (ℕ → ℕ → Bool) → ℕ → List ℕ → Bool
runs_on may_follow a [] = true
runs_on may_follow a (b ∷ bs) = may_follow a b && runs_on may_follow b bs

-- an identifier or a keyword: a letter or `_`, then letters, digits and `_`
abbrev pub in_word : ℕ → ℕ → Bool
in_word a b = is_word_byte b

abbrev pub is_word : List ℕ → Bool
is_word [] = false
is_word (b ∷ bs) = is_letter b && runs_on in_word b bs

-- behind a in a number: a digit, a letter, `_`, a point, or a sign directly behind e, E, p or P
abbrev pub in_number : ℕ → ℕ → Bool
in_number a b = is_word_byte b || b == 46 || ((b == 43 || b == 45) && (a == 101 || a == 69 || a == 112 || a == 80))

-- a digit, or a point and a digit
abbrev pub begins_number : List ℕ → Bool
begins_number [] = false
begins_number (b ∷ bs) = is_digit b || (b == 46 && begins is_digit bs)

abbrev pub is_number : List ℕ → Bool
is_number [] = false
is_number (b ∷ bs) = begins_number (b ∷ bs) && runs_on in_number b bs

-- The text ends with the quote that closes it, and has no newline and no other quote that closes: a quote directly
-- behind a backslash doesn't close, nor is a backslash directly behind such a backslash one.
abbrev pub closes : ℕ → Bool → List ℕ → Bool
closes quote escaped [] = false
closes quote escaped (b ∷ bs) =
    if b == 10 then false
    else (if not escaped && b == quote then is_empty bs
    else closes quote (not escaped && b == 92) bs)

-- a character constant or a string
abbrev pub is_literal : List ℕ → Bool
is_literal [] = false
is_literal (b ∷ bs) = is_quote b && closes b false bs

abbrev pub is_mark : List ℕ → Bool
is_mark text = is_some (mark_of text)

abbrev pub is_token : List ℕ → Bool
is_token text = is_word text || is_number text || is_literal text || is_mark text

-- `//` and what stands behind it on the line
abbrev pub in_line : ℕ → ℕ → Bool
in_line a b = not (b == 10)

abbrev pub is_line_comment : List ℕ → Bool
is_line_comment [] = false
is_line_comment (b ∷ bs) = (b == 47 && begins (λ c. c == 47) bs) && runs_on in_line b bs

-- `/*`, and `*/` behind it at the end
abbrev pub is_block_comment : List ℕ → Bool
is_block_comment text =
    nat_le 4 (length text) && bytes_eq (take 2 text) (codes "/*") && bytes_eq (drop (length text - 2) text) (codes "*/")

-- the first n bytes pass the test, and no more bytes do
pub record IsLongest (test : List ℕ → Bool) (text : List ℕ) (n : ℕ) : Type 0 where
  pub within : n ≤ length text
  pub passes : test (take n text) ≡ true
  pub longest : (m : ℕ) → n < m → m ≤ length text → test (take m text) ≡ false

-- the first n bytes pass the test, and no fewer bytes do
pub record IsShortest (test : List ℕ → Bool) (text : List ℕ) (n : ℕ) : Type 0 where
  pub within : n ≤ length text
  pub passes : test (take n text) ≡ true
  pub shortest : (m : ℕ) → m < n → test (take m text) ≡ false

-- nothing at the front of the text passes the test
abbrev pub NonePasses : (List ℕ → Bool) → List ℕ → Type 0
NonePasses test text = (m : ℕ) → m ≤ length text → test (take m text) ≡ false
