-- How many characters a string has (C11 6.4.4.4, 6.4.5).
use Rattle.std.specs.Prelude.{ℕ, zero, suc, ◌+◌, ◌==◌, List, [], ◌∷◌, length, take, Option, Some, None, if◌then◌else◌}
use Rattle.c_lexer.specs.Forms.{is_empty}
use Rattle.c_lexer.specs.Constants.{digits}
use Rattle.c_lexer.specs.Literals.{enclosed}
use Rattle.c_tree.specs.Tree.{Tree, constant, character, strings, name, parens, unary, cast, sizeof_expr, sizeof_type, step, member, binary, choice, assign, comma, call, address, dereference, arrow, subscript}

-- how many bytes spell an escape behind its backslash: x and all the hexadecimal digits, one to three octal digits, or one byte
abbrev pub escape_length : List ℕ → ℕ
escape_length [] = 0
escape_length (b ∷ bs) =
    if b == 120 then 1 + length (digits 16 bs)
    else (if is_empty (digits 8 (take 3 (b ∷ bs))) then 1 else length (digits 8 (take 3 (b ∷ bs))))

-- the characters and escapes of a text; its first `inside` bytes belong to one before it
abbrev pub characters_behind : ℕ → List ℕ → ℕ
characters_behind inside [] = 0
characters_behind (suc inside) (b ∷ bs) = characters_behind inside bs
characters_behind zero (b ∷ bs) = suc (characters_behind (if b == 92 then escape_length bs else 0) bs)

-- how many bytes spell the character or escape at the front
abbrev pub element_length : List ℕ → ℕ
element_length [] = 0
element_length (b ∷ bs) = suc (if b == 92 then escape_length bs else 0)

-- the characters of a string as it is spelled
abbrev pub string_length : List ℕ → ℕ
string_length text = characters_behind 0 (enclosed text)

-- the bytes of strings in a row, without the zero behind them
abbrev pub strings_length : List (List ℕ) → ℕ
strings_length [] = 0
strings_length (part ∷ parts) = string_length part + strings_length parts

-- the strings that an expression is, in parentheses or not
abbrev pub strings_of : Tree → Option (List (List ℕ))
strings_of (constant line c) = None
strings_of (character line bits) = None
strings_of (strings line parts) = Some parts
strings_of (name line n) = None
strings_of (parens line e) = strings_of e
strings_of (unary line op e) = None
strings_of (address line e) = None
strings_of (dereference line e) = None
strings_of (cast line parts d e) = None
strings_of (sizeof_expr line e) = None
strings_of (sizeof_type line parts d) = None
strings_of (step line op e) = None
strings_of (member line e n) = None
strings_of (arrow line e n) = None
strings_of (subscript line a b) = None
strings_of (binary line op a b) = None
strings_of (choice line test a b) = None
strings_of (assign line op a b) = None
strings_of (comma line a b) = None
strings_of (call f arguments) = None
