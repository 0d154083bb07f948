-- The characters and escapes of a character constant or a string (C11 6.4.4.4, 6.4.5).
use Rattle.std.specs.Prelude.{ℕ, ◌+◌, ◌-◌, List, [], ◌∷◌, ◌==◌, zero, suc, nat_lt, if◌then◌else◌, length, take, drop, Option, Some, None, option_map}
use Rattle.std.specs.Option.{option_and_then}
use Rattle.c_lexer.specs.Forms.{is_empty}
use Rattle.c_lexer.specs.Constants.{digits, number}
use Rattle.c_lexer.specs.declared.literal.Element.{Element}

-- the byte of an escape by one letter or mark
unfoldable pub simple_escape : ℕ → Option ℕ
simple_escape b =
    if b == 39 then Some 39
    else (if b == 34 then Some 34
    else (if b == 63 then Some 63
    else (if b == 92 then Some 92
    else (if b == 97 then Some 7
    else (if b == 98 then Some 8
    else (if b == 102 then Some 12
    else (if b == 110 then Some 10
    else (if b == 114 then Some 13
    else (if b == 116 then Some 9
    else (if b == 118 then Some 11
    else None))))))))))

-- an escape by digits, of a value below 256
unfoldable pub escape_by : ℕ → List ℕ → ℕ → Option Element
escape_by base ds length =
    if is_empty ds then None
    else (if nat_lt (number base ds) 256 then Some (record { byte = number base ds; length = length }) else None)

-- The escape whose text behind the backslash is at the front: one to three octal digits, x and all the hexadecimal digits
-- that follow, or one letter or mark. Its length counts the backslash.
unfoldable pub escape_at : List ℕ → Option Element
escape_at [] = None
escape_at (b ∷ bs) =
    let octal = digits 8 (take 3 (b ∷ bs)) in
    if b == 120 then escape_by 16 (digits 16 bs) (2 + length (digits 16 bs))
    else (if is_empty octal then option_map (λ byte. record { byte = byte; length = 2 }) (simple_escape b)
    else escape_by 8 octal (1 + length octal))

-- the character or the escape at the front of what a literal's quotes enclose
unfoldable pub element_at : List ℕ → Option Element
element_at [] = None
element_at (b ∷ bs) = if b == 92 then escape_at bs else Some (record { byte = b; length = 1 })

-- the bytes that a text of characters and escapes stands for; its first `inside` bytes belong to an element before it
abbrev pub bytes_behind : ℕ → List ℕ → Option (List ℕ)
bytes_behind inside [] = Some []
bytes_behind (suc inside) (b ∷ bs) = bytes_behind inside bs
bytes_behind zero (b ∷ bs) =
    option_and_then (λ (e : Element). option_map (λ rest. e.byte ∷ rest) (bytes_behind (e.length - 1) bs)) (element_at (b ∷ bs))

-- what a literal's quotes enclose
abbrev pub enclosed : List ℕ → List ℕ
enclosed text = take (length text - 2) (drop 1 text)

-- the bytes of a string, without the zero behind them
abbrev pub string_bytes : List ℕ → Option (List ℕ)
string_bytes text = bytes_behind 0 (enclosed text)

-- the byte of a character constant, which encloses one element
abbrev pub character_byte : List ℕ → Option ℕ
character_byte text =
    option_and_then (λ (e : Element). if e.length == length (enclosed text) then Some e.byte else None) (element_at (enclosed text))
