use Rattle.std.specs.Prelude.{ℕ, List, Option, Some, ◌≡◌, ◌≤◌, ◌<◌, length, take, drop, IfSome}

-- The first n bytes of a buffer are those that a file holds from `at` on, where it is told what it holds. None is read
-- into a buffer with room only at or past the file's end.
abbrev pub IsPiece : Option (List ℕ) → ℕ → ℕ → List ℕ → Type 0
IsPiece held at n into = IfSome held (λ bytes.
    (take n into ≡ take n (drop at bytes)) × (n ≤ length (drop at bytes)) × (n ≡ 0 → 0 < length into → length bytes ≤ at))

-- What reads of a file will give is what it holds from its position on, where it tells both.
abbrev pub GivesOn : Option ℕ → Option (List ℕ) → Option (List ℕ) → Type 0
GivesOn position held rest = IfSome position (λ at. IfSome held (λ bytes. rest ≡ Some (drop at bytes)))
