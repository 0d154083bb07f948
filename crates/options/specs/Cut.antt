-- Texts cut at a byte, and what the code has of items and loops.
use Rattle.std.specs.Prelude.{◌≡◌, ◌≢◌, ℕ, ◌<◌, Bool, ◌&&◌, ◌==◌, ◌++◌, List, [], ◌∷◌, length, slice_index, ⊤}
use Rattle.std.specs.Str.{bytes_eq}
use Rattle.core_tree.specs.Ranges.{LoopLimit}
use Rattle.options.specs.declared.loops.Item.{Item}
use Rattle.options.specs.declared.loops.Loop.{Loop}
use Rattle.options.specs.Values.{IsItem}

-- the text has no such byte
abbrev pub Lacks : ℕ → List ℕ → Type 0
Lacks byte text = (i : ℕ) → i < length text → slice_index text i ≢ byte

-- the text, cut at its first such byte
pub record IsCut (byte : ℕ) (text front back : List ℕ) : Type 0 where
  pub joined : text ≡ front ++ byte ∷ back
  pub first : Lacks byte front

abbrev pub limit : List ℕ → ℕ → ℕ → LoopLimit
limit function number unwind = record { function = function; number = number; unwind = unwind }

abbrev pub item_of : Item → LoopLimit
item_of i = limit i.function.now i.number i.unwind

-- each text is the item at its place
abbrev pub AreEach : List (List ℕ) → List LoopLimit → Type 0
AreEach [] [] = ⊤
AreEach [] (l ∷ ls) = ⊥
AreEach (text ∷ texts) [] = ⊥
AreEach (text ∷ texts) (l ∷ ls) = IsItem text l × AreEach texts ls

-- ---- a loop, by its function and its number

pub record Key : Type 0 where
  pub function : List ℕ
  pub number : ℕ

abbrev pub key_of : Loop → Key
key_of l = record { function = l.function.now; number = l.number }

abbrev pub key : LoopLimit → Key
key l = record { function = l.function; number = l.number }

abbrev pub is_same_key : Key → Key → Bool
is_same_key a b = bytes_eq a.function b.function && a.number == b.number
