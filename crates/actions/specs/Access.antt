-- The first class that an access breaks, in the order null, invalid-pointer, lifetime, bounds, readonly, mixed-size.
use Rattle.std.specs.Prelude.{ℕ, ◌+◌, Bool, false, ◌&&◌, not, nat_lt, ◌==◌, List, [], ◌∷◌, Option, Some, None, Result, Ok, Err, if◌then◌else◌}
use Rattle.std.specs.List.{list_any}
use Rattle.words.specs.declared.check.Class.{Class}
use Rattle.words.specs.declared.check.Class.TheVariants.{Null, InvalidPointer, Lifetime, Bounds, Readonly, MixedSize}
use Rattle.actions.specs.declared.cells.Cell.{Cell}
use Rattle.actions.specs.Pointer.{object_of, offset_of}
use Rattle.actions.specs.States.{ObjectState, absent, dead, live}

-- n bytes from the offset `at` on are one of these cells
abbrev pub is_one_cell : List Cell → ℕ → ℕ → Bool
is_one_cell cells at n = list_any (λ (c : Cell). (c.offset == at) && (c.size == n)) cells

-- an object with cells is shared: each access to it is exactly one cell
abbrev pub is_mixed : List Cell → ℕ → ℕ → Bool
is_mixed [] at n = false
is_mixed (c ∷ cells) at n = not (is_one_cell (c ∷ cells) at n)

abbrev pub break_at : Bool → ℕ → ℕ → ObjectState → Option Class
break_at writes at n absent = Some InvalidPointer
break_at writes at n dead = Some Lifetime
break_at writes at n (live size cells readonly heap) =
    if nat_lt size (at + n) then Some Bounds
    else (if writes && readonly then Some Readonly
    else (if is_mixed cells at n then Some MixedSize else None))

-- an access of n bytes at the pointer p, whose object is in this state
abbrev pub access_break : Bool → ℕ → ℕ → ObjectState → Option Class
access_break writes p n state = if object_of p == 0 then Some Null else break_at writes (offset_of p) n state

-- a look at the size of the object of p
abbrev pub size_in : ObjectState → Result ℕ Class
size_in absent = Err InvalidPointer
size_in dead = Err Lifetime
size_in (live size cells readonly heap) = Ok size

abbrev pub look : ℕ → ObjectState → Result ℕ Class
look p state = if object_of p == 0 then Err Null else size_in state

-- p may be freed: it is the start of a live object from `malloc` or `calloc` (C11 7.22.3.3p2)
abbrev pub is_heap_object : ObjectState → Bool
is_heap_object absent = false
is_heap_object dead = false
is_heap_object (live size cells readonly heap) = heap

abbrev pub can_free : ℕ → ObjectState → Bool
can_free p state = (offset_of p == 0) && is_heap_object state
