-- A whole program as flat code without loops, calls and returns, under the bounds of a command.
use Rattle.std.specs.List.{list_all}
use Rattle.std.specs.Prelude.{ℕ, ◌-◌, Bool, false, not, List, [], ◌∷◌, Option, Some, None, slice_get}
use Rattle.core_tree.specs.Ranges.{Limits}
use Rattle.goto_prog.specs.declared.code.Operation.TheVariants as operations
use Rattle.goto_prog.specs.CodeThread.{Listing}
use Rattle.goto_prog.specs.Flat.{Flat, no_code}
use Rattle.goto_prog.specs.GotoThreads.{GotoFile, bounded_file}
use Rattle.goto_prog.specs.Nodes.{Routine}
use Rattle.goto_prog.specs.Structured.{Bounded, opened, first_left, first_fuel}
use Rattle.goto_unwind.specs.Unrolled.{Site, Piece, at, first_space, with_frame, inline_at, body_code}

-- the first activation of the function that thread 0 calls: nobody takes what it hands over, and at its end it goes on at the last place
abbrev pub first_site : Routine → Site
first_site p = record { routine = p; register = 1; block = 0; hands = None; back = 1 }

-- its code, and behind that the end of the process, at the line of the function's name
abbrev pub first_piece : Bounded → (number : ℕ) → Routine → Piece
first_piece b number p =
    body_code b (inline_at b (first_fuel b - 1) (opened (first_left b) number)) (first_site p) (at p.line number operations.Exit ∷ []) (with_frame first_space p)

abbrev pub listing_of : Piece → Listing
listing_of c = record { registers = c.space.registers; blocks = c.space.blocks; instructions = c.code; startable = false }

abbrev pub first_listing : Bounded → (number : ℕ) → Option Routine → Listing
first_listing b number None = no_code
first_listing b number (Some p) = listing_of (first_piece b number p)

-- the code of thread 0 alone, as nothing starts another thread yet
abbrev pub unrolled : GotoFile → Limits → Flat
unrolled g limits = let b = bounded_file false g limits in record { functions = first_listing b g.main (slice_get b.functions g.main) ∷ []; main = 0; store = g.store }

-- no thread is started in a function
abbrev pub starts_none : List Routine → Bool
starts_none functions = list_all (λ (p : Routine). not p.startable) functions
