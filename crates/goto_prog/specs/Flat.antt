-- A program as flat code, without loops and calls.
use Rattle.std.specs.Prelude.{ℕ, List, [], false, slice_index_or}
use Rattle.actions.specs.Objects.{Objects}
use Rattle.actions.specs.Behaviour.{Thread}
use Rattle.goto_prog.specs.CodeThread.{Listing}
use Rattle.goto_prog.specs.Running.{begun, thread_of}

-- the code of the functions by their numbers, the one that thread 0 runs, and the store at the start
pub record Flat : Type 0 where
  pub functions : List Listing
  pub main : ℕ
  pub store : Objects

abbrev pub no_code : Listing
no_code = record { registers = []; blocks = []; instructions = []; startable = false }

abbrev pub main_code : Flat → Listing
main_code g = slice_index_or g.functions g.main no_code

-- thread 0 of a program, as plain code
abbrev pub plain_thread : Flat → Thread
plain_thread g = thread_of (begun g.functions (main_code g) false)
