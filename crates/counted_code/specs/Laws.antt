-- How many objects the code of each typed file makes.
use Rattle.std.specs.Prelude.{◌≡◌, true}
use Rattle.core_tree.specs.Ranges.{Limits, is_unwinding, are_loop_limits}
use Rattle.core_tree.specs.Trees.{TypedFile}
use Rattle.goto_prog.specs.Allocations.{allocations}
use Rattle.goto_prog.specs.GotoThreads.{GotoFile}
use Rattle.goto_unwind.specs.Places.{objects}
use Rattle.lowered_code.specs.Lowered.{lowered, view_goto}

-- under the bounds of a command its Allocs, with loops and calls copied as often as bounds let them be done, are exactly the objects that the file counts
abbrev pub CountsObjects : Type 0
CountsObjects =
    (file : TypedFile) (limits : Limits) → is_unwinding limits.unwind ≡ true → are_loop_limits limits.set ≡ true
    → (g : GotoFile) → view_goto g ≡ lowered file → allocations g limits ≡ objects file.functions limits
