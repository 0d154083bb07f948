-- The loops around a place, which the code has in the other order.
use Rattle.std.specs.Prelude.{List, [], ◌∷◌, ◌++◌}
use Rattle.goto_prog.specs.declared.cursor.LoopLevel as code
use Rattle.goto_prog.specs.Walking.{LoopLevel}

abbrev pub level_of : code.LoopLevel → LoopLevel
level_of l = record { line = l.line; function = l.function; left = l.left; body = l.body.now; behind = l.behind.now }

abbrev pub levels_of : List code.LoopLevel → List LoopLevel
levels_of [] = []
levels_of (l ∷ levels) = levels_of levels ++ level_of l ∷ []
