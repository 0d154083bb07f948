-- The last of the code's loops is the innermost.
use Rattle.std.proofs.Common.{◌≡◌, List, [], ◌∷◌, ◌++◌, refl, ap}
use Rattle.goto_prog.specs.declared.cursor.LoopLevel as code
use Rattle.goto_prog.specs.Walking.{LoopLevel}
use Rattle.goto_prog.specs.CursorViews.{level_of, levels_of}

pub levels_push : (ls : List code.LoopLevel) (l : code.LoopLevel) → levels_of (ls ++ l ∷ []) ≡ level_of l ∷ levels_of ls
levels_push [] l = refl
levels_push (k ∷ ls) l = ap (λ (xs : List LoopLevel). xs ++ level_of k ∷ []) (levels_push ls l)
