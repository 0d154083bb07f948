-- A run: turns by the schedule, one for each thread number, up to the first break (CAV 2013, the sequentially consistent case: one order of all actions).
use Rattle.std.specs.Prelude.{ℕ, List, [], ◌∷◌}
use Rattle.interleave.specs.declared.turn.Turn.{Turn}
use Rattle.interleave.specs.declared.turn.Turn.TheVariants as turned
use Rattle.interleave.specs.declared.turn.Outcome.{Outcome}
use Rattle.interleave.specs.declared.turn.Outcome.TheVariants as ending
use Rattle.interleave.specs.Inputs.{InputLists}
use Rattle.interleave.specs.World.{World}
use Rattle.interleave.specs.Turn.{turn}

-- goes on after a turn that broke nothing
abbrev pub unless_broken : Turn → World → (World → Outcome × World) → Outcome × World
unless_broken turned.Moved w rest = rest w
unless_broken turned.Nothing w rest = rest w
unless_broken (turned.Broken check) w rest = (ending.Broken check, w)

abbrev pub run : World → InputLists → List ℕ → Outcome × World
run w inputs [] = (ending.Fine, w)
run w inputs (t ∷ schedule) = let r = turn w t inputs in unless_broken r.0 r.1 (λ next. run next inputs schedule)

-- the answers to all turns of a schedule
abbrev pub answers : World → InputLists → List ℕ → List Turn
answers w inputs [] = []
answers w inputs (t ∷ schedule) = let r = turn w t inputs in r.0 ∷ answers r.1 inputs schedule
