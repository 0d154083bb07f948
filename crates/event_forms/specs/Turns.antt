-- What the run of one thread is as a run of the file: its inputs, its turns and the check that it breaks.
use Rattle.std.specs.Prelude.{ℕ, Bool, true, false, List, [], ◌∷◌}
use Rattle.words.specs.declared.check.Class.TheVariants.{Assertion}
use Rattle.words.specs.declared.check.Check.{Check}
use Rattle.actions.specs.declared.action.Next.{Next}
use Rattle.actions.specs.declared.action.Next.TheVariants.{Act, Ended, Blocked, Broken}
use Rattle.interleave.specs.Inputs.{InputLists}
use Rattle.interleave.specs.Turn.{check_of}
use Rattle.event_forms.specs.Runs.{Run, stops, asks}
use Rattle.event_forms.specs.Happenings.{Happening, does, fails, words_given}

abbrev pub is_break : Next → Bool
is_break (Act action line function) = false
is_break (Ended v) = false
is_break Blocked = false
is_break (Broken class line function) = true

-- it ends in a broken check
abbrev pub breaks : Run → Bool
breaks (stops end) = is_break end
breaks (asks action line function answer rest) = breaks rest

-- the words that it draws, in order
abbrev pub drawn_words : Run → List ℕ
drawn_words (stops end) = []
drawn_words (asks action line function answer rest) = words_given answer (drawn_words rest)

-- the inputs with these words for thread 0, and none for others
abbrev pub inputs_for : List ℕ → InputLists
inputs_for [] = []
inputs_for (w ∷ words) = (0, w ∷ words) ∷ []

-- one turn of thread 0 for each action, and one for the end
abbrev pub turns : Run → List ℕ
turns (stops end) = 0 ∷ []
turns (asks action line function answer rest) = 0 ∷ turns rest

-- the check that an end breaks, in thread 0; another end breaks none, and stands for any
abbrev pub end_check : Next → Check
end_check (Act action line function) = check_of Assertion 0 0 0
end_check (Ended v) = check_of Assertion 0 0 0
end_check Blocked = check_of Assertion 0 0 0
end_check (Broken class line function) = check_of class line function 0

abbrev pub broken_check : Run → Check
broken_check (stops end) = end_check end
broken_check (asks action line function answer rest) = broken_check rest

-- ---- what happens in it, in turns of thread 0

abbrev pub end_happens : Next → List Happening
end_happens (Act action line function) = []
end_happens (Ended v) = []
end_happens Blocked = []
end_happens (Broken class line function) = fails (check_of class line function 0) ∷ []

abbrev pub happenings : Run → List Happening
happenings (stops end) = end_happens end
happenings (asks action line function answer rest) = does 0 action line function answer ∷ happenings rest
