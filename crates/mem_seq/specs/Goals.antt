-- Whether what is told breaks a check, where each read gives what the store holds.
use Rattle.std.specs.Prelude.{Bool, true, ◌&&◌, List, [], ◌∷◌, Option, Some, None}
use Rattle.words.specs.declared.check.Class.{Class}
use Rattle.actions.specs.Objects.{Objects}
use Rattle.event_forms.specs.Arrivals.{Seen, asked, stopped}
use Rattle.event_forms.specs.Accesses.{access_class, is_given, stored_by}
use Rattle.event_forms.specs.Turns.{is_break}

abbrev pub breaks_or : Option Class → Bool → Bool
breaks_or None later = later
breaks_or (Some class) later = true

-- from this store on, before what is told later, which breaks a check or doesn't
abbrev pub breaks_from : Objects → List Seen → Bool → Bool
breaks_from objects [] later = later
breaks_from objects (asked action line function a ∷ told) later =
    breaks_or (access_class objects action a) (is_given objects action a && breaks_from (stored_by objects action a) told later)
breaks_from objects (stopped end ∷ told) later = is_break end

-- each read that is told gives what the store holds there; what is told behind an end counts as well
abbrev pub gives : Objects → List Seen → Bool
gives objects [] = true
gives objects (asked action line function a ∷ told) = is_given objects action a && gives (stored_by objects action a) told
gives objects (stopped end ∷ told) = gives objects told
