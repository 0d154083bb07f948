-- Where a way out of statements leads from the item that comes first.
use Rattle.std.specs.Prelude.{◌≡◌, ℕ, Bool, true, false, List, ◌∷◌, Option, Some, None}
use Rattle.c_values.specs.Numbers.{TypedNumber}
use Rattle.c_values.specs.Variables.{Variables}
use Rattle.c_tasks.specs.declared.task.Cut.{Cut}
use Rattle.c_tasks.specs.declared.task.Caller.{Caller}
use Rattle.c_tasks.specs.Items.{Active, Item}
use Rattle.c_tasks.specs.Steps.{out_of}
use Rattle.c_tasks.specs.Tasks.{IsOut, way_of}

-- it leads on past the item
abbrev pub IsPassed : Cut → Item → List Item → Type 0
IsPassed c i is = (r : Active) (xs : List TypedNumber) (bs : List (List ℕ)) (vs : Variables) → out_of (way_of c) (i ∷ is) r xs bs vs ≡ out_of (way_of c) is r xs bs vs

-- it leads there in the function that runs, or past the item
abbrev pub IsFound : Cut → Item → (old new : List Item) → Bool → Type 0
IsFound c i old new true = IsOut c (i ∷ old) new None
IsFound c i old new false = IsPassed c i old

abbrev pub LeadsTo : Cut → Item → (old new : List Item) → Option (Option Caller) → Type 0
LeadsTo c i old new None = IsPassed c i old
LeadsTo c i old new (Some caller) = IsOut c (i ∷ old) new caller
