-- What is said of a file that isn't admitted.
use Rattle.std.specs.Prelude.{◌≡◌, Some}
use Rattle.core_tree.specs.Trees.{CoreFile, view_core}
use Rattle.c_profile.specs.declared.admitted.Refusal.{Refusal}
use Rattle.c_profile.specs.declared.admitted.Refusal.TheVariants.{Outside, Memory}
use Rattle.c_profile.specs.Rules.{breach, first_breach}

-- it is handed back, and the rule is the first that it breaks
abbrev pub IsRefused : CoreFile → Refusal → Type 0
IsRefused file (Outside core line rule) = (core ≡ file) × (first_breach (view_core file) ≡ Some (breach line rule))
IsRefused file (Memory core) = core ≡ file
