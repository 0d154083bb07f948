use Rattle.std.proofs.Common.{◌≡◌, drop}
use Rattle.std.specs.List.{list_all}
use Rattle.core_tree.specs.Typed.{is_home, homes_of}
use Rattle.core_check.specs.Around.{sizes_around}
use Rattle.core_check.proofs.files.have_homes.Given as goal

abbrev pub invariant-loop-place : goal.invariant-loop-place
invariant-loop-place l = l.all ≡ list_all (is_home (sizes_around l.around)) (homes_of (drop l.place l.around.variables.now))
