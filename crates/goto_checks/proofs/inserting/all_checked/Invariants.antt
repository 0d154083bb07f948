use Rattle.std.proofs.Common.{◌≡◌, take, map}
use Rattle.goto_prog.specs.Nodes.{view_procedures}
use Rattle.goto_checks.specs.Inserted.{with_inserted}
use Rattle.goto_checks.proofs.inserting.all_checked.Given as goal

abbrev pub invariant-loop-procedure : goal.invariant-loop-procedure
invariant-loop-procedure l = view_procedures l.made.items ≡ map with_inserted (view_procedures (take l.procedure-index l.procedures))
